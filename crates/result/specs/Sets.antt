-- A result set, and what each call makes of one.
use Rattle.std.specs.Prelude.{ℕ, ◌+◌, Bool, true, not, ◌≡◌, List, [], ◌∷◌, ◌++◌, map, eqb, leb, take, drop, length, replicate, Float, Result}
use Rattle.std.specs.Float.Ieee.{is_nan, of_bits}
use Rattle.std.specs.Float.{binary32}
use Rattle.paper.specs.Choice.{◌and◌, pick, refuse}
use Rattle.paper.specs.Refusals.{code_of, value_or}
use Rattle.paper.specs.declared.Refusal.{Refusal}
use Rattle.result.specs.Lists.{all_of, is_zero, is_held, is_blank}
use Rattle.result.specs.Ranked.{Entry, entry, larger, fed}
use Rattle.result.specs.Places.{entries}
use Rattle.result.specs.declared.ResultSet.{ResultSet}

-- well formed: k no more than 256, the length no more than k, no score NaN, and zero bits alone behind the last entry
unfoldable pub well_formed : ResultSet → Bool
well_formed s =
    leb s.k 256 and leb s.len s.k and all_of is_held (take s.len s.sims) and all_of is_blank (drop s.len s.sims)
    and all_of is_zero (drop s.len s.ids)

-- a set as the calls hand it out: well formed, with 256 places in each array
pub record Sound (s : ResultSet) : Type 0 where
  pub formed : well_formed s ≡ true
  pub ids_long : length s.ids ≡ 256
  pub sims_long : length s.sims ≡ 256

-- what the set holds, best first
unfoldable pub entries_of : ResultSet → List Entry
entries_of s = entries s.len s.ids s.sims

-- a set for at most k entries that holds none and was fed none
unfoldable pub empty_set : ℕ → ResultSet
empty_set k = record { ids = replicate 256 0; sims = replicate 256 (of_bits binary32 0); len = 0; k = k; checked = 0 }

-- an answer: a refusal's number, 0 for none, and a set
pub record Fed : Type 0 where
  pub refusal : ℕ
  pub set : ResultSet

abbrev pub answer : ℕ → ResultSet → Fed
answer n s = record { refusal = n; set = s }

-- what a call answers of a set: where it is refused there is the old one
abbrev pub fed_or : ResultSet → Result ResultSet Refusal → Fed
fed_or old r = answer (code_of r) (value_or old r)

-- making a set refuses 4 alone, and then gives an empty list with k 0 and checked 0
unfoldable pub made_of : ℕ → Fed
made_of k = answer (refuse 4 (leb k 256) 0) (empty_set (pick (leb k 256) k 0))

-- the list laid over the front of an array
abbrev pub over : {A : Type 0} → List A → List A → List A
over xs old = xs ++ drop (length xs) old

-- the set with the list in place of what it held; past the list its arrays are as they were, which is zero in a well formed set
abbrev pub holding : ResultSet → List Entry → ResultSet
holding s es = record {
  ids = over (map (λ (e : Entry). e.key) es) s.ids;
  sims = over (map (λ (e : Entry). e.sim) es) s.sims;
  len = length es;
  k = s.k;
  checked = s.checked;
}

-- the set with one entry more counted
abbrev pub counted : ResultSet → ResultSet
counted s = record { ids = s.ids; sims = s.sims; len = s.len; k = s.k; checked = s.checked + 1 }

-- the set after an accepted entry, which is counted whether or not it is placed
unfoldable pub fed_set : ResultSet → Entry → ResultSet
fed_set s e = holding (counted s) (fed larger s.k e (entries_of s))

-- the same for entries in turn
abbrev pub fed_all : ResultSet → List Entry → ResultSet
fed_all s [] = s
fed_all s (e ∷ es) = fed_all (fed_set s e) es

-- feeding refuses 13, then 10, then 12
unfoldable pub feed_refusal : ResultSet → Float → ℕ
feed_refusal s score = refuse 13 (well_formed s) (refuse 10 (not (is_nan score)) (refuse 12 (not (eqb s.checked 4294967295)) 0))

-- what feeding answers: a refused set comes back as it was
unfoldable pub feed_of : ResultSet → ℕ → Float → Fed
feed_of s id score = answer (feed_refusal s score) (pick (eqb (feed_refusal s score) 0) (fed_set s (entry id score)) s)

-- entries fed in turn by the public call, up to the first refusal
abbrev pub feed_all_of : ResultSet → List Entry → Fed
feed_all_of s [] = answer 0 s
feed_all_of s (e ∷ es) =
    pick (eqb (feed_of s e.key e.sim).refusal 0) (feed_all_of (feed_of s e.key e.sim).set es) (feed_of s e.key e.sim)
