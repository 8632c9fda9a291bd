-- Feeding keeps a set well formed, what it then holds is the list that the rule leaves, and it is counted once. Assumes nothing.
use mathlib.Core.Path.{◌≡◌, refl, sym, ap, ◌∙◌}
use mathlib.Core.Bool.{Bool, true, false, not}
use mathlib.Core.List.{List, [], ◌∷◌, ◌++◌, map}
use Prim.Native.Nat.{ℕ, suc, zero, ◌+◌, ◌-◌, ◌≤◌, ◌<◌}
use native.Mathlib.Omega.{arith}
use borrow.Author.Tests.{ne_eqb}
use lib.Dec.{eqb}
use lib.Ieee.{Float, is_nan, binary32, of_bits, to_bits}
use lib.ListN.{length, take, drop, replicate, length-append, length-drop, length-take, length-map, length-replicate}
use lib.Seq.{take_at, drop_at, drop-drop}
use Rattle.paper.specs.Choice.{◌and◌, pick}
use Rattle.paper.proofs.Choice.{and_l, and_r}
use Rattle.result.specs.Lists.{all_of, is_held, is_blank, is_zero}
use Rattle.result.specs.Ranked.{Entry, entry, larger, placed, stays, fed}
use Rattle.result.specs.Places.{entries, full_above}
use Rattle.result.specs.Sets.{well_formed, entries_of, over, counted, fed_set, feed_refusal, feed_of, answer, empty_set}
use Rattle.result.specs.declared.ResultSet.{ResultSet}
pub use Rattle.result.specs.Ranked.{held_e}
pub use Rattle.result.specs.Sets.{Sound}
use Rattle.result.proofs.Puts.{len_is, sims_are, key_of, sim_of}
use Rattle.result.proofs.Answers.{form, form_rest, fed_stays}

-- ---- what a set holds after a feed

entries_laid : (es : List Entry) (is : List ℕ) (ss : List Float) → entries (length es) (map key_of es ++ is) (map sim_of es ++ ss) ≡ es
entries_laid [] is ss = refl
entries_laid (e ∷ es) is ss = ap (λ (r : List Entry). e ∷ r) (entries_laid es is ss)

pub entries_fed : (s : ResultSet) (e : Entry) → entries_of (fed_set s e) ≡ fed larger s.k e (entries_of s)
unfolding entries_of fed_set
entries_fed s e = entries_laid (fed larger s.k e (entries_of s)) _ _

pub entries_none : (k : ℕ) → entries_of (empty_set k) ≡ []
unfolding entries_of empty_set
entries_none k = refl

-- ---- its numbers

pub fed_k : (s : ResultSet) (e : Entry) → (fed_set s e).k ≡ s.k
unfolding fed_set
fed_k s e = refl

pub fed_checked : (s : ResultSet) (e : Entry) → (fed_set s e).checked ≡ s.checked + 1
unfolding fed_set
fed_checked s e = refl

pub fed_len : (s : ResultSet) (e : Entry) → (fed_set s e).len ≡ length (fed larger s.k e (entries_of s))
unfolding fed_set
fed_len s e = refl

pub empty_k : (k : ℕ) → (empty_set k).k ≡ k
unfolding empty_set
empty_k k = refl

pub empty_len : (k : ℕ) → (empty_set k).len ≡ 0
unfolding empty_set
empty_len k = refl

pub empty_checked : (k : ℕ) → (empty_set k).checked ≡ 0
unfolding empty_set
empty_checked k = refl

-- ---- lengths, over any comparison

module _ (before : Float → Float → Bool) where
  long_pick : (b : Bool) (xs ys : List Entry) (m n : ℕ) → (m ≤ length xs) × (length xs ≤ n) → (m ≤ length ys) × (length ys ≤ n)
      → (m ≤ length (pick b xs ys)) × (length (pick b xs ys) ≤ n)
  long_pick true xs ys m n h k = h
  long_pick false xs ys m n h k = k

  pub placed_long : (e : Entry) (es : List Entry) → (length es ≤ length (placed before e es)) × (length (placed before e es) ≤ suc (length es))
  placed_long e [] = omega arith
  placed_long e (x ∷ xs) =
      let r = placed_long e xs in
      long_pick (eqb x.key e.key) (x ∷ xs) (pick (before e.sim x.sim) (e ∷ x ∷ xs) (x ∷ placed before e xs)) (suc (length xs)) (suc (suc (length xs))) (omega arith)
      (long_pick (before e.sim x.sim) (e ∷ x ∷ xs) (x ∷ placed before e xs) (suc (length xs)) (suc (suc (length xs))) (omega arith) (omega arith))

  -- a fed list is no shorter than before, and no longer than k
  pub fed_long : (k : ℕ) (e : Entry) (es : List Entry) → length es ≤ k → (length es ≤ length (fed before k e es)) × (length (fed before k e es) ≤ k)
  unfolding fed
  fed_long k e es h =
      let r = placed_long e es in
      let t = length-take k (placed before e es) in
      long_pick (stays before k e es) es (take k (placed before e es)) (length es) k (omega arith) (omega arith)

length_some : (n : ℕ) (is : List ℕ) (ss : List Float) → length (entries n is ss) ≤ n
length_some zero is ss = omega arith
length_some (suc n) [] ss = omega arith
length_some (suc n) (i ∷ is) [] = omega arith
length_some (suc n) (i ∷ is) (s ∷ ss) = omega (arith, length_some n is ss)

-- whatever the arrays hold, the length stays within k
pub fed_within : (s : ResultSet) (e : Entry) → s.len ≤ s.k → (fed_set s e).len ≤ s.k
unfolding entries_of
fed_within s e h =
    let n = length_some s.len s.ids s.sims in
    let l = fed_long larger s.k e (entries_of s) (omega arith) in
    omega (arith, fed_len s e)

-- ---- a test that each element passes

module _ {A : Type 0} (p : A → Bool) where
  all_cons : (x : A) (xs : List A) → p x ≡ true → all_of p xs ≡ true → all_of p (x ∷ xs) ≡ true
  all_cons x xs a b = rw (a, b)

  all_pick : (b : Bool) (xs ys : List A) → all_of p xs ≡ true → all_of p ys ≡ true → all_of p (pick b xs ys) ≡ true
  all_pick true xs ys h k = h
  all_pick false xs ys h k = k

  all_take : (n : ℕ) (xs : List A) → all_of p xs ≡ true → all_of p (take n xs) ≡ true
  all_take zero xs h = refl
  all_take (suc n) [] h = refl
  all_take (suc n) (x ∷ xs) h = all_cons x (take n xs) (and_l (p x) _ h) (all_take n xs (and_r (p x) _ h))

  all_drop : (n : ℕ) (xs : List A) → all_of p xs ≡ true → all_of p (drop n xs) ≡ true
  all_drop zero xs h = h
  all_drop (suc n) [] h = refl
  all_drop (suc n) (x ∷ xs) h = all_drop n xs (and_r (p x) _ h)

  all_later : (m n : ℕ) (xs : List A) → m ≤ n → all_of p (drop m xs) ≡ true → all_of p (drop n xs) ≡ true
  all_later m n xs l h =
      let e : m + (n - m) ≡ n = omega arith in
      ap (λ (k : ℕ). all_of p (drop k xs)) (sym e) ∙ ap (all_of p) (sym (drop-drop (n - m) m xs)) ∙ all_drop (n - m) (drop m xs) h

  all_replicate : (n : ℕ) (x : A) → p x ≡ true → all_of p (replicate n x) ≡ true
  all_replicate zero x h = refl
  all_replicate (suc n) x h = all_cons x (replicate n x) h (all_replicate n x h)

-- ---- no NaN comes in, over any comparison

pub all_sims : (es : List Entry) → all_of is_held (map sim_of es) ≡ all_of held_e es
all_sims [] = refl
all_sims (e ∷ es) = ap (λ (b : Bool). is_held e.sim and b) (all_sims es)

module _ (before : Float → Float → Bool) (e : Entry) (he : held_e e ≡ true) where
  pub placed_all : (es : List Entry) → all_of held_e es ≡ true → all_of held_e (placed before e es) ≡ true
  placed_all [] h = all_cons held_e e [] he refl
  placed_all (x ∷ xs) h =
      all_pick held_e (eqb x.key e.key) (x ∷ xs) (pick (before e.sim x.sim) (e ∷ x ∷ xs) (x ∷ placed before e xs)) h
      (all_pick held_e (before e.sim x.sim) (e ∷ x ∷ xs) (x ∷ placed before e xs) (all_cons held_e e (x ∷ xs) he h)
      (all_cons held_e x (placed before e xs) (and_l (held_e x) _ h) (placed_all xs (and_r (held_e x) _ h))))

  pub fed_all_lem : (k : ℕ) (es : List Entry) → all_of held_e es ≡ true → all_of held_e (fed before k e es) ≡ true
  unfolding fed
  fed_all_lem k es h = all_pick held_e (stays before k e es) es (take k (placed before e es)) h (all_take held_e k (placed before e es) (placed_all es h))

-- ---- a set that is fed stays well formed

pub keeps : (s : ResultSet) (e : Entry) → s.len ≤ length s.ids → s.len ≤ length s.sims → is_nan e.sim ≡ false → well_formed s ≡ true → well_formed (fed_set s e) ≡ true
unfolding fed_set
keeps s e hi hs hn w =
    let es = entries_of s in
    let new = fed larger s.k e es in
    let f = form s w in
    let n : length es ≡ s.len = len_is s hi hs in
    let l = fed_long larger s.k e es (omega arith) in
    let held : all_of held_e es ≡ true = sym (all_sims es) ∙ ap (all_of is_held) (sims_are s hi hs) ∙ f.held in
    let kept : all_of is_held (map sim_of new) ≡ true = all_sims new ∙ fed_all_lem larger e (ap not hn) s.k es held in
    let ls : length (map sim_of new) ≡ length new = length-map new sim_of in
    let lk : length (map key_of new) ≡ length new = length-map new key_of in
    let a : true ≡ all_of is_held (take (length new) (over (map sim_of new) s.sims)) =
    sym (ap (all_of is_held) (take_at (map sim_of new) (drop (length (map sim_of new)) s.sims) (length new) ls) ∙ kept) in
    let d : true ≡ all_of is_blank (drop (length new) (over (map sim_of new) s.sims)) =
    sym (ap (all_of is_blank) (drop_at (map sim_of new) (drop (length (map sim_of new)) s.sims) (length new) ls)
    ∙ all_later is_blank s.len (length (map sim_of new)) s.sims (omega arith) f.blank_sims) in
    let i : true ≡ all_of is_zero (drop (length new) (over (map key_of new) s.ids)) =
    sym (ap (all_of is_zero) (drop_at (map key_of new) (drop (length (map key_of new)) s.ids) (length new) lk)
    ∙ all_later is_zero s.len (length (map key_of new)) s.ids (omega arith) f.blank_ids) in
    sym (form_rest (fed_set s e) true true true f.small l.1 a d i)

-- ---- a set as the calls hand it out

blank_zero : is_blank (of_bits binary32 0) ≡ true
unfolding of_bits to_bits is_nan
blank_zero = refl

pub sound_empty : (k : ℕ) → k ≤ 256 → Sound (empty_set k)
unfolding empty_set
sound_empty k h = record {
  formed = sym (form_rest (empty_set k) true true true h (omega arith) refl (sym (all_replicate is_blank 256 (of_bits binary32 0) blank_zero)) (sym (all_replicate is_zero 256 0 refl)));
  ids_long = length-replicate {A = ℕ} 256 0;
  sims_long = length-replicate 256 (of_bits binary32 0);
}

over_long : {A : Type 0} (xs old : List A) (n : ℕ) → length xs ≤ n → length old ≡ n → length (over xs old) ≡ n
over_long xs old n h l = length-append xs (drop (length xs) old) ∙ omega (arith, length-drop (length xs) old)

pub sound_fed : (s : ResultSet) (e : Entry) → Sound s → is_nan e.sim ≡ false → Sound (fed_set s e)
unfolding fed_set
sound_fed s e h n =
    let f = form s h.formed in
    let b = h.ids_long in
    let d = h.sims_long in
    let new = fed larger s.k e (entries_of s) in
    let m = len_is s (omega arith) (omega arith) in
    let l = fed_long larger s.k e (entries_of s) (omega arith) in
    let lk = length-map new key_of in
    let ls = length-map new sim_of in
    record {
      formed = keeps s e (omega arith) (omega arith) n h.formed;
      ids_long = over_long (map key_of new) s.ids 256 (omega arith) b;
      sims_long = over_long (map sim_of new) s.sims 256 (omega arith) d;
    }

-- an entry that a full set is closed to is counted, and no more
pub closed_counted : (s : ResultSet) (e : Entry) → Sound s → full_above s.len s.k s.sims e.sim ≡ true → counted s ≡ fed_set s e
closed_counted s e h b =
    let f = form s h.formed in
    let i = h.ids_long in
    let j = h.sims_long in
    fed_stays s e (omega arith) (omega arith) f.short b

-- the public feed of such a set is the inner one, unless the score is NaN or the count is full
pub feed_accepts : (s : ResultSet) (id : ℕ) (score : Float) → well_formed s ≡ true → is_nan score ≡ false → s.checked < 4294967295
    → feed_of s id score ≡ answer 0 (fed_set s (entry id score))
unfolding feed_of feed_refusal
feed_accepts s id score w n c = rw (w, n, ne_eqb s.checked 4294967295 (λ p. omega arith))
