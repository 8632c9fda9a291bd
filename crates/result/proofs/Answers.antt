-- What the calls on a result set answer, as laws on values: each need of a proof cites one. Assumes nothing.
use mathlib.Core.Path.{◌≡◌, refl, sym, ap, ◌∙◌, subst}
use mathlib.Core.Bool.{Bool, true, false}
use mathlib.Core.List.{List, [], ◌∷◌}
use Prim.Native.Nat.{ℕ, suc, zero, ◌+◌, ◌-◌, ◌≤◌}
use native.Mathlib.Omega.{arith}
use borrow.Author.Tests.{le-leb, leb-true}
use lib.Dec.{leb}
use lib.Ieee.{Float, nan}
use lib.ListN.{length, take, drop, get_or}
use lib.Seq.{take_all}
use Rattle.paper.specs.Choice.{◌and◌}
use Rattle.paper.proofs.Choice.{and_l, and_r}
use Rattle.result.specs.Lists.{insert_at, all_of, is_held, is_blank, is_zero}
use Rattle.result.specs.Ranked.{Entry, entry, larger, placed, last_before, stays, fed}
use Rattle.result.specs.Places.{entries, put, Found, Within, full_above}
use Rattle.result.specs.Puts.{put_in, set_of}
use Rattle.result.specs.Sets.{well_formed, entries_of, holding, counted, fed_set}
use Rattle.result.specs.declared.ResultSet.{ResultSet}
use Rattle.std.proofs.Common.{Option, Some, None}
use Rattle.result.proofs.Walk.{length_entries, get_d_entries}
use Rattle.result.proofs.Puts.{len_is, hold_same}

-- ---- whether a full list stays: the test on the arrays is the test on the list

and_false : (b : Bool) → b and false ≡ false
and_false true = refl
and_false false = refl

last_at : (before : Float → Float → Bool) (e d x : Entry) (xs : List Entry) → last_before before e (x ∷ xs) ≡ before (get_or (x ∷ xs) (length xs) d).sim e.sim
last_at before e d x [] = refl
last_at before e d x (y ∷ ys) = last_at before e d y ys

last_is : (before : Float → Float → Bool) (e : Entry) (n : ℕ) (is : List ℕ) (ss : List Float) → suc n ≤ length is → suc n ≤ length ss
    → last_before before e (entries (suc n) is ss) ≡ before (get_or ss n nan) e.sim
last_is before e n [] ss h k = absurd (omega arith)
last_is before e n (i ∷ is) [] h k = absurd (omega arith)
last_is before e n (i ∷ is) (s ∷ ss) h k =
    let l = length_entries n is ss (omega arith) (omega arith) in
    last_at before e (entry 0 nan) (entry i s) (entries n is ss)
    ∙ ap (λ (j : ℕ). before (get_or (entry i s ∷ entries n is ss) j (entry 0 nan)).sim e.sim) l
    ∙ ap (λ (x : Entry). before x.sim e.sim) (get_d_entries (suc n) (i ∷ is) (s ∷ ss) n (entry 0 nan) h k (omega arith))

pub stays_is : (k : ℕ) (e : Entry) (n : ℕ) (is : List ℕ) (ss : List Float) → n ≤ length is → n ≤ length ss
    → full_above n k ss e.sim ≡ stays larger k e (entries n is ss)
stays_is k e zero is ss h l = refl
stays_is k e (suc n) is ss h l =
    let m = length_entries (suc n) is ss h l in
    let q : suc n - 1 ≡ n = omega arith in
    rw (m, q, last_is larger e n is ss h l, le-leb 1 (suc n) (omega arith))

-- the same of a set
pub set_stays : (s : ResultSet) (e : Entry) → s.len ≤ length s.ids → s.len ≤ length s.sims → full_above s.len s.k s.sims e.sim ≡ stays larger s.k e (entries_of s)
unfolding entries_of
set_stays s e hi hs = stays_is s.k e s.len s.ids s.sims hi hs

-- ---- an accepted entry

module _ (s : ResultSet) (e : Entry) (hi : s.len ≤ length s.ids) (hs : s.len ≤ length s.sims) (hk : s.len ≤ s.k) where
  pub fed_stays : full_above s.len s.k s.sims e.sim ≡ true → counted s ≡ fed_set s e
  unfolding fed_set fed entries_of
  fed_stays b = rw (sym (set_stays s e hi hs) ∙ b) (sym (hold_same (counted s) hi hs))

  pub fed_held : full_above s.len s.k s.sims e.sim ≡ false → entries_of s ≡ placed larger e (entries_of s) → counted s ≡ fed_set s e
  unfolding fed_set fed entries_of
  fed_held b p =
      let n = len_is s hi hs in
      let t : take s.k (placed larger e (entries_of s)) ≡ entries_of s =
      ap (λ (r : List Entry). take s.k r) (sym p) ∙ take_all s.k (entries_of s) (omega arith) in
      rw (sym (set_stays s e hi hs) ∙ b) (sym (ap (λ (r : List Entry). holding (counted s) r) t ∙ hold_same (counted s) hi hs))

  pub fed_put : (i : ℕ) (r : ResultSet) → full_above s.len s.k s.sims e.sim ≡ false → insert_at i e (entries_of s) ≡ placed larger e (entries_of s)
      → r ≡ put_in (counted s) (insert_at i e (entries_of s)) → r ≡ fed_set s e
  unfolding fed_set fed
  fed_put i r b p q = rw (sym (set_stays s e hi hs) ∙ b) (q ∙ ap (λ (l : List Entry). put_in (counted s) l) p)

-- the same arrays with another count: one more is counted, whatever the count was
pub recount : (s : ResultSet) (e : Entry) (is : List ℕ) (ss : List Float) (n : ℕ)
    → set_of is ss n s.k 1 ≡ fed_set (set_of s.ids s.sims s.len s.k 0) e → set_of is ss n s.k (s.checked + 1) ≡ fed_set s e
unfolding fed_set entries_of
recount s e is ss n h = ap (λ (r : ResultSet). set_of r.ids r.sims r.len r.k (s.checked + 1)) h

-- ---- a place that was found

module _ {n : ℕ} {ids : List ℕ} {sims : List Float} {e : Entry} {p : Option ℕ} (f : Found n ids sims e p) where
  pub found_held : p ≡ None → entries n ids sims ≡ placed larger e (entries n ids sims)
  found_held q = ap (λ (r : Option ℕ). put r e (entries n ids sims)) (sym q) ∙ f.same

  pub found_within : (i : ℕ) → p ≡ Some i → i ≤ n
  found_within i q = subst (λ (r : Option ℕ). Within n r) q f.within

  pub found_at : (i : ℕ) → p ≡ Some i → insert_at i e (entries n ids sims) ≡ placed larger e (entries n ids sims)
  found_at i q = ap (λ (r : Option ℕ). put r e (entries n ids sims)) (sym q) ∙ f.same

-- ---- a set's form

module _ (s : ResultSet) where
  pub form_rest : (a b c : Bool) → s.k ≤ 256 → s.len ≤ s.k → a ≡ all_of is_held (take s.len s.sims) → b ≡ all_of is_blank (drop s.len s.sims)
      → c ≡ all_of is_zero (drop s.len s.ids) → (a and b and c) ≡ well_formed s
  unfolding well_formed
  form_rest a b c h l p q r = rw (le-leb s.k 256 h, le-leb s.len s.k l) (λ i. p i and q i and r i)

  -- what a well formed set has
  pub record Form : Type 0 where
    pub short : s.len ≤ s.k
    pub small : s.k ≤ 256
    pub held : all_of is_held (take s.len s.sims) ≡ true
    pub blank_sims : all_of is_blank (drop s.len s.sims) ≡ true
    pub blank_ids : all_of is_zero (drop s.len s.ids) ≡ true

  pub form : well_formed s ≡ true → Form
  unfolding well_formed
  form w =
      let w1 = and_r (leb s.k 256) _ w in
      let w2 = and_r (leb s.len s.k) _ w1 in
      let w3 = and_r (all_of is_held (take s.len s.sims)) _ w2 in
      record {
        short = leb-true _ _ (and_l (leb s.len s.k) _ w1);
        small = leb-true _ _ (and_l (leb s.k 256) _ w);
        held = and_l (all_of is_held (take s.len s.sims)) _ w2;
        blank_sims = and_l (all_of is_blank (drop s.len s.sims)) _ w3;
        blank_ids = and_r (all_of is_blank (drop s.len s.sims)) _ w3;
      }
