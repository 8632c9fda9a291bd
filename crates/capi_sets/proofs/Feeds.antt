-- Feeding the pairs of two arrays in turn, as a loop does it, and the size of what comes of it. Assumes nothing.
use Prim.Native.Nat.{ℕ, zero, suc, ◌+◌, ◌-◌, ◌≤◌, ◌<◌}
use native.Mathlib.Nat.{not-suc-le-zero}
use native.Mathlib.Omega.{arith}
use mathlib.Core.Path.{◌≡◌, refl, sym, ap, ◌∙◌}
use mathlib.Core.Bool.{Bool, true, false}
use mathlib.Core.List.{List, [], ◌∷◌}
use lib.Dec.{eqb, leb}
use lib.Ieee.{Float}
use lib.ListN.{length, drop, get_or}
use borrow.Author.Tests.{eq-eqb, ne_eqb, leb-true}
use Rattle.std.proofs.Common.{Result, Ok, Err, IfOk, subst}
use Rattle.std.specs.Result.{result_and}
use Rattle.paper.specs.Choice.{pick}
use Rattle.paper.specs.Refusals.{number_of, code_of}
use Rattle.paper.specs.declared.Refusal.{Refusal}
use Rattle.paper.proofs.Answering.{number_low}
use Rattle.result.specs.Ranked.{Entry, entry}
use Rattle.result.specs.Places.{entries}
use Rattle.result.specs.Sets.{Fed, fed_or, empty_set, answer, made_of, fed_set, feed_refusal, feed_of, feed_all_of}
use Rattle.result.specs.declared.ResultSet.{ResultSet}
use Rattle.result.proofs.Keeps.{fed_k, fed_within, empty_k, empty_len}
use Rattle.capi_sets.specs.Lists.{Outs, room_in, Listed, listed, put_set, feeding_of, feed_into, Fits}
use Rattle.capi_sets.proofs.Lists.{put_told}

-- ---- a turn

-- the pairs from place i on begin with the pair at i
pairs_turn : (i m : ℕ) (is : List ℕ) (ss : List Float) (d : ℕ) (z : Float) → i < length is → i < length ss
    → entries (suc m) (drop i is) (drop i ss) ≡ entry (get_or is i d) (get_or ss i z) ∷ entries m (drop (suc i) is) (drop (suc i) ss)
pairs_turn i m [] ss d z h l = absurd (not-suc-le-zero h)
pairs_turn i m (x ∷ is) [] d z h l = absurd (not-suc-le-zero l)
pairs_turn zero m (x ∷ is) (y ∷ ss) d z h l = refl
pairs_turn (suc i) m (x ∷ is) (y ∷ ss) d z h l =
    let h' : i < length is = omega arith in
    let l' : i < length ss = omega arith in
    pairs_turn i m is ss d z h' l'

-- what is left to feed from place i on
abbrev pub rest : ℕ → List ℕ → List Float → List Entry
rest i is ss = entries (length is - i) (drop i is) (drop i ss)

rest_turn : (i : ℕ) (is : List ℕ) (ss : List Float) (d : ℕ) (z : Float) → i < length is → length is ≡ length ss → rest i is ss ≡ entry (get_or is i d) (get_or ss i z) ∷ rest (i + 1) is ss
rest_turn i is ss d z h l =
    let n : length is - i ≡ suc (length is - (i + 1)) = omega arith in
    let s : suc i ≡ i + 1 = omega arith in
    let l' : i < length ss = omega arith in
    ap (λ (m : ℕ). entries m (drop i is) (drop i ss)) n ∙ pairs_turn i (length is - (i + 1)) is ss d z h l'
    ∙ ap (λ (j : ℕ). entry (get_or is i d) (get_or ss i z) ∷ entries (length is - (i + 1)) (drop j is) (drop j ss)) s

some : (r : Refusal) → number_of r ≡ 0 → ⊥
some r z = let low = number_low r in omega arith

module _ (s : ResultSet) (i : ℕ) (is : List ℕ) (ss : List Float) (d : ℕ) (z : Float) (h : i < length is) (l : length is ≡ length ss) where
  -- what the feed of this turn answers
  abbrev one : Fed
  one = feed_of s (get_or is i d) (get_or ss i z)

  turned : feed_all_of s (rest i is ss) ≡ pick (eqb one.refusal 0) (feed_all_of one.set (rest (i + 1) is ss)) one
  turned = ap (feed_all_of s) (rest_turn i is ss d z h l)

  -- a refused feed ends it, with the set that it left
  pub feed_ends : (r : Refusal) (t : ResultSet) → number_of r ≡ one.refusal → t ≡ one.set → answer (number_of r) t ≡ feed_all_of s (rest i is ss)
  feed_ends r t e f =
      let k : pick (eqb one.refusal 0) (feed_all_of one.set (rest (i + 1) is ss)) one ≡ one = rw (← e, ne_eqb (number_of r) 0 (some r)) refl in
      ap (λ (n : ℕ). answer n t) e ∙ ap (answer one.refusal) f ∙ sym k ∙ sym turned

  -- an accepted one goes on with the set that it gave
  pub feed_goes : (t : ResultSet) → 0 ≡ one.refusal → t ≡ one.set → feed_all_of t (rest (i + 1) is ss) ≡ feed_all_of s (rest i is ss)
  feed_goes t e f =
      let k : pick (eqb one.refusal 0) (feed_all_of one.set (rest (i + 1) is ss)) one ≡ feed_all_of one.set (rest (i + 1) is ss) = rw (← e) refl in
      ap (λ (u : ResultSet). feed_all_of u (rest (i + 1) is ss)) f ∙ sym k ∙ sym turned

-- ---- a new set, fed

-- where no set is made, the empty one with k 0 is left
pub made_refused : (k : ℕ) (is : List ℕ) (ss : List Float) (r : Refusal) (s : ResultSet) → answer (number_of r) s ≡ made_of k → answer (number_of r) s ≡ feeding_of k is ss
unfolding feeding_of
made_refused k is ss r s e = rw (← e, ne_eqb (number_of r) 0 (some r)) refl

pub made_fed : (k : ℕ) (is : List ℕ) (ss : List Float) (s : ResultSet) → answer 0 s ≡ made_of k → feed_all_of s (entries (length is) is ss) ≡ feeding_of k is ss
unfolding feeding_of
made_fed k is ss s e = rw (← e) refl

-- the set beside what feeding it answered, as one answer
pub handed : {A : Type 0} (f : Fed) (a : Result A Refusal) (s : ResultSet) (r : Result ResultSet Refusal) → answer (code_of a) s ≡ f → r ≡ result_and a (Ok s) → fed_or f.set r ≡ f
handed {A = A} f a s r e q = ap (fed_or f.set) q ∙ told a e
  where
    told : (a : Result A Refusal) → answer (code_of a) s ≡ f → fed_or f.set (result_and a (Ok s)) ≡ f
    told (Ok x) e = e
    told (Err k) e = ap (λ (n : ℕ). answer n f.set) (ap (λ (x : Fed). x.refusal) e)

-- ---- its list is within k

record Within (k : ℕ) (s : ResultSet) : Type 0 where
  pub of : s.k ≡ k
  pub len : s.len ≤ k

within_fed : (k : ℕ) (s : ResultSet) (e : Entry) → Within k s → Within k (fed_set s e)
within_fed k s e w =
    let o = w.of in
    let n : s.len ≤ s.k = omega (arith, w.len) in
    record { of = fed_k s e ∙ o; len = omega (arith, fed_within s e n) }

within_feed : (k : ℕ) (s : ResultSet) (id : ℕ) (score : Float) → Within k s → Within k (feed_of s id score).set
unfolding feed_of
within_feed k s id score w = by (eqb (feed_refusal s score) 0)
  where
    by : (b : Bool) → Within k (pick b (fed_set s (entry id score)) s)
    by true = within_fed k s (entry id score) w
    by false = w

within_all : (k : ℕ) (s : ResultSet) (es : List Entry) → Within k s → Within k (feed_all_of s es).set
within_all k s [] w = w
within_all k s (e ∷ es) w = by (eqb (feed_of s e.key e.sim).refusal 0) (within_all k (feed_of s e.key e.sim).set es (within_feed k s e.key e.sim w))
  where
    by : (b : Bool) → Within k (feed_all_of (feed_of s e.key e.sim).set es).set
        → Within k (pick b (feed_all_of (feed_of s e.key e.sim).set es) (feed_of s e.key e.sim)).set
    by true go = go
    by false go = within_feed k s e.key e.sim w

not4 : ◌≡◌ {A = ℕ} 4 0 → ⊥
not4 e = omega arith

fits_it : (k : ℕ) (is : List ℕ) (ss : List Float) (li ls : ℕ) → li ≡ k → ls ≡ k → (feeding_of k is ss).refusal ≡ 0 → Fits (feeding_of k is ss).set li ls
unfolding feeding_of made_of
fits_it k is ss li ls p q e = by (leb k 256) refl e
  where
    es : List Entry
    es = entries (length is) is ss

    by : (b : Bool) → leb k 256 ≡ b
        → (pick (eqb (pick b 0 4) 0) (feed_all_of (empty_set (pick b k 0)) es) (answer (pick b 0 4) (empty_set (pick b k 0)))).refusal ≡ 0
        → Fits (pick (eqb (pick b 0 4) 0) (feed_all_of (empty_set (pick b k 0)) es) (answer (pick b 0 4) (empty_set (pick b k 0)))).set li ls
    by false h e = absurd (not4 e)
    by true h e =
        let n : (empty_set k).len ≤ k = omega (arith, empty_len k) in
        let w = within_all k (empty_set k) es (record { of = empty_k k; len = n }) in
        let m = leb-true k 256 h in
        record { small = omega (arith, w.len); ids = omega (arith, w.len); scores = omega (arith, w.len) }

pub feed_fits : (k : ℕ) (is : List ℕ) (ss : List Float) (r : Result ResultSet Refusal) (li ls : ℕ) → fed_or (feeding_of k is ss).set r ≡ feeding_of k is ss → li ≡ k → ls ≡ k
    → IfOk r (λ (s : ResultSet). Fits s li ls)
feed_fits k is ss (Ok s) li ls e p q = subst (λ (x : ResultSet). Fits x li ls) (sym (ap (λ (f : Fed). f.set) e)) (fits_it k is ss li ls p q (sym (ap (λ (f : Fed). f.refusal) e)))
feed_fits k is ss (Err r) li ls e p q = tt

-- ---- the call

module _ (k : ℕ) (is : List ℕ) (ss : List Float) (o : Outs) where
  pub feed_unequal : (length is ≡ length ss → ⊥) → listed 2 o ≡ feed_into k is ss o
  unfolding feed_into
  feed_unequal h = rw (ne_eqb (length is) (length ss) h)

  pub feed_room : length is ≡ length ss → room_in k 2 o ≡ false → listed 2 o ≡ feed_into k is ss o
  unfolding feed_into
  feed_room h r = rw (eq-eqb (length is) (length ss) h, r)

  pub feed_into_lem : (r : Result ResultSet Refusal) (l : Listed) → length is ≡ length ss → room_in k 2 o ≡ true → fed_or (feeding_of k is ss).set r ≡ feeding_of k is ss
      → l ≡ put_set r o → l ≡ feed_into k is ss o
  unfolding feed_into
  feed_into_lem r l h m e q = rw (eq-eqb (length is) (length ss) h, m) (q ∙ put_told (feeding_of k is ss) r o e)
