-- The ways out of an addition, on plain values. Assumes nothing.
use Prim.Native.Nat.{ℕ, ◌≤◌, ◌<◌}
use mathlib.Core.Path.{◌≡◌, refl, sym, ◌∙◌}
use mathlib.Core.List.{List}
use mathlib.Core.Bool.{Bool, true, false}
use native.Mathlib.Omega.{arith}
use lib.Dec.{ltb, eqb}
use lib.Ieee.{Float}
use lib.ListN.{length, get_or}
use borrow.Author.Tests.{eq-eqb, ne_eqb, le-leb}
use Rattle.paper.specs.Choice.{◌and◌, pick, refuse}
use Rattle.paper.specs.Geometry.{Geo, geo_ok}
use Rattle.paper.specs.Refusals.{number_of}
use Rattle.paper.specs.declared.Refusal.{Refusal}
use Rattle.paper.proofs.Answering.{number_low}
use Rattle.index_memory.specs.Memory.{Ix, float_zeros}
use Rattle.vector.specs.Finite.{all_finite}
use Rattle.vector.specs.Norm.{norm_number, norm_of, usable, all_finite_by}
use Rattle.basis.specs.Bases.{projections_finite}
use Rattle.adding.specs.Adding.{face_slot, added_ix, written_ix, lengths_ok, add_shape, late_refusal, add_refusal, added, work_after, add_of}
use Rattle.adding.proofs.Shape.{shape_high}
use Rattle.adding.proofs.Turns.{with_same}

-- ---- 6, 7 and the addition

module _ (d n : ℕ) (bs v : List Float) where
  pub late_six : (r : Refusal) → number_of r ≡ norm_number v → all_finite v ≡ true → number_of r ≡ late_refusal d n bs v
  unfolding late_refusal norm_number
  late_six r e f =
      let low = number_low r in
      six (usable (norm_of v) and all_finite_by (norm_of v) v) (projections_finite d bs v n) (number_of r) low (e ∙ rw f refl) ∙ rw f refl
    where
      six : (a b : Bool) (k : ℕ) → 0 < k → k ≡ refuse 6 a 0 → k ≡ refuse 6 (eqb (refuse 6 a 0) 0) (refuse 7 b 0)
      six true b k h q = absurd (omega arith)
      six false b k h q = q

  pub late_seven : (r : Refusal) → 0 ≡ norm_number v → number_of r ≡ refuse 7 (projections_finite d bs v n) 0 → number_of r ≡ late_refusal d n bs v
  unfolding late_refusal
  late_seven r e p = p ∙ rw (eq-eqb (norm_number v) 0 (sym e))

  pub late_none : 0 ≡ norm_number v → 0 ≡ refuse 7 (projections_finite d bs v n) 0 → 0 ≡ late_refusal d n bs v
  unfolding late_refusal
  late_none e p = p ∙ rw (eq-eqb (norm_number v) 0 (sym e))

pub was_finite : (b : Bool) → 0 ≡ refuse 7 b 0 → b ≡ true
was_finite true e = refl
was_finite false e = absurd (omega arith)

pub was_not : (b : Bool) (r : Refusal) → number_of r ≡ refuse 7 b 0 → b ≡ false
was_not true r e = let low = number_low r in absurd (omega arith)
was_not false r e = refl

pub written_is : (g : Geo) (bs : List Float) (id : ℕ) (v : List Float) (ix ix' : Ix) (slots : List ℕ)
    → ix' ≡ written_ix g (λ b. get_or slots b 0) id v ix → ((b : ℕ) → b < g.n → get_or slots b 0 ≡ face_slot g.d bs v b) → ix' ≡ added_ix g bs id v ix
unfolding added_ix
written_is g bs id v ix ix' slots e h = e ∙ rw (with_same g.d g.cap id (λ b. get_or slots b 0) (face_slot g.d bs v) g.n ix.faces h)

-- ---- the call

-- 1, 2, 3, then 5, then the late ones: the same order
pub refusal_split : (g : Geo) (bs : List Float) (id : ℕ) (v : List Float) (ix : Ix) (work : List Float)
    → add_refusal g bs id v ix work
    ≡ pick (eqb (add_shape g id (length bs) (length ix.faces) (length ix.marks) (length ix.vecs) (length work) (length v)) 0)
    (refuse 5 (all_finite v) (late_refusal g.d g.n bs v))
    (add_shape g id (length bs) (length ix.faces) (length ix.marks) (length ix.vecs) (length work) (length v))
unfolding add_refusal add_shape late_refusal
refusal_split g bs id v ix work =
    go (geo_ok g.d g.n g.cap g.mode) (lengths_ok g (length bs) (length ix.faces) (length ix.marks) (length ix.vecs) (length work) (length v)) (ltb id g.cap) _
  where
    go : (a b c : Bool) (r : ℕ) → refuse 1 a (refuse 2 b (refuse 3 c r)) ≡ pick (eqb (refuse 1 a (refuse 2 b (refuse 3 c 0))) 0) r (refuse 1 a (refuse 2 b (refuse 3 c 0)))
    go true true true r = refl
    go true true false r = refl
    go true false c r = refl
    go false b c r = refl

late_cases : (a b : Bool) (w : List Float) → work_after (refuse 6 a (refuse 7 b 0)) w ≡ float_zeros (length w)
unfolding work_after
late_cases true true w = refl
late_cases true false w = refl
late_cases false b w = refl

late_work : (d n : ℕ) (bs v w : List Float) → work_after (late_refusal d n bs v) w ≡ float_zeros (length w)
unfolding late_refusal
late_work d n bs v w = late_cases (eqb (norm_number v) 0) (projections_finite d bs v n) w

module _ (g : Geo) (bs : List Float) (id : ℕ) (v : List Float) (ix : Ix) (work : List Float) where
  abbrev shape : ℕ
  shape = add_shape g id (length bs) (length ix.faces) (length ix.marks) (length ix.vecs) (length work) (length v)

  pub shape_refused : (r : Refusal) → number_of r ≡ shape → added (number_of r) ix work ≡ add_of g bs id v ix work
  unfolding add_of work_after
  shape_refused r e =
      let lo = number_low r in
      let h3 : number_of r ≤ 3 = rw e (shape_high g id _ _ _ _ _ _) in
      let hi : number_of r ≤ 5 = omega arith in
      rw refusal_split (simp (← e, ne_eqb (number_of r) 0 (λ z. omega arith), le-leb 1 (number_of r) lo, le-leb (number_of r) 5 hi))

  pub five_refused : 0 ≡ shape → all_finite v ≡ false → added 5 ix work ≡ add_of g bs id v ix work
  unfolding add_of work_after
  five_refused e f = rw refusal_split (simp (← e, f))

  pub late_done : (r : ℕ) (ix' : Ix) (w : List Float) → 0 ≡ shape → all_finite v ≡ true → r ≡ late_refusal g.d g.n bs v → ix' ≡ pick (eqb r 0) (added_ix g bs id v ix) ix
      → w ≡ float_zeros (length work) → added r ix' w ≡ add_of g bs id v ix work
  unfolding add_of
  late_done r ix' w d f e i q =
      let y : shape ≡ 0 = sym d in
      let t : add_refusal g bs id v ix work ≡ r = refusal_split g bs id v ix work ∙ rw (eq-eqb shape 0 y, f) (sym e) in
      rw (t, i, q, e, late_work) refl
