-- What the crates below answer, as the definitions put it into its place. Assumes nothing.
use Prim.Native.Nat.{ℕ, ◌≤◌}
use native.Mathlib.Omega.{arith}
use mathlib.Core.Path.{◌≡◌, ap, ◌∙◌}
use mathlib.Core.Bool.{Bool, true, false}
use mathlib.Core.List.{List, []}
use lib.Dec.{eqb, leb}
use lib.IntN.{ℤ}
use lib.Ieee.{Float}
use lib.ListN.{length}
use borrow.Author.Tests.{eq-eqb, ne_eqb, leb-true}
use Rattle.paper.specs.Choice.{pick}
use Rattle.paper.proofs.Choice.{and_r}
use Rattle.std.proofs.Common.{Result, Ok, Err, pos}
use Rattle.paper.specs.Refusals.{number_of, Answers}
use Rattle.paper.specs.declared.Refusal.{Refusal}
use Rattle.paper.proofs.Answering.{number_low}
use Rattle.faces.specs.declared.Spilled as Declared
use Rattle.faces.specs.Answer.{face_number, listed, spilled, Spilling, spilling, spill_of}
use Rattle.faces.specs.Slots.{face_of, faces_of, after_of, picks_of}
use Rattle.faces.proofs.Slots.{picks_within}
use Rattle.capi_vectors.specs.Single.{Single, single, put, laid_over}
use Rattle.capi_vectors.specs.Projections.{dims_ok, face_into, Spilt, spilt, into_faces, spill_into}
use Rattle.capi_vectors.proofs.Singles.{one_length, put_done}

-- ---- a face

module _ (w : List Float) (ys : List ℤ) where
  pub face_dims : dims_ok (length w) ≡ false → single 1 ys ≡ face_into w ys
  unfolding face_into
  face_dims h = rw h

  pub face_length : dims_ok (length w) ≡ true → (length ys ≡ 1 → ⊥) → single 2 ys ≡ face_into w ys
  unfolding face_into
  face_length h l = rw h (one_length (face_number w) (face_of w) ys l)

  pub face_done : (a : Result ℤ Refusal) (s : Single ℤ) → dims_ok (length w) ≡ true → length ys ≡ 1 → Answers a (face_number w) (face_of w) (pos 0) → s ≡ put a ys → s ≡ face_into w ys
  unfolding face_into
  face_done a s h l q e = rw h (put_done (face_number w) (face_of w) ys (pos 0) a s l q e)

-- ---- spilling

-- the number of faces is within the projection, and 0 where it is refused
count_within : (spill : ℕ) (w : List Float) → (spill_of spill w).answer.count ≤ length w
unfolding spill_of
count_within spill w = by (eqb (face_number w) 0)
  where
    by : (b : Bool) → (pick b (spilling (listed 0 (picks_of (length w) spill) (faces_of (picks_of (length w) spill) w)) (after_of (picks_of (length w) spill) w)) (spilling (listed (face_number w) 0 []) w)).answer.count ≤ length w
    by true = picks_within (length w) spill
    by false = omega arith

pub dims_high : (d : ℕ) → dims_ok d ≡ true → d ≤ 1024
unfolding dims_ok
dims_high d e = leb-true d 1024 (and_r (leb 1 d) _ e)

module _ (spill : ℕ) (w : List Float) (fs : List ℤ) where
  pub spill_dims : dims_ok (length w) ≡ false → spilt 1 w fs ≡ spill_into spill w fs
  unfolding spill_into
  spill_dims h = rw h

  pub spill_length : dims_ok (length w) ≡ true → (length fs ≡ length w → ⊥) → spilt 2 w fs ≡ spill_into spill w fs
  unfolding spill_into
  spill_length h l = rw (h, ne_eqb (length fs) (length w) l)

  pub count_fits : (s : Declared.Spilled) (w' : List Float) → spilling (spilled (Ok s)) w' ≡ spill_of spill w → s.count ≤ length w
  count_fits s w' e =
      let n : (spill_of spill w).answer.count ≤ length w = count_within spill w in
      let c : s.count ≡ (spill_of spill w).answer.count = ap (λ (x : Spilling). x.answer.count) e in
      omega arith

  spill_by : dims_ok (length w) ≡ true → length fs ≡ length w → (r : Spilt) → r ≡ into_faces (spill_of spill w) fs → r ≡ spill_into spill w fs
  unfolding spill_into
  spill_by h l r e = rw (h, eq-eqb (length fs) (length w) l) e

  pub spill_refused : (r : Refusal) (w' : List Float) → dims_ok (length w) ≡ true → length fs ≡ length w → spilling (spilled (Err r)) w' ≡ spill_of spill w
      → spilt (number_of r) w' fs ≡ spill_into spill w fs
  spill_refused r w' h l e =
      let low = number_low r in
      let k : spilt (number_of r) w' fs ≡ into_faces (spilling (spilled (Err r)) w') fs = rw (ne_eqb (number_of r) 0 (λ z. omega arith)) in
      spill_by h l _ (k ∙ ap (λ (x : Spilling). into_faces x fs) e)

  pub spill_done : (s : Declared.Spilled) (w' : List Float) (out : List ℤ) → dims_ok (length w) ≡ true → length fs ≡ length w → spilling (spilled (Ok s)) w' ≡ spill_of spill w
      → out ≡ laid_over s.count s.faces fs → spilt 0 w' out ≡ spill_into spill w fs
  spill_done s w' out h l e q = spill_by h l _ (ap (λ (o : List ℤ). spilt 0 w' o) q ∙ ap (λ (x : Spilling). into_faces x fs) e)
