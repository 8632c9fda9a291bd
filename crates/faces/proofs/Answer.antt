-- The answer of spilling. Assumes nothing.
use Prim.Native.Nat.{ℕ, zero, suc, ◌-◌}
use mathlib.Core.Path.{◌≡◌, sym, ◌∙◌, ap}
use mathlib.Core.List.{List, ◌++◌}
use native.Mathlib.Nat.{sub-zero}
use native.Mathlib.Omega.{arith}
use borrow.Author.Tests.{eq-eqb, ne_eqb, leb-true}
use lib.Dec.{leb}
use lib.IntN.{ℤ, pos}
use lib.ListN.{length, drop, replicate}
use lib.Ieee.{Float}
use Rattle.paper.specs.Choice.{◌and◌}
use Rattle.std.proofs.Common.{Result, Err}
use Rattle.paper.specs.declared.Refusal.{Refusal}
use Rattle.paper.specs.Refusals.{number_of}
use Rattle.paper.proofs.Answering.{number_low}
use Rattle.paper.proofs.Choice.{and_l, and_r, refuse_ok, refuse_rest}
use Rattle.vector.specs.Finite.{all_finite}
use Rattle.faces.specs.Slots.{faces_of, after_of, picks_of, HasFace}
use Rattle.faces.specs.Answer.{face_number, spilled, spilling, spill_of}
use Rattle.faces.specs.declared.Spilled as Declared

-- a projection that is not refused has a face
pub has_face : (w : List Float) → face_number w ≡ 0 → HasFace w
unfolding face_number
has_face w h =
    let s = refuse_ok (leb 1 (length w) and leb (length w) 1024) 1 _ (λ e. omega arith) h in
    let r = refuse_rest (leb 1 (length w) and leb (length w) 1024) 1 _ (λ e. omega arith) h in
    record {
      some = leb-true _ _ (and_l (leb 1 (length w)) _ s);
      few = leb-true _ _ (and_r (leb 1 (length w)) _ s);
      finite = refuse_ok (all_finite w) 7 0 (λ e. omega arith) r;
    }

drop_zeros : (n m : ℕ) (z : ℤ) → drop n (replicate m z) ≡ replicate (m - n) z
drop_zeros zero m z = ap (λ (k : ℕ). replicate k z) (sym (sub-zero m))
drop_zeros (suc n) zero z = ap (λ (k : ℕ). replicate k z) (less n)
  where
    less : (n : ℕ) → 0 ≡ 0 - suc n
    less n = omega arith
drop_zeros (suc n) (suc m) z = drop_zeros n m z ∙ ap (λ (k : ℕ). replicate k z) (less n m)
  where
    less : (n m : ℕ) → m - n ≡ suc m - suc n
    less n m = omega arith

module _ (spill : ℕ) (w : List Float) where
  pub spill_refused : (answer : Result Declared.Spilled Refusal) (r : Refusal) → answer ≡ Err r → number_of r ≡ face_number w → spilling (spilled answer) w ≡ spill_of spill w
  unfolding spill_of
  spill_refused answer r e f =
      let low = number_low r in
      rw (e, f, ne_eqb (face_number w) 0 (λ z. omega arith))

  pub spill_done : (n : ℕ) (v : List Float) (out : List ℤ) → face_number w ≡ 0 → n ≡ picks_of (length w) spill → v ≡ after_of n w → out ≡ faces_of n w ++ drop n (replicate 1024 (pos 0)) → spilling (record { refusal = 0; count = n; faces = out }) v ≡ spill_of spill w
  unfolding spill_of
  spill_done n v out z e p q = rw (eq-eqb (face_number w) 0 z, ← e, p, q, drop_zeros n 1024 (pos 0))
