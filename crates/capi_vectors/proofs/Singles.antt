-- One value in one place. Over any element type. Assumes nothing.
use Prim.Native.Nat.{ℕ}
use mathlib.Core.Path.{◌≡◌, ◌∙◌, refl, sym}
use mathlib.Core.List.{List}
use lib.ListN.{length}
use borrow.Author.Tests.{eq-eqb, ne_eqb}
use Rattle.std.proofs.Common.{Result, Ok, Err, arith}
use Rattle.paper.specs.Refusals.{number_of, Answers}
use Rattle.paper.specs.declared.Refusal.{Refusal}
use Rattle.paper.proofs.Answering.{number_low, unless_accepted}
use Rattle.capi_vectors.specs.Single.{Single, single, put, kept, into_one}

module _ {A : Type 0} (num : ℕ) (x : A) (ys : List A) where
  pub one_length : (length ys ≡ 1 → ⊥) → single 2 ys ≡ into_one num x ys
  unfolding into_one
  one_length h = rw (ne_eqb (length ys) 1 h)

  -- an answer of a crate below is the value unless it is refused
  pub put_kept : (none : A) (a : Result A Refusal) → Answers a num x none → put a ys ≡ kept num x ys
  put_kept none (Ok y) h =
      let z : num ≡ 0 = sym h.refusal in
      let v : y ≡ x = h.value ∙ unless_accepted num x none z in
      rw (z, v) refl
  put_kept none (Err r) h =
      let low = number_low r in
      rw (← h.refusal, ne_eqb (number_of r) 0 (λ z. omega arith)) refl

  pub put_done : (none : A) (a : Result A Refusal) (s : Single A) → length ys ≡ 1 → Answers a num x none → s ≡ put a ys → s ≡ into_one num x ys
  unfolding into_one
  put_done none a s l h e = rw (eq-eqb (length ys) 1 l) (e ∙ put_kept none a h)
