-- A slice of one place, written. Over any element type. Assumes nothing.
use mathlib.Core.Path.{◌≡◌, refl}
use mathlib.Core.List.{List, [], ◌∷◌}
use native.Mathlib.Omega.{arith}
use lib.ListN.{length, set}

module _ {A : Type 0} where
  pub one_place : (l : List A) (a : A) → length l ≡ 1 → set l 0 a ≡ a ∷ []
  one_place [] a e = let no : ⊥ = omega arith in absurd no
  one_place (x ∷ []) a e = refl
  one_place (x ∷ y ∷ l) a e = let no : ⊥ = omega arith in absurd no
