-- Copying a list over the front of another, a place at a time. Over any element type. Assumes nothing.
use Prim.Native.Nat.{ℕ, zero, suc, ◌+◌, ◌<◌}
use native.Mathlib.Nat.{not-suc-le-zero}
use native.Mathlib.Omega.{arith}
use mathlib.Core.Path.{◌≡◌, refl, ap}
use mathlib.Core.List.{List, [], ◌∷◌, ◌++◌}
use lib.ListN.{length, get_or, set, take, drop}

module _ {A : Type 0} where
  pub copy_more : (s d : List A) (i : ℕ) (z : A) → i < length s → i < length d → set (take i s ++ drop i d) i (get_or s i z) ≡ take (i + 1) s ++ drop (i + 1) d
  copy_more [] d i z h l = absurd (not-suc-le-zero h)
  copy_more (x ∷ s) [] i z h l = absurd (not-suc-le-zero l)
  copy_more (x ∷ s) (y ∷ d) zero z h l = refl
  copy_more (x ∷ s) (y ∷ d) (suc i) z h l =
      let h' : i < length s = omega arith in
      let l' : i < length d = omega arith in
      let k : suc i + 1 ≡ suc (i + 1) = omega arith in
      rw k (ap (λ (r : List A). x ∷ r) (copy_more s d i z h' l'))
