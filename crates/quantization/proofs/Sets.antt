-- Laws of lib.Seq's `sets`, a run of stores. Assumes nothing.
use mathlib.Core.Path.{◌≡◌, refl, sym, ap, ◌∙◌}
use mathlib.Core.List.{List, [], ◌∷◌, ◌++◌}
use Prim.Native.Nat.{ℕ, zero, suc, ◌+◌, ◌≤◌, ◌<◌}
use native.Mathlib.Nat.{add-zero}
use native.Mathlib.Omega.{arith}
use lib.ListN.{length, get_or, drop, set, length-set}
use lib.Seq.{sets, sets-eq, get_or-set_same, get_or-set_other}

module _ {A : Type 0} where
  -- one run after another
  pub sets_append : (s xs ys : List A) (at : ℕ) → sets s at (xs ++ ys) ≡ sets (sets s at xs) (at + length xs) ys
  sets_append s [] ys at = ap (λ (n : ℕ). sets s n ys) (sym (add-zero at))
  sets_append s (x ∷ xs) ys at =
      let e : suc at + length xs ≡ at + suc (length xs) = omega arith in
      sets_append (set s at x) xs ys (suc at) ∙ ap (λ (n : ℕ). sets (sets (set s at x) (suc at) xs) n ys) e

  -- a run from the front on
  pub sets_front : (s vs : List A) (n : ℕ) → length vs ≡ n → n ≤ length s → sets s 0 vs ≡ vs ++ drop n s
  sets_front s vs n e h = let f : 0 + length vs ≡ n = omega arith in sets-eq vs s 0 (omega arith) ∙ ap (λ (k : ℕ). vs ++ drop k s) f

  -- an element below the run, above it, and within it
  pub sets_below : (s vs : List A) (at k : ℕ) (d : A) → k < at → get_or (sets s at vs) k d ≡ get_or s k d
  sets_below s [] at k d h = refl
  sets_below s (v ∷ vs) at k d h = sets_below (set s at v) vs (suc at) k d (omega arith) ∙ get_or-set_other s at k v d (λ e. omega arith)

  pub sets_above : (s vs : List A) (at k : ℕ) (d : A) → at + length vs ≤ k → get_or (sets s at vs) k d ≡ get_or s k d
  sets_above s [] at k d h = refl
  sets_above s (v ∷ vs) at k d h = sets_above (set s at v) vs (suc at) k d (omega arith) ∙ get_or-set_other s at k v d (λ e. omega arith)

  pub sets_within : (s vs : List A) (at m : ℕ) (d : A) → at + length vs ≤ length s → m < length vs → get_or (sets s at vs) (at + m) d ≡ get_or vs m d
  sets_within s [] at m d h l = absurd (omega arith)
  sets_within s (v ∷ vs) at zero d h l =
      ap (λ (n : ℕ). get_or (sets (set s at v) (suc at) vs) n d) (add-zero at)
      ∙ sets_below (set s at v) vs (suc at) at d (omega arith)
      ∙ get_or-set_same s at v d (omega arith)
  sets_within s (v ∷ vs) at (suc m) d h l =
      let e : at + suc m ≡ suc at + m = omega arith in
      ap (λ (n : ℕ). get_or (sets (set s at v) (suc at) vs) n d) e
      ∙ sets_within (set s at v) vs (suc at) m d (omega (arith, length-set s at v)) (omega arith)
