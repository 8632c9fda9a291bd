-- A number read digit by digit, where each step keeps 64 bits.
use Rattle.std.proofs.Common.{ℕ, ◌≡◌, ◌+◌, ◌*◌, ◌%◌, ◌<◌, ◌^◌, Option, Some, None, List, [], ◌∷◌, bit_or, arith, ap, sym, ◌∙◌}
use Rattle.std.proofs.lemmas.Bool.Decides.{nat_tests}
use Rattle.std.proofs.lemmas.Nat.{or_mod, or_shifted, mul-mod_first}
use Rattle.std.proofs.Math.Nat.{mod-add-mod}
use Rattle.recorded.specs.Digits.{digit_of, number_from}

digit_below : (b d : ℕ) → digit_of b ≡ Some d → d < 16
digit_below b d h = grind (arith, nat_tests)

kept : (v w d m : ℕ) → v % m ≡ w % m → (v * 16 + d) % m ≡ (w * 16 + d) % m
kept v w d m e =
    sym (mod-add-mod (v * 16) m d)
    ∙ ap (λ x. (x + d) % m) (sym (mul-mod_first v 16 m) ∙ ap (λ x. (x * 16) % m) e ∙ mul-mod_first w 16 m)
    ∙ mod-add-mod (w * 16) m d

-- what overflows is lost from the number too
same_number : (m : ℕ) (s : List ℕ) (v w : ℕ) → v % m ≡ w % m → number_from v s % m ≡ number_from w s % m
same_number m [] v w e = e
same_number m (b ∷ s) v w e =
    elim (digit_of b) as (λ r. (elim r [ None ↦ v | Some d ↦ number_from (v * 16 + d) s ]) % m ≡ (elim r [ None ↦ w | Some d ↦ number_from (w * 16 + d) s ]) % m)
    [ None ↦ e | Some d ↦ same_number m s (v * 16 + d) (w * 16 + d) (kept v w d m e) ]

one_digit : (v d : ℕ) → d < 16 → bit_or (v * 16 % 2 ^ 64) d % 2 ^ 64 ≡ (v * 16 + d) % 2 ^ 64
one_digit v d h =
    let twice : v * 16 % 2 ^ 64 % 2 ^ 64 ≡ v * 16 % 2 ^ 64 = omega arith in
    or_mod (v * 16 % 2 ^ 64) d 64 ∙ ap (λ x. bit_or x (d % 2 ^ 64)) twice ∙ sym (or_mod (v * 16) d 64) ∙ ap (λ x. x % 2 ^ 64) (or_shifted v 4 d h)

with_digit : (v b d : ℕ) (t : List ℕ) → digit_of b ≡ Some d → number_from v (b ∷ t) ≡ number_from (v * 16 + d) t
with_digit v b d t h = ap (λ (r : Option ℕ). elim r [ None ↦ v | Some x ↦ number_from (v * 16 + x) t ]) h

-- a step over a digit
pub number_step : (v b d : ℕ) (s t : List ℕ) → s ≡ b ∷ t → digit_of b ≡ Some d → number_from (bit_or (v * 16 % 2 ^ 64) d) t % 2 ^ 64 ≡ number_from v s % 2 ^ 64
number_step v b d s t e h =
    same_number (2 ^ 64) t (bit_or (v * 16 % 2 ^ 64) d) (v * 16 + d) (one_digit v d (digit_below b d h))
    ∙ ap (λ x. x % 2 ^ 64) (sym (ap (number_from v) e ∙ with_digit v b d t h))
