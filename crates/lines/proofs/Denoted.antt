-- Decimal and hexadecimal digits denote the number that they were made of. Assumes nothing.
use mathlib.Core.Path.{◌≡◌, refl, ap, ◌∙◌}
use mathlib.Core.List.{List, [], ◌∷◌}
use mathlib.Core.Bool.{Bool, true, false, cond}
use Prim.Native.Nat.{ℕ, ◌+◌, ◌*◌, ◌/◌, ◌%◌, ◌<◌}
use native.Mathlib.Omega.{arith}
use lib.ListN.{length}
use lib.Dec.{ltb, eqb}
use native.Mathlib.Nat.{div-div-eq-div-mul, div-add-mod'}
use borrow.Author.Tests.{eqb-true, eqb-false, ltb-true, ltb-false, lt-ltb, le-ltb}
use Rattle.lines.specs.Lines.{trimmed, ten_digits, decimal, glyph, hexadecimal}
use Rattle.lines.specs.Laws.{digit_of, denoted, NoZeroInFront}

-- a zero in front adds nothing
trim_denotes : (base : ℕ) (ds : List ℕ) → denoted base 0 (trimmed ds) ≡ denoted base 0 ds
unfolding trimmed denoted
trim_denotes base [] = refl
trim_denotes base (x ∷ []) = refl
trim_denotes base (x ∷ y ∷ ds) = by (eqb x 48) refl (trim_denotes base (y ∷ ds))
  where
    by : (b : Bool) → eqb x 48 ≡ b → denoted base 0 (trimmed (y ∷ ds)) ≡ denoted base 0 (y ∷ ds) → denoted base 0 (cond b (trimmed (y ∷ ds)) (x ∷ y ∷ ds)) ≡ denoted base 0 (x ∷ y ∷ ds)
    by true e less =
        let h : x ≡ 48 = eqb-true x 48 e in
        let z : 0 * base + 0 ≡ 0 = omega arith in
        less ∙ rw (h, z) refl
    by false e less = refl

trim_plain : (x : ℕ) (ds : List ℕ) → NoZeroInFront (trimmed (x ∷ ds))
unfolding trimmed
trim_plain x [] = tt
trim_plain x (y ∷ ds) = by (eqb x 48) refl (trim_plain y ds)
  where
    by : (b : Bool) → eqb x 48 ≡ b → NoZeroInFront (trimmed (y ∷ ds)) → NoZeroInFront (cond b (trimmed (y ∷ ds)) (x ∷ y ∷ ds))
    by true e less = less
    by false e less = eqb-false x 48 e

-- one digit more
decimal_digit : (x : ℕ) → x < 10 → digit_of (48 + x) ≡ x
decimal_digit x h = rw (lt-ltb (48 + x) 58 (omega arith)) (omega arith)

glyph_digit : (x : ℕ) → x < 16 → digit_of (glyph x) ≡ x
glyph_digit x h = by (ltb x 10) refl
  where
    by : (b : Bool) → ltb x 10 ≡ b → digit_of (cond b (48 + x) (55 + x)) ≡ x
    by true e = decimal_digit x (ltb-true x 10 e)
    by false e = rw (le-ltb (55 + x) 58 (omega (arith, ltb-false x 10 e))) (omega arith)

-- one digit more: what stands before a place, and the digit at it
up : (base n p c : ℕ) (cs : List ℕ) → digit_of c ≡ n / p % base → denoted base (n / (p * base)) (c ∷ cs) ≡ denoted base (n / p) cs
unfolding denoted
up base n p c cs e = ap (λ (b : ℕ). denoted base b cs) (rw (e, ← div-div-eq-div-mul n p base) (div-add-mod' (n / p) base))

ten : (n p : ℕ) (cs : List ℕ) → denoted 10 (n / (p * 10)) ((48 + n / p % 10) ∷ cs) ≡ denoted 10 (n / p) cs
ten n p cs = up 10 n p _ cs (decimal_digit (n / p % 10) (omega arith))

sixteen : (n p : ℕ) (cs : List ℕ) → denoted 16 (n / (p * 16)) (glyph (n / p % 16) ∷ cs) ≡ denoted 16 (n / p) cs
sixteen n p cs = up 16 n p _ cs (glyph_digit (n / p % 16) (omega arith))

-- the last digit
last : (base n c : ℕ) → digit_of c ≡ n % base → denoted base (n / base) (c ∷ []) ≡ n
unfolding denoted
last base n c e = rw e (div-add-mod' n base)

pub decimal_denotes : (n : ℕ) → n < 10000000000 → denoted 10 0 (decimal n) ≡ n
unfolding decimal
decimal_denotes n h =
    let z : 0 ≡ n / 10000000000 = omega arith in
    trim_denotes 10 (ten_digits n)
    ∙ ap (λ (b : ℕ). denoted 10 b (ten_digits n)) z
    ∙ ten n 1000000000 _
    ∙ ten n 100000000 _
    ∙ ten n 10000000 _
    ∙ ten n 1000000 _
    ∙ ten n 100000 _
    ∙ ten n 10000 _
    ∙ ten n 1000 _
    ∙ ten n 100 _
    ∙ ten n 10 _
    ∙ last 10 n (48 + n % 10) (decimal_digit (n % 10) (omega arith))

pub decimal_plain : (n : ℕ) → NoZeroInFront (decimal n)
unfolding decimal
decimal_plain n = trim_plain _ _

pub hexadecimal_denotes : (n : ℕ) → n < 4294967296 → denoted 16 0 (hexadecimal n) ≡ n
unfolding hexadecimal
hexadecimal_denotes n h =
    let z : 0 ≡ n / 4294967296 = omega arith in
    ap (λ (b : ℕ). denoted 16 b (hexadecimal n)) z
    ∙ sixteen n 268435456 _
    ∙ sixteen n 16777216 _
    ∙ sixteen n 1048576 _
    ∙ sixteen n 65536 _
    ∙ sixteen n 4096 _
    ∙ sixteen n 256 _
    ∙ sixteen n 16 _
    ∙ last 16 n (glyph (n % 16)) (glyph_digit (n % 16) (omega arith))

pub hexadecimal_eight : (n : ℕ) → length (hexadecimal n) ≡ 8
unfolding hexadecimal
hexadecimal_eight n = refl
