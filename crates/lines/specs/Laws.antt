-- The laws of the lines: what is printed in decimal or in hexadecimal denotes the number.
use Rattle.std.specs.Prelude.{ℕ, ◌+◌, ◌-◌, ◌*◌, ◌<◌, cond, List, [], ◌∷◌, ◌≡◌, length, ltb}
use Rattle.lines.specs.Lines.{decimal, hexadecimal}

-- what a digit stands for: `0` to `9`, then `A` to `F`
abbrev pub digit_of : ℕ → ℕ
digit_of c = cond (ltb c 58) (c - 48) (c - 55)

-- the number that digits denote in a base, behind what stands before them
unfoldable pub denoted : ℕ → ℕ → List ℕ → ℕ
denoted base before [] = before
denoted base before (c ∷ cs) = denoted base (before * base + digit_of c) cs

-- no `0` in front of another digit
abbrev pub NoZeroInFront : List ℕ → Type 0
NoZeroInFront [] = ⊥
NoZeroInFront (c ∷ []) = Unit
NoZeroInFront (c ∷ d ∷ cs) = c ≡ 48 → ⊥

pub record Laws : Type 0 where
  -- ids, counts and numbers of a geometry have 32 bits, and so at most ten digits
  pub decimal_denotes : (n : ℕ) → n < 10000000000 → denoted 10 0 (decimal n) ≡ n
  pub decimal_plain : (n : ℕ) → NoZeroInFront (decimal n)
  -- a score's bits
  pub hexadecimal_denotes : (n : ℕ) → n < 4294967296 → denoted 16 0 (hexadecimal n) ≡ n
  pub hexadecimal_eight : (n : ℕ) → length (hexadecimal n) ≡ 8
