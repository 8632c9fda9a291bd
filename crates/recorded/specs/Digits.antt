-- Numbers as hexadecimal digits, in a list of bytes: what the functions on a buffer take from its front.
use Rattle.std.specs.Prelude.{ℕ, zero, suc, ◌+◌, ◌-◌, ◌*◌, ◌%◌, ◌^◌, cond, ltb, Option, Some, None, List, [], ◌∷◌}

-- what a byte stands for: the digits from 48 on, the letters in lower case from 97 on
abbrev pub digit_of : ℕ → Option ℕ
digit_of b = cond (ltb b 48) None (cond (ltb b 58) (Some (b - 48)) (cond (ltb b 97) None (cond (ltb b 103) (Some (b - 97 + 10)) None)))

-- the first byte, where another one stands behind it
abbrev pub letter_of : List ℕ → Option ℕ
letter_of [] = None
letter_of (b ∷ []) = None
letter_of (b ∷ c ∷ s) = Some b

-- what stands behind the first byte that is no digit
abbrev pub behind_number : List ℕ → List ℕ
behind_number [] = []
behind_number (b ∷ s) = elim (digit_of b) [ None ↦ s | Some d ↦ behind_number s ]

-- what stands behind n numbers
abbrev pub behind_numbers : ℕ → List ℕ → List ℕ
behind_numbers zero s = s
behind_numbers (suc n) s = behind_number (behind_numbers n s)

-- the number whose digits come first, after those that made v
abbrev pub number_from : ℕ → List ℕ → ℕ
number_from v [] = v
number_from v (b ∷ s) = elim (digit_of b) [ None ↦ v | Some d ↦ number_from (v * 16 + d) s ]

-- the number that comes first, of whose digits the last sixteen count
abbrev pub number_of : List ℕ → ℕ
number_of s = number_from 0 s % 2 ^ 64
