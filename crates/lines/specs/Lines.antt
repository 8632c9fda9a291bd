-- The lines that the program prints, as lists of bytes. Assumes nothing.
use Rattle.std.specs.Prelude.{ℕ, zero, suc, ◌+◌, ◌/◌, ◌%◌, cond, List, [], ◌∷◌, ◌++◌, ◌≡◌, length, ltb, eqb, Float}
use Rattle.std.proofs.lemmas.List.Edits.{sets}
use Rattle.std.specs.Float.Ieee.{to_bits}
use Rattle.std.specs.Float.{binary32}
use Rattle.lines.specs.declared.Told.{Told}
use Rattle.lines.specs.declared.Told.TheVariants.{Refused, Geometry, Basis, Added, Found}

-- text stands in new at a place, with what was before and behind it as in old; r is the place behind it
pub record Put (old new : List ℕ) (at r : ℕ) (text : List ℕ) : Type 0 where
  pub next : r ≡ at + length text
  pub stored : new ≡ sets old at text

-- digits without leading zeros (48); the last digit stays
unfoldable pub trimmed : List ℕ → List ℕ
trimmed [] = []
trimmed (x ∷ []) = x ∷ []
trimmed (x ∷ y ∷ ds) = cond (eqb x 48) (trimmed (y ∷ ds)) (x ∷ y ∷ ds)

abbrev pub ten_digits : ℕ → List ℕ
ten_digits n =
    (48 + n / 1000000000 % 10) ∷ (48 + n / 100000000 % 10) ∷ (48 + n / 10000000 % 10) ∷ (48 + n / 1000000 % 10) ∷ (48 + n / 100000 % 10)
    ∷ (48 + n / 10000 % 10) ∷ (48 + n / 1000 % 10) ∷ (48 + n / 100 % 10) ∷ (48 + n / 10 % 10) ∷ (48 + n % 10) ∷ []

-- a number below 10 ^ 10 in decimal
unfoldable pub decimal : ℕ → List ℕ
decimal n = trimmed (ten_digits n)

-- `0` to `9`, then `A` to `F`
abbrev pub glyph : ℕ → ℕ
glyph x = cond (ltb x 10) (48 + x) (55 + x)

-- a number below 2 ^ 32 as eight hexadecimal digits
unfoldable pub hexadecimal : ℕ → List ℕ
hexadecimal n =
    glyph (n / 268435456 % 16) ∷ glyph (n / 16777216 % 16) ∷ glyph (n / 1048576 % 16) ∷ glyph (n / 65536 % 16)
    ∷ glyph (n / 4096 % 16) ∷ glyph (n / 256 % 16) ∷ glyph (n / 16 % 16) ∷ glyph (n % 16) ∷ []

-- the words, as ASCII
abbrev pub refused_word : List ℕ
refused_word = 114 ∷ 101 ∷ 102 ∷ 117 ∷ 115 ∷ 101 ∷ 100 ∷ 32 ∷ []

abbrev pub geometry_word : List ℕ
geometry_word = 103 ∷ 101 ∷ 111 ∷ 109 ∷ 101 ∷ 116 ∷ 114 ∷ 121 ∷ 32 ∷ []

abbrev pub basis_word : List ℕ
basis_word = 98 ∷ 97 ∷ 115 ∷ 105 ∷ 115 ∷ 32 ∷ []

abbrev pub added_word : List ℕ
added_word = 97 ∷ 100 ∷ 100 ∷ 101 ∷ 100 ∷ 32 ∷ []

abbrev pub found_word : List ℕ
found_word = 102 ∷ 111 ∷ 117 ∷ 110 ∷ 100 ∷ 32 ∷ []

abbrev pub checked_word : List ℕ
checked_word = 32 ∷ 99 ∷ 104 ∷ 101 ∷ 99 ∷ 107 ∷ 101 ∷ 100 ∷ 32 ∷ []

abbrev pub space : List ℕ
space = 32 ∷ []

-- a word and a number
abbrev pub number : List ℕ → ℕ → List ℕ
number word n = word ++ decimal n

-- a word, a number, the line's end
abbrev pub line : List ℕ → ℕ → List ℕ
line word n = number word n ++ (10 ∷ [])

-- the line of a refusal, by its number
unfoldable pub refused_line : ℕ → List ℕ
refused_line n = line refused_word n

-- the first line that a record prints
unfoldable pub told : Told → List ℕ
told (Refused n) = refused_line n
told (Geometry d n cap mode) = number geometry_word d ++ number space n ++ number space cap ++ line space mode
told (Basis b) = line basis_word b
told (Added id) = line added_word id
told (Found len checked) = number found_word len ++ line checked_word checked

-- an entry of a search's list: the id, and the bits of its score
unfoldable pub entry : ℕ → Float → List ℕ
entry id score = decimal id ++ space ++ hexadecimal (to_bits binary32 score) ++ (10 ∷ [])

-- the first n entries
unfoldable pub listing : ℕ → List ℕ → List Float → List ℕ
listing zero ids scores = []
listing (suc n) [] scores = []
listing (suc n) (i ∷ ids) [] = []
listing (suc n) (i ∷ ids) (s ∷ scores) = entry i s ++ listing n ids scores
