-- A set of ids is a list of words of 64 binary digits. Id i is digit i % 64 of word i / 64, the lowest digit being number 0.
use Rattle.std.specs.Prelude.{ℕ, zero, suc, ◌+◌, ◌-◌, ◌/◌, ◌%◌, ◌^◌, ◌<◌, Bool, List, [], ◌∷◌, get_or, set, replicate, eqb}
use Rattle.std.specs.Int.Bits.{bit_and, bit_or, bit_xor}
use Rattle.std.specs.Int.Count.{ones}

-- ---- membership: what a reader believes of a set

-- digit k of a word: 0 or 1
abbrev pub digit : ℕ → ℕ → ℕ
digit w k = w / 2 ^ k % 2

-- 1 where the set has id i, and 0 where not; a number, so that "in how many sets" is a sum
abbrev pub has : List ℕ → ℕ → ℕ
has s i = digit (get_or s (i / 64) 0) (i % 64)

-- whether the set has id i
abbrev pub holds : List ℕ → ℕ → Bool
holds s i = eqb (has s i) 1

-- ---- the words: what the calls leave in memory, to the last digit

-- every element is a word: a number of 64 digits, as lent memory holds
abbrev pub Words : List ℕ → Type 0
Words a = (i : ℕ) → get_or a i 0 < 2 ^ 64

-- an operation on two sets, word by word
unfoldable pub by_word : (ℕ → ℕ → ℕ) → List ℕ → List ℕ → List ℕ
by_word f [] b = []
by_word f (x ∷ a) [] = x ∷ a
by_word f (x ∷ a) (y ∷ b) = f x y ∷ by_word f a b

-- the ids of either
abbrev pub union : List ℕ → List ℕ → List ℕ
union = by_word bit_or

-- the ids of just one of the two
abbrev pub exclusive : List ℕ → List ℕ → List ℕ
exclusive = by_word bit_xor

-- the ids of one word that are not in the other
abbrev pub word_but : ℕ → ℕ → ℕ
word_but a b = bit_and a (2 ^ 64 - 1 - b)

-- the ids of the first that are not in the second
abbrev pub without : List ℕ → List ℕ → List ℕ
without = by_word word_but

-- the ids of both
abbrev pub shared : List ℕ → List ℕ → List ℕ
shared = by_word bit_and

-- the set with id i
abbrev pub inserted : List ℕ → ℕ → List ℕ
inserted s i = set s (i / 64) (bit_or (get_or s (i / 64) 0) (2 ^ (i % 64)))

-- m words that hold nothing
abbrev pub empty : ℕ → List ℕ
empty m = replicate m 0

-- the number of ids
unfoldable pub size : List ℕ → ℕ
size [] = 0
size (x ∷ a) = ones x + size a

-- whether there is no id
abbrev pub is_empty : List ℕ → Bool
is_empty s = eqb (size s) 0

-- the sum of f over the n numbers from 0
unfoldable pub sum_to : ℕ → (ℕ → ℕ) → ℕ
sum_to zero f = 0
sum_to (suc n) f = f 0 + sum_to n (λ i. f (suc i))
