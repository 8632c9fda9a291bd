-- The digest of a memory.
use Rattle.std.specs.Prelude.{ℕ, ◌+◌, ◌*◌, ◌/◌, ◌%◌, List, [], ◌∷◌}

-- a digest with one number more
abbrev pub taken_of : ℕ → ℕ → ℕ
taken_of h x = (48271 * h + x) % 2147483647

-- a digest with each number of a list more
unfoldable pub digest_of : ℕ → List ℕ → ℕ
digest_of h [] = h
digest_of h (x ∷ xs) = digest_of (taken_of h x) xs

-- a word goes in as two numbers, its low half first
unfoldable pub halves : List ℕ → List ℕ
halves [] = []
halves (w ∷ ws) = w % 4294967296 ∷ w / 4294967296 ∷ halves ws
