-- Whole numbers as bytes, the lowest byte first: the one account of it for stored components, the program's records and images.
use Rattle.std.specs.Prelude.{List, [], ◌∷◌, ℕ, zero, suc, ◌+◌, ◌*◌, ◌/◌, ◌%◌, get_or}

-- the `size` lowest bytes of n
unfoldable pub le_bytes : ℕ → ℕ → List ℕ
le_bytes zero n = []
le_bytes (suc size) n = n % 256 ∷ le_bytes size (n / 256)

-- the number that the `size` bytes from `at` on stand for
unfoldable pub le_word : List ℕ → ℕ → ℕ → ℕ
le_word s at zero = 0
le_word s at (suc size) = get_or s at 0 + 256 * le_word s (at + 1) size
