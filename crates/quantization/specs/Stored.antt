-- Components as they are stored (01, "Geometry and memory", "bf16"): little-endian, in mode 0 the four bytes of the binary32, in mode 1 the
-- two of its bf16. Everything is said once, over the component's size.
use Rattle.std.specs.Prelude.{List, [], ◌∷◌, ◌++◌, ℕ, zero, suc, ◌+◌, T, eqb, get_or, Float}
use Rattle.std.specs.Float.{nan, binary32}
use Rattle.std.specs.Float.Ieee.{to_bits, of_bits, fits}
use Rattle.paper.specs.Choice.{pick}
use Rattle.paper.specs.Geometry.{comp_size}
use Rattle.quantization.specs.Bf16.{lowered, widened}
use Rattle.quantization.specs.Bytes.{le_bytes, le_word}

-- the number that is stored for a float, and the float that is read for a number
unfoldable pub encoded : ℕ → Float → ℕ
encoded mode x = pick (eqb mode 0) (to_bits binary32 x) (lowered (to_bits binary32 x))

unfoldable pub decoded : ℕ → ℕ → Float
decoded mode n = of_bits binary32 (pick (eqb mode 0) n (widened n))

-- what a stored float is when it is read again: itself in mode 0, its bf16's value in mode 1
unfoldable pub restored : ℕ → Float → Float
restored mode x = decoded mode (encoded mode x)

-- the bytes of one component, and of a vector's components one after another
unfoldable pub comp_bytes : ℕ → Float → List ℕ
comp_bytes mode x = le_bytes (comp_size mode) (encoded mode x)

unfoldable pub lower_bytes : ℕ → List Float → List ℕ
lower_bytes mode [] = []
lower_bytes mode (x ∷ xs) = comp_bytes mode x ++ lower_bytes mode xs

-- the component that starts at byte `at`, and n components from there on
unfoldable pub component_at : ℕ → List ℕ → ℕ → Float
component_at mode s at = decoded mode (le_word s at (comp_size mode))

unfoldable pub components : ℕ → List ℕ → ℕ → ℕ → List Float
components mode s at zero = []
components mode s at (suc n) = component_at mode s at ∷ components mode s (at + comp_size mode) n

-- every float of a list is one of binary32, as those of an `f32` slice are
abbrev pub Fit : List Float → Type 0
Fit xs = (i : ℕ) → T (fits binary32 (get_or xs i nan))
