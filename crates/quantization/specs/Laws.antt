-- The laws of this crate, which `laws` claims: what documents and the crates above lean on.
use Rattle.std.specs.Prelude.{◌≡◌, true, List, ◌++◌, map, ℕ, ◌+◌, ◌*◌, ◌/◌, ◌%◌, ◌^◌, ◌≤◌, ◌<◌, T, length, take, drop, Float}
use Rattle.std.specs.Int.Bits.{bit_or}
use Rattle.std.proofs.lemmas.List.Edits.{sets}
use Rattle.std.specs.Float.{binary32}
use Rattle.std.specs.Float.Ieee.{fits, nan_bits, of_bits, to_bits}
use Rattle.paper.specs.Choice.{pick}
use Rattle.paper.specs.Geometry.{mode_ok, comp_size}
use Rattle.quantization.specs.Bf16.{lowered, widened, Nearest}
use Rattle.quantization.specs.Bytes.{le_bytes, le_word}
use Rattle.quantization.specs.Stored.{restored, comp_bytes, lower_bytes, component_at, components, Fit}
use Rattle.quantization.specs.Copies.{marshal_of, unmarshalled, unmarshal_of}

pub record Laws : Type 0 where
  -- lowering gives the nearest half of either sign, a tie the even one, for every pattern but a NaN's; and nothing else is the nearest
  pub lowered_nearest : (b : ℕ) → b < 0x1_0000_0000 → b % 0x8000_0000 ≤ 0x7f80_0000 → Nearest b (lowered b)
  pub nearest_only : (b : ℕ) → b < 0x1_0000_0000 → b % 0x8000_0000 ≤ 0x7f80_0000 → (h : ℕ) → Nearest b h → h ≡ lowered b
  -- a NaN is lowered to its upper half and bit 0040
  pub lowered_nan : (b : ℕ) → 0x7f80_0000 < b % 0x8000_0000 → lowered b ≡ bit_or (b / 65536) 0x40
  -- a half that is widened and lowered again comes back; a NaN's with bit 0040 set, which a quiet one has anyway
  pub lowered_widened : (h : ℕ) → lowered (widened h) ≡ pick (nan_bits binary32 (widened h)) (bit_or h 0x40) h
  -- a whole number that was written as bytes is read
  pub word_put : (s : List ℕ) (at size n : ℕ) → at + size ≤ length s → n < 256 ^ size → le_word (sets s at (le_bytes size n)) at size ≡ n
  -- a stored component is read as what the mode makes of it, and so is a stored vector
  pub component_back : (mode : ℕ) (s : List ℕ) (at : ℕ) (x : Float) → T (fits binary32 x) → at + comp_size mode ≤ length s
      → component_at mode (sets s at (comp_bytes mode x)) at ≡ restored mode x
  pub components_back : (mode : ℕ) (s : List ℕ) (at : ℕ) (xs : List Float) → Fit xs → at + length xs * comp_size mode ≤ length s
      → components mode (sets s at (lower_bytes mode xs)) at (length xs) ≡ map (restored mode) xs
  -- that is itself in mode 0, and its bf16's value in any other; stored again it stays as it is
  pub restored_four : (mode : ℕ) (x : Float) → mode ≡ 0 → T (fits binary32 x) → restored mode x ≡ x
  pub restored_two : (mode : ℕ) (x : Float) → (mode ≡ 0 → ⊥) → restored mode x ≡ of_bits binary32 (widened (lowered (to_bits binary32 x)))
  pub restored_again : (mode : ℕ) (x : Float) → T (fits binary32 x) → restored mode (restored mode x) ≡ restored mode x
  -- after copying out into an array with room, reading its front gives what the mode makes of each component, and keeps the components beyond
  pub read_back : (mode : ℕ) (v : List Float) → mode_ok mode ≡ true → (out : List Float) → Fit v → length v ≤ length out
      → (s : List ℕ) → length v * comp_size mode ≤ length s
      → unmarshal_of mode (take (length v * comp_size mode) (marshal_of mode v s).array) out ≡ unmarshalled 0 (map (restored mode) v ++ drop (length v) out)
