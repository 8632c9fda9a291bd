use Prim.Native.Nat.{ℕ}
use mathlib.Core.Path.{◌≡◌}
use lib.Dec.{eqb}
use lib.ListN.{take}
use lib.Bits.{bit_and, bit_or}
use Rattle.bitmaps.specs.Words.{is_empty, shared}
use Rattle.bitmaps.proofs.Zip.{by_word_to}
use Rattle.counting_bitmap.proofs.inner.carry.Given as goal

-- what stays of a set's word where a layer's word takes it
abbrev pub flipped : ℕ → ℕ → ℕ
flipped x y = bit_and y x

abbrev pub invariant-loop-i : goal.invariant-loop-i
invariant-loop-i l =
    (l.layer ≡ by_word_to bit_or l.i l.initial.layer l.initial.cur) × (l.cur ≡ by_word_to flipped l.i l.initial.cur l.initial.layer)
    × (eqb l.any 0 ≡ is_empty (take l.i (shared l.initial.layer l.initial.cur)))
