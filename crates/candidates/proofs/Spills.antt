-- One turn of spilling, on plain values. Assumes nothing.
use Prim.Native.Nat.{ℕ, suc, ◌+◌, ◌-◌, ◌*◌, ◌<◌, ◌≤◌}
use native.Mathlib.Omega.{arith}
use mathlib.Core.Path.{◌≡◌, refl}
use mathlib.Core.List.{List}
use lib.Ieee.{Float}
use lib.ListN.{take, drop}
use Rattle.index_memory.proofs.Places.{part_is}
use Rattle.bitmaps.specs.Words.{union}
use Rattle.faces.specs.Slots.{slot_of, picked_of, slots}
use Rattle.candidates.specs.Gathering.{joined}

pub spill_turn : (picks i w slot : ℕ) (fs : List ℕ) (p p' : List Float) (s s' : List ℕ)
    → i < picks → slot ≡ slot_of p → p' ≡ picked_of p → s' ≡ union s (take (slot * w + w - slot * w) (drop (slot * w) fs))
    → joined w fs s' (slots (picks - (i + 1)) p') ≡ joined w fs s (slots (picks - i) p)
unfolding joined slots
spill_turn picks i w slot fs p p' s s' h es ep e =
    let a : picks - i ≡ suc (picks - (i + 1)) = omega arith in
    rw (a, ep, e, part_is slot w (slot * w) fs refl, es)

pub spill_end : (picks i w : ℕ) (fs : List ℕ) (p : List Float) (s : List ℕ) → picks ≤ i → joined w fs s (slots (picks - i) p) ≡ s
unfolding joined slots
spill_end picks i w fs p s h = let a : picks - i ≡ 0 = omega arith in rw a
