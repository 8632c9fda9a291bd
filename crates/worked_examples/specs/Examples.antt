-- P1 to P12, the scope document's worked examples, as one list, and what it means that each of them holds. Floats stand by their
-- bits. Every meaning is what the call's contract says of its answer, refusal and lent memory included; nothing is defined a second time here.
use Rattle.std.specs.Prelude.{ℕ, suc, ◌≡◌, List, [], ◌∷◌, map, ℤ, pos, negsuc, Result, Ok, Err, length, Float}
use Rattle.std.specs.Float.{binary32}
use Rattle.std.specs.Float.Ieee.{of_bits}
use Rattle.paper.specs.declared.Refusal.{Refusal}
use Rattle.paper.specs.declared.Refusal.TheVariants.{NoLayer}
use Rattle.paper.specs.Refusals.{Answers}
use Rattle.sqrt.specs.Root.{Sqrt}
use Rattle.quantization.specs.Bf16.{lowered}
use Rattle.faces.specs.Slots.{face_of}
use Rattle.faces.specs.Answer.{face_number, spilling, listed, spill_of}
use Rattle.bitmaps.specs.Words.{inserted, empty}
use Rattle.bitmaps.specs.Walk.{ids_of}
use Rattle.counting_bitmap.specs.Layers.{layer, merged, merged_all}
use Rattle.counting_bitmap.specs.TopLayer.{top_of}
use Rattle.counting_bitmap.specs.Answers.{merge_fault, layers_fault, ChosenIs}
use Rattle.result.specs.Ranked.{Entry, entry}
use Rattle.result.specs.Leaves.{Leaves}

pub data Example : Type 0 where
  -- a pattern and its square root
  root : ℕ → ℕ → Example
  -- a pattern and its bf16
  half : ℕ → ℕ → Example
  -- a projection and what find_face_idx answers
  face : List ℕ → Result ℤ Refusal → Example
  -- a projection, a spill, the faces picked, none refused, and the projection afterwards
  spill : List ℕ → ℕ → List ℤ → List ℕ → Example
  -- the ids of sets merged into as many empty layers of capacity 64, the ids of each layer then, and for each search_k what top_k_number answers
  layers : List (List ℕ) → List (List ℕ) → List (ℕ × Result ℕ Refusal) → Example
  -- k, the ids and scores fed to an empty set, the ids and scores listed then, and checked
  feeds : ℕ → List (ℕ × ℕ) → List (ℕ × ℕ) → ℕ → Example

-- ---- the list

abbrev pub examples : List Example
examples =
    -- P1, P2, P3
    root 0x4080_0000 0x4000_0000
    ∷ root 0x0000_0001 0x1A35_04F3
    ∷ root 0x7F7F_FFFF 0x5F7F_FFFF
    -- P4, P5, P6
    ∷ half 0x3F80_8000 0x3F80
    ∷ half 0x3F81_8000 0x3F82
    ∷ half 0x7F7F_FFFF 0x7F80
    -- P7: (1,-1); P8: (-3,-1); P9: (5,0,0) with spill 2
    ∷ face (0x3F80_0000 ∷ 0xBF80_0000 ∷ []) (Ok (pos 1))
    ∷ face (0xC040_0000 ∷ 0xBF80_0000 ∷ []) (Ok (negsuc 0))
    ∷ spill (0x40A0_0000 ∷ 0 ∷ 0 ∷ []) 2 (pos 1 ∷ negsuc 0 ∷ negsuc 0 ∷ []) (0 ∷ 0 ∷ 0 ∷ [])
    -- P10: {1,2}, {2,3}, {2}; search_k 1 picks the third, 2 the first, 4 is refused by 8
    ∷ layers ((1 ∷ 2 ∷ []) ∷ (2 ∷ 3 ∷ []) ∷ (2 ∷ []) ∷ []) ((1 ∷ 2 ∷ 3 ∷ []) ∷ (2 ∷ []) ∷ (2 ∷ []) ∷ []) ((1, Ok 2) ∷ (2, Ok 0) ∷ (4, Err NoLayer) ∷ [])
    -- P11: k 2, 7:1.0, 3:2.0, 5:2.0, 9:2.0
    ∷ feeds 2 ((7, 0x3F80_0000) ∷ (3, 0x4000_0000) ∷ (5, 0x4000_0000) ∷ (9, 0x4000_0000) ∷ []) ((3, 0x4000_0000) ∷ (5, 0x4000_0000) ∷ []) 4
    -- P12: k 3, 7:1.5, 5:1.0, 5:2.0
    ∷ feeds 3 ((7, 0x3FC0_0000) ∷ (5, 0x3F80_0000) ∷ (5, 0x4000_0000) ∷ []) ((5, 0x4000_0000) ∷ (7, 0x3FC0_0000) ∷ (5, 0x3F80_0000) ∷ []) 3
    ∷ []

-- ---- what it means that one holds

abbrev pub floats : List ℕ → List Float
floats bits = map (of_bits binary32) bits

-- a set of one word
abbrev pub set_of : List ℕ → List ℕ
set_of [] = empty 1
set_of (i ∷ is) = inserted (set_of is) i

-- the sets merged in turn into these n layers: no merge is refused
abbrev pub Accepted : ℕ → List ℕ → List (List ℕ) → Type 0
Accepted n ls [] = Unit
Accepted n ls (s ∷ ss) = (merge_fault 64 n (length ls) (length s) ≡ 0) × Accepted n (merged n 1 ls s) ss

-- layer j and those after it hold the ids listed
abbrev pub LayersAre : List ℕ → ℕ → List (List ℕ) → Type 0
LayersAre ls j [] = Unit
LayersAre ls j (is ∷ rest) = (ids_of (layer 1 ls j) ≡ is) × LayersAre ls (suc j) rest

-- of these n layers each search_k gets the answer beside it
abbrev pub Picks : ℕ → List ℕ → List (ℕ × Result ℕ Refusal) → Type 0
Picks n ls [] = Unit
Picks n ls (p ∷ ps) = ChosenIs (layers_fault 64 n (length ls)) (top_of n 1 ls p.0) p.1 × Picks n ls ps

abbrev pub entry_of : ℕ × ℕ → Entry
entry_of (id, bits) = entry id (of_bits binary32 bits)

abbrev pub Holds : Example → Type 0
Holds (root b q) = Sqrt b q
Holds (half b h) = lowered b ≡ h
Holds (face bits r) = Answers r (face_number (floats bits)) (face_of (floats bits)) (pos 0)
Holds (spill bits s fs after) = spilling (listed 0 (length fs) fs) (floats after) ≡ spill_of s (floats bits)
Holds (layers sets ls ps) =
    let n = length sets in
    let after = merged_all n 1 (empty n) (map set_of sets) in
    Accepted n (empty n) (map set_of sets) × LayersAre after 0 ls × Picks n after ps
Holds (feeds k given list c) = Leaves k (map entry_of given) (map entry_of list) c

abbrev pub All : List Example → Type 0
All [] = Unit
All (e ∷ es) = Holds e × All es

-- the one claim: P1 to P12 hold
pub record Laws : Type 0 where
  pub examples_hold : All examples
