-- What the candidates of a search are: which ids a basis's union has, which ids a layer has, and that nothing falls off the last layer. Assumes nothing.
use Prim.Native.Nat.{ℕ, zero, suc, ◌+◌, ◌-◌, ◌*◌, ◌/◌, ◌%◌, ◌<◌, ◌≤◌, max, min}
use native.Mathlib.Omega.{arith}
use native.Mathlib.Nat.{mul_assoc, add-mul, add_assoc}
use mathlib.Core.Path.{◌≡◌, refl, sym, ap, ◌∙◌}
use mathlib.Core.List.{List, [], ◌∷◌}
use lib.Arith.{digits_lt}
use lib.Ieee.{Float}
use lib.ListN.{length, take, drop, length-replicate}
use lib.Seq.{get_or-take, get_or-drop}
use Rattle.paper.specs.Geometry.{set_words}
use Rattle.index_memory.specs.Memory.{face_bit}
use Rattle.index_memory.proofs.Places.{part_long, part_is, face_bit_word, face_bit_digit}
use Rattle.bitmaps.specs.Words.{has, union}
use Rattle.bitmaps.proofs.Zip.{by_word_length}
use Rattle.bitmaps.proofs.Digits.{has_union}
use Rattle.bitmaps.proofs.Members.{has_empty}
use Rattle.counting_bitmap.specs.Layers.{empty, layer, times, Sized, none, more}
use Rattle.counting_bitmap.proofs.Counting.{counts}
use Rattle.counting_bitmap.proofs.Dropped.{drops_nothing}
use Rattle.faces.specs.Slots.{slot_of, picked_of, slots, picks_of}
use Rattle.faces.proofs.Slots.{slot_low, length_picked, slots_begin, picks_more}
use Rattle.candidates.specs.Gathering.{face_set, joined, union_of, in_any, Query, faces_at, target_on, union_at, unions_from, layers_of, dropped_of}

-- ---- one address for a face set

-- word k of basis b's slot, counted from the front of all face sets
word_of : (b e slot w k : ℕ) → b * (e * w) + (slot * w + k) ≡ (b * e + slot) * w + k
word_of b e slot w k = rw (← mul_assoc b e w, add-mul (b * e) slot w, add_assoc (b * e * w) (slot * w) k)

pub face_set_has : (fs : List ℕ) (d cap b slot id : ℕ) → cap % 64 ≡ 0 → slot < 2 * d → id < cap
    → has (face_set (set_words cap) (faces_at fs d (set_words cap) b) slot) id ≡ has fs (face_bit d cap b slot id)
face_set_has fs d cap b slot id e s h =
    let w = set_words cap in
    let l : id / 64 < w = omega arith in
    let m : slot * w + id / 64 < 2 * d * w = digits_lt s l in
    rw (
      face_bit_word d cap b slot id e,
      face_bit_digit d cap b slot id e,
      get_or-take w (drop (slot * w) (faces_at fs d w b)) (id / 64) 0 l,
      get_or-drop (slot * w) (faces_at fs d w b) (id / 64) 0,
      get_or-take (2 * d * w) (drop (b * (2 * d * w)) fs) (slot * w + id / 64) 0 m,
      get_or-drop (b * (2 * d * w)) fs (slot * w + id / 64) 0,
      word_of b (2 * d) slot w (id / 64),
    )

-- ---- the union of a basis

joined_long : (w : ℕ) (fs s xs : List ℕ) → length (joined w fs s xs) ≡ length s
unfolding joined
joined_long w fs s [] = refl
joined_long w fs s (x ∷ xs) = joined_long w fs (union s (face_set w fs x)) xs ∙ by_word_length _ s (face_set w fs x)

pub union_long : (picks w : ℕ) (fs : List ℕ) (p : List Float) → length (union_of picks w fs p) ≡ w
unfolding union_of
union_long picks w fs p = joined_long w fs (empty w) (slots picks p) ∙ length-replicate w 0

joined_has : (m w : ℕ) (fs : List ℕ) (p : List Float) (s : List ℕ) (id : ℕ) → 1 ≤ length p → length fs ≡ 2 * length p * w → length s ≡ w
    → has (joined w fs s (slots m p)) id ≡ max (has s id) (in_any w fs (slots m p) id)
unfolding joined slots in_any
joined_has zero w fs p s id h l e = omega arith
joined_has (suc m) w fs p s id h l e =
    let face = face_set w fs (slot_of p) in
    let long : length face ≡ w = ap length (sym (part_is (slot_of p) w (slot_of p * w) fs refl)) ∙ part_long (slot_of p) (2 * length p) w (slot_of p * w) fs (slot_low p h) refl l in
    let k : length (picked_of p) ≡ length p = length_picked p in
    let l' : length fs ≡ 2 * length (picked_of p) * w = rw k l in
    let ih = joined_has m w fs (picked_of p) (union s face) id (omega arith) l' (by_word_length _ s face ∙ e) in
    let u = has_union s face (e ∙ sym long) id in
    omega (arith, ih, u)

-- an id is in the union exactly if one of the picked face sets has it
pub union_has : (picks w : ℕ) (fs : List ℕ) (p : List Float) (id : ℕ) → 1 ≤ length p → length fs ≡ 2 * length p * w
    → has (union_of picks w fs p) id ≡ in_any w fs (slots picks p) id
unfolding union_of
union_has picks w fs p id h l = omega (arith, joined_has picks w fs p (empty w) id h l (length-replicate w 0), has_empty w id)

-- ---- a larger spill keeps every id of the union

any_fewer : (w : ℕ) (fs xs : List ℕ) (m id : ℕ) → in_any w fs (take m xs) id ≤ in_any w fs xs id
unfolding in_any
any_fewer w fs xs zero id = omega arith
any_fewer w fs [] (suc m) id = omega arith
any_fewer w fs (x ∷ xs) (suc m) id = omega (arith, any_fewer w fs xs m id)

pub union_grows : (m n w : ℕ) (fs : List ℕ) (p : List Float) (id : ℕ) → m ≤ n → 1 ≤ length p → length fs ≡ 2 * length p * w
    → has (union_of m w fs p) id ≤ has (union_of n w fs p) id
union_grows m n w fs p id h d l =
    let few = any_fewer w fs (slots n p) m id in
    let begin : in_any w fs (take m (slots n p)) id ≡ in_any w fs (slots m p) id = ap (λ (xs : List ℕ). in_any w fs xs id) (slots_begin m n p h) in
    omega (arith, few, begin, union_has m w fs p id d l, union_has n w fs p id d l)

-- for the picks of two spills, each held to d - 1
pub spill_grows : (d s t w : ℕ) (fs : List ℕ) (p : List Float) (id : ℕ) → s ≤ t → 1 ≤ length p → length fs ≡ 2 * length p * w
    → has (union_of (picks_of d s) w fs p) id ≤ has (union_of (picks_of d t) w fs p) id
spill_grows d s t w fs p id h = union_grows (picks_of d s) (picks_of d t) w fs p id (picks_more d s t h)

-- ---- the layers

unions_sized : (q : Query) (m b : ℕ) → Sized q.w (unions_from q m b)
unfolding unions_from union_at
unions_sized q zero b = none
unions_sized q (suc m) b =
    more (union_long q.picks q.w (faces_at q.faces (length q.target) q.w b) (target_on q b)) (unions_sized q m (suc b))

unions_many : (q : Query) (m b : ℕ) → length (unions_from q m b) ≡ m
unfolding unions_from
unions_many q zero b = refl
unions_many q (suc m) b = ap suc (unions_many q m (suc b))

-- layer j of a search holds exactly the ids that are in more than j of the bases' unions
pub layer_counts : (n : ℕ) (q : Query) (id j : ℕ) → j < n → has (layer q.w (layers_of n q) j) id ≡ min 1 (times (unions_from q n 0) id - j)
unfolding layers_of
layer_counts n q id j h = counts n q.w (unions_from q n 0) (unions_sized q n 0) id j h

-- as many unions as layers: a search drops nothing
pub search_drops_none : (n : ℕ) (q : Query) → dropped_of n q ≡ 0
unfolding dropped_of
search_drops_none n q = drops_nothing n q.w (unions_from q n 0) (omega (arith, unions_many q n 0)) (unions_sized q n 0)
