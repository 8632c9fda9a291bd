-- One turn of each loop of an addition, on plain values. Assumes nothing.
use Prim.Native.Nat.{ℕ, zero, suc, ◌+◌, ◌-◌, ◌*◌, ◌<◌, ◌≤◌}
use mathlib.Core.Path.{◌≡◌, refl, sym, ap, ap₂, ◌∙◌}
use mathlib.Core.List.{List, [], ◌∷◌, ◌++◌, append-nil, append_assoc}
use native.Mathlib.Omega.{arith}
use native.Mathlib.Decide.{ℕ_discrete}
use native.Mathlib.Numerals.{add-one}
use native.Mathlib.Nat.{mul_comm}
use lib.Ieee.{Float}
use lib.ListN.{length, take, drop, set, get_or}
use lib.Seq.{sets, take-suc, length-take-le, get_or-set_same, get_or-set_other}
use Rattle.paper.specs.Geometry.{comp_size}
use Rattle.index_memory.specs.Memory.{face_bit}
use Rattle.index_memory.proofs.Places.{part_is}
use Rattle.bitmaps.specs.Words.{inserted}
use Rattle.basis.specs.Project.{projected}
use Rattle.quantization.specs.Stored.{comp_bytes, lower_bytes}
use Rattle.quantization.proofs.Sets.{sets_append}
use Rattle.quantization.proofs.Stored.{length_lower}
use Rattle.basis.specs.Bases.{projection_at}
use Rattle.adding.specs.Adding.{with_faces}

-- ---- the slots

pub projection_here : (d p b : ℕ) (bs v : List Float) → p ≡ b * (d * d) → projected (take (p + d * d - p) (drop p bs)) v ≡ projection_at d bs v b
unfolding projection_at
projection_here d p b bs v e = rw (part_is b (d * d) p bs e)

-- one more slot written
pub slot_more : (f : ℕ → ℕ) (slots : List ℕ) (b s : ℕ) → b < length slots → ((j : ℕ) → j < b → get_or slots j 0 ≡ f j) → s ≡ f b → (j : ℕ) → j < b + 1 → get_or (set slots b s) j 0 ≡ f j
slot_more f slots b s l h e j lt = go (ℕ_discrete j b)
  where
    go : Dec (j ≡ b) → get_or (set slots b s) j 0 ≡ f j
    go (yes q) = ap (λ (k : ℕ). get_or (set slots b s) k 0) q ∙ get_or-set_same slots b s 0 l ∙ e ∙ ap f (sym q)
    go (no ne) = get_or-set_other slots b j s 0 ne ∙ h j (omega arith)

-- ---- the face bits

pub with_more : (d cap id : ℕ) (slot : ℕ → ℕ) (b : ℕ) (fs₀ fs : List ℕ) → fs ≡ with_faces d cap id slot b fs₀ → inserted fs (face_bit d cap b (slot b) id) ≡ with_faces d cap id slot (b + 1) fs₀
unfolding with_faces
with_more d cap id slot b fs₀ fs p = rw (add-one, p) refl

pub with_same : (d cap id : ℕ) (s t : ℕ → ℕ) (n : ℕ) (fs : List ℕ) → ((b : ℕ) → b < n → s b ≡ t b) → with_faces d cap id s n fs ≡ with_faces d cap id t n fs
unfolding with_faces
with_same d cap id s t zero fs h = refl
with_same d cap id s t (suc b) fs h =
    ap₂ (λ (r : List ℕ) (k : ℕ). inserted r (face_bit d cap b k id)) (with_same d cap id s t b fs (λ j l. h j (omega arith))) (h b (omega arith))

-- ---- the stored bytes

pub length_lowered : (mode : ℕ) (xs : List Float) → length (lower_bytes mode xs) ≡ comp_size mode * length xs
length_lowered mode xs = length_lower mode xs ∙ mul_comm (length xs) (comp_size mode)

lowered_append : (mode : ℕ) (xs ys : List Float) → lower_bytes mode (xs ++ ys) ≡ lower_bytes mode xs ++ lower_bytes mode ys
unfolding lower_bytes
lowered_append mode [] ys = refl
lowered_append mode (x ∷ xs) ys =
    ap (λ (r : List ℕ). comp_bytes mode x ++ r) (lowered_append mode xs ys) ∙ sym (append_assoc (comp_bytes mode x) (lower_bytes mode xs) (lower_bytes mode ys))

lowered_one : (mode : ℕ) (x : Float) → lower_bytes mode (x ∷ []) ≡ comp_bytes mode x
unfolding lower_bytes
lowered_one mode x = append-nil (comp_bytes mode x)

pub lowered_none : (mode : ℕ) (l : List ℕ) (at : ℕ) (w : List Float) → l ≡ sets l at (lower_bytes mode (take 0 w))
unfolding lower_bytes
lowered_none mode l at w = refl

pub lowered_more : (mode : ℕ) (l : List ℕ) (at : ℕ) (w : List Float) (i : ℕ) (z : Float) → i < length w
    → sets (sets l at (lower_bytes mode (take i w))) (at + comp_size mode * i) (comp_bytes mode (get_or w i z)) ≡ sets l at (lower_bytes mode (take (i + 1) w))
lowered_more mode l at w i z h =
    let le : i ≤ length w = omega arith in
    let e : length (lower_bytes mode (take i w)) ≡ comp_size mode * i = length_lowered mode (take i w) ∙ ap (λ (k : ℕ). comp_size mode * k) (length-take-le i w le) in
    let t : lower_bytes mode (take (i + 1) w) ≡ lower_bytes mode (take i w) ++ comp_bytes mode (get_or w i z) =
    rw (add-one, take-suc w i z h) (lowered_append mode (take i w) (get_or w i z ∷ []) ∙ ap (λ (r : List ℕ). lower_bytes mode (take i w) ++ r) (lowered_one mode (get_or w i z))) in
    sym (ap (λ (r : List ℕ). sets l at r) t ∙ sets_append l (lower_bytes mode (take i w)) (comp_bytes mode (get_or w i z)) at
    ∙ ap (λ (k : ℕ). sets (sets l at (lower_bytes mode (take i w))) (at + k) (comp_bytes mode (get_or w i z))) e)
