-- What an accepted addition passed, and that its stored vector reads back. Assumes nothing.
use Prim.Native.Nat.{ℕ, zero, suc, ◌+◌, ◌*◌, ◌<◌, ◌≤◌}
use mathlib.Core.Path.{◌≡◌, refl, sym, ap, subst, ◌∙◌}
use mathlib.Core.List.{List, [], ◌∷◌, map}
use mathlib.Core.Bool.{Bool, true, false}
use native.Mathlib.Omega.{arith}
use native.Mathlib.Nat.{mul_comm}
use borrow.Author.Tests.{eqb-true, eqb-false, eq-eqb}
use lib.Dec.{T, eqb}
use lib.Ieee.{Float, binary32, fits}
use lib.Ieee.Fits.{nan-fits, div-fits}
use lib.ListN.{length}
use lib.Seq.{sets}
use Rattle.paper.specs.Choice.{pick, refuse}
use Rattle.paper.specs.Geometry.{Geo, comp_size}
use Rattle.index_memory.specs.Memory.{Ix, slot_bytes, slot_at}
use Rattle.index_memory.proofs.Places.{place}
use Rattle.vector.specs.Finite.{all_finite}
use Rattle.vector.specs.Norm.{norm_number, norm_of, normalized}
use Rattle.vector.proofs.Vectors.{length_normalized}
use Rattle.basis.proofs.Projections.{length_projected}
use Rattle.faces.specs.Slots.{slot_of}
use Rattle.faces.proofs.Slots.{slot_low}
use Rattle.quantization.specs.Stored.{lower_bytes, components, restored, Fit}
use Rattle.quantization.proofs.Stored.{components_back}
use Rattle.basis.specs.Bases.{basis_at, projection_at, projections_finite}
use Rattle.adding.specs.Adding.{face_slot, with_vector, added_ix, add_shape, late_refusal, add_refusal, add_of, Shaped}
use Rattle.adding.proofs.Shape.{shaped}
use Rattle.adding.proofs.Turns.{length_lowered}
use Rattle.adding.proofs.Cases.{refusal_split}

pub length_projection : (d : ℕ) (bs v : List Float) (b : ℕ) → length (projection_at d bs v b) ≡ length v
unfolding projection_at
length_projection d bs v b = length_projected (basis_at bs d b) v

-- a slot is one of a basis's 2d
pub face_slot_low : (d : ℕ) (bs v : List Float) (b : ℕ) → length v ≡ d → 1 ≤ d → face_slot d bs v b < 2 * d
face_slot_low d bs v b e h =
    let l : length (projection_at d bs v b) ≡ d = length_projection d bs v b ∙ e in
    subst (λ (k : ℕ). slot_of (projection_at d bs v b) < 2 * k) l (slot_low (projection_at d bs v b) (subst (λ (k : ℕ). 1 ≤ k) (sym l) h))

-- the stored bytes fill the id's slot
pub length_stored : (d mode : ℕ) (v : List Float) → length v ≡ d → length (lower_bytes mode (normalized v)) ≡ comp_size mode * d
length_stored d mode v e = length_lowered mode (normalized v) ∙ ap (λ (k : ℕ). comp_size mode * k) (length_normalized v ∙ e)

-- ---- an accepted addition

first_none : (s rest : ℕ) → pick (eqb s 0) rest s ≡ 0 → (s ≡ 0) × (rest ≡ 0)
first_none s rest e = go (eqb s 0) refl e
  where
    go : (b : Bool) → eqb s 0 ≡ b → pick b rest s ≡ 0 → (s ≡ 0) × (rest ≡ 0)
    go true p e = (eqb-true s 0 p, e)
    go false p e = absurd (eqb-false s 0 p e)

late_passed : (a b c : Bool) → refuse 5 a (refuse 6 b (refuse 7 c 0)) ≡ 0 → (b ≡ true) × (c ≡ true)
late_passed true true true e = (refl, refl)
late_passed true true false e = let no : ⊥ = omega arith in absurd no
late_passed true false c e = let no : ⊥ = omega arith in absurd no
late_passed false b c e = let no : ⊥ = omega arith in absurd no

module _ (g : Geo) (bs : List Float) (id : ℕ) (v : List Float) (ix : Ix) (work : List Float) (e : add_refusal g bs id v ix work ≡ 0) where
  split : (add_shape g id (length bs) (length ix.faces) (length ix.marks) (length ix.vecs) (length work) (length v) ≡ 0) × (refuse 5 (all_finite v) (late_refusal g.d g.n bs v) ≡ 0)
  split = first_none _ _ (sym (refusal_split g bs id v ix work) ∙ e)

  pub accepted_shape : Shaped g id (length bs) (length ix.faces) (length ix.marks) (length ix.vecs) (length work) (length v)
  accepted_shape = shaped g id _ _ _ _ _ _ split.0

  pub accepted_norm : norm_number v ≡ 0
  unfolding late_refusal
  accepted_norm = eqb-true _ _ (late_passed (all_finite v) (eqb (norm_number v) 0) (projections_finite g.d bs v g.n) split.1).0

  pub accepted_finite : projections_finite g.d bs v g.n ≡ true
  unfolding late_refusal
  accepted_finite = (late_passed (all_finite v) (eqb (norm_number v) 0) (projections_finite g.d bs v g.n) split.1).1

-- every component of a normalised vector is a binary32
fit_map : (f : Float → Float) → ((x : Float) → T (fits binary32 (f x))) → (xs : List Float) → Fit (map f xs)
fit_map f h [] i = nan-fits binary32
fit_map f h (x ∷ xs) zero = h x
fit_map f h (x ∷ xs) (suc i) = fit_map f h xs i

fit_normalized : (v : List Float) → norm_number v ≡ 0 → Fit (normalized v)
unfolding normalized
fit_normalized v e = rw (eq-eqb (norm_number v) 0 e) (fit_map _ (λ x. div-fits binary32 x (norm_of v)) v)

-- THE STORED VECTOR: after an accepted addition the id's slot reads back as the components of the normalised vector, each as the mode keeps it
pub stored_back : (g : Geo) (bs : List Float) (id : ℕ) (v : List Float) (ix : Ix) (work : List Float) → (add_of g bs id v ix work).answer ≡ 0
    → components g.mode (add_of g bs id v ix work).ix.vecs (slot_at g.d g.mode id) g.d ≡ map (restored g.mode) (normalized v)
unfolding add_of added_ix with_vector
stored_back g bs id v ix work e =
    let s = accepted_shape g bs id v ix work e in
    let l : length (normalized v) ≡ g.d = length_normalized v ∙ s.vector in
    let room : slot_at g.d g.mode id + length (normalized v) * comp_size g.mode ≤ length ix.vecs =
    rw (l, s.vectors, mul_comm g.d (comp_size g.mode)) (place id g.cap (slot_bytes g.d g.mode) s.id_low) in
    rw (e) (ap (λ (k : ℕ). components g.mode (sets ix.vecs (slot_at g.d g.mode id) (lower_bytes g.mode (normalized v))) (slot_at g.d g.mode id) k) (sym l)
    ∙ components_back g.mode ix.vecs (slot_at g.d g.mode id) (normalized v) (fit_normalized v (accepted_norm g bs id v ix work e)) room)
