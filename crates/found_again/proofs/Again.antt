-- An id in the face sets of a vector's face is in every union, layer and chosen layer of a search for the vector; an addition puts its id there, and additions and
-- merges keep it there. Assumes nothing.
use Prim.Native.Nat.{ℕ, zero, suc, ◌+◌, ◌*◌, ◌<◌, ◌≤◌}
use native.Mathlib.Omega.{arith}
use mathlib.Core.Path.{◌≡◌, refl, sym, ap, ◌∙◌, subst}
use mathlib.Core.Bool.{true}
use mathlib.Core.List.{List}
use mathlib.Core.Logic.{◌⊎◌, inl, inr}
use lib.Ieee.{Float}
use lib.ListN.{length}
use Rattle.paper.specs.Geometry.{Geo, set_words, face_words}
use Rattle.paper.proofs.GeometryFacts.{face_words_by_basis}
use Rattle.index_memory.specs.Memory.{Ix, face_bit}
use Rattle.index_memory.proofs.Places.{part_long, part_is}
use Rattle.bitmaps.specs.Words.{has}
use Rattle.counting_bitmap.specs.Layers.{layer, times}
use Rattle.basis.specs.Bases.{projection_at, projections_finite}
use Rattle.faces.specs.Slots.{slot_of, slots}
use Rattle.faces.proofs.Slots.{picks_some}
use Rattle.candidates.specs.Gathering.{faces_at, face_set, in_any, union_of, Query, target_finite, union_at, unions_from, layers_of}
use Rattle.candidates.proofs.Unions.{face_set_has, union_has, layer_counts}
use Rattle.vector_store.specs.Search.{Nearest, searched_by, AcceptedSearch}
use Rattle.vector_store.proofs.Answers.{chosen_highest}
use Rattle.adding.specs.Adding.{face_slot, added_ix, add_of}
use Rattle.adding.proofs.Accepted.{length_projection, face_slot_low, accepted_shape, accepted_finite}
use Rattle.adding.proofs.Faces.{length_faces}
use Rattle.adding.proofs.Kept.{none, after, added_face, faces_stay}
use Rattle.merging.specs.Merging.{merge_of}
use Rattle.merging.proofs.Merged.{faces_joined, merged_long}
use Rattle.found_again.specs.Laws.{InFaces, after_adding}

-- what the first picked face set has, the union of the picked ones has
first_in : (m w : ℕ) (fs : List ℕ) (p : List Float) (id : ℕ) → 1 ≤ m → has (face_set w fs (slot_of p)) id ≤ in_any w fs (slots m p) id
unfolding in_any slots
first_in zero w fs p id h = absurd (omega arith)
first_in (suc m) w fs p id h = omega arith

-- an id that every union has is counted once a union
times_all : (q : Query) (id m b : ℕ) → ((j : ℕ) → b ≤ j → j < b + m → has (union_at q j) id ≡ 1) → times (unions_from q m b) id ≡ m
unfolding times unions_from
times_all q id zero b h = refl
times_all q id (suc m) b h = omega (arith, h b (omega arith) (omega arith), times_all q id m (suc b) (λ j l u. h j (omega arith) (omega arith)))

-- ---- a search of an index that has the id in the face sets

module _ (g : Geo) (bs : List Float) (id : ℕ) (v : List Float) (ix : Ix) (f : InFaces g bs id v ix) (spill : ℕ) where
  abbrev q : Query
  q = searched_by g bs ix v spill

  -- for d, the length of the target
  union_in : (b : ℕ) → b < g.n → has (union_of q.picks q.w (faces_at q.faces g.d q.w b) (projection_at g.d bs v b)) id ≡ 1
  union_in b h =
      let w = set_words g.cap in
      let fs = faces_at q.faces g.d w b in
      let p = projection_at g.d bs v b in
      let faces_long : length ix.faces ≡ g.n * (2 * g.d * w) = f.faces ∙ face_words_by_basis g.d g.n g.cap in
      let low : slot_of p < 2 * g.d = face_slot_low g.d bs v b f.vector f.facts.d_low in
      let set : has (face_set w fs (slot_of p)) id ≡ 1 = face_set_has q.faces g.d g.cap b (slot_of p) id f.facts.cap_even low f.id_low ∙ f.bits b h in
      let lp : length p ≡ g.d = length_projection g.d bs v b ∙ f.vector in
      let lf : length fs ≡ 2 * g.d * w = ap length (sym (part_is b (2 * g.d * w) (b * (2 * g.d * w)) q.faces refl)) ∙ part_long b g.n (2 * g.d * w) (b * (2 * g.d * w)) q.faces h refl faces_long in
      let lf' : length fs ≡ 2 * length p * w = rw lp lf in
      let some : 1 ≤ length p = omega (arith, lp, f.facts.d_low) in
      omega (arith, union_has q.picks w fs p id some lf', first_in q.picks w fs p id (picks_some g.d spill f.facts.d_low), set)

  pub picked_anywhere : (b : ℕ) → b < g.n → has (union_at q b) id ≡ 1
  unfolding union_at
  picked_anywhere b h =
      subst (λ (d : ℕ). has (union_of q.picks q.w (faces_at q.faces d q.w b) (projection_at d bs v b)) id ≡ 1) (sym f.vector) (union_in b h)

  pub layered_anywhere : (j : ℕ) → j < g.n → has (layer (set_words g.cap) (layers_of g.n q) j) id ≡ 1
  layered_anywhere j h =
      let t : times (unions_from q g.n 0) id ≡ g.n = times_all q id g.n 0 (λ b l u. picked_anywhere b (omega arith)) in
      omega (arith, layer_counts g.n q id j h, t)

  pub chosen_anywhere : (k sk : ℕ) (ms vs : List ℕ) (r : Nearest) (a : AcceptedSearch g.n g.mode k sk q ms vs r) → has (layer (set_words g.cap) (layers_of g.n q) a.at) id ≡ 1
  chosen_anywhere k sk ms vs r a = layered_anywhere a.at (chosen_highest g.n g.mode k sk q ms vs r a).below

-- ---- which indexes are such

faces_same : (g : Geo) (bs : List Float) (id : ℕ) (v : List Float) (ix : Ix) (work : List Float) → (add_of g bs id v ix work).answer ≡ 0
    → length (add_of g bs id v ix work).ix.faces ≡ length ix.faces
unfolding added_ix
faces_same g bs id v ix work e =
    ap (λ (x : Ix). length x.faces) (after g bs id v ix work e) ∙ length_faces g.d g.cap id (face_slot g.d bs v) g.n ix.faces

pub adding_puts : (g : Geo) (bs : List Float) (id : ℕ) (v : List Float) (ix : Ix) (work : List Float) → (add_of g bs id v ix work).answer ≡ 0
    → InFaces g bs id v (add_of g bs id v ix work).ix
adding_puts g bs id v ix work e =
    let s = accepted_shape g bs id v ix work (none g bs id v ix work e) in
    record {
      facts = s.facts;
      faces = faces_same g bs id v ix work e ∙ s.faces;
      vector = s.vector;
      id_low = s.id_low;
      bits = added_face g bs id v ix work e;
    }

-- face sets that have every bit that other ones had
module _ (g : Geo) (bs : List Float) (id : ℕ) (v : List Float) (ix : Ix) (f : InFaces g bs id v ix) where
  kept : (new : Ix) → length new.faces ≡ face_words g.d g.n g.cap → ((k : ℕ) → has ix.faces k ≤ has new.faces k) → InFaces g bs id v new
  kept new l h =
      record {
        facts = f.facts;
        faces = l;
        vector = f.vector;
        id_low = f.id_low;
        bits = λ b m.
            let k = face_bit g.d g.cap b (face_slot g.d bs v b) id in
            let one = f.bits b m in
            let more = h k in
            omega arith;
      }

  pub adding_keeps : (j : ℕ) (x work : List Float) → (add_of g bs j x ix work).answer ≡ 0 → InFaces g bs id v (add_of g bs j x ix work).ix
  adding_keeps j x work e = kept (add_of g bs j x ix work).ix (faces_same g bs j x ix work e ∙ f.faces) (faces_stay g bs j x ix work e)

pub merging_keeps : (g : Geo) (bs : List Float) (id : ℕ) (v : List Float) (a b : Ix) → InFaces g bs id v a ⊎ InFaces g bs id v b
    → (merge_of g a b).answer ≡ 0 → InFaces g bs id v (merge_of g a b).ix
merging_keeps g bs id v a b (inl f) e =
    kept g bs id v a f (merge_of g a b).ix (merged_long g a b e) (λ k. let j = faces_joined g a b e k in omega arith)
merging_keeps g bs id v a b (inr f) e =
    kept g bs id v b f (merge_of g a b).ix (merged_long g a b e) (λ k. let j = faces_joined g a b e k in omega arith)

-- ---- right after an addition

module _ (g : Geo) (bs : List Float) (id : ℕ) (v : List Float) (ix : Ix) (work : List Float) (e : (add_of g bs id v ix work).answer ≡ 0) (spill : ℕ) where
  pub projects_again : target_finite (after_adding g bs id v ix work spill) g.n ≡ true
  projects_again =
      subst (λ (d : ℕ). projections_finite d bs v g.n ≡ true) (sym (adding_puts g bs id v ix work e).vector)
      (accepted_finite g bs id v ix work (none g bs id v ix work e))
