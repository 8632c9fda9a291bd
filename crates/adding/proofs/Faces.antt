-- The face bits that an addition sets: they stand within the face sets, each is set afterwards, and none is taken out. Assumes nothing.
use Prim.Native.Nat.{ℕ, zero, suc, ◌*◌, ◌≤◌, ◌<◌}
use mathlib.Core.Path.{◌≡◌, refl, sym, ap, ◌∙◌, subst}
use mathlib.Core.List.{List}
use native.Mathlib.Omega.{arith}
use native.Mathlib.Decide.{ℕ_discrete}
use lib.Ieee.{Float}
use lib.ListN.{length, length-set}
use Rattle.paper.specs.Geometry.{Geo}
use Rattle.index_memory.specs.Memory.{face_bit}
use Rattle.index_memory.proofs.Places.{face_bit_low}
use Rattle.bitmaps.specs.Words.{has, inserted}
use Rattle.bitmaps.proofs.Rising.{has_inserted, has_kept}
use Rattle.adding.specs.Adding.{face_slot, with_faces, Shaped}
use Rattle.adding.proofs.Accepted.{face_slot_low}

pub length_faces : (d cap id : ℕ) (slot : ℕ → ℕ) (n : ℕ) (fs : List ℕ) → length (with_faces d cap id slot n fs) ≡ length fs
unfolding with_faces
length_faces d cap id slot zero fs = refl
length_faces d cap id slot (suc b) fs = length-set (with_faces d cap id slot b fs) _ _ ∙ length_faces d cap id slot b fs

-- an id put in takes none out
more_has : (s : List ℕ) (i j : ℕ) → i < length s * 64 → has s j ≤ has (inserted s i) j
more_has s i j h = go (ℕ_discrete j i)
  where
    go : Dec (j ≡ i) → has s j ≤ has (inserted s i) j
    go (yes e) =
        let one : has (inserted s i) j ≡ 1 = ap (λ (k : ℕ). has (inserted s i) k) e ∙ has_inserted s i h in
        omega (arith, one)
    go (no ne) = omega (arith, has_kept s i j h ne)

module _ (g : Geo) (bs : List Float) (id : ℕ) (v : List Float) (fs : List ℕ) (lb lm lv lw : ℕ) (s : Shaped g id lb (length fs) lm lv lw (length v)) where
  abbrev with : ℕ → List ℕ
  with m = with_faces g.d g.cap id (face_slot g.d bs v) m fs

  -- the id's bit for basis b
  abbrev bit : ℕ → ℕ
  bit b = face_bit g.d g.cap b (face_slot g.d bs v b) id

  pub face_room : (m b : ℕ) → b < g.n → bit b < length (with m) * 64
  face_room m b l =
      subst (λ (k : ℕ). bit b < k * 64) (sym (length_faces g.d g.cap id (face_slot g.d bs v) m fs ∙ s.faces))
      (face_bit_low g.d g.n g.cap b (face_slot g.d bs v b) id s.facts.cap_even l (face_slot_low g.d bs v b s.vector s.facts.d_low) s.id_low)

  pub faces_kept : (k m : ℕ) → m ≤ g.n → has fs k ≤ has (with m) k
  unfolding with_faces
  faces_kept k zero h = omega arith
  faces_kept k (suc m) h = omega (arith, faces_kept k m (omega arith), more_has (with m) (bit m) k (face_room m m h))

  pub faces_set : (b m : ℕ) → b < m → m ≤ g.n → has (with m) (bit b) ≡ 1
  unfolding with_faces
  faces_set b zero l h = absurd (omega arith)
  faces_set b (suc m) l h = go (ℕ_discrete b m) (λ (lt : b < m). faces_set b m lt (omega arith))
    where
      go : Dec (b ≡ m) → (b < m → has (with m) (bit b) ≡ 1) → has (with (suc m)) (bit b) ≡ 1
      go (yes e) ih = ap (λ (k : ℕ). has (with (suc m)) (bit k)) e ∙ has_inserted (with m) (bit m) (face_room m m h)
      go (no ne) ih = omega (arith, ih (omega arith), more_has (with m) (bit m) (bit b) (face_room m m h))
