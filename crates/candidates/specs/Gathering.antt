-- Gathering: the union of each basis's picked face sets, merged into counting layers (01, "Store and search").
use Rattle.std.specs.Prelude.{ℕ, zero, suc, ◌*◌, ◌≤◌, max, ◌≡◌, Bool, List, [], ◌∷◌, Float, Result, length, take, drop}
use Rattle.paper.specs.Choice.{refuse}
use Rattle.paper.specs.Refusals.{code_of, value_or}
use Rattle.paper.specs.declared.Refusal.{Refusal}
use Rattle.bitmaps.specs.Words.{has, union, size}
use Rattle.counting_bitmap.specs.Layers.{empty, merged, fallen, merged_all, dropped_all}
use Rattle.vector.specs.Finite.{all_finite}
use Rattle.basis.specs.Project.{projected}
use Rattle.basis.specs.Bases.{projection_at, projections_finite}
use Rattle.faces.specs.Slots.{slots, HasFace}

-- ---- one basis

-- the face sets of basis b: 2d sets of w words
abbrev pub faces_at : List ℕ → ℕ → ℕ → ℕ → List ℕ
faces_at fs d w b = take (2 * d * w) (drop (b * (2 * d * w)) fs)

-- the set of a slot among a basis's face sets
abbrev pub face_set : ℕ → List ℕ → ℕ → List ℕ
face_set w fs slot = take w (drop (slot * w) fs)

-- a set joined by the face sets of the slots
unfoldable pub joined : ℕ → List ℕ → List ℕ → List ℕ → List ℕ
joined w fs s [] = s
joined w fs s (slot ∷ rest) = joined w fs (union s (face_set w fs slot)) rest

-- the union of the face sets that a projection picks
unfoldable pub union_of : ℕ → ℕ → List ℕ → List Float → List ℕ
union_of picks w fs p = joined w fs (empty w) (slots picks p)

-- 1 where one of the slots' face sets has the id, else 0
unfoldable pub in_any : ℕ → List ℕ → List ℕ → ℕ → ℕ
in_any w fs [] id = 0
in_any w fs (slot ∷ rest) id = max (has (face_set w fs slot) id) (in_any w fs rest id)

-- ---- all bases

-- what a search goes by: bases, face sets, target, words a set, picks a basis
pub record Query : Type 0 where
  pub bases : List Float
  pub faces : List ℕ
  pub target : List Float
  pub w : ℕ
  pub picks : ℕ

abbrev pub query_of : List Float → List ℕ → List Float → ℕ → ℕ → Query
query_of bs fs t w picks = record { bases = bs; faces = fs; target = t; w = w; picks = picks }

-- the target's projection on basis b
abbrev pub target_on : Query → ℕ → List Float
target_on q b = projection_at (length q.target) q.bases q.target b

-- whether every entry of its projections on the first n bases is finite
abbrev pub target_finite : Query → ℕ → Bool
target_finite q n = projections_finite (length q.target) q.bases q.target n

-- basis b's union
unfoldable pub union_at : Query → ℕ → List ℕ
union_at q b = union_of q.picks q.w (faces_at q.faces (length q.target) q.w b) (target_on q b)

-- the unions of the m bases from b on
unfoldable pub unions_from : Query → ℕ → ℕ → List (List ℕ)
unions_from q zero b = []
unions_from q (suc m) b = union_at q b ∷ unions_from q m (suc b)

-- the n layers that the unions make, merged one after the other into empty ones, and how many ids fell off the last
unfoldable pub layers_of : ℕ → Query → List ℕ
layers_of n q = merged_all n q.w (empty (n * q.w)) (unions_from q n 0)

unfoldable pub dropped_of : ℕ → Query → ℕ
dropped_of n q = dropped_all n q.w (empty (n * q.w)) (unions_from q n 0)

-- ---- what the calls ask and give

-- a refusal, 0 or 7, and how many ids fell off the last layer; a refused call drops 0
pub record Gathered : Type 0 where
  pub refusal : ℕ
  pub dropped : ℕ

abbrev pub gathered : Result ℕ Refusal → Gathered
gathered r = record { refusal = code_of r; dropped = value_or 0 r }

pub record SpillArgs (lf w : ℕ) (p : List Float) : Type 0 where
  pub w_high : w ≤ 1024
  pub faces : lf ≡ 2 * length p * w
  pub has_face : HasFace p

pub record BasisArgs (n lb lf lt lw ll w : ℕ) : Type 0 where
  pub d_low : 1 ≤ lt
  pub d_high : lt ≤ 1024
  pub w_high : w ≤ 1024
  pub bases : lb ≡ lt * lt
  pub faces : lf ≡ 2 * lt * w
  pub work : lw ≡ lt
  pub layers : ll ≡ n * w

-- 7, and nothing is said of the memories, or 0 with the union merged
pub record BasisIs (n w picks : ℕ) (bs : List Float) (fs : List ℕ) (t : List Float) (ls : List ℕ) (r : Gathered) (ls' : List ℕ) : Type 0 where
  pub answer : r.refusal ≡ refuse 7 (all_finite (projected bs t)) 0
  pub few : r.dropped ≤ 65536
  pub layers : r.refusal ≡ 0 → ls' ≡ merged n w ls (union_of picks w fs (projected bs t))
  pub dropped : r.refusal ≡ 0 → r.dropped ≡ size (fallen n w ls (union_of picks w fs (projected bs t)))

pub record GatherArgs (n lb lf lt lw ll w : ℕ) : Type 0 where
  pub n_high : n ≤ 32
  pub d_low : 1 ≤ lt
  pub d_high : lt ≤ 1024
  pub w_high : w ≤ 1024
  pub bases : lb ≡ n * (lt * lt)
  pub faces : lf ≡ n * (2 * lt * w)
  pub work : lw ≡ lt
  pub layers : ll ≡ n * w

-- the same for all bases
pub record GatherIs (n : ℕ) (q : Query) (r : Gathered) (ls' : List ℕ) : Type 0 where
  pub answer : r.refusal ≡ refuse 7 (target_finite q n) 0
  pub layers : r.refusal ≡ 0 → ls' ≡ layers_of n q
  pub dropped : r.refusal ≡ 0 → r.dropped ≡ dropped_of n q
