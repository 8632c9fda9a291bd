-- The calls on counting layers, with their answers in lent places. Definitions only.
use Rattle.std.specs.Prelude.{ℕ, List, eqb, length}
use Rattle.paper.specs.Choice.{pick}
use Rattle.paper.specs.Geometry.{set_words}
use Rattle.paper.specs.Refusals.{unless_refused}
use Rattle.bitmaps.specs.Words.{size}
use Rattle.counting_bitmap.specs.Layers.{merged, fallen}
use Rattle.counting_bitmap.specs.TopLayer.{top_of}
use Rattle.counting_bitmap.specs.Answers.{layers_ok, layers_fault, merge_fault, top_fault, top_number}
use Rattle.capi_vectors.specs.Single.{Single, single, kept, into_one}

-- ---- merging a set into layers

-- the answer's number, the layers, the set, and the place for the dropped count
pub record Counted : Type 0 where
  pub answer : ℕ
  pub layers : List ℕ
  pub set : List ℕ
  pub dropped : List ℕ

abbrev pub counted_in : ℕ → List ℕ → List ℕ → List ℕ → Counted
counted_in num ls s ds = record { answer = num; layers = ls; set = s; dropped = ds }

-- merging itself, with the dropped count in its place unless it is refused
abbrev pub or_kept : ℕ → ℕ → ℕ → List ℕ → List ℕ → List ℕ → Counted
or_kept fault n w ls s ds =
    counted_in fault (unless_refused fault (merged n w ls s) ls) (unless_refused fault (fallen n w ls s) s) (kept fault (size (fallen n w ls s)) ds).out

-- 1, then 2 for the place, the layers or the set; a refusal changes nothing
unfoldable pub or_into : ℕ → ℕ → List ℕ → List ℕ → List ℕ → Counted
or_into cap n ls s ds =
    pick (layers_ok cap n)
    (pick (eqb (length ds) 1) (or_kept (merge_fault cap n (length ls) (length s)) n (set_words cap) ls s ds) (counted_in 2 ls s ds))
    (counted_in 1 ls s ds)

-- the highest layer with at least k ids: 1, then 2 for the layers or the place, then 8
unfoldable pub top_into : ℕ → ℕ → List ℕ → ℕ → List ℕ → Single ℕ
top_into cap n ls k ys =
    let t = top_of n (set_words cap) ls k in
    pick (layers_ok cap n) (into_one (top_fault (layers_fault cap n (length ls)) t) (top_number t) ys) (single 1 ys)
