use Prim.Native.Nat.{◌≤◌, ◌-◌, ◌*◌, ◌+◌}
use mathlib.Core.Path.{◌≡◌}
use mathlib.Core.Bool.{true}
use lib.ListN.{length}
use Rattle.counting_bitmap.specs.Layers.{merged_all, dropped_all}
use Rattle.basis.specs.Bases.{projections_finite}
use Rattle.candidates.specs.Gathering.{query_of, unions_from, layers_of, dropped_of}
use Rattle.candidates.proofs.inner.gather.Given as goal

abbrev pub invariant-loop-b : goal.invariant-loop-b
invariant-loop-b l =
    (l.total ≤ 65536 * l.b)
    × (projections_finite (length l.target) l.bases l.target l.b ≡ true)
    × (merged_all l.n (length l.initial.set) l.layers (unions_from (query_of l.bases l.faces l.target (length l.initial.set) l.picks) (l.n - l.b) l.b) ≡ layers_of l.n (query_of l.bases l.faces l.target (length l.initial.set) l.picks))
    × (l.total + dropped_all l.n (length l.initial.set) l.layers (unions_from (query_of l.bases l.faces l.target (length l.initial.set) l.picks) (l.n - l.b) l.b) ≡ dropped_of l.n (query_of l.bases l.faces l.target (length l.initial.set) l.picks))
