use mathlib.Core.Path.{◌≡◌}
use lib.ListN.{get_or}
use Rattle.adding.specs.Adding.{with_faces}
use Rattle.adding.proofs.add_to_bitmaps.Given as goal

abbrev pub invariant-loop-b : goal.invariant-loop-b
invariant-loop-b l = l.faces ≡ with_faces l.g.d l.g.cap l.id (λ j. get_or l.slots j 0) l.b l.initial.faces
