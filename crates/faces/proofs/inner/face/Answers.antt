-- `faces::inner::face` meets its contract. Assumes nothing.
use mathlib.Core.Path.{◌∙◌}
use mir.Syntax.{w32}
use mir.ValLaws.{to_z-of_z}
use Rattle.faces.proofs.Picks.{face_at}
use Rattle.faces.proofs.inner.face.Goals as goal

pub returns : goal.returns
returns c = face_at c.args.projection.now c.best_index-b.result c.best_index-b.ensures.1 _ (to_z-of_z w32 c.face_of.result (record { sfits = c.face_of.type_inv }) ∙ c.face_of.ensures)
