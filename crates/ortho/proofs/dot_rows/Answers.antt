-- `ortho::dot_rows` meets its contract. Assumes nothing.
use mathlib.Core.Path.{◌∙◌}
use native.Mathlib.Nat.{add-sub_cancel_left}
use Rattle.ortho.proofs.dot_rows.Goals as goal

pub returns : goal.returns
returns c = c.dot_of.ensures ∙ simp add-sub_cancel_left
