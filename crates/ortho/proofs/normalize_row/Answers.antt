-- `ortho::normalize_row` meets its contract. Assumes nothing.
use mathlib.Core.Path.{ap}
use Rattle.vector.specs.Norm.{Normal}
use Rattle.ortho.proofs.Loops.{norm_row_lem}
use Rattle.ortho.proofs.normalize_row.Goals as goal

pub returns : goal.returns
returns c =
    let s = c.args in
    norm_row_lem s.a s.d s.out.now c.normalize.new.vec c.normalize.result (ap (λ (x : Normal). x.refusal) c.normalize.ensures) (ap (λ (x : Normal). x.vector) c.normalize.ensures)
