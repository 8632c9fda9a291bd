use Rattle.steps.specs.Memory.{memory_of}
use Rattle.steps.specs.Steps.{state_of}
use Rattle.lines.specs.Lines.{told}
use Rattle.steps.proofs.Refused.{refused_put}
use Rattle.steps.proofs.inner.step.Goals as goal

pub returns-in-Err : goal.returns-in-Err
unfolding told
returns-in-Err c = refused_put c.args.s.now (state_of c.args.g (memory_of c.args.bases.now c.args.faces.now c.args.marks.now c.args.vectors.now)) _ c.args.out.now _ _ c.args.at _ _ c.in-Err.ensures (rw (← c.into.ensures) c.put_told.ensures)
