use Rattle.std.proofs.Common.{arith}
use Rattle.result.proofs.Push.{pushed}
use Rattle.result.proofs.inner.push.Goals as goal

pub returns : goal.returns
returns g c =
    let a = c.args in
    rw c.copy_within.ensures.after (pushed a.at a.to a.x a.xs.now (omega arith) (omega arith))
