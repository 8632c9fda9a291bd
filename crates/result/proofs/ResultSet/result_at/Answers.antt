use Rattle.std.proofs.Common.{arith}
use Rattle.result.proofs.Listings.{listed_past, listed_beyond, listed_here}
use Rattle.result.proofs.ResultSet.result_at.Goals as goal
use Rattle.result.proofs.ResultSet.result_at.Goals.{then-i-self-via-then-i-self, then-i-self-via-else-i-self+then-i-ge256}

pub returns-then-i-self : goal.returns-then-i-self
returns-then-i-self c =
    let s = c.args.self in
    elim c.then-i-self.branch [
      | then-i-self-via-then-i-self w ↦ listed_past s c.args.i (omega arith)
      | then-i-self-via-else-i-self+then-i-ge256 w ↦ listed_beyond s c.args.i (omega arith)
    ]

pub returns : goal.returns
returns c =
    let s = c.args.self in
    listed_here s c.args.i (omega arith) (omega arith) (omega arith)
