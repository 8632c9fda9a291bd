use native.Mathlib.Omega.{arith}
use Prim.Native.Nat.{◌-◌}
use lib.ListN.{take, drop, length-take, length-drop}
use Rattle.session.proofs.Whole.{ran}
use Rattle.console.proofs.feed_part.Goals as goal

pub returns : goal.returns
returns c =
    let k = ran (take (c.args.end - c.args.from) (drop c.args.from c.args.input.now)) _ c.args.out.now _ c.feed.ensures in
    (omega (arith, k.used, length-take (c.args.end - c.args.from) (drop c.args.from c.args.input.now), length-drop c.args.from c.args.input.now, c.requires.0, c.requires.1), omega (arith, k.put, c.feed.auto.out), c.feed.ensures)
