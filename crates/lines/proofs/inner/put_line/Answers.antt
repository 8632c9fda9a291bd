use native.Mathlib.Omega.{arith}
use lib.ListN.{length-append}
use Rattle.lines.specs.Lines.{decimal}
use Rattle.lines.proofs.Texts.{then, decimal_length}
use Rattle.lines.proofs.inner.put_line.Goals as goal

pub put_text-requires : goal.put_text-requires
put_text-requires c = omega (arith, c.put_number-p.ensures.next, length-append c.args.word.now (decimal c.args.n), decimal_length c.args.n, c.requires, c.put_number-p.auto.out)

pub returns : goal.returns
returns c = then c.put_number-p.ensures c.put_text.ensures
