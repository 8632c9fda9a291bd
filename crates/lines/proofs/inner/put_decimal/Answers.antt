use mathlib.Core.Path.{ap}
use lib.ListN.{length}
use native.Mathlib.Omega.{arith}
use Rattle.lines.specs.Lines.{decimal, ten_digits}
use Rattle.lines.proofs.Texts.{put_as, trim_length}
use Rattle.lines.proofs.inner.put_decimal.Goals as goal

pub put_text-requires : goal.put_text-requires
put_text-requires c = omega (arith, ap length c.trimmed_part.ensures, trim_length (ten_digits c.args.n), c.requires)

pub returns : goal.returns
unfolding decimal
returns c = put_as c.trimmed_part.ensures c.put_text.ensures
