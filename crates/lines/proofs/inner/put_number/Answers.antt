use Rattle.lines.proofs.Texts.{then}
use Rattle.lines.proofs.inner.put_number.Goals as goal

pub returns : goal.returns
returns c = then c.put_text-p.ensures c.put_decimal.ensures
