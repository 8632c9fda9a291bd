use native.Mathlib.Omega.{arith}
use mathlib.Core.Path.{ap}
use Rattle.lines.specs.Lines.{hexadecimal, entry}
use Rattle.lines.proofs.Texts.{then, put_as, decimal_length}
use Rattle.lines.proofs.inner.put_entry.Goals as goal

pub put_text-q-requires : goal.put_text-q-requires
put_text-q-requires c = omega (arith, c.put_decimal-p.ensures.next, decimal_length c.args.id, c.requires)

pub put_hexadecimal-s-requires : goal.put_hexadecimal-s-requires
put_hexadecimal-s-requires c = omega (arith, c.put_decimal-p.ensures.next, decimal_length c.args.id, c.requires, c.put_text-q.ensures.next)

pub put_text-requires : goal.put_text-requires
unfolding hexadecimal
put_text-requires c = omega (arith, c.put_decimal-p.ensures.next, decimal_length c.args.id, c.requires, c.put_text-q.ensures.next, c.put_hexadecimal-s.ensures.next)

pub returns : goal.returns
unfolding entry
returns c = then (then (then c.put_decimal-p.ensures c.put_text-q.ensures) (put_as (ap hexadecimal c.bits_of.ensures) c.put_hexadecimal-s.ensures)) c.put_text.ensures
