use mathlib.Core.Path.{sym, ap}
use native.Mathlib.Omega.{arith}
use Rattle.lines.specs.Lines.{refused_line, told}
use Rattle.lines.proofs.Texts.{then, put_as, decimal_length}
use Rattle.lines.proofs.inner.put_told.Goals as goal

pub put_number-q-requires : goal.put_number-q-requires
put_number-q-requires c = omega (arith, c.put_number-p.ensures.next, c.put_number-p.auto.out, decimal_length c.in-Geometry.d, c.requires)

pub put_number-s-requires : goal.put_number-s-requires
put_number-s-requires c = omega (arith, c.put_number-p.ensures.next, c.put_number-p.auto.out, decimal_length c.in-Geometry.d, c.put_number-q.ensures.next, c.put_number-q.auto.out, decimal_length c.in-Geometry.n, c.requires)

pub put_line-requires-in-Geometry : goal.put_line-requires-in-Geometry
put_line-requires-in-Geometry c = omega (arith, c.put_number-p.ensures.next, c.put_number-p.auto.out, decimal_length c.in-Geometry.d, c.put_number-q.ensures.next, c.put_number-q.auto.out, decimal_length c.in-Geometry.n, c.put_number-s.ensures.next, c.put_number-s.auto.out, decimal_length c.in-Geometry.cap, c.requires)

pub put_line-requires-in-Found : goal.put_line-requires-in-Found
put_line-requires-in-Found c = omega (arith, c.put_number-p-in-Found.ensures.next, c.put_number-p-in-Found.auto.out, decimal_length c.in-Found.len, c.requires)

pub returns-in-Refused : goal.returns-in-Refused
unfolding told refused_line
returns-in-Refused c = put_as (ap told (sym c.in-Refused.is)) c.put_line.ensures

pub returns-in-Geometry : goal.returns-in-Geometry
unfolding told
returns-in-Geometry c = put_as (ap told (sym c.in-Geometry.is)) (then (then (then c.put_number-p.ensures c.put_number-q.ensures) c.put_number-s.ensures) c.put_line-in-Geometry.ensures)

pub returns-in-Basis : goal.returns-in-Basis
unfolding told
returns-in-Basis c = put_as (ap told (sym c.in-Basis.is)) c.put_line-in-Basis.ensures

pub returns-in-Added : goal.returns-in-Added
unfolding told
returns-in-Added c = put_as (ap told (sym c.in-Added.is)) c.put_line-in-Added.ensures

pub returns-in-Found : goal.returns-in-Found
unfolding told
returns-in-Found c = put_as (ap told (sym c.in-Found.is)) (then c.put_number-p-in-Found.ensures c.put_line-in-Found.ensures)
