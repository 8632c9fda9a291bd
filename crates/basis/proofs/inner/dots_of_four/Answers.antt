-- `basis::inner::dots_of_four` meets its contract. Assumes nothing.
use Rattle.std.proofs.Common.{◌≡◌, ◌+◌, length, refl, sym, ◌∙◌, add-zero, arith, rules}
use Rattle.vector.specs.Fold.{zero32}
use Rattle.basis.specs.Four.{four}
use Rattle.basis.proofs.Sides.{four_start, four_next, four_end}
use Rattle.basis.proofs.inner.dots_of_four.Goals as goal

pub loop-i-init : goal.loop-i-init
loop-i-init c =
    let t : c.default-t.result ≡ four zero32 zero32 zero32 zero32 = search rules in
    (search rules, rw (add-zero, t) (four_start c.args.target.now c.args.basis.now c.args.at))

pub loop-i-preserved : goal.loop-i-preserved
loop-i-preserved c = (search rules, sym c.block-t.ensures ∙ c.loop-i.invariant.1)

pub loop-j-preserved : goal.loop-j-preserved
loop-j-preserved c =
    sym (four_next c.args.target.now c.args.basis.now c.args.at (length c.args.target.now) c.loop-j.t c.column-t.result c.loop-j.j (c.loop-j.j + 1) refl (omega arith) (omega arith) c.column-t.ensures) ∙ c.loop-j.invariant

pub returns : goal.returns
returns c =
    sym (four_end c.args.target.now c.args.basis.now c.args.at (length c.args.target.now) c.loop-j.t c.loop-j.j (c.args.at + c.loop-j.j) (omega arith)) ∙ c.loop-j.invariant
