-- `merging::copy_present` meets its contract: the marked slots before `at` are copied. Assumes nothing.
use Prim.Native.Nat.{◌*◌}
use mathlib.Core.Path.{◌∙◌, refl}
use native.Mathlib.Omega.{arith}
use borrow.Author.Rules.{rules}
use Rattle.std.proofs.Common.{Some, None, length}
use Rattle.bitmaps.specs.Walk.{NextIs}
use Rattle.merging.specs.Merging.{copied}
use Rattle.merging.proofs.Loops.{copy_turn, copy_end}
use Rattle.merging.proofs.copy_present.Goals as goal

pub loop-i-init : goal.loop-i-init
unfolding copied
loop-i-init c = (search rules, refl)

pub loop-i-preserved : goal.loop-i-preserved
loop-i-preserved c =
    let a = c.args in
    let next : NextIs a.marks.now c.loop-i.at (Some c.in-Some.i) = rw c.in-Some.is at c.next.ensures in (
      omega (arith, next.1),
      c.copy_slot.ensures ∙ copy_turn a.size a.marks.now a.from.now a.vectors.now c.loop-i.at c.in-Some.i c.loop-i.vectors next.0 next.2 next.3 c.loop-i.invariant.1,
    )

pub returns : goal.returns
returns c =
    let a = c.args in
    let none : NextIs a.marks.now c.loop-i.at None = rw c.in_default.is at c.next.ensures in
    copy_end a.size a.marks.now a.from.now a.vectors.now c.loop-i.at (length a.marks.now * 64) c.loop-i.vectors c.loop-i.invariant.0 none c.loop-i.invariant.1
