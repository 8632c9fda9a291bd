-- `ortho::reduce_row` meets its contract. Assumes nothing.
use borrow.Author.Rules.{rules}
use mathlib.Core.Path.{refl, sym, ◌∙◌}
use native.Mathlib.Nat.{sub-zero}
use native.Mathlib.Omega.{arith}
use lib.ListN.{length-set}
use Rattle.ortho.proofs.Loops.{reducing_step, reducing_end, reduced_loop}
use Rattle.ortho.proofs.reduce_row.Goals as goal

pub loop-k-init : goal.loop-k-init
loop-k-init c = (refl, search rules, rw sub-zero)

pub loop-k-preserved : goal.loop-k-preserved
loop-k-preserved c =
    let at = c in
    let s = at.args in (
      simp length-set at.loop-k.invariant.0,
      search rules,
      sym (reducing_step s.a s.b s.dot s.d at.loop-k.k at.loop-k.out (omega arith)) ∙ at.loop-k.invariant.2,
    )

pub returns : goal.returns
returns c =
    let s = c.args in
    sym (reducing_end s.a s.b s.dot s.d c.loop-k.k c.loop-k.out (omega arith))
    ∙ c.loop-k.invariant.2
    ∙ reduced_loop s.a s.b s.dot s.d s.out.now c.requires.0 c.requires.1
