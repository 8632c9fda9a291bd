-- `merging::share_nothing` meets its contract: the words passed share no id, so that the count is that of the words left. Assumes nothing.
use mathlib.Core.Path.{◌≡◌, sym, ◌∙◌}
use native.Mathlib.Omega.{arith}
use borrow.Author.Tests.{eq-eqb, ne_eqb}
use lib.Bits.{bit_and}
use lib.Count.{ones}
use lib.ListN.{length, drop, get_or}
use lib.Seq.{drop-length}
use Rattle.bitmaps.specs.Words.{size, shared}
use Rattle.bitmaps.proofs.Zip.{by_word_length}
use Rattle.bitmaps.proofs.Size.{ones_none}
use Rattle.merging.proofs.Loops.{share_drop}
use Rattle.merging.proofs.share_nothing.Goals as goal

pub returns-then-a-i-ne0 : goal.returns-then-a-i-ne0
returns-then-a-i-ne0 c =
    let a = c.args.a.now in
    let b = c.args.b.now in
    let next = share_drop a b c.loop-i.i c.requires c.loop-i-test.true in
    sym (ne_eqb (size (shared a b)) 0 (λ e. c.if-a-i-ne0.true (ones_none (bit_and (get_or a c.loop-i.i 0) (get_or b c.loop-i.i 0)) (omega arith))))

pub loop-i-preserved : goal.loop-i-preserved
unfolding ones
loop-i-preserved c =
    let a = c.args.a.now in
    let b = c.args.b.now in
    let next = share_drop a b c.loop-i.i c.requires c.loop-i-test.true in
    let none : ones (bit_and (get_or a c.loop-i.i 0) (get_or b c.loop-i.i 0)) ≡ 0 = rw c.if-a-i-ne0.false in
    omega arith

pub returns : goal.returns
unfolding size
returns c =
    let a = c.args.a.now in
    let b = c.args.b.now in
    let past : c.loop-i.i ≡ length (shared a b) = omega (arith, by_word_length bit_and a b) in
    let none : size (drop c.loop-i.i (shared a b)) ≡ 0 = rw (past, drop-length) in
    sym (eq-eqb (size (shared a b)) 0 (c.loop-i.invariant ∙ none))
