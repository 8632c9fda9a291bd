use Rattle.std.proofs.Common.{◌≡◌, length, arith}
use Rattle.std.proofs.lemmas.Bool.Decides.{nat_tests}
use Rattle.lines.specs.Lines.{told}
use Rattle.lines.proofs.Texts.{put_as}
use Rattle.session.proofs.Runs.{none_left, some_left}
use Rattle.session.proofs.finish.Goals as goal

pub returns-then-is_empty : goal.returns-then-is_empty
returns-then-is_empty c =
    let e : length c.args.rest.now ≡ 0 = grind (arith, nat_tests, c.if-is_empty.ensures) in
    none_left _ c.args.rest.now e

pub returns : goal.returns
unfolding told
returns c =
    let n : length c.args.rest.now ≡ 0 → ⊥ = grind (arith, nat_tests, c.if-is_empty.ensures) in
    put_as (some_left c.args.rest.now n) (rw c.into.ensures at c.put_told-len.ensures)
