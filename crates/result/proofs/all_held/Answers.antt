use Rattle.std.proofs.Common.{◌∙◌, rules, tests}
use Rattle.std.proofs.lemmas.Iterator.{YieldsList-from_slice}
use Rattle.std.proofs.lemmas.Iterator.Search.{all_from_yields_List}
use Rattle.result.specs.Lists.{is_held}
use Rattle.result.proofs.Tests.{all_is}
use Rattle.result.proofs.all_held.Goals as goal

pub returns : goal.returns
returns c =
    let xs = c.args.sims.now in
    all_from_yields_List is_held _ _ _ c.all.ensures.ran (YieldsList-from_slice xs cc) (λ x b q k. search (rules, tests)) ∙ all_is is_held xs
