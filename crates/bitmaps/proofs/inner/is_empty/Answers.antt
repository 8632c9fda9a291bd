-- `inner::is_empty` meets its contract: what `all` answers is whether every word is 0. Assumes nothing.
use Rattle.std.proofs.Common.{eqb, rules, tests, sym, ◌∙◌}
use Rattle.std.proofs.lemmas.Iterator.{YieldsList-from_slice}
use Rattle.std.proofs.lemmas.Iterator.Search.{all_from_yields_List}
use Rattle.bitmaps.proofs.Size.{all_none}
use Rattle.bitmaps.proofs.inner.is_empty.Goals as goal

pub returns : goal.returns
returns c =
    all_from_yields_List (λ w. eqb w 0) _ _ _ c.all.ensures.ran (YieldsList-from_slice c.args.a.now cc) (λ x b q k. search (rules, tests))
    ∙ sym (all_none c.args.a.now)
