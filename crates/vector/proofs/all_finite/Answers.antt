-- `vector::all_finite` meets its contract. Assumes nothing.
use Rattle.std.proofs.Common.{◌∙◌, rules, tests}
use Rattle.std.proofs.lemmas.Iterator.{YieldsList-from_slice}
use Rattle.std.proofs.lemmas.Iterator.Search.{all_from_yields_List}
use Rattle.vector.specs.Finite.{is_finite}
use Rattle.vector.proofs.Vectors.{every_is}
use Rattle.vector.proofs.all_finite.Goals as goal

pub returns : goal.returns
returns c =
    all_from_yields_List is_finite _ _ _ c.all.ensures.ran (YieldsList-from_slice c.args.vec.now cc) (λ x b q k. search (rules, tests)) ∙ every_is is_finite c.args.vec.now
