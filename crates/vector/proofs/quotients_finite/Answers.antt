-- `vector::quotients_finite` meets its contract. Assumes nothing.
use Rattle.std.proofs.Common.{Bool, ◌∙◌, rules, tests}
use Rattle.std.proofs.lemmas.Iterator.{YieldsList-from_slice}
use Rattle.std.proofs.lemmas.Iterator.Search.{all_from_yields_List}
use Rattle.std.specs.Float.{binary32}
use Rattle.std.specs.Float.Ieee.{Float, div}
use Rattle.vector.specs.Finite.{is_finite}
use Rattle.vector.proofs.Vectors.{every_is}
use Rattle.vector.proofs.quotients_finite.Goals as goal

pub returns : goal.returns
returns c =
    let good : Float → Bool = λ x. is_finite (div binary32 x c.args.norm) in
    all_from_yields_List good _ _ _ c.all.ensures.ran (YieldsList-from_slice c.args.vec.now cc) (λ x b q k. search (rules, tests)) ∙ every_is good c.args.vec.now
