-- `result::inner::ranked` meets its contract. Assumes nothing.
use Rattle.result.specs.Ranked.{entry}
use Rattle.result.proofs.Answers.{recount}
use Rattle.result.proofs.inner.ranked.Goals as goal

pub returns : goal.returns
returns c = recount _ (entry c.args.id c.args.similarity) _ _ _ c.insert-len.ensures
