use Rattle.std.proofs.Common.{sym, ◌∙◌}
use Rattle.result.proofs.Answers.{form}
use Rattle.result.proofs.ResultSet.feed.Goals as goal

pub ranked-self-requires-clause-len_le_k : goal.ranked-self-requires-clause-len_le_k
ranked-self-requires-clause-len_le_k c = let f = form c.args.self (sym c.well_formed-2.ensures ∙ c.if-not-well_formed.false) in (f.short, f.small)
