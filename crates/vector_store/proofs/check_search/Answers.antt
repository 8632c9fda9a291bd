-- `vector_store::check_search` meets its contract. Assumes nothing.
use mathlib.Core.Path.{sym, ◌∙◌}
use Rattle.vector_store.proofs.Cases.{find_args}
use Rattle.vector_store.proofs.check_search.Goals as goal

pub returns-clause-sized : goal.returns-clause-sized
returns-clause-sized c =
    find_args c.args.g _ _ _ _ _ _ _ _ _ c.in_ok-check.ensures.good (sym c.own_lengths_ok.ensures ∙ c.if-not-own_lengths_ok.false) (sym c.bases_length_ok.ensures ∙ c.if-not-bases_length_ok.false)
    (sym c.work_lengths_ok.ensures ∙ c.if-not-work_lengths_ok.false) c.if-k-gt256.false
