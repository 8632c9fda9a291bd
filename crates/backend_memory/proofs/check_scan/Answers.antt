-- `backend_memory::check_scan` meets its contract: what the tests say gives what ranking asks. Assumes nothing.
use mathlib.Core.Path.{sym, ◌∙◌}
use Rattle.backend_memory.proofs.Cases.{args_sized}
use Rattle.backend_memory.proofs.check_scan.Goals as goal

pub returns-clause-sized : goal.returns-clause-sized
returns-clause-sized c =
    args_sized c.args.g _ _ _ _ c.in_ok-check.ensures.good (sym c.store_lengths_ok.ensures ∙ c.if-not-store_lengths_ok.false) c.if-target-g.false c.if-k-gt256.false
