use Rattle.std.proofs.Common.{sym, ◌∙◌}
use Rattle.records.proofs.Requests.{limits, geometry_fits_lem, basis_fits, addition_fits, search_fits}
use Rattle.records.proofs.asked.Goals as goal

pub returns-in-1-clause-fits : goal.returns-in-1-clause-fits
returns-in-1-clause-fits c = rw c.geometry_of.ensures (geometry_fits_lem c.args.s.now c.args.g)

pub returns-in-2-clause-fits : goal.returns-in-2-clause-fits
returns-in-2-clause-fits c = rw c.basis_of.ensures (basis_fits _ _ (limits _ (sym c.within_limits.ensures ∙ c.if-not-within_limits.false)))

pub returns-in-3-clause-fits : goal.returns-in-3-clause-fits
returns-in-3-clause-fits c = rw c.addition_of.ensures (addition_fits _ _ (limits _ (sym c.within_limits.ensures ∙ c.if-not-within_limits.false)))

pub returns-in-5-clause-fits : goal.returns-in-5-clause-fits
returns-in-5-clause-fits c = rw c.search_of.ensures (search_fits _ _ (limits _ (sym c.within_limits.ensures ∙ c.if-not-within_limits.false)))
