use Rattle.std.proofs.Common.{arith, rules}
use Rattle.lines.proofs.Texts.{then, told_short}
use Rattle.lines.specs.declared.Told.TheVariants as Says
use Rattle.steps.proofs.inner.put_found.Goals as goal

pub put_listing-requires : goal.put_listing-requires
put_listing-requires c = (omega (arith, c.put_told-p.ensures.next, told_short (Says.Found c.args.found.set.len c.args.found.set.checked), c.put_told-p.auto.out, c.requires.0, c.requires.1), search rules, search rules)

pub returns : goal.returns
returns c = then c.put_told-p.ensures c.put_listing.ensures
