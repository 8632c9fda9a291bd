use mathlib.Core.Path.{◌≡◌, sym, ap, ◌∙◌}
use native.Mathlib.Omega.{arith}
use native.Mathlib.Numerals.{add-one}
use Rattle.lines.specs.Lines.{listing}
use Rattle.lines.proofs.Texts.{then, put_as, put_none, listing_length, listing_more}
use Rattle.lines.proofs.inner.put_listing.Goals as goal

pub loop-i-init : goal.loop-i-init
loop-i-init c = put_none c.args.ids.now c.args.scores.now

pub put_entry-p-requires : goal.put_entry-p-requires
put_entry-p-requires c = omega (arith, c.loop-i.invariant.next, listing_length c.loop-i.i c.args.ids.now c.args.scores.now, c.requires.0)

pub loop-i-preserved : goal.loop-i-preserved
loop-i-preserved c =
    put_as (listing_more c.loop-i.i c.args.ids.now c.args.scores.now (omega (arith, c.requires.1)) (omega (arith, c.requires.2)) ∙ ap (λ k. listing k c.args.ids.now c.args.scores.now) (sym (add-one c.loop-i.i))) (then c.loop-i.invariant c.put_entry-p.ensures)

pub returns : goal.returns
returns c =
    let e : c.loop-i.i ≡ c.args.n = omega arith in
    put_as (ap (λ k. listing k c.args.ids.now c.args.scores.now) e) c.loop-i.invariant
