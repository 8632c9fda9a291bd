use mathlib.Core.Path.{sym, ◌∙◌}
use native.Mathlib.Omega.{arith}
use Rattle.result.proofs.Answers.{form}
use Rattle.result.proofs.Recalls.{shared, first_are, divided}
use Rattle.result.proofs.ResultSet.compute_recall.Goals as goal

pub shared_ref_as_front-pairs_in : goal.shared_ref_as_front-pairs_in
shared_ref_as_front-pairs_in c =
    let f = form c.args.baseline (sym c.well_formed-else-not-well_formed.ensures ∙ c.if-not-well_formed-2.false) in
    omega (arith, c.min-m.ensures)

pub shared_ref_as_front-pairs_in-2 : goal.shared_ref_as_front-pairs_in-2
shared_ref_as_front-pairs_in-2 c =
    let f = form c.args.self (sym c.well_formed-2.ensures ∙ c.if-not-well_formed.false) in
    omega (arith, c.min-n.ensures)

pub returns : goal.returns
returns c =
    let s = c.args.self in
    let t = c.args.baseline in
    let ws = sym c.well_formed-2.ensures ∙ c.if-not-well_formed.false in
    let wt = sym c.well_formed-else-not-well_formed.ensures ∙ c.if-not-well_formed-2.false in
    let fs = form s ws in
    let ft = form t wt in
    divided s t c.args.at _ _ _ (first_are t c.args.at _ (omega arith) (omega arith) (omega (arith, c.min-m.ensures))) (first_are s c.args.at _ (omega arith) (omega arith) (omega (arith, c.min-n.ensures))) c.pairs_in-found.ensures
    ∙ shared s t c.args.at ws wt c.if-at-eq0.false
