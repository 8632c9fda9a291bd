-- `faces::spill_faces` meets its contract. Assumes nothing.
use Rattle.std.proofs.Common.{◌≡◌, Err, sym, rules}
use native.Mathlib.Omega.{arith}
use lib.ListN.{length}
use Rattle.faces.specs.Slots.{HasFace}
use Rattle.faces.proofs.Slots.{picks_within}
use Rattle.faces.proofs.Answer.{has_face, spill_refused, spill_done}
use Rattle.faces.proofs.spill_faces.Goals as goal

pub returns-in_err-check : goal.returns-in_err-check
returns-in_err-check c =
    let e : c.from_residual.result ≡ Err c.in_err-check.field-0.0 = search rules in
    spill_refused c.args.spill c.args.projection.now _ _ e c.in_err-check.ensures

pub pick_faces-requires : goal.pick_faces-requires
pick_faces-requires c =
    let f : HasFace c.args.projection.now = has_face _ (sym c.in_ok-check.ensures) in
    (f, omega (arith, f.few, picks_within (length c.args.projection.now) c.args.spill, c.picks_for-count.ensures))

pub returns : goal.returns
returns c =
    spill_done c.args.spill c.args.projection.now _ _ _ (sym c.in_ok-check.ensures) c.picks_for-count.ensures c.pick_faces.ensures.0 c.pick_faces.ensures.1
