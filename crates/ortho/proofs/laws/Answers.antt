-- `ortho::laws`: each law is a theorem of proofs/. Assumes nothing.
use Rattle.ortho.proofs.Refusals.{no_round_copies, six_clears, refused_keeps}
use Rattle.ortho.proofs.laws.Goals as goal

pub returns : goal.returns
returns c = record { no_round_copies = no_round_copies; six_clears = six_clears; refused_keeps = refused_keeps }
