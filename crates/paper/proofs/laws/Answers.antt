-- `paper::laws`: each law is a theorem of proofs/. Assumes nothing.
use Rattle.paper.proofs.Answering.{one_refusal}
use Rattle.paper.proofs.laws.Goals as goal

pub returns : goal.returns
returns c = record { one_refusal = one_refusal }
