-- `records::laws` meets its contract. Assumes nothing.
use Rattle.records.proofs.Told.{one_request}
use Rattle.records.proofs.laws.Goals as goal

pub returns : goal.returns
returns c = record { one_request = one_request }
