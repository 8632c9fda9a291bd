-- `console::laws` meets its contract: each law is a theorem of Turns.
use Rattle.console.proofs.Turns.{turn_goes, turn_ends}
use Rattle.console.proofs.laws.Goals as goal

pub returns : goal.returns
returns c = record { turn_goes = turn_goes; turn_ends = turn_ends }
