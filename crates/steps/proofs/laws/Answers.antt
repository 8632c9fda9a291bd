-- `steps::laws` meets its contract: each law is a theorem of Within, Refused or Cases.
use Rattle.steps.proofs.Within.{run_within, unknown_fifteen}
use Rattle.steps.proofs.Refused.{refused_step}
use Rattle.steps.proofs.Cases.{step_short}
use Rattle.steps.proofs.laws.Goals as goal

pub returns : goal.returns
returns c = record {
  run_within = run_within;
  unknown_fifteen = unknown_fifteen;
  refused_step = refused_step;
  step_short = step_short;
}
