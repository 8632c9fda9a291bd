-- The laws of this crate, one a field: `laws` claims the record.
use Rattle.std.specs.Prelude.{◌≡◌}
use Rattle.paper.specs.declared.Refusal.{Refusal}
use Rattle.paper.specs.Refusals.{number_of}

pub record Laws : Type 0 where
  -- a number names one refusal
  pub one_refusal : (r s : Refusal) → number_of r ≡ number_of s → r ≡ s
