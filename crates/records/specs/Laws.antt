-- The laws of this crate, which `laws` claims.
use Rattle.std.specs.Prelude.{◌≡◌}
use Rattle.paper.specs.Refusals.{code_of}
use Rattle.records.specs.Requests.{Asked, request_kind, request_values}

pub record Laws : Type 0 where
  -- two answers of one kind, with the same number and the same values, are equal
  pub one_request : (q r : Asked) → request_kind q ≡ request_kind r → code_of q ≡ code_of r → request_values q ≡ request_values r → q ≡ r
