-- The laws of the program's records: what holds in every run, and what a refused record does (01, "The search program").
use Rattle.std.specs.Prelude.{ℕ, ◌≤◌, ◌≡◌, true, List, length}
use Rattle.records.specs.Fields.{u16_at}
use Rattle.records.specs.Requests.{within_limits}
use Rattle.lines.specs.Lines.{refused_line}
use Rattle.steps.specs.Steps.{State, held, start_of, step_of, refusal_of}

-- the states that a run comes to: the first, and the one behind any record
pub data Reached : State → Type 0 where
  first : Reached (held start_of)
  behind : (s : List ℕ) (st : State) → Reached st → Reached (step_of s st).1

-- a kind that the program does not know
pub record Unknown (kind : ℕ) : Type 0 where
  pub no_geometry : kind ≡ 1 → ⊥
  pub no_basis : kind ≡ 2 → ⊥
  pub no_addition : kind ≡ 3 → ⊥
  pub no_query : kind ≡ 5 → ⊥

pub record Laws : Type 0 where
  -- in every run the session lies within the program's limits, so that the first test of a record never decides
  pub run_within : (st : State) → Reached st → within_limits st.session ≡ true
  -- so an unknown kind is refused 15, never 1, and changes nothing, before the geometry as after it
  pub unknown_fifteen : (s : List ℕ) (st : State) → Reached st → 2 ≤ length s → Unknown (u16_at s 0) → step_of s st ≡ (refused_line 15, st)
  -- a refused record prints one line with its number, and changes nothing
  pub refused_step : (s : List ℕ) (st : State) → (refusal_of s st ≡ 0 → ⊥) → step_of s st ≡ (refused_line (refusal_of s st), st)
  -- a record prints at most 5,184 bytes: a line, and 256 entries of 20
  pub step_short : (s : List ℕ) (st : State) → length (step_of s st).0 ≤ 5184
