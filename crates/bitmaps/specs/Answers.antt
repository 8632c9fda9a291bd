-- What the public calls on sets answer and leave.
use Rattle.std.specs.Prelude.{ℕ, ◌≡◌, List, eqb, ltb}
use Rattle.paper.specs.Choice.{refuse}
use Rattle.paper.specs.Geometry.{cap_ok, set_words}
use Rattle.paper.specs.Refusals.{unless_refused}

-- ---- which refusal is given: 1 for the capacity, then 2 for a length, then 3 for an id; 0 for none

-- a call on one set of `words` words
unfoldable pub set_fault : ℕ → ℕ → ℕ
set_fault cap words = refuse 1 (cap_ok cap) (refuse 2 (eqb words (set_words cap)) 0)

-- a call on two sets
unfoldable pub pair_fault : ℕ → ℕ → ℕ → ℕ
pair_fault cap words other = refuse 1 (cap_ok cap) (refuse 2 (eqb words (set_words cap)) (refuse 2 (eqb other (set_words cap)) 0))

-- a call on one set and an id
unfoldable pub id_fault : ℕ → ℕ → ℕ → ℕ
id_fault cap words id = refuse 1 (cap_ok cap) (refuse 2 (eqb words (set_words cap)) (refuse 3 (ltb id cap) 0))

-- ---- a call that changes a set answers the number of the refusal, and a refusal leaves the words as they were
pub record Changed (fault : ℕ) (new old : List ℕ) (r : ℕ) (left : List ℕ) : Type 0 where
  pub refusal : r ≡ fault
  pub words : left ≡ unless_refused fault new old
