-- What putting an entry into a set makes of it.
use Rattle.std.specs.Prelude.{ℕ, List, Float, take}
use Rattle.result.specs.Ranked.{Entry}
use Rattle.result.specs.Sets.{holding}
use Rattle.result.specs.declared.ResultSet.{ResultSet}

-- the set with the list, cut to k
abbrev pub put_in : ResultSet → List Entry → ResultSet
put_in s es = holding s (take s.k es)

-- a set out of its parts
abbrev pub set_of : List ℕ → List Float → ℕ → ℕ → ℕ → ResultSet
set_of is ss n k c = record { ids = is; sims = ss; len = n; k = k; checked = c }
