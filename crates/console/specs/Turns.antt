-- One turn of the program's loop, and what turns one after another come to (01, "The search program").
use Rattle.std.specs.Prelude.{ℕ, ◌-◌, ◌≤◌, ◌≡◌, Bool, List, [], ◌++◌, length, take, drop, Option, Some, None, IfSome}
use Rattle.paper.specs.Choice.{pick}
use Rattle.steps.specs.Steps.{State, held}
use Rattle.session.specs.Runs.{Far, feed_of, end_text}
use Rattle.session.specs.Played.{left}
use Rattle.console.specs.declared.Place.{Place}

-- what a buffer holds between two places: the input that was read and is not used yet
abbrev pub between : ℕ → ℕ → List ℕ → List ℕ
between from end buf = take (end - from) (drop from buf)

-- what comes from outside in a turn: whether what feed put could be written, whether more input was read, and which bytes
pub record Outside : Type 0 where
  pub wrote : Bool
  pub more : Bool
  pub read : List ℕ

-- where a turn leaves the run: over, or going on from a state with input that is not used yet
pub data Next : Type 0 where
  over : Next
  on : List ℕ → State → Next

-- where feed waits, the next piece is read behind what is left, and the run is over where there is none
abbrev pub refilled : Far → List ℕ → Outside → Next
refilled f pending e = pick e.more (on (left f pending ++ e.read) f.state) over

-- A turn calls feed and writes what it has put; the run is over where that could not be written, and where feed stops. Where feed waits, the
-- turn reads. Else the buffer was full, and the run goes on with what is left.
abbrev pub next_by : Far → List ℕ → Outside → Next
next_by f pending e = pick e.wrote (pick f.stops over (pick f.waits (refilled f pending e) (on (left f pending) f.state))) over

unfoldable pub next_of : List ℕ → State → List ℕ → Outside → Next
next_of pending st out e = next_by (feed_of pending st out) pending e

-- what a turn answers stands for: its bytes are in the input buffer, and none is the run's end
abbrev pub stands_for : Option Place → List ℕ → Next
stands_for (Some t) buf = on (between t.from t.end buf) (held t.store)
stands_for None buf = over

-- a turn did what next_of says, for some outside, and its places lie in the buffer
pub record Turned (pending : List ℕ) (st : State) (out : List ℕ) (t : Option Place) (buf : List ℕ) : Type 0 where
  pub outside : Outside
  pub next : stands_for t buf ≡ next_of pending st out outside
  pub places : IfSome t (λ p. (p.from ≤ p.end) × (p.end ≤ length buf))

-- what is printed last, behind what feed has put: nothing where feed stops, else what the end of the input prints
unfoldable pub last_of : List ℕ → State → List ℕ → List ℕ
last_of pending st out = let f = feed_of pending st out in pick f.stops [] (end_text (left f pending))
