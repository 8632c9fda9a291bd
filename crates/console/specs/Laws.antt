-- The laws of the program's loop: its turns play a run.
use Rattle.std.specs.Prelude.{◌≡◌, Bool, true, false, List, [], ◌∷◌, ◌++◌, ℕ}
use Rattle.steps.specs.Steps.{State}
use Rattle.session.specs.Runs.{feed_of}
use Rattle.session.specs.Played.{shown, Played}
use Rattle.console.specs.Turns.{Outside, over, on, next_of, last_of}

-- the pieces that a turn has read: one where feed waits, else none
abbrev pub taken : Bool → Outside → List (List ℕ) → List (List ℕ)
taken true e reads = e.read ∷ reads
taken false e reads = reads

pub record Laws : Type 0 where
  -- a turn that goes on: what it printed, and then what the run prints from where it stands, is what the run prints
  pub turn_goes : (pending : List ℕ) (st : State) (out : List ℕ) (e : Outside) (pending' : List ℕ) (st' : State) (reads : List (List ℕ)) (text : List ℕ)
      → next_of pending st out e ≡ on pending' st' → Played pending' st' reads text
      → Played pending st (taken (feed_of pending st out).waits e reads) (shown (feed_of pending st out) ++ text)
  -- a turn after which the run is over, though all was written: feed stopped, or the input has ended and what the end prints was printed last
  pub turn_ends : (pending : List ℕ) (st : State) (out : List ℕ) (e : Outside) → e.wrote ≡ true → next_of pending st out e ≡ over
      → Played pending st [] (shown (feed_of pending st out) ++ last_of pending st out)
