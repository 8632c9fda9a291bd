-- The laws of a run: however its input comes in, the program prints the same, and it comes to its end.
use Rattle.std.specs.Prelude.{ℕ, ◌+◌, ◌≤◌, ◌<◌, ◌≡◌, true, false, List, [], ◌++◌, length, drop, Ok, Some}
use Rattle.records.specs.Fields.{u16_at}
use Rattle.lines.specs.Lines.{refused_line}
use Rattle.steps.specs.Steps.{State, held, start_of}
use Rattle.steps.specs.Laws.{Reached, Unknown}
use Rattle.session.specs.Runs.{frame_of, record_of, run, printed, feed_of}
use Rattle.session.specs.Played.{joined, Played}

pub record Laws : Type 0 where
  -- a program that reads, feeds and writes as Played says prints what a run over the whole input prints
  pub whole : (pending : List ℕ) (st : State) (reads : List (List ℕ)) (text : List ℕ) → Played pending st reads text → text ≡ run (pending ++ joined reads) st
  -- from the start: the program prints `printed` of its input
  pub whole_run : (reads : List (List ℕ)) (text : List ℕ) → Played [] (held start_of) reads text → text ≡ printed (joined reads)
  -- in a run an unknown kind prints refused 15, never 1, and the run goes on behind it from the same state
  pub run_unknown : (s : List ℕ) (n : ℕ) (st : State) → Reached st → frame_of s ≡ Ok (Some n) → Unknown (u16_at (record_of n s) 0)
      → run s st ≡ refused_line 15 ++ run (drop (4 + n) s) st
  -- the pieces in which the input comes do not matter
  pub any_cut : (st : State) (reads reads' : List (List ℕ)) (text text' : List ℕ) → joined reads ≡ joined reads' → Played [] st reads text → Played [] st reads' text' → text ≡ text'
  -- with a buffer that has room for the longest answer, every finite input, in whatever pieces, is played to its end
  pub plays : (st : State) (reads : List (List ℕ)) (out : List ℕ) → 5184 ≤ length out → Played [] st reads (run (joined reads) st)
  -- a call of feed that neither stops nor waits has used something
  pub moves : (input : List ℕ) (st : State) (out : List ℕ) → 5184 ≤ length out → (feed_of input st out).stops ≡ false → (feed_of input st out).waits ≡ false
      → 0 < (feed_of input st out).used
  -- what it leaves when it waits is shorter than the longest record with its length, so that a buffer of 516 bytes has always room to read more
  pub part_short : (input : List ℕ) (st : State) (out : List ℕ) → (feed_of input st out).waits ≡ true → length input < (feed_of input st out).used + 516
