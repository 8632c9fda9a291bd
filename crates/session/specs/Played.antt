-- What the program does with feed, however its input comes in: the reads are the pieces of input that are still to come.
use Rattle.std.specs.Prelude.{◌≡◌, true, false, List, [], ◌∷◌, ◌++◌, ℕ, take, drop}
use Rattle.steps.specs.Steps.{State}
use Rattle.session.specs.Runs.{Far, feed_of, end_text}

-- the bytes that a call of feed has put
abbrev pub shown : Far → List ℕ
shown f = take f.put f.out

-- the bytes that it left of its input
abbrev pub left : Far → List ℕ → List ℕ
left f pending = drop f.used pending

-- all pieces, one after another
abbrev pub joined : List (List ℕ) → List ℕ
joined [] = []
joined (r ∷ rs) = r ++ joined rs

-- From a state, with bytes read and not used yet, the program prints the text. It calls feed with a buffer, whatever that holds, and prints what
-- feed has put. Where feed stops, it ends. Where feed waits, it reads the next piece behind what is left, or ends with what the end prints.
-- Else the buffer was full, and it calls feed again.
pub data Played : List ℕ → State → List (List ℕ) → List ℕ → Type 0 where
  stopped : (pending : List ℕ) (st : State) (reads : List (List ℕ)) (out : List ℕ) → (feed_of pending st out).stops ≡ true
      → Played pending st reads (shown (feed_of pending st out))
  emptied : (pending : List ℕ) (st : State) (reads : List (List ℕ)) (out text : List ℕ) → (feed_of pending st out).stops ≡ false → (feed_of pending st out).waits ≡ false
      → Played (left (feed_of pending st out) pending) (feed_of pending st out).state reads text → Played pending st reads (shown (feed_of pending st out) ++ text)
  refilled : (pending : List ℕ) (st : State) (read : List ℕ) (reads : List (List ℕ)) (out text : List ℕ) → (feed_of pending st out).stops ≡ false → (feed_of pending st out).waits ≡ true
      → Played (left (feed_of pending st out) pending ++ read) (feed_of pending st out).state reads text → Played pending st (read ∷ reads) (shown (feed_of pending st out) ++ text)
  ended : (pending : List ℕ) (st : State) (out : List ℕ) → (feed_of pending st out).stops ≡ false → (feed_of pending st out).waits ≡ true
      → Played pending st [] (shown (feed_of pending st out) ++ end_text (left (feed_of pending st out) pending))
