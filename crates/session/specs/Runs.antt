-- What a whole run prints, and how far one call of feed brings it (01, "The search program").
use Rattle.std.specs.Prelude.{ℕ, zero, suc, ◌+◌, ◌-◌, Bool, true, false, List, [], ◌∷◌, ◌++◌, length, take, drop, ltb, Result, Ok, Err, Option, Some, None}
use Rattle.std.proofs.lemmas.List.Edits.{sets}
use Rattle.paper.specs.Choice.{pick}
use Rattle.records.specs.Fields.{u32_at}
use Rattle.paper.specs.Refusals.{number_of}
use Rattle.paper.specs.declared.Refusal.{Refusal}
use Rattle.paper.specs.declared.Refusal.TheVariants.{BadRecord}
use Rattle.lines.specs.Lines.{refused_line}
use Rattle.steps.specs.Steps.{State, held, start_of, step_of}
use Rattle.session.specs.declared.Next.{Next}
use Rattle.session.specs.declared.Next.TheVariants.{Feed, Read, Stop}

-- ---- a frame: four bytes of length, and as many bytes as it says

-- a whole record of so many bytes behind its length; none, too little to say; or a refusal
abbrev pub Frame : Type 0
Frame = Result (Option ℕ) Refusal

-- a length below 2 or above 512 is refused
unfoldable pub frame_of : List ℕ → Frame
frame_of s =
    pick (ltb (length s) 4) (Ok None)
    (pick (ltb (u32_at s 0) 2) (Err BadRecord)
    (pick (ltb 512 (u32_at s 0)) (Err BadRecord)
    (pick (ltb (length s - 4) (u32_at s 0)) (Ok None) (Ok (Some (u32_at s 0))))))

-- the n bytes behind the length
abbrev pub record_of : ℕ → List ℕ → List ℕ
record_of n s = take n (drop 4 s)

-- ---- a run

-- what is left where the input ends: nothing, or a cut record
abbrev pub end_text : List ℕ → List ℕ
end_text [] = []
end_text (b ∷ s) = refused_line 15

-- a whole record prints what it comes to, and the run goes on behind it; a bad frame and the end stop the run
abbrev pub go : Frame → (List ℕ → State → List ℕ) → List ℕ → State → List ℕ
go (Ok (Some n)) rest s st = let o = step_of (record_of n s) st in o.0 ++ rest (drop (4 + n) s) o.1
go (Err r) rest s st = refused_line (number_of r)
go (Ok None) rest s st = end_text s

-- at most k records
unfoldable pub run_to : ℕ → List ℕ → State → List ℕ
run_to zero s st = []
run_to (suc k) s st = go (frame_of s) (run_to k) s st

-- all that a run over a whole input prints, from a state on: an input of n bytes has no more than n records
unfoldable pub run : List ℕ → State → List ℕ
run s st = run_to (suc (length s)) s st

-- all that the program prints for its input: the run from the state before the first record
unfoldable pub printed : List ℕ → List ℕ
printed s = run s (held start_of)

-- ---- one call of feed

-- how far it came: the state, how much of the input it used, how much of out is put, whether the run stops or waits for input, and out
pub record Far : Type 0 where
  pub state : State
  pub used : ℕ
  pub put : ℕ
  pub stops : Bool
  pub waits : Bool
  pub out : List ℕ

abbrev pub fed : State → ℕ → ℕ → Bool → Bool → List ℕ → Far
fed st i p stops waits out = record { state = st; used = i; put = p; stops = stops; waits = waits; out = out }

-- one turn, at the front of what is left of the input
abbrev pub turn : Frame → (List ℕ → ℕ → ℕ → State → List ℕ → Far) → List ℕ → ℕ → ℕ → State → List ℕ → Far
turn (Ok (Some n)) rest s i p st out =
    let o = step_of (record_of n s) st in
    rest (drop (4 + n) s) (i + (4 + n)) (p + length o.0) o.1 (sets out p o.0)
turn (Err r) rest s i p st out = let t = refused_line (number_of r) in fed st i (p + length t) true false (sets out p t)
turn (Ok None) rest s i p st out = fed st i p false true out

-- at most k records, with i bytes used and p put before; out wants room for the longest answer
unfoldable pub feed_to : ℕ → List ℕ → ℕ → ℕ → State → List ℕ → Far
feed_to zero s i p st out = fed st i p false false out
feed_to (suc k) s i p st out = pick (ltb (length out - p) 5184) (fed st i p false false out) (turn (frame_of s) (feed_to k) s i p st out)

unfoldable pub feed_of : List ℕ → State → List ℕ → Far
feed_of input st out = feed_to (suc (length input)) input 0 0 st out

-- ---- what comes next, by its two tests

abbrev pub is_stop : Next → Bool
is_stop Stop = true
is_stop Feed = false
is_stop Read = false

abbrev pub is_read : Next → Bool
is_read Read = true
is_read Feed = false
is_read Stop = false
