-- What one record prints, and the state that it leaves (01, "The search program").
use Rattle.std.specs.Prelude.{ℕ, ◌*◌, ◌≡◌, List, ◌++◌, replicate, eqb, Float, Ok, Err}
use Rattle.std.proofs.lemmas.List.Edits.{sets}
use Rattle.paper.specs.Choice.{pick}
use Rattle.records.specs.Fields.{floats_at}
use Rattle.paper.specs.Refusals.{number_of}
use Rattle.records.specs.Requests.{Asked, request_of}
use Rattle.records.specs.declared.Session.{Session}
use Rattle.records.specs.declared.Request.TheVariants.{Geometry, Basis, Add, Search}
use Rattle.lines.specs.Lines.{Put, refused_line, told, listing}
use Rattle.lines.specs.declared.Told.TheVariants as Says
use Rattle.result.specs.declared.ResultSet.{ResultSet}
use Rattle.vector_store.specs.Search.{Nearest}
use Rattle.steps.specs.Memory.{Mem, memory_of, zero_f, added_of, found_of}
use Rattle.steps.specs.declared.Store.{Store}

pub record State : Type 0 where
  pub session : Session
  pub memory : Mem

abbrev pub state_of : Session → Mem → State
state_of g m = record { session = g; memory = m }

-- the state that a store holds
abbrev pub held : Store → State
held t = state_of t.session (memory_of t.bases t.faces t.marks t.vectors)

abbrev pub session_of : ℕ → ℕ → ℕ → ℕ → ℕ → Session
session_of stage d n cap mode = record { stage = stage; d = d; n = n; cap = cap; mode = mode }

-- bases, face sets, marks and vectors start as zeros
unfoldable pub start_of : Store
start_of = record {
  session = session_of 0 0 0 0 0;
  bases = replicate 256 zero_f;
  faces = replicate 256 0;
  marks = replicate 4 0;
  vectors = replicate 8192 0;
}

-- a search's list: how many are listed and how many were checked, and the list
abbrev pub listed : ResultSet → List ℕ
listed s = told (Says.Found s.len s.checked) ++ listing s.len s.ids s.sims

-- a search's lines: its refusal, or its list
unfoldable pub found_text : Nearest → List ℕ
found_text f = pick (eqb f.refusal 0) (listed f.set) (refused_line f.refusal)

-- an accepted addition closes the bases; a refused one changes nothing of the session
abbrev pub closed : Session → Session
closed g = session_of 2 g.d g.n g.cap g.mode

abbrev pub add_done : Session → ℕ → ℕ × Mem → List ℕ × State
add_done g id a = pick (eqb a.0 0) (told (Says.Added id), state_of (closed g) a.1) (refused_line a.0, state_of g a.1)

abbrev pub with_bases : Mem → List Float → Mem
with_bases m b = record { bases = b; ix = m.ix }

-- what a request prints, and the state behind it; basis b stands at b * d * d
abbrev pub perform : Asked → List ℕ → State → List ℕ × State
perform (Err r) s st = (refused_line (number_of r), st)
perform (Ok (Geometry d n cap mode)) s st = (told (Says.Geometry d n cap mode), state_of (session_of 1 d n cap mode) st.memory)
perform (Ok (Basis b)) s st =
    let g = st.session in
    (told (Says.Basis b), state_of g (with_bases st.memory (sets st.memory.bases (b * (g.d * g.d)) (floats_at (g.d * g.d) s 4))))
perform (Ok (Add id)) s st = add_done st.session id (added_of s st.session id st.memory)
perform (Ok (Search k wanted spill)) s st = (found_text (found_of s st.session k wanted spill st.memory), st)

-- one record
unfoldable pub step_of : List ℕ → State → List ℕ × State
step_of s st = perform (request_of s st.session) s st

-- the number that refuses a record, 0 for none: the call's own, or that of the record's form or its time
abbrev pub refused_by : Asked → List ℕ → State → ℕ
refused_by (Err r) s st = number_of r
refused_by (Ok (Geometry d n cap mode)) s st = 0
refused_by (Ok (Basis b)) s st = 0
refused_by (Ok (Add id)) s st = (added_of s st.session id st.memory).0
refused_by (Ok (Search k wanted spill)) s st = (found_of s st.session k wanted spill st.memory).refusal

unfoldable pub refusal_of : List ℕ → State → ℕ
refusal_of s st = refused_by (request_of s st.session) s st

-- a record's text stands in out at a place, and the state is the one behind the record
pub record Stepped (s : List ℕ) (st st' : State) (old new : List ℕ) (at r : ℕ) : Type 0 where
  pub printed : Put old new at r (step_of s st).0
  pub after : st' ≡ (step_of s st).1

-- a record is refused by a number: it is to print the number's line, and neither the state nor out has changed
pub record Refused (s : List ℕ) (st st' : State) (old new : List ℕ) (n : ℕ) : Type 0 where
  pub prints : step_of s st ≡ (refused_line n, st)
  pub state : st' ≡ st
  pub out : new ≡ old
