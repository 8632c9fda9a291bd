-- In a run from the start every session lies within the program's limits. Assumes nothing.
use Rattle.std.proofs.Common.{Ok, Err, IfOk}
use mathlib.Core.Path.{◌≡◌, refl, sym, ap, ◌∙◌}
use mathlib.Core.Bool.{Bool, true, false}
use mathlib.Core.List.{List}
use Prim.Native.Nat.{ℕ, ◌≤◌}
use lib.Dec.{leb, eqb}
use lib.ListN.{length}
use Rattle.paper.specs.Choice.{pick}
use Rattle.paper.specs.Geometry.{geo_ok, cap_ok, mode_ok}
use Rattle.paper.proofs.Choice.{and_l, and_r}
use Rattle.records.specs.Fields.{u16_at}
use Rattle.records.specs.Requests.{Asked, Fits, within_limits, geometry_fits, request_of}
use Rattle.records.proofs.Requests.{request_fits, of_kind, unknown}
use Rattle.paper.specs.declared.Refusal.TheVariants.{BadRecord}
use Rattle.records.specs.declared.Session.{Session}
use Rattle.records.specs.declared.Request.TheVariants.{Geometry, Basis, Add, Search}
use Rattle.lines.specs.Lines.{refused_line, told}
use Rattle.lines.specs.declared.Told.TheVariants as Says
use Rattle.steps.specs.Memory.{Mem, added_of}
use Rattle.steps.specs.Steps.{State, state_of, held, start_of, session_of, closed, perform, step_of}
use Rattle.steps.specs.Laws.{Reached, first, behind, Unknown}

start_within : within_limits (held start_of).session ≡ true
unfolding within_limits start_of
start_within = refl

geo_mode : (d n cap mode : ℕ) → geo_ok d n cap mode ≡ true → leb mode 1 ≡ true
unfolding geo_ok mode_ok
geo_mode d n cap mode e =
    and_r (cap_ok cap) _ (and_r (leb n 32) _ (and_r (leb 1 n) _ (and_r (leb d 1024) _ (and_r (leb 1 d) _ e))))

-- a geometry that was taken
geometry_within : (stage d n cap mode : ℕ) → geometry_fits d n cap mode ≡ true → within_limits (session_of stage d n cap mode) ≡ true
unfolding geometry_fits within_limits
geometry_within stage d n cap mode e =
    let lim = and_r (geo_ok d n cap mode) _ e in
    let known = geo_mode d n cap mode (and_l (geo_ok d n cap mode) _ e) in
    rw (and_l (leb d 8) _ lim, and_l (leb n 4) _ (and_r (leb d 8) _ lim), and_r (leb n 4) _ (and_r (leb d 8) _ lim), known) refl

closed_within : (g : Session) → within_limits (closed g) ≡ within_limits g
unfolding within_limits
closed_within g = refl

-- the session behind a request: a new geometry, or the same four numbers
performed_within : (q : Asked) (s : List ℕ) (st : State) → IfOk q (λ r. Fits r s st.session) → within_limits st.session ≡ true → within_limits (perform q s st).1.session ≡ true
performed_within (Err r) s st f w = w
performed_within (Ok (Geometry d n cap mode)) s st f w = geometry_within 1 d n cap mode f
performed_within (Ok (Basis b)) s st f w = w
performed_within (Ok (Add id)) s st f w = go (added_of s st.session id st.memory) (eqb (added_of s st.session id st.memory).0 0)
  where
    go : (a : ℕ × Mem) (b : Bool)
        → within_limits (pick {A = List ℕ × State} b (told (Says.Added id), state_of (closed st.session) a.1) (refused_line a.0, state_of st.session a.1)).1.session ≡ true
    go a true = closed_within st.session ∙ w
    go a false = w
performed_within (Ok (Search k wanted spill)) s st f w = w

pub run_within : (st : State) → Reached st → within_limits st.session ≡ true
unfolding step_of
run_within _ first = start_within
run_within _ (behind s st r) = performed_within (request_of s st.session) s st (request_fits s st.session) (run_within st r)

pub unknown_fifteen : (s : List ℕ) (st : State) → Reached st → 2 ≤ length s → Unknown (u16_at s 0) → step_of s st ≡ (refused_line 15, st)
unfolding step_of
unknown_fifteen s st r h u =
    let e : Err BadRecord ≡ request_of s st.session =
    of_kind s st.session (u16_at s 0) (Err BadRecord) (run_within st r) h refl (unknown s st.session (u16_at s 0) u.no_geometry u.no_basis u.no_addition u.no_query) in
    ap (λ (q : Asked). perform q s st) (sym e)
