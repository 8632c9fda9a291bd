-- Laws of a run: how it goes on, and that a longer input changes nothing of what was taken. Assumes nothing.
use mathlib.Core.Path.{◌≡◌, refl, ap, ◌∙◌}
use mathlib.Core.List.{List, [], ◌∷◌, ◌++◌}
use Prim.Native.Nat.{ℕ, zero, suc, ◌+◌, ◌-◌, ◌≤◌, ◌<◌}
use native.Mathlib.Omega.{arith}
use native.Mathlib.Nat.{not-suc-le-zero}
use lib.ListN.{length, drop, length-append, length-drop}
use lib.Seq.{take-append-le, drop-append-le}
use Rattle.lines.specs.Lines.{Put, refused_line}
use Rattle.steps.specs.Steps.{State, step_of}
use Rattle.std.proofs.Common.{Ok, Err, Some, None}
use Rattle.paper.specs.Refusals.{number_of}
use Rattle.paper.specs.declared.Refusal.{Refusal}
use Rattle.session.specs.Runs.{Frame, frame_of, record_of, end_text, go, run_to, run}
use Rattle.session.proofs.Frames.{framed, framed_back, framed_more, bad_more}

-- ---- a run does not depend on its bound

go_enough : (f : Frame) (j k : ℕ) (s : List ℕ) (st : State) → frame_of s ≡ f → length s < suc j → length s < suc k
    → ((t : List ℕ) (u : State) → length t < j → length t < k → run_to j t u ≡ run_to k t u) → go f (run_to j) s st ≡ go f (run_to k) s st
go_enough (Err r) j k s st e h i again = refl
go_enough (Ok None) j k s st e h i again = refl
go_enough (Ok (Some n)) j k s st e h i again =
    let f = framed s n e in
    let l : length (drop (4 + n) s) ≡ length s - (4 + n) = length-drop (4 + n) s in
    let o = step_of (record_of n s) st in
    ap (λ (t : List ℕ). o.0 ++ t) (again (drop (4 + n) s) o.1 (omega (arith, f.long, l)) (omega (arith, f.long, l)))

run_enough : (j k : ℕ) (s : List ℕ) (st : State) → length s < j → length s < k → run_to j s st ≡ run_to k s st
unfolding run_to
run_enough zero k s st h i = absurd (not-suc-le-zero h)
run_enough (suc j) zero s st h i = absurd (not-suc-le-zero i)
run_enough (suc j) (suc k) s st h i = go_enough (frame_of s) j k s st refl h i (λ t u a b. run_enough j k t u a b)

-- ---- how a run goes on

pub run_whole : (s more : List ℕ) (n : ℕ) (st : State) → frame_of s ≡ Ok (Some n)
    → run (s ++ more) st ≡ (step_of (record_of n s) st).0 ++ run (drop (4 + n) s ++ more) (step_of (record_of n s) st).1
unfolding run run_to
run_whole s more n st e =
    let f = framed s n e in
    let l : length (drop (4 + n) s ++ more) ≡ length s - (4 + n) + length more = length-append (drop (4 + n) s) more ∙ ap (λ (k : ℕ). k + length more) (length-drop (4 + n) s) in
    let m : length (s ++ more) ≡ length s + length more = length-append s more in
    let h : 4 + n ≤ length s = f.long in
    rw (framed_back (s ++ more) n (framed_more s more n f), drop-append-le (4 + n) s more h, drop-append-le 4 s more (omega arith), take-append-le n (drop 4 s) more (simp length-drop (omega arith)))
    (ap (λ (t : List ℕ). (step_of (record_of n s) st).0 ++ t)
    (run_enough (length (s ++ more)) (suc (length (drop (4 + n) s ++ more))) (drop (4 + n) s ++ more) (step_of (record_of n s) st).1 (omega arith) (omega arith)))

pub run_bad : (s more : List ℕ) (st : State) (r : Refusal) → frame_of s ≡ Err r → run (s ++ more) st ≡ refused_line (number_of r)
unfolding run run_to
run_bad s more st r e = rw (bad_more s more r e) refl

pub run_end : (s : List ℕ) (st : State) → frame_of s ≡ Ok None → run s st ≡ end_text s
unfolding run run_to
run_end s st e = rw e refl

-- ---- the end of the input

pub none_left : (l s : List ℕ) → length s ≡ 0 → Put l l 0 0 (end_text s)
none_left l [] e = record { next = refl; stored = refl }
none_left l (b ∷ s) e = let no : ⊥ = omega arith in absurd no

pub some_left : (s : List ℕ) → (length s ≡ 0 → ⊥) → refused_line 15 ≡ end_text s
some_left [] n = absurd (n refl)
some_left (b ∷ s) n = refl
