-- `session::laws` meets its contract. Assumes nothing.
use Prim.Native.Nat.{ℕ, ◌+◌, ◌<◌}
use native.Mathlib.Omega.{arith}
use mathlib.Core.Path.{◌≡◌, sym, ap, ◌∙◌}
use mathlib.Core.Bool.{true}
use mathlib.Core.List.{List, [], ◌++◌, append-nil}
use lib.ListN.{length, drop, length-drop}
use lib.Seq.{length-take-le}
use Rattle.records.specs.Fields.{u16_at}
use Rattle.lines.specs.Lines.{refused_line}
use Rattle.steps.specs.Steps.{State, held, start_of, step_of}
use Rattle.steps.specs.Laws.{Reached, Unknown}
use Rattle.steps.proofs.Within.{unknown_fifteen}
use Rattle.std.proofs.Common.{Ok, Some}
use Rattle.session.specs.Runs.{frame_of, record_of, run, printed, feed_of}
use Rattle.session.specs.Played.{left, joined, Played}
use Rattle.session.proofs.Frames.{framed, part_short}
use Rattle.session.proofs.Runs.{run_whole}
use Rattle.session.proofs.Whole.{fed_run, whole, any_cut, moves, plays}
use Rattle.session.proofs.laws.Goals as goal

run_unknown : (s : List ℕ) (n : ℕ) (st : State) → Reached st → frame_of s ≡ Ok (Some n) → Unknown (u16_at (record_of n s) 0)
    → run s st ≡ refused_line 15 ++ run (drop (4 + n) s) st
run_unknown s n st r e u =
    let f = framed s n e in
    let l : length (record_of n s) ≡ n = length-take-le n (drop 4 s) (omega (arith, f.long, length-drop 4 s)) in
    let same : step_of (record_of n s) st ≡ (refused_line 15, st) = unknown_fifteen (record_of n s) st r (omega (arith, f.low)) u in
    ap (λ (x : List ℕ). run x st) (sym (append-nil s))
    ∙ run_whole s [] n st e
    ∙ ap (λ (o : List ℕ × State). o.0 ++ run (drop (4 + n) s ++ []) o.1) same
    ∙ ap (λ (x : List ℕ). refused_line 15 ++ run x st) (append-nil (drop (4 + n) s))

whole_run : (reads : List (List ℕ)) (text : List ℕ) → Played [] (held start_of) reads text → text ≡ printed (joined reads)
unfolding printed
whole_run reads text p = whole [] (held start_of) reads text p

waits_short : (input : List ℕ) (st : State) (out : List ℕ) → (feed_of input st out).waits ≡ true → length input < (feed_of input st out).used + 516
waits_short input st out w =
    let f = feed_of input st out in
    omega (arith, part_short (left f input) ((fed_run input st out).waits w), length-drop f.used input, (fed_run input st out).used)

pub returns : goal.returns
returns c = record {
  whole = whole;
  whole_run = whole_run;
  run_unknown = run_unknown;
  any_cut = any_cut;
  plays = plays;
  moves = moves;
  part_short = waits_short;
}
