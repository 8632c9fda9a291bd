use mathlib.Core.List.{◌∷◌}
use mathlib.Core.Path.{◌≡◌, sym, ap, ◌∙◌}
use Prim.Native.Nat.{◌+◌, ◌<◌}
use native.Mathlib.Omega.{arith}
use native.Mathlib.Numerals.{add-one}
use lib.ListN.{length, get_or, drop, length-drop}
use lib.Seq.{drop-cons}
use Rattle.lines.specs.Lines.{trimmed}
use Rattle.lines.proofs.Texts.{tail_part, stops_at, ends_at, trim_one, trim_more}
use Rattle.lines.proofs.inner.trimmed_part.Goals as goal
use Rattle.lines.proofs.inner.trimmed_part.Goals.{then-text-i-eq1-via-then-text-i-eq1, then-text-i-eq1-via-else-text-i-eq1+then-digit-ne48}

pub returns-then-text-i-eq1 : goal.returns-then-text-i-eq1
returns-then-text-i-eq1 c =
    let i = c.loop-i.i in
    let t = c.args.text.now in
    let here : drop i t ≡ trimmed (drop i t) =
    elim c.then-text-i-eq1.branch [ then-text-i-eq1-via-then-text-i-eq1 w ↦ trim_one (drop i t) (length-drop i t ∙ w.if-text-i-eq1.true) | then-text-i-eq1-via-else-text-i-eq1+then-digit-ne48 w ↦ stops_at t i c.loop-i-test.true w.if-digit-ne48.true ] in
    tail_part t i ∙ here ∙ c.loop-i.invariant.1

pub loop-i-preserved : goal.loop-i-preserved
loop-i-preserved c =
    let i = c.loop-i.i in
    let t = c.args.text.now in
    let h : i < length t = omega arith in
    let d : drop i t ≡ get_or t i 0 ∷ drop (i + 1) t = rw (add-one, drop-cons t i 0) in
    let m : 0 < length (drop (i + 1) t) = simp length-drop (omega arith) in
    (omega arith, trim_more (get_or t i 0) (drop (i + 1) t) m (omega arith) ∙ sym (ap trimmed d) ∙ c.loop-i.invariant.1)

pub returns : goal.returns
returns c = ends_at c.args.text.now 0 (omega arith)
