use mathlib.Core.Path.{◌≡◌, sym, ap, ◌∙◌}
use Prim.Native.Nat.{ℕ}
use native.Mathlib.Omega.{arith}
use Rattle.result.specs.Ranked.{entry, larger}
use Rattle.result.specs.Places.{entries}
use Rattle.result.proofs.Walk.{walked, walks_held, walks_found, walks_on, walks_last}
use Rattle.result.proofs.inner.place_of.Goals as goal

pub returns-then-ids-insert : goal.returns-then-ids-insert
returns-then-ids-insert c =
    let l = c.loop-insert in
    let a = c.args in
    record {
      within = tt;
      same = sym (walks_held larger (entry a.id a.similarity) a.len a.ids.now a.sims.now (omega arith) (omega arith) l.insert (omega arith) c.if-ids-insert.true) ∙ l.invariant;
    }

pub returns-then-sims-insert : goal.returns-then-sims-insert
returns-then-sims-insert c =
    let l = c.loop-insert in
    let a = c.args in
    record {
      within = omega arith;
      same = sym (walks_found larger (entry a.id a.similarity) a.len a.ids.now a.sims.now (omega arith) (omega arith) l.insert (omega arith) c.if-ids-insert.false c.if-sims-insert.true) ∙ l.invariant;
    }

pub loop-insert-preserved : goal.loop-insert-preserved
loop-insert-preserved c =
    let l = c.loop-insert in
    let a = c.args in
    sym (walks_on larger (entry a.id a.similarity) a.len a.ids.now a.sims.now (omega arith) (omega arith) l.insert (omega arith) c.if-ids-insert.false c.if-sims-insert.false) ∙ l.invariant

pub returns : goal.returns
returns c =
    let l = c.loop-insert in
    let a = c.args in
    let e = entry a.id a.similarity in
    let m : l.insert ≡ a.len = omega arith in
    record {
      within = omega arith;
      same = sym (walks_last larger e a.len a.ids.now a.sims.now (omega arith) (omega arith) a.len (omega arith)) ∙ ap (λ (j : ℕ). walked larger e j (entries a.len a.ids.now a.sims.now)) (sym m) ∙ l.invariant;
    }
