-- `adding::check_shape` meets its contract. Assumes nothing.
use Rattle.std.proofs.Common.{◌≡◌, ◌∙◌, sym, Err, rules}
use borrow.Author.Tests.{lt-ltb, le-ltb}
use Rattle.adding.proofs.Shape.{own_refused, lent_refused, id_decides, shaped}
use Rattle.adding.proofs.check_shape.Goals as goal

pub returns-in_err-check_own-clause-told : goal.returns-in_err-check_own-clause-told
returns-in_err-check_own-clause-told c =
    let a = c.args in
    let e : c.from_residual.result ≡ Err c.in_err-check_own.field-0.0 = search rules in
    rw e (own_refused a.g a.id _ _ _ _ _ _ _ c.in_err-check_own.ensures.told)

pub returns-then-not-lent_lengths_ok-clause-told : goal.returns-then-not-lent_lengths_ok-clause-told
returns-then-not-lent_lengths_ok-clause-told c =
    let a = c.args in
    lent_refused a.g a.id a.bases a.faces a.marks a.vectors a.work a.v c.in_ok-check_own.ensures.told (sym c.lent_lengths_ok.ensures ∙ c.if-not-lent_lengths_ok.true)

pub returns-then-g-id-clause-told : goal.returns-then-g-id-clause-told
returns-then-g-id-clause-told c =
    let a = c.args in
    rw (le-ltb _ _ c.if-g-id.true) at (id_decides a.g a.id a.bases a.faces a.marks a.vectors a.work a.v c.in_ok-check_own.ensures.told (sym c.lent_lengths_ok.ensures ∙ c.if-not-lent_lengths_ok.false))

pub returns-clause-told : goal.returns-clause-told
returns-clause-told c =
    let a = c.args in
    rw (lt-ltb _ _ c.if-g-id.false) at (id_decides a.g a.id a.bases a.faces a.marks a.vectors a.work a.v c.in_ok-check_own.ensures.told (sym c.lent_lengths_ok.ensures ∙ c.if-not-lent_lengths_ok.false))

pub returns-clause-shaped : goal.returns-clause-shaped
returns-clause-shaped c =
    let a = c.args in
    let t = rw (lt-ltb _ _ c.if-g-id.false) at (id_decides a.g a.id a.bases a.faces a.marks a.vectors a.work a.v c.in_ok-check_own.ensures.told (sym c.lent_lengths_ok.ensures ∙ c.if-not-lent_lengths_ok.false)) in
    shaped a.g a.id _ _ _ _ _ _ (sym t)
