-- `adding::add_vector` meets its contract. Assumes nothing.
use Rattle.std.proofs.Common.{ℕ, ◌≡◌, ◌∙◌, sym, ap, Err, rules}
use Rattle.index_memory.specs.Memory.{float_zeros}
use Rattle.adding.proofs.Cases.{shape_refused, five_refused, late_done}
use Rattle.adding.proofs.add_vector.Goals as goal

pub returns-in_err-check_shape : goal.returns-in_err-check_shape
returns-in_err-check_shape c =
    let e : c.from_residual.result ≡ Err c.in_err-check_shape.field-0.0 = search rules in
    rw e (shape_refused _ _ _ _ _ _ _ c.in_err-check_shape.ensures.told)

pub returns-then-not-all_finite : goal.returns-then-not-all_finite
returns-then-not-all_finite c = five_refused _ _ _ _ _ _ c.in_ok-check_shape.ensures.told (sym c.all_finite.ensures ∙ c.if-not-all_finite.true)

pub returns : goal.returns
returns c =
    late_done _ _ _ _ _ _ _ _ _ c.in_ok-check_shape.ensures.told (sym c.all_finite.ensures ∙ c.if-not-all_finite.false) c.check_and_write-answer.ensures.told c.check_and_write-answer.ensures.index
    (c.fill.ensures.after (λ y h. h) ∙ ap (λ (k : ℕ). float_zeros k) c.check_and_write-answer.auto.work)
