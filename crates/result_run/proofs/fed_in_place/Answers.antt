-- `fed_in_place` meets its contract. Assumes nothing.
use Rattle.std.proofs.Common.{◌≡◌, ℕ, arith, rules, ne_eqb, Err}
use lib.Ieee.{Float}
use Rattle.paper.specs.declared.Refusal.{Refusal}
use Rattle.paper.specs.Refusals.{number_of}
use Rattle.paper.proofs.Answering.{number_low}
use Rattle.result.specs.declared.ResultSet.{ResultSet}
use Rattle.result.specs.Sets.{feed_refusal, feed_of, answer}
use Rattle.result_run.proofs.fed_in_place.Goals as goal

-- a refused set comes back as it was
left : (s : ResultSet) (id : ℕ) (x : Float) (r : Refusal) → number_of r ≡ (feed_of s id x).refusal → answer (number_of r) s ≡ feed_of s id x
unfolding feed_of
left s id x r e =
    let low = number_low r in
    rw (e, ne_eqb (feed_refusal s x) 0 (λ z. omega arith))

pub returns-in_err-add_result : goal.returns-in_err-add_result
returns-in_err-add_result c =
    let out : c.from_residual.result ≡ Err c.in_err-add_result.field-0.0 = search rules in
    rw out (left c.args.set c.args.id c.args.similarity c.in_err-add_result.field-0.0 c.in_err-add_result.ensures.0)
