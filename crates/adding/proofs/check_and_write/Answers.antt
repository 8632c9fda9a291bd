-- `adding::check_and_write` meets its contract. Assumes nothing.
use Rattle.std.proofs.Common.{ℕ, ◌*◌, ◌<◌, ◌≡◌, ◌∙◌, sym, subst, Err, rules}
use Rattle.adding.proofs.Cases.{late_six, late_seven, late_none, written_is}
use Rattle.adding.proofs.Accepted.{face_slot_low}
use Rattle.adding.proofs.check_and_write.Goals as goal

pub returns-in_err-normalize_into-clause-told : goal.returns-in_err-normalize_into-clause-told
returns-in_err-normalize_into-clause-told c =
    let a = c.args in
    let e : c.from_residual.result ≡ Err c.in_err-normalize_into.field-0.0 = search rules in
    rw e (late_six a.g.d a.g.n a.bases.now a.v.now _ c.in_err-normalize_into.ensures.0 c.requires.finite)

pub returns-in_err-slots-clause-told : goal.returns-in_err-slots-clause-told
returns-in_err-slots-clause-told c =
    let a = c.args in
    let e : c.from_residual-in_err-slots.result ≡ Err c.in_err-slots.field-0.0 = search rules in
    rw e (late_seven a.g.d a.g.n a.bases.now a.v.now _ c.in_ok-normalize_into.ensures.0 c.in_err-slots.ensures.told)

pub write-requires : goal.write-requires
write-requires c =
    let a = c.args in
    let s = c.requires.shaped in
    record {
      facts = s.facts;
      faces = s.faces;
      marks = s.marks;
      vectors = s.vectors;
      work = c.slots_of.auto.work ∙ c.normalize_into.auto.work ∙ s.work;
      vector = s.vector;
      id_low = s.id_low;
      low = λ (b : ℕ) (l : b < a.g.n). subst (λ (k : ℕ). k < 2 * a.g.d) (sym (c.in_ok-slots.ensures.found b l)) (face_slot_low a.g.d a.bases.now a.v.now b s.vector s.facts.d_low);
    }

pub returns-clause-told : goal.returns-clause-told
returns-clause-told c = let a = c.args in late_none a.g.d a.g.n a.bases.now a.v.now c.in_ok-normalize_into.ensures.0 c.in_ok-slots.ensures.told

pub returns-clause-index : goal.returns-clause-index
returns-clause-index c =
    let a = c.args in
    written_is a.g a.bases.now a.id a.v.now _ _ c.in_ok-slots.slots c.write.ensures c.in_ok-slots.ensures.found
