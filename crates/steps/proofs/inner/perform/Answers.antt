use Rattle.std.proofs.Common.{ℕ, List, ◌≡◌, refl, sym, ap, ◌∙◌, rules, Ok, Err}
use Rattle.paper.proofs.Answering.{number_low}
use Rattle.records.specs.declared.Request.TheVariants as Asks
use Rattle.vector_store.specs.Search.{Nearest, told_of}
use Rattle.steps.specs.Memory.{memory_of}
use Rattle.steps.specs.Steps.{state_of, found_text}
use Rattle.steps.proofs.Cases.{stepped, added_is, based_is, text_found}
use Rattle.steps.proofs.Refused.{form_refused, addition_refused, search_refused}
use Rattle.steps.proofs.inner.perform.Goals as goal

pub returns-in_err-d : goal.returns-in_err-d
returns-in_err-d c =
    let e : c.from_residual.result ≡ Err c.in_err-d.field-0.0 = search rules in
    rw e (form_refused c.args.s.now c.args.g (memory_of c.args.bases.now c.args.faces.now c.args.marks.now c.args.vectors.now) c.args.out.now c.in_err-d.field-0.0 (sym c.in_err-d.was ∙ c.asked.ensures.told))

pub returns-in_err-add-in-Add : goal.returns-in_err-add-in-Add
returns-in_err-add-in-Add c =
    let e : c.from_residual-in_err-add-in-Add.result ≡ Err c.in_err-add-in-Add.field-0.0 = search rules in
    rw e (addition_refused c.args.s.now c.args.g (memory_of c.args.bases.now c.args.faces.now c.args.marks.now c.args.vectors.now) c.args.out.now c.in-Add.id (memory_of c.args.bases.now c.add.new.faces c.add.new.marks c.add.new.vectors) c.in_err-add-in-Add.field-0.0 (ap Ok (sym c.in-Add.is) ∙ sym c.in_ok-d.was ∙ c.asked.ensures.told) c.in_err-add-in-Add.ensures)

pub returns-in_err-found-in-Search : goal.returns-in_err-found-in-Search
returns-in_err-found-in-Search c =
    let e : c.from_residual-in_err-found-in-Search.result ≡ Err c.in_err-found-in-Search.field-0.0 = search rules in
    rw e (search_refused c.args.s.now c.args.g (memory_of c.args.bases.now c.args.faces.now c.args.marks.now c.args.vectors.now) c.args.out.now c.in-Search.k c.in-Search.wanted c.in-Search.spill _ _ (ap Ok (sym c.in-Search.is) ∙ sym c.in_ok-d.was ∙ c.asked.ensures.told) c.in_err-found-in-Search.ensures.found refl (number_low c.in_err-found-in-Search.field-0.0))

pub returns-in-Geometry : goal.returns-in-Geometry
returns-in-Geometry c = stepped c.args.s.now (state_of c.args.g (memory_of c.args.bases.now c.args.faces.now c.args.marks.now c.args.vectors.now)) c.args.out.now _ c.args.at _ _ _ (Ok (Asks.Geometry c.in-Geometry.d c.in-Geometry.n c.in-Geometry.cap c.in-Geometry.mode)) (ap Ok (sym c.in-Geometry.is) ∙ sym c.in_ok-d.was ∙ c.asked.ensures.told) refl c.put_told.ensures

pub returns-in-Basis : goal.returns-in-Basis
returns-in-Basis c = stepped c.args.s.now (state_of c.args.g (memory_of c.args.bases.now c.args.faces.now c.args.marks.now c.args.vectors.now)) c.args.out.now _ c.args.at _ _ _ (Ok (Asks.Basis c.in-Basis.b)) (ap Ok (sym c.in-Basis.is) ∙ sym c.in_ok-d.was ∙ c.asked.ensures.told) (based_is c.args.s.now c.args.g c.in-Basis.b (memory_of c.args.bases.now c.args.faces.now c.args.marks.now c.args.vectors.now) _ c.set_basis.ensures) c.put_told-in-Basis.ensures

pub returns-in_ok-add-in-Add : goal.returns-in_ok-add-in-Add
returns-in_ok-add-in-Add c = stepped c.args.s.now (state_of c.args.g (memory_of c.args.bases.now c.args.faces.now c.args.marks.now c.args.vectors.now)) c.args.out.now _ c.args.at _ _ _ (Ok (Asks.Add c.in-Add.id)) (ap Ok (sym c.in-Add.is) ∙ sym c.in_ok-d.was ∙ c.asked.ensures.told) (added_is c.args.s.now c.args.g c.in-Add.id 0 (memory_of c.args.bases.now c.args.faces.now c.args.marks.now c.args.vectors.now) _ c.in_ok-add-in-Add.ensures refl) c.put_told-in-Add.ensures

pub returns-in_ok-found-in-Search : goal.returns-in_ok-found-in-Search
returns-in_ok-found-in-Search c =
    let f : Nearest = told_of (Ok c.in_ok-found-in-Search.found) in
    stepped c.args.s.now (state_of c.args.g (memory_of c.args.bases.now c.args.faces.now c.args.marks.now c.args.vectors.now)) c.args.out.now _ c.args.at _ _ _ (Ok (Asks.Search c.in-Search.k c.in-Search.wanted c.in-Search.spill)) (ap Ok (sym c.in-Search.is) ∙ sym c.in_ok-d.was ∙ c.asked.ensures.told)
    (ap (λ (x : Nearest). (found_text x, (state_of c.args.g (memory_of c.args.bases.now c.args.faces.now c.args.marks.now c.args.vectors.now)))) (sym c.in_ok-found-in-Search.ensures.found) ∙ ap (λ (t : List ℕ). (t, (state_of c.args.g (memory_of c.args.bases.now c.args.faces.now c.args.marks.now c.args.vectors.now)))) (sym (text_found f refl))) c.put_found.ensures
