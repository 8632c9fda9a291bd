-- `vector_store::find_nearest` meets its contract. Assumes nothing.
use mathlib.Core.Path.{◌≡◌, ◌∙◌, ap}
use lib.ListN.{length}
use Rattle.std.proofs.Common.{rules, Err}
use Rattle.index_memory.specs.Memory.{ix_of, float_zeros}
use Rattle.bitmaps.specs.Words.{empty}
use Rattle.vector_store.specs.Search.{works}
use Rattle.vector_store.proofs.Cases.{search_stopped, search_done}
use Rattle.vector_store.proofs.find_nearest.Goals as goal

pub returns-in_err-check_search : goal.returns-in_err-check_search
returns-in_err-check_search c =
    let a = c.args in
    let r = c.in_err-check_search.field-0.0 in
    let e : c.from_residual.result ≡ Err r = search rules in
    rw e (search_stopped a.g a.bases.now (ix_of a.faces.now a.marks.now a.vectors.now) a.target.now a.query.k a.query.search_k a.query.spill (works a.work.now a.layers.now a.set.now) r c.in_err-check_search.ensures.told)

pub returns : goal.returns
returns c =
    let a = c.args in
    let w : c.fill.new.self ≡ float_zeros (length a.work.now) = c.fill.ensures.after (λ y h. h) ∙ ap float_zeros c.find_nearest_internal-found.auto.work in
    let l : c.fill-2.new.self ≡ empty (length a.layers.now) = c.fill-2.ensures.after (λ y h. h) ∙ ap empty c.find_nearest_internal-found.auto.layers in
    let s : c.fill-3.new.self ≡ empty (length a.set.now) = c.fill-3.ensures.after (λ y h. h) ∙ ap empty c.find_nearest_internal-found.auto.set in
    search_done a.g a.bases.now (ix_of a.faces.now a.marks.now a.vectors.now) a.target.now a.query.k a.query.search_k a.query.spill (works a.work.now a.layers.now a.set.now) _ (works c.fill.new.self c.fill-2.new.self c.fill-3.new.self)
    c.in_ok-check_search.ensures.told c.find_nearest_internal-found.ensures (rw (w, l, s))
