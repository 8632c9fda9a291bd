-- `vector_store::find_nearest_internal` meets its contract. Assumes nothing.
use native.Mathlib.Omega.{arith}
use Prim.Native.Nat.{◌+◌, ◌*◌, ◌≤◌}
use mathlib.Core.Path.{◌≡◌, ◌∙◌, sym}
use lib.ListN.{length}
use Rattle.std.proofs.Common.{rules, Some, Ok, Err}
use Rattle.paper.specs.Geometry.{set_words}
use Rattle.index_memory.specs.Memory.{ix_of}
use Rattle.counting_bitmap.specs.TopLayer.{top_of}
use Rattle.candidates.specs.Gathering.{Query, GatherIs, gathered}
use Rattle.vector_store.specs.Search.{searched_by}
use Rattle.vector_store.proofs.Cases.{layer_end, found_stopped, found_none, found_refused, found_done}
use Rattle.vector_store.proofs.find_nearest_internal.Goals as goal
use Rattle.vector_store.proofs.find_nearest_internal.Goals.{In_ok-dropped, In-Some}

pub returns-in_err-dropped : goal.returns-in_err-dropped
returns-in_err-dropped c =
    let r = c.in_err-dropped.field-0.0 in
    let e : c.from_residual.result ≡ Err r = search rules in
    rw e (found_stopped c.args.g.n c.args.g.mode c.args.query.k c.args.query.search_k _ c.args.marks.now c.args.vectors.now c.gather.new.layers r (rw (c.requires.set, c.picks_for-picks.ensures) at c.in_err-dropped.ensures))

-- what the search goes by
abbrev by : In_ok-dropped → Query
by c = searched_by c.args.g c.args.bases.now (ix_of c.args.faces.now c.args.marks.now c.args.vectors.now) c.args.target.now c.args.query.spill

-- the layers that were gathered
layers : (c : In_ok-dropped) → GatherIs c.args.g.n (by c) (gathered (Ok c.in_ok-dropped.dropped)) c.gather.new.layers
layers c = rw (c.requires.set, c.picks_for-picks.ensures) at c.in_ok-dropped.ensures

pub returns-in_default : goal.returns-in_default
returns-in_default c =
    let d = (goal.at.returns-in_default c).In_ok-dropped in
    found_none c.args.g.n c.args.g.mode c.args.query.k c.args.query.search_k (by d) c.args.marks.now c.args.vectors.now c.gather.new.layers c.in_ok-dropped.dropped (layers d) (sym c.top_layer-top.ensures ∙ c.in_default.is)

-- a layer was found, and it is within the layers
top_is : (c : In-Some) → top_of c.args.g.n (set_words c.args.g.cap) c.gather.new.layers c.args.query.search_k ≡ Some c.in-Some.i
top_is c = sym c.top_layer-top.ensures ∙ c.in-Some.is

top_end : (c : In-Some) → c.in-Some.i * set_words c.args.g.cap + set_words c.args.g.cap ≤ length c.gather.new.layers
top_end c = layer_end c.args.g.n (set_words c.args.g.cap) c.args.query.search_k c.in-Some.i c.gather.new.layers (top_is c) (c.gather.auto.layers ∙ c.requires.layers)

pub overflow_mul-a : goal.overflow_mul-a
overflow_mul-a c = omega (arith, top_end (goal.at.overflow_mul-a c).In-Some)

pub overflow_add-ids : goal.overflow_add-ids
overflow_add-ids c = omega (arith, top_end (goal.at.overflow_add-ids c).In-Some)

pub offset_bounds-layers-a : goal.offset_bounds-layers-a
offset_bounds-layers-a c = omega (arith, top_end (goal.at.offset_bounds-layers-a c).In-Some)

pub slice_bounds-ids-end : goal.slice_bounds-ids-end
slice_bounds-ids-end c = omega (arith, top_end (goal.at.slice_bounds-ids-end c).In-Some)

pub returns-in_err-set : goal.returns-in_err-set
returns-in_err-set c =
    let d = (goal.at.returns-in_err-set c).In_ok-dropped in
    let s = (goal.at.returns-in_err-set c).In-Some in
    let r = c.in_err-set.field-0.0 in
    let e : c.from_residual-in_err-set.result ≡ Err r = search rules in
    rw e (found_refused c.args.g.n c.args.g.mode c.args.query.k c.args.query.search_k (by d) c.args.marks.now c.args.vectors.now c.gather.new.layers c.in_ok-dropped.dropped (layers d) c.in-Some.i (top_is s) r c.in_err-set.ensures)

pub returns : goal.returns
returns c =
    let d = (goal.at.returns c).In_ok-dropped in
    let s = (goal.at.returns c).In-Some in
    found_done c.args.g.n c.args.g.mode c.args.query.k c.args.query.search_k (by d) c.args.marks.now c.args.vectors.now c.gather.new.layers c.in_ok-dropped.dropped (layers d) c.in-Some.i (top_is s) c.in_ok-set.set c.in_ok-set.ensures
