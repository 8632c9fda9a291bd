-- `capi_index::bbq_find_nearest` meets its contract. Assumes nothing.
use mathlib.Core.Path.{sym, ◌∙◌}
use Rattle.paper.specs.Geometry.{geo}
use Rattle.index_memory.specs.Memory.{ix_of}
use Rattle.vector_store.specs.Search.{works}
use Rattle.capi_sets.specs.Lists.{outs}
use Rattle.capi_sets.proofs.Lists.{room}
use Rattle.capi_index.proofs.Cases.{search_fits, search_geometry, search_room, search_into_lem}
use Rattle.capi_index.proofs.bbq_find_nearest.Goals as goal

pub returns-then-not-is_ok : goal.returns-then-not-is_ok
returns-then-not-is_ok c =
    let a = c.args in
    let g = geo a.d a.n a.cap a.mode in
    let ix = ix_of a.faces.now a.marks.now a.vectors.now in
    let m = works a.work.now a.layers.now a.set.now in
    let o = outs a.ids.now a.scores.now a.counts.now in
    rw c.into.ensures (search_geometry g a.bases.now ix a.target.now a.k a.search_k a.spill m o (sym c.is_ok.ensures ∙ c.if-not-is_ok.true))

pub returns-then-not-room_ok : goal.returns-then-not-room_ok
returns-then-not-room_ok c =
    let a = c.args in
    let g = geo a.d a.n a.cap a.mode in
    let ix = ix_of a.faces.now a.marks.now a.vectors.now in
    let m = works a.work.now a.layers.now a.set.now in
    let o = outs a.ids.now a.scores.now a.counts.now in
    rw c.into-then-not-room_ok.ensures (search_room g a.bases.now ix a.target.now a.k a.search_k a.spill m o (sym c.is_ok.ensures ∙ c.if-not-is_ok.false) (sym c.room_ok.ensures ∙ c.if-not-room_ok.true))

pub put_nearest-requires : goal.put_nearest-requires
put_nearest-requires c =
    let a = c.args in
    let g = geo a.d a.n a.cap a.mode in
    let ix = ix_of a.faces.now a.marks.now a.vectors.now in
    let m = works a.work.now a.layers.now a.set.now in
    let r = room _ _ _ _ _ (sym c.room_ok.ensures ∙ c.if-not-room_ok.false) in
    record { fits = search_fits g a.bases.now ix a.target.now a.k a.search_k a.spill m _ _ _ _ c.find_nearest-nearest.ensures r.ids r.scores; three = r.counts }

pub returns : goal.returns
returns c =
    let a = c.args in
    let g = geo a.d a.n a.cap a.mode in
    let ix = ix_of a.faces.now a.marks.now a.vectors.now in
    let m = works a.work.now a.layers.now a.set.now in
    let o = outs a.ids.now a.scores.now a.counts.now in
    search_into_lem g a.bases.now ix a.target.now a.k a.search_k a.spill m o _ _ _ (sym c.is_ok.ensures ∙ c.if-not-is_ok.false) (sym c.room_ok.ensures ∙ c.if-not-room_ok.false)
    c.find_nearest-nearest.ensures c.put_nearest.ensures
