-- `capi_index::bbq_full_table_scan` meets its contract. Assumes nothing.
use mathlib.Core.Path.{sym, ◌∙◌}
use Rattle.paper.specs.Geometry.{geo}
use Rattle.capi_sets.specs.Lists.{outs}
use Rattle.capi_sets.proofs.Lists.{room}
use Rattle.capi_index.proofs.Cases.{scan_fits, scan_geometry, scan_room, scan_into_lem}
use Rattle.capi_index.proofs.bbq_full_table_scan.Goals as goal

pub returns-then-not-is_ok : goal.returns-then-not-is_ok
returns-then-not-is_ok c =
    let a = c.args in
    let g = geo a.d a.n a.cap a.mode in
    let o = outs a.ids.now a.scores.now a.counts.now in
    rw c.into.ensures (scan_geometry g a.marks.now a.vectors.now a.target.now a.k o (sym c.is_ok.ensures ∙ c.if-not-is_ok.true))

pub returns-then-not-room_ok : goal.returns-then-not-room_ok
returns-then-not-room_ok c =
    let a = c.args in
    let g = geo a.d a.n a.cap a.mode in
    let o = outs a.ids.now a.scores.now a.counts.now in
    rw c.into-then-not-room_ok.ensures (scan_room g a.marks.now a.vectors.now a.target.now a.k o (sym c.is_ok.ensures ∙ c.if-not-is_ok.false) (sym c.room_ok.ensures ∙ c.if-not-room_ok.true))

pub put_fed-requires : goal.put_fed-requires
put_fed-requires c =
    let a = c.args in
    let g = geo a.d a.n a.cap a.mode in
    let r = room _ _ _ _ _ (sym c.room_ok.ensures ∙ c.if-not-room_ok.false) in
    record { fits = scan_fits g a.marks.now a.vectors.now a.target.now a.k _ _ _ c.full_table_scan-fed.ensures r.ids r.scores; two = r.counts }

pub returns : goal.returns
returns c =
    let a = c.args in
    let g = geo a.d a.n a.cap a.mode in
    let o = outs a.ids.now a.scores.now a.counts.now in
    scan_into_lem g a.marks.now a.vectors.now a.target.now a.k o _ _ (sym c.is_ok.ensures ∙ c.if-not-is_ok.false) (sym c.room_ok.ensures ∙ c.if-not-room_ok.false)
    c.full_table_scan-fed.ensures c.put_fed.ensures
