-- `result::inner::insert` meets its contract. Assumes nothing.
use mathlib.Core.Path.{◌∙◌, sym}
use native.Mathlib.Omega.{arith}
use Rattle.result.specs.Ranked.{entry}
use Rattle.result.specs.Puts.{set_of}
use Rattle.result.specs.Sets.{entries_of}
use Rattle.result.proofs.Answers.{fed_stays, fed_held, fed_put, found_held, found_within, found_at}
use Rattle.result.proofs.inner.insert.Goals as goal

pub returns-then-closed_to : goal.returns-then-closed_to
returns-then-closed_to c =
    let a = c.args in
    let s = set_of a.ids.now a.sims.now a.len a.k 0 in
    let e = entry a.id a.similarity in
    let p = c.requires in
    fed_stays s e (omega (arith, p.len_le_k, p.ids_len)) (omega (arith, p.len_le_k, p.ids_len)) p.len_le_k.0 (sym c.closed_to.ensures ∙ c.if-closed_to.true)

pub put-requires : goal.put-requires
put-requires c = record {
  len_le_k = (c.requires.len_le_k.0, c.requires.len_le_k.1, found_within c.place_of.ensures c.in-Some.at c.in-Some.is);
  ids_len = c.requires.ids_len;
}

pub returns-in-None : goal.returns-in-None
unfolding entries_of
returns-in-None c =
    let a = c.args in
    let s = set_of a.ids.now a.sims.now a.len a.k 0 in
    let e = entry a.id a.similarity in
    let p = c.requires in
    fed_held s e (omega (arith, p.len_le_k, p.ids_len)) (omega (arith, p.len_le_k, p.ids_len)) p.len_le_k.0 (sym c.closed_to.ensures ∙ c.if-closed_to.false) (found_held c.place_of.ensures c.in-None.is)

pub returns-in-Some : goal.returns-in-Some
unfolding entries_of
returns-in-Some c =
    let a = c.args in
    let s = set_of a.ids.now a.sims.now a.len a.k 0 in
    let e = entry a.id a.similarity in
    let p = c.requires in
    fed_put s e (omega (arith, p.len_le_k, p.ids_len)) (omega (arith, p.len_le_k, p.ids_len)) p.len_le_k.0 c.in-Some.at _ (sym c.closed_to.ensures ∙ c.if-closed_to.false) (found_at c.place_of.ensures c.in-Some.at c.in-Some.is) c.put.ensures
