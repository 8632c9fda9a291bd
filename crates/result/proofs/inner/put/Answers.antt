-- `result::inner::put` meets its contract. Assumes nothing.
use Rattle.std.proofs.Common.{ℕ, ap, ◌∙◌, arith}
use Rattle.result.specs.Ranked.{entry}
use Rattle.result.specs.Puts.{set_of}
use Rattle.result.specs.Sets.{entries_of}
use Rattle.result.proofs.Puts.{shifts, put_at, put_none}
use Rattle.result.proofs.inner.put.Goals as goal

pub returns-then-at-to : goal.returns-then-at-to
unfolding entries_of
returns-then-at-to c =
    let a = c.args in
    let s = set_of a.ids.now a.sims.now a.len a.k 1 in
    let e = entry a.id a.similarity in
    let p = c.requires in
    shifts s a.at c.min-to.result e _ _ c.push.ensures c.push-then-at-to.ensures
    ∙ put_at s (omega (arith, p.len_le_k, p.ids_len)) (omega (arith, p.len_le_k, p.ids_len)) a.at e p.len_le_k.2 c.min-to.result (omega (arith, c.min-to.ensures))

pub returns-else-at-to : goal.returns-else-at-to
unfolding entries_of
returns-else-at-to c =
    let a = c.args in
    let s = set_of a.ids.now a.sims.now a.len a.k 1 in
    let e = entry a.id a.similarity in
    let p = c.requires in
    ap (λ (n : ℕ). set_of a.ids.now a.sims.now n a.k 1) (omega (arith, c.min-to.ensures, p.len_le_k))
    ∙ put_none s (omega (arith, p.len_le_k, p.ids_len)) (omega (arith, p.len_le_k, p.ids_len)) a.at e p.len_le_k.2 (omega (arith, c.min-to.ensures, p.len_le_k)) (omega (arith, c.min-to.ensures, p.len_le_k))
