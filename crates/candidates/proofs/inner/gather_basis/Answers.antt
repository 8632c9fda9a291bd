-- `candidates::inner::gather_basis` meets its contract. Assumes nothing.
use native.Mathlib.Omega.{arith}
use Prim.Native.Nat.{ℕ}
use mathlib.Core.Path.{◌≡◌, refl, ◌∙◌, ap, sym, subst}
use lib.ListN.{length}
use Rattle.bitmaps.specs.Words.{size}
use Rattle.counting_bitmap.specs.Layers.{merged, fallen}
use Rattle.vector.specs.Finite.{all_finite}
use Rattle.bitmaps.proofs.Digits.{Words}
use Rattle.candidates.proofs.Words.{words_fallen, words_of_union}
use Rattle.candidates.proofs.Bases.{union_is, few_of, basis_good}
use Rattle.candidates.proofs.inner.gather_basis.Goals as goal

pub returns : goal.returns
returns c =
    let a = c.args in
    let w = length a.set.now in
    let u = c.spill_into.new.set in
    let same : length u ≡ w = c.spill_into.auto.set ∙ c.fill.auto.self in
    let fin = ap all_finite (sym c.project.ensures) ∙ sym c.all_finite.ensures ∙ c.if-not-all_finite.false in
    let un = union_is a.picks w a.faces.now _ c.project.new.work c.fill.new.self u (c.fill.ensures.after (λ y h. h)) c.project.ensures c.spill_into.ensures in
    let words = words_fallen a.n (length u) a.layers.now u (rw same c.requires.layers) refl (subst Words (sym un) (words_of_union a.picks w a.faces.now _ (λ i. (c.type_inv.faces i).fits))) in
    let few = few_of c.count.result c.merge.new.cur (subst Words (sym c.merge.ensures.1) words) (omega (arith, c.requires.w_high, c.merge.auto.cur, same)) c.count.ensures in
    basis_good a.n w a.picks a.basis.now a.faces.now a.target.now a.layers.now c.merge.new.layers c.count.result u fin few un
    (c.merge.ensures.0 ∙ ap (λ (v : ℕ). merged a.n v a.layers.now u) same)
    (c.count.ensures ∙ ap size (c.merge.ensures.1 ∙ ap (λ (v : ℕ). fallen a.n v a.layers.now u) same))
