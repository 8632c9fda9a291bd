-- `candidates::inner::gather` meets its contract: the layers so far, and the unions of the bases that are left, make the whole layers. Assumes nothing.
use native.Mathlib.Omega.{arith}
use Prim.Native.Nat.{◌-◌, ◌*◌}
use mathlib.Core.Path.{◌≡◌, refl, ◌∙◌, ap}
use Rattle.std.proofs.Common.{rules, Ok, Err}
use lib.ListN.{length}
use Rattle.index_memory.proofs.Places.{part_end}
use Rattle.counting_bitmap.specs.Layers.{empty}
use Rattle.basis.proofs.Bases.{finite_none, finite_more, finite_no}
use Rattle.candidates.specs.Gathering.{Query, query_of, layers_of, dropped_of, gathered, BasisIs}
use Rattle.candidates.proofs.Bases.{was_finite, was_not, one_answer, one_layers, one_dropped, merged_more, dropped_more, gather_stopped, gather_ended}
use Rattle.candidates.proofs.inner.gather.Goals as goal

pub loop-b-init : goal.loop-b-init
unfolding layers_of dropped_of
loop-b-init c =
    let a = c.args in
    let z : a.n - 0 ≡ a.n = omega arith in
    let e : c.fill.new.self ≡ empty (a.n * length a.set.now) = c.fill.ensures.after (λ y h. h) ∙ ap empty c.requires.layers in
    (omega arith, finite_none _ _ _, rw (z, e), rw (z, e) (omega arith))

pub slice_bounds-gather_basis-end-in-loop-b : goal.slice_bounds-gather_basis-end-in-loop-b
slice_bounds-gather_basis-end-in-loop-b c =
    omega (arith, part_end c.loop-b.b c.args.n (2 * length c.args.target.now * length c.args.set.now) _ c.args.faces.now c.loop-b-test.true refl c.requires.faces)

pub returns-in_err-total : goal.returns-in_err-total
returns-in_err-total c =
    let a = c.args in
    let l = c.loop-b in
    let r = c.in_err-total.field-0.0 in
    let q : Query = query_of a.bases.now a.faces.now a.target.now (length a.set.now) a.picks in
    let e : c.from_residual.result ≡ Err r = search rules in
    let bad = was_not _ r (one_answer q a.n l.b _ _ (length l.set) l.layers c.gather_basis.new.layers (gathered (Err r)) refl refl l.auto.set c.in_err-total.ensures) in
    rw e (gather_stopped q a.n r c.gather_basis.new.layers (finite_no _ _ _ a.n l.b c.loop-b-test.true bad.0) bad.1)

pub loop-b-preserved : goal.loop-b-preserved
loop-b-preserved c =
    let a = c.args in
    let l = c.loop-b in
    let q : Query = query_of a.bases.now a.faces.now a.target.now (length a.set.now) a.picks in
    let ls' = c.gather_basis.new.layers in
    let r = gathered (Ok c.in_ok-total.field-0) in
    let o : BasisIs a.n (length l.set) a.picks _ _ a.target.now l.layers r ls' = c.in_ok-total.ensures in
    let ans = one_answer q a.n l.b _ _ (length l.set) l.layers ls' r refl refl l.auto.set o in
    let lay = one_layers q a.n l.b _ _ (length l.set) l.layers ls' r refl refl l.auto.set o refl in
    let drp = one_dropped q a.n l.b _ _ (length l.set) l.layers ls' r refl refl l.auto.set o refl in
    let mm = merged_more q a.n l.b c.loop-b-test.true l.layers ls' lay in
    let dm = dropped_more q a.n l.b c.loop-b-test.true l.layers ls' lay in (
      omega (arith, o.few, l.invariant.0),
      finite_more _ _ _ l.b l.invariant.1 (was_finite _ _ ans refl),
      mm ∙ l.invariant.2,
      omega (arith, drp, dm, l.invariant.3),
    )

pub returns : goal.returns
returns c =
    let a = c.args in
    let l = c.loop-b in
    gather_ended (query_of a.bases.now a.faces.now a.target.now (length a.set.now) a.picks) a.n l.b l.layers l.total c.loop-b-test.false l.auto.b-end l.invariant.1 l.invariant.2 l.invariant.3
