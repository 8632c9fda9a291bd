-- `inner::merge` meets its contract: the first i layers are merged, and where nothing is carried on the others stay. Assumes nothing.
use Prim.Native.Nat.{◌≤◌, ◌-◌, ◌*◌, ◌+◌}
use mathlib.Core.Path.{◌≡◌, refl, ap, sym, ◌∙◌}
use mathlib.Core.Bool.{true}
use native.Mathlib.Nat.{mul-le-mul_right}
use native.Mathlib.Omega.{arith}
use borrow.Author.Rules.{rules}
use borrow.Author.Tests.{eqb-true, not-false}
use lib.ListN.{length, take, drop}
use Rattle.bitmaps.specs.Words.{size, shared, is_empty}
use Rattle.counting_bitmap.specs.Layers.{merged, fallen}
use Rattle.counting_bitmap.proofs.AllLayers.{merged_turn, fallen_turn, merged_length, fallen_length}
use Rattle.counting_bitmap.proofs.Stop.{merged_stop}
use Rattle.counting_bitmap.proofs.inner.merge.Goals as goal
use Rattle.counting_bitmap.proofs.inner.merge.Goals.{In-loop-i}

-- the next layer is within the layers
room : (c : In-loop-i) → (c.loop-i.i + 1) * c.args.w ≤ length c.args.layers.now
room c =
    let below : (c.loop-i.i + 1) * c.args.w ≤ c.args.n * c.args.w = mul-le-mul_right _ (omega arith) in
    omega (arith, c.requires)

pub loop-i-init : goal.loop-i-init
unfolding merged fallen
loop-i-init c = (refl, refl, search rules, search rules)

pub returns-then-not-carry : goal.returns-then-not-carry
returns-then-not-carry c =
    let l = c.loop-i in
    let ls = c.args.layers.now in
    let cs = c.args.cur.now in
    let w = c.args.w in
    let r = room (goal.at.returns-then-not-carry c).In-loop-i in
    let m = merged_turn l.i w ls cs _ _ _ r c.requires.1 l.invariant.0 l.invariant.1 c.carry.ensures.united in
    let f = fallen_turn l.i w ls cs _ _ _ r c.requires.1 l.invariant.0 l.invariant.1 c.carry.ensures.carry in
    let out : is_empty (shared (take (l.i * w + w - l.i * w) (drop (l.i * w) l.layers)) l.cur) ≡ true =
    not-false _ (sym c.carry.ensures.some ∙ c.if-not-carry.true) in
    let none : size (fallen (l.i + 1) w ls cs) ≡ 0 = ap size (sym f ∙ c.carry.ensures.carry) ∙ eqb-true _ 0 out in
    let stop = merged_stop (l.i + 1) c.args.n w ls cs (omega arith) (omega (arith, c.requires)) c.requires.1 none in
    (m ∙ sym stop.0, f ∙ sym stop.1)

pub loop-i-preserved : goal.loop-i-preserved
loop-i-preserved c =
    let l = c.loop-i in
    let ls = c.args.layers.now in
    let cs = c.args.cur.now in
    let w = c.args.w in
    let r = room (goal.at.loop-i-preserved c).In-loop-i in
    let m = merged_turn l.i w ls cs _ _ _ r c.requires.1 l.invariant.0 l.invariant.1 c.carry.ensures.united in
    let f = fallen_turn l.i w ls cs _ _ _ r c.requires.1 l.invariant.0 l.invariant.1 c.carry.ensures.carry in
    (m, f, ap length m ∙ merged_length _ _ ls cs r ∙ c.requires.0, ap length f ∙ fallen_length _ _ ls cs r c.requires.1)
