-- `inner::next` meets its contract: no id stands between `from` and word i. Assumes nothing.
use Rattle.std.proofs.Common.{◌≡◌, ◌/◌, ◌%◌, ◌^◌, get_or, arith}
use Rattle.bitmaps.proofs.Rising.{next_here, none_here}
use Rattle.bitmaps.proofs.inner.next.Goals as goal

pub returns-then-first-ne0 : goal.returns-then-first-ne0
returns-then-first-ne0 c =
    let q = c.args.from / 64 in
    let s = c.args.from % 64 in
    let e : c.in_ok-first.field-0.now ≡ get_or c.args.a.now q 0 = grind arith in
    next_here c.args.a.now q s (c.in_ok-first.field-0.now / 2 ^ s) (λ i. (c.type_inv.a i).fits) (omega arith) (rw e) c.args.from
    (λ j k b. absurd (omega arith)) (omega arith) _ (omega arith) (omega arith) (grind arith)

pub loop-i-init : goal.loop-i-init
loop-i-init c =
    let q = c.args.from / 64 in
    let s = c.args.from % 64 in
    let e : c.in_ok-first.field-0.now ≡ get_or c.args.a.now q 0 = grind arith in
    none_here c.args.a.now q s (c.in_ok-first.field-0.now / 2 ^ s) (λ i. (c.type_inv.a i).fits) (omega arith) (rw e) c.args.from
    (λ j k b. absurd (omega arith)) c.if-first-ne0.false

pub returns-then-x-ne0 : goal.returns-then-x-ne0
returns-then-x-ne0 c =
    let i = c.loop-i.i in
    next_here c.args.a.now i 0 (get_or c.args.a.now i 0) (λ i. (c.type_inv.a i).fits) (omega arith) (omega arith) c.args.from
    (λ j k b. c.loop-i.invariant j k (omega arith)) (omega arith) _ (omega arith) (omega arith) (omega arith)

pub loop-i-preserved : goal.loop-i-preserved
loop-i-preserved c =
    let i = c.loop-i.i in
    none_here c.args.a.now i 0 (get_or c.args.a.now i 0) (λ i. (c.type_inv.a i).fits) (omega arith) (omega arith) c.args.from
    (λ j k b. c.loop-i.invariant j k (omega arith)) c.if-x-ne0.false
