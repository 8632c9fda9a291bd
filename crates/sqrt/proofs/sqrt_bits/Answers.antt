-- Each arm of the match answers what `Sqrt` says of its class (`Laws`). Assumes nothing.
use Prim.Native.Nat.{ℕ, ◌+◌, ◌-◌, ◌*◌, ◌/◌, ◌%◌, ◌^◌, ◌<◌}
use mathlib.Core.Path.{◌≡◌, refl, sym, ap, ◌∙◌}
use native.Mathlib.Omega.{arith}
use lib.Count.{count_leading_zeros}
use Rattle.sqrt.proofs.Near.{is_zero, is_infinity, is_invalid, is_root, normal, subnormal, Shifted, shift_up}
use Rattle.sqrt.proofs.sqrt_bits.Goals as goal
use Rattle.sqrt.proofs.sqrt_bits.Goals.{Else-bits-ge-SIGN}

pub returns-then-digits-eq0 : goal.returns-then-digits-eq0
returns-then-digits-eq0 c =
    let b = c.args.bits in
    is_zero b (omega arith) (omega arith)

pub returns-then-bits-ge-SIGN : goal.returns-then-bits-ge-SIGN
returns-then-bits-ge-SIGN c =
    let b = c.args.bits in
    is_invalid b (omega arith) (λ e. c.if-digits-eq0.false (omega arith)) (omega arith)

-- the shift of a subnormal pattern
shifted : (c : Else-bits-ge-SIGN) → Shifted (c.args.bits % 8388608) (count_leading_zeros 32 (c.args.bits % 8388608))
shifted c = shift_up (c.args.bits % 8388608) (omega arith) (omega arith)

pub overflow_sub-shift : goal.overflow_sub-shift
overflow_sub-shift c = omega (arith, (shifted (goal.at.overflow_sub-shift c).Else-bits-ge-SIGN).least)

pub overflow_shl-digits : goal.overflow_shl-digits
overflow_shl-digits c = omega (arith, (shifted (goal.at.overflow_shl-digits c).Else-bits-ge-SIGN).most)

pub overflow_sub-shift-in-0 : goal.overflow_sub-shift-in-0
overflow_sub-shift-in-0 c = omega (arith, (shifted (goal.at.overflow_sub-shift-in-0 c).Else-bits-ge-SIGN).most)

pub rounded_root-requires : goal.rounded_root-requires
rounded_root-requires c = omega (arith, shifted (goal.at.rounded_root-requires c).Else-bits-ge-SIGN)

pub returns-then-bits-eq-INFINITY : goal.returns-then-bits-eq-INFINITY
returns-then-bits-eq-INFINITY c =
    let b = c.args.bits in
    is_infinity b c.if-bits-eq-INFINITY.true

pub returns-then-bits-ge-SIGN-2 : goal.returns-then-bits-ge-SIGN-2
returns-then-bits-ge-SIGN-2 c =
    let b = c.args.bits in
    is_invalid b (omega arith) (λ e. omega arith) (omega arith)

unshifted : (x : ℕ) → x < 16777216 → x ≡ x % 4294967296
unshifted x h = omega arith

pub returns-else-bits-ge-SIGN : goal.returns-else-bits-ge-SIGN
returns-else-bits-ge-SIGN c =
    let b = c.args.bits in
    let t = b % 8388608 in
    let z = count_leading_zeros 32 t in
    let s = shifted (goal.at.returns-else-bits-ge-SIGN c).Else-bits-ge-SIGN in
    is_root b _ c.rounded_root.result (omega arith) (omega arith)
    (ap (λ (x : ℕ). x * 2 ^ 149) (subnormal b t (omega arith) refl) ∙ sym s.same ∙ ap (λ (x : ℕ). x * 2 ^ (125 - (z - 8) + 24)) (unshifted (t * 2 ^ (z - 8)) s.small))
    c.rounded_root.ensures.0 (rw c.from.ensures at c.rounded_root.ensures.1)

pub returns-else-bits-eq-INFINITY : goal.returns-else-bits-eq-INFINITY
returns-else-bits-eq-INFINITY c =
    let b = c.args.bits in
    is_invalid b (omega arith) (λ e. c.if-bits-eq-INFINITY.false (omega arith)) (omega arith)

pub returns-else-bits-ge-SIGN-2 : goal.returns-else-bits-ge-SIGN-2
returns-else-bits-ge-SIGN-2 c =
    let b = c.args.bits in
    is_root b _ c.rounded_root-in-1-to-254.result (omega arith) (omega arith)
    (normal b (b / 8388608 % 256) (b % 8388608) (omega arith) refl (omega arith))
    c.rounded_root-in-1-to-254.ensures.0 (rw (c.from-in-1-to-254.ensures, c.from-in-1-to-254-2.ensures) at c.rounded_root-in-1-to-254.ensures.1)
