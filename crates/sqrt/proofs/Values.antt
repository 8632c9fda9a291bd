-- `mag` is lib.Ieee's value: a finite pattern b with the sign clear reads as mag b / 2 ^ 149. Assumes nothing.
use mathlib.Core.Path.{◌≡◌, sym, subst}
use mathlib.Core.Bool.{Bool, false, cond}
use Prim.Native.Nat.{ℕ, zero, suc, ◌+◌, ◌*◌, ◌/◌, ◌%◌, ◌^◌, ◌<◌}
use native.Mathlib.Nat.{mul-one}
use native.Mathlib.Omega.{arith}
use lib.Dec.{leb, eqb}
use borrow.Author.Tests.{lt-leb, ne_eqb}
use lib.Ieee.{inf, nan, binary32, odd, of_fields, of_bits}
use lib.Ieee.Exact.{HasValue, odd_sign}
use Rattle.sqrt.specs.Root.{sized, mag}

fields : (x t : ℕ) → x < 255 → HasValue (of_fields binary32 false x t) false (sized x t) (2 ^ 149)
unfolding of_fields sized
fields zero t h = subst (λ (n : ℕ). HasValue (odd 24 false t 0 149) false n (2 ^ 149)) (mul-one t) (odd_sign 24 false t 0 149)
fields (suc x) t h =
    subst (λ (b : Bool). HasValue (cond b (cond (eqb t 0) (inf false) nan) (odd 24 false (8388608 + t) x 149)) false ((8388608 + t) * 2 ^ x) (2 ^ 149))
    (sym (ne_eqb (suc x) 255 (λ e. omega arith))) (odd_sign 24 false (8388608 + t) x 149)

pub value : (b : ℕ) → b < 0x7f80_0000 → HasValue (of_bits binary32 b) false (mag b) (2 ^ 149)
unfolding of_bits mag
value b h =
    let s : leb 2147483648 b ≡ false = lt-leb 2147483648 b (omega arith) in
    let x : b % 2147483648 / 8388608 ≡ b / 8388608 = omega arith in
    rw (s, x) (fields (b / 8388608) (b % 8388608) (omega arith))
