-- Laws on floats in a record. Assumes nothing.
use Rattle.std.proofs.Common.{ℕ, zero, suc, ◌+◌, ◌-◌, ◌*◌, ◌<◌, ◌≡◌, refl, ap, List, ◌++◌, append_assoc, append-nil, length, take, add-one, arith}
use Rattle.std.proofs.Math.ListN.{set}
use Rattle.std.proofs.Math.Seq.{take-suc-set, take_all}
use lib.Ieee.{Float, binary32, of_bits}
use Rattle.records.specs.Fields.{u32_at, floats_at}

-- one float more, the i-th of n
pub floats_turn : (n from i : ℕ) (s : List ℕ) (out : List Float) → i < length out → i < n
    → take (i + 1) (set out i (of_bits binary32 (u32_at s (from + 4 * i)))) ++ floats_at (n - (i + 1)) s (from + 4 * (i + 1)) ≡ take i out ++ floats_at (n - i) s (from + 4 * i)
unfolding floats_at
floats_turn n from i s out h k =
    let e : n - i ≡ suc (n - (i + 1)) = omega arith in
    let a : from + 4 * (i + 1) ≡ from + 4 * i + 4 = omega arith in
    rw (e, a, add-one i, take-suc-set out i (of_bits binary32 (u32_at s (from + 4 * i))) h, append_assoc) refl

pub floats_end : (n at : ℕ) (s : List ℕ) (out : List Float) → length out ≡ n → take n out ++ floats_at (n - n) s at ≡ out
unfolding floats_at
floats_end n at s out h =
    let e : n - n ≡ 0 = omega arith in
    rw (e, take_all n out (omega arith), append-nil)

pub floats_length : (k : ℕ) (s : List ℕ) (at : ℕ) → length (floats_at k s at) ≡ k
unfolding floats_at
floats_length zero s at = refl
floats_length (suc k) s at = ap suc (floats_length k s (at + 4))
