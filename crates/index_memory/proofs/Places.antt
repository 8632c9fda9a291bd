-- Where things stand in the lent memories. Assumes nothing.
use Prim.Native.Nat.{ℕ, ◌+◌, ◌-◌, ◌*◌, ◌/◌, ◌%◌, ◌<◌, ◌≤◌}
use mathlib.Core.Path.{◌≡◌, sym, ap, ◌∙◌}
use mathlib.Core.List.{List}
use native.Mathlib.Omega.{arith}
use native.Mathlib.Nat.{suc-mul, mul-le-mul_right, mul_assoc}
use lib.Arith.{digits_lt}
use lib.ListN.{length, take, drop, length-drop}
use lib.Seq.{length-take-le}
use Rattle.paper.specs.Geometry.{set_words, face_words}
use Rattle.index_memory.specs.Memory.{face_bit}

-- id's place is within C places of s elements
pub place : (id cap s : ℕ) → id < cap → id * s + s ≤ cap * s
place id cap s h = omega (arith, mul-le-mul_right s h, suc-mul id s)

-- part b of n parts of s elements, which begins at p
module _ {A : Type 0} (b n s p : ℕ) (xs : List A) (h : b < n) (e : p ≡ b * s) (l : length xs ≡ n * s) where
  pub part_end : p + s ≤ length xs
  part_end = omega (arith, mul-le-mul_right s h)

  pub part_long : length (take (p + s - p) (drop p xs)) ≡ s
  part_long =
      let a : p + s - p ≡ s = omega arith in
      rw a (length-take-le s (drop p xs) (simp length-drop (omega (arith, part_end))))

pub part_is : {A : Type 0} (b s p : ℕ) (xs : List A) → p ≡ b * s → take (p + s - p) (drop p xs) ≡ take s (drop (b * s) xs)
part_is b s p xs e =
    let a : p + s - p ≡ s = omega arith in
    rw (a, e)

-- ---- the bit of an id in a face set

words_bits : (cap : ℕ) → cap % 64 ≡ 0 → cap ≡ set_words cap * 64
words_bits cap e = omega arith

-- a set's bits are its words' bits
bits_of : (x cap : ℕ) → cap % 64 ≡ 0 → x * cap ≡ x * set_words cap * 64
bits_of x cap e = ap (λ (k : ℕ). x * k) (words_bits cap e) ∙ sym (mul_assoc x (set_words cap) 64)

-- it stands in word (b * 2d + slot) * W + i / 64, at bit i % 64
pub face_bit_word : (d cap b slot i : ℕ) → cap % 64 ≡ 0 → face_bit d cap b slot i / 64 ≡ (b * (2 * d) + slot) * set_words cap + i / 64
face_bit_word d cap b slot i e = omega (arith, bits_of (b * (2 * d) + slot) cap e)

pub face_bit_digit : (d cap b slot i : ℕ) → cap % 64 ≡ 0 → face_bit d cap b slot i % 64 ≡ i % 64
face_bit_digit d cap b slot i e = omega (arith, bits_of (b * (2 * d) + slot) cap e)

-- it is one of the face sets' bits
pub face_bit_low : (d n cap b slot i : ℕ) → cap % 64 ≡ 0 → b < n → slot < 2 * d → i < cap → face_bit d cap b slot i < face_words d n cap * 64
face_bit_low d n cap b slot i e h s l =
    let t : face_bit d cap b slot i < n * (2 * d) * cap = digits_lt (digits_lt h s) l in
    omega (arith, t, bits_of (n * (2 * d)) cap e)

-- an id's mark is one of the marks' bits
pub mark_low : (cap i : ℕ) → cap % 64 ≡ 0 → i < cap → i < set_words cap * 64
mark_low cap i e h = omega arith
