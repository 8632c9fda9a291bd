-- The laws of an index's memory, for all inputs: where an id's bit stands in the face sets, and that an empty index has the lengths it is to have.
use Rattle.std.specs.Prelude.{ℕ, ◌+◌, ◌*◌, ◌/◌, ◌%◌, ◌<◌, ◌≡◌, true}
use Rattle.paper.specs.Geometry.{Geo, set_words, face_words}
use Rattle.index_memory.specs.Memory.{own_ok_ix, empty_ix, face_bit}

pub record Laws : Type 0 where
  -- The bit of id i in the set of basis b's slot is in word (b * 2d + slot) * W + i / 64, for a capacity that is a multiple of 64, ..
  pub face_bit_word : (d cap b slot i : ℕ) → cap % 64 ≡ 0 → face_bit d cap b slot i / 64 ≡ (b * (2 * d) + slot) * set_words cap + i / 64
  -- .. at place i % 64 of that word, ..
  pub face_bit_digit : (d cap b slot i : ℕ) → cap % 64 ≡ 0 → face_bit d cap b slot i % 64 ≡ i % 64
  -- .. and that word is one of the face sets'.
  pub face_bit_low : (d n cap b slot i : ℕ) → cap % 64 ≡ 0 → b < n → slot < 2 * d → i < cap → face_bit d cap b slot i < face_words d n cap * 64
  -- An empty index has the lengths of its geometry.
  pub empty_own : (g : Geo) → own_ok_ix g (empty_ix g) ≡ true
