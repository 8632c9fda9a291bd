-- One turn, and the end, of the loops that draw and of those that digest. Assumes nothing.
use Rattle.std.proofs.Common.{◌≡◌, ℕ, suc, ◌+◌, ◌-◌, ◌/◌, ◌%◌, ◌<◌, ◌≤◌, List, ◌++◌, length, get_or, take, drop, set, append_assoc, append-nil, add-one, arith, drop_of_length-le, take_all, drop-cons, take-suc-set}
use lib.Ieee.{Float}
use Rattle.replay_drawing.specs.Draws.{next_of, component_of, after_draws, components_of}
use Rattle.replay_drawing.specs.Digests.{taken_of, digest_of, halves}

left_suc : (n i : ℕ) → i < n → n - i ≡ suc (n - (i + 1))
left_suc n i h = omega arith

left_none : (n i : ℕ) → n ≤ i → n - i ≡ 0
left_none n i h = omega arith

module _ (n i s : ℕ) where
  pub place_turn : i < n → after_draws (n - (i + 1)) (next_of s) ≡ after_draws (n - i) s
  unfolding after_draws
  place_turn h = rw (left_suc n i h)

  pub place_end : n ≤ i → after_draws (n - i) s ≡ s
  unfolding after_draws
  place_end h = rw (left_none n i h)

module _ (n i s grain : ℕ) (scale : Float) (out : List Float) where
  pub draws_turn : i < n → i < length out → take (i + 1) (set out i (component_of (next_of s) grain scale)) ++ components_of (n - (i + 1)) (next_of s) grain scale ≡ take i out ++ components_of (n - i) s grain scale
  unfolding components_of
  draws_turn h k = rw (left_suc n i h, add-one i, take-suc-set out i (component_of (next_of s) grain scale) k, append_assoc)

  pub draws_end : n ≤ i → length out ≤ i → take i out ++ components_of (n - i) s grain scale ≡ out
  unfolding components_of
  draws_end h k = rw (left_none n i h, take_all i out k, append-nil)

module _ (h i : ℕ) (xs : List ℕ) where
  pub bytes_turn : i < length xs → digest_of (taken_of h (get_or xs i 0)) (drop (i + 1) xs) ≡ digest_of h (drop i xs)
  unfolding digest_of
  bytes_turn k = rw (add-one, drop-cons xs i 0 k)

  pub bytes_end : length xs ≤ i → digest_of h (drop i xs) ≡ h
  unfolding digest_of
  bytes_end k = rw (drop_of_length-le xs k)

  pub words_turn : i < length xs → digest_of (taken_of (taken_of h (get_or xs i 0 % 4294967296)) (get_or xs i 0 / 4294967296)) (halves (drop (i + 1) xs)) ≡ digest_of h (halves (drop i xs))
  unfolding digest_of halves
  words_turn k = rw (add-one, drop-cons xs i 0 k)

  pub words_end : length xs ≤ i → digest_of h (halves (drop i xs)) ≡ h
  unfolding digest_of halves
  words_end k = rw (drop_of_length-le xs k)
