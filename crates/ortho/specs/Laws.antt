-- The laws of this crate, which `laws` claims: what no round does, and what each refusal leaves in the written buffer.
use Rattle.std.specs.Prelude.{◌≡◌, ◌≢◌, true, List, ℕ, ◌*◌, ◌≤◌, length, replicate, Float}
use Rattle.vector.specs.Fold.{zero32}
use Rattle.vector.specs.Finite.{all_finite}
use Rattle.ortho.specs.Ortho.{written, orthonormalized}

pub record Laws : Type 0 where
  -- no round copies the basis xs over the buffer ys
  pub no_round_copies : (d : ℕ) (xs ys : List Float) → 1 ≤ d → d ≤ 1024 → length xs ≡ d * d → length ys ≡ d * d → all_finite xs ≡ true → orthonormalized d 0 xs ys ≡ written 0 xs
  -- refusal 6 leaves +0.0 throughout
  pub six_clears : (d r : ℕ) (xs ys : List Float) → (orthonormalized d r xs ys).refusal ≡ 6 → (orthonormalized d r xs ys).out ≡ replicate (d * d) zero32
  -- any other leaves the buffer as it was
  pub refused_keeps : (d r : ℕ) (xs ys : List Float) → (orthonormalized d r xs ys).refusal ≢ 0 → (orthonormalized d r xs ys).refusal ≢ 6 → (orthonormalized d r xs ys).out ≡ ys
