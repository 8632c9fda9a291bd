-- The laws of this crate, which `laws` claims: what documents and the crates above lean on.
use Rattle.std.specs.Prelude.{◌≡◌, true, List, [], ℕ, Result, length, Float}
use Rattle.paper.specs.declared.Refusal.{Refusal}
use Rattle.paper.specs.Refusals.{Answers}
use Rattle.sqrt.specs.RootOf.{root}
use Rattle.vector.specs.Fold.{zero32, dot_of, squares_of}
use Rattle.vector.specs.Finite.{all_finite}
use Rattle.vector.specs.Norm.{norm_number, normalized}

pub record Laws : Type 0 where
  -- two answers to the same call are equal
  pub one_answer : (r s : Result Float Refusal) (num : ℕ) (x : Float) → Answers r num x zero32 → Answers s num x zero32 → r ≡ s
  -- length 0 gives +0.0, the dot product and the distance
  pub dot_of_none : dot_of [] [] ≡ zero32
  pub distance_of_none : root (squares_of [] []) ≡ zero32
  -- normalising leaves as many components as there were
  pub length_normalized : (v : List Float) → length (normalized v) ≡ length v
  -- and where it accepts, each of them is finite
  pub finite_normalized : (v : List Float) → norm_number v ≡ 0 → all_finite (normalized v) ≡ true
