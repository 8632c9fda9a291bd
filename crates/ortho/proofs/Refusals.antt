-- What no round does, and what each refusal leaves. Assumes nothing.
use mathlib.Core.Path.{◌≡◌, refl}
use mathlib.Core.Logic.{◌≢◌}
use mathlib.Core.Bool.{Bool, true, false}
use mathlib.Core.Option.{Option, none, some}
use mathlib.Core.List.{List}
use Prim.Native.Nat.{ℕ, ◌*◌, ◌≤◌}
use native.Mathlib.Omega.{arith}
use borrow.Author.Tests.{le-leb, eq-eqb}
use lib.Dec.{leb, eqb}
use lib.ListN.{length, replicate}
use lib.Ieee.{Float}
use Rattle.paper.specs.Choice.{◌and◌, pick}
use Rattle.vector.specs.Fold.{zero32}
use Rattle.vector.specs.Finite.{all_finite}
use Rattle.ortho.specs.Ortho.{Written, written, finished, rounds_of, orthonormalized}

pub no_round_copies : (d : ℕ) (xs ys : List Float) → 1 ≤ d → d ≤ 1024 → length xs ≡ d * d → length ys ≡ d * d → all_finite xs ≡ true → orthonormalized d 0 xs ys ≡ written 0 xs
unfolding orthonormalized rounds_of
no_round_copies d xs ys lo hi p q f = rw (le-leb 1 d lo, le-leb d 1024 hi, eq-eqb (length xs) (d * d) p, eq-eqb (length ys) (d * d) q, f)

-- the answer, by the three tests and what the rounds gave
abbrev by : ℕ → List Float → Bool → Bool → Bool → Option (List Float) → Written
by n ys a b c o = pick a (pick b (pick c (finished n o) (written 5 ys)) (written 2 ys)) (written 1 ys)

clears : (n : ℕ) (ys : List Float) (a b c : Bool) (o : Option (List Float)) → (by n ys a b c o).refusal ≡ 6 → (by n ys a b c o).out ≡ replicate n zero32
clears n ys true true true none h = refl
clears n ys true true true (some zs) h = absurd (omega arith)
clears n ys true true false o h = absurd (omega arith)
clears n ys true false c o h = absurd (omega arith)
clears n ys false b c o h = absurd (omega arith)

keeps : (n : ℕ) (ys : List Float) (a b c : Bool) (o : Option (List Float)) → (by n ys a b c o).refusal ≢ 0 → (by n ys a b c o).refusal ≢ 6 → (by n ys a b c o).out ≡ ys
keeps n ys true true true none h k = absurd (k refl)
keeps n ys true true true (some zs) h k = absurd (h refl)
keeps n ys true true false o h k = refl
keeps n ys true false c o h k = refl
keeps n ys false b c o h k = refl

module _ (d r : ℕ) (xs ys : List Float) where
  pub six_clears : (orthonormalized d r xs ys).refusal ≡ 6 → (orthonormalized d r xs ys).out ≡ replicate (d * d) zero32
  unfolding orthonormalized
  six_clears h = clears (d * d) ys (leb 1 d and leb d 1024 and leb r 8) (eqb (length xs) (d * d) and eqb (length ys) (d * d)) (all_finite xs) (rounds_of d r xs) h

  pub refused_keeps : (orthonormalized d r xs ys).refusal ≢ 0 → (orthonormalized d r xs ys).refusal ≢ 6 → (orthonormalized d r xs ys).out ≡ ys
  unfolding orthonormalized
  refused_keeps h k = keeps (d * d) ys (leb 1 d and leb d 1024 and leb r 8) (eqb (length xs) (d * d) and eqb (length ys) (d * d)) (all_finite xs) (rounds_of d r xs) h k
