-- Orthonormalising one basis, d vectors (rows) of d components in one list (01, "orthonormalize"). Definitions only.
use Rattle.std.specs.Prelude.{ℕ, zero, suc, ◌+◌, ◌*◌, Result, Ok, Err, eqb, leb, length, take, drop, replicate, Float}
use mathlib.Core.List.{List, ◌++◌, zip_with}
use Rattle.std.proofs.Math.Option.{Option, none, some}
use Rattle.std.specs.Float.{binary32}
use Rattle.std.specs.Float.Ieee.{sub, mul}
use Rattle.paper.specs.declared.Refusal.{Refusal}
use Rattle.paper.specs.Choice.{◌and◌, pick}
use Rattle.vector.specs.Fold.{dot_of, zero32}
use Rattle.vector.specs.Finite.{all_finite}
use Rattle.vector.specs.Norm.{norm_number, normalized}

-- the d components from place a on
abbrev pub row : ℕ → ℕ → List Float → List Float
row a d xs = take d (drop a xs)

-- the same list with r in the place of those
abbrev pub put_row : ℕ → ℕ → List Float → List Float → List Float
put_row a d r xs = take a xs ++ (r ++ drop (a + d) xs)

-- the row ys less t times the row xs, component by component: the product is rounded, then the difference
abbrev pub less_times : Float → List Float → List Float → List Float
less_times t xs ys = zip_with (λ (x y : Float). sub binary32 y (mul binary32 t x)) xs ys

-- the row at b less t times the row at a
abbrev pub reduced : ℕ → ℕ → ℕ → Float → List Float → List Float
reduced a b d t xs = put_row b d (less_times t (row a d xs) (row b d xs)) xs

-- a step that may be refused, then the next
abbrev pub and_then : Option (List Float) → (List Float → Option (List Float)) → Option (List Float)
and_then none f = none
and_then (some xs) f = f xs

-- the row at a normalised; none where that is refused
unfoldable pub norm_row : ℕ → ℕ → List Float → Option (List Float)
norm_row a d xs = pick (eqb (norm_number (row a d xs)) 0) (some (put_row a d (normalized (row a d xs)) xs)) none

-- the row at b less the two rows' dot product times the row at a, and then normalised
unfoldable pub pair_of : ℕ → ℕ → ℕ → List Float → Option (List Float)
pair_of a b d xs = norm_row b d (reduced a b d (dot_of (row a d xs) (row b d xs)) xs)

-- the n rows from row j on, each against row i
unfoldable pub rows_of : ℕ → ℕ → ℕ → ℕ → List Float → Option (List Float)
rows_of d i zero j xs = some xs
rows_of d i (suc n) j xs = and_then (pair_of (i * d) (j * d) d xs) (rows_of d i n (suc j))

-- the n rows from row i on: normalise row i, then the rows after it against it
unfoldable pub round_of : ℕ → ℕ → ℕ → List Float → Option (List Float)
round_of d zero i xs = some xs
round_of d (suc n) i xs = and_then (and_then (norm_row (i * d) d xs) (rows_of d i n (suc i))) (round_of d n (suc i))

-- what a function that may be refused and leaves a list says: the list, or nothing
abbrev pub told : {A : Type 0} → Result A Refusal → List Float → Option (List Float)
told (Ok x) xs = some xs
told (Err r) xs = none

-- r rounds over all d rows
unfoldable pub rounds_of : ℕ → ℕ → List Float → Option (List Float)
rounds_of d zero xs = some xs
rounds_of d (suc r) xs = and_then (round_of d d 0 xs) (rounds_of d r)

-- the answer's number, and what the written buffer holds
pub record Written : Type 0 where
  pub refusal : ℕ
  pub out : List Float

abbrev pub written : ℕ → List Float → Written
written num ys = record { refusal = num; out = ys }

-- all zeros and 6 where a row could not be normalised
abbrev pub finished : ℕ → Option (List Float) → Written
finished n none = written 6 (replicate n zero32)
finished n (some xs) = written 0 xs

-- r rounds over the basis xs, written to a buffer that held ys: 1, then 2, then 5 leave it as it was
unfoldable pub orthonormalized : ℕ → ℕ → List Float → List Float → Written
orthonormalized d r xs ys =
    pick (leb 1 d and leb d 1024 and leb r 8)
    (pick (eqb (length xs) (d * d) and eqb (length ys) (d * d))
    (pick (all_finite xs) (finished (d * d) (rounds_of d r xs)) (written 5 ys))
    (written 2 ys))
    (written 1 ys)
