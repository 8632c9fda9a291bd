-- Four vectors of a basis side by side. Definitions only.
use Rattle.std.specs.Prelude.{ℕ, ◌+◌, List, length, take, drop, get_or, set, Float}
use Rattle.std.specs.Float.{nan}
use Rattle.vector.specs.Fold.{fold2, dot_step, dot_of}
use Rattle.basis.specs.declared.inner.Four.{Four}

abbrev pub four : Float → Float → Float → Float → Four
four a b c e = record { a = a; b = b; c = c; e = e }

-- the dot products of t with the four vectors from place `at` on
unfoldable pub dot_four : List Float → List Float → ℕ → Four
dot_four t bs at =
    four
    (dot_of t (take (length t) (drop at bs)))
    (dot_of t (take (length t) (drop (at + length t) bs)))
    (dot_of t (take (length t) (drop (at + length t + length t) bs)))
    (dot_of t (take (length t) (drop (at + length t + length t + length t) bs)))

-- four sums, each taken a step on with x and its vector's component
abbrev pub column_of : Four → Float → List Float → ℕ → ℕ → Four
column_of q x bs at d =
    four
    (dot_step q.a x (get_or bs at nan))
    (dot_step q.b x (get_or bs (at + d) nan))
    (dot_step q.c x (get_or bs (at + d + d) nan))
    (dot_step q.e x (get_or bs (at + d + d + d) nan))

-- four sums, each gone on with the components xs and those of its vector
unfoldable pub fold_four : Four → List Float → List Float → ℕ → ℕ → Four
fold_four q xs bs at d =
    four
    (fold2 dot_step q.a xs (drop at bs))
    (fold2 dot_step q.b xs (drop (at + d) bs))
    (fold2 dot_step q.c xs (drop (at + d + d) bs))
    (fold2 dot_step q.e xs (drop (at + d + d + d) bs))

-- four entries written from place r on
abbrev pub set_four : List Float → ℕ → Four → List Float
set_four xs r q = set (set (set (set xs r q.a) (r + 1) q.b) (r + 2) q.c) (r + 3) q.e
