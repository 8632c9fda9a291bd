-- Laws of the loops of orthonormalize. Assumes nothing.
use mathlib.Core.Path.{◌≡◌, refl, sym, ◌∙◌, ap, subst}
use Rattle.std.proofs.Common.{Result, Ok, Err}
use borrow.Author.Tests.{eq-eqb, ne_eqb}
use Rattle.std.specs.Result.{IsErr}
use Rattle.paper.specs.declared.Refusal.{Refusal}
use Rattle.paper.specs.Refusals.{code_of}
use Rattle.paper.proofs.Answering.{number_low}
use mathlib.Core.Option.{none, some}
use mathlib.Core.List.{List, [], ◌∷◌, ◌++◌, zip_with, append_assoc}
use native.Mathlib.Nat.{add-sub_cancel_left, mul-le-mul_right, suc-mul}
use lib.Dec.{eqb}
use Rattle.paper.specs.Choice.{pick}
use Rattle.vector.specs.Norm.{norm_number, normalized}
use Prim.Native.Nat.{ℕ, zero, suc, ◌+◌, ◌-◌, ◌*◌, ◌<◌, ◌≤◌}
use native.Mathlib.Numerals.{add-one}
use native.Mathlib.Omega.{arith}
use lib.ListN.{length, get_or, set, take, drop, length-set, take-append-drop}
use lib.Seq.{drop-cons, drop-drop, drop-set-add, drop-set-lt, take-set-le, take-suc-set}
use lib.Ieee.{Float, nan, binary32, sub, mul}
use Rattle.ortho.specs.Ortho.{row, less_times, reduced, norm_row, told, and_then, pair_of, rows_of, round_of, rounds_of}

-- what is left to count, one less at each turn
pub left_suc : (d k : ℕ) → k < d → d - k ≡ suc (d - (k + 1))
left_suc d k h = omega arith

pub left_none : (d k : ℕ) → d ≤ k → d - k ≡ 0
left_none d k h = omega arith

-- ---- reducing a row: a loop that goes by the component, and the rule

-- the loop's steps: component b + k less t times component a + k, for n values of k, rising from k on
pub reducing : ℕ → ℕ → Float → ℕ → ℕ → List Float → List Float
reducing a b t zero k xs = xs
reducing a b t (suc n) k xs =
    reducing a b t n (suc k) (set xs (b + k) (sub binary32 (get_or xs (b + k) nan) (mul binary32 t (get_or xs (a + k) nan))))

module _ (a b : ℕ) (t : Float) (d k : ℕ) (xs : List Float) where
  pub reducing_step : k < d → reducing a b t (d - k) k xs ≡ reducing a b t (d - (k + 1)) (k + 1) (set xs (b + k) (sub binary32 (get_or xs (b + k) nan) (mul binary32 t (get_or xs (a + k) nan))))
  unfolding reducing
  reducing_step h = rw (left_suc d k h, add-one)

  pub reducing_end : d ≤ k → reducing a b t (d - k) k xs ≡ xs
  unfolding reducing
  reducing_end h = rw (left_none d k h)

-- a row before a component that is written
row_before_set : (i n j : ℕ) (xs : List Float) (v : Float) → i + n ≤ j → row i n (set xs j v) ≡ row i n xs
row_before_set i n j xs v h =
    let e : i + (j - i) ≡ j = omega arith in
    ap (λ (z : ℕ). row i n (set xs z v)) (sym e)
    ∙ ap (take n) (drop-set-add i xs (j - i) v)
    ∙ take-set-le n (drop i xs) (j - i) v (omega arith)

-- and one after it
row_after_set : (i n j : ℕ) (xs : List Float) (v : Float) → j < i → row i n (set xs j v) ≡ row i n xs
row_after_set i n j xs v h = ap (take n) (drop-set-lt i xs j v h)

-- a row of one component more
row_more : (i n : ℕ) (xs : List Float) → i < length xs → row i (suc n) xs ≡ get_or xs i nan ∷ row (suc i) n xs
row_more i n xs h = rw (drop-cons xs i nan h)

-- with the rows at i and j: one step, then the rest, is the rule for one component more
one_more : (t : Float) (i j n : ℕ) (xs : List Float) → i + suc n ≤ j → j + suc n ≤ length xs
    → reduced (suc i) (suc j) n t (set xs j (sub binary32 (get_or xs j nan) (mul binary32 t (get_or xs i nan)))) ≡ reduced i j (suc n) t xs
unfolding zip_with
one_more t i j n xs h l =
    let v = sub binary32 (get_or xs j nan) (mul binary32 t (get_or xs i nan)) in
    let p : row (suc i) n (set xs j v) ≡ row (suc i) n xs = row_before_set (suc i) n j xs v (omega arith) in
    let q : row (suc j) n (set xs j v) ≡ row (suc j) n xs = row_after_set (suc j) n j xs v (omega arith) in
    let r : drop (suc j + n) (set xs j v) ≡ drop (j + suc n) xs =
    drop-set-lt (suc j + n) xs j v (omega arith) ∙ ap (λ (z : ℕ). drop z xs) (suc_add j n) in
    let f : take (suc j) (set xs j v) ≡ take j xs ++ (v ∷ []) = take-suc-set xs j v (omega arith) in
    let rest = less_times t (row (suc i) n xs) (row (suc j) n xs) in
    ap (λ (z : List Float). take (suc j) (set xs j v) ++ (less_times t z (row (suc j) n (set xs j v)) ++ drop (suc j + n) (set xs j v))) p
    ∙ ap (λ (z : List Float). take (suc j) (set xs j v) ++ (less_times t (row (suc i) n xs) z ++ drop (suc j + n) (set xs j v))) q
    ∙ ap (λ (z : List Float). take (suc j) (set xs j v) ++ (rest ++ z)) r
    ∙ ap (λ (z : List Float). z ++ (rest ++ drop (j + suc n) xs)) f
    ∙ append_assoc (take j xs) (v ∷ []) (rest ++ drop (j + suc n) xs)
    ∙ ap (λ (z : List Float). take j xs ++ (less_times t z (get_or xs j nan ∷ row (suc j) n xs) ++ drop (j + suc n) xs)) (sym (row_more i n xs (omega arith)))
    ∙ ap (λ (z : List Float). take j xs ++ (less_times t (row i (suc n) xs) z ++ drop (j + suc n) xs)) (sym (row_more j n xs (omega arith)))
  where
    suc_add : (j n : ℕ) → suc j + n ≡ j + suc n
    suc_add j n = omega arith

-- none
none_left : (t : Float) (i j : ℕ) (xs : List Float) → xs ≡ reduced i j 0 t xs
unfolding zip_with
none_left t i j xs =
    let e : j + 0 ≡ j = omega arith in
    sym (take-append-drop j xs) ∙ ap (λ (z : ℕ). take j xs ++ drop z xs) (sym e)

-- the loop follows the rule where the row at b comes after the row at a
pub reducing_is : (a b : ℕ) (t : Float) (n k : ℕ) (xs : List Float) → a + k + n ≤ b → b + k + n ≤ length xs → reducing a b t n k xs ≡ reduced (a + k) (b + k) n t xs
unfolding reducing
reducing_is a b t zero k xs h l = none_left t (a + k) (b + k) xs
reducing_is a b t (suc n) k xs h l =
    let v = sub binary32 (get_or xs (b + k) nan) (mul binary32 t (get_or xs (a + k) nan)) in
    let e : length (set xs (b + k) v) ≡ length xs = length-set xs (b + k) v in
    let p : a + suc k ≡ suc (a + k) = omega arith in
    let q : b + suc k ≡ suc (b + k) = omega arith in
    reducing_is a b t n (suc k) (set xs (b + k) v) (omega arith) (omega arith)
    ∙ ap (λ (z : ℕ). reduced z (b + suc k) n t (set xs (b + k) v)) p
    ∙ ap (λ (z : ℕ). reduced (suc (a + k)) z n t (set xs (b + k) v)) q
    ∙ one_more t (a + k) (b + k) n xs (omega arith) (omega arith)

pub reduced_loop : (a b : ℕ) (t : Float) (d : ℕ) (xs : List Float) → a + d ≤ b → b + d ≤ length xs → reducing a b t d 0 xs ≡ reduced a b d t xs
reduced_loop a b t d xs h l =
    let p : a + 0 ≡ a = omega arith in
    let q : b + 0 ≡ b = omega arith in
    reducing_is a b t d 0 xs (omega arith) (omega arith)
    ∙ ap (λ (z : ℕ). reduced z (b + 0) d t xs) p
    ∙ ap (λ (z : ℕ). reduced a z d t xs) q

-- what a refused step leaves, whatever its refusal
pub told_none : {A : Type 0} (r : Result A Refusal) (xs : List Float) → IsErr r → told r xs ≡ none
told_none (Ok x) xs h = cc
told_none (Err e) xs h = refl

pick_told : {A : Type 0} (r : Result A Refusal) (n : ℕ) (xs : List Float) → code_of r ≡ n → pick (eqb n 0) (some xs) none ≡ told r xs
pick_told (Ok x) n xs p = rw (eq-eqb n 0 (sym p))
pick_told (Err e) n xs p = let low = number_low e in rw (ne_eqb n 0 (λ z. omega arith))

-- a part that was lent, normalised, and has come back
pub norm_row_lem : {A : Type 0} (a d : ℕ) (xs ys : List Float) (r : Result A Refusal) → code_of r ≡ norm_number (take (a + d - a) (drop a xs)) → ys ≡ normalized (take (a + d - a) (drop a xs)) → norm_row a d xs ≡ told r (take a xs ++ (ys ++ drop (a + d - a) (drop a xs)))
unfolding norm_row
norm_row_lem a d xs ys r p q =
    rw (q, add-sub_cancel_left, drop-drop) (pick_told r (norm_number (take d (drop a xs))) (take a xs ++ (normalized (take d (drop a xs)) ++ drop (a + d) xs)) (rw add-sub_cancel_left at p))

-- one row more: the code's j + 1, with d - j rows left
module _ (d i j : ℕ) (xs : List Float) where
  pub rows_step : j < d → rows_of d i (d - j) j xs ≡ and_then (pair_of (i * d) (j * d) d xs) (rows_of d i (d - (j + 1)) (j + 1))
  unfolding rows_of
  rows_step h = rw (left_suc d j h, add-one)

  module _ (a : ℕ) (A : a ≡ i * d) (h : j < d) where
    pub rows_more : (ys : List Float) → pair_of a (j * d) d xs ≡ some ys → rows_of d i (d - j) j xs ≡ rows_of d i (d - (j + 1)) (j + 1) ys
    rows_more ys P = rows_step h ∙ rw (← A, P)

    pub rows_fail : pair_of a (j * d) d xs ≡ none → rows_of d i (d - j) j xs ≡ none
    rows_fail P = rows_step h ∙ rw (← A, P)

  pub rows_end : d ≤ j → rows_of d i (d - j) j xs ≡ some xs
  unfolding rows_of
  rows_end h = rw (left_none d j h)

-- a row before another
pub row_before : (d i j : ℕ) → i < j → i * d + d ≤ j * d
row_before d i j h = subst (λ (n : ℕ). n ≤ j * d) (suc-mul i d) (mul-le-mul_right d h)

-- a row within the square
pub row_within : (d j : ℕ) → j < d → j * d + d ≤ d * d
row_within d j h = subst (λ (n : ℕ). n ≤ d * d) (suc-mul j d) (mul-le-mul_right d h)

-- ---- the rounds

module _ (d i : ℕ) (xs : List Float) (h : i < d) where
  pub round_step : round_of d (d - i) i xs ≡ and_then (and_then (norm_row (i * d) d xs) (rows_of d i (d - (i + 1)) (i + 1))) (round_of d (d - (i + 1)) (i + 1))
  unfolding round_of
  round_step = rw (left_suc d i h, add-one)

  pub round_fail_1 : norm_row (i * d) d xs ≡ none → round_of d (d - i) i xs ≡ none
  round_fail_1 P = round_step ∙ rw P

  module _ (ys : List Float) (P : norm_row (i * d) d xs ≡ some ys) where
    pub round_fail_2 : rows_of d i (d - (i + 1)) (i + 1) ys ≡ none → round_of d (d - i) i xs ≡ none
    round_fail_2 Q = round_step ∙ rw (P, Q)

    pub round_more : (zs : List Float) → rows_of d i (d - (i + 1)) (i + 1) ys ≡ some zs → round_of d (d - i) i xs ≡ round_of d (d - (i + 1)) (i + 1) zs
    round_more zs Q = round_step ∙ rw (P, Q)

pub round_end : (d i : ℕ) (xs : List Float) → d ≤ i → round_of d (d - i) i xs ≡ some xs
unfolding round_of
round_end d i xs h = rw (left_none d i h)

module _ (d n k : ℕ) (xs : List Float) where
  pub rounds_fail : k < n → round_of d d 0 xs ≡ none → rounds_of d (n - k) xs ≡ none
  unfolding rounds_of
  rounds_fail h P = rw (left_suc n k h, P)

  pub rounds_more : k < n → (ys : List Float) → round_of d d 0 xs ≡ some ys → rounds_of d (n - k) xs ≡ rounds_of d (n - (k + 1)) ys
  unfolding rounds_of
  rounds_more h ys P = rw (left_suc n k h, P)

  pub rounds_end : n ≤ k → rounds_of d (n - k) xs ≡ some xs
  unfolding rounds_of
  rounds_end h = rw (left_none n k h)
