-- Runs of stores into a list, and its parts. Assumes nothing.
use Prim.Native.Nat.{ℕ, suc, ◌+◌, ◌*◌, ◌-◌, ◌≤◌, ◌<◌}
use mathlib.Core.Path.{◌≡◌, refl, ap, ◌∙◌}
use mathlib.Core.List.{List, [], ◌∷◌, ◌++◌, append_assoc}
use mathlib.Core.Logic.{◌≢◌, ◌⊎◌, inl, inr}
use native.Mathlib.Omega.{arith}
use native.Mathlib.Decide.{dec_lt}
use lib.ListN.{length, set, take, drop}
use lib.Seq.{sets, sets-eq, set_comm, set-set, take-set-le, drop-set-lt, drop-set-add, take_at, drop_at, length-take-le}
use Rattle.index_memory.proofs.Places.{place}

-- stores in different places may change their order
pub set_sets : (xs l : List ℕ) (i p b : ℕ) → (p < i) ⊎ (i + length xs ≤ p) → set (sets l i xs) p b ≡ sets (set l p b) i xs
set_sets [] l i p b h = refl
set_sets (x ∷ xs) l i p b (inl h) =
    let ne : i ≢ p = λ e. omega arith in
    set_sets xs (set l i x) (suc i) p b (inl (omega arith)) ∙ ap (λ (r : List ℕ). sets r (suc i) xs) (set_comm l i p x b ne)
set_sets (x ∷ xs) l i p b (inr h) =
    let ne : i ≢ p = λ e. omega arith in
    set_sets xs (set l i x) (suc i) p b (inr (omega arith)) ∙ ap (λ (r : List ℕ). sets r (suc i) xs) (set_comm l i p x b ne)

pub sets_comm : (ys xs l : List ℕ) (i j : ℕ) → (j + length ys ≤ i) ⊎ (i + length xs ≤ j) → sets (sets l i xs) j ys ≡ sets (sets l j ys) i xs
sets_comm [] xs l i j h = refl
sets_comm (y ∷ ys) xs l i j (inl h) =
    let lt : j < i = omega arith in
    let le : suc j + length ys ≤ i = omega arith in
    ap (λ (r : List ℕ). sets r (suc j) ys) (set_sets xs l i j y (inl lt)) ∙ sets_comm ys xs (set l j y) i (suc j) (inl le)
sets_comm (y ∷ ys) xs l i j (inr h) =
    let le : i + length xs ≤ suc j = omega arith in
    ap (λ (r : List ℕ). sets r (suc j) ys) (set_sets xs l i j y (inr h)) ∙ sets_comm ys xs (set l j y) i (suc j) (inr le)

-- two places of s elements are apart
pub places_apart : (i j s a b : ℕ) → (i ≡ j → ⊥) → a ≡ s → b ≡ s → (j * s + b ≤ i * s) ⊎ (i * s + a ≤ j * s)
places_apart i j s a b h p q = go (dec_lt i j)
  where
    go : Dec (i < j) → (j * s + b ≤ i * s) ⊎ (i * s + a ≤ j * s)
    go (yes lt) = inr (omega (arith, place i j s lt))
    go (no ge) = let gt : j < i = omega arith in inl (omega (arith, place j i s gt))

-- a run of stores over another of the same length
pub sets_over : (xs ys l : List ℕ) (i : ℕ) → length xs ≡ length ys → sets (sets l i xs) i ys ≡ sets l i ys
sets_over [] [] l i e = refl
sets_over [] (y ∷ ys) l i e = let z : ⊥ = omega arith in absurd z
sets_over (x ∷ xs) [] l i e = let z : ⊥ = omega arith in absurd z
sets_over (x ∷ xs) (y ∷ ys) l i e =
    let lt : i < suc i = omega arith in
    let e' : length xs ≡ length ys = omega arith in
    ap (λ (r : List ℕ). sets r (suc i) ys) (set_sets xs (set l i x) (suc i) i y (inl lt) ∙ ap (λ (r : List ℕ). sets r (suc i) xs) (set-set l i x y))
    ∙ sets_over xs ys (set l i y) (suc i) e'

-- a part that the stores don't touch, and the part that they fill
part_set : (l : List ℕ) (a n p b : ℕ) → (p < a) ⊎ (a + n ≤ p) → take n (drop a (set l p b)) ≡ take n (drop a l)
part_set l a n p b (inl h) = ap (λ (r : List ℕ). take n r) (drop-set-lt a l p b h)
part_set l a n p b (inr h) =
    let e : p ≡ a + (p - a) = omega arith in
    let le : n ≤ p - a = omega arith in
    ap (λ (k : ℕ). take n (drop a (set l k b))) e ∙ ap (λ (r : List ℕ). take n r) (drop-set-add a l (p - a) b) ∙ take-set-le n (drop a l) (p - a) b le

pub part_sets : (xs l : List ℕ) (a n i : ℕ) → (i + length xs ≤ a) ⊎ (a + n ≤ i) → take n (drop a (sets l i xs)) ≡ take n (drop a l)
part_sets [] l a n i h = refl
part_sets (x ∷ xs) l a n i (inl h) =
    let le : suc i + length xs ≤ a = omega arith in
    let lt : i < a = omega arith in
    part_sets xs (set l i x) a n (suc i) (inl le) ∙ part_set l a n i x (inl lt)
part_sets (x ∷ xs) l a n i (inr h) =
    let le : a + n ≤ suc i = omega arith in
    part_sets xs (set l i x) a n (suc i) (inr le) ∙ part_set l a n i x (inr h)

pub part_same : (xs l : List ℕ) (i n : ℕ) → length xs ≡ n → i + n ≤ length l → take n (drop i (sets l i xs)) ≡ xs
part_same xs l i n e h =
    let h' : i + length xs ≤ length l = omega arith in
    let le : i ≤ length l = omega arith in
    ap (λ (r : List ℕ). take n (drop i r)) (sets-eq xs l i h' ∙ append_assoc (take i l) xs (drop (i + length xs) l))
    ∙ ap (λ (r : List ℕ). take n r) (drop_at (take i l) (xs ++ drop (i + length xs) l) i (length-take-le i l le))
    ∙ take_at xs (drop (i + length xs) l) n e
