-- The first entry that none beats, found by ranks. Assumes nothing.
use mathlib.Core.Path.{◌≡◌, refl, sym, ◌∙◌, ap, subst}
use mathlib.Core.Bool.{Bool, true, false, not}
use mathlib.Core.List.{List, [], ◌∷◌}
use Prim.Native.Nat.{ℕ, zero, suc, ◌+◌, ◌<◌, ◌≤◌, zero-le, suc-le-suc}
use native.Mathlib.Numerals.{add-one}
use native.Mathlib.Nat.{not-suc-le-zero, le_of_suc-le-suc, lt_trans, le_trans, le_of_lt, lt_of_le_of_lt, le_refl, zero-add, add-zero}
use native.Mathlib.Omega.{arith}
use lib.Arith.{lt-one}
use borrow.Author.Count.{below_more}
use borrow.Author.Tests.{lt-ltb, le-ltb, ltb-true, ltb-false}
use lib.Dec.{T, ltb, lit<}
use lib.ListN.{length, get_or}
use lib.Ieee.{Float, nan, binary32, fits}
use Rattle.paper.specs.Choice.{pick}
use Rattle.vector.specs.Finite.{is_finite}
use Rattle.vector.proofs.Vectors.{every_all, every_some}
use Rattle.faces.specs.Best.{beats, first_from, unbeaten, best_of, First}
use Rattle.faces.proofs.Rank.{rank, beats_is}

module _ (p : Float → Bool) where
  first_is : (xs : List Float) (i b : ℕ) → b < length xs → p (get_or xs b nan) ≡ true → ((k : ℕ) → k < b → p (get_or xs k nan) ≡ false) → first_from p i xs ≡ i + b
  unfolding first_from
  first_is [] i b h t f = absurd (not-suc-le-zero h)
  first_is (x ∷ xs) i zero h t f = rw t (sym (add-zero i))
  first_is (x ∷ xs) i (suc b) h t f =
      rw (f zero (suc-le-suc zero-le))
      (first_is xs (suc i) b (le_of_suc-le-suc h) t (λ k l. f (suc k) (suc-le-suc l)) ∙ up i b)
    where
      up : (i b : ℕ) → suc i + b ≡ i + suc b
      up i b = omega arith

  -- an index of the list, whatever p says
  first_low : (xs : List Float) (i : ℕ) → 0 < i + length xs → first_from p i xs < i + length xs
  unfolding first_from
  first_low [] i h = h
  first_low (x ∷ xs) i h = go (p x) (first_from p (suc i) xs) (first_low xs (suc i) (omega arith))
    where
      go : (t : Bool) (r : ℕ) → r < suc i + length xs → pick t i r < i + suc (length xs)
      go true r l = omega arith
      go false r l = omega arith

pub best_low : (xs : List Float) → 1 ≤ length xs → best_of xs < length xs
unfolding best_of
best_low xs h = rw zero-add at (first_low (unbeaten xs) xs 0 (omega arith))

module _ (xs : List Float) (F : (k : ℕ) → k < length xs → T (is_finite (get_or xs k nan))) (H : (k : ℕ) → T (fits binary32 (get_or xs k nan))) where
  beats_at : (j k : ℕ) → j < length xs → k < length xs → beats (get_or xs j nan) (get_or xs k nan) ≡ ltb (rank (get_or xs k nan)) (rank (get_or xs j nan))
  beats_at j k hj hk = beats_is (get_or xs j nan) (get_or xs k nan) (F j hj) (F k hk) (H j) (H k)

  pub best_is : (b : ℕ) → b < length xs → ((k : ℕ) → k < length xs → rank (get_or xs k nan) ≤ rank (get_or xs b nan)) → ((k : ℕ) → k < b → rank (get_or xs k nan) < rank (get_or xs b nan)) → best_of xs ≡ b
  unfolding best_of
  best_is b hb top first =
      first_is (unbeaten xs) xs 0 b hb
      (every_all (λ (y : Float). not (beats y (get_or xs b nan))) xs (λ k hk. ap not (beats_at k b hk hb ∙ le-ltb _ _ (top k hk))))
      (λ k hk. every_some (λ (y : Float). not (beats y (get_or xs k nan))) xs b hb (ap not (beats_at b k hb (lt_trans hk hb) ∙ lt-ltb _ _ (first k hk))))
      ∙ zero-add b

-- ---- the walk: b is the first of the best among the entries below i

abbrev pub Best : List Float → ℕ → ℕ → Type 0
Best xs b i = (b < i) × (i ≤ length xs) × ((k : ℕ) → k < i → rank (get_or xs k nan) ≤ rank (get_or xs b nan)) × ((k : ℕ) → k < b → rank (get_or xs k nan) < rank (get_or xs b nan))

pub start : (xs : List Float) → 0 < length xs → Best xs 0 1
start xs h = (lit< tt, h, (λ k l. rw (lt-one l) (le_refl _)), (λ k l. absurd (not-suc-le-zero l)))

module _ (xs : List Float) (F : (k : ℕ) → k < length xs → T (is_finite (get_or xs k nan))) (H : (k : ℕ) → T (fits binary32 (get_or xs k nan))) (b i : ℕ) (B : Best xs b i) (l : i < length xs) where
  pub step_yes : beats (get_or xs i nan) (get_or xs b nan) ≡ true → Best xs i (i + 1)
  step_yes t =
      let up : rank (get_or xs b nan) < rank (get_or xs i nan) = ltb-true _ _ (sym (beats_at xs F H i b l (lt_trans B.0 l)) ∙ t) in (
        omega arith,
        omega arith,
        below_more _ i (λ k h. le_trans (B.2 k h) (le_of_lt up)) (le_refl _),
        (λ k h. lt_of_le_of_lt (B.2 k h) up),
      )

  pub step_no : beats (get_or xs i nan) (get_or xs b nan) ≡ false → Best xs b (i + 1)
  step_no t = (omega arith, omega arith, below_more _ i B.2 (ltb-false _ _ (sym (beats_at xs F H i b l (lt_trans B.0 l)) ∙ t)), B.3)

-- ---- a list of finite floats always has such an entry, so the definition's fallback is never reached

module _ (xs : List Float) (F : (k : ℕ) → k < length xs → T (is_finite (get_or xs k nan))) (H : (k : ℕ) → T (fits binary32 (get_or xs k nan))) where
  walk : (n : ℕ) → n < length xs → (b : ℕ) × Best xs b (suc n)
  walk zero h = (0, start xs h)
  walk (suc n) h = more (walk n (omega arith))
    where
      more : (b : ℕ) × Best xs b (suc n) → (b : ℕ) × Best xs b (suc (suc n))
      more (b, B) = go (beats (get_or xs (suc n) nan) (get_or xs b nan)) refl
        where
          go : (t : Bool) → beats (get_or xs (suc n) nan) (get_or xs b nan) ≡ t → (b : ℕ) × Best xs b (suc (suc n))
          go true e = (suc n, subst (λ (i : ℕ). Best xs (suc n) i) (add-one (suc n)) (step_yes xs F H b (suc n) B h e))
          go false e = (b, subst (λ (i : ℕ). Best xs b i) (add-one (suc n)) (step_no xs F H b (suc n) B h e))

  first_of : (b : ℕ) → Best xs b (length xs) → First xs b
  first_of b B = record {
    low = B.0;
    best = every_all (λ (y : Float). not (beats y (get_or xs b nan))) xs (λ k l. ap not (beats_at xs F H k b l B.0 ∙ le-ltb _ _ (B.2 k l)));
    first = λ k l. beats_at xs F H b k B.0 (lt_trans l B.0) ∙ lt-ltb _ _ (B.3 k l);
  }

  best_first_at : (n : ℕ) → suc n ≡ length xs → First xs (best_of xs)
  best_first_at n e =
      let w = walk n (omega arith) in
      let B : Best xs w.0 (length xs) = subst (Best xs w.0) e w.1 in
      subst (First xs) (sym (best_is xs F H w.0 B.0 B.2 B.3)) (first_of w.0 B)

pub best_first : (xs : List Float) → 1 ≤ length xs → ((k : ℕ) → k < length xs → T (is_finite (get_or xs k nan))) → ((k : ℕ) → T (fits binary32 (get_or xs k nan))) → First xs (best_of xs)
best_first [] h F H = absurd (not-suc-le-zero h)
best_first (x ∷ xs) h F H = best_first_at (x ∷ xs) F H (length xs) refl
