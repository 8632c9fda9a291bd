-- One turn of each loop of a merge, on plain values. Assumes nothing.
use Prim.Native.Nat.{ℕ, zero, suc, ◌+◌, ◌*◌, ◌≤◌, ◌<◌}
use mathlib.Core.Path.{◌≡◌, ◌∙◌, sym, ap, refl, subst}
use mathlib.Core.List.{List}
use native.Mathlib.Omega.{arith}
use native.Mathlib.Numerals.{add-one}
use native.Mathlib.Decide.{ℕ_discrete}
use lib.Bits.{bit_and}
use lib.Count.{ones}
use lib.ListN.{length, get_or, take, drop}
use lib.Seq.{sets}
use Rattle.bitmaps.specs.Words.{has, shared, size}
use Rattle.bitmaps.proofs.Zip.{by_word_length}
use Rattle.bitmaps.proofs.Digits.{by_word_at}
use Rattle.bitmaps.proofs.Size.{size_drop}
use Rattle.merging.specs.Merging.{copied}

-- ---- ids in both sets

-- the words from i on: the word at i, and the words from i + 1 on
pub share_drop : (a b : List ℕ) (i : ℕ) → length a ≡ length b → i < length a
    → size (drop i (shared a b)) ≡ ones (bit_and (get_or a i 0) (get_or b i 0)) + size (drop (i + 1) (shared a b))
share_drop a b i e h =
    let l : i < length (shared a b) = subst (λ (k : ℕ). i < k) (sym (by_word_length bit_and a b)) h in
    size_drop (shared a b) i l ∙ ap (λ (x : ℕ). ones x + size (drop (i + 1) (shared a b))) (by_word_at bit_and refl a b e i)

-- ---- the marked slots

module _ (size : ℕ) (ms from vs : List ℕ) where
  one_not : (i : ℕ) → has ms i ≡ 0 → copied size (suc i) ms from vs ≡ copied size i ms from vs
  unfolding copied
  one_not i e = rw e

  -- ids without a mark copy nothing
  skipped : (a b : ℕ) → a ≤ b → ((j : ℕ) → a ≤ j → j < b → has ms j ≡ 0) → copied size b ms from vs ≡ copied size a ms from vs
  skipped a zero h n = let z : a ≡ 0 = omega arith in ap (λ (k : ℕ). copied size k ms from vs) (sym z)
  skipped a (suc b) h n = go (ℕ_discrete a (suc b)) (λ le. skipped a b le (λ j x y. n j x (omega arith)))
    where
      go : Dec (a ≡ suc b) → (a ≤ b → copied size b ms from vs ≡ copied size a ms from vs) → copied size (suc b) ms from vs ≡ copied size a ms from vs
      go (yes e) ih = ap (λ (k : ℕ). copied size k ms from vs) (sym e)
      go (no ne) ih = let le : a ≤ b = omega arith in one_not b (n b le (omega arith)) ∙ ih le

  -- the next marked id
  pub copy_turn : (at i : ℕ) (now : List ℕ) → at ≤ i → has ms i ≡ 1 → ((j : ℕ) → at ≤ j → j < i → has ms j ≡ 0) → now ≡ copied size at ms from vs
      → sets now (i * size) (take size (drop (i * size) from)) ≡ copied size (i + 1) ms from vs
  unfolding copied
  copy_turn at i now h m n e = rw (add-one, m, e, ← skipped at i h n) refl

  -- none left
  pub copy_end : (at k : ℕ) (now : List ℕ) → at ≤ k → ((j : ℕ) → at ≤ j → has ms j ≡ 0) → now ≡ copied size at ms from vs → now ≡ copied size k ms from vs
  copy_end at k now h n e = e ∙ sym (skipped at k h (λ j l m. n j l))
