-- The lowest digit of a word, and the least id of a set from a place on. Assumes nothing.
use Prim.Native.Nat.{ℕ, zero, suc, ◌+◌, ◌-◌, ◌*◌, ◌/◌, ◌%◌, ◌^◌, ◌<◌, ◌≤◌}
use native.Mathlib.Nat.{pow-suc, div-eq_of_lt, zero-div, lt_of_lt_of_le}
use native.Mathlib.Omega.{arith}
use mathlib.Core.Path.{◌≡◌, refl, ap, sym, ◌∙◌}
use mathlib.Core.Logic.{◌⊎◌, inl, inr, ⊎_elim}
use mathlib.Core.List.{List}
use lib.ListN.{length, get_or, get_or-eq_default}
use lib.Bits.{bit_or}
use lib.Seq.{get_or-set_same, get_or-set_other}
use lib.Pow.{shr-shr, pow_mono, shr_le}
use lib.Count.{count_trailing_zeros, under}
use Rattle.std.specs.Prelude.{Some}
use Rattle.bitmaps.specs.Words.{digit, has, inserted}
use Rattle.bitmaps.specs.Walk.{NextIs}
use Rattle.bitmaps.proofs.Digits.{Words, digit_suc, or_digit}

pub le_or_lt : (a b : ℕ) → (a ≤ b) ⊎ (b < a)
le_or_lt zero b = inl (omega arith)
le_or_lt (suc a) zero = inr (omega arith)
le_or_lt (suc a) (suc b) = ⊎_elim (λ p. inl (omega arith)) (λ q. inr (omega arith)) (le_or_lt a b)

same_or_not : (a b : ℕ) → (a ≡ b) ⊎ (a ≡ b → ⊥)
same_or_not zero zero = inl refl
same_or_not zero (suc b) = inr (omega arith)
same_or_not (suc a) zero = inr (omega arith)
same_or_not (suc a) (suc b) = ⊎_elim (λ p. inl (ap suc p)) (λ (q : a ≡ b → ⊥). inr (omega arith)) (same_or_not a b)

-- t is the place of the lowest digit of x
abbrev pub Lowest : ℕ → ℕ → Type 0
Lowest x t = (digit x t ≡ 1) × ((j : ℕ) → j < t → digit x j ≡ 0)

pub trailing_lowest : (k x : ℕ) → x < 2 ^ k → 0 < x → Lowest x (count_trailing_zeros k x)
unfolding count_trailing_zeros
trailing_lowest zero x h p = absurd (omega arith)
trailing_lowest (suc k) x h p = go (λ q. trailing_lowest k (x / 2) (omega (arith, pow-suc 2 k)) q) (x % 2) refl
  where
    below : (t : ℕ) → x % 2 ≡ 0 → ((j : ℕ) → j < t → digit (x / 2) j ≡ 0) → (j : ℕ) → j < suc t → digit x j ≡ 0
    below t e h zero l = omega arith
    below t e h (suc j) l = digit_suc x j ∙ h j (omega arith)

    go : (0 < x / 2 → Lowest (x / 2) (count_trailing_zeros k (x / 2))) → (d : ℕ) → x % 2 ≡ d → Lowest x (under d (count_trailing_zeros k (x / 2)))
    go ih zero e =
        let r = ih (omega arith) in
        (digit_suc x (count_trailing_zeros k (x / 2)) ∙ r.0, below (count_trailing_zeros k (x / 2)) e r.1)
    go ih (suc d) e = (omega arith, λ j l. absurd (omega arith))

pub digit_shift : (x s k : ℕ) → digit (x / 2 ^ s) k ≡ digit x (s + k)
digit_shift x s k = rw shr-shr

pub digit_high : (n k x : ℕ) → x < 2 ^ n → n ≤ k → digit x k ≡ 0
digit_high n k x h l = rw (div-eq_of_lt (lt_of_lt_of_le h (pow_mono l)))

-- id q * 64 + m of a set, for m < 64
pub has_at : (a : List ℕ) (q m i : ℕ) → m < 64 → i ≡ q * 64 + m → has a i ≡ digit (get_or a q 0) m
has_at a q m i h e =
    let d : i / 64 ≡ q = omega arith in
    let r : i % 64 ≡ m = omega arith in
    rw (d, r)

-- y is what is left of word q from digit s on
module _ (a : List ℕ) (q s y : ℕ) (w : Words a) (hs : s < 64) (e : y ≡ get_or a q 0 / 2 ^ s) where
  y_word : y < 2 ^ 64
  y_word = omega (arith, w q, shr_le (get_or a q 0) s)

  left : (i m : ℕ) → s + m < 64 → i ≡ q * 64 + s + m → has a i ≡ digit y m
  left i m h ei = has_at a q (s + m) i h (omega arith) ∙ sym (digit_shift (get_or a q 0) s m) ∙ ap (λ (x : ℕ). digit x m) (sym e)

  inside : 0 < y → s + count_trailing_zeros 64 y < 64
  inside p =
      ⊎_elim
      (λ (l : 64 ≤ s + count_trailing_zeros 64 y).
      let z = digit_high 64 (s + count_trailing_zeros 64 y) (get_or a q 0) (w q) l in
      let o = (trailing_lowest 64 y y_word p).0 in
      let v : digit y (count_trailing_zeros 64 y) ≡ digit (get_or a q 0) (s + count_trailing_zeros 64 y) = ap (λ (x : ℕ). digit x (count_trailing_zeros 64 y)) e ∙ digit_shift (get_or a q 0) s (count_trailing_zeros 64 y) in
      absurd (omega arith))
      (λ l. l)
      (le_or_lt 64 (s + count_trailing_zeros 64 y))

  found : 0 < y → (i : ℕ) → i ≡ q * 64 + s + count_trailing_zeros 64 y → has a i ≡ 1
  found p i ei = left i (count_trailing_zeros 64 y) (inside p) ei ∙ (trailing_lowest 64 y y_word p).0

  before : 0 < y → (j : ℕ) → q * 64 + s ≤ j → j < q * 64 + s + count_trailing_zeros 64 y → has a j ≡ 0
  before p j l h =
      let i = inside p in
      left j (j - (q * 64 + s)) (omega arith) (omega arith) ∙ (trailing_lowest 64 y y_word p).1 (j - (q * 64 + s)) (omega arith)

  bare : y ≡ 0 → (j : ℕ) → q * 64 + s ≤ j → j < (q + 1) * 64 → has a j ≡ 0
  bare z j l h = left j (j - (q * 64 + s)) (omega arith) (omega arith) ∙ rw (z, zero-div)

  -- where no id stands between a place and digit s of word q: the next id is the lowest of y, or there is none in the word
  module _ (from : ℕ) (none : (j : ℕ) → from ≤ j → j < q * 64 + s → has a j ≡ 0) where
    pub next_here : 0 < y → (i : ℕ) → i ≡ q * 64 + s + count_trailing_zeros 64 y → from ≤ q * 64 + s → q < length a → NextIs a from (Some i)
    next_here p i ei l h =
        let t = inside p in (
          omega arith,
          omega arith,
          found p i ei,
          λ j k b. ⊎_elim (λ (g : q * 64 + s ≤ j). before p j g (omega arith)) (λ (g : j < q * 64 + s). none j k g) (le_or_lt (q * 64 + s) j),
        )

    pub none_here : y ≡ 0 → (j : ℕ) → from ≤ j → j < (q + 1) * 64 → has a j ≡ 0
    none_here z j k b = ⊎_elim (λ (g : q * 64 + s ≤ j). bare z j g b) (λ (g : j < q * 64 + s). none j k g) (le_or_lt (q * 64 + s) j)

pub past_end : (a : List ℕ) (j : ℕ) → length a * 64 ≤ j → has a j ≡ 0
past_end a j h = rw (get_or-eq_default a 0 {n = j / 64} (omega arith), zero-div)

-- ---- one id more

pub pow_digit_same : (k : ℕ) → digit (2 ^ k) k ≡ 1
pow_digit_same zero = refl
pow_digit_same (suc k) =
    let half : 2 ^ suc k / 2 ≡ 2 ^ k = omega (arith, pow-suc 2 k) in
    digit_suc (2 ^ suc k) k ∙ rw half (pow_digit_same k)

pub pow_digit_other : (m k : ℕ) → (k ≡ m → ⊥) → digit (2 ^ m) k ≡ 0
pow_digit_other zero zero h = absurd (h refl)
pow_digit_other zero (suc k) h = digit_suc 1 k ∙ rw zero-div
pow_digit_other (suc m) zero h = omega (arith, pow-suc 2 m)
pow_digit_other (suc m) (suc k) h =
    let half : 2 ^ suc m / 2 ≡ 2 ^ m = omega (arith, pow-suc 2 m) in
    digit_suc (2 ^ suc m) k ∙ rw half (pow_digit_other m k (λ e. h (ap suc e)))

pub has_inserted : (s : List ℕ) (i : ℕ) → i < length s * 64 → has (inserted s i) i ≡ 1
has_inserted s i h =
    rw (get_or-set_same s (i / 64) (bit_or (get_or s (i / 64) 0) (2 ^ (i % 64))) 0 (omega arith), or_digit, pow_digit_same) (omega arith)

pub has_kept : (s : List ℕ) (i j : ℕ) → i < length s * 64 → (j ≡ i → ⊥) → has (inserted s i) j ≡ has s j
has_kept s i j h ne =
    ⊎_elim
    (λ (e : j / 64 ≡ i / 64).
    let o : j % 64 ≡ i % 64 → ⊥ = λ r. ne (omega arith) in
    rw (e, get_or-set_same s (i / 64) (bit_or (get_or s (i / 64) 0) (2 ^ (i % 64))) 0 (omega arith), or_digit, pow_digit_other (i % 64) (j % 64) o) (omega arith))
    (λ (e : j / 64 ≡ i / 64 → ⊥). rw (get_or-set_other s (i / 64) (j / 64) (bit_or (get_or s (i / 64) 0) (2 ^ (i % 64))) 0 e))
    (same_or_not (j / 64) (i / 64))
