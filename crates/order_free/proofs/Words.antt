-- Sets of ids as words: ids put in, in any order, and unions. Assumes nothing.
use Prim.Native.Nat.{ℕ, zero, suc, ◌+◌, ◌*◌, ◌/◌, ◌%◌, ◌^◌, ◌<◌, min, max}
use mathlib.Core.Path.{◌≡◌, refl, sym, ap, ap₂, ◌∙◌, subst}
use mathlib.Core.List.{List, [], ◌∷◌}
use mathlib.Core.Bool.{Bool, true}
use native.Mathlib.Omega.{arith}
use native.Mathlib.Decide.{ℕ_discrete}
use native.Mathlib.Nat.{mod-lt}
use borrow.Author.Tests.{eq-eqb, ne_eqb}
use lib.Arith.{bin_ind, digits_div, digits_mod}
use lib.Bits.{bit_and, bit_or, or_step, or_comm, or_zero_r, and_lt, or_lt}
use lib.Dec.{eqb}
use lib.Pow.{pow-lt}
use lib.ListN.{length, get_or, set, length-set}
use lib.Seq.{get_or-set_same, get_or-set_other}
use Rattle.paper.specs.Choice.{pick}
use Rattle.bitmaps.specs.Words.{has, by_word, union, shared, inserted, empty, size, is_empty, sum_to}
use Rattle.bitmaps.proofs.Digits.{Words, by_word_at, has_shared}
use Rattle.bitmaps.proofs.Rising.{has_inserted, has_kept}
use Rattle.bitmaps.proofs.Size.{size_has, sum_ext}

-- ---- or

join : {r r' c c' : ℕ} → r ≡ r' → c ≡ c' → r * 2 + c ≡ r' * 2 + c'
join p q = ap₂ (λ (x y : ℕ). x * 2 + y) p q

or_bit : (a b : ℕ) → max (a % 2) (b % 2) < 2
or_bit a b = omega arith

or_half : (a b : ℕ) → bit_or a b / 2 ≡ bit_or (a / 2) (b / 2)
or_half a b = ap (λ (x : ℕ). x / 2) (or_step a b) ∙ digits_div _ (or_bit a b)

or_low : (a b : ℕ) → bit_or a b % 2 ≡ max (a % 2) (b % 2)
or_low a b = ap (λ (x : ℕ). x % 2) (or_step a b) ∙ digits_mod _ (or_bit a b)

max3 : (x y z : ℕ) → max (max x y) z ≡ max x (max y z)
max3 x y z = omega arith

or_assoc : (a b c : ℕ) → bit_or (bit_or a b) c ≡ bit_or a (bit_or b c)
or_assoc a =
    bin_ind (λ (n : ℕ). (b c : ℕ) → bit_or (bit_or n b) c ≡ bit_or n (bit_or b c)) (λ b c. refl)
    (λ n ih b c.
    or_step (bit_or n b) c
    ∙ join (ap (λ (x : ℕ). bit_or x (c / 2)) (or_half n b) ∙ ih (b / 2) (c / 2) ∙ ap (λ (x : ℕ). bit_or (n / 2) x) (sym (or_half b c)))
    (ap (λ (x : ℕ). max x (c % 2)) (or_low n b) ∙ max3 (n % 2) (b % 2) (c % 2) ∙ ap (λ (x : ℕ). max (n % 2) x) (sym (or_low b c)))
    ∙ sym (or_step n (bit_or b c))) a

or_swap : (x m n : ℕ) → bit_or (bit_or x m) n ≡ bit_or (bit_or x n) m
or_swap x m n = or_assoc x m n ∙ ap (λ (r : ℕ). bit_or x r) (or_comm m n) ∙ sym (or_assoc x n m)

-- ---- bits put in

abbrev or_at : List ℕ → ℕ → ℕ → List ℕ
or_at ws k m = set ws k (bit_or (get_or ws k 0) m)

or_comm_at : (ws : List ℕ) (j m k n : ℕ) → or_at (or_at ws j m) k n ≡ or_at (or_at ws k n) j m
or_comm_at [] j m k n = refl
or_comm_at (x ∷ ws) zero m zero n = ap (λ (r : ℕ). r ∷ ws) (or_swap x m n)
or_comm_at (x ∷ ws) zero m (suc k) n = refl
or_comm_at (x ∷ ws) (suc j) m zero n = refl
or_comm_at (x ∷ ws) (suc j) m (suc k) n = ap (λ (r : List ℕ). x ∷ r) (or_comm_at ws j m k n)

-- ids may be put in in any order
pub inserted_comm : (s : List ℕ) (i j : ℕ) → inserted (inserted s i) j ≡ inserted (inserted s j) i
inserted_comm s i j = or_comm_at s (i / 64) (2 ^ (i % 64)) (j / 64) (2 ^ (j % 64))

pub length_inserted : (s : List ℕ) (i : ℕ) → length (inserted s i) ≡ length s
length_inserted s i = length-set s (i / 64) _

union_at_lem : (a b : List ℕ) (k m : ℕ) → length a ≡ length b → by_word bit_or a (or_at b k m) ≡ or_at (by_word bit_or a b) k m
unfolding by_word
union_at_lem [] [] k m e = refl
union_at_lem [] (y ∷ b) k m e = let no : ⊥ = omega arith in absurd no
union_at_lem (x ∷ a) [] k m e = let no : ⊥ = omega arith in absurd no
union_at_lem (x ∷ a) (y ∷ b) zero m e = ap (λ (r : ℕ). r ∷ by_word bit_or a b) (sym (or_assoc x y m))
union_at_lem (x ∷ a) (y ∷ b) (suc k) m e = let e' : length a ≡ length b = omega arith in ap (λ (r : List ℕ). bit_or x y ∷ r) (union_at_lem a b k m e')

-- an id put into one of two sets is put into their union
pub union_inserted : (a b : List ℕ) (i : ℕ) → length a ≡ length b → union a (inserted b i) ≡ inserted (union a b) i
union_inserted a b i e = union_at_lem a b (i / 64) (2 ^ (i % 64)) e

pub union_empty : (a : List ℕ) (l : ℕ) → union a (empty l) ≡ a
unfolding by_word
union_empty [] l = refl
union_empty (x ∷ a) zero = refl
union_empty (x ∷ a) (suc l) = ap₂ (λ (y : ℕ) (r : List ℕ). y ∷ r) (or_zero_r x) (union_empty a l)

-- ---- membership

-- one id more: it is in, and the others as before
pub has_put : (s : List ℕ) (i j : ℕ) → i < length s * 64 → has (inserted s i) j ≡ pick (eqb i j) 1 (has s j)
has_put s i j h = go (ℕ_discrete i j)
  where
    go : Dec (i ≡ j) → has (inserted s i) j ≡ pick (eqb i j) 1 (has s j)
    go (yes e) = ap (λ (k : ℕ). has (inserted s i) k) (sym e) ∙ has_inserted s i h ∙ sym (ap (λ (b : Bool). pick b 1 (has s j)) (eq-eqb i j e))
    go (no ne) = has_kept s i j h (λ e. ne (sym e)) ∙ sym (ap (λ (b : Bool). pick b 1 (has s j)) (ne_eqb i j ne))

-- ---- words

pub words_inserted : (s : List ℕ) (i : ℕ) → i < length s * 64 → Words s → Words (inserted s i)
words_inserted s i h w q = go (ℕ_discrete q (i / 64))
  where
    l : i / 64 < length s
    l = omega arith

    go : Dec (q ≡ i / 64) → get_or (inserted s i) q 0 < 2 ^ 64
    go (yes e) =
        subst (λ (k : ℕ). get_or (inserted s i) k 0 < 2 ^ 64) (sym e)
        (subst (λ (x : ℕ). x < 2 ^ 64) (sym (get_or-set_same s (i / 64) (bit_or (get_or s (i / 64) 0) (2 ^ (i % 64))) 0 l))
        (or_lt 64 (get_or s (i / 64) 0) (2 ^ (i % 64)) (w (i / 64)) (pow-lt (mod-lt i (omega arith)))))
    go (no ne) = subst (λ (x : ℕ). x < 2 ^ 64) (sym (get_or-set_other s (i / 64) q (bit_or (get_or s (i / 64) 0) (2 ^ (i % 64))) 0 ne)) (w q)

-- ---- two sets that share no id

sum_none : (n : ℕ) → sum_to n (λ (i : ℕ). 0) ≡ 0
unfolding sum_to
sum_none zero = refl
sum_none (suc n) = omega (arith, sum_none n)

pub share_none : (a b : List ℕ) → length a ≡ length b → Words a → Words b → ((i : ℕ) → min (has a i) (has b i) ≡ 0) → is_empty (shared a b) ≡ true
share_none a b e wa wb h =
    eq-eqb (size (shared a b)) 0
    (size_has (shared a b) (λ i. subst (λ (x : ℕ). x < 2 ^ 64) (sym (by_word_at bit_and refl a b e i)) (and_lt 64 (get_or a i 0) (get_or b i 0) (wa i) (wb i)))
    ∙ sum_ext (length (shared a b) * 64) (has (shared a b)) (λ (i : ℕ). 0) (λ i l. has_shared a b e i ∙ h i)
    ∙ sum_none (length (shared a b) * 64))
