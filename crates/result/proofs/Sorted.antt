-- In a list that is in order no later score goes before an earlier one, however far apart they stand; for the larger score first that takes that no score is
-- NaN. Assumes nothing.
use mathlib.Core.Path.{◌≡◌, refl, sym, ap, ◌∙◌}
use mathlib.Core.Bool.{Bool, true, false}
use mathlib.Core.List.{List, [], ◌∷◌}
use Prim.Native.Nat.{ℕ, suc, zero, ◌+◌, ◌*◌, ◌≤◌, ◌<◌}
use native.Mathlib.Nat.{zero-mul, mul-pos, not-suc-le-zero, le_of_suc-le-suc}
use native.Mathlib.Omega.{arith}
use borrow.Author.Tests.{ltb-false, le-ltb, not-true}
use lib.Ieee.{Float, nan, inf, fin, up, down, lt, below, is_nan}
use lib.Ieee.Fits.{down_pos}
use lib.Ieee.Positive as Positive
use lib.ListN.{length, get_or}
use Rattle.paper.proofs.Choice.{and_l, and_r}
use Rattle.result.specs.Lists.{all_of, is_held}
use Rattle.result.specs.Ranked.{Entry, larger, fed, fed_list, in_order, Through}
use Rattle.result.specs.Sets.{entries_of, empty_set, fed_all}
use Rattle.result.proofs.Keeps.{held_e, entries_none, fed_all_lem}
use Rattle.result.proofs.Order.{order_of}
use Rattle.result.proofs.Grown.{all_entries, grown_order}

-- ---- along a list, over any comparison that goes through held scores

module _ (before : Float → Float → Bool) (through : Through before) where
  first_before : (x d : Entry) (ys : List Entry) (j : ℕ) → in_order before (x ∷ ys) ≡ true → all_of held_e ys ≡ true → j < length ys
      → before (get_or ys j d).sim x.sim ≡ false
  first_before x d [] j o a h = absurd (not-suc-le-zero h)
  first_before x d (y ∷ ys) zero o a h = not-true _ (order_of before x (y ∷ ys) o).0
  first_before x d (y ∷ ys) (suc j) o a h =
      let p = order_of before x (y ∷ ys) o in
      through x.sim y.sim (get_or ys j d).sim (and_l (held_e y) _ a) (not-true _ p.0)
      (first_before y d ys j p.1 (and_r (held_e y) _ a) (le_of_suc-le-suc h))

  pub sorted : (d : Entry) (es : List Entry) (i j : ℕ) → in_order before es ≡ true → all_of held_e es ≡ true → i < j → j < length es
      → before (get_or es j d).sim (get_or es i d).sim ≡ false
  sorted d [] i j o a h l = absurd (not-suc-le-zero l)
  sorted d (x ∷ xs) i zero o a h l = absurd (not-suc-le-zero h)
  sorted d (x ∷ xs) zero (suc j) o a h l = first_before x d xs j o (and_r (held_e x) _ a) (le_of_suc-le-suc l)
  sorted d (x ∷ xs) (suc i) (suc j) o a h l =
      sorted d xs i j (order_of before x xs o).1 (and_r (held_e x) _ a) (le_of_suc-le-suc h) (le_of_suc-le-suc l)

-- ---- the order of floats goes through any but NaN

nil : (n d e : ℕ) → 0 < d → n * d ≤ 0 → n * e ≤ 0
nil zero d e h k = rw (zero-mul e) (omega arith)
nil (suc n) d e h k = let z : 0 < suc n * d = mul-pos (omega arith) h in absurd (omega arith)

below_through : (s t u : Bool) (a b c p q r : ℕ) → 0 < p → 0 < q → 0 < r
    → below s (a * q) t (b * p) ≡ false → below t (b * r) u (c * q) ≡ false → below s (a * r) u (c * p) ≡ false
below_through false false false a b c p q r P Q R h k =
    le-ltb (a * r) (c * p) (Positive.through c b a r q p Q (ltb-false (b * r) (c * q) k) (ltb-false (a * q) (b * p) h))
below_through false false true a b c p q r P Q R h k = refl
below_through false true false a b c p q r P Q R h k =
    let m = ltb-false 0 (b * r + c * q) k in
    let n = nil c q p Q (omega arith) in
    le-ltb (a * r) (c * p) (omega arith)
below_through false true true a b c p q r P Q R h k = refl
below_through true false false a b c p q r P Q R h k =
    let m = ltb-false 0 (a * q + b * p) h in
    let n = ltb-false (b * r) (c * q) k in
    let x = nil a q r Q (omega arith) in
    let y = nil b p r P (omega arith) in
    let z = nil c q p Q (omega arith) in
    le-ltb 0 (a * r + c * p) (omega arith)
below_through true false true a b c p q r P Q R h k =
    let m = ltb-false 0 (a * q + b * p) h in
    let x = nil a q r Q (omega arith) in
    le-ltb (c * p) (a * r) (omega arith)
below_through true true false a b c p q r P Q R h k =
    let m = ltb-false (b * p) (a * q) h in
    let n = ltb-false 0 (b * r + c * q) k in
    let y = nil b r p R (omega arith) in
    let x = nil a q r Q (omega arith) in
    let z = nil c q p Q (omega arith) in
    le-ltb 0 (a * r + c * p) (omega arith)
below_through true true true a b c p q r P Q R h k =
    le-ltb (c * p) (a * r) (Positive.through a b c p q r Q (ltb-false (b * p) (a * q) h) (ltb-false (c * q) (b * r) k))

never : true ≡ false → (A : Type 0) → A
never e A = let z : ◌≡◌ {A = ℕ} 0 1 = cc in absurd (omega arith)

lt_through : (x y z : Float) → is_held y ≡ true → lt x y ≡ false → lt y z ≡ false → lt x z ≡ false
unfolding lt is_nan
lt_through nan y z n h k = refl
lt_through (inf false) y nan n h k = refl
lt_through (inf false) y (inf u) n h k = refl
lt_through (inf false) y (fin u c g) n h k = refl
lt_through (inf true) nan z n h k = never (sym n) _
lt_through (inf true) (inf true) z n h k = k
lt_through (inf true) (inf false) z n h k = never h _
lt_through (inf true) (fin t b f) z n h k = never h _
lt_through (fin s a e) nan z n h k = never (sym n) _
lt_through (fin s a e) (inf false) z n h k = never h _
lt_through (fin s a e) (inf true) nan n h k = refl
lt_through (fin s a e) (inf true) (inf true) n h k = refl
lt_through (fin s a e) (inf true) (inf false) n h k = never k _
lt_through (fin s a e) (inf true) (fin u c g) n h k = never k _
lt_through (fin s a e) (fin t b f) nan n h k = refl
lt_through (fin s a e) (fin t b f) (inf u) n h k = k
lt_through (fin s a e) (fin t b f) (fin u c g) n h k =
    below_through s t u (a * up e) (b * up f) (c * up g) (down e) (down f) (down g) (down_pos e) (down_pos f) (down_pos g) h k

pub larger_through : Through larger
larger_through = lt_through

-- ---- a set grown from empty

fed_list_all : (k : ℕ) (xs es : List Entry) → all_of held_e xs ≡ true → all_of held_e es ≡ true → all_of held_e (fed_list larger k xs es) ≡ true
fed_list_all k [] es h a = a
fed_list_all k (x ∷ xs) es h a = fed_list_all k xs (fed larger k x es) (and_r (held_e x) _ h) (fed_all_lem larger x (and_l (held_e x) _ h) k es a)

-- no later score is larger than an earlier one
pub grown_sorted : (k : ℕ) (es : List Entry) (d : Entry) (i j : ℕ) → all_of held_e es ≡ true → i < j → j < length (entries_of (fed_all (empty_set k) es))
    → lt (get_or (entries_of (fed_all (empty_set k) es)) i d).sim (get_or (entries_of (fed_all (empty_set k) es)) j d).sim ≡ false
grown_sorted k es d i j a h l =
    let e = all_entries (empty_set k) es ∙ ap (λ (r : List Entry). fed_list larger (empty_set k).k es r) (entries_none k) in
    sorted larger larger_through d (entries_of (fed_all (empty_set k) es)) i j (grown_order k es)
    (ap (all_of held_e) e ∙ fed_list_all (empty_set k).k es [] a refl) h l
