-- Laws on texts. Assumes nothing.
use mathlib.Core.Path.{◌≡◌, refl, sym, ap, ◌∙◌, subst}
use mathlib.Core.List.{List, [], ◌∷◌, ◌++◌, append-nil, append_assoc}
use mathlib.Core.Bool.{Bool, true, false, cond}
use Prim.Native.Nat.{ℕ, zero, suc, ◌+◌, ◌-◌, ◌*◌, ◌≤◌, ◌<◌}
use native.Mathlib.Nat.{add-zero, add-suc, suc-add, not-suc-le-zero}
use native.Mathlib.Omega.{arith}
use lib.Dec.{eqb}
use lib.ListN.{length, take, drop, set, get_or, length-append, length-drop, drop_of_length-le}
use lib.Seq.{sets, sets-eq, paste, take_all, drop-cons}
use lib.Ieee.{Float, nan}
use borrow.Author.Tests.{eq-eqb, ne_eqb}
use Rattle.lines.specs.declared.Told.{Told}
use Rattle.lines.specs.declared.Told.TheVariants.{Refused, Geometry, Basis, Added, Found}
use Rattle.lines.specs.Lines.{Put, refused_line, told, trimmed, ten_digits, decimal, hexadecimal, entry, listing}

-- ---- stores one after another

pub sets_append : (xs ys l : List ℕ) (i : ℕ) → sets l i (xs ++ ys) ≡ sets (sets l i xs) (i + length xs) ys
sets_append [] ys l i = ap (λ (k : ℕ). sets l k ys) (sym (add-zero i))
sets_append (x ∷ xs) ys l i =
    sets_append xs ys (set l i x) (suc i)
    ∙ ap (λ (k : ℕ). sets (sets (set l i x) (suc i) xs) k ys) (suc-add i (length xs) ∙ sym (add-suc i (length xs)))

-- a copy of all of a text
pub pasted : (l text : List ℕ) (at i : ℕ) → i ≡ length text → at + length text ≤ length l → paste l at text i ≡ sets l at text
pasted l text at i e h =
    rw (e, take_all (length text) text (omega arith)) (sym (sets-eq text l at h))

-- what two calls have put: the second behind the first
pub then : {l₀ l₁ l₂ a b : List ℕ} {at p r : ℕ} → Put l₀ l₁ at p a → Put l₁ l₂ p r b → Put l₀ l₂ at r (a ++ b)
then {l₀} {l₁} {l₂} {a} {b} {at} {p} {r} f g =
    let n : length (a ++ b) ≡ length a + length b = length-append a b in
    record { next = omega (arith, f.next, g.next, n); stored = g.stored ∙ rw (f.stored, f.next) (sym (sets_append a b l₀ at)) }

pub put_as : {l₀ l a b : List ℕ} {at r : ℕ} → a ≡ b → Put l₀ l at r a → Put l₀ l at r b
put_as {l₀} {l} {a} {b} {at} {r} e f = subst (λ (t : List ℕ). Put l₀ l at r t) e f

-- ---- digits

pub trim_one : (ds : List ℕ) → length ds ≡ 1 → ds ≡ trimmed ds
unfolding trimmed
trim_one [] e = refl
trim_one (x ∷ []) e = refl
trim_one (x ∷ y ∷ ds) e = let no : ⊥ = omega arith in absurd no

pub trim_stop : (x : ℕ) (ds : List ℕ) → (x ≡ 48 → ⊥) → x ∷ ds ≡ trimmed (x ∷ ds)
unfolding trimmed
trim_stop x [] n = refl
trim_stop x (y ∷ ds) n = rw (ne_eqb x 48 n) refl

pub trim_more : (x : ℕ) (ds : List ℕ) → 0 < length ds → x ≡ 48 → trimmed ds ≡ trimmed (x ∷ ds)
unfolding trimmed
trim_more x [] h e = absurd (not-suc-le-zero h)
trim_more x (y ∷ ds) h e = rw (eq-eqb x 48 e) refl

pub trim_length : (ds : List ℕ) → length (trimmed ds) ≤ length ds
unfolding trimmed
trim_length [] = omega arith
trim_length (x ∷ []) = omega arith
trim_length (x ∷ y ∷ ds) = go (eqb x 48) (trim_length (y ∷ ds))
  where
    go : (b : Bool) → length (trimmed (y ∷ ds)) ≤ length (y ∷ ds) → length (cond b (trimmed (y ∷ ds)) (x ∷ y ∷ ds)) ≤ length (x ∷ y ∷ ds)
    go true h = omega arith
    go false h = omega arith

pub decimal_length : (n : ℕ) → length (decimal n) ≤ 10
unfolding decimal
decimal_length n = trim_length (ten_digits n)

-- ---- a list of entries

pub entry_length : (id : ℕ) (s : Float) → length (entry id s) ≤ 20
unfolding entry hexadecimal
entry_length id s = simp length-append (omega (arith, decimal_length id))

pub listing_length : (n : ℕ) (ids : List ℕ) (scores : List Float) → length (listing n ids scores) ≤ n * 20
unfolding listing
listing_length zero ids scores = omega arith
listing_length (suc n) [] scores = omega arith
listing_length (suc n) (i ∷ ids) [] = omega arith
listing_length (suc n) (i ∷ ids) (s ∷ scores) =
    simp length-append (omega (arith, entry_length i s, listing_length n ids scores))

-- one entry more
pub listing_more : (i : ℕ) (ids : List ℕ) (scores : List Float) → i < length ids → i < length scores
    → listing i ids scores ++ entry (get_or ids i 0) (get_or scores i nan) ≡ listing (suc i) ids scores
unfolding listing
listing_more i [] scores h k = absurd (not-suc-le-zero h)
listing_more i (x ∷ ids) [] h k = absurd (not-suc-le-zero k)
listing_more zero (x ∷ ids) (s ∷ scores) h k = sym (append-nil (entry x s))
listing_more (suc i) (x ∷ ids) (s ∷ scores) h k =
    let h' : i < length ids = omega arith in
    let k' : i < length scores = omega arith in
    append_assoc (entry x s) _ _ ∙ ap (λ (r : List ℕ). entry x s ++ r) (listing_more i ids scores h' k')

pub tail_part : (t : List ℕ) (i : ℕ) → take (length t - i) (drop i t) ≡ drop i t
tail_part t i = take_all (length t - i) (drop i t) (simp length-drop (omega arith))

pub stops_at : (t : List ℕ) (i : ℕ) → i < length t → (get_or t i 0 ≡ 48 → ⊥) → drop i t ≡ trimmed (drop i t)
stops_at t i h n = rw (drop-cons t i 0 h) (trim_stop (get_or t i 0) (drop (suc i) t) n)

pub ends_at : (t : List ℕ) (i : ℕ) → length t ≤ i → drop i t ≡ trimmed (drop i t)
unfolding trimmed
ends_at t i h = rw (drop_of_length-le t h) refl

pub put_none : (ids : List ℕ) (scores : List Float) {l : List ℕ} {at : ℕ} → Put l l at at (listing 0 ids scores)
unfolding listing
put_none ids scores {l} {at} = record { next = sym (add-zero at); stored = refl }

-- ---- how long a line is

pub refused_short : (n : ℕ) → length (refused_line n) ≤ 64
unfolding refused_line
refused_short n = simp length-append (omega (arith, decimal_length n))

pub told_short : (t : Told) → length (told t) ≤ 64
unfolding told
told_short (Refused n) = refused_short n
told_short (Geometry d n cap mode) = simp length-append (omega (arith, decimal_length d, decimal_length n, decimal_length cap, decimal_length mode))
told_short (Basis b) = simp length-append (omega (arith, decimal_length b))
told_short (Added id) = simp length-append (omega (arith, decimal_length id))
told_short (Found len checked) = simp length-append (omega (arith, decimal_length len, decimal_length checked))
