-- The list of a set's ids, rising: what the walk gives of it, and its length. Assumes nothing.
use Prim.Native.Nat.{ℕ, zero, suc, ◌+◌, ◌-◌, ◌*◌, ◌<◌, ◌≤◌}
use native.Mathlib.Numerals.{add-one}
use native.Mathlib.Omega.{arith}
use mathlib.Core.Path.{◌≡◌, refl, ap, ap₂, sym, ◌∙◌}
use mathlib.Core.Logic.{⊎_elim}
use mathlib.Core.List.{List, [], ◌∷◌}
use lib.Dec.{eqb}
use lib.ListN.{length}
use borrow.Author.Tests.{eq-eqb, ne_eqb}
use mathlib.Core.Bool.{Bool, true, false}
use Rattle.std.specs.Prelude.{Option, Some, None}
use Rattle.paper.specs.Choice.{pick}
use Rattle.bitmaps.specs.Words.{has, size, sum_to}
use Rattle.bitmaps.specs.Walk.{NextIs, keep, ids_in, ids_from, ids_of, first_of, listed, RisesFrom}
use Rattle.bitmaps.proofs.Digits.{Words, digit_lt}
use Rattle.bitmaps.proofs.Rising.{le_or_lt, past_end}
use Rattle.bitmaps.proofs.Size.{sum_ext, size_has}

pub ids_none : (m from : ℕ) (s : List ℕ) → ((j : ℕ) → from ≤ j → has s j ≡ 0) → ids_in m from s ≡ []
unfolding ids_in
ids_none zero from s h = refl
ids_none (suc m) from s h = rw (h from (omega arith)) (ids_none m (suc from) s (λ j l. h j (omega arith)))

-- the least id i from `from` on comes first, and those after it follow
pub ids_next : (m from i : ℕ) (s : List ℕ) → from ≤ i → i < from + m → has s i ≡ 1 → ((j : ℕ) → from ≤ j → j < i → has s j ≡ 0)
    → ids_in m from s ≡ i ∷ ids_in (from + m - (i + 1)) (i + 1) s
unfolding ids_in
ids_next zero from i s a b h k = absurd (omega arith)
ids_next (suc m) from i s a b h k =
    ⊎_elim here (λ (l : from < i). later l (ids_next m (suc from) i s l (omega arith) h (λ j x y. k j (omega arith) y))) (le_or_lt i from)
  where
    here : i ≤ from → ids_in (suc m) from s ≡ i ∷ ids_in (from + suc m - (i + 1)) (i + 1) s
    here l =
        let e : from ≡ i = omega arith in
        let f : i + suc m - (i + 1) ≡ m = omega arith in
        rw (e, h, f, add-one)

    later : from < i → ids_in m (suc from) s ≡ i ∷ ids_in (suc from + m - (i + 1)) (i + 1) s → ids_in (suc m) from s ≡ i ∷ ids_in (from + suc m - (i + 1)) (i + 1) s
    later l ih =
        let e : from + suc m - (i + 1) ≡ suc from + m - (i + 1) = omega arith in
        rw (e, k from (omega arith) l) ih

-- as many as there are
pub ids_length : (m from : ℕ) (s : List ℕ) → length (ids_in m from s) ≡ sum_to m (λ j. has s (from + j))
unfolding ids_in sum_to
ids_length zero from s = refl
ids_length (suc m) from s =
    kept (has s from) (digit_lt _ _)
    ∙ ap₂ (λ (x y : ℕ). x + y) (ap (has s) zeroed) (ids_length m (suc from) s ∙ sum_ext m (λ j. has s (suc from + j)) (λ j. has s (from + suc j)) (λ j l. let e : suc from + j ≡ from + suc j = omega arith in rw e))
  where
    zeroed : from ≡ from + 0
    zeroed = omega arith

    kept : (d : ℕ) → d < 2 → length (keep d from (ids_in m (suc from) s)) ≡ d + length (ids_in m (suc from) s)
    kept zero h = omega arith
    kept (suc zero) h = omega arith
    kept (suc (suc d)) h = absurd (omega arith)

pub ids_size : (s : List ℕ) → Words s → length (ids_of s) ≡ size s
ids_size s w =
    ids_length (length s * 64) 0 s
    ∙ sum_ext (length s * 64) (λ j. has s (0 + j)) (has s) (λ j l. let e : 0 + j ≡ j = omega arith in rw e)
    ∙ sym (size_has s w)

-- ---- the list has each id once, and nothing else; and it rises

-- what `keep` adds to a count
listed_keep : (i from d : ℕ) (l : List ℕ) → d < 2 → listed i (keep d from l) ≡ pick (eqb i from) d 0 + listed i l
unfolding listed
listed_keep i from zero l h = omega (arith, neither (eqb i from))
  where
    neither : (b : Bool) → pick {A = ℕ} b 0 0 ≡ 0
    neither true = refl
    neither false = refl
listed_keep i from (suc zero) l h = refl
listed_keep i from (suc (suc d)) l h = absurd (omega arith)

ids_below : (m from i : ℕ) (s : List ℕ) → i < from → listed i (ids_in m from s) ≡ 0
unfolding ids_in listed
ids_below zero from i s h = refl
ids_below (suc m) from i s h =
    listed_keep i from (has s from) (ids_in m (suc from) s) (digit_lt _ _)
    ∙ rw (ne_eqb i from (omega arith), ids_below m (suc from) i s (omega arith))

ids_within : (m from i : ℕ) (s : List ℕ) → from ≤ i → i < from + m → listed i (ids_in m from s) ≡ has s i
unfolding ids_in
ids_within zero from i s a b = absurd (omega arith)
ids_within (suc m) from i s a b =
    listed_keep i from (has s from) (ids_in m (suc from) s) (digit_lt _ _)
    ∙ ⊎_elim here (λ (l : from < i). later l (ids_within m (suc from) i s l (omega arith))) (le_or_lt i from)
  where
    here : i ≤ from → pick (eqb i from) (has s from) 0 + listed i (ids_in m (suc from) s) ≡ has s i
    here l =
        let e : i ≡ from = omega arith in
        rw (eq-eqb i from e, ids_below m (suc from) i s (omega arith), e) (omega arith)

    later : from < i → listed i (ids_in m (suc from) s) ≡ has s i → pick (eqb i from) (has s from) 0 + listed i (ids_in m (suc from) s) ≡ has s i
    later l ih = rw (ne_eqb i from (omega arith), ih) (omega arith)

ids_past : (m from i : ℕ) (s : List ℕ) → from + m ≤ i → listed i (ids_in m from s) ≡ 0
unfolding ids_in listed
ids_past zero from i s h = refl
ids_past (suc m) from i s h =
    listed_keep i from (has s from) (ids_in m (suc from) s) (digit_lt _ _)
    ∙ rw (ne_eqb i from (omega arith), ids_past m (suc from) i s (omega arith))

-- an id of the set stands once in the list, any other number never
pub ids_once : (s : List ℕ) (i : ℕ) → listed i (ids_of s) ≡ has s i
ids_once s i =
    ⊎_elim
    (λ (l : length s * 64 ≤ i). ids_past (length s * 64) 0 i s (omega arith) ∙ sym (past_end s i l))
    (λ (l : i < length s * 64). ids_within (length s * 64) 0 i s (omega arith) (omega arith))
    (le_or_lt (length s * 64) i)

pub ids_rise : (m from low : ℕ) (s : List ℕ) → low ≤ from → RisesFrom low (ids_in m from s)
unfolding ids_in RisesFrom
ids_rise zero from low s h = tt
ids_rise (suc m) from low s h = kept (has s from) (ids_rise m (suc from) low s (omega arith)) (ids_rise m (suc from) (suc from) s (omega arith))
  where
    kept : (d : ℕ) → RisesFrom low (ids_in m (suc from) s) → RisesFrom (suc from) (ids_in m (suc from) s) → RisesFrom low (keep d from (ids_in m (suc from) s))
    kept zero a b = a
    kept (suc d) a b = (h, b)

pub ids_rising : (s : List ℕ) → RisesFrom 0 (ids_of s)
ids_rising s = ids_rise (length s * 64) 0 0 s (omega arith)

-- ---- the walk by `next` goes through the list: the id found comes first, and the rest is what follows from one past it

pub walk_on : (s : List ℕ) (from i : ℕ) → NextIs s from (Some i) → ids_from s from ≡ i ∷ ids_from s (i + 1)
walk_on s from i p =
    let e : from + (length s * 64 - from) - (i + 1) ≡ length s * 64 - (i + 1) = omega arith in
    ids_next (length s * 64 - from) from i s p.0 (omega arith) p.2 p.3 ∙ rw e

pub walk_end : (s : List ℕ) (from : ℕ) → NextIs s from None → ids_from s from ≡ []
walk_end s from p = ids_none (length s * 64 - from) from s p

pub walk_start : (s : List ℕ) → ids_from s 0 ≡ ids_of s
walk_start s = let e : length s * 64 - 0 ≡ length s * 64 = omega arith in rw e

-- the answer of `next` is the first of the ids at or after the place
pub next_first : (s : List ℕ) (from : ℕ) (r : Option ℕ) → NextIs s from r → r ≡ first_of (ids_from s from)
next_first s from (Some i) p = sym (ap first_of (walk_on s from i p))
next_first s from None p = sym (ap first_of (walk_end s from p))
