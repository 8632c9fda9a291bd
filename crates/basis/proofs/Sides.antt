-- Several vectors of a basis side by side. Assumes nothing.
use mathlib.Core.Path.{◌≡◌, refl, sym, ◌∙◌, ap, subst}
use mathlib.Core.List.{List, ◌++◌, append_assoc, append-nil}
use Prim.Native.Nat.{ℕ, suc, ◌+◌, ◌-◌, ◌*◌, ◌<◌, ◌≤◌}
use native.Mathlib.Nat.{suc-mul, add-mul, mul-le-mul_right, zero-mul, sub-zero}
use native.Mathlib.Numerals.{add-one}
use native.Mathlib.Omega.{arith}
use lib.ListN.{length, get_or, set, take, drop, length-set}
use lib.Seq.{take-suc-set, take_all}
use lib.Ieee.{Float, nan}
use Rattle.vector.specs.Fold.{dot_step, dot_of, zero32}
use Rattle.vector.proofs.Vectors.{fold2_walk, fold2_done, fold2_take}
use Rattle.basis.specs.declared.inner.Four.{Four}
use Rattle.basis.specs.Project.{dots_from, projected, rows_from}
use Rattle.basis.specs.Four.{four, column_of, fold_four, dot_four, set_four}

-- ---- four sums

-- the only place that looks into the dot product: four of them are four folds from +0.0
pub four_start : (t bs : List Float) (at : ℕ) → fold_four (four zero32 zero32 zero32 zero32) t bs at (length t) ≡ dot_four t bs at
unfolding fold_four dot_four dot_of
four_start t bs at = simp fold2_take

module _ (v bs : List Float) (at d : ℕ) where
  -- a column
  four_step : (t : Four) (i : ℕ) → i < length v → at + i + d + d + d < length bs → fold_four t (drop i v) bs (at + i) d ≡ fold_four (column_of t (get_or v i nan) bs (at + i) d) (drop (i + 1) v) bs (at + (i + 1)) d
  unfolding fold_four
  four_step t i h l =
      let p0 : at + (i + 1) ≡ at + i + 1 = omega arith in
      let p1 : at + i + 1 + d ≡ at + i + d + 1 = omega arith in
      let p2 : at + i + d + 1 + d ≡ at + i + d + d + 1 = omega arith in
      let p3 : at + i + d + d + 1 + d ≡ at + i + d + d + d + 1 = omega arith in
      rw (
        p0,
        p1,
        p2,
        p3,
        fold2_walk dot_step t.a v bs i (at + i) h (omega arith),
        fold2_walk dot_step t.b v bs i (at + i + d) h (omega arith),
        fold2_walk dot_step t.c v bs i (at + i + d + d) h (omega arith),
        fold2_walk dot_step t.e v bs i (at + i + d + d + d) h l,
      )

  pub four_end : (t : Four) (i k : ℕ) → length v ≤ i → fold_four t (drop i v) bs k d ≡ t
  unfolding fold_four
  four_end t i k h = rw (fold2_done dot_step t.a v _ i h, fold2_done dot_step t.b v _ i h, fold2_done dot_step t.c v _ i h, fold2_done dot_step t.e v _ i h)

  pub four_next : (t r : Four) (i j : ℕ) → j ≡ i + 1 → i < length v → at + i + d + d + d < length bs → r ≡ column_of t (get_or v i nan) bs (at + i) d → fold_four t (drop i v) bs (at + i) d ≡ fold_four r (drop j v) bs (at + j) d
  four_next t r i j p h l e = rw (e, p) (four_step t i h l)

-- ---- the projection's list: what is written, and the entries that are left

left_suc : (d k : ℕ) → k < d → d - k ≡ suc (d - (k + 1))
left_suc d k h = omega arith

left_none : (d k : ℕ) → d ≤ k → d - k ≡ 0
left_none d k h = omega arith

next_row : (r d : ℕ) → r * d + d ≡ (r + 1) * d
next_row r d = sym (suc-mul r d) ∙ ap (λ (z : ℕ). z * d) (sym (add-one r))

-- n vectors from vector r on are within the basis
pub rows_within : (d r n : ℕ) → r + n ≤ d → r * d + n * d ≤ d * d
rows_within d r n h = subst (λ (z : ℕ). z ≤ d * d) (add-mul r n d) (mul-le-mul_right d h)

module _ (bs v : List Float) where
  -- what stands before entry r of a list, and the projection's entries from r on
  abbrev pub Done : List Float → ℕ → List Float
  Done work r = take r work ++ rows_from bs v r

  pub project_start : (work : List Float) → Done work 0 ≡ projected bs v
  unfolding projected
  project_start work = simp (zero-mul, sub-zero)

  pub project_step : (work : List Float) (r : ℕ) (x : Float) → r < length v → r < length work → x ≡ dot_of v (take (length v) (drop (r * length v) bs)) → Done (set work r x) (r + 1) ≡ Done work r
  unfolding dots_from
  project_step work r x h l e =
      ap (λ (z : ℕ). take z (set work r x) ++ rows_from bs v (r + 1)) (add-one r)
      ∙ rw (take-suc-set work r x l, append_assoc, left_suc (length v) r h, ← next_row, e)

  -- a step to j, from a place told otherwise
  onward : (work : List Float) (r j at : ℕ) (x : Float) → j ≡ r + 1 → at ≡ r * length v → r < length v → r < length work → x ≡ dot_of v (take (length v) (drop at bs)) → Done (set work r x) j ≡ Done work r
  onward work r j at x p q h l e = rw p (project_step work r x h l (rw q at e))

  pub project_four : (work : List Float) (r : ℕ) (q : Four) → r + 4 ≤ length v → r + 4 ≤ length work → q ≡ dot_four v bs (r * length v) → Done (set_four work r q) (r + 4) ≡ Done work r
  unfolding dot_four
  project_four work r q h l e =
      let d = length v in
      let w1 = set work r q.a in
      let w2 = set w1 (r + 1) q.b in
      let w3 = set w2 (r + 2) q.c in
      let l1 : length w1 ≡ length work = simp length-set in
      let l2 : length w2 ≡ length work = simp length-set in
      let l3 : length w3 ≡ length work = simp length-set in
      let e1 : r * d + d ≡ (r + 1) * d = next_row r d in
      let e2 : (r + 1) * d + d ≡ (r + 1 + 1) * d = next_row (r + 1) d in
      let e3 : (r + 1 + 1) * d + d ≡ (r + 1 + 1 + 1) * d = next_row (r + 1 + 1) d in
      onward w3 (r + 3) (r + 4) (r * d + d + d + d) q.e (omega arith) (omega arith) (omega arith) (omega arith) (ap (λ (z : Four). z.e) e)
      ∙ (onward w2 (r + 2) (r + 3) (r * d + d + d) q.c (omega arith) (omega arith) (omega arith) (omega arith) (ap (λ (z : Four). z.c) e)
      ∙ (onward w1 (r + 1) (r + 2) (r * d + d) q.b (omega arith) (omega arith) (omega arith) (omega arith) (ap (λ (z : Four). z.b) e)
      ∙ onward work r (r + 1) (r * d) q.a refl refl (omega arith) (omega arith) (ap (λ (z : Four). z.a) e)))

  pub project_eight : (work w1 w2 : List Float) (r : ℕ) (lo hi : Four) → r + 8 ≤ length v → r + 8 ≤ length work → length w1 ≡ length work → lo ≡ dot_four v bs (r * length v) → hi ≡ dot_four v bs (r * length v + 4 * length v) → w1 ≡ set_four work r lo → w2 ≡ set_four w1 (r + 4) hi → Done w2 (r + 8) ≡ Done work r
  project_eight work w1 w2 r lo hi h l k el eh p q =
      let e8 : r + 8 ≡ r + 4 + 4 = omega arith in
      let one : Done w1 (r + 4) ≡ Done work r = rw p (project_four work r lo (omega arith) (omega arith) el) in
      rw (e8, q) (project_four w1 (r + 4) hi (omega arith) (omega arith) (rw add-mul eh) ∙ one)

  pub project_end : (work : List Float) (r : ℕ) → length v ≤ r → length work ≡ length v → Done work r ≡ work
  unfolding dots_from
  project_end work r h l = rw (left_none (length v) r h, append-nil) (take_all r work (omega arith))
