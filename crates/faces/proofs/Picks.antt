-- What the code finds at the best index, and the loop of picks. Assumes nothing.
use mathlib.Core.Path.{◌≡◌, sym, ◌∙◌, ap}
use mathlib.Core.List.{List, ◌++◌, append_assoc, append-nil}
use Prim.Native.Nat.{ℕ, suc, ◌+◌, ◌-◌, ◌<◌, ◌≤◌}
use native.Mathlib.Numerals.{add-one}
use native.Mathlib.Omega.{arith}
use lib.IntN.{ℤ}
use lib.ListN.{length, get_or, set, take, drop, take-append-drop}
use lib.Seq.{take-suc-set, drop-set-lt, drop-drop}
use lib.Ieee.{Float, nan}
use Rattle.vector.specs.Fold.{zero32}
use Rattle.faces.specs.Best.{positive, best_of}
use Rattle.faces.specs.Slots.{face_for, slot_for, face_of, slot_of, picked_of, faces_of, after_of}
use Rattle.faces.proofs.Slots.{slot_is}

-- at the best index: the face, the slot, and what a pick leaves
module _ (w : List Float) (b : ℕ) (B : b ≡ best_of w) where
  pub face_at : (f : ℤ) → f ≡ face_for (positive (get_or w b nan)) b → f ≡ face_of w
  unfolding face_of
  face_at f e = rw B at e

  pub slot_at : (s : ℕ) → s ≡ slot_for (length w) (positive (get_or w b nan)) b → s ≡ slot_of w
  slot_at s e = rw B at e ∙ sym (slot_is w)

  pub picked_at : set w b zero32 ≡ picked_of w
  unfolding picked_of
  picked_at = rw B

left_suc : (d k : ℕ) → k < d → d - k ≡ suc (d - (k + 1))
left_suc d k h = omega arith

left_none : (d k : ℕ) → d ≤ k → d - k ≡ 0
left_none d k h = omega arith

-- one pick more, of n: from w to v
module _ (n k : ℕ) (h : k < n) (w v : List Float) (P : v ≡ picked_of w) where
  pub after_step : after_of (n - (k + 1)) v ≡ after_of (n - k) w
  unfolding after_of
  after_step = rw (left_suc n k h, P)

  pub faces_step : (out : List ℤ) (f : ℤ) → k < length out → f ≡ face_of w → take (k + 1) (set out k f) ++ faces_of (n - (k + 1)) v ≡ take k out ++ faces_of (n - k) w
  unfolding faces_of
  faces_step out f l e =
      ap (λ (z : ℕ). take z (set out k f) ++ faces_of (n - (k + 1)) v) (add-one k)
      ∙ rw (take-suc-set out k f l, append_assoc, left_suc n k h, e, P)

module _ (n k : ℕ) (h : n ≤ k) (w : List Float) where
  pub after_end : after_of (n - k) w ≡ w
  unfolding after_of
  after_end = rw (left_none n k h)

  pub faces_end : (out : List ℤ) → take k out ++ faces_of (n - k) w ≡ take k out
  unfolding faces_of
  faces_end out = rw (left_none n k h) (append-nil (take k out))

-- the places after the k-th are as they were
pub rest_step : (k : ℕ) (out out₀ : List ℤ) (f : ℤ) → drop k out ≡ drop k out₀ → drop (k + 1) (set out k f) ≡ drop (k + 1) out₀
rest_step k out out₀ f e =
    drop-set-lt (k + 1) out k f (omega arith) ∙ sym (drop-drop 1 k out) ∙ ap (λ (l : List ℤ). drop 1 l) e ∙ drop-drop 1 k out₀

-- all n are written
pub written : (n k : ℕ) (out out₀ fs : List ℤ) → k ≡ n → take k out ≡ fs → drop k out ≡ drop k out₀ → out ≡ fs ++ drop n out₀
written n k out out₀ fs e p q =
    sym (take-append-drop k out) ∙ ap (λ (l : List ℤ). l ++ drop k out) p ∙ ap (◌++◌ fs) (q ∙ ap (λ (m : ℕ). drop m out₀) e)
