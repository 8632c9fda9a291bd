-- One basis, and one turn of the loop over the bases, on plain values. Assumes nothing.
use Prim.Native.Nat.{ℕ, suc, ◌+◌, ◌-◌, ◌*◌, ◌<◌, ◌≤◌}
use native.Mathlib.Omega.{arith}
use native.Mathlib.Numerals.{add-one}
use mathlib.Core.Path.{◌≡◌, refl, ap, ◌∙◌}
use mathlib.Core.Bool.{Bool, true, false}
use mathlib.Core.List.{List, ◌∷◌}
use Rattle.std.proofs.Common.{Ok, Err}
use lib.Ieee.{Float}
use lib.ListN.{length, take, drop, length-replicate}
use Rattle.paper.specs.Choice.{refuse}
use Rattle.paper.specs.Refusals.{number_of}
use Rattle.paper.specs.declared.Refusal.{Refusal}
use Rattle.paper.proofs.Answering.{number_low}
use Rattle.index_memory.proofs.Places.{part_is}
use Rattle.bitmaps.specs.Words.{size}
use Rattle.bitmaps.proofs.Size.{size_le}
use Rattle.bitmaps.proofs.Digits.{Words}
use Rattle.counting_bitmap.specs.Layers.{empty, merged, fallen, merged_all, dropped_all}
use Rattle.vector.specs.Finite.{all_finite}
use Rattle.basis.specs.Project.{projected}
use Rattle.basis.specs.Bases.{basis_at, projection_at}
use Rattle.faces.specs.Slots.{slots}
use Rattle.candidates.specs.Gathering.{joined, union_of, faces_at, Query, target_on, target_finite, union_at, unions_from, layers_of, dropped_of, Gathered, gathered, BasisIs, GatherIs}

-- whether 7 was answered
pub was_finite : (b : Bool) (r : ℕ) → r ≡ refuse 7 b 0 → r ≡ 0 → b ≡ true
was_finite true r e z = refl
was_finite false r e z = absurd (omega arith)

pub was_not : (b : Bool) (r : Refusal) → number_of r ≡ refuse 7 b 0 → (b ≡ false) × (number_of r ≡ 7)
was_not true r e = let low = number_low r in absurd (omega arith)
was_not false r e = (refl, e)

-- ---- the two ways out of one basis

pub union_is : (picks w : ℕ) (fs : List ℕ) (p p' : List Float) (s u : List ℕ) → s ≡ empty w → p' ≡ p → u ≡ joined (length s) fs s (slots picks p') → u ≡ union_of picks w fs p
unfolding union_of
union_is picks w fs p p' s u es ep eu = rw (eu, ep, es, length-replicate)

-- at most all ids fall off
pub few_of : (d : ℕ) (s : List ℕ) → Words s → length s ≤ 1024 → d ≡ size s → d ≤ 65536
few_of d s w l e = omega (arith, size_le s w)

module _ (n w picks : ℕ) (bs : List Float) (fs : List ℕ) (t : List Float) (ls ls' : List ℕ) where
  pub basis_good : (dr : ℕ) (u : List ℕ) → all_finite (projected bs t) ≡ true → dr ≤ 65536 → u ≡ union_of picks w fs (projected bs t)
      → ls' ≡ merged n w ls u → dr ≡ size (fallen n w ls u) → BasisIs n w picks bs fs t ls (gathered (Ok dr)) ls'
  basis_good dr u e f eu el ed =
      record { answer = rw e; few = f; layers = λ z. el ∙ ap (merged n w ls) eu; dropped = λ z. ed ∙ ap (λ (x : List ℕ). size (fallen n w ls x)) eu }

-- ---- the answer for basis b, in the definitions' terms

module _ (q : Query) (n b p f w : ℕ) (ls ls' : List ℕ) (r : Gathered)
    (ep : p ≡ b * (length q.target * length q.target)) (ef : f ≡ b * (2 * length q.target * q.w)) (ew : w ≡ q.w)
    (o : BasisIs n w q.picks (take (p + length q.target * length q.target - p) (drop p q.bases)) (take (f + 2 * length q.target * q.w - f) (drop f q.faces)) q.target ls r ls') where
  one : BasisIs n q.w q.picks (basis_at q.bases (length q.target) b) (faces_at q.faces (length q.target) q.w b) q.target ls r ls'
  one = rw (part_is b (length q.target * length q.target) p q.bases ep, part_is b (2 * length q.target * q.w) f q.faces ef, ew) at o

  pub one_answer : r.refusal ≡ refuse 7 (all_finite (target_on q b)) 0
  unfolding projection_at
  one_answer = one.answer

  pub one_layers : r.refusal ≡ 0 → ls' ≡ merged n q.w ls (union_at q b)
  unfolding projection_at union_at
  one_layers z = one.layers z

  pub one_dropped : r.refusal ≡ 0 → r.dropped ≡ size (fallen n q.w ls (union_at q b))
  unfolding projection_at union_at
  one_dropped z = one.dropped z

-- ---- what is left

module _ (q : Query) (n b : ℕ) (h : b < n) where
  more : n - b ≡ suc (n - (b + 1))
  more = omega arith

  unions_more : unions_from q (n - b) b ≡ union_at q b ∷ unions_from q (n - (b + 1)) (b + 1)
  unfolding unions_from
  unions_more = rw (more, add-one)

  pub merged_more : (ls ls' : List ℕ) → ls' ≡ merged n q.w ls (union_at q b) → merged_all n q.w ls' (unions_from q (n - (b + 1)) (b + 1)) ≡ merged_all n q.w ls (unions_from q (n - b) b)
  unfolding merged_all
  merged_more ls ls' e = rw (unions_more, e)

  pub dropped_more : (ls ls' : List ℕ) → ls' ≡ merged n q.w ls (union_at q b) → dropped_all n q.w ls (unions_from q (n - b) b) ≡ size (fallen n q.w ls (union_at q b)) + dropped_all n q.w ls' (unions_from q (n - (b + 1)) (b + 1))
  unfolding dropped_all
  dropped_more ls ls' e = rw (unions_more, e)

module _ (q : Query) (n : ℕ) where
  -- a refusal that one of the bases told
  pub gather_stopped : (r : Refusal) (ls : List ℕ) → target_finite q n ≡ false → number_of r ≡ 7 → GatherIs n q (gathered (Err r)) ls
  gather_stopped r ls e h =
      record { answer = rw e h; layers = λ z. absurd (omega arith); dropped = λ z. absurd (omega arith) }

  pub gather_ended : (b : ℕ) (ls : List ℕ) (total : ℕ) → n ≤ b → b ≤ n
      → target_finite q b ≡ true
      → merged_all n q.w ls (unions_from q (n - b) b) ≡ layers_of n q
      → total + dropped_all n q.w ls (unions_from q (n - b) b) ≡ dropped_of n q
      → GatherIs n q (gathered (Ok total)) ls
  unfolding unions_from merged_all dropped_all
  gather_ended b ls total h l i m d =
      let z : n - b ≡ 0 = omega arith in
      let e : n ≡ b = omega arith in
      let yes : target_finite q n ≡ true = ap (target_finite q) e ∙ i in
      let m' : ls ≡ layers_of n q = rw z at m in
      let d' : total + 0 ≡ dropped_of n q = rw z at d in
      record { answer = rw yes; layers = λ x. m'; dropped = λ x. omega (arith, d') }
