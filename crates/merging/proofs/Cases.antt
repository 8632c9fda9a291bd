-- The ways out of merging, on plain values. Assumes nothing.
use Prim.Native.Nat.{ℕ, ◌*◌}
use mathlib.Core.Path.{◌≡◌, sym, ap₂, ◌∙◌}
use mathlib.Core.List.{List}
use mathlib.Core.Bool.{true, false}
use native.Mathlib.Omega.{arith}
use native.Mathlib.Nat.{mul-le-mul}
use lib.ListN.{length}
use borrow.Author.Tests.{ne_eqb}
use Rattle.paper.specs.Refusals.{number_of}
use Rattle.paper.specs.declared.Refusal.{Refusal}
use Rattle.paper.proofs.Answering.{number_low}
use Rattle.paper.specs.Geometry.{Geo, geo_ok, comp_size}
use Rattle.paper.proofs.GeometryFacts.{comp_le}
use Rattle.index_memory.specs.Memory.{Ix, ix_of, own_ok_ix, own_refusal, done, Sized}
use Rattle.index_memory.proofs.Lengths.{own_tests, own_first, own_sized}
use Rattle.bitmaps.specs.Words.{union, shared, is_empty}
use Rattle.merging.specs.Merging.{copied, merged_ix, merge_refusal, merge_of, CopyArgs}

abbrev own : Geo → Ix → ℕ
own g ix = own_refusal g.d g.n g.cap g.mode (length ix.faces) (length ix.marks) (length ix.vecs)

module _ (g : Geo) (a b : Ix) where
  pub merge_first : (r : Refusal) → number_of r ≡ own g a → done (number_of r) a ≡ merge_of g a b
  unfolding merge_of merge_refusal
  merge_first r e =
      let low = number_low r in
      let some : number_of r ≡ 0 → ⊥ = λ z. omega arith in
      let t : number_of r ≡ merge_refusal g a b = e ∙ own_first g.d g.n g.cap g.mode _ _ _ _ _ (λ z. some (e ∙ z)) in
      rw (← t, ne_eqb (number_of r) 0 some)

  module _ (z : 0 ≡ own g a) where
    good : (geo_ok g.d g.n g.cap g.mode ≡ true) × (own_ok_ix g a ≡ true)
    good = own_tests g.d g.n g.cap g.mode _ _ _ (sym z)

    pub merge_second : own_ok_ix g b ≡ false → done 2 a ≡ merge_of g a b
    unfolding merge_of merge_refusal
    merge_second o = rw (good.0, good.1, o)

    module _ (o : own_ok_ix g b ≡ true) where
      -- both indexes have the lengths of the geometry
      pub first_sized : Sized g.d g.n g.cap g.mode (length a.faces) (length a.marks) (length a.vecs)
      first_sized = own_sized g.d g.n g.cap g.mode _ _ _ good.0 good.1

      pub second_sized : Sized g.d g.n g.cap g.mode (length b.faces) (length b.marks) (length b.vecs)
      second_sized = own_sized g.d g.n g.cap g.mode _ _ _ good.0 o

      words : length b.marks * 64 ≡ g.cap
      words = omega (arith, second_sized.marks, second_sized.facts.cap_even)

      pub copy_args : (k : ℕ) → k ≡ comp_size g.mode → CopyArgs (k * g.d) (length a.vecs) (length b.vecs) (length b.marks)
      copy_args k e =
          record {
            size_high = rw e (omega (arith, mul-le-mul (comp_le g.mode) first_sized.facts.d_high));
            marks_high = omega (arith, second_sized.marks, second_sized.facts.cap_high);
            vectors = first_sized.vecs ∙ ap₂ (λ (x y : ℕ). x * (y * g.d)) (sym words) (sym e);
            from = second_sized.vecs ∙ ap₂ (λ (x y : ℕ). x * (y * g.d)) (sym words) (sym e);
          }

      pub merge_shared : is_empty (shared a.marks b.marks) ≡ false → done 11 a ≡ merge_of g a b
      unfolding merge_of merge_refusal
      merge_shared s = rw (good.0, good.1, o, s)

      pub merge_done : (f m v : List ℕ) (k : ℕ) → is_empty (shared a.marks b.marks) ≡ true
          → f ≡ union a.faces b.faces → m ≡ union a.marks b.marks → k ≡ comp_size g.mode
          → v ≡ copied (k * g.d) (length b.marks * 64) b.marks b.vecs a.vecs → done 0 (ix_of f m v) ≡ merge_of g a b
      unfolding merge_of merge_refusal merged_ix
      merge_done f m v k s p q e t = rw (good.0, good.1, o, s, p, q, t, e, words)
