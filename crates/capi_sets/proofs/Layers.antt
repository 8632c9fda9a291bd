-- What the crate below answers of layers, as the definitions put it into its place. Assumes nothing.
use Prim.Native.Nat.{ℕ}
use mathlib.Core.Path.{◌≡◌, ◌∙◌}
use mathlib.Core.Bool.{true, false}
use mathlib.Core.List.{List}
use lib.ListN.{length}
use borrow.Author.Tests.{eq-eqb, ne_eqb}
use Rattle.std.proofs.Common.{Result}
use Rattle.paper.specs.Geometry.{set_words}
use Rattle.paper.specs.declared.Refusal.{Refusal}
use Rattle.bitmaps.specs.Words.{size}
use Rattle.counting_bitmap.specs.Layers.{fallen}
use Rattle.counting_bitmap.specs.TopLayer.{top_of}
use Rattle.counting_bitmap.specs.Answers.{layers_ok, layers_fault, merge_fault, MergeIs, top_fault, top_number, ChosenIs}
use Rattle.capi_vectors.specs.Single.{Single, single, put}
use Rattle.capi_vectors.proofs.Singles.{one_length, put_kept, put_done}
use Rattle.capi_sets.specs.Layers.{counted_in, or_into, top_into}

-- ---- the highest layer

module _ (cap n : ℕ) (ls : List ℕ) (k : ℕ) (ys : List ℕ) where
  pub top_shape : layers_ok cap n ≡ false → single 1 ys ≡ top_into cap n ls k ys
  unfolding top_into
  top_shape h = rw h

  pub top_length : layers_ok cap n ≡ true → (length ys ≡ 1 → ⊥) → single 2 ys ≡ top_into cap n ls k ys
  unfolding top_into
  top_length h l = rw h (one_length (top_fault (layers_fault cap n (length ls)) (top_of n (set_words cap) ls k)) (top_number (top_of n (set_words cap) ls k)) ys l)

  pub top_done : (a : Result ℕ Refusal) (s : Single ℕ) → layers_ok cap n ≡ true → length ys ≡ 1 → ChosenIs (layers_fault cap n (length ls)) (top_of n (set_words cap) ls k) a → s ≡ put a ys
      → s ≡ top_into cap n ls k ys
  unfolding top_into
  top_done a s h l q e =
      let t = top_of n (set_words cap) ls k in
      rw h (put_done (top_fault (layers_fault cap n (length ls)) t) (top_number t) ys 0 a s l q e)

-- ---- merging into layers

module _ (cap n : ℕ) (ls s ds : List ℕ) where
  pub or_shape : layers_ok cap n ≡ false → counted_in 1 ls s ds ≡ or_into cap n ls s ds
  unfolding or_into
  or_shape h = rw h

  pub or_length : layers_ok cap n ≡ true → (length ds ≡ 1 → ⊥) → counted_in 2 ls s ds ≡ or_into cap n ls s ds
  unfolding or_into
  or_length h l = rw (h, ne_eqb (length ds) 1 l)

  pub or_done : (a : Result ℕ Refusal) (ls' s' : List ℕ) (o : Single ℕ) → layers_ok cap n ≡ true → length ds ≡ 1
      → MergeIs (merge_fault cap n (length ls) (length s)) n (set_words cap) ls s a ls' s' → o ≡ put a ds
      → counted_in o.answer ls' s' o.out ≡ or_into cap n ls s ds
  unfolding or_into
  or_done a ls' s' o h l q e =
      let f = merge_fault cap n (length ls) (length s) in
      let x = size (fallen n (set_words cap) ls s) in
      let p = e ∙ put_kept f x ds 0 a (record { refusal = q.refusal; value = q.dropped }) in
      rw (h, eq-eqb (length ds) 1 l) (λ i. counted_in (p i).answer (q.layers i) (q.left i) (p i).out)
