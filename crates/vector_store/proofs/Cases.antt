-- The cases of a search, as the calls meet them. Assumes nothing.
use Prim.Native.Nat.{ℕ, ◌+◌, ◌-◌, ◌*◌, ◌≤◌}
use native.Mathlib.Omega.{arith}
use mathlib.Core.Path.{◌≡◌, refl, ap, ◌∙◌}
use mathlib.Core.Bool.{true}
use mathlib.Core.List.{List}
use lib.Dec.{eqb}
use lib.Ieee.{Float}
use lib.ListN.{length, take, drop}
use borrow.Author.Tests.{ne_eqb, eqb-true}
use Rattle.std.proofs.Common.{Some, None, Ok, Err}
use Rattle.paper.specs.Geometry.{Geo, GeoFacts, set_words, face_words}
use Rattle.paper.specs.Refusals.{number_of}
use Rattle.paper.specs.declared.Refusal.{Refusal}
use Rattle.paper.proofs.Answering.{number_low}
use Rattle.paper.proofs.Choice.{and_l, and_r}
use Rattle.index_memory.specs.Memory.{Ix, own_ok, bases_ok}
use Rattle.index_memory.proofs.Lengths.{store_sized, bases_long}
use Rattle.index_memory.proofs.Places.{part_end, part_is}
use Rattle.counting_bitmap.specs.Layers.{layer}
use Rattle.counting_bitmap.specs.TopLayer.{top_of}
use Rattle.counting_bitmap.proofs.Highest.{top_layer_is}
use Rattle.result.specs.Sets.{Fed, answer, empty_set}
use Rattle.result.specs.declared.ResultSet.{ResultSet}
use Rattle.backend_memory.specs.Ranking.{rank_of}
use Rattle.candidates.specs.Gathering.{Query, target_finite, GatherIs, gathered}
use Rattle.candidates.proofs.Bases.{was_finite, was_not}
use Rattle.vector_store.specs.Search.{Nearest, refused, shown, top_rank_of, found_of, work_ok, FindArgs, Work, searched, cleared, searched_by, search_refusal, search_of}

-- ---- lengths

-- what the tests of a search give
pub find_args : (g : Geo) (k lb lf lm lv lt lw ll ls : ℕ) → GeoFacts g.d g.n g.cap g.mode → own_ok g.d g.n g.cap g.mode lf lm lv ≡ true → bases_ok g.d g.n lb ≡ true → work_ok g.d g.n g.cap lt lw ll ls ≡ true → k ≤ 256
    → FindArgs g k lb lf lm lv lt lw ll ls
unfolding own_ok work_ok
find_args g k lb lf lm lv lt lw ll ls f o b e h =
    let s = store_sized g.d g.cap g.mode lm lv (and_r (eqb lf (face_words g.d g.n g.cap)) _ o) in
    let e1 = and_r (eqb lt g.d) _ e in
    let e2 = and_r (eqb lw g.d) _ e1 in
    record {
      facts = f;
      k_high = h;
      bases = bases_long g.d g.n lb b;
      faces = eqb-true _ _ (and_l (eqb lf (face_words g.d g.n g.cap)) _ o);
      marks = s.marks;
      vectors = s.vecs;
      target = eqb-true _ _ (and_l (eqb lt g.d) _ e);
      work = eqb-true _ _ (and_l (eqb lw g.d) _ e1);
      layers = eqb-true _ _ (and_l (eqb ll (g.n * set_words g.cap)) _ e2);
      set = eqb-true _ _ (and_r (eqb ll (g.n * set_words g.cap)) _ e2);
    }

-- where the chosen layer stands among the layers
pub layer_end : (n w sk i : ℕ) (ls : List ℕ) → top_of n w ls sk ≡ Some i → length ls ≡ n * w → i * w + w ≤ length ls
layer_end n w sk i ls e l = part_end i n w (i * w) ls (top_layer_is n w ls sk i e).below refl l

-- ---- answers

-- a ranking that is refused, with the dropped total beside it
shown_refused : (r : Refusal) (dr : ℕ) → refused (number_of r) ≡ shown dr (answer (number_of r) (empty_set 0))
shown_refused r dr =
    let low = number_low r in
    let no : number_of r ≡ 0 → ⊥ = λ z. absurd (omega arith) in
    rw (ne_eqb (number_of r) 0 no)

module _ (n mode k sk : ℕ) (q : Query) (ms vs ls : List ℕ) where
  -- a projection that is not finite
  pub found_stopped : (r : Refusal) → GatherIs n q (gathered (Err r)) ls → refused (number_of r) ≡ found_of n mode k sk q ms vs
  unfolding found_of
  found_stopped r o = let bad = was_not (target_finite q n) r o.answer in rw (bad.0, bad.1)

  module _ (dr : ℕ) (o : GatherIs n q (gathered (Ok dr)) ls) where
    -- no layer has as many ids
    pub found_none : top_of n q.w ls sk ≡ None → refused 8 ≡ found_of n mode k sk q ms vs
    unfolding found_of top_rank_of
    found_none e = rw (was_finite (target_finite q n) 0 o.answer refl, ← o.layers refl, e)

    module _ (i : ℕ) (e : top_of n q.w ls sk ≡ Some i) where
      by_layer : (f : Fed) → f ≡ rank_of mode k (take (i * q.w + q.w - i * q.w) (drop (i * q.w) ls)) ms vs q.target → shown dr f ≡ found_of n mode k sk q ms vs
      unfolding found_of top_rank_of
      by_layer f p =
          let part : f ≡ rank_of mode k (layer q.w ls i) ms vs q.target = p ∙ ap (λ (l : List ℕ). rank_of mode k l ms vs q.target) (part_is i q.w (i * q.w) ls refl) in
          rw (was_finite (target_finite q n) 0 o.answer refl, ← o.layers refl, ← o.dropped refl, e) (ap (shown dr) part)

      -- the ranking is refused
      pub found_refused : (r : Refusal) → answer (number_of r) (empty_set 0) ≡ rank_of mode k (take (i * q.w + q.w - i * q.w) (drop (i * q.w) ls)) ms vs q.target
          → refused (number_of r) ≡ found_of n mode k sk q ms vs
      found_refused r p = shown_refused r dr ∙ by_layer (answer (number_of r) (empty_set 0)) p

      -- and it is not
      pub found_done : (s : ResultSet) → answer 0 s ≡ rank_of mode k (take (i * q.w + q.w - i * q.w) (drop (i * q.w) ls)) ms vs q.target
          → record { refusal = 0; set = s; dropped = dr } ≡ found_of n mode k sk q ms vs
      found_done s p = by_layer (answer 0 s) p

-- ---- the whole call

module _ (g : Geo) (bs : List Float) (ix : Ix) (t : List Float) (k sk spill : ℕ) (m : Work) where
  pub search_stopped : (r : Refusal) → number_of r ≡ search_refusal g bs ix t k m → searched (refused (number_of r)) m ≡ search_of g bs ix t k sk spill m
  unfolding search_of
  search_stopped r e =
      let low = number_low r in
      let no : number_of r ≡ 0 → ⊥ = λ z. absurd (omega arith) in
      rw (← e, ne_eqb (number_of r) 0 no)

  pub search_done : (x : Nearest) (m' : Work) → 0 ≡ search_refusal g bs ix t k m → x ≡ found_of g.n g.mode k sk (searched_by g bs ix t spill) ix.marks ix.vecs → m' ≡ cleared m
      → searched x m' ≡ search_of g bs ix t k sk spill m
  unfolding search_of
  search_done x m' e p q = rw (← e, p, q)
