-- What an accepted search tells: the layer that was chosen, what was checked, what is listed, and that nothing was dropped. Assumes nothing.
use Prim.Native.Nat.{ℕ, ◌≤◌, min}
use native.Mathlib.Omega.{arith}
use mathlib.Core.Path.{◌≡◌, refl, sym, ap, ◌∙◌, subst}
use mathlib.Core.Bool.{Bool, true, false}
use mathlib.Core.List.{List}
use lib.Dec.{leb, eqb}
use lib.Ieee.{Float}
use lib.ListN.{length}
use borrow.Author.Tests.{eqb-true, eqb-false, leb-true}
use Rattle.paper.specs.Choice.{pick, refuse}
use Rattle.paper.specs.Geometry.{Geo}
use Rattle.paper.proofs.Choice.{refuse_ok}
use Rattle.index_memory.specs.Memory.{Ix}
use Rattle.bitmaps.specs.Words.{has, size}
use Rattle.bitmaps.proofs.Digits.{Words}
use Rattle.counting_bitmap.specs.Layers.{layer}
use Rattle.counting_bitmap.specs.TopLayer.{top_of, Highest}
use Rattle.std.specs.Prelude.{Option, Some, None}
use Rattle.counting_bitmap.proofs.Highest.{top_layer_is}
use Rattle.result.specs.Ranked.{larger, in_order, Outcome}
use Rattle.result.specs.Sets.{entries_of, empty_set}
use Rattle.result.specs.declared.ResultSet.{ResultSet}
use Rattle.result.specs.Sets.{Fed}
use Rattle.result.proofs.Keeps.{Sound, sound_empty}
use Rattle.vector.specs.Finite.{all_finite}
use Rattle.backend_memory.specs.Ranking.{similarity_of, scored, rank_of}
use Rattle.backend_memory.specs.Listed.{Each, TrueEntry}
use Rattle.backend_memory.proofs.Counts.{rank_checked, rank_order, rank_sound}
use Rattle.backend_memory.proofs.Listed.{rank_listed}
use Rattle.backend_memory.proofs.Best.{rank_long, rank_best}
use Rattle.candidates.specs.Gathering.{Query, target_finite, layers_of, dropped_of}
use Rattle.candidates.proofs.Unions.{search_drops_none}
use Rattle.candidates.proofs.Words.{layer_words}
use Rattle.vector_store.specs.Search.{AcceptedSearch, searched_by, refused, ranked_by, top_rank_of, found_of, Work, searched, cleared, search_shape, search_refusal, search_of}
use Rattle.vector_store.specs.Search.{Nearest}

-- ---- an accepted search

module _ (n mode k sk : ℕ) (q : Query) (ms vs : List ℕ) where
  from_rank : target_finite q n ≡ true → (i : ℕ) → top_of n q.w (layers_of n q) sk ≡ Some i → (b : Bool) → eqb (rank_of mode k (layer q.w (layers_of n q) i) ms vs q.target).refusal 0 ≡ b
      → (r : Nearest) → r ≡ pick b (record { refusal = 0; set = (rank_of mode k (layer q.w (layers_of n q) i) ms vs q.target).set; dropped = dropped_of n q }) (refused (rank_of mode k (layer q.w (layers_of n q) i) ms vs q.target).refusal)
      → r.refusal ≡ 0 → AcceptedSearch n mode k sk q ms vs r
  from_rank f i h true t r p e =
      record {
        finite = f;
        at = i;
        chosen = h;
        good = eqb-true _ 0 t;
        ranked = ap (λ (x : Nearest). x.set) p;
        dropped = ap (λ (x : Nearest). x.dropped) p ∙ search_drops_none n q;
      }
  from_rank f i h false t r p e = absurd (eqb-false (rank_of mode k (layer q.w (layers_of n q) i) ms vs q.target).refusal 0 t (ap (λ (x : Nearest). x.refusal) (sym p) ∙ e))

  by_cases : (b : Bool) (tp : Option ℕ) → target_finite q n ≡ b → top_of n q.w (layers_of n q) sk ≡ tp → (r : Nearest)
      → r ≡ pick b (ranked_by mode k q.w (layers_of n q) ms vs q.target (dropped_of n q) tp) (refused 7) → r.refusal ≡ 0 → AcceptedSearch n mode k sk q ms vs r
  by_cases true (Some i) f h r p e = from_rank f i h (eqb (rank_of mode k (layer q.w (layers_of n q) i) ms vs q.target).refusal 0) refl r p e
  by_cases true None f h r p e = absurd (omega (arith, ap (λ (x : Nearest). x.refusal) p))
  by_cases false tp f h r p e = absurd (omega (arith, ap (λ (x : Nearest). x.refusal) p))

  pub found_accepted : (found_of n mode k sk q ms vs).refusal ≡ 0 → AcceptedSearch n mode k sk q ms vs (found_of n mode k sk q ms vs)
  unfolding found_of top_rank_of
  found_accepted e = by_cases (target_finite q n) (top_of n q.w (layers_of n q) sk) refl refl _ refl e

  -- what follows for the answer
  module _ (r : Nearest) (a : AcceptedSearch n mode k sk q ms vs r) where
    -- the chosen layer has at least search_k ids, and none above it has
    pub chosen_highest : Highest n q.w (layers_of n q) sk a.at
    chosen_highest = top_layer_is n q.w (layers_of n q) sk a.at a.chosen

    -- checked is the number of ids in the chosen layer (any lent word is below 2^64)
    pub found_checked : Words q.faces → r.set.checked ≡ size (layer q.w (layers_of n q) a.at)
    found_checked h =
        ap (λ (s : ResultSet). s.checked) a.ranked
        ∙ rank_checked mode k (layer q.w (layers_of n q) a.at) ms vs q.target (layer_words n q a.at h) a.good

    -- every listed id is in the chosen layer, has its mark, and stands with the score that its stored vector gives
    pub found_listed : Each (TrueEntry (layer q.w (layers_of n q) a.at) ms (similarity_of mode vs q.target)) (entries_of r.set)
    found_listed =
        subst (λ (s : ResultSet). Each (TrueEntry (layer q.w (layers_of n q) a.at) ms (similarity_of mode vs q.target)) (entries_of s)) (sym a.ranked)
        (rank_listed mode k (layer q.w (layers_of n q) a.at) ms vs q.target a.good)

    -- scores never rise along the list
    pub found_order : in_order larger (entries_of r.set) ≡ true
    found_order =
        ap (λ (s : ResultSet). in_order larger (entries_of s)) a.ranked
        ∙ rank_order mode k (layer q.w (layers_of n q) a.at) ms vs q.target a.good

    -- the list is as long as checked says, and no longer than k
    pub found_long : length (entries_of r.set) ≡ min k r.set.checked
    found_long =
        subst (λ (s : ResultSet). length (entries_of s) ≡ min k s.checked) (sym a.ranked)
        (rank_long mode k (layer q.w (layers_of n q) a.at) ms vs q.target a.good)

    -- each id of the chosen layer is listed with its score, or left out of a full list that its score goes nowhere in
    pub found_best : (id : ℕ) → has (layer q.w (layers_of n q) a.at) id ≡ 1 → Outcome larger k (entries_of r.set) (scored (similarity_of mode vs q.target) id)
    found_best id h =
        subst (λ (s : ResultSet). Outcome larger k (entries_of s) (scored (similarity_of mode vs q.target) id)) (sym a.ranked)
        (rank_best mode k (layer q.w (layers_of n q) a.at) ms vs q.target a.good id h)

pub search_accepted : (g : Geo) (bs : List Float) (ix : Ix) (t : List Float) (k sk spill : ℕ) (m : Work) → (search_of g bs ix t k sk spill m).answer.refusal ≡ 0
    → AcceptedSearch g.n g.mode k sk (searched_by g bs ix t spill) ix.marks ix.vecs (search_of g bs ix t k sk spill m).answer
unfolding search_of
search_accepted g bs ix t k sk spill m e = by (search_refusal g bs ix t k m) (eqb (search_refusal g bs ix t k m) 0) refl e
  where
    by : (num : ℕ) (b : Bool) → eqb num 0 ≡ b
        → (pick b (searched (found_of g.n g.mode k sk (searched_by g bs ix t spill) ix.marks ix.vecs) (cleared m)) (searched (refused num) m)).answer.refusal ≡ 0
        → AcceptedSearch g.n g.mode k sk (searched_by g bs ix t spill) ix.marks ix.vecs (pick b (searched (found_of g.n g.mode k sk (searched_by g bs ix t spill) ix.marks ix.vecs) (cleared m)) (searched (refused num) m)).answer
    by num true h e = found_accepted g.n g.mode k sk (searched_by g bs ix t spill) ix.marks ix.vecs e
    by num false h e = absurd (eqb-false num 0 h e)

-- ---- whatever a search answers, its set is well formed

none_sound : Sound (empty_set 0)
none_sound = sound_empty 0 (omega arith)

module _ (n mode k sk : ℕ) (q : Query) (ms vs : List ℕ) (h : k ≤ 256) where
  shown_sound : (dr : ℕ) (f : Fed) → Sound f.set → (b : Bool) → Sound (pick b (record { refusal = 0; set = f.set; dropped = dr }) (refused f.refusal)).set
  shown_sound dr f s true = s
  shown_sound dr f s false = none_sound

  found_sound : Sound (found_of n mode k sk q ms vs).set
  unfolding found_of top_rank_of
  found_sound = by (target_finite q n) (top_of n q.w (layers_of n q) sk)
    where
      by : (b : Bool) (tp : Option ℕ) → Sound (pick b (ranked_by mode k q.w (layers_of n q) ms vs q.target (dropped_of n q) tp) (refused 7)).set
      by true (Some i) =
          let f = rank_of mode k (layer q.w (layers_of n q) i) ms vs q.target in
          shown_sound (dropped_of n q) f (rank_sound mode k (layer q.w (layers_of n q) i) ms vs q.target h) (eqb f.refusal 0)
      by true None = none_sound
      by false tp = none_sound

not4 : ◌≡◌ {A = ℕ} 4 0 → ⊥
not4 e = omega arith

k_high : (g : Geo) (bs : List Float) (ix : Ix) (t : List Float) (k : ℕ) (m : Work) → search_refusal g bs ix t k m ≡ 0 → k ≤ 256
unfolding search_refusal
k_high g bs ix t k m e = by shape (eqb shape 0) refl e
  where
    shape : ℕ
    shape = search_shape g (length bs) (length ix.faces) (length ix.marks) (length ix.vecs) (length t) (length m.work) (length m.layers) (length m.set)

    by : (s : ℕ) (b : Bool) → eqb s 0 ≡ b → pick b (refuse 4 (leb k 256) (refuse 5 (all_finite t) 0)) s ≡ 0 → k ≤ 256
    by s true h e = leb-true _ _ (refuse_ok (leb k 256) 4 (refuse 5 (all_finite t) 0) not4 e)
    by s false h e = absurd (eqb-false s 0 h e)

pub search_sound : (g : Geo) (bs : List Float) (ix : Ix) (t : List Float) (k sk spill : ℕ) (m : Work) → Sound (search_of g bs ix t k sk spill m).answer.set
unfolding search_of
search_sound g bs ix t k sk spill m = by (eqb (search_refusal g bs ix t k m) 0) refl
  where
    by : (b : Bool) → eqb (search_refusal g bs ix t k m) 0 ≡ b
        → Sound (pick b (searched (found_of g.n g.mode k sk (searched_by g bs ix t spill) ix.marks ix.vecs) (cleared m)) (searched (refused (search_refusal g bs ix t k m)) m)).answer.set
    by true h = found_sound g.n g.mode k sk (searched_by g bs ix t spill) ix.marks ix.vecs (k_high g bs ix t k m (eqb-true _ 0 h))
    by false h = none_sound
