-- The laws of the layers, which `laws` claims: what merging sets in turn leaves, and which layer is chosen. n layers of w words each; a call has w = cap / 64.
use Rattle.std.specs.Prelude.{ℕ, ◌+◌, ◌-◌, ◌*◌, ◌/◌, ◌<◌, ◌≤◌, min, ◌≡◌, Result, Ok, List, [], ltb, length, get_or}
use Rattle.bitmaps.specs.Words.{has, holds, size, empty, sum_to}
use Rattle.counting_bitmap.specs.Layers.{layer, merged_all, dropped_all, times, sizes, Sized, counts_of}
use Rattle.counting_bitmap.specs.TopLayer.{top_of, Highest, TooFew}
use Rattle.counting_bitmap.specs.Answers.{layers_fault, ChosenIs, top_part}
use Rattle.paper.specs.declared.Refusal.{Refusal}
use Rattle.paper.specs.Refusals.{code_of}

pub record Laws : Type 0 where
  -- ---- sets merged in turn
  -- from empty layers, layer j has an id, as a digit, exactly if more than j of the sets have it
  pub counts : (n w : ℕ) (cs : List (List ℕ)) → Sized w cs → (id j : ℕ) → j < n
      → has (layer w (merged_all n w (empty (n * w)) cs) j) id ≡ min 1 (times cs id - j)
  -- the same as a question: layer j holds the ids in more than j of the merged sets
  pub layer_holds : (n w : ℕ) (cs : List (List ℕ)) → Sized w cs → (id j : ℕ) → j < n
      → holds (layer w (merged_all n w (empty (n * w)) cs) j) id ≡ ltb j (times cs id)
  -- whatever the layers held: their counts and those of the sets are their counts afterwards and all dropped counts
  pub counts_kept : (n w : ℕ) (ls : List ℕ) (cs : List (List ℕ)) → length ls ≡ n * w → Sized w cs
      → sum_to n (λ i. size (layer w (merged_all n w ls cs) i)) + dropped_all n w ls cs ≡ sum_to n (λ i. size (layer w ls i)) + sizes cs
  -- from empty layers, the counts of all layers and all dropped counts make the sum of the sets' counts
  pub counts_add_up : (n w : ℕ) (cs : List (List ℕ)) → Sized w cs
      → sum_to n (λ i. size (layer w (merged_all n w (empty (n * w)) cs) i)) + dropped_all n w (empty (n * w)) cs ≡ sizes cs
  -- at most as many sets as there are layers, merged into empty ones: nothing is dropped
  pub drops_nothing : (n w : ℕ) (cs : List (List ℕ)) → length cs ≤ n → Sized w cs → dropped_all n w (empty (n * w)) cs ≡ 0
  -- place i of the counts is the count of layer i
  pub counts_at : (n w i : ℕ) (ls : List ℕ) → i < n → get_or (counts_of n w ls) i 0 ≡ size (layer w ls i)
  -- ---- the chosen layer, of whatever a call with search_k k answers
  -- a layer is the answer only if it has k ids and none above it has
  pub chosen_is_highest : (cap n k : ℕ) (ls : List ℕ) (r : Result ℕ Refusal) → ChosenIs (layers_fault cap n (length ls)) (top_of n (cap / 64) ls k) r
      → (i : ℕ) → r ≡ Ok i → Highest n (cap / 64) ls k i
  -- and such a layer is the answer, unless 1 or 2 is
  pub highest_is_chosen : (cap n k : ℕ) (ls : List ℕ) (r : Result ℕ Refusal) → ChosenIs (layers_fault cap n (length ls)) (top_of n (cap / 64) ls k) r
      → layers_fault cap n (length ls) ≡ 0 → (i : ℕ) → Highest n (cap / 64) ls k i → r ≡ Ok i
  -- 8 is the answer only if neither 1 nor 2 is and no layer has k ids
  pub eight_is_too_few : (cap n k : ℕ) (ls : List ℕ) (r : Result ℕ Refusal) → ChosenIs (layers_fault cap n (length ls)) (top_of n (cap / 64) ls k) r
      → code_of r ≡ 8 → (layers_fault cap n (length ls) ≡ 0) × TooFew n (cap / 64) ls k
  -- and then it is
  pub too_few_is_eight : (cap n k : ℕ) (ls : List ℕ) (r : Result ℕ Refusal) → ChosenIs (layers_fault cap n (length ls)) (top_of n (cap / 64) ls k) r
      → layers_fault cap n (length ls) ≡ 0 → TooFew n (cap / 64) ls k → code_of r ≡ 8
  -- search_k 0 picks the last layer, empty or not
  pub zero_picks_last : (cap n : ℕ) (ls : List ℕ) (r : Result ℕ Refusal) → ChosenIs (layers_fault cap n (length ls)) (top_of n (cap / 64) ls 0) r
      → layers_fault cap n (length ls) ≡ 0 → r ≡ Ok (n - 1)
  -- ---- the part that is handed back
  -- it is the highest layer with k ids,
  pub part_of_highest : (cap n k : ℕ) (ls : List ℕ) → layers_fault cap n (length ls) ≡ 0 → (i : ℕ) → Highest n (cap / 64) ls k i
      → top_part cap n ls k ≡ layer (cap / 64) ls i
  -- empty where there is none,
  pub part_of_too_few : (cap n k : ℕ) (ls : List ℕ) → layers_fault cap n (length ls) ≡ 0 → TooFew n (cap / 64) ls k → top_part cap n ls k ≡ []
  -- and the last layer for search_k 0
  pub zero_part_is_last : (cap n : ℕ) (ls : List ℕ) → layers_fault cap n (length ls) ≡ 0 → top_part cap n ls 0 ≡ layer (cap / 64) ls (n - 1)
