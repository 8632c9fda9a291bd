-- How long the list of an accepted ranking is, and what became of each id of the ranked set. Assumes nothing.
use Prim.Native.Nat.{ℕ, suc, ◌+◌, ◌<◌, min}
use native.Mathlib.Omega.{arith}
use mathlib.Core.Path.{◌≡◌, refl, sym, ap, ◌∙◌, subst}
use mathlib.Core.Bool.{Bool, true, false}
use mathlib.Core.List.{List, [], ◌∷◌, map}
use lib.Dec.{eqb}
use lib.Ieee.{Float}
use lib.ListN.{length}
use borrow.Author.Tests.{eqb-true}
use Rattle.paper.specs.Choice.{pick}
use Rattle.bitmaps.specs.Words.{has}
use Rattle.bitmaps.specs.Walk.{ids_of, listed, RisesFrom}
use Rattle.bitmaps.proofs.Ids.{ids_once, ids_rising}
use Rattle.result.specs.Lists.{all_of, Each, none, more, Some, here, later}
use Rattle.result.specs.Ranked.{Entry, held_e, larger, fed_list, NewTo, Apart, Outcome}
use Rattle.result.specs.Sets.{Fed, entries_of, empty_set, fed_set}
use Rattle.result.specs.declared.ResultSet.{ResultSet}
use Rattle.result.proofs.Keeps.{empty_checked, empty_k, entries_none}
use Rattle.result.proofs.Grown.{all_checked, all_entries}
use Rattle.result.proofs.Order.{larger_one_way}
use Rattle.result.proofs.Sorted.{larger_through}
use Rattle.result.proofs.Outcomes.{fed_list_long, fed_list_best}
use Rattle.backend_memory.specs.Ranking.{scored, ranking, rank_of, similarity_of}
use Rattle.backend_memory.proofs.Counts.{first_of, rank_fed}

-- ---- rising ids differ

rising_new : (f : ℕ → Float) (i low : ℕ) (is : List ℕ) → i < low → RisesFrom low is → NewTo (map (scored f) is) (scored f i)
unfolding RisesFrom
rising_new f i low [] h r = none
rising_new f i low (j ∷ is) h r = let l = r.0 in more (λ q. omega arith) (rising_new f i (suc j) is (omega arith) r.1)

rising_apart : (f : ℕ → Float) (low : ℕ) (is : List ℕ) → RisesFrom low is → Apart (map (scored f) is)
unfolding RisesFrom
rising_apart f low [] r = tt
rising_apart f low (i ∷ is) r = (rising_new f i (suc i) is (omega arith) r.1, rising_apart f (suc i) is r.1)

-- ---- an id of the set is one of those fed

in_list : (id : ℕ) (is : List ℕ) → listed id is ≡ 1 → Some (λ (j : ℕ). j ≡ id) is
unfolding listed
in_list id [] h = absurd (omega arith)
in_list id (j ∷ is) h = by (eqb id j) refl (in_list id is) h
  where
    by : (b : Bool) → eqb id j ≡ b → (listed id is ≡ 1 → Some (λ (j : ℕ). j ≡ id) is) → pick b 1 0 + listed id is ≡ 1 → Some (λ (j : ℕ). j ≡ id) (j ∷ is)
    by true q go h = here (sym (eqb-true id j q))
    by false q go h = later (go (omega arith))

each_mapped : (P : Entry → Type 0) (g : ℕ → Entry) (is : List ℕ) (id : ℕ) → Each P (map g is) → Some (λ (j : ℕ). j ≡ id) is → P (g id)
each_mapped P g [] id e s = elim s [ ]
each_mapped P g (j ∷ is) id (more h hs) (here q) = subst (λ (i : ℕ). P (g i)) q h
each_mapped P g (j ∷ is) id (more h hs) (later s) = each_mapped P g is id hs s

-- ---- an accepted ranking

all_numbers : (ms : List ℕ) (f : ℕ → Float) (s : ResultSet) (is : List ℕ) → (ranking ms f s is).refusal ≡ 0 → all_of held_e (map (scored f) is) ≡ true
unfolding ranking
all_numbers ms f s [] e = refl
all_numbers ms f s (i ∷ is) e =
    let a = first_of ms f s i is e in
    let e2 : (ranking ms f (fed_set s (scored f i)) is).refusal ≡ 0 = ap (λ (r : Fed). r.refusal) (sym a.rest) ∙ e in
    rw (a.number, all_numbers ms f (fed_set s (scored f i)) is e2)

module _ (mode k : ℕ) (ids ms vs : List ℕ) (t : List Float) (e : (rank_of mode k ids ms vs t).refusal ≡ 0) where
  abbrev fed_ids : List Entry
  fed_ids = map (scored (similarity_of mode vs t)) (ids_of ids)

  lists : entries_of (rank_of mode k ids ms vs t).set ≡ fed_list larger k fed_ids []
  lists =
      ap entries_of (rank_fed mode k ids ms vs t e)
      ∙ all_entries (empty_set k) fed_ids
      ∙ (λ i. fed_list larger (empty_k k i) fed_ids (entries_none k i))

  apart : Apart fed_ids
  apart = rising_apart (similarity_of mode vs t) 0 (ids_of ids) (ids_rising ids)

  numbers : all_of held_e fed_ids ≡ true
  unfolding rank_of
  numbers = all_numbers ms (similarity_of mode vs t) (empty_set k) (ids_of ids) e

  -- the list is as long as checked says, and no longer than k
  pub rank_long : length (entries_of (rank_of mode k ids ms vs t).set) ≡ min k (rank_of mode k ids ms vs t).set.checked
  rank_long =
      let c = ap (λ (s : ResultSet). s.checked) (rank_fed mode k ids ms vs t e) ∙ all_checked (empty_set k) fed_ids in
      let z = empty_checked k in
      let l : length (entries_of (rank_of mode k ids ms vs t).set) ≡ min k (length fed_ids) = ap length lists ∙ fed_list_long larger k fed_ids apart in
      omega arith

  -- an id of the set is listed with its score, or left out of a full list that its score goes nowhere in
  pub rank_best : (id : ℕ) → has ids id ≡ 1 → Outcome larger k (entries_of (rank_of mode k ids ms vs t).set) (scored (similarity_of mode vs t) id)
  rank_best id h =
      subst (λ (es : List Entry). Outcome larger k es (scored (similarity_of mode vs t) id)) (sym lists)
      (each_mapped (Outcome larger k (fed_list larger k fed_ids [])) (scored (similarity_of mode vs t)) (ids_of ids) id
      (fed_list_best larger larger_one_way larger_through k fed_ids numbers apart) (in_list id (ids_of ids) (ids_once ids id ∙ h)))
