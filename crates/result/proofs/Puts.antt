-- Putting an entry into the two arrays of a set is putting it into the list that the set holds. Assumes nothing.
use mathlib.Core.Path.{◌≡◌, refl, sym, ap, ◌∙◌}
use mathlib.Core.List.{List, [], ◌∷◌, ◌++◌, map}
use Prim.Native.Nat.{ℕ, suc, zero, min, ◌≤◌}
use mathlib.Core.Bool.{Bool, true, false}
use borrow.Author.Tests.{leb-true, leb-false}
use lib.Dec.{leb}
use native.Mathlib.Nat.{not-suc-le-zero, le_of_suc-le-suc}
use native.Mathlib.Omega.{arith}
use lib.Ieee.{Float}
use lib.ListN.{length, take, drop, take-append-drop, length-map, length-take}
use lib.Seq.{take-take, take_all, length-take-le, take-append-le}
use Rattle.result.specs.Lists.{insert_at}
use Rattle.result.specs.Ranked.{Entry}
use Rattle.result.specs.Places.{entries}
use Rattle.result.specs.Puts.{put_in}
use Rattle.result.specs.Sets.{entries_of, over, holding}
use Rattle.result.specs.declared.ResultSet.{ResultSet}
use Rattle.result.proofs.Walk.{length_entries}

-- the set with the entry put in at i of its two arrays, up to n, and n for its length
abbrev pub shifted_to : ResultSet → ℕ → ℕ → Entry → ResultSet
shifted_to s i n e = record {
  ids = take n (insert_at i e.key s.ids) ++ drop n s.ids;
  sims = take n (insert_at i e.sim s.sims) ++ drop n s.sims;
  len = n;
  k = s.k;
  checked = s.checked;
}

-- ---- an insertion, and what is cut from it

module _ {A : Type 0} where
  length_insert : (i : ℕ) (a : A) (xs : List A) → i ≤ length xs → length (insert_at i a xs) ≡ suc (length xs)
  length_insert zero a xs h = refl
  length_insert (suc i) a [] h = absurd (not-suc-le-zero h)
  length_insert (suc i) a (x ∷ xs) h = ap suc (length_insert i a xs (le_of_suc-le-suc h))

  insert_take : (i n : ℕ) (a : A) (xs : List A) → i ≤ n → insert_at i a (take n xs) ≡ take (suc n) (insert_at i a xs)
  insert_take zero n a xs h = refl
  insert_take (suc i) zero a xs h = absurd (not-suc-le-zero h)
  insert_take (suc i) (suc n) a [] h = refl
  insert_take (suc i) (suc n) a (x ∷ xs) h = ap (λ (r : List A). x ∷ r) (insert_take i n a xs (le_of_suc-le-suc h))

  -- a cut of a cut
  pub taken : (a b m : ℕ) (xs : List A) → m ≡ min a b → take m xs ≡ take a (take b xs)
  taken a b m xs e = go (leb a b) refl
    where
      go : (p : Bool) → leb a b ≡ p → take m xs ≡ take a (take b xs)
      go true p =
          let h = leb-true a b p in
          let q : m ≡ a = omega arith in
          ap (λ (j : ℕ). take j xs) q ∙ sym (take-take a b xs h)
      go false p =
          let h = leb-false a b p in
          let q : m ≡ b = omega arith in
          let l = length-take b xs in
          ap (λ (j : ℕ). take j xs) q ∙ sym (take_all a (take b xs) (omega arith))

  -- what is left of an insertion into the first n: one more than n, where there is room for it
  cut : (i n k m : ℕ) (a : A) (xs : List A) → i ≤ n → m ≡ min k (suc n) → take k (insert_at i a (take n xs)) ≡ take m (insert_at i a xs)
  cut i n k m a xs h e = ap (λ (r : List A). take k r) (insert_take i n a xs h) ∙ sym (taken k (suc n) m (insert_at i a xs) e)

-- ---- the two arrays of a list of entries

module _ {A B : Type 0} (f : A → B) where
  pub map_take : (n : ℕ) (xs : List A) → map f (take n xs) ≡ take n (map f xs)
  map_take zero xs = refl
  map_take (suc n) [] = refl
  map_take (suc n) (x ∷ xs) = ap (λ (r : List B). f x ∷ r) (map_take n xs)

  map_insert : (i : ℕ) (a : A) (xs : List A) → map f (insert_at i a xs) ≡ insert_at i (f a) (map f xs)
  map_insert zero a xs = refl
  map_insert (suc i) a [] = refl
  map_insert (suc i) a (x ∷ xs) = ap (λ (r : List B). f x ∷ r) (map_insert i a xs)

abbrev pub key_of : Entry → ℕ
key_of e = e.key

abbrev pub sim_of : Entry → Float
sim_of e = e.sim

pub map_key : (n : ℕ) (is : List ℕ) (ss : List Float) → n ≤ length is → n ≤ length ss → map key_of (entries n is ss) ≡ take n is
map_key zero is ss h k = refl
map_key (suc n) [] ss h k = absurd (not-suc-le-zero h)
map_key (suc n) (i ∷ is) [] h k = absurd (not-suc-le-zero k)
map_key (suc n) (i ∷ is) (s ∷ ss) h k = ap (λ (r : List ℕ). i ∷ r) (map_key n is ss (le_of_suc-le-suc h) (le_of_suc-le-suc k))

pub map_sim : (n : ℕ) (is : List ℕ) (ss : List Float) → n ≤ length is → n ≤ length ss → map sim_of (entries n is ss) ≡ take n ss
map_sim zero is ss h k = refl
map_sim (suc n) [] ss h k = absurd (not-suc-le-zero h)
map_sim (suc n) (i ∷ is) [] h k = absurd (not-suc-le-zero k)
map_sim (suc n) (i ∷ is) (s ∷ ss) h k = ap (λ (r : List Float). s ∷ r) (map_sim n is ss (le_of_suc-le-suc h) (le_of_suc-le-suc k))

-- ---- a list laid over the front of an array

module _ {A : Type 0} where
  lays : (xs ys old : List A) (m : ℕ) → xs ≡ ys → length xs ≡ m → over xs old ≡ ys ++ drop m old
  lays xs ys old m e l = λ i. e i ++ drop (l i) old

  lays_same : (xs old : List A) (m : ℕ) → xs ≡ take m old → length xs ≡ m → over xs old ≡ old
  lays_same xs old m e l = lays xs (take m old) old m e l ∙ take-append-drop m old

-- ---- a set with a list in place of what it held

module _ (s : ResultSet) (hi : s.len ≤ length s.ids) (hs : s.len ≤ length s.sims) where
  pub len_is : length (entries_of s) ≡ s.len
  unfolding entries_of
  len_is = length_entries s.len s.ids s.sims hi hs

  pub keys_are : map key_of (entries_of s) ≡ take s.len s.ids
  unfolding entries_of
  keys_are = map_key s.len s.ids s.sims hi hs

  pub sims_are : map sim_of (entries_of s) ≡ take s.len s.sims
  unfolding entries_of
  sims_are = map_sim s.len s.ids s.sims hi hs

  pub hold_same : holding s (entries_of s) ≡ s
  hold_same =
      let ik = lays_same (map key_of (entries_of s)) s.ids s.len keys_are (length-map (entries_of s) key_of ∙ len_is) in
      let is = lays_same (map sim_of (entries_of s)) s.sims s.len sims_are (length-map (entries_of s) sim_of ∙ len_is) in
      λ j. record { ids = ik j; sims = is j; len = len_is j; k = s.k; checked = s.checked }

  module _ (i : ℕ) (e : Entry) (hp : i ≤ s.len) where
    -- what is laid is the arrays' own insertion, cut at m
    puts : (m : ℕ) → length (take s.k (insert_at i e (entries_of s))) ≡ m
        → take s.k (insert_at i e.key (take s.len s.ids)) ≡ take m (insert_at i e.key s.ids)
        → take s.k (insert_at i e.sim (take s.len s.sims)) ≡ take m (insert_at i e.sim s.sims)
        → shifted_to s i m e ≡ put_in s (insert_at i e (entries_of s))
    puts m l pk ps =
        let new = take s.k (insert_at i e (entries_of s)) in
        let ek : map key_of new ≡ take s.k (insert_at i e.key (take s.len s.ids)) =
        map_take key_of s.k (insert_at i e (entries_of s)) ∙ ap (λ (r : List ℕ). take s.k r) (map_insert key_of i e (entries_of s)
        ∙ ap (λ (r : List ℕ). insert_at i e.key r) keys_are) in
        let es : map sim_of new ≡ take s.k (insert_at i e.sim (take s.len s.sims)) =
        map_take sim_of s.k (insert_at i e (entries_of s)) ∙ ap (λ (r : List Float). take s.k r) (map_insert sim_of i e (entries_of s)
        ∙ ap (λ (r : List Float). insert_at i e.sim r) sims_are) in
        let ik = lays (map key_of new) (take m (insert_at i e.key s.ids)) s.ids m (ek ∙ pk) (length-map new key_of ∙ l) in
        let is = lays (map sim_of new) (take m (insert_at i e.sim s.sims)) s.sims m (es ∙ ps) (length-map new sim_of ∙ l) in
        sym (λ j. record { ids = ik j; sims = is j; len = l j; k = s.k; checked = s.checked })

    pub put_at : (m : ℕ) → m ≡ min s.k (suc s.len) → shifted_to s i m e ≡ put_in s (insert_at i e (entries_of s))
    put_at m r =
        let n = len_is in
        let l = length_insert i e (entries_of s) (omega arith) in
        let t = length-take s.k (insert_at i e (entries_of s)) in
        puts m (omega arith) (cut i s.len s.k m e.key s.ids hp r) (cut i s.len s.k m e.sim s.sims hp r)

    -- full, and the place is past the end: the list is cut to what it was
    pub put_none : s.len ≡ s.k → i ≡ s.len → s ≡ put_in s (insert_at i e (entries_of s))
    put_none r p =
        let n = len_is in
        let c : take s.k (insert_at i e (entries_of s)) ≡ entries_of s =
        take-append-le s.k (take i (entries_of s)) (e ∷ drop i (entries_of s)) (omega (arith, length-take-le i (entries_of s) (omega arith)))
        ∙ take-take s.k i (entries_of s) (omega arith) ∙ take_all s.k (entries_of s) (omega arith) in
        sym (ap (λ (r : List Entry). holding s r) c ∙ hold_same)

-- the struct with two new arrays and a new length
pub shifts : (s : ResultSet) (i n : ℕ) (e : Entry) (a : List ℕ) (b : List Float) → a ≡ take n (insert_at i e.key s.ids) ++ drop n s.ids
    → b ≡ take n (insert_at i e.sim s.sims) ++ drop n s.sims
    → ◌≡◌ {A = ResultSet} (record { ids = a; sims = b; len = n; k = s.k; checked = s.checked }) (shifted_to s i n e)
shifts s i n e a b p q = λ j. record { ids = p j; sims = q j; len = n; k = s.k; checked = s.checked }
