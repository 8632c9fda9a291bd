-- The laws of the sets, which `laws` claims: what the words mean for the ids, and what the walk meets. They hold of any lists of words; where two sets
-- meet, they have one length.
use Rattle.std.specs.Prelude.{ℕ, ◌+◌, ◌-◌, ◌*◌, ◌<◌, min, max, false, not, ◌&&◌, ◌||◌, ◌≡◌, Option, Some, None, List, [], ◌∷◌, eqb, length}
use Rattle.std.specs.Bool.{xor}
use Rattle.bitmaps.specs.Words.{has, holds, Words, union, exclusive, without, shared, inserted, empty, size}
use Rattle.bitmaps.specs.Walk.{NextIs, ids_from, ids_of, first_of, listed, RisesFrom}

pub record Laws : Type 0 where
  -- ---- which ids a set has after each operation: 1 for an id that it has, 0 for any other
  -- union: the ids of either
  pub has_union : (a b : List ℕ) → length a ≡ length b → (i : ℕ) → has (union a b) i ≡ max (has a i) (has b i)
  -- what two sets share, which merging carries on: the ids of both
  pub has_shared : (a b : List ℕ) → length a ≡ length b → (i : ℕ) → has (shared a b) i ≡ min (has a i) (has b i)
  -- exclusive or: the ids of just one
  pub has_exclusive : (a b : List ℕ) → length a ≡ length b → (i : ℕ) → has (exclusive a b) i ≡ (has a i - has b i) + (has b i - has a i)
  -- and-not: the ids of the first that the second lacks
  pub has_without : (a b : List ℕ) → length a ≡ length b → Words b → (i : ℕ) → has (without a b) i ≡ has a i - has b i
  -- an id that is put in is there
  pub has_inserted : (s : List ℕ) (i : ℕ) → i < length s * 64 → has (inserted s i) i ≡ 1
  -- and every other stays as it was
  pub has_kept : (s : List ℕ) (i j : ℕ) → i < length s * 64 → (j ≡ i → ⊥) → has (inserted s i) j ≡ has s j
  -- an empty set has none
  pub has_empty : (m i : ℕ) → has (empty m) i ≡ 0
  -- ---- the same as `contains` answers it
  pub holds_union : (a b : List ℕ) → length a ≡ length b → (i : ℕ) → holds (union a b) i ≡ (holds a i || holds b i)
  pub holds_shared : (a b : List ℕ) → length a ≡ length b → (i : ℕ) → holds (shared a b) i ≡ (holds a i && holds b i)
  pub holds_exclusive : (a b : List ℕ) → length a ≡ length b → (i : ℕ) → holds (exclusive a b) i ≡ xor (holds a i) (holds b i)
  pub holds_without : (a b : List ℕ) → length a ≡ length b → (i : ℕ) → Words b → holds (without a b) i ≡ (holds a i && not (holds b i))
  pub holds_inserted : (s : List ℕ) (i j : ℕ) → i < length s * 64 → holds (inserted s i) j ≡ (eqb j i || holds s j)
  pub holds_empty : (m i : ℕ) → holds (empty m) i ≡ false
  -- ---- words and ids
  -- two sets of one length that have the same ids are the same words, to the last digit
  pub same_words : (a b : List ℕ) → length a ≡ length b → Words a → Words b → ((i : ℕ) → has a i ≡ has b i) → a ≡ b
  -- a union and what is shared have as many ids together as the two sets
  pub size_union : (a b : List ℕ) → length a ≡ length b → size (union a b) + size (shared a b) ≡ size a + size b
  -- ---- the rising walk
  -- the list of a set's ids has each of them once, and no other number
  pub ids_once : (s : List ℕ) (i : ℕ) → listed i (ids_of s) ≡ has s i
  -- it rises
  pub ids_rising : (s : List ℕ) → RisesFrom 0 (ids_of s)
  -- it is as long as `count` says
  pub ids_size : (s : List ℕ) → Words s → length (ids_of s) ≡ size s
  -- the walk starts with the whole list,
  pub walk_start : (s : List ℕ) → ids_from s 0 ≡ ids_of s
  -- goes through it from one past each id found,
  pub walk_on : (s : List ℕ) (from i : ℕ) → NextIs s from (Some i) → ids_from s from ≡ i ∷ ids_from s (i + 1)
  -- and finds nothing only where nothing is left
  pub walk_end : (s : List ℕ) (from : ℕ) → NextIs s from None → ids_from s from ≡ []
  -- what a step has to be is the first id at or after the place
  pub next_first : (s : List ℕ) (from : ℕ) (r : Option ℕ) → NextIs s from r → r ≡ first_of (ids_from s from)
