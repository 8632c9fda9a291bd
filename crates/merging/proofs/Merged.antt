-- What an accepted merge leaves, id by id: the bits of both indexes, and of each slot the second's bytes where it has the mark, else the first's. Assumes nothing.
use Prim.Native.Nat.{ℕ, zero, suc, ◌+◌, ◌*◌, ◌/◌, ◌≤◌, ◌<◌, min, max}
use mathlib.Core.Path.{◌≡◌, refl, sym, ap, ◌∙◌}
use mathlib.Core.List.{List, [], ◌∷◌}
use mathlib.Core.Bool.{Bool, true, false}
use mathlib.Core.Logic.{inl, inr}
use native.Mathlib.Omega.{arith}
use native.Mathlib.Decide.{ℕ_discrete}
use native.Mathlib.Nat.{zero-div}
use borrow.Author.Tests.{eqb-true}
use lib.ListN.{length, get_or, take, drop, length-drop}
use lib.Seq.{sets, length-sets, length-take-le}
use Rattle.paper.specs.Choice.{◌and◌, pick, refuse}
use Rattle.paper.specs.Geometry.{Geo, geo_ok, face_words}
use Rattle.paper.proofs.Choice.{and_l, and_r, refuse_ok, refuse_rest}
use Rattle.index_memory.specs.Memory.{Ix, own_ok_ix, slot_bytes, stored_at, Sized}
use Rattle.index_memory.proofs.Lengths.{own_sized}
use Rattle.index_memory.proofs.Places.{place}
use Rattle.index_memory.proofs.Stores.{part_sets, part_same}
use Rattle.bitmaps.specs.Words.{has, holds, shared, size, is_empty}
use Rattle.bitmaps.proofs.Digits.{has_union, has_shared}
use Rattle.bitmaps.proofs.Size.{ones_none}
use Rattle.bitmaps.proofs.Zip.{by_word_length}
use Rattle.merging.specs.Merging.{copied, merged_ix, merge_refusal, merge_of}

-- ---- copied slots

length_pick : (b : Bool) (x y : List ℕ) (n : ℕ) → length x ≡ n → length y ≡ n → length (pick b x y) ≡ n
length_pick true x y n p q = p
length_pick false x y n p q = q

pub length_copied : (size k : ℕ) (ms from vs : List ℕ) → length (copied size k ms from vs) ≡ length vs
unfolding copied
length_copied size zero ms from vs = refl
length_copied size (suc k) ms from vs =
    length_pick (holds ms k) _ _ (length vs)
    (length-sets (copied size k ms from vs) (k * size) (take size (drop (k * size) from)) ∙ length_copied size k ms from vs) (length_copied size k ms from vs)

module _ (size n : ℕ) (ms from vs : List ℕ) (lf : length from ≡ n * size) (lv : length vs ≡ n * size) where
  abbrev part : ℕ → List ℕ → List ℕ
  part i l = take size (drop (i * size) l)

  part_long : (k : ℕ) → k < n → length (part k from) ≡ size
  part_long k h = length-take-le size (drop (k * size) from) (simp length-drop (omega (arith, place k n size h)))

  either : (b : Bool) (x y z : List ℕ) (i : ℕ) → part i x ≡ z → part i y ≡ z → part i (pick b x y) ≡ z
  either true x y z i p q = p
  either false x y z i p q = q

  -- slots that were not come to yet are the old ones
  part_later : (k i : ℕ) → k ≤ i → i < n → part i (copied size k ms from vs) ≡ part i vs
  unfolding copied
  part_later zero i h l = refl
  part_later (suc k) i h l =
      let ih = part_later k i (omega arith) l in
      either (holds ms k) _ _ _ i
      (part_sets (part k from) (copied size k ms from vs) (i * size) size (k * size) (inl (omega (arith, place k i size h, part_long k (omega arith)))) ∙ ih) ih

  -- and then the second's where it has the mark
  both : (b : Bool) (x : List ℕ) (i : ℕ) → i * size + size ≤ length x → i < n → part i (pick b (sets x (i * size) (part i from)) x) ≡ pick b (part i from) (part i x)
  both true x i r h = part_same (part i from) x (i * size) size (part_long i h) r
  both false x i r h = refl

  pub part_copied : (k i : ℕ) → i < k → k ≤ n → part i (copied size k ms from vs) ≡ pick (holds ms i) (part i from) (part i vs)
  unfolding copied
  part_copied zero i h l = absurd (omega arith)
  part_copied (suc k) i h l = go (ℕ_discrete i k) (λ (lt : i < k). part_copied k i lt (omega arith))
    where
      room : k * size + size ≤ length (copied size k ms from vs)
      room = omega (arith, length_copied size k ms from vs, place k n size l)

      go : Dec (i ≡ k) → (i < k → part i (copied size k ms from vs) ≡ pick (holds ms i) (part i from) (part i vs))
          → part i (copied size (suc k) ms from vs) ≡ pick (holds ms i) (part i from) (part i vs)
      go (yes e) ih =
          rw e
          (both (holds ms k) (copied size k ms from vs) k room l ∙ ap (λ (r : List ℕ). pick (holds ms k) (part k from) r) (part_later k k (omega arith) l))
      go (no ne) ih =
          let lt : i < k = omega arith in
          either (holds ms k) _ _ _ i
          (part_sets (part k from) (copied size k ms from vs) (i * size) size (k * size) (inr (place i k size lt)) ∙ ih lt) (ih lt)

-- ---- sets that share nothing

none_at : (s : List ℕ) (k : ℕ) → size s ≡ 0 → get_or s k 0 ≡ 0
unfolding size
none_at [] k e = refl
none_at (x ∷ a) zero e = ones_none x (omega arith)
none_at (x ∷ a) (suc k) e = none_at a k (omega arith)

no_has : (s : List ℕ) (i : ℕ) → size s ≡ 0 → has s i ≡ 0
no_has s i e = rw (none_at s (i / 64) e, zero-div)

-- ---- an accepted merge

no_one : ◌≡◌ {A = ℕ} 1 0 → ⊥
no_one e = omega arith

no_two : ◌≡◌ {A = ℕ} 2 0 → ⊥
no_two e = omega arith

no_eleven : ◌≡◌ {A = ℕ} 11 0 → ⊥
no_eleven e = omega arith

passed : (x y z : Bool) → refuse 1 x (refuse 2 y (refuse 11 z 0)) ≡ 0 → (x ≡ true) × (y ≡ true) × (z ≡ true)
passed x y z e =
    let r = refuse_rest x 1 (refuse 2 y (refuse 11 z 0)) no_one e in
    (refuse_ok x 1 (refuse 2 y (refuse 11 z 0)) no_one e, refuse_ok y 2 (refuse 11 z 0) no_two r, refuse_ok z 11 0 no_eleven (refuse_rest y 2 (refuse 11 z 0) no_two r))

module _ (g : Geo) (a b : Ix) (e : (merge_of g a b).answer ≡ 0) where
  none : merge_refusal g a b ≡ 0
  unfolding merge_of
  none = e

  after : (merge_of g a b).ix ≡ merged_ix g a b
  unfolding merge_of
  after = rw none

  tests : (geo_ok g.d g.n g.cap g.mode ≡ true) × ((own_ok_ix g a and own_ok_ix g b) ≡ true) × (is_empty (shared a.marks b.marks) ≡ true)
  unfolding merge_refusal
  tests = passed (geo_ok g.d g.n g.cap g.mode) (own_ok_ix g a and own_ok_ix g b) (is_empty (shared a.marks b.marks)) none

  first : Sized g.d g.n g.cap g.mode (length a.faces) (length a.marks) (length a.vecs)
  first = own_sized g.d g.n g.cap g.mode _ _ _ tests.0 (and_l (own_ok_ix g a) (own_ok_ix g b) tests.1)

  second : Sized g.d g.n g.cap g.mode (length b.faces) (length b.marks) (length b.vecs)
  second = own_sized g.d g.n g.cap g.mode _ _ _ tests.0 (and_r (own_ok_ix g a) (own_ok_ix g b) tests.1)

  pub merged_long : length (merge_of g a b).ix.faces ≡ face_words g.d g.n g.cap
  unfolding merged_ix
  merged_long = rw after (by_word_length _ a.faces b.faces ∙ first.faces)

  pub faces_joined : (k : ℕ) → has (merge_of g a b).ix.faces k ≡ max (has a.faces k) (has b.faces k)
  unfolding merged_ix
  faces_joined k = rw after (has_union a.faces b.faces (first.faces ∙ sym second.faces) k)

  pub marks_joined : (i : ℕ) → has (merge_of g a b).ix.marks i ≡ max (has a.marks i) (has b.marks i)
  unfolding merged_ix
  marks_joined i = rw after (has_union a.marks b.marks (first.marks ∙ sym second.marks) i)

  pub marks_apart : (i : ℕ) → min (has a.marks i) (has b.marks i) ≡ 0
  marks_apart i =
      sym (has_shared a.marks b.marks (first.marks ∙ sym second.marks) i) ∙ no_has (shared a.marks b.marks) i (eqb-true _ _ tests.2)

  pub stored_joined : (i : ℕ) → i < g.cap
      → stored_at g.d g.mode (merge_of g a b).ix.vecs i ≡ pick (holds b.marks i) (stored_at g.d g.mode b.vecs i) (stored_at g.d g.mode a.vecs i)
  unfolding merged_ix
  stored_joined i h = rw after (part_copied (slot_bytes g.d g.mode) g.cap b.marks b.vecs a.vecs second.vecs first.vecs g.cap i h (omega arith))
