-- What additions to an empty index leave in it, bit by bit and byte by byte. Assumes nothing.
use Prim.Native.Nat.{ℕ, zero, suc, ◌+◌, ◌-◌, ◌*◌, ◌≤◌, ◌<◌}
use mathlib.Core.Path.{◌≡◌, refl, sym, ap, ap₂, ◌∙◌, subst}
use mathlib.Core.List.{List, [], ◌∷◌, ◌++◌}
use mathlib.Core.Bool.{Bool, true, false}
use mathlib.Core.Logic.{◌⊎◌, inl, inr}
use native.Mathlib.Omega.{arith}
use native.Mathlib.Decide.{ℕ_discrete, dec_lt}
use native.Mathlib.Nat.{suc-mul, add_comm}
use borrow.Author.Tests.{eqb-true, eq-eqb, ne_eqb}
use lib.Dec.{eqb}
use lib.Ieee.{Float}
use lib.ListN.{length, take, drop, length-replicate, length-drop, take-append-drop}
use lib.Seq.{sets, drop-drop}
use Rattle.paper.specs.Choice.{◌and◌, pick}
use Rattle.paper.specs.Geometry.{Geo, geo_ok, face_words, set_words, vector_bytes}
use Rattle.index_memory.specs.Memory.{Ix, empty_ix, own_ok_ix, face_bit, slot_bytes, slot_at, stored_at, float_zeros}
use Rattle.index_memory.proofs.Lengths.{own_good, own_sized}
use Rattle.index_memory.proofs.Places.{place, mark_low}
use Rattle.index_memory.proofs.Stores.{part_sets, part_same}
use Rattle.bitmaps.specs.Words.{has, empty}
use Rattle.bitmaps.proofs.Digits.{Words}
use Rattle.vector.specs.Norm.{normalized}
use Rattle.quantization.specs.Stored.{lower_bytes}
use Rattle.adding.specs.Adding.{face_slot, with_faces, with_vector, added_ix, Shaped}
use Rattle.adding.proofs.Accepted.{length_stored}
use Rattle.adding.proofs.Faces.{face_room}
use Rattle.order_free.specs.Order.{Addition, Call, whats, WorkLent, run}
use Rattle.order_free.specs.Grown.{last_or, taken, taken_as, face_among, taken_at, Grown}
use Rattle.bitmaps.proofs.Members.{has_empty, same_words, words_empty}
use Rattle.order_free.proofs.Words.{has_put, words_inserted}
use Rattle.order_free.proofs.Orders.{ix_eq, SameLen, same_refl, same_trans, num, num_same, put, puts, put_same, puts_same, shape_good, run_is}

-- ---- lists of zeros, and lists by their parts

take_zeros : (m n : ℕ) → m ≤ n → take m (empty n) ≡ empty m
take_zeros zero n h = refl
take_zeros (suc m) zero h = let no : ⊥ = omega arith in absurd no
take_zeros (suc m) (suc n) h = let h' : m ≤ n = omega arith in ap (λ (r : List ℕ). 0 ∷ r) (take_zeros m n h')

drop_zeros : (k n : ℕ) → drop k (empty n) ≡ empty (n - k)
drop_zeros zero n = ap empty (let e : n ≡ n - 0 = omega arith in e)
drop_zeros (suc k) zero = ap empty (let e : 0 ≡ 0 - suc k = omega arith in e)
drop_zeros (suc k) (suc n) = drop_zeros k n ∙ ap empty (let e : n - k ≡ suc n - suc k = omega arith in e)

-- two lists of n parts of s elements each are equal if their parts are
pub parts_ext : (n s : ℕ) (a b : List ℕ) → length a ≡ n * s → length b ≡ n * s → ((i : ℕ) → i < n → take s (drop (i * s) a) ≡ take s (drop (i * s) b)) → a ≡ b
parts_ext zero s [] [] la lb h = refl
parts_ext zero s [] (y ∷ b) la lb h = let no : ⊥ = omega arith in absurd no
parts_ext zero s (x ∷ a) b la lb h = let no : ⊥ = omega arith in absurd no
parts_ext (suc n) s a b la lb h =
    let da : length (drop s a) ≡ n * s = simp length-drop (omega (arith, suc-mul n s)) in
    let db : length (drop s b) ≡ n * s = simp length-drop (omega (arith, suc-mul n s)) in
    sym (take-append-drop s a)
    ∙ ap₂ (λ (x y : List ℕ). x ++ y) first (parts_ext n s (drop s a) (drop s b) da db (λ i l. next i a ∙ h (suc i) (omega arith) ∙ sym (next i b)))
    ∙ take-append-drop s b
  where
    first : take s a ≡ take s b
    first = let z : 0 * s ≡ 0 = omega arith in rw z at (h 0 (omega arith))

    next : (i : ℕ) (c : List ℕ) → take s (drop (i * s) (drop s c)) ≡ take s (drop (suc i * s) c)
    next i c = ap (λ (r : List ℕ). take s r) (drop-drop (i * s) s c ∙ ap (λ (k : ℕ). drop k c) (add_comm s (i * s) ∙ sym (suc-mul i s)))

-- ---- one look at an index: what an addition changes of it, and so what many do

module _ (g : Geo) (bs : List Float) where
  abbrev ShapedFor : Addition → Ix → Type 0
  ShapedFor a ix = Shaped g a.id (length bs) (length ix.faces) (length ix.marks) (length ix.vecs) (length (float_zeros g.d)) (length a.v)

  module _ {A : Type 0} (t : Addition → Bool) (f : Addition → A) (look : Ix → A)
      (law : (a : Addition) (ix : Ix) → ShapedFor a ix → look (added_ix g bs a.id a.v ix) ≡ pick (t a) (f a) (look ix)) where
    look_pick : (a : Addition) (ix : Ix) (b : Bool) → eqb (num g bs a ix) 0 ≡ b → look (pick b (added_ix g bs a.id a.v ix) ix) ≡ pick (b and t a) (f a) (look ix)
    look_pick a ix true e = law a ix (shape_good g bs a ix (eqb-true _ _ e))
    look_pick a ix false e = refl

    look_put : (a : Addition) (ix : Ix) → SameLen ix (empty_ix g) → look (put g bs a ix) ≡ pick (taken g bs a and t a) (f a) (look ix)
    unfolding put taken
    look_put a ix s =
        look_pick a ix (eqb (num g bs a ix) 0) refl
        ∙ ap (λ (r : ℕ). pick (eqb r 0 and t a) (f a) (look ix)) (num_same g bs a ix (empty_ix g) s)

    look_puts : (xs : List Addition) (ix : Ix) → SameLen ix (empty_ix g) → look (puts g bs xs ix) ≡ last_or (λ (a : Addition). taken g bs a and t a) f xs (look ix)
    unfolding puts last_or
    look_puts [] ix s = refl
    look_puts (a ∷ xs) ix s =
        look_puts xs (put g bs a ix) (same_trans (put_same g bs a ix) s)
        ∙ ap (λ (o : A). last_or (λ (a : Addition). taken g bs a and t a) f xs o) (look_put a ix s)

  module _ (P : Ix → Type 0) (law : (a : Addition) (ix : Ix) → ShapedFor a ix → P ix → P (added_ix g bs a.id a.v ix)) where
    keep_pick : (a : Addition) (ix : Ix) (b : Bool) → eqb (num g bs a ix) 0 ≡ b → P ix → P (pick b (added_ix g bs a.id a.v ix) ix)
    keep_pick a ix true e p = law a ix (shape_good g bs a ix (eqb-true _ _ e)) p
    keep_pick a ix false e p = p

    keep_puts : (xs : List Addition) (ix : Ix) → P ix → P (puts g bs xs ix)
    unfolding puts put
    keep_puts [] ix p = p
    keep_puts (a ∷ xs) ix p = keep_puts xs (put g bs a ix) (keep_pick a ix (eqb (num g bs a ix) 0) refl p)

  -- ---- marks

  mark_room : (a : Addition) (ix : Ix) → ShapedFor a ix → a.id < length ix.marks * 64
  mark_room a ix s = subst (λ (k : ℕ). a.id < k * 64) (sym s.marks) (mark_low g.cap a.id s.facts.cap_even s.id_low)

  mark_law : (i : ℕ) (a : Addition) (ix : Ix) → ShapedFor a ix → has (added_ix g bs a.id a.v ix).marks i ≡ pick (eqb a.id i) 1 (has ix.marks i)
  unfolding added_ix
  mark_law i a ix s = has_put ix.marks a.id i (mark_room a ix s)

  mark_words_law : (a : Addition) (ix : Ix) → ShapedFor a ix → Words ix.marks → Words (added_ix g bs a.id a.v ix).marks
  unfolding added_ix
  mark_words_law a ix s w = words_inserted ix.marks a.id (mark_room a ix s) w

  -- ---- face bits

  pick_two : (x y : Bool) (z : ℕ) → pick x 1 (pick y 1 z) ≡ pick (pick x true y) 1 z
  pick_two true y z = refl
  pick_two false y z = refl

  module _ (a : Addition) (ix : Ix) (s : ShapedFor a ix) where
    abbrev with : ℕ → List ℕ
    with m = with_faces g.d g.cap a.id (face_slot g.d bs a.v) m ix.faces

    room : (b : ℕ) → b < g.n → face_bit g.d g.cap b (face_slot g.d bs a.v b) a.id < length (with b) * 64
    room b l = face_room g bs a.id a.v ix.faces _ _ _ _ s b b l

    faces_has : (k m : ℕ) → m ≤ g.n → has (with m) k ≡ pick (face_among g bs k m a) 1 (has ix.faces k)
    unfolding with_faces face_among
    faces_has k zero h = refl
    faces_has k (suc b) h =
        has_put (with b) (face_bit g.d g.cap b (face_slot g.d bs a.v b) a.id) k (room b h)
        ∙ ap (λ (x : ℕ). pick (eqb (face_bit g.d g.cap b (face_slot g.d bs a.v b) a.id) k) 1 x) (faces_has k b (omega arith))
        ∙ pick_two (eqb (face_bit g.d g.cap b (face_slot g.d bs a.v b) a.id) k) (face_among g bs k b a) (has ix.faces k)

    faces_words : (m : ℕ) → m ≤ g.n → Words ix.faces → Words (with m)
    unfolding with_faces
    faces_words zero h w = w
    faces_words (suc b) h w = words_inserted (with b) _ (room b h) (faces_words b (omega arith) w)

  face_law : (k : ℕ) (a : Addition) (ix : Ix) → ShapedFor a ix → has (added_ix g bs a.id a.v ix).faces k ≡ pick (face_among g bs k g.n a) 1 (has ix.faces k)
  unfolding added_ix
  face_law k a ix s = faces_has a ix s k g.n (omega arith)

  face_words_law : (a : Addition) (ix : Ix) → ShapedFor a ix → Words ix.faces → Words (added_ix g bs a.id a.v ix).faces
  unfolding added_ix
  face_words_law a ix s w = faces_words a ix s g.n (omega arith) w

  -- ---- stored bytes

  vec_law : (i : ℕ) → i < g.cap → (a : Addition) (ix : Ix) → ShapedFor a ix
      → stored_at g.d g.mode (added_ix g bs a.id a.v ix).vecs i ≡ pick (eqb a.id i) (lower_bytes g.mode (normalized a.v)) (stored_at g.d g.mode ix.vecs i)
  unfolding added_ix with_vector
  vec_law i h a ix s = go (ℕ_discrete a.id i)
    where
      go : Dec (a.id ≡ i) → take (slot_bytes g.d g.mode) (drop (slot_at g.d g.mode i) (sets ix.vecs (slot_at g.d g.mode a.id) (lower_bytes g.mode (normalized a.v))))
          ≡ pick (eqb a.id i) (lower_bytes g.mode (normalized a.v)) (stored_at g.d g.mode ix.vecs i)
      go (yes e) =
          ap (λ (k : ℕ). take (slot_bytes g.d g.mode) (drop (slot_at g.d g.mode k) (sets ix.vecs (slot_at g.d g.mode a.id) (lower_bytes g.mode (normalized a.v))))) (sym e)
          ∙ part_same (lower_bytes g.mode (normalized a.v)) ix.vecs (slot_at g.d g.mode a.id) (slot_bytes g.d g.mode) (length_stored g.d g.mode a.v s.vector)
          (subst (λ (k : ℕ). slot_at g.d g.mode a.id + slot_bytes g.d g.mode ≤ k) (sym s.vectors) (place a.id g.cap (slot_bytes g.d g.mode) s.id_low))
          ∙ sym (ap (λ (b : Bool). pick b (lower_bytes g.mode (normalized a.v)) (stored_at g.d g.mode ix.vecs i)) (eq-eqb a.id i e))
      go (no ne) =
          part_sets (lower_bytes g.mode (normalized a.v)) ix.vecs (slot_at g.d g.mode i) (slot_bytes g.d g.mode) (slot_at g.d g.mode a.id) (apart (dec_lt a.id i) ne)
          ∙ sym (ap (λ (b : Bool). pick b (lower_bytes g.mode (normalized a.v)) (stored_at g.d g.mode ix.vecs i)) (ne_eqb a.id i ne))
        where
          apart : Dec (a.id < i) → (a.id ≡ i → ⊥)
              → (slot_at g.d g.mode a.id + length (lower_bytes g.mode (normalized a.v)) ≤ slot_at g.d g.mode i) ⊎ (slot_at g.d g.mode i + slot_bytes g.d g.mode ≤ slot_at g.d g.mode a.id)
          apart (yes lt) n = inl (omega (arith, place a.id i (slot_bytes g.d g.mode) lt, length_stored g.d g.mode a.v s.vector))
          apart (no ge) n = let gt : i < a.id = omega arith in inr (place i a.id (slot_bytes g.d g.mode) gt)

  -- ---- from an empty index

  stored_empty : (i : ℕ) → i < g.cap → stored_at g.d g.mode (empty_ix g).vecs i ≡ empty (slot_bytes g.d g.mode)
  unfolding empty_ix
  stored_empty i h =
      let le : slot_bytes g.d g.mode ≤ vector_bytes g.d g.cap g.mode - slot_at g.d g.mode i = omega (arith, place i g.cap (slot_bytes g.d g.mode) h) in
      ap (λ (r : List ℕ). take (slot_bytes g.d g.mode) r) (drop_zeros (slot_at g.d g.mode i) (vector_bytes g.d g.cap g.mode)) ∙ take_zeros _ _ le

  no_marks : (i : ℕ) → has (empty_ix g).marks i ≡ 0
  unfolding empty_ix
  no_marks i = has_empty (set_words g.cap) i

  no_faces : (k : ℕ) → has (empty_ix g).faces k ≡ 0
  unfolding empty_ix
  no_faces k = has_empty (face_words g.d g.n g.cap) k

  mark_zeros : Words (empty_ix g).marks
  unfolding empty_ix
  mark_zeros = words_empty (set_words g.cap)

  face_zeros : Words (empty_ix g).faces
  unfolding empty_ix
  face_zeros = words_empty (face_words g.d g.n g.cap)

  pub own_same : (ix : Ix) → SameLen ix (empty_ix g) → own_ok_ix g ix ≡ true
  unfolding empty_ix
  own_same ix s =
      own_good g.d g.n g.cap g.mode _ _ _ (s.faces ∙ length-replicate (face_words g.d g.n g.cap) 0) (s.marks ∙ length-replicate (set_words g.cap) 0)
      (s.vecs ∙ length-replicate (vector_bytes g.d g.cap g.mode) 0)

  pub grown_puts : (xs : List Addition) → Grown g bs xs (puts g bs xs (empty_ix g))
  grown_puts xs =
      record {
        lengths = own_same (puts g bs xs (empty_ix g)) (puts_same g bs xs (empty_ix g));
        faces =
            λ (k : ℕ). look_puts (face_among g bs k g.n) (λ (a : Addition). 1) (λ (ix : Ix). has ix.faces k) (face_law k) xs (empty_ix g) (same_refl (empty_ix g))
            ∙ ap (λ (o : ℕ). last_or (taken_at g bs k) (λ (a : Addition). 1) xs o) (no_faces k);
        face_words_low = keep_puts (λ (ix : Ix). Words ix.faces) face_words_law xs (empty_ix g) face_zeros;
        marks =
            λ (i : ℕ). look_puts (λ (a : Addition). eqb a.id i) (λ (a : Addition). 1) (λ (ix : Ix). has ix.marks i) (mark_law i) xs (empty_ix g) (same_refl (empty_ix g))
            ∙ ap (λ (o : ℕ). last_or (taken_as g bs i) (λ (a : Addition). 1) xs o) (no_marks i);
        mark_words = keep_puts (λ (ix : Ix). Words ix.marks) mark_words_law xs (empty_ix g) mark_zeros;
        vecs =
            λ (i : ℕ) (h : i < g.cap).
            look_puts (λ (a : Addition). eqb a.id i) (λ (a : Addition). lower_bytes g.mode (normalized a.v)) (λ (ix : Ix). stored_at g.d g.mode ix.vecs i) (vec_law i h) xs (empty_ix g) (same_refl (empty_ix g))
            ∙ ap (λ (o : List ℕ). last_or (taken_as g bs i) (λ (a : Addition). lower_bytes g.mode (normalized a.v)) xs o) (stored_empty i h);
      }

  -- THE FINAL INDEX: additions to an empty index leave the index that Grown says, whatever work memory the calls are lent
  pub grown_run : (cs : List Call) → WorkLent g cs → Grown g bs (whats cs) (run g bs cs (empty_ix g))
  grown_run cs l = subst (λ (x : Ix). Grown g bs (whats cs) x) (sym (run_is g bs cs (empty_ix g) l)) (grown_puts (whats cs))

  -- and Grown says it all: two indexes of which it holds are equal, byte for byte
  pub grown_once : geo_ok g.d g.n g.cap g.mode ≡ true → (xs : List Addition) (a b : Ix) → Grown g bs xs a → Grown g bs xs b → a ≡ b
  grown_once good xs a b p q =
      let s = own_sized g.d g.n g.cap g.mode _ _ _ good p.lengths in
      let t = own_sized g.d g.n g.cap g.mode _ _ _ good q.lengths in
      ix_eq (same_words a.faces b.faces (s.faces ∙ sym t.faces) p.face_words_low q.face_words_low (λ k. p.faces k ∙ sym (q.faces k)))
      (same_words a.marks b.marks (s.marks ∙ sym t.marks) p.mark_words q.mark_words (λ i. p.marks i ∙ sym (q.marks i)))
      (parts_ext g.cap (slot_bytes g.d g.mode) a.vecs b.vecs s.vecs t.vecs (λ i h. p.vecs i h ∙ sym (q.vecs i h)))
