-- Additions dealt to several empty indexes, which are merged in any order and grouping, give the index that one order of them gives. Assumes nothing.
use Prim.Native.Nat.{ℕ, zero, suc, ◌+◌, ◌*◌, ◌≤◌, ◌<◌, min}
use mathlib.Core.Path.{◌≡◌, refl, sym, ap, ap₂, ◌∙◌, subst}
use mathlib.Core.List.{List, [], ◌∷◌, ◌++◌}
use mathlib.Core.Bool.{Bool, true, false}
use mathlib.Core.Logic.{◌⊎◌, inl, inr, ⊎_elim}
use native.Mathlib.Omega.{arith}
use native.Mathlib.Decide.{ℕ_discrete, dec_lt}
use native.Mathlib.Nat.{not-suc-le-zero}
use borrow.Author.Tests.{eqb-true, eq-eqb, ne_eqb}
use lib.Dec.{eqb}
use lib.Ieee.{Float}
use lib.ListN.{length, take, drop, length-drop}
use lib.Seq.{sets, length-take-le}
use Rattle.paper.specs.Choice.{◌and◌, pick}
use Rattle.paper.specs.Geometry.{Geo, geo_ok, face_words, set_words}
use Rattle.index_memory.specs.Memory.{Ix, empty_ix, face_bit, slot_bytes, float_zeros}
use Rattle.index_memory.proofs.Places.{place, mark_low}
use Rattle.index_memory.proofs.Stores.{sets_comm, sets_over, part_sets, part_same}
use Rattle.bitmaps.specs.Words.{has, holds, union, shared, inserted, empty, is_empty}
use Rattle.bitmaps.proofs.Zip.{by_word_length}
use lib.Bits.{bit_or}
use Rattle.vector.specs.Norm.{normalized}
use Rattle.quantization.specs.Stored.{lower_bytes}
use Rattle.adding.specs.Adding.{face_slot, with_faces, with_vector, added_ix, Shaped}
use Rattle.adding.proofs.Accepted.{length_stored}
use Rattle.adding.proofs.Faces.{length_faces}
use Rattle.merging.proofs.Merged.{length_copied}
use Rattle.merging.specs.Merging.{copied, merged_ix, merge_refusal, merge_of}
use Rattle.order_free.specs.Order.{Addition, Call, whats, WorkLent, run, Shuffle, Fresh, Distinct, Deal, one, two, dealt, built, AllAccepted}
use Rattle.order_free.specs.Grown.{last_or, taken, taken_as, mark_of}
use Rattle.bitmaps.proofs.Members.{has_empty}
use Rattle.order_free.proofs.Words.{union_inserted, union_empty, has_put, share_none}
use Rattle.order_free.proofs.Orders.{ix_eq, SameLen, same_trans, same_sym, num, num_same, put, puts, put_same, puts_same, shape_good, run_is, distinct_shuffle, puts_shuffle}
use Rattle.order_free.proofs.Grows.{grown_puts}

-- ---- copied slots

-- an index without marks copies nothing
copied_none : (size k n : ℕ) (from vs : List ℕ) → copied size k (empty n) from vs ≡ vs
unfolding copied
copied_none size zero n from vs = refl
copied_none size (suc k) n from vs =
    ap (λ (x : ℕ). pick (eqb x 1) (sets (copied size k (empty n) from vs) (k * size) (take size (drop (k * size) from))) (copied size k (empty n) from vs)) (has_empty n k)
    ∙ copied_none size k n from vs

-- an index to merge from with one id more, whose slot holds xs
module _ (size id : ℕ) (ms from vs xs : List ℕ) (lm : id < length ms * 64) (lx : length xs ≡ size) (lf : id * size + size ≤ length from) where
  abbrev ms' : List ℕ
  ms' = inserted ms id

  abbrev from' : List ℕ
  from' = sets from (id * size) xs

  abbrev part : ℕ → List ℕ → List ℕ
  part k l = take size (drop (k * size) l)

  holds_same : holds ms' id ≡ true
  holds_same = ap (λ (x : ℕ). eqb x 1) (has_put ms id id lm ∙ ap (λ (b : Bool). pick b 1 (has ms id)) (eq-eqb id id refl))

  holds_other : (k : ℕ) → (id ≡ k → ⊥) → holds ms' k ≡ holds ms k
  holds_other k ne = ap (λ (x : ℕ). eqb x 1) (has_put ms id k lm ∙ ap (λ (b : Bool). pick b 1 (has ms k)) (ne_eqb id k ne))

  part_kept : (k : ℕ) → (id ≡ k → ⊥) → part k from' ≡ part k from
  part_kept k h = part_sets xs from (k * size) size (id * size) (go (dec_lt id k))
    where
      go : Dec (id < k) → (id * size + length xs ≤ k * size) ⊎ (k * size + size ≤ id * size)
      go (yes lt) = inl (omega (arith, place id k size lt))
      go (no ge) = let gt : k < id = omega arith in inr (omega (arith, place k id size gt))

  pick_three : (b b' : Bool) (x x' y y' : List ℕ) → b ≡ b' → x ≡ x' → y ≡ y' → pick b x y ≡ pick b' x' y'
  pick_three b b' x x' y y' p q r = rw (p, q, r) refl

  copy_low : (k : ℕ) → k ≤ id → copied size k ms' from' vs ≡ copied size k ms from vs
  unfolding copied
  copy_low zero h = refl
  copy_low (suc k) h =
      let le : k ≤ id = omega arith in
      let ne : (id ≡ k → ⊥) = λ e. omega arith in
      let ih : copied size k ms' from' vs ≡ copied size k ms from vs = copy_low k le in
      pick_three _ _ _ _ _ _ (holds_other k ne) (ap₂ (λ (x y : List ℕ). sets x (k * size) y) ih (part_kept k ne)) ih

  -- at the id itself, and past it
  over : (b : Bool) (x old : List ℕ) → length old ≡ size → sets x (id * size) xs ≡ sets (pick b (sets x (id * size) old) x) (id * size) xs
  over true x old e = sym (sets_over old xs x (id * size) (e ∙ sym lx))
  over false x old e = refl

  past : (b : Bool) (x new : List ℕ) (k : ℕ) → id < k → pick b (sets (sets x (id * size) xs) (k * size) new) (sets x (id * size) xs) ≡ sets (pick b (sets x (k * size) new) x) (id * size) xs
  past true x new k lt = sets_comm new xs x (id * size) (k * size) (inr (omega (arith, place id k size lt)))
  past false x new k lt = refl

  length_part : length (part id from) ≡ size
  length_part = length-take-le size (drop (id * size) from) (simp length-drop (omega arith))

  copy_high : (k : ℕ) → id < k → copied size k ms' from' vs ≡ sets (copied size k ms from vs) (id * size) xs
  unfolding copied
  copy_high zero h = absurd (not-suc-le-zero h)
  copy_high (suc k) h = go (ℕ_discrete id k) (copy_high k)
    where
      at_id : copied size (suc id) ms' from' vs ≡ sets (copied size (suc id) ms from vs) (id * size) xs
      at_id =
          let le : id ≤ id = omega arith in
          pick_three _ true _ (sets (copied size id ms from vs) (id * size) xs) _ (copied size id ms from vs) holds_same
          (ap₂ (λ (x y : List ℕ). sets x (id * size) y) (copy_low id le) (part_same xs from (id * size) size lx lf)) (copy_low id le)
          ∙ over (holds ms id) (copied size id ms from vs) (part id from) length_part

      go : Dec (id ≡ k) → (id < k → copied size k ms' from' vs ≡ sets (copied size k ms from vs) (id * size) xs)
          → copied size (suc k) ms' from' vs ≡ sets (copied size (suc k) ms from vs) (id * size) xs
      go (yes e) ih = subst (λ (j : ℕ). copied size (suc j) ms' from' vs ≡ sets (copied size (suc j) ms from vs) (id * size) xs) e at_id
      go (no ne) ih =
          let lt : id < k = omega arith in
          pick_three _ _ _ _ _ _ (holds_other k ne) (ap₂ (λ (x y : List ℕ). sets x (k * size) y) (ih lt) (part_kept k ne)) (ih lt)
          ∙ past (holds ms k) (copied size k ms from vs) (part k from) k lt

-- ---- one addition, merged: merging replays the second index's additions

faces_to : (d cap id : ℕ) (slot : ℕ → ℕ) (fs gs : List ℕ) → length fs ≡ length gs → (n : ℕ) → union fs (with_faces d cap id slot n gs) ≡ with_faces d cap id slot n (union fs gs)
unfolding with_faces
faces_to d cap id slot fs gs e zero = refl
faces_to d cap id slot fs gs e (suc b) =
    union_inserted fs (with_faces d cap id slot b gs) _ (e ∙ sym (length_faces d cap id slot b gs))
    ∙ ap (λ (r : List ℕ). inserted r (face_bit d cap b (slot b) id)) (faces_to d cap id slot fs gs e b)

module _ (g : Geo) (bs : List Float) where
  merge_put : (a : Addition) (s t : Ix) → SameLen s t
      → Shaped g a.id (length bs) (length t.faces) (length t.marks) (length t.vecs) (length (float_zeros g.d)) (length a.v)
      → merged_ix g s (added_ix g bs a.id a.v t) ≡ added_ix g bs a.id a.v (merged_ix g s t)
  unfolding merged_ix added_ix with_vector
  merge_put a s t e sh =
      let lm : a.id < length t.marks * 64 = subst (λ (k : ℕ). a.id < k * 64) (sym sh.marks) (mark_low g.cap a.id sh.facts.cap_even sh.id_low) in
      let lv : a.id * slot_bytes g.d g.mode + slot_bytes g.d g.mode ≤ length t.vecs =
      subst (λ (k : ℕ). a.id * slot_bytes g.d g.mode + slot_bytes g.d g.mode ≤ k) (sym sh.vectors) (place a.id g.cap (slot_bytes g.d g.mode) sh.id_low) in
      ix_eq (faces_to g.d g.cap a.id (face_slot g.d bs a.v) s.faces t.faces e.faces g.n)
      (union_inserted s.marks t.marks a.id e.marks)
      (copy_high (slot_bytes g.d g.mode) a.id t.marks t.vecs s.vecs (lower_bytes g.mode (normalized a.v)) lm
      (length_stored g.d g.mode a.v sh.vector) lv g.cap sh.id_low)

  merge_len : (s t : Ix) → SameLen (merged_ix g s t) s
  unfolding merged_ix
  merge_len s t =
      record {
        faces = by_word_length bit_or s.faces t.faces;
        marks = by_word_length bit_or s.marks t.marks;
        vecs = length_copied (slot_bytes g.d g.mode) g.cap t.marks t.vecs s.vecs;
      }

  merge_pick : (b : Bool) (s t : Ix) (p : Ix → Ix) → (b ≡ true → merged_ix g s (p t) ≡ p (merged_ix g s t)) → merged_ix g s (pick b (p t) t) ≡ pick b (p (merged_ix g s t)) (merged_ix g s t)
  merge_pick true s t p h = h refl
  merge_pick false s t p h = refl

  merge_one : (a : Addition) (s t : Ix) → SameLen s t → merged_ix g s (put g bs a t) ≡ put g bs a (merged_ix g s t)
  unfolding put
  merge_one a s t e =
      merge_pick (eqb (num g bs a t) 0) s t (added_ix g bs a.id a.v) (λ p. merge_put a s t e (shape_good g bs a t (eqb-true _ _ p)))
      ∙ ap (λ (r : ℕ). pick (eqb r 0) (added_ix g bs a.id a.v (merged_ix g s t)) (merged_ix g s t)) (num_same g bs a t (merged_ix g s t) (same_sym (same_trans (merge_len s t) e)))

  merge_puts : (ys : List Addition) (s t : Ix) → SameLen s t → merged_ix g s (puts g bs ys t) ≡ puts g bs ys (merged_ix g s t)
  unfolding puts
  merge_puts [] s t e = refl
  merge_puts (y ∷ ys) s t e =
      merge_puts ys s (put g bs y t) (same_trans e (same_sym (put_same g bs y t)))
      ∙ ap (λ (x : Ix). puts g bs ys x) (merge_one y s t e)

  merge_empty : (s : Ix) → merged_ix g s (empty_ix g) ≡ s
  unfolding merged_ix empty_ix
  merge_empty s =
      ix_eq (union_empty s.faces (face_words g.d g.n g.cap)) (union_empty s.marks (set_words g.cap))
      (copied_none (slot_bytes g.d g.mode) g.cap (set_words g.cap) _ s.vecs)

  pub puts_append : (xs ys : List Addition) (ix : Ix) → puts g bs (xs ++ ys) ix ≡ puts g bs ys (puts g bs xs ix)
  unfolding puts
  puts_append [] ys ix = refl
  puts_append (x ∷ xs) ys ix = puts_append xs ys (put g bs x ix)

-- ---- lists with no id in common

abbrev Cross : List Addition → List Addition → Type 0
Cross xs [] = Unit
Cross xs (y ∷ ys) = Fresh y.id xs × Cross xs ys

fresh_l : (k : ℕ) (xs ys : List Addition) → Fresh k (xs ++ ys) → Fresh k xs
fresh_l k [] ys f = tt
fresh_l k (x ∷ xs) ys f = (f.0, fresh_l k xs ys f.1)

fresh_r : (k : ℕ) (xs ys : List Addition) → Fresh k (xs ++ ys) → Fresh k ys
fresh_r k [] ys f = f
fresh_r k (x ∷ xs) ys f = fresh_r k xs ys f.1

distinct_l : (xs ys : List Addition) → Distinct (xs ++ ys) → Distinct xs
distinct_l [] ys f = tt
distinct_l (x ∷ xs) ys f = (fresh_l x.id xs ys f.0, distinct_l xs ys f.1)

distinct_r : (xs ys : List Addition) → Distinct (xs ++ ys) → Distinct ys
distinct_r [] ys f = f
distinct_r (x ∷ xs) ys f = distinct_r xs ys f.1

cross_none : (ys : List Addition) → Cross [] ys
cross_none [] = tt
cross_none (y ∷ ys) = (tt, cross_none ys)

cross_more : (x : Addition) (xs ys : List Addition) → Fresh x.id ys → Cross xs ys → Cross (x ∷ xs) ys
cross_more x xs [] f c = tt
cross_more x xs (y ∷ ys) f c = ((λ e. f.0 (sym e), c.0), cross_more x xs ys f.1 c.1)

cross_of : (xs ys : List Addition) → Distinct (xs ++ ys) → Cross xs ys
cross_of [] ys f = cross_none ys
cross_of (x ∷ xs) ys f = cross_more x xs ys (fresh_r x.id xs ys f.0) (cross_of xs ys f.1)

-- an id either stands in no addition of a list, or in one
abbrev Stands : ℕ → List Addition → Type 0
Stands k [] = ⊥
Stands k (a ∷ more) = (a.id ≡ k) ⊎ Stands k more

stands_or : (k : ℕ) (xs : List Addition) → Fresh k xs ⊎ Stands k xs
stands_or k [] = inl tt
stands_or k (x ∷ xs) = go (ℕ_discrete x.id k) (stands_or k xs)
  where
    go : Dec (x.id ≡ k) → Fresh k xs ⊎ Stands k xs → Fresh k (x ∷ xs) ⊎ Stands k (x ∷ xs)
    go (yes e) r = inr (inl e)
    go (no ne) (inl f) = inl (ne, f)
    go (no ne) (inr s) = inr (inr s)

stands_not : (k : ℕ) (xs : List Addition) → Fresh k xs → Stands k xs → ⊥
stands_not k [] f s = s
stands_not k (x ∷ xs) f (inl e) = f.0 e
stands_not k (x ∷ xs) f (inr s) = stands_not k xs f.1 s

cross_fresh : (k : ℕ) (xs ys : List Addition) → Cross xs ys → Stands k xs → Fresh k ys
cross_fresh k xs [] c s = tt
cross_fresh k xs (y ∷ ys) c s = (λ (e : y.id ≡ k). stands_not k xs (subst (λ (i : ℕ). Fresh i xs) e c.0) s, cross_fresh k xs ys c.1 s)

module _ (g : Geo) (bs : List Float) where
  no_and : (b : Bool) → (b and false) ≡ false
  no_and true = refl
  no_and false = refl

  -- an id that stands in no addition has no mark
  fresh_mark : (i : ℕ) (xs : List Addition) (o : ℕ) → Fresh i xs → last_or (taken_as g bs i) (λ (a : Addition). 1) xs o ≡ o
  unfolding last_or
  fresh_mark i [] o f = refl
  fresh_mark i (x ∷ xs) o f =
      let no : taken_as g bs i x ≡ false = ap (λ (b : Bool). taken g bs x and b) (ne_eqb x.id i f.0) ∙ no_and (taken g bs x) in
      ap (λ (b : Bool). last_or (taken_as g bs i) (λ (a : Addition). 1) xs (pick b 1 o)) no ∙ fresh_mark i xs o f.1

  not_both : (xs ys : List Addition) → Cross xs ys → (i : ℕ) → min (mark_of g bs xs i) (mark_of g bs ys i) ≡ 0
  not_both xs ys c i = ⊎_elim left right (stands_or i xs)
    where
      left : Fresh i xs → min (mark_of g bs xs i) (mark_of g bs ys i) ≡ 0
      left f = omega (arith, fresh_mark i xs 0 f)

      right : Stands i xs → min (mark_of g bs xs i) (mark_of g bs ys i) ≡ 0
      right s = omega (arith, fresh_mark i ys 0 (cross_fresh i xs ys c s))

  -- ---- two indexes from additions with different ids merge to the index of both

  module _ (good : geo_ok g.d g.n g.cap g.mode ≡ true) where
    abbrev of : List Addition → Ix
    of xs = puts g bs xs (empty_ix g)

    marks_apart : (xs ys : List Addition) → Cross xs ys → is_empty (shared (of xs).marks (of ys).marks) ≡ true
    marks_apart xs ys c =
        let p = grown_puts g bs xs in
        let q = grown_puts g bs ys in
        share_none (of xs).marks (of ys).marks (same_trans (puts_same g bs xs (empty_ix g)) (same_sym (puts_same g bs ys (empty_ix g)))).marks p.mark_words q.mark_words
        (λ i. ap₂ (λ (x y : ℕ). min x y) (p.marks i) (q.marks i) ∙ not_both xs ys c i)

    merge_no : (xs ys : List Addition) → Cross xs ys → merge_refusal g (of xs) (of ys) ≡ 0
    unfolding merge_refusal
    merge_no xs ys c = rw (good, (grown_puts g bs xs).lengths, (grown_puts g bs ys).lengths, marks_apart xs ys c)

    merge_all : (xs ys : List Addition) → merged_ix g (of xs) (of ys) ≡ of (xs ++ ys)
    merge_all xs ys =
        merge_puts g bs ys (of xs) (empty_ix g) (puts_same g bs xs (empty_ix g))
        ∙ ap (λ (x : Ix). puts g bs ys x) (merge_empty g bs (of xs)) ∙ sym (puts_append g bs xs ys (empty_ix g))

    merge_answer : (xs ys : List Addition) → Cross xs ys → (merge_of g (of xs) (of ys)).answer ≡ 0
    unfolding merge_of
    merge_answer xs ys c = merge_no xs ys c

    merge_index : (xs ys : List Addition) → Cross xs ys → (merge_of g (of xs) (of ys)).ix ≡ of (xs ++ ys)
    unfolding merge_of
    merge_index xs ys c = ap (λ (r : ℕ). pick (eqb r 0) (merged_ix g (of xs) (of ys)) (of xs)) (merge_no xs ys c) ∙ merge_all xs ys

    -- ---- any tree of merges

    whats_append : (cs ds : List Call) → whats (cs ++ ds) ≡ whats cs ++ whats ds
    whats_append [] ds = refl
    whats_append (c ∷ cs) ds = ap (λ (r : List Addition). c.what ∷ r) (whats_append cs ds)

    lent_l : (cs ds : List Call) → WorkLent g (cs ++ ds) → WorkLent g cs
    lent_l [] ds l = tt
    lent_l (c ∷ cs) ds l = (l.0, lent_l cs ds l.1)

    lent_r : (cs ds : List Call) → WorkLent g (cs ++ ds) → WorkLent g ds
    lent_r [] ds l = l
    lent_r (c ∷ cs) ds l = lent_r cs ds l.1

    built_is : (t : Deal) → WorkLent g (dealt t) → Distinct (whats (dealt t)) → (built g bs t ≡ of (whats (dealt t))) × AllAccepted g bs t
    unfolding built
    built_is (one cs) l f = (run_is g bs cs (empty_ix g) l, tt)
    built_is (two p q) l f =
        let f' : Distinct (whats (dealt p) ++ whats (dealt q)) = subst (λ (r : List Addition). Distinct r) (whats_append (dealt p) (dealt q)) f in
        let c : Cross (whats (dealt p)) (whats (dealt q)) = cross_of (whats (dealt p)) (whats (dealt q)) f' in
        let hl = built_is p (lent_l (dealt p) (dealt q) l) (distinct_l (whats (dealt p)) (whats (dealt q)) f') in
        let hr = built_is q (lent_r (dealt p) (dealt q) l) (distinct_r (whats (dealt p)) (whats (dealt q)) f') in (
          ap₂ (λ (x y : Ix). (merge_of g x y).ix) hl.0 hr.0 ∙ merge_index (whats (dealt p)) (whats (dealt q)) c ∙ ap of (sym (whats_append (dealt p) (dealt q))),
          (ap₂ (λ (x y : Ix). (merge_of g x y).answer) hl.0 hr.0 ∙ merge_answer (whats (dealt p)) (whats (dealt q)) c, hl.1, hr.1),
        )

    -- DEMAND 3, merging: dealt out in any way to empty indexes, which are merged in any order and grouping, additions with different ids give the
    -- index that any order of them gives, every merge answers 0, and no work memory matters
    pub any_deal : (cs : List Call) → WorkLent g cs → Distinct (whats cs) → (t : Deal) → WorkLent g (dealt t) → Shuffle (whats cs) (whats (dealt t))
        → (built g bs t ≡ run g bs cs (empty_ix g)) × AllAccepted g bs t
    any_deal cs l f t m s =
        let b = built_is t m (distinct_shuffle s f) in
        (b.0 ∙ sym (puts_shuffle g bs s f (empty_ix g)) ∙ sym (run_is g bs cs (empty_ix g) l), b.1)
