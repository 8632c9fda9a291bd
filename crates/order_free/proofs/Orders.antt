-- Additions commute: every order of additions in which no id stands twice gives each the same answer, and the same index. Assumes nothing.
use Prim.Native.Nat.{ℕ, zero, suc, ◌*◌}
use mathlib.Core.Path.{◌≡◌, refl, sym, ap, ◌∙◌, subst}
use mathlib.Core.List.{List, [], ◌∷◌}
use mathlib.Core.Bool.{Bool, true, false}
use borrow.Author.Tests.{eqb-true}
use lib.Dec.{eqb}
use lib.Ieee.{Float}
use lib.ListN.{length, length-replicate}
use lib.Seq.{length-sets}
use Rattle.paper.specs.Choice.{pick}
use Rattle.paper.specs.Geometry.{Geo, comp_size}
use Rattle.index_memory.specs.Memory.{Ix, ix_of, empty_ix, face_bit, slot_at, float_zeros}
use Rattle.index_memory.proofs.Stores.{sets_comm, places_apart}
use Rattle.bitmaps.specs.Words.{inserted}
use Rattle.vector.specs.Norm.{normalized}
use Rattle.quantization.specs.Stored.{lower_bytes}
use Rattle.adding.specs.Adding.{face_slot, with_faces, with_vector, added_ix, add_refusal, add_of, Shaped}
use Rattle.adding.proofs.Accepted.{length_stored, accepted_shape}
use Rattle.adding.proofs.Faces.{length_faces}
use Rattle.order_free.specs.Order.{Addition, Call, whats, WorkLent, answer, step, run, Shuffle, none, keep, swap, then, Fresh, Distinct}
use Rattle.order_free.proofs.Words.{inserted_comm, length_inserted}

-- ---- face bits

module _ (d cap id : ℕ) (slot : ℕ → ℕ) where
  faces_put : (n : ℕ) (fs : List ℕ) (k : ℕ) → with_faces d cap id slot n (inserted fs k) ≡ inserted (with_faces d cap id slot n fs) k
  unfolding with_faces
  faces_put zero fs k = refl
  faces_put (suc b) fs k =
      ap (λ (r : List ℕ). inserted r (face_bit d cap b (slot b) id)) (faces_put b fs k) ∙ inserted_comm (with_faces d cap id slot b fs) k _

faces_comm : (d cap : ℕ) (s t : ℕ → ℕ) (i j n k : ℕ) (fs : List ℕ)
    → with_faces d cap i s n (with_faces d cap j t k fs) ≡ with_faces d cap j t k (with_faces d cap i s n fs)
unfolding with_faces
faces_comm d cap s t i j n zero fs = refl
faces_comm d cap s t i j n (suc b) fs =
    faces_put d cap i s n (with_faces d cap j t b fs) _
    ∙ ap (λ (r : List ℕ). inserted r (face_bit d cap b (t b) j)) (faces_comm d cap s t i j n b fs)

-- ---- stored bytes

pub length_vec : (d mode id : ℕ) (v : List Float) (vs : List ℕ) → length (with_vector d mode id v vs) ≡ length vs
unfolding with_vector
length_vec d mode id v vs = length-sets vs (slot_at d mode id) (lower_bytes mode (normalized v))

vec_comm : (d mode i j : ℕ) (v u : List Float) (vs : List ℕ) → (i ≡ j → ⊥) → length v ≡ d → length u ≡ d
    → with_vector d mode j u (with_vector d mode i v vs) ≡ with_vector d mode i v (with_vector d mode j u vs)
unfolding with_vector
vec_comm d mode i j v u vs h p q =
    sets_comm (lower_bytes mode (normalized u)) (lower_bytes mode (normalized v)) vs _ _
    (places_apart i j (comp_size mode * d) _ _ h (length_stored d mode v p) (length_stored d mode u q))

-- ---- one addition

pub ix_eq : {f f' m m' v v' : List ℕ} → f ≡ f' → m ≡ m' → v ≡ v' → ix_of f m v ≡ ix_of f' m' v'
ix_eq {f} {f'} {m} {m'} {v} {v'} p q r = rw (p, q, r) refl

pub record SameLen (a b : Ix) : Type 0 where
  pub faces : length a.faces ≡ length b.faces
  pub marks : length a.marks ≡ length b.marks
  pub vecs : length a.vecs ≡ length b.vecs

pub same_refl : (a : Ix) → SameLen a a
same_refl a = record { faces = refl; marks = refl; vecs = refl }

pub same_trans : {a b c : Ix} → SameLen a b → SameLen b c → SameLen a c
same_trans s t = record { faces = s.faces ∙ t.faces; marks = s.marks ∙ t.marks; vecs = s.vecs ∙ t.vecs }

pub same_sym : {a b : Ix} → SameLen a b → SameLen b a
same_sym s = record { faces = sym s.faces; marks = sym s.marks; vecs = sym s.vecs }

module _ (g : Geo) (bs : List Float) where
  pub put_len : (id : ℕ) (v : List Float) (ix : Ix) → SameLen (added_ix g bs id v ix) ix
  unfolding added_ix
  put_len id v ix =
      record {
        faces = length_faces g.d g.cap id (face_slot g.d bs v) g.n ix.faces;
        marks = length_inserted ix.marks id;
        vecs = length_vec g.d g.mode id v ix.vecs;
      }

  put_put : (i j : ℕ) (v u : List Float) (ix : Ix) → (i ≡ j → ⊥) → length v ≡ g.d → length u ≡ g.d
      → added_ix g bs j u (added_ix g bs i v ix) ≡ added_ix g bs i v (added_ix g bs j u ix)
  unfolding added_ix
  put_put i j v u ix h p q =
      ix_eq (faces_comm g.d g.cap (face_slot g.d bs u) (face_slot g.d bs v) j i g.n g.n ix.faces) (inserted_comm ix.marks i j)
      (vec_comm g.d g.mode i j v u ix.vecs h p q)

  -- ---- the work memory doesn't matter, and the index only by its lengths

  -- the refusal of an addition, with zeros for work memory
  abbrev pub num : Addition → Ix → ℕ
  num a ix = add_refusal g bs a.id a.v ix (float_zeros g.d)

  pub num_is : (c : Call) (ix : Ix) → length c.work ≡ g.d → add_refusal g bs c.what.id c.what.v ix c.work ≡ num c.what ix
  unfolding add_refusal
  num_is c ix e = rw (e, length-replicate) refl

  pub num_same : (a : Addition) (ix ix' : Ix) → SameLen ix ix' → num a ix ≡ num a ix'
  unfolding add_refusal
  num_same a ix ix' s = rw (s.faces, s.marks, s.vecs) refl

  -- an addition, with any work memory
  unfoldable pub put : Addition → Ix → Ix
  put a ix = pick (eqb (num a ix) 0) (added_ix g bs a.id a.v ix) ix

  unfoldable pub puts : List Addition → Ix → Ix
  puts [] ix = ix
  puts (a ∷ more) ix = puts more (put a ix)

  pub step_is : (c : Call) (ix : Ix) → length c.work ≡ g.d → step g bs c ix ≡ put c.what ix
  unfolding step add_of put
  step_is c ix e = ap (λ (r : ℕ). pick (eqb r 0) (added_ix g bs c.what.id c.what.v ix) ix) (num_is c ix e)

  pub run_is : (cs : List Call) (ix : Ix) → WorkLent g cs → run g bs cs ix ≡ puts (whats cs) ix
  unfolding run puts
  run_is [] ix l = refl
  run_is (c ∷ cs) ix l = run_is cs (step g bs c ix) l.1 ∙ ap (λ (x : Ix). puts (whats cs) x) (step_is c ix l.0)

  pick_len : (b : Bool) (x y : Ix) → SameLen x y → SameLen (pick b x y) y
  pick_len true x y s = s
  pick_len false x y s = same_refl y

  pub put_same : (a : Addition) (ix : Ix) → SameLen (put a ix) ix
  unfolding put
  put_same a ix = pick_len (eqb (num a ix) 0) _ ix (put_len a.id a.v ix)

  pub shape_good : (a : Addition) (ix : Ix) → num a ix ≡ 0
      → Shaped g a.id (length bs) (length ix.faces) (length ix.marks) (length ix.vecs) (length (float_zeros g.d)) (length a.v)
  shape_good a ix e = accepted_shape g bs a.id a.v ix (float_zeros g.d) e

  both : (x y : Bool) (ix : Ix) (p q : Ix → Ix) → (x ≡ true → y ≡ true → q (p ix) ≡ p (q ix))
      → pick y (q (pick x (p ix) ix)) (pick x (p ix) ix) ≡ pick x (p (pick y (q ix) ix)) (pick y (q ix) ix)
  both true true ix p q h = h refl refl
  both true false ix p q h = refl
  both false true ix p q h = refl
  both false false ix p q h = refl

  put_after : (a b : Addition) (ix : Ix) → put b (put a ix) ≡ pick (eqb (num b ix) 0) (added_ix g bs b.id b.v (put a ix)) (put a ix)
  unfolding put
  put_after a b ix =
      ap (λ (r : ℕ). pick (eqb r 0) (added_ix g bs b.id b.v (put a ix)) (put a ix)) (num_same b _ ix (put_same a ix))

  put_comm : (a b : Addition) (ix : Ix) → (a.id ≡ b.id → ⊥) → put b (put a ix) ≡ put a (put b ix)
  unfolding put
  put_comm a b ix h =
      put_after a b ix
      ∙ both (eqb (num a ix) 0) (eqb (num b ix) 0) ix (added_ix g bs a.id a.v) (added_ix g bs b.id b.v)
      (λ p q. put_put a.id b.id a.v b.v ix h (shape_good a ix (eqb-true _ _ p)).vector (shape_good b ix (eqb-true _ _ q)).vector)
      ∙ sym (put_after b a ix)

  pub puts_same : (xs : List Addition) (ix : Ix) → SameLen (puts xs ix) ix
  unfolding puts
  puts_same [] ix = same_refl ix
  puts_same (a ∷ xs) ix = same_trans (puts_same xs (put a ix)) (put_same a ix)

-- ---- orders

fresh_shuffle : {xs ys : List Addition} (k : ℕ) → Shuffle xs ys → Fresh k xs → Fresh k ys
fresh_shuffle k none f = f
fresh_shuffle k (keep s) f = (f.0, fresh_shuffle k s f.1)
fresh_shuffle k swap f = (f.1.0, (f.0, f.1.1))
fresh_shuffle k (then s t) f = fresh_shuffle k t (fresh_shuffle k s f)

pub distinct_shuffle : {xs ys : List Addition} → Shuffle xs ys → Distinct xs → Distinct ys
distinct_shuffle none f = f
distinct_shuffle (keep {a = a} s) f = (fresh_shuffle a.id s f.0, distinct_shuffle s f.1)
distinct_shuffle swap f = ((λ e. f.0.0 (sym e), f.1.0), (f.0.1, f.1.1))
distinct_shuffle (then s t) f = distinct_shuffle t (distinct_shuffle s f)

module _ (g : Geo) (bs : List Float) where
  pub puts_shuffle : {xs ys : List Addition} → Shuffle xs ys → Distinct xs → (ix : Ix) → puts g bs xs ix ≡ puts g bs ys ix
  unfolding puts
  puts_shuffle none f ix = refl
  puts_shuffle (keep {a = a} s) f ix = puts_shuffle s f.1 (put g bs a ix)
  puts_shuffle (swap {a = a} {b = b} {xs = xs}) f ix = ap (λ (x : Ix). puts g bs xs x) (put_comm g bs a b ix (λ e. f.0.0 (sym e)))
  puts_shuffle (then s t) f ix = puts_shuffle s f ix ∙ puts_shuffle t (distinct_shuffle s f) ix

  run_same : (cs : List Call) → WorkLent g cs → (ix : Ix) → SameLen (run g bs cs ix) ix
  run_same cs l ix = subst (λ (x : Ix). SameLen x ix) (sym (run_is g bs cs ix l)) (puts_same g bs (whats cs) ix)

  -- DEMAND 3, answers: an addition's answer is the same after any additions, and whatever work memory the calls are lent
  pub answer_anywhere : (cs ds : List Call) → WorkLent g cs → WorkLent g ds → (c d : Call) → length c.work ≡ g.d → length d.work ≡ g.d → c.what ≡ d.what
      → answer g bs c (run g bs cs (empty_ix g)) ≡ answer g bs d (run g bs ds (empty_ix g))
  unfolding answer add_of
  answer_anywhere cs ds lc ld c d p q e =
      num_is g bs c _ p ∙ num_same g bs c.what _ _ (same_trans (run_same cs lc (empty_ix g)) (same_sym (run_same ds ld (empty_ix g))))
      ∙ ap (λ (a : Addition). num g bs a (run g bs ds (empty_ix g))) e ∙ sym (num_is g bs d _ q)

  -- DEMAND 3, the index: every order of additions with different ids gives the same index, byte for byte, from any index and so from an empty
  -- one, and whatever work memory the calls are lent
  pub run_shuffle : (cs ds : List Call) → WorkLent g cs → WorkLent g ds → Shuffle (whats cs) (whats ds) → Distinct (whats cs) → (ix : Ix) → run g bs cs ix ≡ run g bs ds ix
  run_shuffle cs ds lc ld s f ix = run_is g bs cs ix lc ∙ puts_shuffle s f ix ∙ sym (run_is g bs ds ix ld)
