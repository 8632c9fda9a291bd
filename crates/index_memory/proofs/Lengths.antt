-- What the tests of lengths give. Assumes nothing.
use Prim.Native.Nat.{ℕ}
use mathlib.Core.Path.{◌≡◌, refl}
use mathlib.Core.Bool.{Bool, true, false}
use native.Mathlib.Omega.{arith}
use borrow.Author.Tests.{eqb-true, eq-eqb}
use lib.Dec.{eqb}
use lib.ListN.{length-replicate}
use Rattle.paper.specs.Choice.{◌and◌, refuse}
use Rattle.paper.specs.Geometry.{Geo, geo_ok, set_words, bases_len, face_words, vector_bytes}
use Rattle.bitmaps.specs.Words.{empty}
use Rattle.paper.proofs.Choice.{and_l, and_r}
use Rattle.paper.proofs.GeometryFacts.{geo_facts}
use Rattle.index_memory.specs.Memory.{ix_of, store_ok, own_ok, own_ok_ix, bases_ok, own_refusal, empty_ix, StoreSized, Sized}

pub store_sized : (d cap mode lm lv : ℕ) → store_ok d cap mode lm lv ≡ true → StoreSized d cap mode lm lv
unfolding store_ok
store_sized d cap mode lm lv e =
    record {
      marks = eqb-true _ _ (and_l (eqb lm (set_words cap)) _ e);
      vecs = eqb-true _ _ (and_r (eqb lm (set_words cap)) _ e);
    }

pub own_sized : (d n cap mode lf lm lv : ℕ) → geo_ok d n cap mode ≡ true → own_ok d n cap mode lf lm lv ≡ true → Sized d n cap mode lf lm lv
unfolding own_ok
own_sized d n cap mode lf lm lv g e =
    let s = store_sized d cap mode lm lv (and_r (eqb lf (face_words d n cap)) _ e) in
    record {
      facts = geo_facts d n cap mode g;
      faces = eqb-true _ _ (and_l (eqb lf (face_words d n cap)) _ e);
      marks = s.marks;
      vecs = s.vecs;
    }

pub bases_long : (d n lb : ℕ) → bases_ok d n lb ≡ true → lb ≡ bases_len d n
unfolding bases_ok
bases_long d n lb e = eqb-true _ _ e

-- and the other way round
pub own_good : (d n cap mode lf lm lv : ℕ) → lf ≡ face_words d n cap → lm ≡ set_words cap → lv ≡ vector_bytes d cap mode → own_ok d n cap mode lf lm lv ≡ true
unfolding own_ok store_ok
own_good d n cap mode lf lm lv f m v = simp (eq-eqb _ _ f, eq-eqb _ _ m, eq-eqb _ _ v)

no_one : ◌≡◌ {A = ℕ} 1 0 → ⊥
no_one e = omega arith

no_two : ◌≡◌ {A = ℕ} 2 0 → ⊥
no_two e = omega arith

-- neither 1 nor 2: both tests passed
both_good : (a b : Bool) → refuse 1 a (refuse 2 b 0) ≡ 0 → (a ≡ true) × (b ≡ true)
both_good true true e = (refl, refl)
both_good true false e = absurd (no_two e)
both_good false b e = absurd (no_one e)

one_bad : (a b c : Bool) (r : ℕ) → (refuse 1 a (refuse 2 b 0) ≡ 0 → ⊥) → refuse 1 a (refuse 2 b 0) ≡ refuse 1 a (refuse 2 (b and c) r)
one_bad true true c r h = absurd (h refl)
one_bad true false c r h = refl
one_bad false b c r h = refl

module _ (d n cap mode lf lm lv : ℕ) where
  pub own_tests : own_refusal d n cap mode lf lm lv ≡ 0 → (geo_ok d n cap mode ≡ true) × (own_ok d n cap mode lf lm lv ≡ true)
  unfolding own_refusal
  own_tests e = both_good (geo_ok d n cap mode) (own_ok d n cap mode lf lm lv) e

  -- one of the two, whatever else a call tests afterwards
  pub own_first : (c : Bool) (r : ℕ) → (own_refusal d n cap mode lf lm lv ≡ 0 → ⊥)
      → own_refusal d n cap mode lf lm lv ≡ refuse 1 (geo_ok d n cap mode) (refuse 2 (own_ok d n cap mode lf lm lv and c) r)
  unfolding own_refusal
  own_first c r h = one_bad (geo_ok d n cap mode) (own_ok d n cap mode lf lm lv) c r h

-- zeros of the right lengths are the empty index, and it has the right lengths
pub empty_is : (g : Geo) (lf lm lv : ℕ) → Sized g.d g.n g.cap g.mode lf lm lv → ix_of (empty lf) (empty lm) (empty lv) ≡ empty_ix g
unfolding empty_ix
empty_is g lf lm lv s = rw (s.faces, s.marks, s.vecs) refl

pub empty_own : (g : Geo) → own_ok_ix g (empty_ix g) ≡ true
unfolding empty_ix
empty_own g =
    own_good g.d g.n g.cap g.mode _ _ _ (length-replicate (face_words g.d g.n g.cap) 0) (length-replicate (set_words g.cap) 0)
    (length-replicate (vector_bytes g.d g.cap g.mode) 0)
