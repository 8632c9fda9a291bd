-- What the first three tests of an addition give. Assumes nothing.
use Prim.Native.Nat.{ℕ, ◌≤◌}
use mathlib.Core.Path.{◌≡◌, sym, ◌∙◌}
use mathlib.Core.Bool.{Bool, true, false}
use native.Mathlib.Omega.{arith}
use borrow.Author.Tests.{ltb-true, eqb-true}
use lib.Dec.{ltb, eqb}
use Rattle.paper.specs.Choice.{pick, refuse}
use Rattle.paper.specs.Geometry.{Geo, geo_ok}
use Rattle.paper.specs.Refusals.{number_of}
use Rattle.paper.specs.declared.Refusal.{Refusal}
use Rattle.paper.proofs.Answering.{number_low}
use Rattle.paper.proofs.Choice.{and_l, and_r, refuse_ok, refuse_rest}
use Rattle.index_memory.specs.Memory.{own_ok, bases_ok, own_refusal}
use Rattle.index_memory.proofs.Lengths.{own_sized, bases_long, own_tests, own_first}
use Rattle.adding.specs.Adding.{lent_ok, lengths_ok, add_shape, Shaped}

no_one : ◌≡◌ {A = ℕ} 1 0 → ⊥
no_one e = omega arith

no_two : ◌≡◌ {A = ℕ} 2 0 → ⊥
no_two e = omega arith

no_three : ◌≡◌ {A = ℕ} 3 0 → ⊥
no_three e = omega arith

module _ (g : Geo) (id lb lf lm lv lw lx : ℕ) (e : add_shape g id lb lf lm lv lw lx ≡ 0) where
  geo_true : geo_ok g.d g.n g.cap g.mode ≡ true
  unfolding add_shape
  geo_true = refuse_ok (geo_ok g.d g.n g.cap g.mode) 1 _ no_one e

  rest : refuse 2 (lengths_ok g lb lf lm lv lw lx) (refuse 3 (ltb id g.cap) 0) ≡ 0
  unfolding add_shape
  rest = refuse_rest (geo_ok g.d g.n g.cap g.mode) 1 _ no_one e

  lengths_true : lengths_ok g lb lf lm lv lw lx ≡ true
  lengths_true = refuse_ok (lengths_ok g lb lf lm lv lw lx) 2 _ no_two rest

  lent_true : lent_ok g.d g.n lb lw lx ≡ true
  lent_true = and_r (own_ok g.d g.n g.cap g.mode lf lm lv) _ lengths_true

  id_true : ltb id g.cap ≡ true
  id_true = refuse_ok (ltb id g.cap) 3 0 no_three (refuse_rest (lengths_ok g lb lf lm lv lw lx) 2 (refuse 3 (ltb id g.cap) 0) no_two rest)

  pub shaped : Shaped g id lb lf lm lv lw lx
  unfolding lent_ok
  shaped =
      let o = own_sized g.d g.n g.cap g.mode lf lm lv geo_true (and_l (own_ok g.d g.n g.cap g.mode lf lm lv) _ lengths_true) in
      let l = and_r (bases_ok g.d g.n lb) _ lent_true in
      record {
        facts = o.facts;
        bases = bases_long g.d g.n lb (and_l (bases_ok g.d g.n lb) _ lent_true);
        faces = o.faces;
        marks = o.marks;
        vectors = o.vecs;
        work = eqb-true _ _ (and_l (eqb lw g.d) _ l);
        vector = eqb-true _ _ (and_r (eqb lw g.d) _ l);
        id_low = ltb-true _ _ id_true;
      }

pick_le : (b : Bool) (x y k : ℕ) → x ≤ k → y ≤ k → pick b x y ≤ k
pick_le true x y k p q = p
pick_le false x y k p q = q

pub shape_high : (g : Geo) (id lb lf lm lv lw lx : ℕ) → add_shape g id lb lf lm lv lw lx ≤ 3
unfolding add_shape
shape_high g id lb lf lm lv lw lx =
    pick_le (geo_ok g.d g.n g.cap g.mode) _ 1 3
    (pick_le (lengths_ok g lb lf lm lv lw lx) _ 2 3 (pick_le (ltb id g.cap) 0 3 3 (omega arith) (omega arith)) (omega arith)) (omega arith)

-- ---- the same three tests, as they are made

module _ (g : Geo) (id lb lf lm lv lw lx : ℕ) where
  pub own_refused : (r : Refusal) → number_of r ≡ own_refusal g.d g.n g.cap g.mode lf lm lv → number_of r ≡ add_shape g id lb lf lm lv lw lx
  unfolding add_shape
  own_refused r e =
      let low = number_low r in
      e ∙ own_first g.d g.n g.cap g.mode lf lm lv _ _ (λ z. omega arith)

  module _ (z : 0 ≡ own_refusal g.d g.n g.cap g.mode lf lm lv) where
    both : (geo_ok g.d g.n g.cap g.mode ≡ true) × (own_ok g.d g.n g.cap g.mode lf lm lv ≡ true)
    both = own_tests g.d g.n g.cap g.mode lf lm lv (sym z)

    pub lent_refused : lent_ok g.d g.n lb lw lx ≡ false → 2 ≡ add_shape g id lb lf lm lv lw lx
    unfolding add_shape
    lent_refused l = rw (both.0, both.1, l)

    pub id_decides : lent_ok g.d g.n lb lw lx ≡ true → refuse 3 (ltb id g.cap) 0 ≡ add_shape g id lb lf lm lv lw lx
    unfolding add_shape
    id_decides l = rw (both.0, both.1, l)
