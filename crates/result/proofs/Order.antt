-- Feeding keeps a list in order, over any comparison of which no two scores hold both ways round; and the larger score first is one. Assumes nothing.
use mathlib.Core.Path.{◌≡◌, refl, sym, ap}
use mathlib.Core.Bool.{Bool, true, false, not}
use mathlib.Core.List.{List, [], ◌∷◌}
use Prim.Native.Nat.{ℕ, suc, zero, ◌*◌}
use native.Mathlib.Omega.{arith}
use borrow.Author.Tests.{ltb-true, le-ltb}
use lib.Dec.{eqb, ltb}
use lib.Ieee.{Float, nan, inf, fin, up, down, lt, below}
use lib.ListN.{take}
use Rattle.paper.specs.Choice.{pick}
use Rattle.paper.proofs.Choice.{and_l, and_r}
use Rattle.result.specs.Ranked.{Entry, larger, placed, stays, fed, fed_list, in_order, OneWay}

module _ (before : Float → Float → Bool) where
  -- whether x may stand ahead of the list
  abbrev pub ahead : Entry → List Entry → Bool
  ahead x [] = true
  ahead x (y ∷ ys) = not (before y.sim x.sim)

  pub order_of : (x : Entry) (ys : List Entry) → in_order before (x ∷ ys) ≡ true → (ahead x ys ≡ true) × (in_order before ys ≡ true)
  unfolding in_order
  order_of x [] h = (refl, refl)
  order_of x (y ∷ ys) h = (and_l (not (before y.sim x.sim)) _ h, and_r (not (before y.sim x.sim)) _ h)

  in_order_lem : (x : Entry) (ys : List Entry) → ahead x ys ≡ true → in_order before ys ≡ true → in_order before (x ∷ ys) ≡ true
  unfolding in_order
  in_order_lem x [] a o = refl
  in_order_lem x (y ∷ ys) a o = rw (a, o)

  ahead_pick : (x : Entry) (b : Bool) (ys zs : List Entry) → ahead x ys ≡ true → ahead x zs ≡ true → ahead x (pick b ys zs) ≡ true
  ahead_pick x true ys zs h k = h
  ahead_pick x false ys zs h k = k

  ahead_placed : (e x : Entry) (xs : List Entry) → before e.sim x.sim ≡ false → ahead x xs ≡ true → ahead x (placed before e xs) ≡ true
  ahead_placed e x [] n h = ap not n
  ahead_placed e x (y ∷ ys) n h =
      ahead_pick x (eqb y.key e.key) (y ∷ ys) (pick (before e.sim y.sim) (e ∷ y ∷ ys) (y ∷ placed before e ys)) h
      (ahead_pick x (before e.sim y.sim) (e ∷ y ∷ ys) (y ∷ placed before e ys) (ap not n) h)

  ahead_take : (x : Entry) (k : ℕ) (ys : List Entry) → ahead x ys ≡ true → ahead x (take k ys) ≡ true
  ahead_take x zero ys h = refl
  ahead_take x (suc k) [] h = refl
  ahead_take x (suc k) (y ∷ ys) h = h

  take_order : (k : ℕ) (es : List Entry) → in_order before es ≡ true → in_order before (take k es) ≡ true
  unfolding in_order
  take_order zero es h = refl
  take_order (suc k) [] h = refl
  take_order (suc k) (x ∷ xs) h = let o = order_of x xs h in in_order_lem x (take k xs) (ahead_take x k xs o.0) (take_order k xs o.1)

  pick_order : (b : Bool) (xs ys : List Entry) → (b ≡ true → in_order before xs ≡ true) → (b ≡ false → in_order before ys ≡ true) → in_order before (pick b xs ys) ≡ true
  pick_order true xs ys h k = h refl
  pick_order false xs ys h k = k refl

  module _ (one_way : OneWay before) where
    pub placed_order : (e : Entry) (es : List Entry) → in_order before es ≡ true → in_order before (placed before e es) ≡ true
    unfolding in_order
    placed_order e [] h = refl
    placed_order e (x ∷ xs) h =
        pick_order (eqb x.key e.key) (x ∷ xs) (pick (before e.sim x.sim) (e ∷ x ∷ xs) (x ∷ placed before e xs)) (λ _. h) (λ _.
        pick_order (before e.sim x.sim) (e ∷ x ∷ xs) (x ∷ placed before e xs)
        (λ p. in_order_lem e (x ∷ xs) (ap not (one_way e.sim x.sim p)) h)
        (λ p. let o = order_of x xs h in in_order_lem x (placed before e xs) (ahead_placed e x xs p o.0) (placed_order e xs o.1)))

    pub fed_order : (k : ℕ) (e : Entry) (es : List Entry) → in_order before es ≡ true → in_order before (fed before k e es) ≡ true
    unfolding fed
    fed_order k e es h = pick_order (stays before k e es) es (take k (placed before e es)) (λ _. h) (λ _. take_order k (placed before e es) (placed_order e es h))

    pub fed_list_order : (k : ℕ) (xs es : List Entry) → in_order before es ≡ true → in_order before (fed_list before k xs es) ≡ true
    fed_list_order k [] es h = h
    fed_list_order k (x ∷ xs) es h = fed_list_order k xs (fed before k x es) (fed_order k x es h)

-- ---- of two floats at most one is less than the other

one_less : (a b : ℕ) → ltb a b ≡ true → ltb b a ≡ false
one_less a b h = le-ltb b a (omega (arith, ltb-true a b h))

below_one : (s : Bool) (a : ℕ) (t : Bool) (b : ℕ) → below s a t b ≡ true → below t b s a ≡ false
below_one false a false b h = one_less a b h
below_one false a true b h = let z : ◌≡◌ {A = ℕ} 0 1 = cc in absurd (omega arith)
below_one true a false b h = refl
below_one true a true b h = one_less b a h

lt_one : (x y : Float) → lt x y ≡ true → lt y x ≡ false
unfolding lt
lt_one nan y h = let z : ◌≡◌ {A = ℕ} 0 1 = cc in absurd (omega arith)
lt_one (inf s) nan h = refl
lt_one (inf true) (inf true) h = refl
lt_one (inf true) (inf false) h = refl
lt_one (inf false) (inf true) h = sym h
lt_one (inf false) (inf false) h = refl
lt_one (inf s) (fin t n d) h = ap not h
lt_one (fin s m e) nan h = refl
lt_one (fin s m e) (inf true) h = let z : ◌≡◌ {A = ℕ} 0 1 = cc in absurd (omega arith)
lt_one (fin s m e) (inf false) h = refl
lt_one (fin s m e) (fin t n d) h = below_one s (m * up e * down d) t (n * up d * down e) h

pub larger_one_way : OneWay larger
larger_one_way x y h = lt_one y x h
