-- What becomes of entries of different ids that are fed in turn: each is listed, or left out of a full list that it goes nowhere in. Over any comparison that goes
-- one way and through held scores. Assumes nothing.
use mathlib.Core.Path.{◌≡◌, refl, sym, ap, ◌∙◌, subst}
use mathlib.Core.Bool.{Bool, true, false}
use mathlib.Core.List.{List, [], ◌∷◌}
use Prim.Native.Nat.{ℕ, suc, zero, ◌+◌, ◌≤◌, min}
use native.Mathlib.Omega.{arith}
use borrow.Author.Tests.{not-true, eqb-true, ne_eqb}
use lib.Dec.{eqb}
use lib.Ieee.{Float}
use lib.ListN.{length, take, length-take}
use Rattle.paper.specs.Choice.{pick}
use Rattle.paper.proofs.Choice.{and_l, and_r}
use Rattle.result.specs.Lists.{all_of, Each, none, more, Some, here, later}
use Rattle.result.specs.Ranked.{Entry, held_e, placed, last_before, stays, fed, fed_list, in_order, OneWay, Through, NewTo, Apart, Outcome, listed, left_out}
use Rattle.result.proofs.Keeps.{placed_long, placed_all, fed_all_lem}
use Rattle.result.proofs.Order.{order_of, placed_order, fed_order}
use Rattle.result.proofs.Closed.{ahead_too}

-- ---- a feed lists nothing but what was listed and the new entry

module _ (P : Entry → Type 0) where
  pub each_take : (k : ℕ) (es : List Entry) → Each P es → Each P (take k es)
  each_take zero es q = none
  each_take (suc k) [] none = none
  each_take (suc k) (x ∷ es) (more h q) = more h (each_take k es q)

  each_first : (x : Entry) (es : List Entry) → Each P (x ∷ es) → P x
  each_first x es (more h q) = h

  each_pick : (b : Bool) (xs ys : List Entry) → Each P xs → Each P ys → Each P (pick b xs ys)
  each_pick true xs ys h g = h
  each_pick false xs ys h g = g

  some_pick : (b : Bool) (xs ys : List Entry) → Some P xs → Some P ys → Some P (pick b xs ys)
  some_pick true xs ys h g = h
  some_pick false xs ys h g = g

  module _ (e : Entry) (p : P e) (before : Float → Float → Bool) where
    each_placed : (es : List Entry) → Each P es → Each P (placed before e es)
    each_placed [] none = more p none
    each_placed (x ∷ es) (more h q) =
        each_pick (eqb x.key e.key) (x ∷ es) _ (more h q)
        (each_pick (before e.sim x.sim) (e ∷ x ∷ es) (x ∷ placed before e es) (more p (more h q)) (more h (each_placed es q)))

    pub each_fed : (k : ℕ) (es : List Entry) → Each P es → Each P (fed before k e es)
    unfolding fed
    each_fed k es q = each_pick (stays before k e es) es (take k (placed before e es)) q (each_take k (placed before e es) (each_placed es q))

-- ---- an entry among others

abbrev Is : Entry → Entry → Type 0
Is e x = x ≡ e

long_pick : (b : Bool) (xs ys : List Entry) (n : ℕ) → length xs ≡ n → length ys ≡ n → length (pick b xs ys) ≡ n
long_pick true xs ys n h g = h
long_pick false xs ys n h g = g

module _ (before : Float → Float → Bool) where
  -- what was listed is still there before the cut,
  placed_keeps : (x e : Entry) (es : List Entry) → Some (Is x) es → Some (Is x) (placed before e es)
  placed_keeps x e [] h = elim h [ ]
  placed_keeps x e (y ∷ ys) (here h) =
      some_pick (Is x) (eqb y.key e.key) (y ∷ ys) _ (here h)
      (some_pick (Is x) (before e.sim y.sim) (e ∷ y ∷ ys) (y ∷ placed before e ys) (later (here h)) (here h))
  placed_keeps x e (y ∷ ys) (later h) =
      some_pick (Is x) (eqb y.key e.key) (y ∷ ys) _ (later h)
      (some_pick (Is x) (before e.sim y.sim) (e ∷ y ∷ ys) (y ∷ placed before e ys) (later (later h)) (later (placed_keeps x e ys h)))

  -- and so is a new entry,
  placed_has : (e : Entry) (es : List Entry) → NewTo es e → Some (Is e) (placed before e es)
  placed_has e [] none = here refl
  placed_has e (y ∷ ys) (more h hs) =
      rw (ne_eqb y.key e.key h)
      (some_pick (Is e) (before e.sim y.sim) (e ∷ y ∷ ys) (y ∷ placed before e ys) (here refl) (later (placed_has e ys hs)))

  -- which makes the list one longer
  placed_longer : (e : Entry) (es : List Entry) → NewTo es e → length (placed before e es) ≡ suc (length es)
  placed_longer e [] none = refl
  placed_longer e (y ∷ ys) (more h hs) =
      rw (ne_eqb y.key e.key h)
      (long_pick (before e.sim y.sim) (e ∷ y ∷ ys) (y ∷ placed before e ys) (suc (suc (length ys))) refl (ap suc (placed_longer e ys hs)))

  fed_longer : (k : ℕ) (e : Entry) (es : List Entry) → NewTo es e → length es ≤ k → length (fed before k e es) ≡ min k (suc (length es))
  unfolding fed
  fed_longer k e es f l = by (stays before k e es) refl
    where
      by : (b : Bool) → stays before k e es ≡ b → length (pick b es (take k (placed before e es))) ≡ min k (suc (length es))
      by true h = let n : length es ≡ k = eqb-true (length es) k (and_l (eqb (length es) k) _ h) in omega arith
      by false h = let t = length-take k (placed before e es) in let p = placed_longer e es f in omega arith

  -- what is new to a list and has another id than x is new to the list that x is fed to
  new_fed : (k : ℕ) (x : Entry) (es xs : List Entry) → NewTo xs x → Each (NewTo es) xs → Each (NewTo (fed before k x es)) xs
  new_fed k x es [] none none = none
  new_fed k x es (z ∷ zs) (more h hs) (more f fs) =
      more (each_fed (λ (y : Entry). y.key ≡ z.key → ⊥) x (λ q. h (sym q)) before k es f) (new_fed k x es zs hs fs)

  list_long : (k : ℕ) (xs es : List Entry) → Apart xs → Each (NewTo es) xs → length es ≤ k → length (fed_list before k xs es) ≡ min k (length xs + length es)
  list_long k [] es a f l = omega arith
  list_long k (x ∷ xs) es a (more f fs) l =
      let n = fed_longer k x es f l in
      let r = list_long k xs (fed before k x es) a.1 (new_fed k x es xs a.0 fs) (omega arith) in
      omega arith

  none_listed : (xs : List Entry) → Each (NewTo []) xs
  none_listed [] = none
  none_listed (x ∷ xs) = more none (none_listed xs)

  -- entries of different ids leave a list as long as they are many, and no longer than k
  pub fed_list_long : (k : ℕ) (xs : List Entry) → Apart xs → length (fed_list before k xs []) ≡ min k (length xs)
  fed_list_long k xs a = let r = list_long k xs [] a (none_listed xs) (omega arith) in omega arith

-- ---- what becomes of an entry

module _ (before : Float → Float → Bool) (one_way : OneWay before) (through : Through before) where
  -- a later score does not go before the first one
  behind_first : (x y : Entry) (ys : List Entry) → in_order before (y ∷ ys) ≡ true → all_of held_e ys ≡ true → Some (Is x) ys → before x.sim y.sim ≡ false
  behind_first x y [] o a h = elim h [ ]
  behind_first x y (z ∷ zs) o a (here h) = ap (λ (w : Entry). before w.sim y.sim) (sym h) ∙ not-true _ (order_of before y (z ∷ zs) o).0
  behind_first x y (z ∷ zs) o a (later h) =
      let p = order_of before y (z ∷ zs) o in
      through y.sim z.sim x.sim (and_l (held_e z) _ a) (not-true _ p.0) (behind_first x z zs p.1 (and_r (held_e z) _ a) h)

  -- what the cut to k takes off goes before nothing that is left
  cut : (k : ℕ) (x : Entry) (es : List Entry) → in_order before es ≡ true → all_of held_e es ≡ true → Some (Is x) es → Outcome before k (take k es) x
  cut zero x es o a h = left_out refl none
  cut (suc k) x [] o a h = elim h [ ]
  cut (suc k) x (y ∷ ys) o a (here h) = listed (here h)
  cut (suc k) x (y ∷ ys) o a (later h) = longer (cut k x ys (order_of before y ys o).1 (and_r (held_e y) _ a) h)
    where
      longer : Outcome before k (take k ys) x → Outcome before (suc k) (y ∷ take k ys) x
      longer (listed s) = listed (later s)
      longer (left_out n q) = left_out (ap suc n) (more (behind_first x y ys o (and_r (held_e y) _ a) h) q)

  -- what a full list's last score goes before goes before none
  behind_all : (e : Entry) (es : List Entry) → in_order before es ≡ true → all_of held_e es ≡ true → last_before before e es ≡ true
      → Each (λ (y : Entry). before e.sim y.sim ≡ false) es
  behind_all e [] o a h = none
  behind_all e (x ∷ []) o a h = more (one_way x.sim e.sim h) none
  behind_all e (x ∷ y ∷ ys) o a h =
      let p = order_of before x (y ∷ ys) o in
      let r = behind_all e (y ∷ ys) p.1 (and_r (held_e x) _ a) h in
      let f = each_first (λ (z : Entry). before e.sim z.sim ≡ false) y ys r in
      more (through x.sim y.sim e.sim (and_l (held_e y) _ (and_r (held_e x) _ a)) (not-true _ p.0) f) r

  -- what was left out goes before no entry that joins a full list
  not_before : (x e y : Entry) → held_e x ≡ true → before x.sim y.sim ≡ false → before e.sim y.sim ≡ true → before x.sim e.sim ≡ false
  not_before x e y hx n h = by (before x.sim e.sim) refl
    where
      by : (b : Bool) → before x.sim e.sim ≡ b → before x.sim e.sim ≡ false
      by false q = q
      by true q =
          let z : before x.sim y.sim ≡ true = ahead_too before one_way through y.sim e.sim x.sim hx (one_way x.sim e.sim q) h in
          q ∙ sym z ∙ n

  behind_placed : (x e : Entry) (es : List Entry) → held_e x ≡ true → Each (λ (y : Entry). before x.sim y.sim ≡ false) es
      → Each (λ (y : Entry). before x.sim y.sim ≡ false) (take (length es) (placed before e es))
  behind_placed x e [] hx none = none
  behind_placed x e (y ∷ ys) hx (more h hs) = by (behind_placed x e ys hx hs) (eqb y.key e.key) (before e.sim y.sim) refl
    where
      by : Each (λ (z : Entry). before x.sim z.sim ≡ false) (take (length ys) (placed before e ys)) → (b c : Bool) → before e.sim y.sim ≡ c
          → Each (λ (z : Entry). before x.sim z.sim ≡ false) (take (suc (length ys)) (pick b (y ∷ ys) (pick c (e ∷ y ∷ ys) (y ∷ placed before e ys))))
      by rest true c q = each_take (λ (z : Entry). before x.sim z.sim ≡ false) (suc (length ys)) (y ∷ ys) (more h hs)
      by rest false true q = more (not_before x e y hx h q) (each_take (λ (z : Entry). before x.sim z.sim ≡ false) (length ys) (y ∷ ys) (more h hs))
      by rest false false q = more h rest

  -- what became of an entry stays so when another is fed
  outcome_stays : (k : ℕ) (x e : Entry) (es : List Entry) → held_e x ≡ true → held_e e ≡ true → in_order before es ≡ true → all_of held_e es ≡ true
      → Outcome before k es x → Outcome before k (fed before k e es) x
  unfolding fed
  outcome_stays k x e es hx he o a c = by (stays before k e es) c
    where
      by : (b : Bool) → Outcome before k es x → Outcome before k (pick b es (take k (placed before e es))) x
      by true c = c
      by false (listed h) = cut k x (placed before e es) (placed_order before one_way e es o) (placed_all before e he es a) (placed_keeps before x e es h)
      by false (left_out n q) =
          let l = placed_long before e es in
          let t = length-take k (placed before e es) in
          left_out (omega arith)
          (subst (λ (m : ℕ). Each (λ (y : Entry). before x.sim y.sim ≡ false) (take m (placed before e es))) n (behind_placed x e es hx q))

  outcome_new : (k : ℕ) (e : Entry) (es : List Entry) → held_e e ≡ true → in_order before es ≡ true → all_of held_e es ≡ true → NewTo es e
      → Outcome before k (fed before k e es) e
  unfolding fed
  outcome_new k e es he o a f = by (stays before k e es) refl
    where
      by : (b : Bool) → stays before k e es ≡ b → Outcome before k (pick b es (take k (placed before e es))) e
      by true h = left_out (eqb-true (length es) k (and_l (eqb (length es) k) _ h)) (behind_all e es o a (and_r (eqb (length es) k) _ h))
      by false h = cut k e (placed before e es) (placed_order before one_way e es o) (placed_all before e he es a) (placed_has before e es f)

  outcome_later : (k : ℕ) (x : Entry) (xs es : List Entry) → held_e x ≡ true → all_of held_e xs ≡ true → in_order before es ≡ true → all_of held_e es ≡ true
      → Outcome before k es x → Outcome before k (fed_list before k xs es) x
  outcome_later k x [] es hx hs o a c = c
  outcome_later k x (e ∷ xs) es hx hs o a c =
      let he = and_l (held_e e) _ hs in
      outcome_later k x xs (fed before k e es) hx (and_r (held_e e) _ hs) (fed_order before one_way k e es o) (fed_all_lem before e he k es a)
      (outcome_stays k x e es hx he o a c)

  outcomes : (k : ℕ) (xs es : List Entry) → all_of held_e xs ≡ true → in_order before es ≡ true → all_of held_e es ≡ true → Apart xs → Each (NewTo es) xs
      → Each (Outcome before k (fed_list before k xs es)) xs
  outcomes k [] es hs o a d f = none
  outcomes k (x ∷ xs) es hs o a d (more f fs) =
      let hx = and_l (held_e x) _ hs in
      let hr = and_r (held_e x) _ hs in
      let o' = fed_order before one_way k x es o in
      let a' = fed_all_lem before x hx k es a in
      more (outcome_later k x xs (fed before k x es) hx hr o' a' (outcome_new k x es hx o a f))
      (outcomes k xs (fed before k x es) hr o' a' d.1 (new_fed before k x es xs d.0 fs))

  -- entries of different ids that are fed to an empty list: each is listed, or left out
  pub fed_list_best : (k : ℕ) (xs : List Entry) → all_of held_e xs ≡ true → Apart xs → Each (Outcome before k (fed_list before k xs [])) xs
  unfolding in_order
  fed_list_best k xs hs d = outcomes k xs [] hs refl refl d (none_listed before xs)
