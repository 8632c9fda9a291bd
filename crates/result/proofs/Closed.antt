-- A full list that is closed to a score stays closed to it, whatever it is fed: its last score never gets worse. Over any comparison that goes one way
-- and through held scores; and the larger score first is one. Assumes nothing.
use mathlib.Core.Path.{◌≡◌, refl, sym, ap, ◌∙◌}
use mathlib.Core.Bool.{Bool, true, false, not}
use mathlib.Core.List.{List, [], ◌∷◌}
use Prim.Native.Nat.{ℕ, suc, ◌≤◌}
use native.Mathlib.Omega.{arith}
use borrow.Author.Tests.{not-true, eqb-true, eq-eqb}
use lib.Dec.{eqb}
use lib.Ieee.{Float, is_nan}
use lib.ListN.{length, take}
use lib.Seq.{take_all}
use Rattle.paper.specs.Choice.{pick}
use Rattle.paper.proofs.Choice.{and_l, and_r}
use Rattle.result.specs.Lists.{all_of, is_held}
use Rattle.result.specs.Ranked.{Entry, entry, larger, placed, last_before, stays, fed, in_order, OneWay, Through}
use Rattle.result.specs.Places.{full_above}
use Rattle.result.specs.Sets.{entries_of, fed_set}
use Rattle.result.specs.declared.ResultSet.{ResultSet}
use Rattle.result.proofs.Answers.{form, set_stays}
use Rattle.result.proofs.Puts.{sims_are}
use Rattle.result.proofs.Keeps.{held_e, all_sims, Sound, sound_fed, entries_fed, fed_k, fed_long}
use Rattle.result.proofs.Order.{order_of, fed_order, larger_one_way}
use Rattle.result.proofs.Sorted.{larger_through}

module _ (before : Float → Float → Bool) (one_way : OneWay before) (through : Through before) where
  -- what b goes before, a goes before, if b does not go before a
  pub ahead_too : (x b a : Float) → is_held a ≡ true → before b a ≡ false → before b x ≡ true → before a x ≡ true
  ahead_too x b a h p q = go (before a x) refl
    where
      go : (c : Bool) → before a x ≡ c → before a x ≡ true
      go true e = e
      go false e = let z : ◌≡◌ {A = Bool} true false = sym q ∙ through x a b h e p in e ∙ sym z

  longer : (e y : Entry) (ws : List Entry) → last_before before e ws ≡ true → last_before before e (y ∷ ws) ≡ true
  longer e y [] h = let z : ◌≡◌ {A = ℕ} 0 1 = cc in absurd (omega arith)
  longer e y (w ∷ ws) h = h

  -- without its last, a list in order still ends so
  without_last : (e y z : Entry) (zs : List Entry) → in_order before (y ∷ z ∷ zs) ≡ true → all_of held_e (y ∷ z ∷ zs) ≡ true
      → last_before before e (z ∷ zs) ≡ true → last_before before e (take (suc (length zs)) (y ∷ z ∷ zs)) ≡ true
  without_last e y z [] o a h = ahead_too e.sim z.sim y.sim (and_l (held_e y) _ a) (not-true _ (order_of before y (z ∷ []) o).0) h
  without_last e y z (w ∷ ws) o a h = without_last e z w ws (order_of before y (z ∷ w ∷ ws) o).1 (and_r (held_e y) _ a) h

  by_pick : (e : Entry) (n : ℕ) (b : Bool) (xs ys : List Entry) → (b ≡ true → last_before before e (take n xs) ≡ true) → (b ≡ false → last_before before e (take n ys) ≡ true)
      → last_before before e (take n (pick b xs ys)) ≡ true
  by_pick e n true xs ys h k = h refl
  by_pick e n false xs ys h k = k refl

  -- an entry more, and the cut
  placed_closed : (x e y : Entry) (ys : List Entry) → held_e e ≡ true → in_order before (y ∷ ys) ≡ true → all_of held_e (y ∷ ys) ≡ true
      → last_before before x (y ∷ ys) ≡ true → last_before before x (take (suc (length ys)) (placed before e (y ∷ ys))) ≡ true
  placed_closed x e y [] he o a h =
      by_pick x 1 (eqb y.key e.key) (y ∷ []) (pick (before e.sim y.sim) (e ∷ y ∷ []) (y ∷ e ∷ [])) (λ _. h)
      (λ _. by_pick x 1 (before e.sim y.sim) (e ∷ y ∷ []) (y ∷ e ∷ []) (λ p. ahead_too x.sim y.sim e.sim he (one_way e.sim y.sim p) h) (λ _. h))
  placed_closed x e y (z ∷ zs) he o a h =
      let n : ℕ = suc (length zs) in
      let rest = placed_closed x e z zs he (order_of before y (z ∷ zs) o).1 (and_r (held_e y) _ a) h in
      by_pick x (suc n) (eqb y.key e.key) (y ∷ z ∷ zs) (pick (before e.sim y.sim) (e ∷ y ∷ z ∷ zs) (y ∷ placed before e (z ∷ zs)))
      (λ _. ap (last_before before x) (take_all (suc n) (y ∷ z ∷ zs) (omega arith)) ∙ h)
      (λ _. by_pick x (suc n) (before e.sim y.sim) (e ∷ y ∷ z ∷ zs) (y ∷ placed before e (z ∷ zs)) (λ _. without_last x y z zs o a h)
      (λ _. longer x y (take n (placed before e (z ∷ zs))) rest))

  -- so a full list stays closed
  pub fed_closed : (k : ℕ) (x e : Entry) (es : List Entry) → held_e e ≡ true → in_order before es ≡ true → all_of held_e es ≡ true
      → stays before k x es ≡ true → stays before k x (fed before k e es) ≡ true
  unfolding fed
  fed_closed k x e es he o a h =
      let n : length es ≡ k = eqb-true (length es) k (and_l (eqb (length es) k) _ h) in
      let l = fed_long before k e es (omega arith) in
      let m : length (fed before k e es) ≡ k = omega arith in
      rw (eq-eqb (length (fed before k e es)) k m) (go es (stays before k e es) n o a (and_r (eqb (length es) k) _ h))
    where
      go : (es : List Entry) (b : Bool) → length es ≡ k → in_order before es ≡ true → all_of held_e es ≡ true → last_before before x es ≡ true
          → last_before before x (pick b es (take k (placed before e es))) ≡ true
      go es true n o a h = h
      go [] false n o a h = let z : ◌≡◌ {A = ℕ} 0 1 = cc in absurd (omega arith)
      go (y ∷ ys) false n o a h = ap (λ (j : ℕ). last_before before x (take j (placed before e (y ∷ ys)))) (sym n) ∙ placed_closed x e y ys he o a h

-- ---- sets

pub order_fed : (s : ResultSet) (e : Entry) → in_order larger (entries_of s) ≡ true → in_order larger (entries_of (fed_set s e)) ≡ true
order_fed s e o = ap (in_order larger) (entries_fed s e) ∙ fed_order larger larger_one_way s.k e (entries_of s) o

pub closed_stays : (s : ResultSet) (e : Entry) (x : Float) → Sound s → in_order larger (entries_of s) ≡ true → is_nan e.sim ≡ false
    → full_above s.len s.k s.sims x ≡ true → full_above (fed_set s e).len (fed_set s e).k (fed_set s e).sims x ≡ true
closed_stays s e x h o n c =
    let f = form s h.formed in
    let hi : s.len ≤ length s.ids = omega (arith, h.ids_long, f.short, f.small) in
    let hs : s.len ≤ length s.sims = omega (arith, h.sims_long, f.short, f.small) in
    let s' = fed_set s e in
    let h' = sound_fed s e h n in
    let f' = form s' h'.formed in
    let hi' : s'.len ≤ length s'.ids = omega (arith, h'.ids_long, f'.short, f'.small) in
    let hs' : s'.len ≤ length s'.sims = omega (arith, h'.sims_long, f'.short, f'.small) in
    let held : all_of held_e (entries_of s) ≡ true = sym (all_sims (entries_of s)) ∙ ap (all_of is_held) (sims_are s hi hs) ∙ f.held in
    let a : stays larger s.k (entry 0 x) (entries_of s) ≡ true = sym (set_stays s (entry 0 x) hi hs) ∙ c in
    set_stays s' (entry 0 x) hi' hs'
    ∙ (λ i. stays larger (fed_k s e i) (entry 0 x) (entries_fed s e i))
    ∙ fed_closed larger larger_one_way larger_through s.k (entry 0 x) e (entries_of s) (ap not n) o held a
