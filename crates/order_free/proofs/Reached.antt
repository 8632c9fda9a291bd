-- The theorems at the calls: what filling, two orders and two deals give, on plain values. Assumes nothing.
use Prim.Native.Nat.{ℕ}
use mathlib.Core.Path.{◌≡◌, refl, sym, ap, ap₂, ◌∙◌}
use mathlib.Core.List.{List, [], ◌∷◌, ◌++◌}
use mathlib.Core.Bool.{true}
use lib.Ieee.{Float}
use lib.ListN.{length, length-replicate}
use Rattle.paper.specs.Geometry.{Geo, geo_ok}
use Rattle.index_memory.specs.Memory.{Ix, empty_ix, own_ok_ix, own_refusal, Done, done, empty_of}
use Rattle.adding.specs.Adding.{Added, added, add_of}
use Rattle.merging.specs.Merging.{merge_of}
use Rattle.order_free.specs.Order.{Addition, Call, whats, WorkLent, step, run, swap, Deal, one, two, built, AllAccepted, calls, filled}
use Rattle.order_free.proofs.Orders.{run_is, puts, run_shuffle}
use Rattle.order_free.proofs.Deals.{any_deal, puts_append}

lent_calls : (g : Geo) (xs : List Addition) → WorkLent g (calls g xs)
lent_calls g [] = tt
lent_calls g (a ∷ xs) = (length-replicate g.d _, lent_calls g xs)

whats_calls : (g : Geo) (xs : List Addition) → whats (calls g xs) ≡ xs
whats_calls g [] = refl
whats_calls g (a ∷ xs) = ap (λ (r : List Addition). a ∷ r) (whats_calls g xs)

filled_puts : (g : Geo) (bs : List Float) (xs : List Addition) → filled g bs xs ≡ puts g bs xs (empty_ix g)
unfolding filled
filled_puts g bs xs = run_is g bs (calls g xs) (empty_ix g) (lent_calls g xs) ∙ ap (λ (r : List Addition). puts g bs r (empty_ix g)) (whats_calls g xs)

module _ (g : Geo) (bs : List Float) where
  -- an index made empty
  pub made_empty : (ix ix' : Ix) (r : ℕ) → geo_ok g.d g.n g.cap g.mode ≡ true → own_ok_ix g ix ≡ true → done r ix' ≡ empty_of g ix → ix' ≡ empty_ix g
  unfolding empty_of own_refusal
  made_empty ix ix' r p o e = ap (λ (x : Done). x.ix) e ∙ rw (p, o)

  -- a call after additions: they and its own
  more_filled : (xs ys : List Addition) (a : Addition) (ix ix' : Ix) (r : ℕ) (w w' : List Float) → ys ≡ xs ++ (a ∷ []) → length w ≡ g.d → ix ≡ filled g bs xs
      → added r ix' w' ≡ add_of g bs a.id a.v ix w → ix' ≡ filled g bs ys
  unfolding run step
  more_filled xs ys a ix ix' r w w' y l e h =
      let c : Call = record { what = a; work = w } in
      let one' : ix' ≡ run g bs (c ∷ []) (filled g bs xs) = ap (λ (x : Added). x.ix) h ∙ ap (λ (i : Ix). (add_of g bs a.id a.v i w).ix) e in
      one' ∙ run_is g bs (c ∷ []) (filled g bs xs) (l, tt) ∙ ap (λ (i : Ix). puts g bs (a ∷ []) i) (filled_puts g bs xs)
      ∙ sym (puts_append g bs xs (a ∷ []) (empty_ix g)) ∙ ap (λ (l : List Addition). puts g bs l (empty_ix g)) (sym y) ∙ sym (filled_puts g bs ys)

  none_filled : empty_ix g ≡ filled g bs []
  unfolding filled run
  none_filled = refl

  pub one_filled : (a : Addition) (ix0 ix ix' : Ix) (r q : ℕ) (w w' : List Float) → geo_ok g.d g.n g.cap g.mode ≡ true → own_ok_ix g ix0 ≡ true
      → done q ix ≡ empty_of g ix0 → length w ≡ g.d → added r ix' w' ≡ add_of g bs a.id a.v ix w → ix' ≡ filled g bs (a ∷ [])
  one_filled a ix0 ix ix' r q w w' p o d l h = more_filled [] (a ∷ []) a ix ix' r w w' refl l (made_empty ix0 ix q p o d ∙ none_filled) h

  pub two_filled : (a b : Addition) (ix ix' : Ix) (r : ℕ) (w w' : List Float) → length w ≡ g.d → ix ≡ filled g bs (a ∷ []) → added r ix' w' ≡ add_of g bs b.id b.v ix w
      → ix' ≡ filled g bs (a ∷ b ∷ [])
  two_filled a b ix ix' r w w' l e h = more_filled (a ∷ []) (a ∷ b ∷ []) b ix ix' r w w' refl l e h

  -- two orders
  pub either_order : (a b : Addition) → (a.id ≡ b.id → ⊥) → (x y : Ix) → x ≡ filled g bs (a ∷ b ∷ []) → y ≡ filled g bs (b ∷ a ∷ []) → x ≡ y
  unfolding filled
  either_order a b ne x y p q =
      p ∙ run_shuffle g bs (calls g (a ∷ b ∷ [])) (calls g (b ∷ a ∷ [])) (lent_calls g (a ∷ b ∷ [])) (lent_calls g (b ∷ a ∷ [])) swap (((λ e. ne (sym e)), tt), (tt, tt)) (empty_ix g) ∙ sym q

  -- two deals
  abbrev pair : Addition → Addition → Deal
  pair a b = two (one (calls g (a ∷ []))) (one (calls g (b ∷ [])))

  both_deals : geo_ok g.d g.n g.cap g.mode ≡ true → (a b : Addition) → (a.id ≡ b.id → ⊥)
      → (built g bs (pair a b) ≡ run g bs (calls g (b ∷ a ∷ [])) (empty_ix g)) × AllAccepted g bs (pair a b)
  both_deals good a b ne =
      any_deal g bs good (calls g (b ∷ a ∷ [])) (lent_calls g (b ∷ a ∷ [])) ((ne, tt), (tt, tt)) (pair a b) (length-replicate g.d _, (length-replicate g.d _, tt)) swap

  pub either_deal : geo_ok g.d g.n g.cap g.mode ≡ true → (a b : Addition) → (a.id ≡ b.id → ⊥) → (x y z u : Ix) (r : ℕ) → x ≡ filled g bs (a ∷ []) → y ≡ filled g bs (b ∷ [])
      → done r z ≡ merge_of g x y → u ≡ filled g bs (b ∷ a ∷ []) → (r ≡ 0) × (z ≡ u)
  unfolding filled built
  either_deal good a b ne x y z u r p q e f =
      let t = both_deals good a b ne in
      let m : merge_of g x y ≡ merge_of g (run g bs (calls g (a ∷ [])) (empty_ix g)) (run g bs (calls g (b ∷ [])) (empty_ix g)) = ap₂ (λ (i j : Ix). merge_of g i j) p q in
      (ap (λ (d : Done). d.answer) (e ∙ m) ∙ t.1.0, ap (λ (d : Done). d.ix) (e ∙ m) ∙ t.0 ∙ sym f)
