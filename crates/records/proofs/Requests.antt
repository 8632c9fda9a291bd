-- Laws on what a record asks for. Assumes nothing.
use Rattle.std.proofs.Common.{ℕ, ◌+◌, ◌*◌, ◌≤◌, ◌≡◌, refl, ◌∙◌, List, Bool, true, false, not, Err, IfOk}
use native.Mathlib.Nat.{mul-le-mul}
use lib.Dec.{leb, ltb, eqb}
use lib.ListN.{length, get_or}
use borrow.Author.Tests.{leb-true, ltb-true, eqb-true, le-leb, ne_eqb}
use Rattle.paper.specs.Choice.{pick}
use Rattle.paper.proofs.Choice.{and_l, and_r}
use Rattle.paper.specs.declared.Refusal.{Refusal}
use Rattle.paper.specs.declared.Refusal.TheVariants.{WrongGeometry, WrongLength, BadRecord}
use Rattle.records.specs.declared.Session.{Session}
use Rattle.records.specs.Fields.{u16_at, u32_at}
use Rattle.records.specs.Requests.{Limits, Fits, Asked, demand, at_start, takes_bases, within_limits, geometry_fits, geometry_of, basis_of, addition_of, search_of, kind_of, request_of}

pub square : (d : ℕ) → d ≤ 8 → d * d ≤ 64
square d h = mul-le-mul h h

pub limits : (g : Session) → within_limits g ≡ true → Limits g
unfolding within_limits
limits g e =
    let e₁ = and_r (leb g.d 8) _ e in
    let e₂ = and_r (leb g.n 4) _ e₁ in
    record {
      d = leb-true g.d 8 (and_l (leb g.d 8) _ e);
      n = leb-true g.n 4 (and_l (leb g.n 4) _ e₁);
      cap = leb-true g.cap 256 (and_l (leb g.cap 256) _ e₂);
      mode = leb-true g.mode 1 (and_r (leb g.cap 256) _ e₂);
    }

-- ---- by kind

pub of_kind : (s : List ℕ) (g : Session) (k : ℕ) (r : Asked) → within_limits g ≡ true → 2 ≤ length s → k ≡ u16_at s 0 → r ≡ kind_of k s g → r ≡ request_of s g
unfolding request_of
of_kind s g k r f h e q = q ∙ rw (f, le-leb 2 (length s) h, ← e) refl

pub unknown : (s : List ℕ) (g : Session) (k : ℕ) → (k ≡ 1 → ⊥) → (k ≡ 2 → ⊥) → (k ≡ 3 → ⊥) → (k ≡ 5 → ⊥) → Err BadRecord ≡ kind_of k s g
unknown s g k a b c d = rw (ne_eqb k 1 a, ne_eqb k 2 b, ne_eqb k 3 c, ne_eqb k 5 d) refl

-- ---- what a request that is not refused tells of the record and the session

module _ (s : List ℕ) (g : Session) where
  demand_fits : (r : Refusal) (b : Bool) (q : Asked) → (b ≡ true → IfOk q (λ q. Fits q s g)) → IfOk (demand r b q) (λ q. Fits q s g)
  demand_fits r true q h = h refl
  demand_fits r false q h = tt

  pick_fits : (b : Bool) (p q : Asked) → IfOk p (λ q. Fits q s g) → IfOk q (λ q. Fits q s g) → IfOk (pick b p q) (λ q. Fits q s g)
  pick_fits true p q x y = x
  pick_fits false p q x y = y

  pub geometry_fits_lem : IfOk (geometry_of s g) (λ q. Fits q s g)
  unfolding geometry_of
  geometry_fits_lem = demand_fits WrongGeometry (at_start g.stage) _ (λ _. demand_fits WrongLength (eqb (length s) 11) _ (λ _. demand_fits WrongGeometry (geometry_fits (u16_at s 2) (u16_at s 4) (u32_at s 6) (get_or s 10 0)) _ (λ f. f)))

  module _ (l : Limits g) where
    pub basis_fits : IfOk (basis_of s g) (λ q. Fits q s g)
    unfolding basis_of
    basis_fits =
        demand_fits WrongGeometry (takes_bases g.stage) _ (λ _. demand_fits WrongLength (eqb (length s) (4 + 4 * (g.d * g.d))) _
        (λ e. demand_fits WrongGeometry (ltb (u16_at s 2) g.n) _ (λ h. (l, ltb-true (u16_at s 2) g.n h, eqb-true (length s) (4 + 4 * (g.d * g.d)) e))))

    pub addition_fits : IfOk (addition_of s g) (λ q. Fits q s g)
    unfolding addition_of
    addition_fits =
        demand_fits WrongGeometry (not (at_start g.stage)) _ (λ _. demand_fits WrongLength (eqb (length s) (6 + 4 * g.d)) _ (λ e. (l, eqb-true (length s) (6 + 4 * g.d) e)))

    pub search_fits : IfOk (search_of s g) (λ q. Fits q s g)
    unfolding search_of
    search_fits =
        demand_fits WrongGeometry (not (at_start g.stage)) _ (λ _. demand_fits WrongLength (eqb (length s) (10 + 4 * g.d)) _ (λ e. (l, eqb-true (length s) (10 + 4 * g.d) e)))

    kind_fits : (k : ℕ) → IfOk (kind_of k s g) (λ q. Fits q s g)
    kind_fits k =
        pick_fits (eqb k 1) _ _ geometry_fits_lem (pick_fits (eqb k 2) _ _ basis_fits (pick_fits (eqb k 3) _ _ addition_fits (pick_fits (eqb k 5) _ _ search_fits tt)))

  pub request_fits : IfOk (request_of s g) (λ q. Fits q s g)
  unfolding request_of
  request_fits = demand_fits WrongGeometry (within_limits g) _ (λ f. demand_fits BadRecord (leb 2 (length s)) _ (λ _. kind_fits (limits g f) (u16_at s 0)))
