-- What a good geometry and a good capacity give. Assumes nothing.
use Prim.Native.Nat.{ℕ, ◌*◌, ◌/◌, ◌≤◌}
use mathlib.Core.Path.{◌≡◌}
use mathlib.Core.Bool.{Bool, true, false}
use native.Mathlib.Omega.{arith}
use native.Mathlib.Nat.{mul_assoc}
use borrow.Author.Tests.{leb-true, eqb-true}
use lib.Dec.{leb, eqb}
use Rattle.paper.specs.Choice.{pick}
use Rattle.paper.specs.Geometry.{cap_ok, geo_ok, comp_size, set_words, face_words, GeoFacts, CapFacts}
use Rattle.paper.proofs.Choice.{and_l, and_r}

pub cap_facts : (cap : ℕ) → cap_ok cap ≡ true → CapFacts cap
unfolding cap_ok
cap_facts cap e =
    let e1 = and_r (leb 64 cap) _ e in
    let e2 = and_r (leb cap 65536) _ e1 in
    record {
      low = leb-true _ _ (and_l (leb 64 cap) _ e);
      high = leb-true _ _ (and_l (leb cap 65536) _ e1);
      even = eqb-true _ _ e2;
    }

pub geo_facts : (d n cap mode : ℕ) → geo_ok d n cap mode ≡ true → GeoFacts d n cap mode
unfolding geo_ok
geo_facts d n cap mode e =
    let e1 = and_r (leb 1 d) _ e in
    let e2 = and_r (leb d 1024) _ e1 in
    let e3 = and_r (leb 1 n) _ e2 in
    let e4 = and_r (leb n 32) _ e3 in
    let c = cap_facts cap (and_l (cap_ok cap) _ e4) in
    record {
      d_low = leb-true _ _ (and_l (leb 1 d) _ e);
      d_high = leb-true _ _ (and_l (leb d 1024) _ e1);
      n_low = leb-true _ _ (and_l (leb 1 n) _ e2);
      n_high = leb-true _ _ (and_l (leb n 32) _ e3);
      cap_low = c.low;
      cap_high = c.high;
      cap_even = c.even;
      mode_known = and_r (cap_ok cap) _ e4;
    }

four_or_two : (b : Bool) → pick {A = ℕ} b 4 2 ≤ 4
four_or_two true = omega arith
four_or_two false = omega arith

two_or_four : (b : Bool) → 2 ≤ pick {A = ℕ} b 4 2
two_or_four true = omega arith
two_or_four false = omega arith

-- a component has at most 4 bytes, and at least one
pub comp_le : (mode : ℕ) → comp_size mode ≤ 4
unfolding comp_size
comp_le mode = four_or_two (eqb mode 0)

pub comp_low : (mode : ℕ) → 1 ≤ comp_size mode
unfolding comp_size
comp_low mode = omega (arith, two_or_four (eqb mode 0))

-- the face sets, a basis at a time
pub face_words_by_basis : (d n cap : ℕ) → face_words d n cap ≡ n * (2 * d * set_words cap)
face_words_by_basis d n cap = mul_assoc n (2 * d) (cap / 64)
