-- A ranked set in its arrays, on plain values. Assumes nothing.
use Prim.Native.Nat.{ℕ}
use mathlib.Core.Path.{◌≡◌}
use mathlib.Core.Bool.{true}
use lib.Dec.{eqb}
use borrow.Author.Tests.{ne_eqb, eqb-true}
use Rattle.std.proofs.Common.{Result, Ok, Err, refl, ap, arith}
use Rattle.paper.specs.Refusals.{number_of}
use Rattle.paper.specs.declared.Refusal.{Refusal}
use Rattle.paper.proofs.Answering.{number_low}
use Rattle.paper.proofs.Choice.{and_l, and_r}
use Rattle.result.specs.Sets.{Fed, fed_or}
use Rattle.result.specs.declared.ResultSet.{ResultSet}
use Rattle.capi_sets.specs.Lists.{Outs, room_ok, put_set, into_fed}

-- ---- a list into its arrays

-- an answer in the arrays is what the definitions say of it
pub put_told : (f : Fed) (r : Result ResultSet Refusal) (o : Outs) → fed_or f.set r ≡ f → put_set r o ≡ into_fed f o
unfolding into_fed
put_told f (Ok s) o e = rw (← e) refl
put_told f (Err r) o e =
    let low = number_low r in
    let n : number_of r ≡ f.refusal = ap (λ (x : Fed). x.refusal) e in
    rw (← n, ne_eqb (number_of r) 0 (λ z. omega arith)) refl

-- ---- the arrays' room

pub record Room (k m li ls lt : ℕ) : Type 0 where
  pub ids : li ≡ k
  pub scores : ls ≡ k
  pub counts : lt ≡ m

pub room : (k m li ls lt : ℕ) → room_ok k m li ls lt ≡ true → Room k m li ls lt
unfolding room_ok
room k m li ls lt e =
    let r = and_r (eqb li k) _ e in
    record { ids = eqb-true _ _ (and_l (eqb li k) _ e); scores = eqb-true _ _ (and_l (eqb ls k) _ r); counts = eqb-true _ _ (and_r (eqb ls k) _ r) }
