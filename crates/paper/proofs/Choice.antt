-- Taking tests and refusals apart. Assumes nothing.
use Prim.Native.Nat.{ℕ}
use mathlib.Core.Path.{◌≡◌, refl}
use mathlib.Core.Bool.{Bool, true, false}
use Rattle.paper.specs.Choice.{◌and◌, refuse}

pub and_l : (a b : Bool) → a and b ≡ true → a ≡ true
and_l true b e = refl
and_l false b e = e

pub and_r : (a b : Bool) → a and b ≡ true → b ≡ true
and_r true b e = e
and_r false true e = refl
and_r false false e = e

-- a refusal that was not given
pub refuse_ok : (b : Bool) (k r : ℕ) → (k ≡ 0 → ⊥) → refuse k b r ≡ 0 → b ≡ true
refuse_ok true k r h e = refl
refuse_ok false k r h e = absurd (h e)

pub refuse_rest : (b : Bool) (k r : ℕ) → (k ≡ 0 → ⊥) → refuse k b r ≡ 0 → r ≡ 0
refuse_rest true k r h e = e
refuse_rest false k r h e = absurd (h e)
