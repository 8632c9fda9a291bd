-- The small words that every definition uses to choose between two answers and to put refusals into their order.
use Rattle.std.specs.Prelude.{ℕ, Bool, true, false}

-- both; it groups to the right, so that a proof takes the first test off the front
infixr 34 ◌and◌
abbrev pub ◌and◌ : Bool → Bool → Bool
true and b = b
false and b = false

-- the first where the test holds, else the second
abbrev pub pick : {A : Type 0} → Bool → A → A → A
pick true a b = a
pick false a b = b

-- refusal `num` unless the test holds, else what the later tests say: the order of the checks is the nesting
abbrev pub refuse : ℕ → Bool → ℕ → ℕ
refuse num ok rest = pick ok rest num
