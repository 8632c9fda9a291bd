-- A ranked list of entries, and what feeding one more makes of it. All of it is over a comparison: `before x y` says that the score x goes before the score y.
use Rattle.std.specs.Prelude.{ℕ, Bool, true, false, not, ◌≡◌, List, [], ◌∷◌, eqb, take, length, Float}
use Rattle.std.specs.Float.Ieee.{lt}
use Rattle.paper.specs.Choice.{◌and◌, pick}
use Rattle.result.specs.Lists.{is_held, Each, Some}

-- an id with its score
pub record Entry : Type 0 where
  pub key : ℕ
  pub sim : Float

abbrev pub entry : ℕ → Float → Entry
entry id score = record { key = id; sim = score }

-- an entry that a set may hold: its score is no NaN
abbrev pub held_e : Entry → Bool
held_e e = is_held e.sim

-- the one rule of ranking: the larger score goes first
abbrev pub larger : Float → Float → Bool
larger x y = lt y x

-- The walk: an equal id met first leaves the list as it is; else the new entry goes before the first entry whose score its own goes before, or to the end.
abbrev pub placed : (Float → Float → Bool) → Entry → List Entry → List Entry
placed before e [] = e ∷ []
placed before e (x ∷ xs) = pick (eqb x.key e.key) (x ∷ xs) (pick (before e.sim x.sim) (e ∷ x ∷ xs) (x ∷ placed before e xs))

-- whether the score of the list's last entry goes before the entry's
abbrev pub last_before : (Float → Float → Bool) → Entry → List Entry → Bool
last_before before e [] = false
last_before before e (x ∷ []) = before x.sim e.sim
last_before before e (x ∷ y ∷ ys) = last_before before e (y ∷ ys)

-- a full list whose last score goes before the new one stays as it is
abbrev pub stays : (Float → Float → Bool) → ℕ → Entry → List Entry → Bool
stays before k e es = eqb (length es) k and last_before before e es

-- the list of at most k after an entry is fed to it: the cut to k also says that an entry for the end joins only where there is room
unfoldable pub fed : (Float → Float → Bool) → ℕ → Entry → List Entry → List Entry
fed before k e es = pick (stays before k e es) es (take k (placed before e es))

-- the same for entries in turn
abbrev pub fed_list : (Float → Float → Bool) → ℕ → List Entry → List Entry → List Entry
fed_list before k [] es = es
fed_list before k (x ∷ xs) es = fed_list before k xs (fed before k x es)

-- no entry's score goes before that of the one ahead of it: by the larger score first, scores never rise along the list
unfoldable pub in_order : (Float → Float → Bool) → List Entry → Bool
in_order before [] = true
in_order before (x ∷ []) = true
in_order before (x ∷ y ∷ ys) = not (before y.sim x.sim) and in_order before (y ∷ ys)

-- ---- what becomes of the entries that are fed

-- no listed entry has the entry's id
abbrev pub NewTo : List Entry → Entry → Type 0
NewTo es e = Each (λ (x : Entry). x.key ≡ e.key → ⊥) es

-- no two entries have one id
abbrev pub Apart : List Entry → Type 0
Apart [] = Unit
Apart (x ∷ xs) = NewTo xs x × Apart xs

-- What became of an entry that was fed to a list of at most k: it is listed, or it was left out, because the list is full and its score goes before no listed one.
pub data Outcome (before : Float → Float → Bool) (k : ℕ) (es : List Entry) (e : Entry) : Type 0 where
  listed : Some (λ (x : Entry). x ≡ e) es → Outcome before k es e
  left_out : length es ≡ k → Each (λ (x : Entry). before e.sim x.sim ≡ false) es → Outcome before k es e

-- ---- what a comparison has to be for the laws

-- it goes one way: of two scores at most one goes before the other
abbrev pub OneWay : (Float → Float → Bool) → Type 0
OneWay before = (x y : Float) → before x y ≡ true → before y x ≡ false

-- it goes through held scores: where y does not go before x, nor z before y, z does not go before x
abbrev pub Through : (Float → Float → Bool) → Type 0
Through before = (x y z : Float) → is_held y ≡ true → before y x ≡ false → before z y ≡ false → before z x ≡ false
