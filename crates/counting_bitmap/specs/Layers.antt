-- Counting layers: n layers of w words each, one after the other in one list.
use Rattle.std.specs.Prelude.{ℕ, zero, suc, ◌+◌, ◌*◌, Bool, not, ◌≡◌, List, [], ◌∷◌, ◌++◌, length, take, drop}
use Rattle.bitmaps.specs.Words.{has, size, union, shared, is_empty}
-- m words that hold nothing
pub use Rattle.bitmaps.specs.Words.{empty}

-- layer i, counted from 0
abbrev pub layer : ℕ → List ℕ → ℕ → List ℕ
layer w ls i = take w (drop (i * w) ls)

-- one layer and an incoming set: the layer becomes the union, the ids they shared are carried on, and the answer is whether there are any
pub record Carried (was given : List ℕ) (any : Bool) (after left : List ℕ) : Type 0 where
  pub united : after ≡ union was given
  pub carry : left ≡ shared was given
  pub some : any ≡ not (is_empty (shared was given))

-- the layers after a set c is merged into the first n of them: each becomes the union, and what it shared is carried on to the next
unfoldable pub merged : ℕ → ℕ → List ℕ → List ℕ → List ℕ
merged zero w ls c = ls
merged (suc n) w ls c = union (take w ls) c ++ merged n w (drop w ls) (shared (take w ls) c)

-- what falls off the last of them
unfoldable pub fallen : ℕ → ℕ → List ℕ → List ℕ → List ℕ
fallen zero w ls c = c
fallen (suc n) w ls c = fallen n w (drop w ls) (shared (take w ls) c)

-- ---- several sets, merged one after the other

-- the layers at the end
unfoldable pub merged_all : ℕ → ℕ → List ℕ → List (List ℕ) → List ℕ
merged_all n w ls [] = ls
merged_all n w ls (c ∷ cs) = merged_all n w (merged n w ls c) cs

-- all dropped counts together
unfoldable pub dropped_all : ℕ → ℕ → List ℕ → List (List ℕ) → ℕ
dropped_all n w ls [] = 0
dropped_all n w ls (c ∷ cs) = size (fallen n w ls c) + dropped_all n w (merged n w ls c) cs

-- how many of the sets have id i
unfoldable pub times : List (List ℕ) → ℕ → ℕ
times [] i = 0
times (c ∷ cs) i = has c i + times cs i

-- the counts of the sets together
unfoldable pub sizes : List (List ℕ) → ℕ
sizes [] = 0
sizes (c ∷ cs) = size c + sizes cs

-- every set is of w words
pub data Sized (w : ℕ) : List (List ℕ) → Type 0 where
  none : Sized w []
  more : {c : List ℕ} {cs : List (List ℕ)} → length c ≡ w → Sized w cs → Sized w (c ∷ cs)

-- the counts of the first n layers
unfoldable pub counts_of : ℕ → ℕ → List ℕ → List ℕ
counts_of zero w ls = []
counts_of (suc n) w ls = size (take w ls) ∷ counts_of n w (drop w ls)
