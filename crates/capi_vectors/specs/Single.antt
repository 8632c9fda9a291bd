-- Answers in lent places: one value in a slice of length 1, and a list over the first places of a slice. Definitions only.
use Rattle.std.specs.Prelude.{ℕ, List, [], ◌∷◌, ◌++◌, Result, Ok, Err, eqb, length, take, drop}
use Rattle.paper.specs.Choice.{pick}
use Rattle.paper.specs.Refusals.{number_of}
use Rattle.paper.specs.declared.Refusal.{Refusal}

-- the answer's number, and the lent place
pub record Single (A : Type 0) : Type 0 where
  pub answer : ℕ
  pub out : List A

abbrev pub single : {A : Type 0} → ℕ → List A → Single A
single num ys = record { answer = num; out = ys }

-- an answer in its place: the value, or the refusal's number and the place as it was
abbrev pub put : {A : Type 0} → Result A Refusal → List A → Single A
put (Ok x) ys = single 0 (x ∷ [])
put (Err r) ys = single (number_of r) ys

-- the value x in the place unless `num` refuses, which keeps the place
abbrev pub kept : {A : Type 0} → ℕ → A → List A → Single A
kept num x ys = single num (pick (eqb num 0) (x ∷ []) ys)

-- the same, with 2 for a place of another length
unfoldable pub into_one : {A : Type 0} → ℕ → A → List A → Single A
into_one num x ys = pick (eqb (length ys) 1) (kept num x ys) (single 2 ys)

-- the first n of xs over the first n of ys
abbrev pub laid_over : {A : Type 0} → ℕ → List A → List A → List A
laid_over n xs ys = take n xs ++ drop n ys
