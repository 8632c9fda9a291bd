-- The refusals by their numbers, as the paper lists them, and what an answer says as a number.
use Rattle.std.specs.Prelude.{ℕ, zero, suc, ◌≡◌, ◌++◌, List, Result, Ok, Err, codes}
use Rattle.std.specs.Fmt.{decimal}
use Rattle.paper.specs.declared.Refusal.{Refusal}
use Rattle.paper.specs.declared.Refusal.TheVariants.{WrongGeometry, WrongLength, WrongId, WrongK, NotFinite, NoNorm, NoProjection, NoLayer, NoMark, NanScore, SharedId, FullCount, BadSet, NoRecall, BadRecord}

-- the number of a refusal
abbrev pub number_of : Refusal → ℕ
number_of WrongGeometry = 1
number_of WrongLength = 2
number_of WrongId = 3
number_of WrongK = 4
number_of NotFinite = 5
number_of NoNorm = 6
number_of NoProjection = 7
number_of NoLayer = 8
number_of NoMark = 9
number_of NanScore = 10
number_of SharedId = 11
number_of FullCount = 12
number_of BadSet = 13
number_of NoRecall = 14
number_of BadRecord = 15

-- how a refusal is shown: the word `refused` and its number in decimal
abbrev pub refused_text : Refusal → List ℕ
refused_text r = codes "refused " ++ decimal (number_of r)

-- the number of an answer: 0 for an accepted call, else the refusal's
abbrev pub code_of : {A : Type 0} → Result A Refusal → ℕ
code_of (Ok x) = 0
code_of (Err r) = number_of r

-- the value of an answer: what stands in its place where it is refused is the paper's
abbrev pub value_or : {A : Type 0} → A → Result A Refusal → A
value_or old (Ok x) = x
value_or old (Err r) = old

-- what an accepted call gives, or what there is when it is refused
abbrev pub unless_refused : {A : Type 0} → ℕ → A → A → A
unless_refused zero new old = new
unless_refused (suc f) new old = old

-- a call with a value answers the refusal's number, 0 for none, and the value; `none` is what the paper has in the place of a refused one
pub record Answers {A : Type 0} (r : Result A Refusal) (fault : ℕ) (x none : A) : Type 0 where
  pub refusal : code_of r ≡ fault
  pub value : value_or none r ≡ unless_refused fault x none
