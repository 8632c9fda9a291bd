-- Answers by their numbers: what a proof of a call that may be refused cites. Assumes nothing.
use Rattle.std.proofs.Common.{◌≡◌, ◌<◌, ℕ, zero, suc, refl, sym, ap, ◌∙◌, arith, Ok, Err, [], ◌∷◌, get_or, Result}
use Rattle.paper.specs.declared.Refusal.{Refusal}
use Rattle.paper.specs.declared.Refusal.TheVariants.{WrongGeometry, WrongLength, WrongId, WrongK, NotFinite, NoNorm, NoProjection, NoLayer, NoMark, NanScore, SharedId, FullCount, BadSet, NoRecall, BadRecord}
use Rattle.paper.specs.Refusals.{number_of, unless_refused, Answers}

-- no refusal has the number of acceptance
pub number_low : (r : Refusal) → 0 < number_of r
number_low WrongGeometry = omega arith
number_low WrongLength = omega arith
number_low WrongId = omega arith
number_low WrongK = omega arith
number_low NotFinite = omega arith
number_low NoNorm = omega arith
number_low NoProjection = omega arith
number_low NoLayer = omega arith
number_low NoMark = omega arith
number_low NanScore = omega arith
number_low SharedId = omega arith
number_low FullCount = omega arith
number_low BadSet = omega arith
number_low NoRecall = omega arith
number_low BadRecord = omega arith

-- an accepted call's value
pub unless_accepted : {A : Type 0} (fault : ℕ) (new old : A) → fault ≡ 0 → unless_refused fault new old ≡ new
unless_accepted zero new old e = refl
unless_accepted (suc f) new old e = absurd (omega arith)

-- what stays where a call is refused
pub unless_kept : {A : Type 0} (fault : ℕ) (new old : A) → 0 < fault → unless_refused fault new old ≡ old
unless_kept zero new old h = absurd (omega arith)
unless_kept (suc f) new old h = refl

-- the same with the refusal at hand
pub unless_told : {A : Type 0} (r : Refusal) (fault : ℕ) (new old : A) → number_of r ≡ fault → unless_refused fault new old ≡ old
unless_told r fault new old e =
    let low = number_low r in
    unless_kept fault new old (omega arith)

-- an answer that is refused, and one that is not
pub answers_refused : {A : Type 0} (r : Refusal) (fault : ℕ) (x none : A) → number_of r ≡ fault → Answers (Err r) fault x none
answers_refused r fault x none e = record { refusal = e; value = sym (unless_told r fault x none e) }

pub answers_done : {A : Type 0} (y : A) (fault : ℕ) (x none : A) → fault ≡ 0 → y ≡ x → Answers (Ok y) fault x none
answers_done y fault x none e v = record { refusal = sym e; value = rw (unless_accepted fault x none e) v }

-- the refusal of a number, back again
unfoldable refusal_of : ℕ → Refusal
refusal_of n = get_or (WrongGeometry ∷ WrongGeometry ∷ WrongLength ∷ WrongId ∷ WrongK ∷ NotFinite ∷ NoNorm ∷ NoProjection ∷ NoLayer ∷ NoMark ∷ NanScore ∷ SharedId ∷ FullCount ∷ BadSet ∷ NoRecall ∷ BadRecord ∷ []) n WrongGeometry

refusal_back : (r : Refusal) → refusal_of (number_of r) ≡ r
unfolding refusal_of
refusal_back WrongGeometry = refl
refusal_back WrongLength = refl
refusal_back WrongId = refl
refusal_back WrongK = refl
refusal_back NotFinite = refl
refusal_back NoNorm = refl
refusal_back NoProjection = refl
refusal_back NoLayer = refl
refusal_back NoMark = refl
refusal_back NanScore = refl
refusal_back SharedId = refl
refusal_back FullCount = refl
refusal_back BadSet = refl
refusal_back NoRecall = refl
refusal_back BadRecord = refl

-- a number names one refusal
pub one_refusal : (r s : Refusal) → number_of r ≡ number_of s → r ≡ s
one_refusal r s e = sym (refusal_back r) ∙ ap refusal_of e ∙ refusal_back s

-- two answers that say the same are equal
pub answered_once : {A : Type 0} (r s : Result A Refusal) (fault : ℕ) (x none : A) → Answers r fault x none → Answers s fault x none → r ≡ s
answered_once (Ok a) (Ok b) fault x none p q = ap Ok (p.value ∙ sym q.value)
answered_once (Ok a) (Err s) fault x none p q =
    let low = number_low s in
    let zero : 0 ≡ fault = p.refusal in
    let more : number_of s ≡ fault = q.refusal in
    absurd (omega arith)
answered_once (Err r) (Ok b) fault x none p q =
    let low = number_low r in
    let more : number_of r ≡ fault = p.refusal in
    let zero : 0 ≡ fault = q.refusal in
    absurd (omega arith)
answered_once (Err r) (Err s) fault x none p q = ap Err (one_refusal r s (p.refusal ∙ sym q.refusal))
