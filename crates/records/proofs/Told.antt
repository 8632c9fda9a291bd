-- What the kind, the number and the values of an answer tell: the answer. Assumes nothing.
use Rattle.std.proofs.Common.{ℕ, List, ◌≡◌, refl, sym, ap, ◌∙◌, get_or, eqb, arith, Ok, Err}
use Rattle.paper.specs.Choice.{pick}
use Rattle.paper.specs.Refusals.{number_of, code_of}
use Rattle.paper.proofs.Answering.{number_low, one_refusal}
use Rattle.records.specs.declared.Request.{Request}
use Rattle.records.specs.declared.Request.TheVariants.{Geometry, Basis, Add, Search}
use Rattle.records.specs.Requests.{Asked, request_kind, request_values}

-- the request that a kind and values tell
told : ℕ → List ℕ → Request
told kind xs =
    let x = λ (i : ℕ). get_or xs i 0 in
    pick (eqb kind 1) (Geometry (x 0) (x 1) (x 2) (x 3))
    (pick (eqb kind 2) (Basis (x 0))
    (pick (eqb kind 3) (Add (x 0)) (Search (x 0) (x 1) (x 2))))

told_back : (q : Request) → told (request_kind (Ok q)) (request_values (Ok q)) ≡ q
unfolding told
told_back (Geometry d n cap mode) = refl
told_back (Basis b) = refl
told_back (Add id) = refl
told_back (Search k wanted spill) = refl

pub one_request : (q r : Asked) → request_kind q ≡ request_kind r → code_of q ≡ code_of r → request_values q ≡ request_values r → q ≡ r
one_request (Ok q) (Ok r) k n v = ap Ok (sym (told_back q) ∙ (λ i. told (k i) (v i)) ∙ told_back r)
one_request (Ok q) (Err s) k n v =
    let low = number_low s in
    let e : 0 ≡ number_of s = n in
    absurd (omega arith)
one_request (Err r) (Ok q) k n v =
    let low = number_low r in
    let e : number_of r ≡ 0 = n in
    absurd (omega arith)
one_request (Err r) (Err s) k n v = ap Err (one_refusal r s n)
