-- What a record asks for, or its refusal, in the order of 01: the kind (15), the time (1), the body's length (2), the fields (1).
use Rattle.std.specs.Prelude.{ℕ, ◌+◌, ◌*◌, ◌≤◌, ◌<◌, ◌≡◌, Bool, true, not, List, [], ◌∷◌, length, get_or, ltb, leb, eqb, Result, Ok, Err}
use Rattle.paper.specs.Choice.{◌and◌, pick}
use Rattle.paper.specs.Geometry.{geo_ok}
use Rattle.records.specs.Fields.{u16_at, u32_at}
use Rattle.paper.specs.declared.Refusal.{Refusal}
use Rattle.paper.specs.declared.Refusal.TheVariants.{WrongGeometry, WrongLength, BadRecord}
use Rattle.records.specs.declared.Session.{Session}
use Rattle.records.specs.declared.Request.{Request}
use Rattle.records.specs.declared.Request.TheVariants.{Geometry, Basis, Add, Search}

-- what a record asks for, or its refusal
abbrev pub Asked : Type 0
Asked = Result Request Refusal

-- a refusal unless the test holds, else what the later tests say
abbrev pub demand : Refusal → Bool → Asked → Asked
demand r ok rest = pick ok rest (Err r)

-- no geometry was accepted yet
abbrev pub at_start : ℕ → Bool
at_start stage = eqb stage 0

-- bases may be given
abbrev pub takes_bases : ℕ → Bool
takes_bases stage = eqb stage 1

-- the program's limits: d 8, n 4, C 256 (and a known mode)
unfoldable pub within_limits : Session → Bool
within_limits g = leb g.d 8 and leb g.n 4 and leb g.cap 256 and leb g.mode 1

-- a geometry within 01's ranges and within the program's
unfoldable pub geometry_fits : ℕ → ℕ → ℕ → ℕ → Bool
geometry_fits d n cap mode = geo_ok d n cap mode and leb d 8 and leb n 4 and leb cap 256

-- A record stands here from its kind on, so its first field is at 2.

-- kind 1: only before a geometry was accepted; d, n (two bytes each), C (four), mode (one)
unfoldable pub geometry_of : List ℕ → Session → Asked
geometry_of s g =
    demand WrongGeometry (at_start g.stage) (demand WrongLength (eqb (length s) 11)
    (demand WrongGeometry (geometry_fits (u16_at s 2) (u16_at s 4) (u32_at s 6) (get_or s 10 0)) (Ok (Geometry (u16_at s 2) (u16_at s 4) (u32_at s 6) (get_or s 10 0)))))

-- kind 2: only between the geometry and the first accepted addition; the basis number (two), d * d floats; the number is below n
unfoldable pub basis_of : List ℕ → Session → Asked
basis_of s g =
    demand WrongGeometry (takes_bases g.stage) (demand WrongLength (eqb (length s) (4 + 4 * (g.d * g.d)))
    (demand WrongGeometry (ltb (u16_at s 2) g.n) (Ok (Basis (u16_at s 2)))))

-- kind 3: not before the geometry; the id (four), d floats
unfoldable pub addition_of : List ℕ → Session → Asked
addition_of s g = demand WrongGeometry (not (at_start g.stage)) (demand WrongLength (eqb (length s) (6 + 4 * g.d)) (Ok (Add (u32_at s 2))))

-- kind 5: not before the geometry; k (two), search_k (four), spill (two), d floats
unfoldable pub search_of : List ℕ → Session → Asked
search_of s g =
    demand WrongGeometry (not (at_start g.stage)) (demand WrongLength (eqb (length s) (10 + 4 * g.d)) (Ok (Search (u16_at s 2) (u32_at s 4) (u16_at s 8))))

-- by the kind; all others are unknown
abbrev pub kind_of : ℕ → List ℕ → Session → Asked
kind_of k s g =
    pick (eqb k 1) (geometry_of s g) (pick (eqb k 2) (basis_of s g) (pick (eqb k 3) (addition_of s g) (pick (eqb k 5) (search_of s g) (Err BadRecord))))

-- a whole record; the first test holds in every run, and lets a session hold any four numbers
unfoldable pub request_of : List ℕ → Session → Asked
request_of s g = demand WrongGeometry (within_limits g) (demand BadRecord (leb 2 (length s)) (kind_of (u16_at s 0) s g))

-- ---- what an answer tells; its refusal's number is `code_of`

-- the kind of record that each case comes of; 0 is no kind, and stands for a refusal
abbrev pub request_kind : Asked → ℕ
request_kind (Err r) = 0
request_kind (Ok (Geometry d n cap mode)) = 1
request_kind (Ok (Basis b)) = 2
request_kind (Ok (Add id)) = 3
request_kind (Ok (Search k wanted spill)) = 5

-- the values that each case holds, in their order
abbrev pub request_values : Asked → List ℕ
request_values (Err r) = []
request_values (Ok (Geometry d n cap mode)) = d ∷ n ∷ cap ∷ mode ∷ []
request_values (Ok (Basis b)) = b ∷ []
request_values (Ok (Add id)) = id ∷ []
request_values (Ok (Search k wanted spill)) = k ∷ wanted ∷ spill ∷ []

-- ---- what whoever performs a request may count on

pub record Limits (g : Session) : Type 0 where
  pub d : g.d ≤ 8
  pub n : g.n ≤ 4
  pub cap : g.cap ≤ 256
  pub mode : g.mode ≤ 1

abbrev pub Fits : Request → List ℕ → Session → Type 0
Fits (Geometry d n cap mode) s g = geometry_fits d n cap mode ≡ true
Fits (Basis b) s g = Limits g × (b < g.n) × (length s ≡ 4 + 4 * (g.d * g.d))
Fits (Add id) s g = Limits g × (length s ≡ 6 + 4 * g.d)
Fits (Search k wanted spill) s g = Limits g × (length s ≡ 10 + 4 * g.d)
