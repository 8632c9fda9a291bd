-- What a geometry is, and how long each lent memory has to be.
use Rattle.std.specs.Prelude.{ℕ, ◌*◌, ◌/◌, ◌%◌, ◌≤◌, ◌≡◌, Bool, true, leb, eqb}
use Rattle.paper.specs.Choice.{◌and◌, pick}
use Rattle.paper.specs.declared.Lengths.{Lengths}
use Rattle.paper.specs.declared.Geometry.{Geometry}

-- dimensions d, bases n, capacity C (`cap`) and store mode
abbrev pub Geo : Type 0
Geo = Geometry

abbrev pub geo : ℕ → ℕ → ℕ → ℕ → Geo
geo d n cap mode = record { d = d; n = n; cap = cap; mode = mode }

-- a capacity is a multiple of 64 from 64 to 65,536
unfoldable pub cap_ok : ℕ → Bool
cap_ok cap = leb 64 cap and leb cap 65536 and eqb (cap % 64) 0

-- the store modes: 0, four bytes a component; 1, two bytes (bf16)
unfoldable pub mode_ok : ℕ → Bool
mode_ok mode = leb mode 1

-- d from 1 to 1,024, n from 1 to 32, a good capacity, a known mode
unfoldable pub geo_ok : ℕ → ℕ → ℕ → ℕ → Bool
geo_ok d n cap mode = leb 1 d and leb d 1024 and leb 1 n and leb n 32 and cap_ok cap and mode_ok mode

-- bytes a component
unfoldable pub comp_size : ℕ → ℕ
comp_size mode = pick (eqb mode 0) 4 2

-- W: words of 64 ids in one set
abbrev pub set_words : ℕ → ℕ
set_words cap = cap / 64

-- the floats of n bases of d vectors of d components
abbrev pub bases_len : ℕ → ℕ → ℕ
bases_len d n = n * (d * d)

-- the words of n times 2d face sets
abbrev pub face_words : ℕ → ℕ → ℕ → ℕ
face_words d n cap = n * (2 * d) * set_words cap

-- the bytes of C slots of d components
abbrev pub vector_bytes : ℕ → ℕ → ℕ → ℕ
vector_bytes d cap mode = cap * (comp_size mode * d)

-- what each memory is to be, given the geometry; all 0 for one that is refused
unfoldable pub lengths_of : Geo → Lengths
lengths_of g =
    pick (geo_ok g.d g.n g.cap g.mode)
    (record {
      bases = bases_len g.d g.n;
      faces = face_words g.d g.n g.cap;
      marks = set_words g.cap;
      vectors = vector_bytes g.d g.cap g.mode;
      floats = g.d;
      layers = g.n * set_words g.cap;
      set = set_words g.cap;
    })
    (record { bases = 0; faces = 0; marks = 0; vectors = 0; floats = 0; layers = 0; set = 0 })

-- what a good geometry gives
pub record GeoFacts (d n cap mode : ℕ) : Type 0 where
  pub d_low : 1 ≤ d
  pub d_high : d ≤ 1024
  pub n_low : 1 ≤ n
  pub n_high : n ≤ 32
  pub cap_low : 64 ≤ cap
  pub cap_high : cap ≤ 65536
  pub cap_even : cap % 64 ≡ 0
  pub mode_known : mode_ok mode ≡ true

-- what a good capacity gives
pub record CapFacts (cap : ℕ) : Type 0 where
  pub low : 64 ≤ cap
  pub high : cap ≤ 65536
  pub even : cap % 64 ≡ 0
