-- Copying out and reading: what a turn of each loop leaves to do, the two definitions by their cases, and that reading gives back what was
-- copied out. Assumes nothing.
use mathlib.Core.Path.{◌≡◌, refl, sym, ap, ◌∙◌}
use mathlib.Core.Bool.{true, false}
use mathlib.Core.List.{List, ◌++◌, map, append-nil}
use Prim.Native.Nat.{ℕ, suc, ◌+◌, ◌-◌, ◌*◌, ◌/◌, ◌%◌, ◌≤◌, ◌<◌}
use native.Mathlib.Nat.{suc-mul, le-div_iff_mul-le, div-lt_iff_lt-mul, mul-div_cancel, mul-mod_left, le_refl}
use native.Mathlib.Numerals.{add-one}
use native.Mathlib.Omega.{arith}
use lib.ListN.{length, get_or, take, drop, set, length-map, drop_of_length-le}
use lib.Seq.{sets, drop-cons, drop-length, take_at}
use lib.Ieee.{Float, nan}
use borrow.Author.Tests.{le-leb, lt-leb, eq-eqb, ne_eqb}
use Rattle.paper.specs.Geometry.{mode_ok, comp_size}
use Rattle.paper.proofs.GeometryFacts.{comp_low}
use Rattle.quantization.specs.Stored.{comp_bytes, lower_bytes, component_at, components, restored, Fit}
use Rattle.quantization.specs.Copies.{Marshalled, marshalled, marshal_refusal, marshal_of, unmarshalled, unmarshal_refusal, unmarshal_of}
use Rattle.quantization.proofs.Sets.{sets_append, sets_front}
use Rattle.quantization.proofs.Stored.{length_comp, length_lower, length_components, components_back, comp_room}

-- ---- room, by the quotient that the code takes

pub fit : (mode n len : ℕ) → n ≤ len / comp_size mode → n * comp_size mode ≤ len
fit mode n len h = (le-div_iff_mul-le (comp_low mode)).0 h

pub unfit : (mode n len : ℕ) → len / comp_size mode < n → len < n * comp_size mode
unfit mode n len h = (div-lt_iff_lt-mul (comp_low mode)).0 h

-- component i of n has room in a length that n of them fit
pub room : (mode i n len : ℕ) → i < n → n ≤ len / comp_size mode → i * comp_size mode + comp_size mode ≤ len
room mode i n len h l = omega (arith, comp_room mode i n h, fit mode n len l)

-- ---- copying out

module _ (mode : ℕ) (v : List Float) where
  -- storing the components that are left
  pub marshal_step : (s t : List ℕ) (i : ℕ) → i < length v → t ≡ sets s (i * comp_size mode) (comp_bytes mode (get_or v i nan))
      → sets t ((i + 1) * comp_size mode) (lower_bytes mode (drop (i + 1) v)) ≡ sets s (i * comp_size mode) (lower_bytes mode (drop i v))
  unfolding lower_bytes
  marshal_step s t i h e =
      let w : i * comp_size mode + length (comp_bytes mode (get_or v i nan)) ≡ (i + 1) * comp_size mode =
      omega (arith, length_comp mode (get_or v i nan), suc-mul i (comp_size mode), ap (λ (n : ℕ). n * comp_size mode) (add-one i)) in
      rw (drop-cons v i nan h, e, sets_append s (comp_bytes mode (get_or v i nan)) (lower_bytes mode (drop (suc i) v)) (i * comp_size mode), w, add-one)

  pub marshal_end : (s : List ℕ) (i at : ℕ) → length v ≤ i → sets s at (lower_bytes mode (drop i v)) ≡ s
  unfolding lower_bytes
  marshal_end s i at h = rw (drop_of_length-le v h)

  -- the ways out
  module _ (s : List ℕ) where
    pub marshal_unknown : mode_ok mode ≡ false → marshalled 1 s ≡ marshal_of mode v s
    unfolding marshal_of marshal_refusal
    marshal_unknown e = simp e

    pub marshal_short : mode_ok mode ≡ true → length s < length v * comp_size mode → marshalled 2 s ≡ marshal_of mode v s
    unfolding marshal_of marshal_refusal
    marshal_short e h = simp (e, lt-leb (length v * comp_size mode) (length s) h)

    pub marshal_done : (t : List ℕ) → mode_ok mode ≡ true → length v * comp_size mode ≤ length s → t ≡ sets s 0 (lower_bytes mode v) → marshalled 0 t ≡ marshal_of mode v s
    unfolding marshal_of marshal_refusal
    marshal_done t e h f =
        simp (e, le-leb (length v * comp_size mode) (length s) h, f ∙ sets_front s (lower_bytes mode v) (length v * comp_size mode) (length_lower mode v) h)

-- what the code that copies out is proved by
pub ruleset marshalling = (comp_low, fit, unfit, marshal_step, marshal_end, marshal_unknown, marshal_short, marshal_done)

-- ---- reading

module _ (mode : ℕ) (s : List ℕ) (n : ℕ) where
  -- storing the components that are left
  pub unmarshal_step : (out : List Float) (i : ℕ) (x : Float) → i < n → x ≡ component_at mode s (i * comp_size mode)
      → sets (set out i x) (i + 1) (components mode s ((i + 1) * comp_size mode) (n - (i + 1))) ≡ sets out i (components mode s (i * comp_size mode) (n - i))
  unfolding components
  unmarshal_step out i x h e =
      let f : n - i ≡ suc (n - (i + 1)) = omega arith in
      let w : (i + 1) * comp_size mode ≡ i * comp_size mode + comp_size mode = ap (λ (k : ℕ). k * comp_size mode) (add-one i) ∙ suc-mul i (comp_size mode) in
      let g : i + 1 ≡ suc i = add-one i in
      rw (f, w, e, g)

  pub unmarshal_end : (out : List Float) (i at : ℕ) → n ≤ i → sets out i (components mode s at (n - i)) ≡ out
  unfolding components
  unmarshal_end out i at h = let e : n - i ≡ 0 = omega arith in rw e

module _ (mode : ℕ) (s : List ℕ) (out : List Float) where
  pub unmarshal_unknown : mode_ok mode ≡ false → unmarshalled 1 out ≡ unmarshal_of mode s out
  unfolding unmarshal_of unmarshal_refusal
  unmarshal_unknown e = simp e

  pub unmarshal_uneven : mode_ok mode ≡ true → (length s % comp_size mode ≡ 0 → ⊥) → unmarshalled 2 out ≡ unmarshal_of mode s out
  unfolding unmarshal_of unmarshal_refusal
  unmarshal_uneven e h = simp (e, ne_eqb (length s % comp_size mode) 0 h)

  pub unmarshal_short : mode_ok mode ≡ true → length s % comp_size mode ≡ 0 → length out < length s / comp_size mode → unmarshalled 2 out ≡ unmarshal_of mode s out
  unfolding unmarshal_of unmarshal_refusal
  unmarshal_short e h l = simp (e, eq-eqb (length s % comp_size mode) 0 h, lt-leb (length s / comp_size mode) (length out) l)

  pub unmarshal_done : (t : List Float) → mode_ok mode ≡ true → length s % comp_size mode ≡ 0 → length s / comp_size mode ≤ length out
      → t ≡ sets out 0 (components mode s 0 (length s / comp_size mode)) → unmarshalled 0 t ≡ unmarshal_of mode s out
  unfolding unmarshal_of unmarshal_refusal
  unmarshal_done t e h l f =
      let n = length s / comp_size mode in
      simp (e, eq-eqb (length s % comp_size mode) 0 h, le-leb (length s / comp_size mode) (length out) l, f ∙ sets_front out (components mode s 0 n) n (length_components mode s 0 n) l)

-- what the code that reads is proved by
pub ruleset unmarshalling = (comp_low, room, unmarshal_step, unmarshal_end, unmarshal_unknown, unmarshal_uneven, unmarshal_short, unmarshal_done)

-- ---- reading what was copied out

module _ (mode : ℕ) (v : List Float) (known : mode_ok mode ≡ true) where
  -- the bytes in front are those of the components
  pub copied : (s : List ℕ) → length v * comp_size mode ≤ length s → take (length v * comp_size mode) (marshal_of mode v s).array ≡ lower_bytes mode v
  copied s h =
      let w = length v * comp_size mode in
      let a : (marshal_of mode v s).array ≡ sets s 0 (lower_bytes mode v) = sym (ap (λ (m : Marshalled). m.array) (marshal_done mode v s (sets s 0 (lower_bytes mode v)) known h refl)) in
      ap (take w) (a ∙ sets_front s (lower_bytes mode v) w (length_lower mode v) h) ∙ take_at (lower_bytes mode v) (drop w s) w (length_lower mode v)

  module _ (out : List Float) (fit : Fit v) (space : length v ≤ length out) where
    count : length (lower_bytes mode v) / comp_size mode ≡ length v
    count = ap (λ (n : ℕ). n / comp_size mode) (length_lower mode v) ∙ mul-div_cancel (length v) (comp_low mode)

    even : length (lower_bytes mode v) % comp_size mode ≡ 0
    even = ap (λ (n : ℕ). n % comp_size mode) (length_lower mode v) ∙ mul-mod_left (length v) (comp_size mode)

    itself : sets (lower_bytes mode v) 0 (lower_bytes mode v) ≡ lower_bytes mode v
    itself =
        sets_front (lower_bytes mode v) (lower_bytes mode v) (length (lower_bytes mode v)) refl (le_refl (length (lower_bytes mode v)))
        ∙ ap (λ (l : List ℕ). lower_bytes mode v ++ l) (drop-length (lower_bytes mode v))
        ∙ append-nil (lower_bytes mode v)

    all : components mode (lower_bytes mode v) 0 (length v) ≡ map (restored mode) v
    all =
        ap (λ (s : List ℕ). components mode s 0 (length v)) (sym itself)
        ∙ components_back mode (lower_bytes mode v) 0 v fit (omega (arith, length_lower mode v))

    -- each component comes back as what the mode makes of it, and the components of out beyond them are kept
    pub read_lowered : unmarshal_of mode (lower_bytes mode v) out ≡ unmarshalled 0 (map (restored mode) v ++ drop (length v) out)
    read_lowered =
        let e : sets out 0 (map (restored mode) v) ≡ map (restored mode) v ++ drop (length v) out = sets_front out (map (restored mode) v) (length v) (length-map v (restored mode)) space in
        let f : map (restored mode) v ++ drop (length v) out ≡ sets out 0 (components mode (lower_bytes mode v) 0 (length (lower_bytes mode v) / comp_size mode)) =
        sym e ∙ ap (sets out 0) (sym all ∙ ap (components mode (lower_bytes mode v) 0) (sym count)) in
        sym (unmarshal_done mode (lower_bytes mode v) out _ known even (omega (arith, count)) f)

    -- so after copying out into an array with room, reading its front gives the lowered components back
    pub read_back : (s : List ℕ) → length v * comp_size mode ≤ length s
        → unmarshal_of mode (take (length v * comp_size mode) (marshal_of mode v s).array) out ≡ unmarshalled 0 (map (restored mode) v ++ drop (length v) out)
    read_back s h = ap (λ (b : List ℕ). unmarshal_of mode b out) (copied s h) ∙ read_lowered
