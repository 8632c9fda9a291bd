-- Laws of stored components: their sizes, reading back what was stored, what stores elsewhere leave alone. Assumes nothing.
use mathlib.Core.Path.{◌≡◌, refl, sym, ap, ◌∙◌, subst}
use mathlib.Core.Bool.{Bool, not}
use mathlib.Core.List.{List, [], ◌∷◌, ◌++◌, map}
use Prim.Native.Nat.{ℕ, zero, suc, ◌+◌, ◌*◌, ◌%◌, ◌^◌, ◌≤◌, ◌<◌}
use native.Mathlib.Nat.{suc-mul, mul-le-mul_right}
use native.Mathlib.Decide.{dec_lt, dec_le}
use native.Mathlib.Omega.{arith}
use lib.Dec.{T, eqb}
use lib.ListN.{length, get_or, take, drop, length-append}
use lib.Seq.{sets, length-sets}
use lib.Ieee.{Float, nan, binary32, to_bits, of_bits, fits, nan_bits}
use lib.Ieee.Bits.{of_bits-to_bits, to_bits-lt, of_bits-fits, to_bits-of_bits, nan_bits_is}
use borrow.Author.Tests.{eq-eqb, ne_eqb}
use Rattle.paper.specs.Choice.{pick}
use Rattle.paper.specs.Geometry.{comp_size}
use Rattle.sqrt.proofs.Bits.{nan_bits_lem, reads_nan, reads_number}
use Rattle.quantization.specs.Bf16.{lowered, widened}
use Rattle.quantization.specs.Stored.{encoded, decoded, restored, comp_bytes, lower_bytes, component_at, components, Fit}
use Rattle.quantization.proofs.Sets.{sets_append}
use Rattle.quantization.proofs.Bytes.{length_le, word_drop, word_take, word_below, word_above, word_put}
use Rattle.quantization.proofs.Halves.{lowered_lt, half_back}

-- ---- the two modes

pub comp_four : (mode : ℕ) → mode ≡ 0 → comp_size mode ≡ 4
unfolding comp_size
comp_four mode e = simp (eq-eqb mode 0 e)

pub comp_two : (mode : ℕ) → (mode ≡ 0 → ⊥) → comp_size mode ≡ 2
unfolding comp_size
comp_two mode e = simp (ne_eqb mode 0 e)

pub encoded_four : (mode : ℕ) (x : Float) → mode ≡ 0 → encoded mode x ≡ to_bits binary32 x
unfolding encoded
encoded_four mode x e = simp (eq-eqb mode 0 e)

pub encoded_two : (mode : ℕ) (x : Float) → (mode ≡ 0 → ⊥) → encoded mode x ≡ lowered (to_bits binary32 x)
unfolding encoded
encoded_two mode x e = simp (ne_eqb mode 0 e)

pub decoded_four : (mode n : ℕ) → mode ≡ 0 → decoded mode n ≡ of_bits binary32 n
unfolding decoded
decoded_four mode n e = simp (eq-eqb mode 0 e)

pub decoded_two : (mode n : ℕ) → (mode ≡ 0 → ⊥) → decoded mode n ≡ of_bits binary32 (widened n)
unfolding decoded
decoded_two mode n e = simp (ne_eqb mode 0 e)

pub ruleset two_modes = (comp_four, comp_two, encoded_four, encoded_two, decoded_four, decoded_two)

-- what is stored has as many bytes as the component
pub encoded_lt : (mode : ℕ) (x : Float) → T (fits binary32 x) → encoded mode x < 256 ^ comp_size mode
encoded_lt mode x f = go (dec_lt mode 1)
  where
    bits : to_bits binary32 x < 4294967296
    bits = to_bits-lt binary32 x f

    go : Dec (mode < 1) → encoded mode x < 256 ^ comp_size mode
    go (yes l) = let e : mode ≡ 0 = omega arith in rw (encoded_four mode x e, comp_four mode e) bits
    go (no l) = let n : mode ≡ 0 → ⊥ = λ e. omega arith in rw (encoded_two mode x n, comp_two mode n) (lowered_lt (to_bits binary32 x) bits)

-- ---- sizes

pub length_comp : (mode : ℕ) (x : Float) → length (comp_bytes mode x) ≡ comp_size mode
unfolding comp_bytes
length_comp mode x = length_le (comp_size mode) (encoded mode x)

pub length_lower : (mode : ℕ) (xs : List Float) → length (lower_bytes mode xs) ≡ length xs * comp_size mode
unfolding lower_bytes
length_lower mode [] = omega arith
length_lower mode (x ∷ xs) =
    length-append (comp_bytes mode x) (lower_bytes mode xs)
    ∙ (omega (arith, length_comp mode x, length_lower mode xs, suc-mul (length xs) (comp_size mode)))

pub length_components : (mode : ℕ) (s : List ℕ) (at n : ℕ) → length (components mode s at n) ≡ n
unfolding components
length_components mode s at zero = refl
length_components mode s at (suc n) = ap suc (length_components mode s (at + comp_size mode) n)

-- ---- one component

module _ (mode : ℕ) (s : List ℕ) where
  -- of a part of the bytes
  pub comp_drop : (k at : ℕ) → component_at mode (drop k s) at ≡ component_at mode s (k + at)
  unfolding component_at
  comp_drop k at = ap (decoded mode) (word_drop s k at (comp_size mode))

  pub comp_take : (k at : ℕ) → at + comp_size mode ≤ k → component_at mode (take k s) at ≡ component_at mode s at
  unfolding component_at
  comp_take k at h = ap (decoded mode) (word_take s k at (comp_size mode) h)

  -- stores elsewhere leave it alone
  pub comp_below : (vs : List ℕ) (i at : ℕ) → at + comp_size mode ≤ i → component_at mode (sets s i vs) at ≡ component_at mode s at
  unfolding component_at
  comp_below vs i at h = ap (decoded mode) (word_below s vs i at (comp_size mode) h)

  pub comp_above : (vs : List ℕ) (i at : ℕ) → i + length vs ≤ at → component_at mode (sets s i vs) at ≡ component_at mode s at
  unfolding component_at
  comp_above vs i at h = ap (decoded mode) (word_above s vs i at (comp_size mode) h)

  -- a stored component is read as what the mode makes of it
  pub comp_back : (at : ℕ) (x : Float) → T (fits binary32 x) → at + comp_size mode ≤ length s → component_at mode (sets s at (comp_bytes mode x)) at ≡ restored mode x
  unfolding component_at comp_bytes restored
  comp_back at x f h = ap (decoded mode) (word_put s at (comp_size mode) (encoded mode x) h (encoded_lt mode x f))

-- ---- runs of components

-- none, and one more
pub components_none : (mode : ℕ) (s : List ℕ) (at : ℕ) → components mode s at 0 ≡ []
unfolding components
components_none mode s at = refl

pub components_step : (mode : ℕ) (s : List ℕ) (at n : ℕ) → components mode s at (suc n) ≡ component_at mode s at ∷ components mode s (at + comp_size mode) n
unfolding components
components_step mode s at n = refl

-- the i-th of them
pub components_at : (mode : ℕ) (s : List ℕ) (at n i : ℕ) → i < n → get_or (components mode s at n) i nan ≡ component_at mode s (at + i * comp_size mode)
unfolding components
components_at mode s at zero i h = absurd (omega arith)
components_at mode s at (suc n) zero h = let e : at ≡ at + 0 * comp_size mode = omega arith in ap (component_at mode s) e
components_at mode s at (suc n) (suc i) h =
    let e : at + comp_size mode + i * comp_size mode ≡ at + suc i * comp_size mode = omega (arith, suc-mul i (comp_size mode)) in
    components_at mode s (at + comp_size mode) n i (omega arith) ∙ ap (component_at mode s) e

-- bytes that read the same, component by component, are the same run
pub components_same : (mode : ℕ) (s t : List ℕ) (at to n : ℕ)
    → ((i : ℕ) → i < n → component_at mode s (at + i * comp_size mode) ≡ component_at mode t (to + i * comp_size mode)) → components mode s at n ≡ components mode t to n
unfolding components
components_same mode s t at to zero h = refl
components_same mode s t at to (suc n) h =
    let a : at + 0 * comp_size mode ≡ at = omega arith in
    let b : to + 0 * comp_size mode ≡ to = omega arith in
    let here : component_at mode s at ≡ component_at mode t to = ap (component_at mode s) (sym a) ∙ h 0 (omega arith) ∙ ap (component_at mode t) b in
    let rest : components mode s (at + comp_size mode) n ≡ components mode t (to + comp_size mode) n =
    components_same mode s t (at + comp_size mode) (to + comp_size mode) n
    (λ i l.
    let e : at + comp_size mode + i * comp_size mode ≡ at + suc i * comp_size mode = omega (arith, suc-mul i (comp_size mode)) in
    let f : to + suc i * comp_size mode ≡ to + comp_size mode + i * comp_size mode = omega (arith, suc-mul i (comp_size mode)) in
    ap (component_at mode s) e ∙ h (suc i) (omega arith) ∙ ap (component_at mode t) f) in
    rw (here, rest)

-- component i of n has room before the run's end
pub comp_room : (mode i n : ℕ) → i < n → i * comp_size mode + comp_size mode ≤ n * comp_size mode
comp_room mode i n h = subst (λ (x : ℕ). x ≤ n * comp_size mode) (suc-mul i (comp_size mode)) (le_times (comp_size mode) (suc i) n h)
  where
    le_times : (w a b : ℕ) → a ≤ b → a * w ≤ b * w
    le_times w a b l = mul-le-mul_right w l

-- of a part of the bytes, as of one slot
pub components_drop : (mode : ℕ) (s : List ℕ) (k at n : ℕ) → components mode (drop k s) at n ≡ components mode s (k + at) n
components_drop mode s k at n =
    components_same mode (drop k s) s at (k + at) n
    (λ i l. let e : k + (at + i * comp_size mode) ≡ k + at + i * comp_size mode = omega arith in comp_drop mode s k (at + i * comp_size mode) ∙ ap (component_at mode s) e)

pub components_take : (mode : ℕ) (s : List ℕ) (k at n : ℕ) → at + n * comp_size mode ≤ k → components mode (take k s) at n ≡ components mode s at n
components_take mode s k at n h =
    components_same mode (take k s) s at at n (λ i l. comp_take mode s k (at + i * comp_size mode) (omega (arith, comp_room mode i n l)))

-- stores elsewhere leave them alone
pub components_below : (mode : ℕ) (s vs : List ℕ) (i at n : ℕ) → at + n * comp_size mode ≤ i → components mode (sets s i vs) at n ≡ components mode s at n
components_below mode s vs i at n h =
    components_same mode (sets s i vs) s at at n (λ j l. comp_below mode s vs i (at + j * comp_size mode) (omega (arith, comp_room mode j n l)))

pub components_above : (mode : ℕ) (s vs : List ℕ) (i at n : ℕ) → i + length vs ≤ at → components mode (sets s i vs) at n ≡ components mode s at n
components_above mode s vs i at n h = components_same mode (sets s i vs) s at at n (λ j l. comp_above mode s vs i (at + j * comp_size mode) (omega arith))

-- a stored vector is read as what the mode makes of each component
pub components_back : (mode : ℕ) (s : List ℕ) (at : ℕ) (xs : List Float) → Fit xs → at + length xs * comp_size mode ≤ length s
    → components mode (sets s at (lower_bytes mode xs)) at (length xs) ≡ map (restored mode) xs
unfolding components lower_bytes
components_back mode s at [] f h = refl
components_back mode s at (x ∷ xs) f h =
    let w = comp_size mode in
    let m : suc (length xs) * w ≡ length xs * w + w = suc-mul (length xs) w in
    let t = sets s at (comp_bytes mode x) in
    let k : length t ≡ length s = length-sets s at (comp_bytes mode x) in
    let c : length (comp_bytes mode x) ≡ w = length_comp mode x in
    let e : sets s at (comp_bytes mode x ++ lower_bytes mode xs) ≡ sets t (at + w) (lower_bytes mode xs) =
    sets_append s (comp_bytes mode x) (lower_bytes mode xs) at ∙ ap (λ (n : ℕ). sets t (at + n) (lower_bytes mode xs)) c in
    let here : component_at mode (sets t (at + w) (lower_bytes mode xs)) at ≡ restored mode x =
    comp_below mode t (lower_bytes mode xs) (at + w) at (omega arith) ∙ comp_back mode s at x (f 0) (omega arith) in
    let rest : components mode (sets t (at + w) (lower_bytes mode xs)) (at + w) (length xs) ≡ map (restored mode) xs =
    components_back mode t (at + w) xs (λ i. f (suc i)) (omega arith) in
    ap (λ (b : List ℕ). components mode b at (suc (length xs))) e ∙ rw (here, rest)

-- ---- what is read again

-- in mode 0 every component of binary32 itself
pub restored_four : (mode : ℕ) (x : Float) → mode ≡ 0 → T (fits binary32 x) → restored mode x ≡ x
unfolding restored
restored_four mode x e f = decoded_four mode (encoded mode x) e ∙ ap (of_bits binary32) (encoded_four mode x e) ∙ of_bits-to_bits binary32 x f

-- in mode 1 the value of its bf16
pub restored_two : (mode : ℕ) (x : Float) → (mode ≡ 0 → ⊥) → restored mode x ≡ of_bits binary32 (widened (lowered (to_bits binary32 x)))
unfolding restored
restored_two mode x n = decoded_two mode (encoded mode x) n ∙ ap (λ (k : ℕ). of_bits binary32 (widened k)) (encoded_two mode x n)

-- and it is one of binary32
pub restored_fits : (mode : ℕ) (x : Float) → T (fits binary32 (restored mode x))
unfolding restored decoded
restored_fits mode x = of_bits-fits binary32 (pick (eqb mode 0) (encoded mode x) (widened (encoded mode x)))

quiet : of_bits binary32 (lowered 2143289344 * 65536) ≡ nan
unfolding lowered nan_bits of_bits
quiet = refl

-- a half's value, stored again
half_again : (h : ℕ) → h < 65536 → of_bits binary32 (widened (lowered (to_bits binary32 (of_bits binary32 (widened h))))) ≡ of_bits binary32 (widened h)
unfolding widened
half_again h l = go (dec_le (h % 32768) 32640)
  where
    go : Dec (h % 32768 ≤ 32640) → of_bits binary32 (lowered (to_bits binary32 (of_bits binary32 (h * 65536))) * 65536) ≡ of_bits binary32 (h * 65536)
    go (yes n) =
        let t : to_bits binary32 (of_bits binary32 (h * 65536)) ≡ h * 65536 =
        to_bits-of_bits binary32 (h * 65536) (omega arith) (subst (λ (b : Bool). T (not b)) (nan_bits_is binary32 (h * 65536)) (reads_number (h * 65536) (omega arith))) in
        ap (λ (b : ℕ). of_bits binary32 (lowered b * 65536)) t ∙ ap (λ (k : ℕ). of_bits binary32 (k * 65536)) (half_back h n)
    go (no n) =
        let low : h * 65536 % 2147483648 ≡ h % 32768 * 65536 = omega arith in
        let e : of_bits binary32 (h * 65536) ≡ nan = reads_nan (h * 65536) (omega arith) in
        ap (λ (y : Float). of_bits binary32 (lowered (to_bits binary32 y) * 65536)) e
        ∙ ap (λ (b : ℕ). of_bits binary32 (lowered b * 65536)) nan_bits_lem
        ∙ quiet
        ∙ sym e

-- what was read is stored as it was: reading and storing again changes nothing more
pub restored_again : (mode : ℕ) (x : Float) → T (fits binary32 x) → restored mode (restored mode x) ≡ restored mode x
restored_again mode x f = go (dec_lt mode 1)
  where
    go : Dec (mode < 1) → restored mode (restored mode x) ≡ restored mode x
    go (yes l) = restored_four mode (restored mode x) (omega arith) (restored_fits mode x)
    go (no l) =
        let n : mode ≡ 0 → ⊥ = λ e. omega arith in
        restored_two mode (restored mode x) n
        ∙ ap (λ (y : Float). of_bits binary32 (widened (lowered (to_bits binary32 y)))) (restored_two mode x n)
        ∙ half_again (lowered (to_bits binary32 x)) (lowered_lt (to_bits binary32 x) (to_bits-lt binary32 x f))
        ∙ sym (restored_two mode x n)
