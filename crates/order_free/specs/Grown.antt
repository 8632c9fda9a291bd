-- What an index holds after additions to an empty one: of each id its last accepted addition's mark and stored bytes, of each face set's bit
-- whether an accepted addition put it there, and zeros elsewhere.
use Rattle.std.specs.Prelude.{ℕ, zero, suc, ◌^◌, ◌<◌, ◌≡◌, List, [], ◌∷◌, Bool, true, false, eqb, Float, get_or}
use Rattle.paper.specs.Choice.{◌and◌, pick}
use Rattle.paper.specs.Geometry.{Geo}
use Rattle.index_memory.specs.Memory.{Ix, empty_ix, own_ok_ix, face_bit, slot_bytes, stored_at, float_zeros}
use Rattle.bitmaps.specs.Words.{has, empty}
use Rattle.vector.specs.Norm.{normalized}
use Rattle.quantization.specs.Stored.{lower_bytes}
use Rattle.adding.specs.Adding.{face_slot, add_refusal}
use Rattle.order_free.specs.Order.{Addition}

-- what f gives for the last addition that passes the test, and `other` if none does
unfoldable pub last_or : {A : Type 0} → (Addition → Bool) → (Addition → A) → List Addition → A → A
last_or p f [] other = other
last_or p f (a ∷ more) other = last_or p f more (pick (p a) (f a) other)

module _ (g : Geo) (bs : List Float) where
  -- whether an addition is accepted: by an empty index, and so by every index of this geometry
  unfoldable pub taken : Addition → Bool
  taken a = eqb (add_refusal g bs a.id a.v (empty_ix g) (float_zeros g.d)) 0

  -- whether it is accepted and has id i
  abbrev pub taken_as : ℕ → Addition → Bool
  taken_as i a = taken a and eqb a.id i

  -- whether k is the bit that the addition sets for one of the first m bases
  unfoldable pub face_among : ℕ → ℕ → Addition → Bool
  face_among k zero a = false
  face_among k (suc b) a = pick (eqb (face_bit g.d g.cap b (face_slot g.d bs a.v b) a.id) k) true (face_among k b a)

  abbrev pub taken_at : ℕ → Addition → Bool
  taken_at k a = taken a and face_among k g.n a

  -- the mark of id i, bit k of the face sets, the stored bytes of id i
  abbrev pub mark_of : List Addition → ℕ → ℕ
  mark_of xs i = last_or (taken_as i) (λ (a : Addition). 1) xs 0

  abbrev pub face_of : List Addition → ℕ → ℕ
  face_of xs k = last_or (taken_at k) (λ (a : Addition). 1) xs 0

  abbrev pub bytes_of : List Addition → ℕ → List ℕ
  bytes_of xs i = last_or (taken_as i) (λ (a : Addition). lower_bytes g.mode (normalized a.v)) xs (empty (slot_bytes g.d g.mode))

  -- an index of the right lengths that holds just that (`grown_once` in proofs/: there is one such index)
  pub record Grown (xs : List Addition) (ix : Ix) : Type 0 where
    pub lengths : own_ok_ix g ix ≡ true
    pub faces : (k : ℕ) → has ix.faces k ≡ face_of xs k
    pub face_words_low : (q : ℕ) → get_or ix.faces q 0 < 2 ^ 64
    pub marks : (i : ℕ) → has ix.marks i ≡ mark_of xs i
    pub mark_words : (q : ℕ) → get_or ix.marks q 0 < 2 ^ 64
    pub vecs : (i : ℕ) → i < g.cap → stored_at g.d g.mode ix.vecs i ≡ bytes_of xs i
