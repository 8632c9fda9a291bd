-- That the program's memory has room for every geometry within its limits. Assumes nothing.
use mathlib.Core.Path.{◌≡◌, refl, sym, ap, ◌∙◌}
use mathlib.Core.List.{List, ◌∷◌, ◌++◌, append_assoc}
use Prim.Native.Nat.{ℕ, zero, suc, ◌+◌, ◌-◌, ◌*◌, ◌≤◌, ◌<◌}
use native.Mathlib.Nat.{mul-le-mul}
use native.Mathlib.Omega.{arith}
use lib.ListN.{length, take, drop, replicate, length-take, length-replicate}
use lib.Seq.{sets, sets-eq, drop-drop}
use Rattle.paper.specs.Geometry.{Geo, set_words, bases_len, face_words, vector_bytes}
use Rattle.paper.proofs.GeometryFacts.{comp_le}
use Rattle.records.specs.Requests.{Limits}
use Rattle.records.specs.declared.Session.{Session}
use Rattle.records.proofs.Requests.{square}
use Rattle.steps.specs.Memory.{Parts, geo_of}

pub few_bases : (n d : ℕ) → n ≤ 4 → d ≤ 8 → bases_len d n ≤ 256
few_bases n d hn hd = mul-le-mul hn (square d hd)

pub few_words : (c : ℕ) → c ≤ 256 → set_words c ≤ 4
few_words c h = omega arith

pub few_faces : (n d c : ℕ) → n ≤ 4 → d ≤ 8 → c ≤ 256 → face_words d n c ≤ 256
few_faces n d c hn hd hc =
    let h : 2 * d ≤ 16 = omega arith in
    mul-le-mul (mul-le-mul hn h) (few_words c hc)

pub few_vectors : (c m d : ℕ) → c ≤ 256 → d ≤ 8 → vector_bytes d c m ≤ 8192
few_vectors c m d hc hd = mul-le-mul hc (mul-le-mul (comp_le m) hd)

pub few_layers : (n c : ℕ) → n ≤ 4 → c ≤ 256 → n * set_words c ≤ 16
few_layers n c h k = mul-le-mul h (few_words c k)

pub basis_room : (b n d : ℕ) → b < n → n ≤ 4 → d ≤ 8 → b * (d * d) + d * d ≤ 256
basis_room b n d h k l =
    let k1 : b + 1 ≤ 4 = omega arith in
    let p : (b + 1) * (d * d) ≤ 256 = mul-le-mul k1 (square d l) in
    omega arith

-- ---- the parts that a session's geometry uses

module _ (g : Session) (l : Limits g) (at : Geo) (e : at ≡ geo_of g) where
  pub layers_fit : at.n * set_words at.cap ≤ 16
  layers_fit = rw e (few_layers g.n g.cap l.n l.cap)

  pub parts_are : (b f v : ℕ) → b ≡ bases_len at.d at.n → f ≡ face_words at.d at.n at.cap → v ≡ vector_bytes at.d at.cap at.mode
      → Parts g (record { bases = b; faces = f; marks = set_words at.cap; vectors = v; floats = at.d; layers = at.n * set_words at.cap; set = set_words at.cap })
  parts_are b f v eb ef ev =
      let kb : b ≡ bases_len g.d g.n = eb ∙ ap (λ (x : Geo). bases_len x.d x.n) e in
      let kf : f ≡ face_words g.d g.n g.cap = ef ∙ ap (λ (x : Geo). face_words x.d x.n x.cap) e in
      let kv : v ≡ vector_bytes g.d g.cap g.mode = ev ∙ ap (λ (x : Geo). vector_bytes x.d x.cap x.mode) e in
      record {
        bases = kb;
        faces = kf;
        marks = ap (λ (x : Geo). set_words x.cap) e;
        vectors = kv;
        few_bases = rw kb (few_bases g.n g.d l.n l.d);
        few_faces = rw kf (few_faces g.n g.d g.cap l.n l.d l.cap);
        few_marks = rw e (few_words g.cap l.cap);
        few_vectors = rw kv (few_vectors g.cap g.mode g.d l.cap l.d);
      }

-- ---- parts

module _ {A : Type 0} where
  pub taken : (n m : ℕ) (x : A) → n ≤ m → n ≡ length (take n (replicate m x))
  taken n m x h = simp (length-take, length-replicate) (omega arith)

  pub front_same : (n m : ℕ) (x : A) → n ≤ m → take n (replicate m x) ≡ replicate n x
  front_same zero m x h = refl
  front_same (suc n) zero x h = let no : ⊥ = omega arith in absurd no
  front_same (suc n) (suc m) x h = ap (λ (t : List A). x ∷ t) (front_same n m x (omega arith))

  pub part_set : (xs : List A) (a e : ℕ) (ys : List A) → a ≤ e → e ≤ length xs → length ys ≡ e - a → take a xs ++ (ys ++ drop (e - a) (drop a xs)) ≡ sets xs a ys
  part_set xs a e ys h k l =
      let q : a + length ys ≡ a + (e - a) = omega arith in
      sym (append_assoc (take a xs) ys (drop (e - a) (drop a xs))) ∙ ap (λ (t : List A). take a xs ++ ys ++ t) (drop-drop (e - a) a xs)
      ∙ sym (sets-eq ys xs a (omega arith) ∙ ap (λ (t : ℕ). take a xs ++ ys ++ drop t xs) q)
