-- What each kind of record comes to. Assumes nothing.
use Rattle.std.proofs.Common.{Result, Ok, Err, IfOk}
use mathlib.Core.Path.{◌≡◌, refl, sym, ap, ◌∙◌, subst}
use mathlib.Core.List.{List, ◌++◌}
use mathlib.Core.Bool.{Bool, true, false}
use Prim.Native.Nat.{ℕ, ◌+◌, ◌-◌, ◌*◌, ◌≤◌}
use native.Mathlib.Omega.{arith}
use lib.ListN.{length, take, drop, replicate, length-append, length-take, length-drop}
use lib.Seq.{sets, take_at}
use lib.Dec.{leb, eqb}
use lib.Ieee.{Float}
use borrow.Author.Tests.{eq-eqb, ne_eqb, leb-true}
use Rattle.paper.specs.Choice.{pick}
use Rattle.paper.proofs.Choice.{and_l, and_r}
use Rattle.paper.specs.Geometry.{Geo, set_words, bases_len, face_words, vector_bytes}
use Rattle.paper.specs.Refusals.{number_of}
use Rattle.paper.specs.declared.Refusal.{Refusal}
use Rattle.records.specs.Requests.{Limits, Asked, request_of}
use Rattle.records.specs.Fields.{floats_at}
use Rattle.records.specs.declared.Session.{Session}
use Rattle.records.specs.declared.Request.TheVariants as Asks
use Rattle.records.proofs.Floats.{floats_length}
use Rattle.lines.specs.Lines.{Put, refused_line, told}
use Rattle.lines.specs.declared.Told.TheVariants as Says
use Rattle.lines.proofs.Texts.{refused_short, told_short, listing_length}
use Rattle.index_memory.specs.Memory.{Ix, ix_of}
use Rattle.adding.specs.Adding.{added, add_of}
use Rattle.vector_store.specs.Search.{Nearest, told_of, Work, works, Searched, searched, search_of}
use Rattle.vector_store.specs.declared.Nearest as Rust
use Rattle.vector_store.proofs.Answers.{search_sound}
use Rattle.result.specs.Sets.{well_formed, Sound}
use Rattle.result.specs.declared.ResultSet.{ResultSet}
use Rattle.steps.specs.Memory.{Mem, memory_of, geo_of, zero_f, added_by, added_of, found_by, found_of}
use Rattle.steps.specs.Steps.{State, state_of, listed, found_text, closed, perform, step_of, Stepped}
use Rattle.steps.proofs.Room.{taken, front_same, part_set, few_words, few_layers}

-- ---- a search lists at most 256

sound_few : (s : ResultSet) → Sound s → s.len ≤ 256
unfolding well_formed
sound_few s h =
    let e = h.formed in
    let k : s.k ≤ 256 = leb-true s.k 256 (and_l (leb s.k 256) _ e) in
    let l : s.len ≤ s.k = leb-true s.len s.k (and_l (leb s.len s.k) _ (and_r (leb s.k 256) _ e)) in
    omega arith

listed_few : (g : Geo) (bs : List Float) (ix : Ix) (t : List Float) (k wanted spill : ℕ) (m : Work) → (search_of g bs ix t k wanted spill m).answer.set.len ≤ 256
listed_few g bs ix t k wanted spill m = sound_few _ (search_sound g bs ix t k wanted spill m)

-- ---- an addition and a search on the front of the memory

module _ (g : Session) (m : Mem) (nb nf nm nv : ℕ) (eb : nb ≡ bases_len g.d g.n) (ef : nf ≡ face_words g.d g.n g.cap)
    (em : nm ≡ set_words g.cap) (ev : nv ≡ vector_bytes g.d g.cap g.mode) where
  module _ (x : Geo) (ex : x ≡ geo_of g) where
    pub add_is : (v work : List Float) (id r : ℕ) (f' m' v' : List ℕ) (w' : List Float)
        → added r (ix_of f' m' v') w' ≡ add_of x (take nb m.bases) id v (ix_of (take nf m.ix.faces) (take nm m.ix.marks) (take nv m.ix.vecs)) work
        → added_by v work g id m ≡ (r, memory_of m.bases (f' ++ drop nf m.ix.faces) (m' ++ drop nm m.ix.marks) (v' ++ drop nv m.ix.vecs))
    unfolding added_by
    add_is v work id r f' m' v' w' e = rw (← ex, ← eb, ← ef, ← em, ← ev, ← e) refl

    pub find_is : (v work : List Float) (layers set : List ℕ) (k wanted spill : ℕ) (f : Nearest) (after : Work)
        → searched f after ≡ search_of x (take nb m.bases) (ix_of (take nf m.ix.faces) (take nm m.ix.marks) (take nv m.ix.vecs)) v k wanted spill (works work layers set)
        → f ≡ found_by v work layers set g k wanted spill m
    unfolding found_by
    find_is v work layers set k wanted spill f after e = ap (λ (y : Searched). y.answer) e ∙ rw (ex, eb, ef, em, ev) refl

-- the list of an accepted search
few : (r : Result Rust.Nearest Refusal) → (told_of r).set.len ≤ 256 → IfOk r (λ f. f.set.len ≤ 256)
few (Ok f) h = h
few (Err r) h = tt

pub few_listed : (r : Result Rust.Nearest Refusal) (g : Geo) (bs : List Float) (ix : Ix) (t : List Float) (k wanted spill : ℕ) (m after : Work)
    → searched (told_of r) after ≡ search_of g bs ix t k wanted spill m → IfOk r (λ f. f.set.len ≤ 256)
few_listed r g bs ix t k wanted spill m after e = few r (subst (λ (y : Searched). y.answer.set.len ≤ 256) (sym e) (listed_few g bs ix t k wanted spill m))

-- a search over memory of its own that is all zeros
pub found_as : (s : List ℕ) (g : Session) (k wanted spill : ℕ) (m : Mem) (v : List Float) (f : Nearest) → Limits g → take g.d v ≡ floats_at g.d s 10
    → f ≡ found_by (take g.d v) (take g.d (replicate 8 zero_f)) (take (g.n * set_words g.cap) (replicate 16 0)) (take (set_words g.cap) (replicate 4 0)) g k wanted spill m
    → f ≡ found_of s g k wanted spill m
unfolding found_of
found_as s g k wanted spill m v f l e q =
    q ∙ rw (e, front_same g.d 8 zero_f l.d, front_same {A = ℕ} (g.n * set_words g.cap) 16 0 (few_layers g.n g.cap l.n l.cap), front_same {A = ℕ} (set_words g.cap) 4 0 (few_words g.cap l.cap)) refl

-- ---- how long an answer is

list_short : (s : ResultSet) → s.len ≤ 256 → length (listed s) ≤ 5184
list_short s h = simp length-append (omega (arith, told_short (Says.Found s.len s.checked), listing_length s.len s.ids s.sims))

found_short : (f : Nearest) → f.set.len ≤ 256 → length (found_text f) ≤ 5184
unfolding found_text
found_short f h = go (eqb f.refusal 0)
  where
    go : (b : Bool) → length (pick b (listed f.set) (refused_line f.refusal)) ≤ 5184
    go true = list_short f.set h
    go false = omega (arith, refused_short f.refusal)

pub text_found : (f : Nearest) → f.refusal ≡ 0 → listed f.set ≡ found_text f
unfolding found_text
text_found f e = rw (eq-eqb f.refusal 0 e) refl

pub text_refused : (f : Nearest) → (f.refusal ≡ 0 → ⊥) → refused_line f.refusal ≡ found_text f
unfolding found_text
text_refused f e = rw (ne_eqb f.refusal 0 e) refl

found_few : (s : List ℕ) (g : Session) (k wanted spill : ℕ) (m : Mem) → length (found_text (found_of s g k wanted spill m)) ≤ 5184
unfolding found_of found_by
found_few s g k wanted spill m = found_short _ (listed_few _ _ _ _ k wanted spill _)

-- ---- a record

module _ (s : List ℕ) (st : State) (old new : List ℕ) (at r : ℕ) where
  pub stepped : (st' : State) (text : List ℕ) (q : Asked) → q ≡ request_of s st.session → perform q s st ≡ (text, st') → Put old new at r text
      → Stepped s st st' old new at r
  unfolding step_of
  stepped st' text q e p u =
      let w : step_of s st ≡ (text, st') = ap (λ (x : Asked). perform x s st) (sym e) ∙ p in
      record {
        printed = subst (λ (x : List ℕ). Put old new at r x) (ap (λ (x : List ℕ × State). x.0) (sym w)) u;
        after = ap (λ (x : List ℕ × State). x.1) (sym w);
      }

-- a record prints at most 5184 bytes: a line, and 256 entries of 20
perform_short : (q : Asked) (s : List ℕ) (st : State) → length (perform q s st).0 ≤ 5184
perform_short (Err r) s st = omega (arith, refused_short (number_of r))
perform_short (Ok (Asks.Geometry d n cap mode)) s st = omega (arith, told_short (Says.Geometry d n cap mode))
perform_short (Ok (Asks.Basis b)) s st = omega (arith, told_short (Says.Basis b))
perform_short (Ok (Asks.Add id)) s st = go (added_of s st.session id st.memory) (eqb (added_of s st.session id st.memory).0 0)
  where
    go : (a : ℕ × Mem) (b : Bool) → length (pick {A = List ℕ × State} b (told (Says.Added id), state_of (closed st.session) a.1) (refused_line a.0, state_of st.session a.1)).0 ≤ 5184
    go a true = omega (arith, told_short (Says.Added id))
    go a false = omega (arith, refused_short a.0)
perform_short (Ok (Asks.Search k wanted spill)) s st = found_few s st.session k wanted spill st.memory

pub step_short : (s : List ℕ) (st : State) → length (step_of s st).0 ≤ 5184
unfolding step_of
step_short s st = perform_short (request_of s st.session) s st

pub added_is : (s : List ℕ) (g : Session) (id r : ℕ) (m m' : Mem) → added_of s g id m ≡ (r, m') → r ≡ 0
    → perform (Ok (Asks.Add id)) s (state_of g m) ≡ (told (Says.Added id), state_of (closed g) m')
added_is s g id r m m' e z = rw (e, z) refl

pub added_not : (s : List ℕ) (g : Session) (id r : ℕ) (m m' : Mem) → added_of s g id m ≡ (r, m') → (r ≡ 0 → ⊥)
    → perform (Ok (Asks.Add id)) s (state_of g m) ≡ (refused_line r, state_of g m')
added_not s g id r m m' e z = rw (e, ne_eqb r 0 z) refl

pub based_is : (s : List ℕ) (g : Session) (b : ℕ) (m : Mem) (bs : List Float) → bs ≡ sets m.bases (b * (g.d * g.d)) (floats_at (g.d * g.d) s 4)
    → perform (Ok (Asks.Basis b)) s (state_of g m) ≡ (told (Says.Basis b), state_of g (memory_of bs m.ix.faces m.ix.marks m.ix.vecs))
based_is s g b m bs e = rw (← e) refl

-- ---- the places of a record's floats

pub basis_part : (xs : List Float) (a dd : ℕ) → a + dd ≤ length xs → length (take (a + dd - a) (drop a xs)) ≡ dd
basis_part xs a dd h = simp (length-take, length-drop) (omega arith)

pub basis_is : (xs : List Float) (a dd : ℕ) (s : List ℕ) (ys : List Float) → a + dd ≤ length xs → ys ≡ floats_at (length (take (a + dd - a) (drop a xs))) s 4
    → take a xs ++ (ys ++ drop (a + dd - a) (drop a xs)) ≡ sets xs a (floats_at dd s 4)
basis_is xs a dd s ys h e =
    let q : ys ≡ floats_at dd s 4 = e ∙ ap (λ (k : ℕ). floats_at k s 4) (basis_part xs a dd h) in
    let l : length (floats_at dd s 4) ≡ a + dd - a = floats_length dd s 4 ∙ gap in
    rw q (part_set xs a (a + dd) (floats_at dd s 4) (omega arith) h l)
  where
    gap : dd ≡ a + dd - a
    gap = omega arith

pub vector_is : (d from : ℕ) (s : List ℕ) (ys : List Float) → d ≤ 8 → ys ≡ floats_at (length (take d (replicate 8 zero_f))) s from
    → (8 ≡ length (ys ++ drop d (replicate 8 zero_f))) × (take d (ys ++ drop d (replicate 8 zero_f)) ≡ floats_at d s from)
vector_is d from s ys h e =
    let q : ys ≡ floats_at d s from = e ∙ ap (λ (k : ℕ). floats_at k s from) (sym (taken d 8 zero_f h)) in
    let l : length (floats_at d s from) ≡ d = floats_length d s from in
    let n : length (drop d (replicate 8 zero_f)) ≡ 8 - d = length-drop d (replicate 8 zero_f) in
    (rw q (omega (arith, length-append (floats_at d s from) (drop d (replicate 8 zero_f)))), rw q (take_at (floats_at d s from) (drop d (replicate 8 zero_f)) d l))
