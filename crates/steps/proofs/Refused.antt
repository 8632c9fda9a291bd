-- A refused record prints one line with its number, and changes nothing. Assumes nothing.
use Rattle.std.proofs.Common.{Ok, Err, ◌<◌, ◌≡◌, refl, sym, ap, ◌∙◌, subst, arith}
use mathlib.Core.List.{List}
use Prim.Native.Nat.{ℕ}
use lib.Ieee.{Float}
use lib.ListN.{take-append-drop}
use borrow.Author.Tests.{ne_eqb}
use Rattle.paper.specs.Geometry.{Geo, set_words, face_words, vector_bytes}
use Rattle.index_memory.specs.Memory.{Ix}
use Rattle.adding.specs.Adding.{add_refusal, add_of}
use Rattle.records.specs.Requests.{Asked, request_of}
use Rattle.records.specs.declared.Session.{Session}
use Rattle.records.specs.declared.Request.TheVariants.{Geometry, Basis, Add, Search}
use Rattle.lines.specs.Lines.{refused_line}
use Rattle.steps.specs.Memory.{Mem, front, with_front, added_by, added_of, found_of}
use Rattle.steps.specs.Steps.{State, state_of, found_text, perform, step_of, refused_by, refusal_of, Refused, Stepped}
use Rattle.paper.specs.Refusals.{number_of}
use Rattle.paper.specs.declared.Refusal.{Refusal}
use Rattle.paper.proofs.Answering.{number_low}
use Rattle.lines.specs.Lines.{Put}
use Rattle.lines.proofs.Texts.{put_as}
use Rattle.vector_store.specs.Search.{Nearest}
use Rattle.steps.proofs.Cases.{added_not, text_refused}

-- no refusal of an addition changes the index
add_refused : (g : Geo) (bs : List Float) (id : ℕ) (v : List Float) (ix : Ix) (work : List Float) → ((add_of g bs id v ix work).answer ≡ 0 → ⊥)
    → (add_of g bs id v ix work).ix ≡ ix
unfolding add_of
add_refused g bs id v ix work h = rw (ne_eqb (add_refusal g bs id v ix work) 0 h) refl

-- the front laid over itself
front_back : (g : Session) (m : Mem) → with_front g m (front g m) ≡ m
front_back g m =
    rw (take-append-drop (face_words g.d g.n g.cap) m.ix.faces, take-append-drop (set_words g.cap) m.ix.marks, take-append-drop (vector_bytes g.d g.cap g.mode) m.ix.vecs) refl

pub memory_stays : (s : List ℕ) (g : Session) (id : ℕ) (m : Mem) → ((added_of s g id m).0 ≡ 0 → ⊥) → (added_of s g id m).1 ≡ m
unfolding added_of added_by
memory_stays s g id m h = ap (with_front g m) (add_refused _ _ id _ (front g m) _ h) ∙ front_back g m

performed : (q : Asked) (s : List ℕ) (st : State) → (refused_by q s st ≡ 0 → ⊥) → perform q s st ≡ (refused_line (refused_by q s st), st)
performed (Err r) s st h = refl
performed (Ok (Geometry d n cap mode)) s st h = absurd (h refl)
performed (Ok (Basis b)) s st h = absurd (h refl)
performed (Ok (Add id)) s st h =
    let a = added_of s st.session id st.memory in
    added_not s st.session id a.0 st.memory a.1 refl h
    ∙ ap (λ (m : Mem). (refused_line a.0, state_of st.session m)) (memory_stays s st.session id st.memory h)
performed (Ok (Search k wanted spill)) s st h =
    ap (λ (t : List ℕ). (t, st)) (sym (text_refused (found_of s st.session k wanted spill st.memory) h))

pub refused_step : (s : List ℕ) (st : State) → (refusal_of s st ≡ 0 → ⊥) → step_of s st ≡ (refused_line (refusal_of s st), st)
unfolding step_of refusal_of
refused_step s st h = performed (request_of s st.session) s st h

-- ---- how a record is refused

module _ (s : List ℕ) (g : Session) (m : Mem) (old : List ℕ) where
  -- by its form or its time
  pub form_refused : (r : Refusal) → Err r ≡ request_of s g → Refused s (state_of g m) (state_of g m) old old (number_of r)
  unfolding step_of
  form_refused r e = record { prints = ap (λ (q : Asked). perform q s (state_of g m)) (sym e); state = refl; out = refl }

  -- by the addition
  pub addition_refused : (id : ℕ) (m' : Mem) (r : Refusal) → Ok (Add id) ≡ request_of s g → added_of s g id m ≡ (number_of r, m')
      → Refused s (state_of g m) (state_of g m') old old (number_of r)
  unfolding step_of
  addition_refused id m' r e a =
      let low = number_low r in
      let some : number_of r ≡ 0 → ⊥ = λ z. omega arith in
      let same : m' ≡ m = sym (ap (λ (x : ℕ × Mem). x.1) a) ∙ memory_stays s g id m (rw a some) in
      record {
        prints = ap (λ (q : Asked). perform q s (state_of g m)) (sym e) ∙ added_not s g id (number_of r) m m' a some ∙ ap (λ (x : Mem). (refused_line (number_of r), state_of g x)) same;
        state = ap (state_of g) same;
        out = refl;
      }

  -- by the search
  pub search_refused : (k wanted spill : ℕ) (f : Nearest) (n : ℕ) → Ok (Search k wanted spill) ≡ request_of s g → f ≡ found_of s g k wanted spill m → f.refusal ≡ n → 0 < n
      → Refused s (state_of g m) (state_of g m) old old n
  unfolding step_of
  search_refused k wanted spill f n e q z low =
      let some : f.refusal ≡ 0 → ⊥ = λ h. omega arith in
      record {
        prints =
            ap (λ (x : Asked). perform x s (state_of g m)) (sym e) ∙ ap (λ (x : Nearest). (found_text x, state_of g m)) (sym q)
            ∙ ap (λ (t : List ℕ). (t, state_of g m)) (sym (text_refused f some)) ∙ ap (λ (k : ℕ). (refused_line k, state_of g m)) z;
        state = refl;
        out = refl;
      }

-- the line of a refused record, put
pub refused_put : (s : List ℕ) (st st' : State) (old mid new : List ℕ) (at r n : ℕ) → Refused s st st' old mid n → Put mid new at r (refused_line n)
    → Stepped s st st' old new at r
refused_put s st st' old mid new at r n q u = record {
  printed = subst (λ (o : List ℕ). Put o new at r (step_of s st).0) q.out (put_as (ap (λ (x : List ℕ × State). x.0) (sym q.prints)) u);
  after = q.state ∙ sym (ap (λ (x : List ℕ × State). x.1) q.prints);
}
