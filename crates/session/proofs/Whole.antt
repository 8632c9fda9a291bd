-- What a call of feed does of a run, and that a whole run prints the same however its input is cut into pieces. Assumes nothing.
use mathlib.Core.Path.{◌≡◌, refl, sym, ap, ◌∙◌, subst}
use mathlib.Core.List.{List, [], ◌∷◌, ◌++◌, append_assoc, append-nil}
use mathlib.Core.Bool.{Bool, true, false, cond}
use Prim.Native.Nat.{ℕ, zero, suc, ◌+◌, ◌-◌, ◌≤◌, ◌<◌}
use native.Mathlib.Nat.{not-suc-le-zero, sub_self, sub-zero}
use native.Mathlib.Omega.{arith}
use lib.ListN.{length, take, drop, length-append, length-drop}
use lib.Seq.{sets, sets-eq, take_at, drop-drop, length-sets, length-take-le}
use lib.Dec.{ltb}
use borrow.Author.Tests.{le-ltb, ltb-false}
use Rattle.paper.specs.Choice.{pick}
use Rattle.lines.specs.Lines.{refused_line}
use Rattle.lines.proofs.Texts.{refused_short}
use Rattle.steps.specs.Steps.{State, step_of}
use Rattle.steps.proofs.Cases.{step_short}
use Rattle.std.proofs.Common.{Ok, Err, Some, None}
use Rattle.paper.specs.Refusals.{number_of}
use Rattle.paper.specs.declared.Refusal.{Refusal}
use Rattle.session.specs.Runs.{Frame, frame_of, record_of, run, Far, fed, turn, feed_to, feed_of}
use Rattle.session.specs.Played.{shown, left, joined, Played, stopped, emptied, refilled, ended}
use Rattle.session.proofs.Frames.{framed}
use Rattle.session.proofs.Runs.{run_whole, run_bad, run_end}

impossible : {A : Type 0} → false ≡ true → A
impossible e = absurd (subst (λ (b : Bool). cond b ⊥ Unit) e tt)

front_set : (old text : List ℕ) (at : ℕ) → at + length text ≤ length old → take (at + length text) (sets old at text) ≡ take at old ++ text
front_set old text at h =
    let l : length (take at old) ≡ at = length-take-le at old (omega arith) in
    rw (sets-eq text old at h) (take_at (take at old ++ text) (drop (at + length text) old) (at + length text) (omega (arith, length-append (take at old) text)))

-- ---- from a place on

record From (s : List ℕ) (i p : ℕ) (st : State) (out : List ℕ) (f : Far) : Type 0 where
  pub low : i ≤ f.used
  pub high : f.used ≤ i + length s
  pub put : f.put ≤ length f.out
  pub stopped : f.stops ≡ true → (more : List ℕ) → take p out ++ run (s ++ more) st ≡ shown f
  pub goes : f.stops ≡ false → (more : List ℕ) → take p out ++ run (s ++ more) st ≡ shown f ++ run (drop (f.used - i) s ++ more) f.state
  pub waits : f.waits ≡ true → frame_of (drop (f.used - i) s) ≡ Ok None

module _ (s : List ℕ) (i p : ℕ) (st : State) (out : List ℕ) where
  -- nothing more was done
  rests : (w : Bool) → p ≤ length out → (w ≡ true → frame_of s ≡ Ok None) → From s i p st out (fed st i p false w out)
  rests w h e = record {
    low = omega arith;
    high = omega arith;
    put = h;
    stopped = λ no. impossible no;
    goes = λ _ more. rw (sub_self i) refl;
    waits = λ q. rw (sub_self i) (e q);
  }

  fails : (r : Refusal) → frame_of s ≡ Err r → p + 64 ≤ length out
      → From s i p st out (fed st i (p + length (refused_line (number_of r))) true false (sets out p (refused_line (number_of r))))
  fails r e h =
      let t = refused_line (number_of r) in
      let l : length t ≤ 64 = refused_short (number_of r) in
      let n : length (sets out p t) ≡ length out = length-sets out p t in
      record {
        low = omega arith;
        high = omega arith;
        put = omega arith;
        stopped = λ _ more. ap (λ (x : List ℕ). take p out ++ x) (run_bad s more st r e) ∙ sym (front_set out t p (omega arith));
        goes = λ no. impossible (sym no);
        waits = λ no. impossible no;
      }

  passes : (n : ℕ) (f : Far) → frame_of s ≡ Ok (Some n) → p + 5184 ≤ length out
      → From (drop (4 + n) s) (i + (4 + n)) (p + length (step_of (record_of n s) st).0) (step_of (record_of n s) st).1 (sets out p (step_of (record_of n s) st).0) f
      → From s i p st out f
  passes n f e h k =
      let o = step_of (record_of n s) st in
      let long : 4 + n ≤ length s = (framed s n e).long in
      let short : length o.0 ≤ 5184 = step_short (record_of n s) st in
      let d : length (drop (4 + n) s) ≡ length s - (4 + n) = length-drop (4 + n) s in
      let l : i + (4 + n) ≤ f.used = k.low in
      let u : f.used ≤ i + (4 + n) + length (drop (4 + n) s) = k.high in
      let begin : (more : List ℕ) → take p out ++ run (s ++ more) st ≡ take (p + length o.0) (sets out p o.0) ++ run (drop (4 + n) s ++ more) o.1 =
      λ more. ap (λ (x : List ℕ). take p out ++ x) (run_whole s more n st e)
      ∙ sym (append_assoc (take p out) o.0 (run (drop (4 + n) s ++ more) o.1))
      ∙ ap (λ (x : List ℕ). x ++ run (drop (4 + n) s ++ more) o.1) (sym (front_set out o.0 p (omega arith))) in
      let same : drop (f.used - (i + (4 + n))) (drop (4 + n) s) ≡ drop (f.used - i) s = drop-drop (f.used - (i + (4 + n))) (4 + n) s ∙ ap (λ (x : ℕ). drop x s) (gap n f.used l) in
      record {
        low = omega arith;
        high = omega arith;
        put = k.put;
        stopped = λ q more. begin more ∙ k.stopped q more;
        goes = λ q more. begin more ∙ k.goes q more ∙ ap (λ (x : List ℕ). shown f ++ run (x ++ more) f.state) same;
        waits = λ q. subst (λ (x : List ℕ). frame_of x ≡ Ok None) same (k.waits q);
      }
    where
      gap : (n u : ℕ) → i + (4 + n) ≤ u → 4 + n + (u - (i + (4 + n))) ≡ u - i
      gap n u h = omega arith

fed_from : (k : ℕ) (s : List ℕ) (i p : ℕ) (st : State) (out : List ℕ) → length s < k → p ≤ length out → From s i p st out (feed_to k s i p st out)
unfolding feed_to
fed_from zero s i p st out h l = absurd (not-suc-le-zero h)
fed_from (suc k) s i p st out h l = by_room (ltb (length out - p) 5184) refl (λ t a b u o x y. fed_from k t a b u o x y)
  where
    by_frame : (f : Frame) → frame_of s ≡ f → p + 5184 ≤ length out
        → ((t : List ℕ) (a b : ℕ) (u : State) (o : List ℕ) → length t < k → b ≤ length o → From t a b u o (feed_to k t a b u o))
        → From s i p st out (turn f (feed_to k) s i p st out)
    by_frame (Ok None) e r again = rests s i p st out true l (λ _. e)
    by_frame (Err f) e r again = fails s i p st out f e (omega arith)
    by_frame (Ok (Some n)) e r again =
        let o = step_of (record_of n s) st in
        let long : 4 + n ≤ length s = (framed s n e).long in
        let d : length (drop (4 + n) s) ≡ length s - (4 + n) = length-drop (4 + n) s in
        let short : length o.0 ≤ 5184 = step_short (record_of n s) st in
        let m : length (sets out p o.0) ≡ length out = length-sets out p o.0 in
        passes s i p st out n _ e r (again (drop (4 + n) s) (i + (4 + n)) (p + length o.0) o.1 (sets out p o.0) (omega arith) (omega arith))

    by_room : (b : Bool) → ltb (length out - p) 5184 ≡ b
        → ((t : List ℕ) (a b : ℕ) (u : State) (o : List ℕ) → length t < k → b ≤ length o → From t a b u o (feed_to k t a b u o))
        → From s i p st out (pick b (fed st i p false false out) (turn (frame_of s) (feed_to k) s i p st out))
    by_room true e again = rests s i p st out false l (λ no. impossible no)
    by_room false e again = by_frame (frame_of s) refl (omega (arith, ltb-false (length out - p) 5184 e)) again

-- ---- one call, from the start of its input

-- whatever input follows, the run prints what was put, and then what the rest of the input prints from the state reached
pub record Run (input : List ℕ) (st : State) (f : Far) : Type 0 where
  pub used : f.used ≤ length input
  pub put : f.put ≤ length f.out
  pub stopped : f.stops ≡ true → (more : List ℕ) → run (input ++ more) st ≡ shown f
  pub goes : f.stops ≡ false → (more : List ℕ) → run (input ++ more) st ≡ shown f ++ run (left f input ++ more) f.state
  pub waits : f.waits ≡ true → frame_of (left f input) ≡ Ok None

pub fed_run : (input : List ℕ) (st : State) (out : List ℕ) → Run input st (feed_of input st out)
unfolding feed_of
fed_run input st out =
    let f = feed_to (suc (length input)) input 0 0 st out in
    let k : From input 0 0 st out f = fed_from (suc (length input)) input 0 0 st out (omega arith) (omega arith) in
    let u : f.used ≤ 0 + length input = k.high in
    let z : f.used - 0 ≡ f.used = sub-zero f.used in
    record {
      used = omega arith;
      put = k.put;
      stopped = k.stopped;
      goes = λ q more. k.goes q more ∙ rw z refl;
      waits = λ q. rw z at (k.waits q);
    }

-- the same of an answer of feed
pub ran : (input : List ℕ) (st : State) (out : List ℕ) (f : Far) → f ≡ feed_of input st out → Run input st f
ran input st out f e = subst (λ (x : Far). Run input st x) (sym e) (fed_run input st out)

-- ---- a whole run

pub whole : (pending : List ℕ) (st : State) (reads : List (List ℕ)) (text : List ℕ) → Played pending st reads text → text ≡ run (pending ++ joined reads) st
whole pending st reads text (stopped _ _ _ out e) = sym ((fed_run pending st out).stopped e (joined reads))
whole pending st reads text (emptied _ _ _ out t e w q) =
    let f = feed_of pending st out in
    ap (λ (x : List ℕ). shown f ++ x) (whole (left f pending) f.state reads t q) ∙ sym ((fed_run pending st out).goes e (joined reads))
whole pending st reads text (refilled _ _ r rs out t e w q) =
    let f = feed_of pending st out in
    ap (λ (x : List ℕ). shown f ++ x) (whole (left f pending ++ r) f.state rs t q ∙ ap (λ (x : List ℕ). run x f.state) (append_assoc (left f pending) r (joined rs)))
    ∙ sym ((fed_run pending st out).goes e (r ++ joined rs))
whole pending st reads text (ended _ _ out e w) =
    let f = feed_of pending st out in
    ap (λ (x : List ℕ). shown f ++ x) (sym (run_end (left f pending) f.state ((fed_run pending st out).waits w)) ∙ ap (λ (x : List ℕ). run x f.state) (sym (append-nil (left f pending))))
    ∙ sym ((fed_run pending st out).goes e [])

-- the pieces do not matter
pub any_cut : (st : State) (reads reads' : List (List ℕ)) (text text' : List ℕ) → joined reads ≡ joined reads' → Played [] st reads text → Played [] st reads' text' → text ≡ text'
any_cut st reads reads' text text' e p q = whole [] st reads text p ∙ ap (λ (x : List ℕ). run x st) e ∙ sym (whole [] st reads' text' q)

-- ---- a run comes to its end

turn_moves : (f : Frame) (input : List ℕ) (st : State) (out : List ℕ) → frame_of input ≡ f → 5184 ≤ length out
    → (turn f (feed_to (length input)) input 0 0 st out).stops ≡ false → (turn f (feed_to (length input)) input 0 0 st out).waits ≡ false
    → 0 < (turn f (feed_to (length input)) input 0 0 st out).used
turn_moves (Ok None) input st out e h s w = impossible (sym w)
turn_moves (Err r) input st out e h s w = impossible (sym s)
turn_moves (Ok (Some n)) input st out e h s w =
    let o = step_of (record_of n input) st in
    let long : 4 + n ≤ length input = (framed input n e).long in
    let d : length (drop (4 + n) input) ≡ length input - (4 + n) = length-drop (4 + n) input in
    let short : length o.0 ≤ 5184 = step_short (record_of n input) st in
    let m : length (sets out 0 o.0) ≡ length out = length-sets out 0 o.0 in
    let k = fed_from (length input) (drop (4 + n) input) (0 + (4 + n)) (0 + length o.0) o.1 (sets out 0 o.0) (omega arith) (omega arith) in
    omega (arith, k.low)

-- a call that neither stops nor waits has used something, if its buffer has room for an answer
pub moves : (input : List ℕ) (st : State) (out : List ℕ) → 5184 ≤ length out → (feed_of input st out).stops ≡ false → (feed_of input st out).waits ≡ false
    → 0 < (feed_of input st out).used
unfolding feed_of feed_to
moves input st out h s w =
    let e : feed_of input st out ≡ turn (frame_of input) (feed_to (length input)) input 0 0 st out = rw (le-ltb (length out - 0) 5184 (omega arith)) refl in
    subst (λ (f : Far). 0 < f.used) (sym e)
    (turn_moves (frame_of input) input st out refl h (subst (λ (f : Far). f.stops ≡ false) e s) (subst (λ (f : Far). f.waits ≡ false) e w))

-- ---- With a buffer that has room for an answer, every finite input, in whatever pieces, is played to its end.

module _ (pending : List ℕ) (st : State) (out : List ℕ) where
  prints : (reads : List (List ℕ)) (text text' : List ℕ) → text ≡ text' → Played pending st reads text → Played pending st reads text'
  prints reads text text' e p = subst (λ (x : List ℕ). Played pending st reads x) e p

  plays_by : (s w : Bool) (reads : List (List ℕ)) (k : ℕ) → 5184 ≤ length out → (feed_of pending st out).stops ≡ s → (feed_of pending st out).waits ≡ w
      → length pending + length (joined reads) + length reads < suc k
      → ((p : List ℕ) (t : State) (r : List (List ℕ)) → length p + length (joined r) + length r < k → Played p t r (run (p ++ joined r) t))
      → Played pending st reads (run (pending ++ joined reads) st)
  plays_by true w reads k h es ew m again = prints reads _ _ (sym ((fed_run pending st out).stopped es (joined reads))) (stopped pending st reads out es)
  plays_by false false reads k h es ew m again =
      let f = feed_of pending st out in
      let n : 0 < f.used = moves pending st out h es ew in
      let d : length (left f pending) ≡ length pending - f.used = length-drop f.used pending in
      let u : f.used ≤ length pending = (fed_run pending st out).used in
      prints reads _ _ (sym ((fed_run pending st out).goes es (joined reads))) (emptied pending st reads out _ es ew (again (left f pending) f.state reads (omega arith)))
  plays_by false true [] k h es ew m again =
      let p = ended pending st out es ew in
      prints [] _ _ (whole pending st [] _ p) p
  plays_by false true (r ∷ rs) k h es ew m again =
      let f = feed_of pending st out in
      let d : length (left f pending) ≡ length pending - f.used = length-drop f.used pending in
      let a : length (left f pending ++ r) ≡ length (left f pending) + length r = length-append (left f pending) r in
      let b : length (r ++ joined rs) ≡ length r + length (joined rs) = length-append r (joined rs) in
      let p = refilled pending st r rs out _ es ew (again (left f pending ++ r) f.state rs (omega arith)) in
      prints (r ∷ rs) _ _ (whole pending st (r ∷ rs) _ p) p

plays_to : (k : ℕ) (pending : List ℕ) (st : State) (reads : List (List ℕ)) (out : List ℕ) → 5184 ≤ length out → length pending + length (joined reads) + length reads < k
    → Played pending st reads (run (pending ++ joined reads) st)
plays_to zero pending st reads out h l = absurd (not-suc-le-zero l)
plays_to (suc k) pending st reads out h l =
    plays_by pending st out (feed_of pending st out).stops (feed_of pending st out).waits reads k h refl refl l (λ p s r m. plays_to k p s r out h m)

pub plays : (st : State) (reads : List (List ℕ)) (out : List ℕ) → 5184 ≤ length out → Played [] st reads (run (joined reads) st)
plays st reads out h = plays_to (suc (length (joined reads) + length reads)) [] st reads out h (omega arith)
