-- Laws of feed: that its bound does not matter, what a turn of its loop adds, and what each way out of it comes to. Assumes nothing.
use mathlib.Core.Path.{◌≡◌, refl, sym, ap, ◌∙◌, subst}
use mathlib.Core.List.{List}
use mathlib.Core.Bool.{true, false}
use Prim.Native.Nat.{ℕ, zero, suc, ◌+◌, ◌-◌, ◌≤◌, ◌<◌}
use native.Mathlib.Nat.{not-suc-le-zero}
use native.Mathlib.Omega.{arith}
use lib.ListN.{length, take, drop, length-drop}
use lib.Seq.{sets, take_all, drop-drop, length-sets}
use lib.Dec.{ltb}
use borrow.Author.Tests.{lt-ltb, le-ltb}
use Rattle.paper.specs.Choice.{pick}
use Rattle.lines.specs.Lines.{Put, refused_line}
use Rattle.steps.specs.Steps.{State, step_of, Stepped}
use Rattle.steps.proofs.Cases.{step_short}
use Rattle.std.proofs.Common.{Ok, Err, Some, None}
use Rattle.paper.specs.Refusals.{number_of}
use Rattle.paper.specs.declared.Refusal.{Refusal}
use Rattle.session.specs.Runs.{Frame, frame_of, record_of, Far, fed, turn, feed_to, feed_of}
use Rattle.session.proofs.Frames.{framed}

-- ---- enough turns are enough

turn_enough : (f : Frame) (j k : ℕ) (s : List ℕ) (i p : ℕ) (st : State) (out : List ℕ) → frame_of s ≡ f → length s < suc j → length s < suc k
    → ((t : List ℕ) (a b : ℕ) (u : State) (o : List ℕ) → length t < j → length t < k → feed_to j t a b u o ≡ feed_to k t a b u o)
    → turn f (feed_to j) s i p st out ≡ turn f (feed_to k) s i p st out
turn_enough (Err r) j k s i p st out e h l again = refl
turn_enough (Ok None) j k s i p st out e h l again = refl
turn_enough (Ok (Some n)) j k s i p st out e h l again =
    let f = framed s n e in
    let d : length (drop (4 + n) s) ≡ length s - (4 + n) = length-drop (4 + n) s in
    let o = step_of (record_of n s) st in
    again (drop (4 + n) s) (i + (4 + n)) (p + length o.0) o.1 (sets out p o.0) (omega (arith, f.long, d)) (omega (arith, f.long, d))

pub feed_enough : (j k : ℕ) (s : List ℕ) (i p : ℕ) (st : State) (out : List ℕ) → length s < j → length s < k → feed_to j s i p st out ≡ feed_to k s i p st out
unfolding feed_to
feed_enough zero k s i p st out h l = absurd (not-suc-le-zero h)
feed_enough (suc j) zero s i p st out h l = absurd (not-suc-le-zero l)
feed_enough (suc j) (suc k) s i p st out h l =
    ap (λ (x : Far). pick (ltb (length out - p) 5184) (fed st i p false false out) x)
    (turn_enough (frame_of s) j k s i p st out refl h l (λ t a b u o x y. feed_enough j k t a b u o x y))

-- ---- the loop: what is left to do from a place on is all there was to do

pub record Going (input : List ℕ) (from : State) (old : List ℕ) (i p : ℕ) (st : State) (out : List ℕ) : Type 0 where
  pub within : i ≤ length input
  pub room : p ≤ length out
  pub so_far : feed_to (suc (length (drop i input))) (drop i input) i p st out ≡ feed_of input from old

pub going_start : (input : List ℕ) (st : State) (out : List ℕ) → Going input st out 0 0 st out
unfolding feed_of
going_start input st out = record { within = omega arith; room = omega arith; so_far = refl }

rest_is : (input : List ℕ) (i : ℕ) → take (length input - i) (drop i input) ≡ drop i input
rest_is input i = take_all (length input - i) (drop i input) (simp length-drop (omega arith))

pub front_is : (input : List ℕ) (i : ℕ) (a b : Frame) → a ≡ frame_of (take (length input - i) (drop i input)) → a ≡ b → frame_of (drop i input) ≡ b
front_is input i a b e f = ap frame_of (sym (rest_is input i)) ∙ sym e ∙ f

pub record_is : (input : List ℕ) (i n from to : ℕ) → from ≡ i + 4 → to ≡ from + n → take (to - from) (drop from input) ≡ record_of n (drop i input)
record_is input i n from to e f =
    let a : to - from ≡ n = omega arith in
    rw (a, drop-drop 4 i input, e) refl

module _ (input : List ℕ) (from : State) (old : List ℕ) (i p : ℕ) (st : State) (out : List ℕ) (k : Going input from old i p st out) where
  pub going_room : (n : ℕ) → frame_of (drop i input) ≡ Ok (Some n) → (i + 4 + n ≤ length input) × (2 ≤ n) × (n ≤ 512)
  going_room n e =
      let f = framed (drop i input) n e in
      (omega (arith, f.long, length-drop i input, k.within), f.low, f.high)

  pub ends_full : length out - p < 5184 → fed st i p false false out ≡ feed_of input from old
  unfolding feed_to
  ends_full h = rw (lt-ltb (length out - p) 5184 h) at k.so_far

  module _ (h : 5184 ≤ length out - p) where
    turned : turn (frame_of (drop i input)) (feed_to (length (drop i input))) (drop i input) i p st out ≡ feed_of input from old
    unfolding feed_to
    turned = rw (le-ltb (length out - p) 5184 h) at k.so_far

    pub ends_part : frame_of (drop i input) ≡ Ok None → fed st i p false true out ≡ feed_of input from old
    ends_part e = rw e at turned

    pub ends_bad : (new : List ℕ) (r : ℕ) (f : Refusal) → frame_of (drop i input) ≡ Err f → Put out new p r (refused_line (number_of f)) → fed st i r true false new ≡ feed_of input from old
    ends_bad new r f e u = rw (u.next, u.stored) (rw e at turned)

    pub going_turn : (n : ℕ) (s : List ℕ) (st' : State) (new : List ℕ) (r : ℕ) → frame_of (drop i input) ≡ Ok (Some n) → s ≡ record_of n (drop i input)
        → Stepped s st st' out new p r → Going input from old (i + 4 + n) r st' new
    going_turn n s st' new r e q d =
        let room = going_room n e in
        let o = step_of (record_of n (drop i input)) st in
        let u : Put out new p r o.0 = subst (λ (x : List ℕ). Put out new p r (step_of x st).0) q d.printed in
        let v : st' ≡ o.1 = subst (λ (x : List ℕ). st' ≡ (step_of x st).1) q d.after in
        let l : length new ≡ length out = ap length u.stored ∙ length-sets out p o.0 in
        let short : length o.0 ≤ 5184 = step_short (record_of n (drop i input)) st in
        let next : r ≡ p + length o.0 = u.next in
        let w : drop (4 + n) (drop i input) ≡ drop (i + 4 + n) input = drop-drop (4 + n) i input ∙ ap (λ (x : ℕ). drop x input) sum in
        let s' = drop (4 + n) (drop i input) in
        let less : length s' ≡ length (drop i input) - (4 + n) = length-drop (4 + n) (drop i input) in
        let long : 4 + n ≤ length (drop i input) = (framed (drop i input) n e).long in
        let here : feed_to (suc (length s')) s' (i + (4 + n)) (p + length o.0) o.1 (sets out p o.0) ≡ feed_of input from old =
        feed_enough (suc (length s')) (length (drop i input)) s' (i + (4 + n)) (p + length o.0) o.1 (sets out p o.0) (omega arith) (omega arith) ∙ (rw e at turned) in
        record {
          within = room.0;
          room = omega arith;
          so_far = rw (← w, ← sum, next, v, u.stored) here;
        }
      where
        sum : i + (4 + n) ≡ i + 4 + n
        sum = omega arith
