-- What a turn of the loop comes to, on plain values, and that turns play a run. Assumes nothing.
use mathlib.Core.Path.{◌≡◌, refl, sym, ap, ◌∙◌, subst}
use mathlib.Core.Bool.{Bool, true, false}
use Rattle.std.proofs.Common.{Some, None}
use mathlib.Core.List.{List, [], ◌∷◌, ◌++◌, append-nil}
use Prim.Native.Nat.{ℕ, zero, suc, ◌+◌, ◌-◌, ◌≤◌}
use native.Mathlib.Omega.{arith}
use lib.ListN.{length, take, drop, take-append-drop}
use lib.Seq.{take-take, drop-drop}
use Rattle.paper.specs.Choice.{pick}
use Rattle.steps.specs.Steps.{State, held}
use Rattle.session.specs.Runs.{Far, feed_of, end_text}
use Rattle.session.specs.Played.{shown, left, Played, stopped, emptied, refilled, ended}
use Rattle.console.specs.declared.Place.{Place}
use Rattle.console.specs.Turns.{between, Outside, over, on, next_by, next_of, Turned, last_of}
use Rattle.console.specs.Laws.{taken}

-- ---- parts of the buffer

none : (m : ℕ) → [] ≡ take {A = ℕ} m []
none zero = refl
none (suc m) = refl

gap : (from end used : ℕ) → end - from - used ≡ end - (from + used)
gap from end used = omega arith

less : (n k : ℕ) → n - k ≡ suc n - suc k
less n k = omega arith

drop_take : (k n : ℕ) (l : List ℕ) → drop k (take n l) ≡ take (n - k) (drop k l)
drop_take zero n l = let z : n ≡ n - 0 = omega arith in ap (λ (m : ℕ). take m l) z
drop_take (suc k) zero l = let z : 0 ≡ 0 - suc k = omega arith in ap (λ (m : ℕ). take m (drop (suc k) l)) z
drop_take (suc k) (suc n) [] = none (suc n - suc k)
drop_take (suc k) (suc n) (x ∷ l) = drop_take k n l ∙ ap (λ (m : ℕ). take m (drop k l)) (less n k)

-- what is left of the bytes between two places when the first of them are used
left_between : (from end used : ℕ) (buf : List ℕ) → drop used (between from end buf) ≡ between (from + used) end buf
left_between from end used buf =
    drop_take used (end - from) (drop from buf) ∙ ap (λ (l : List ℕ). take (end - from - used) l) (drop-drop used from buf)
    ∙ ap (λ (m : ℕ). take m (drop (from + used) buf)) (gap from end used)

-- what was read stands behind what was left
read_behind : (k end : ℕ) (buf rest : List ℕ) → k ≤ end → take k buf ≡ rest → between 0 end buf ≡ rest ++ drop k (take end buf)
read_behind k end buf rest h e =
    let z : end - 0 ≡ end = omega arith in
    ap (λ (m : ℕ). take m buf) z ∙ sym (take-append-drop k (take end buf)) ∙ ap (λ (l : List ℕ). l ++ drop k (take end buf)) (take-take k end buf h ∙ e)

-- ---- a turn

module _ (pending : List ℕ) (st : State) (out : List ℕ) (f : Far) (q : f ≡ feed_of pending st out) where
  unwritten : over ≡ next_of pending st out (record { wrote = false; more = false; read = [] })
  unfolding next_of
  unwritten = refl

  stops_over : f.stops ≡ true → over ≡ next_of pending st out (record { wrote = true; more = false; read = [] })
  unfolding next_of
  stops_over s = subst (λ (x : Far). over ≡ next_by x pending (record { wrote = true; more = false; read = [] })) q (rw s refl)

  full_on : f.stops ≡ false → f.waits ≡ false → on (left f pending) f.state ≡ next_of pending st out (record { wrote = true; more = false; read = [] })
  unfolding next_of
  full_on s w = subst (λ (x : Far). on (left f pending) f.state ≡ next_by x pending (record { wrote = true; more = false; read = [] })) q (rw (s, w) refl)

  waits_on : (more : Bool) (read : List ℕ) → f.stops ≡ false → f.waits ≡ true
      → pick more (on (left f pending ++ read) f.state) over ≡ next_of pending st out (record { wrote = true; more = more; read = read })
  unfolding next_of
  waits_on more read s w =
      subst (λ (x : Far). pick more (on (left f pending ++ read) f.state) over ≡ next_by x pending (record { wrote = true; more = more; read = read })) q (rw (s, w) refl)

-- ---- a turn that meets its contract: what the call of feed, the reading and the places come to

module _ (from end : ℕ) (buf : List ℕ) (st : State) (out : List ℕ) (f : Far) (q : f ≡ feed_of (between from end buf) st out) where
  -- over: what was put could not be written
  pub cut : (buf' : List ℕ) → Turned (between from end buf) st out None buf'
  cut buf' = record { outside = record { wrote = false; more = false; read = [] }; next = unwritten (between from end buf) st out f q; places = tt }

  -- over: feed stops
  pub stops : (buf' : List ℕ) → f.stops ≡ true → Turned (between from end buf) st out None buf'
  stops buf' s = record { outside = record { wrote = true; more = false; read = [] }; next = stops_over (between from end buf) st out f q s; places = tt }

  -- over: there is no more input
  pub dry : (buf' : List ℕ) → f.stops ≡ false → f.waits ≡ true → Turned (between from end buf) st out None buf'
  dry buf' s w = record { outside = record { wrote = true; more = false; read = [] }; next = waits_on (between from end buf) st out f q false [] s w; places = tt }

  -- the buffer for what is put was full
  pub goes : (t : Place) → f.stops ≡ false → f.waits ≡ false → t.from ≡ from + f.used → t.end ≡ end → held t.store ≡ f.state
      → t.from ≤ t.end → t.end ≤ length buf → Turned (between from end buf) st out (Some t) buf
  goes t s w ef ee es l h = record {
    outside = record { wrote = true; more = false; read = [] };
    next = rw (ef, ee, es, ← left_between from end f.used buf) (full_on (between from end buf) st out f q s w);
    places = (l, h);
  }

  -- more was read
  pub reads : (t : Place) (rest : ℕ) (buf' : List ℕ) → f.stops ≡ false → f.waits ≡ true → rest ≡ from + f.used → t.from ≡ 0 → held t.store ≡ f.state
      → end - rest ≤ t.end → t.end ≤ length buf' → take (end - rest) buf' ≡ take (end - rest) (drop rest buf)
      → Turned (between from end buf) st out (Some t) buf'
  reads t rest buf' s w er ef es l h e = record {
    outside = record { wrote = true; more = true; read = drop (end - rest) (take t.end buf') };
    next =
        ap (λ (x : List ℕ × State). on x.0 x.1) (pair_is (read_behind (end - rest) t.end buf' (left f (between from end buf)) l (e ∙ rw er (sym (left_between from end f.used buf)))) es)
        ∙ waits_on (between from end buf) st out f q true _ s w;
    places = (omega (arith, ef), h);
  }
    where
      pair_is : {b : List ℕ} {x y : State} → between 0 t.end buf' ≡ b → x ≡ y → ◌≡◌ {A = List ℕ × State} (between t.from t.end buf', x) (b, y)
      pair_is {b} {x} {y} p r = rw (ef, p, r) refl

-- ---- turns play a run

no : (p : List ℕ) (s : State) → over ≡ on p s → ⊥
no p s e = let z : ◌≡◌ {A = ℕ} 0 1 = cc in omega arith

module _ (pending : List ℕ) (st : State) (out : List ℕ) (e : Outside) where
  goes_by : (wr s w m : Bool) (pending' : List ℕ) (st' : State) (reads : List (List ℕ)) (text : List ℕ)
      → (feed_of pending st out).stops ≡ s → (feed_of pending st out).waits ≡ w
      → pick wr (pick s over (pick w (pick m (on (left (feed_of pending st out) pending ++ e.read) (feed_of pending st out).state) over) (on (left (feed_of pending st out) pending) (feed_of pending st out).state))) over ≡ on pending' st'
      → Played pending' st' reads text → Played pending st (taken w e reads) (shown (feed_of pending st out) ++ text)
  goes_by false s w m p' s' rs text es ew h play = absurd (no p' s' h)
  goes_by true true w m p' s' rs text es ew h play = absurd (no p' s' h)
  goes_by true false false m p' s' rs text es ew h play =
      let a : p' ≡ left (feed_of pending st out) pending = cc in
      let b : s' ≡ (feed_of pending st out).state = cc in
      emptied pending st rs out text es ew (subst (λ (x : State). Played (left (feed_of pending st out) pending) x rs text) b (subst (λ (x : List ℕ). Played x s' rs text) a play))
  goes_by true false true true p' s' rs text es ew h play =
      let a : p' ≡ left (feed_of pending st out) pending ++ e.read = cc in
      let b : s' ≡ (feed_of pending st out).state = cc in
      refilled pending st e.read rs out text es ew (subst (λ (x : State). Played (left (feed_of pending st out) pending ++ e.read) x rs text) b (subst (λ (x : List ℕ). Played x s' rs text) a play))
  goes_by true false true false p' s' rs text es ew h play = absurd (no p' s' h)

  ends_by : (wr s w m : Bool) → e.wrote ≡ true → wr ≡ e.wrote → (feed_of pending st out).stops ≡ s → (feed_of pending st out).waits ≡ w
      → pick wr (pick s over (pick w (pick m (on (left (feed_of pending st out) pending ++ e.read) (feed_of pending st out).state) over) (on (left (feed_of pending st out) pending) (feed_of pending st out).state))) over ≡ over
      → Played pending st [] (shown (feed_of pending st out) ++ pick s [] (end_text (left (feed_of pending st out) pending)))
  ends_by false s w m t k es ew h = absurd (differ (k ∙ t))
    where
      differ : false ≡ true → ⊥
      differ x = let z : ◌≡◌ {A = ℕ} 0 1 = cc in omega arith
  ends_by true true w m t k es ew h = subst (λ (x : List ℕ). Played pending st [] x) (sym (append-nil (shown (feed_of pending st out)))) (stopped pending st [] out es)
  ends_by true false false m t k es ew h = absurd (no _ _ (sym h))
  ends_by true false true true t k es ew h = absurd (no _ _ (sym h))
  ends_by true false true false t k es ew h = ended pending st out es ew

  pub turn_goes : (pending' : List ℕ) (st' : State) (reads : List (List ℕ)) (text : List ℕ) → next_of pending st out e ≡ on pending' st' → Played pending' st' reads text
      → Played pending st (taken (feed_of pending st out).waits e reads) (shown (feed_of pending st out) ++ text)
  unfolding next_of
  turn_goes p' s' rs text h play = goes_by e.wrote (feed_of pending st out).stops (feed_of pending st out).waits e.more p' s' rs text refl refl h play

  pub turn_ends : e.wrote ≡ true → next_of pending st out e ≡ over → Played pending st [] (shown (feed_of pending st out) ++ last_of pending st out)
  unfolding next_of last_of
  turn_ends t h = ends_by e.wrote (feed_of pending st out).stops (feed_of pending st out).waits e.more t refl refl refl h
