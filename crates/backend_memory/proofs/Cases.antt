-- The cases of a scan, as the call meets them. Assumes nothing.
use Prim.Native.Nat.{ℕ, ◌*◌, min}
use native.Mathlib.Omega.{arith}
use mathlib.Core.Path.{◌≡◌, refl, sym, ap, ◌∙◌, subst}
use mathlib.Core.Bool.{Bool, true, false}
use mathlib.Core.List.{List}
use lib.Dec.{leb, eqb}
use lib.Ieee.{Float}
use lib.ListN.{length}
use borrow.Author.Tests.{leb-true, eqb-true, eqb-false}
use Rattle.std.proofs.Common.{◌≤◌}
use Rattle.paper.specs.Geometry.{Geo, GeoFacts, geo_ok, vector_bytes}
use Rattle.paper.proofs.Choice.{refuse_ok, refuse_rest}
use Rattle.paper.proofs.GeometryFacts.{geo_facts}
use Rattle.index_memory.specs.Memory.{store_ok, slot_bytes}
use Rattle.index_memory.proofs.Lengths.{store_sized}
use Rattle.paper.specs.Choice.{pick}
use Rattle.result.specs.Ranked.{larger, in_order, Outcome}
use Rattle.result.specs.Sets.{Fed, entries_of}
use Rattle.result.proofs.Keeps.{Sound, sound_empty}
use Rattle.bitmaps.specs.Words.{has, size}
use Rattle.bitmaps.proofs.Digits.{Words}
use Rattle.backend_memory.specs.Ranking.{refused, similarity_of, scored, rank_of, nearest_of, RankArgs}
use Rattle.backend_memory.specs.Listed.{Each, TrueEntry}
use Rattle.backend_memory.specs.Scan.{scan_refusal, scan_of}
use Rattle.backend_memory.proofs.Counts.{nearest_sound, scan_ranks, rank_checked, rank_order}
use Rattle.backend_memory.proofs.Listed.{rank_listed}
use Rattle.backend_memory.proofs.Best.{rank_long, rank_best}

not1 : ◌≡◌ {A = ℕ} 1 0 → ⊥
not1 e = omega arith

not2 : ◌≡◌ {A = ℕ} 2 0 → ⊥
not2 e = omega arith

not4 : ◌≡◌ {A = ℕ} 4 0 → ⊥
not4 e = omega arith

-- the stored bytes, by the words of the marks and the length of the target
pub bytes_by : (lv d cap mode lm lt : ℕ) → lv ≡ vector_bytes d cap mode → cap ≡ lm * 64 → lt ≡ d → lv ≡ lm * 64 * slot_bytes lt mode
bytes_by lv d cap mode lm lt e q p = e ∙ ap (λ (z : ℕ). z * slot_bytes d mode) q ∙ ap (λ (z : ℕ). lm * 64 * slot_bytes z mode) (sym p)

-- what ranking asks of the lengths, from what the tests of a scan say
pub args_sized : (g : Geo) (lm lv lt k : ℕ) → GeoFacts g.d g.n g.cap g.mode → store_ok g.d g.cap g.mode lm lv ≡ true → lt ≡ g.d → k ≤ 256
    → RankArgs g.mode k lm lm lv lt
args_sized g lm lv lt k G ok d h =
    let S = store_sized g.d g.cap g.mode lm lv ok in
    let c : g.cap ≡ lm * 64 = omega (arith, S.marks, G.cap_even) in
    record {
      k_high = h;
      set = omega (arith, S.marks, G.cap_high);
      marks = refl;
      d_low = omega (arith, d, G.d_low);
      d_high = omega (arith, d, G.d_high);
      vectors = bytes_by lv g.d g.cap g.mode lm lt S.vecs c d;
    }

-- the same of a scan that is not refused
scan_args : (g : Geo) (ms vs : List ℕ) (t : List Float) (k : ℕ) → scan_refusal g (length ms) (length vs) t k ≡ 0
    → RankArgs g.mode k (length ms) (length ms) (length vs) (length t)
unfolding scan_refusal
scan_args g ms vs t k e =
    let ok1 = geo_ok g.d g.n g.cap g.mode in
    let ok2 = store_ok g.d g.cap g.mode (length ms) (length vs) in
    let ok3 = eqb (length t) g.d in
    let r1 = refuse_rest ok1 1 _ not1 e in
    let r2 = refuse_rest ok2 2 _ not2 r1 in
    let r3 = refuse_rest ok3 2 _ not2 r2 in
    args_sized g (length ms) (length vs) (length t) k (geo_facts g.d g.n g.cap g.mode (refuse_ok ok1 1 _ not1 e)) (refuse_ok ok2 2 _ not2 r1)
    (eqb-true _ _ (refuse_ok ok3 2 _ not2 r2)) (leb-true _ _ (refuse_ok (leb k 256) 4 _ not4 r3))

-- ---- what a scan answers

-- whatever it answers, its set is well formed
pub scan_sound : (g : Geo) (ms vs : List ℕ) (t : List Float) (k : ℕ) → Sound (scan_of g ms vs t k).set
unfolding scan_of
scan_sound g ms vs t k = by (eqb (scan_refusal g (length ms) (length vs) t k) 0) (λ (h : eqb (scan_refusal g (length ms) (length vs) t k) 0 ≡ true). nearest_sound g.mode k ms vs t (scan_args g ms vs t k (eqb-true _ 0 h)).k_high) refl
  where
    by : (b : Bool) → (eqb (scan_refusal g (length ms) (length vs) t k) 0 ≡ true → Sound (nearest_of g.mode k ms vs t).set) → eqb (scan_refusal g (length ms) (length vs) t k) 0 ≡ b
        → Sound (pick b (nearest_of g.mode k ms vs t) (refused (scan_refusal g (length ms) (length vs) t k))).set
    by true go h = go h
    by false go h = sound_empty 0 (omega arith)

-- an accepted scan ranked every present id
pub scan_accepted : (g : Geo) (ms vs : List ℕ) (t : List Float) (k : ℕ) → (scan_of g ms vs t k).refusal ≡ 0 → scan_of g ms vs t k ≡ nearest_of g.mode k ms vs t
unfolding scan_of
scan_accepted g ms vs t k e = by (scan_refusal g (length ms) (length vs) t k) (eqb (scan_refusal g (length ms) (length vs) t k) 0) refl e
  where
    by : (num : ℕ) (b : Bool) → eqb num 0 ≡ b → (pick b (nearest_of g.mode k ms vs t) (refused num)).refusal ≡ 0 → pick b (nearest_of g.mode k ms vs t) (refused num) ≡ nearest_of g.mode k ms vs t
    by num true h e = refl
    by num false h e = absurd (eqb-false num 0 h e)

-- so what it lists and counts is the ranking's
module _ (g : Geo) (ms vs : List ℕ) (t : List Float) (k : ℕ) (e : (scan_of g ms vs t k).refusal ≡ 0) where
  same : scan_of g ms vs t k ≡ rank_of g.mode k ms ms vs t
  same = scan_accepted g ms vs t k e ∙ sym (scan_ranks g.mode k ms vs t)

  good : (rank_of g.mode k ms ms vs t).refusal ≡ 0
  good = ap (λ (r : Fed). r.refusal) (sym same) ∙ e

  pub scan_checked : Words ms → (scan_of g ms vs t k).set.checked ≡ size ms
  scan_checked w = ap (λ (r : Fed). r.set.checked) same ∙ rank_checked g.mode k ms ms vs t w good

  pub scan_listed : Each (TrueEntry ms ms (similarity_of g.mode vs t)) (entries_of (scan_of g ms vs t k).set)
  scan_listed = subst (λ (r : Fed). Each (TrueEntry ms ms (similarity_of g.mode vs t)) (entries_of r.set)) (sym same) (rank_listed g.mode k ms ms vs t good)

  pub scan_order : in_order larger (entries_of (scan_of g ms vs t k).set) ≡ true
  scan_order = ap (λ (r : Fed). in_order larger (entries_of r.set)) same ∙ rank_order g.mode k ms ms vs t good

  pub scan_long : length (entries_of (scan_of g ms vs t k).set) ≡ min k (scan_of g ms vs t k).set.checked
  scan_long = subst (λ (r : Fed). length (entries_of r.set) ≡ min k r.set.checked) (sym same) (rank_long g.mode k ms ms vs t good)

  pub scan_best : (id : ℕ) → has ms id ≡ 1 → Outcome larger k (entries_of (scan_of g ms vs t k).set) (scored (similarity_of g.mode vs t) id)
  scan_best id h =
      subst (λ (r : Fed). Outcome larger k (entries_of r.set) (scored (similarity_of g.mode vs t) id)) (sym same) (rank_best g.mode k ms ms vs t good id h)
