-- What an accepted ranking is: its ids fed in turn, each counted once, the list in order. A scan asks for no mark, and every answer holds a well formed set. Assumes nothing.
use Prim.Native.Nat.{ℕ, zero, suc, ◌*◌, ◌≤◌}
use native.Mathlib.Omega.{arith}
use mathlib.Core.Path.{◌≡◌, refl, sym, ap, ◌∙◌, subst}
use mathlib.Core.Bool.{Bool, true, false}
use mathlib.Core.List.{List, [], ◌∷◌, map}
use lib.Ieee.{Float, is_nan}
use lib.ListN.{length}
use borrow.Author.Tests.{eq-eqb}
use Rattle.paper.specs.Choice.{pick}
use Rattle.bitmaps.specs.Words.{has, holds, size}
use Rattle.bitmaps.specs.Walk.{ids_in, ids_of, keep}
use Rattle.bitmaps.proofs.Digits.{Words}
use Rattle.bitmaps.proofs.Ids.{ids_size}
use Rattle.result.specs.Ranked.{larger, in_order}
use Rattle.result.specs.Sets.{Fed, empty_set, entries_of, fed_set, fed_all}
use Rattle.result.specs.declared.ResultSet.{ResultSet}
use Rattle.result.proofs.Keeps.{empty_checked, Sound, sound_empty, sound_fed}
use Rattle.result.proofs.Grown.{all_checked, grown_order}
use Rattle.backend_memory.specs.Ranking.{refused, scored, ranking, rank_of, feeding, nearest_of, similarity_of}

-- the first id of an accepted ranking has its mark, its score is a number, and it is fed before the rest
pub record First (ms : List ℕ) (f : ℕ → Float) (s : ResultSet) (i : ℕ) (is : List ℕ) : Type 0 where
  pub marked : holds ms i ≡ true
  pub number : is_nan (f i) ≡ false
  pub rest : ranking ms f s (i ∷ is) ≡ ranking ms f (fed_set s (scored f i)) is

pub first_of : (ms : List ℕ) (f : ℕ → Float) (s : ResultSet) (i : ℕ) (is : List ℕ) → (ranking ms f s (i ∷ is)).refusal ≡ 0 → First ms f s i is
unfolding ranking
first_of ms f s i is e = by (holds ms i) (is_nan (f i)) refl refl e
  where
    by : (m n : Bool) → holds ms i ≡ m → is_nan (f i) ≡ n → (pick m (pick n (refused 10) (ranking ms f (fed_set s (scored f i)) is)) (refused 9)).refusal ≡ 0 → First ms f s i is
    by false n p q e = absurd (omega arith)
    by true true p q e = absurd (omega arith)
    by true false p q e = record { marked = p; number = q; rest = rw (p, q) }

ranking_fed : (ms : List ℕ) (f : ℕ → Float) (s : ResultSet) (is : List ℕ) → (ranking ms f s is).refusal ≡ 0 → (ranking ms f s is).set ≡ fed_all s (map (scored f) is)
unfolding ranking
ranking_fed ms f s [] e = refl
ranking_fed ms f s (i ∷ is) e =
    let a = first_of ms f s i is e in
    let e2 : (ranking ms f (fed_set s (scored f i)) is).refusal ≡ 0 = ap (λ (r : Fed). r.refusal) (sym a.rest) ∙ e in
    ap (λ (r : Fed). r.set) a.rest ∙ ranking_fed ms f (fed_set s (scored f i)) is e2

-- an accepted ranking is the set's ids, rising, each fed with its score
pub rank_fed : (mode k : ℕ) (ids ms vs : List ℕ) (t : List Float) → (rank_of mode k ids ms vs t).refusal ≡ 0
    → (rank_of mode k ids ms vs t).set ≡ fed_all (empty_set k) (map (scored (similarity_of mode vs t)) (ids_of ids))
unfolding rank_of
rank_fed mode k ids ms vs t e = ranking_fed ms (similarity_of mode vs t) (empty_set k) (ids_of ids) e

map_long : {A : Type 0} (f : ℕ → A) (is : List ℕ) → length (map f is) ≡ length is
map_long f [] = refl
map_long f (i ∷ is) = ap suc (map_long f is)

-- checked is the number of ids in the set (any lent word is below 2^64)
pub rank_checked : (mode k : ℕ) (ids ms vs : List ℕ) (t : List Float) → Words ids
    → (rank_of mode k ids ms vs t).refusal ≡ 0 → (rank_of mode k ids ms vs t).set.checked ≡ size ids
rank_checked mode k ids ms vs t w e =
    let fed = map (scored (similarity_of mode vs t)) (ids_of ids) in
    let c = ap (λ (s : ResultSet). s.checked) (rank_fed mode k ids ms vs t e) in
    omega (arith, c, all_checked (empty_set k) fed, empty_checked k, map_long (scored (similarity_of mode vs t)) (ids_of ids), ids_size ids w)

-- and its scores never rise along the list
pub rank_order : (mode k : ℕ) (ids ms vs : List ℕ) (t : List Float) → (rank_of mode k ids ms vs t).refusal ≡ 0
    → in_order larger (entries_of (rank_of mode k ids ms vs t).set) ≡ true
rank_order mode k ids ms vs t e =
    ap (λ (s : ResultSet). in_order larger (entries_of s)) (rank_fed mode k ids ms vs t e) ∙ grown_order k (map (scored (similarity_of mode vs t)) (ids_of ids))

-- ---- a scan

-- each id of a set is in it
all_marked : (ms : List ℕ) (f : ℕ → Float) (m from : ℕ) (s : ResultSet) → ranking ms f s (ids_in m from ms) ≡ feeding f s (ids_in m from ms)
unfolding ids_in ranking feeding
all_marked ms f zero from s = refl
all_marked ms f (suc m) from s =
    by (has ms from) refl (all_marked ms f m (suc from) s) (all_marked ms f m (suc from) (fed_set s (scored f from)))
  where
    by : (d : ℕ) → has ms from ≡ d → ranking ms f s (ids_in m (suc from) ms) ≡ feeding f s (ids_in m (suc from) ms)
        → ranking ms f (fed_set s (scored f from)) (ids_in m (suc from) ms) ≡ feeding f (fed_set s (scored f from)) (ids_in m (suc from) ms)
        → ranking ms f s (keep d from (ids_in m (suc from) ms)) ≡ feeding f s (keep d from (ids_in m (suc from) ms))
    by zero h p q = p
    by (suc d) h p q =
        let one : has ms from ≡ 1 = omega arith in
        rw (eq-eqb (has ms from) 1 one, q)

-- a scan is the ranking of the marks by themselves
pub scan_ranks : (mode k : ℕ) (ms vs : List ℕ) (t : List Float) → rank_of mode k ms ms vs t ≡ nearest_of mode k ms vs t
unfolding rank_of nearest_of
scan_ranks mode k ms vs t = all_marked ms (similarity_of mode vs t) (length ms * 64) 0 (empty_set k)

-- ---- whatever a ranking answers, its set is well formed

none_sound : Sound (empty_set 0)
none_sound = sound_empty 0 (omega arith)

ranking_sound : (ms : List ℕ) (f : ℕ → Float) (s : ResultSet) (is : List ℕ) → Sound s → Sound (ranking ms f s is).set
unfolding ranking
ranking_sound ms f s [] h = h
ranking_sound ms f s (i ∷ is) h = by (holds ms i) (is_nan (f i)) (λ (q : is_nan (f i) ≡ false). ranking_sound ms f (fed_set s (scored f i)) is (sound_fed s (scored f i) h q)) refl
  where
    by : (m n : Bool) → (is_nan (f i) ≡ false → Sound (ranking ms f (fed_set s (scored f i)) is).set) → is_nan (f i) ≡ n
        → Sound (pick m (pick n (refused 10) (ranking ms f (fed_set s (scored f i)) is)) (refused 9)).set
    by false n go q = none_sound
    by true true go q = none_sound
    by true false go q = go q

pub rank_sound : (mode k : ℕ) (ids ms vs : List ℕ) (t : List Float) → k ≤ 256 → Sound (rank_of mode k ids ms vs t).set
unfolding rank_of
rank_sound mode k ids ms vs t h = ranking_sound ms (similarity_of mode vs t) (empty_set k) (ids_of ids) (sound_empty k h)

pub nearest_sound : (mode k : ℕ) (ms vs : List ℕ) (t : List Float) → k ≤ 256 → Sound (nearest_of mode k ms vs t).set
nearest_sound mode k ms vs t h = subst (λ (r : Fed). Sound r.set) (scan_ranks mode k ms vs t) (rank_sound mode k ms ms vs t h)
