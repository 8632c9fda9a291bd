-- What an accepted ranking lists: each entry's id is in the ranked set, has its mark, and stands with the score that its stored vector gives. Assumes nothing.
use Prim.Native.Nat.{ℕ, zero, suc, ◌*◌, ◌<◌}
use native.Mathlib.Omega.{arith}
use mathlib.Core.Path.{◌≡◌, refl, sym, ap, ◌∙◌, subst}
use mathlib.Core.List.{List, [], ◌∷◌}
use lib.Ieee.{Float}
use lib.ListN.{length, get_or}
use Rattle.bitmaps.specs.Words.{has}
use Rattle.bitmaps.specs.Walk.{ids_in, ids_of, keep}
use Rattle.result.specs.Ranked.{Entry, larger}
use Rattle.result.specs.Sets.{Fed, entries_of, empty_set, fed_set}
use Rattle.result.specs.declared.ResultSet.{ResultSet}
use Rattle.result.proofs.Keeps.{entries_fed, entries_none}
use Rattle.result.proofs.Outcomes.{each_fed}
use Rattle.backend_memory.specs.Ranking.{scored, ranking, rank_of, similarity_of}
use Rattle.backend_memory.specs.Listed.{Each, none, more, TrueEntry}
use Rattle.backend_memory.proofs.Counts.{first_of}

pub each_at : {A : Type 0} (P : A → Type 0) (l : List A) (d : A) (i : ℕ) → Each P l → i < length l → P (get_or l i d)
each_at P [] d i none h = absurd (omega arith)
each_at P (a ∷ l) d zero (more p ps) h = p
each_at P (a ∷ l) d (suc i) (more p ps) h = each_at P l d i ps (omega arith)

-- ---- a feed lists nothing but what was listed and the new entry

each_fed_set : (P : Entry → Type 0) (e : Entry) → P e → (s : ResultSet) → Each P (entries_of s) → Each P (entries_of (fed_set s e))
each_fed_set P e p s q = rw (entries_fed s e) (each_fed P e p larger s.k (entries_of s) q)

-- ---- an accepted ranking

-- the ids of a set are in it
ids_inside : (m from : ℕ) (s : List ℕ) → Each (λ (i : ℕ). has s i ≡ 1) (ids_in m from s)
unfolding ids_in
ids_inside zero from s = none
ids_inside (suc m) from s = by (has s from) refl (ids_inside m (suc from) s)
  where
    by : (d : ℕ) → has s from ≡ d → Each (λ (i : ℕ). has s i ≡ 1) (ids_in m (suc from) s) → Each (λ (i : ℕ). has s i ≡ 1) (keep d from (ids_in m (suc from) s))
    by zero h q = q
    by (suc d) h q = let one : has s from ≡ 1 = omega arith in more one q

ranking_listed : (ids ms : List ℕ) (f : ℕ → Float) (s : ResultSet) (is : List ℕ) → Each (λ (i : ℕ). has ids i ≡ 1) is → Each (TrueEntry ids ms f) (entries_of s)
    → (ranking ms f s is).refusal ≡ 0 → Each (TrueEntry ids ms f) (entries_of (ranking ms f s is).set)
unfolding ranking
ranking_listed ids ms f s [] none q e = q
ranking_listed ids ms f s (i ∷ is) (more h hs) q e =
    let a = first_of ms f s i is e in
    let new : TrueEntry ids ms f (scored f i) = record { inside = h; marked = a.marked; score = refl } in
    let e2 : (ranking ms f (fed_set s (scored f i)) is).refusal ≡ 0 = ap (λ (r : Fed). r.refusal) (sym a.rest) ∙ e in
    subst (λ (r : Fed). Each (TrueEntry ids ms f) (entries_of r.set)) (sym a.rest)
    (ranking_listed ids ms f (fed_set s (scored f i)) is hs (each_fed_set (TrueEntry ids ms f) (scored f i) new s q) e2)

pub rank_listed : (mode k : ℕ) (ids ms vs : List ℕ) (t : List Float) → (rank_of mode k ids ms vs t).refusal ≡ 0
    → Each (TrueEntry ids ms (similarity_of mode vs t)) (entries_of (rank_of mode k ids ms vs t).set)
unfolding rank_of
rank_listed mode k ids ms vs t e =
    let f = similarity_of mode vs t in
    let start : Each (TrueEntry ids ms f) (entries_of (empty_set k)) = rw (entries_none k) none in
    ranking_listed ids ms f (empty_set k) (ids_of ids) (ids_inside (length ids * 64) 0 ids) start e
