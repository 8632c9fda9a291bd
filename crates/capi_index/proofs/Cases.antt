-- The ways through the calls that write a list, on plain values. Assumes nothing.
use Prim.Native.Nat.{ℕ}
use native.Mathlib.Omega.{arith}
use mathlib.Core.Path.{◌≡◌, sym, ap, ◌∙◌}
use mathlib.Core.Bool.{true, false}
use mathlib.Core.List.{List, map}
use lib.Ieee.{Float}
use borrow.Author.Tests.{ne_eqb}
use Rattle.std.proofs.Common.{Result, Ok, Err, IfOk, refl, subst}
use Rattle.paper.specs.Geometry.{Geo, geo_ok}
use Rattle.paper.specs.Refusals.{number_of}
use Rattle.paper.specs.declared.Refusal.{Refusal}
use Rattle.paper.proofs.Answering.{number_low}
use Rattle.index_memory.specs.Memory.{Ix}
use Rattle.bitmaps.specs.Walk.{ids_of}
use Rattle.counting_bitmap.specs.Layers.{layer}
use Rattle.result.specs.Sets.{Fed, fed_or, empty_set}
use Rattle.result.specs.declared.ResultSet.{ResultSet}
use Rattle.result.proofs.Answers.{form}
use Rattle.result.proofs.Keeps.{Sound, empty_k}
use Rattle.result.proofs.Grown.{all_k}
use Rattle.backend_memory.specs.Ranking.{scored, similarity_of, rank_of, nearest_of}
use Rattle.backend_memory.specs.Scan.{scan_of}
use Rattle.backend_memory.proofs.Counts.{rank_fed, scan_ranks}
use Rattle.backend_memory.proofs.Cases.{scan_sound, scan_accepted}
use Rattle.candidates.specs.Gathering.{layers_of}
use Rattle.vector_store.specs.Search.{Work, Searched, searched, told_of, searched_by, search_of}
use Rattle.vector_store.specs.declared.Nearest.{Nearest as FoundList}
use Rattle.vector_store.proofs.Answers.{search_accepted, search_sound}
use Rattle.capi_sets.specs.Lists.{Outs, room_in, Listed, listed, put_set, Fits}
use Rattle.capi_sets.proofs.Lists.{put_told}
use Rattle.capi_index.specs.Searches.{put_nearest, into_nearest, scan_into, found, search_into}

-- ---- a list into its arrays

-- an answer in the arrays is what the definitions say of it
nearest_told : (r : Result FoundList Refusal) (o : Outs) → put_nearest r o ≡ into_nearest (told_of r) o
unfolding into_nearest
nearest_told (Ok a) o = refl
nearest_told (Err r) o =
    let low = number_low r in
    rw (ne_eqb (number_of r) 0 (λ z. omega arith)) refl

-- ---- an accepted answer has room in the arrays

fits : (s : ResultSet) (k li ls : ℕ) → Sound s → s.k ≡ k → li ≡ k → ls ≡ k → Fits s li ls
fits s k li ls h e p q =
    let f = form s h.formed in
    record { small = omega (arith, f.short, f.small); ids = omega (arith, f.short); scores = omega (arith, f.short) }

-- an accepted ranking's set is for k
rank_k : (mode k : ℕ) (ids ms vs : List ℕ) (t : List Float) → (rank_of mode k ids ms vs t).refusal ≡ 0 → (rank_of mode k ids ms vs t).set.k ≡ k
rank_k mode k ids ms vs t e =
    ap (λ (s : ResultSet). s.k) (rank_fed mode k ids ms vs t e) ∙ all_k (empty_set k) (map (scored (similarity_of mode vs t)) (ids_of ids)) ∙ empty_k k

-- ---- a scan

scan_k : (mode k : ℕ) (ms vs : List ℕ) (t : List Float) → (nearest_of mode k ms vs t).refusal ≡ 0 → (nearest_of mode k ms vs t).set.k ≡ k
scan_k mode k ms vs t e =
    let s = scan_ranks mode k ms vs t in
    ap (λ (r : Fed). r.set.k) (sym s) ∙ rank_k mode k ms ms vs t (ap (λ (r : Fed). r.refusal) s ∙ e)

module _ (g : Geo) (ms vs : List ℕ) (t : List Float) (k : ℕ) where
  scan_fits_it : (li ls : ℕ) → li ≡ k → ls ≡ k → (scan_of g ms vs t k).refusal ≡ 0 → Fits (scan_of g ms vs t k).set li ls
  scan_fits_it li ls p q e =
      let a = scan_accepted g ms vs t k e in
      fits (scan_of g ms vs t k).set k li ls (scan_sound g ms vs t k)
      (ap (λ (r : Fed). r.set.k) a ∙ scan_k g.mode k ms vs t (ap (λ (r : Fed). r.refusal) (sym a) ∙ e)) p q

  pub scan_fits : (r : Result ResultSet Refusal) (li ls : ℕ) → fed_or (empty_set 0) r ≡ scan_of g ms vs t k → li ≡ k → ls ≡ k → IfOk r (λ (s : ResultSet). Fits s li ls)
  scan_fits (Ok s) li ls e p q = subst (λ (x : ResultSet). Fits x li ls) (sym (ap (λ (f : Fed). f.set) e)) (scan_fits_it li ls p q (sym (ap (λ (f : Fed). f.refusal) e)))
  scan_fits (Err r) li ls e p q = tt

  module _ (o : Outs) where
    pub scan_geometry : geo_ok g.d g.n g.cap g.mode ≡ false → listed 1 o ≡ scan_into g ms vs t k o
    unfolding scan_into
    scan_geometry h = rw h

    pub scan_room : geo_ok g.d g.n g.cap g.mode ≡ true → room_in k 2 o ≡ false → listed 2 o ≡ scan_into g ms vs t k o
    unfolding scan_into
    scan_room h r = rw (h, r)

    pub scan_into_lem : (r : Result ResultSet Refusal) (l : Listed) → geo_ok g.d g.n g.cap g.mode ≡ true → room_in k 2 o ≡ true → fed_or (empty_set 0) r ≡ scan_of g ms vs t k
        → l ≡ put_set r o → l ≡ scan_into g ms vs t k o
    unfolding scan_into
    scan_into_lem r l h m e q = rw (h, m) (q ∙ put_told (scan_of g ms vs t k) r o (whole r e))
      where
        whole : (r : Result ResultSet Refusal) → fed_or (empty_set 0) r ≡ scan_of g ms vs t k → fed_or (scan_of g ms vs t k).set r ≡ scan_of g ms vs t k
        whole (Ok s) e = e
        whole (Err r) e = ap (λ (n : ℕ). record { refusal = n; set = (scan_of g ms vs t k).set }) (ap (λ (f : Fed). f.refusal) e)

-- ---- a search

module _ (g : Geo) (bs : List Float) (ix : Ix) (t : List Float) (k sk spill : ℕ) (m : Work) where
  search_fits_it : (li ls : ℕ) → li ≡ k → ls ≡ k → (search_of g bs ix t k sk spill m).answer.refusal ≡ 0 → Fits (search_of g bs ix t k sk spill m).answer.set li ls
  search_fits_it li ls p q e =
      let a = search_accepted g bs ix t k sk spill m e in
      let b = searched_by g bs ix t spill in
      fits (search_of g bs ix t k sk spill m).answer.set k li ls (search_sound g bs ix t k sk spill m)
      (ap (λ (s : ResultSet). s.k) a.ranked ∙ rank_k g.mode k (layer b.w (layers_of g.n b) a.at) ix.marks ix.vecs b.target a.good) p q

  pub search_fits : (r : Result FoundList Refusal) (m' : Work) (li ls : ℕ) → searched (told_of r) m' ≡ search_of g bs ix t k sk spill m → li ≡ k → ls ≡ k
      → IfOk r (λ (a : FoundList). Fits a.set li ls)
  search_fits (Ok a) m' li ls e p q =
      subst (λ (x : ResultSet). Fits x li ls) (sym (ap (λ (s : Searched). s.answer.set) e)) (search_fits_it li ls p q (sym (ap (λ (s : Searched). s.answer.refusal) e)))
  search_fits (Err r) m' li ls e p q = tt

  module _ (o : Outs) where
    pub search_geometry : geo_ok g.d g.n g.cap g.mode ≡ false → found 1 m o ≡ search_into g bs ix t k sk spill m o
    unfolding search_into
    search_geometry h = rw h

    pub search_room : geo_ok g.d g.n g.cap g.mode ≡ true → room_in k 3 o ≡ false → found 2 m o ≡ search_into g bs ix t k sk spill m o
    unfolding search_into
    search_room h r = rw (h, r)

    pub search_into_lem : (r : Result FoundList Refusal) (m' : Work) (l : Listed) → geo_ok g.d g.n g.cap g.mode ≡ true → room_in k 3 o ≡ true
        → searched (told_of r) m' ≡ search_of g bs ix t k sk spill m → l ≡ put_nearest r o → found l.answer m' l.out ≡ search_into g bs ix t k sk spill m o
    unfolding search_into
    search_into_lem r m' l h n e q =
        let p : l ≡ into_nearest (told_of r) o = q ∙ nearest_told r o in
        rw (h, n, ← e) (λ i. found (p i).answer m' (p i).out)
