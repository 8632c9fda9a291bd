-- Laws of frames. Assumes nothing.
use mathlib.Core.Path.{◌≡◌, refl, sym, ◌∙◌}
use mathlib.Core.List.{List, ◌++◌}
use mathlib.Core.Bool.{Bool, true, false}
use Prim.Native.Nat.{ℕ, ◌+◌, ◌-◌, ◌≤◌, ◌<◌}
use native.Mathlib.Omega.{arith}
use lib.ListN.{length, length-append, get_or-append}
use lib.Dec.{ltb}
use borrow.Author.Tests.{le-ltb, ltb-true, ltb-false}
use Rattle.paper.specs.Choice.{pick}
use Rattle.records.specs.Fields.{u32_at}
use Rattle.quantization.proofs.Bytes.{word_same}
use Rattle.std.proofs.Common.{Ok, Err, Some, None}
use Rattle.paper.specs.declared.Refusal.{Refusal}
use Rattle.paper.specs.declared.Refusal.TheVariants.{BadRecord}
use Rattle.session.specs.Runs.{frame_of}

pub record Framed (s : List ℕ) (n : ℕ) : Type 0 where
  pub long : 4 + n ≤ length s
  pub low : 2 ≤ n
  pub high : n ≤ 512
  pub is : n ≡ u32_at s 0

-- the tests of a frame, as they came out
framed_by : (s : List ℕ) (n : ℕ) (a b c d : Bool) → ltb (length s) 4 ≡ a → ltb (u32_at s 0) 2 ≡ b → ltb 512 (u32_at s 0) ≡ c → ltb (length s - 4) (u32_at s 0) ≡ d
    → pick a (Ok None) (pick b (Err BadRecord) (pick c (Err BadRecord) (pick d (Ok None) (Ok (Some (u32_at s 0)))))) ≡ Ok (Some n) → Framed s n
framed_by s n true b c d ea eb ec ed e = cc
framed_by s n false true c d ea eb ec ed e = cc
framed_by s n false false true d ea eb ec ed e = cc
framed_by s n false false false true ea eb ec ed e = cc
framed_by s n false false false false ea eb ec ed e =
    let q : u32_at s 0 ≡ n = cc in
    let ha = ltb-false (length s) 4 ea in
    let hb = ltb-false (u32_at s 0) 2 eb in
    let hc = ltb-false 512 (u32_at s 0) ec in
    let hd = ltb-false (length s - 4) (u32_at s 0) ed in
    record { long = omega arith; low = omega arith; high = omega arith; is = sym q }

pub framed : (s : List ℕ) (n : ℕ) → frame_of s ≡ Ok (Some n) → Framed s n
unfolding frame_of
framed s n e = framed_by s n _ _ _ _ refl refl refl refl e

pub framed_back : (s : List ℕ) (n : ℕ) → Framed s n → frame_of s ≡ Ok (Some n)
unfolding frame_of
framed_back s n f =
    let q : u32_at s 0 ≡ n = sym f.is in
    let h : 4 + n ≤ length s = f.long in
    rw (q, le-ltb (length s) 4 (omega arith), le-ltb n 2 f.low, le-ltb 512 n f.high, le-ltb (length s - 4) n (omega arith)) refl

-- the length that stands in front does not change with what follows
u32_append : (s more : List ℕ) → 4 ≤ length s → u32_at (s ++ more) 0 ≡ u32_at s 0
u32_append s more h = word_same (s ++ more) s 0 0 4 (λ m l. get_or-append s more 0 (0 + m) (omega arith))

pub framed_more : (s more : List ℕ) (n : ℕ) → Framed s n → Framed (s ++ more) n
framed_more s more n f =
    let h : 4 + n ≤ length s = f.long in
    record { long = omega (arith, length-append s more); low = f.low; high = f.high; is = f.is ∙ sym (u32_append s more (omega arith)) }

bad_by : (s : List ℕ) (r : Refusal) (a b c d e : Bool) (x : ℕ) → ltb (length s) 4 ≡ a → ltb x 2 ≡ b → ltb 512 x ≡ c
    → pick a (Ok None) (pick b (Err BadRecord) (pick c (Err BadRecord) (pick d (Ok None) (Ok (Some x))))) ≡ Err r
    → (4 ≤ length s) × (pick b (Err BadRecord) (pick c (Err BadRecord) (pick e (Ok None) (Ok (Some x)))) ≡ Err r)
bad_by s r true b c d e x ea eb ec q = cc
bad_by s r false true c d e x ea eb ec q = (ltb-false (length s) 4 ea, q)
bad_by s r false false true d e x ea eb ec q = (ltb-false (length s) 4 ea, q)
bad_by s r false false false true e x ea eb ec q = cc
bad_by s r false false false false e x ea eb ec q = cc

pub bad_more : (s more : List ℕ) (r : Refusal) → frame_of s ≡ Err r → frame_of (s ++ more) ≡ Err r
unfolding frame_of
bad_more s more r q =
    let w = bad_by s r (ltb (length s) 4) (ltb (u32_at s 0) 2) (ltb 512 (u32_at s 0)) (ltb (length s - 4) (u32_at s 0)) (ltb (length (s ++ more) - 4) (u32_at s 0)) (u32_at s 0) refl refl refl q in
    let h : 4 ≤ length (s ++ more) = omega (arith, length-append s more, w.0) in
    rw (le-ltb (length (s ++ more)) 4 h, u32_append s more w.0) w.1

-- ---- what is left waits for at most 515 bytes, so that there is always room to read behind it

part_by : (s : List ℕ) (a b c d : Bool) → ltb (length s) 4 ≡ a → ltb 512 (u32_at s 0) ≡ c → ltb (length s - 4) (u32_at s 0) ≡ d
    → pick a (Ok None) (pick b (Err BadRecord) (pick c (Err BadRecord) (pick d (Ok None) (Ok (Some (u32_at s 0)))))) ≡ Ok None → length s < 516
part_by s true b c d ea ec ed e = omega (arith, ltb-true (length s) 4 ea)
part_by s false true c d ea ec ed e = cc
part_by s false false true d ea ec ed e = cc
part_by s false false false true ea ec ed e = omega (arith, ltb-true (length s - 4) (u32_at s 0) ed, ltb-false 512 (u32_at s 0) ec)
part_by s false false false false ea ec ed e = cc

pub part_short : (s : List ℕ) → frame_of s ≡ Ok None → length s < 516
unfolding frame_of
part_short s e = part_by s _ (ltb (u32_at s 0) 2) _ _ refl refl refl e
