use native.Mathlib.Omega.{arith}
use Rattle.std.proofs.Common.{rules}
use native.Mathlib.Nat.{mul-le-mul}
use Prim.Native.Nat.{◌/◌, ◌≤◌}
use mathlib.Core.Path.{sym, ◌∙◌}
use borrow.Author.Tests.{not-true, not-false}
use Rattle.paper.specs.Geometry.{lengths_of}
use Rattle.paper.proofs.GeometryFacts.{geo_facts}
use Rattle.paper.proofs.Geometry.lengths.Goals as goal

pub returns-then-not-is_ok : goal.returns-then-not-is_ok
unfolding lengths_of
returns-then-not-is_ok c = simp (sym c.is_ok.ensures ∙ not-true _ c.if-not-is_ok.true-raw) (search rules)

pub bases_len-requires : goal.bases_len-requires
bases_len-requires c =
    let g = geo_facts _ _ _ _ (sym c.is_ok.ensures ∙ not-false _ c.if-not-is_ok.false-raw) in
    (g.d_high, g.n_high)

pub face_words-requires : goal.face_words-requires
face_words-requires c =
    let g = geo_facts _ _ _ _ (sym c.is_ok.ensures ∙ not-false _ c.if-not-is_ok.false-raw) in
    (g.d_high, g.n_high, g.cap_high)

pub vector_bytes-requires : goal.vector_bytes-requires
vector_bytes-requires c =
    let g = geo_facts _ _ _ _ (sym c.is_ok.ensures ∙ not-false _ c.if-not-is_ok.false-raw) in
    (g.d_high, g.cap_high)

pub overflow_mul-result : goal.overflow_mul-result
overflow_mul-result c =
    let g = geo_facts _ _ _ _ (sym c.is_ok.ensures ∙ not-false _ c.if-not-is_ok.false-raw) in
    let w : c.args.self.cap / 64 ≤ 1024 = omega arith in
    omega (arith, mul-le-mul g.n_high w)

pub returns : goal.returns
unfolding lengths_of
returns c =
    simp (sym c.is_ok.ensures ∙ not-false _ c.if-not-is_ok.false-raw, c.bases_len.ensures, c.face_words.ensures, c.vector_bytes.ensures)
