-- `ortho::pair` meets its contract. Assumes nothing.
use mathlib.Core.Path.{◌≡◌, ◌∙◌}
use mathlib.Core.List.{List}
use Prim.Native.Nat.{ℕ}
use lib.Ieee.{Float}
use Rattle.vector.specs.Fold.{dot_of}
use Rattle.ortho.specs.Ortho.{row, reduced, norm_row, pair_of}
use Rattle.ortho.proofs.pair.Goals as goal

say : (a b d : ℕ) (xs ys : List Float) (t : Float) → t ≡ dot_of (row a d xs) (row b d xs) → ys ≡ reduced a b d t xs → pair_of a b d xs ≡ norm_row b d ys
unfolding pair_of
say a b d xs ys t p q = rw (q, p)

pub returns : goal.returns
returns c =
    let nr = c in
    let rr = nr in
    let dr = rr in
    let s = dr.args in
    say s.a s.b s.d s.out.now rr.reduce_row.new.out dr.dot_rows-dot.result dr.dot_rows-dot.ensures rr.reduce_row.ensures ∙ nr.normalize_row.ensures
