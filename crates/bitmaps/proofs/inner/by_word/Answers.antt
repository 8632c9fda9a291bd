-- `inner::by_word` meets its contract: the first i words are done. Assumes nothing.
use Rattle.std.proofs.Common.{◌≡◌, length, refl, arith}
use Rattle.bitmaps.proofs.Zip.{by_word_to, by_word_to_more, by_word_to_all}
use Rattle.bitmaps.proofs.inner.by_word.Goals as goal

pub loop-i-init : goal.loop-i-init
unfolding by_word_to
loop-i-init g c = refl

pub loop-i-preserved : goal.loop-i-preserved
loop-i-preserved g c =
    rw (c.requires.1.1.1 _ _ _ (omega arith) (omega arith) c.f.ensures, c.loop-i.invariant)
    (by_word_to_more _ _ _ _ (omega arith) (omega arith))

pub returns : goal.returns
returns g c =
    let past : c.loop-i.i ≡ length c.args.a.now = omega arith in
    rw (c.loop-i.invariant, past) (by_word_to_all _ _ _)
