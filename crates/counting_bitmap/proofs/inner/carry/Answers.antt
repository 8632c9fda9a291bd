-- `inner::carry` meets its contract: the first i words are done, and `any` holds a digit exactly if one of them is carried on. Assumes nothing.
use Prim.Native.Nat.{◌<◌}
use mathlib.Core.Bool.{not}
use mathlib.Core.Path.{◌≡◌, refl, ap, sym, ◌∙◌}
use native.Mathlib.Omega.{arith}
use native.Mathlib.Numerals.{add-one}
use lib.ListN.{length, take}
use lib.Seq.{take-length}
use lib.Bits.{bit_and, bit_or}
use Rattle.bitmaps.specs.Words.{size, is_empty, shared}
use Rattle.bitmaps.proofs.Digits.{by_word_at}
use Rattle.bitmaps.proofs.Zip.{by_word_to, by_word_to_at, by_word_to_suc, by_word_to_all, by_word_length, by_word_flip}
use Rattle.counting_bitmap.proofs.Stop.{any_more}
use Rattle.counting_bitmap.proofs.inner.carry.Invariants.{flipped}
use Rattle.counting_bitmap.proofs.inner.carry.Goals as goal

pub loop-i-init : goal.loop-i-init
unfolding by_word_to size
loop-i-init c = (refl, refl, refl)

pub loop-i-preserved : goal.loop-i-preserved
loop-i-preserved c =
    let l = c.loop-i in
    let ls = c.args.layer.now in
    let cs = c.args.cur.now in
    let a : l.i < length ls = omega arith in
    let d : l.i < length cs = omega arith in
    let same : length ls ≡ length cs = c.requires in
    let long : l.i < length (shared ls cs) = rw (by_word_length bit_and ls cs) a in (
      rw (l.invariant.0, l.invariant.1, by_word_to_at bit_or l.i ls cs, by_word_to_at flipped l.i cs ls, add-one) (by_word_to_suc bit_or l.i ls cs a d),
      rw (l.invariant.0, l.invariant.1, by_word_to_at bit_or l.i ls cs, by_word_to_at flipped l.i cs ls, add-one) (by_word_to_suc flipped l.i cs ls d a),
      any_more l.any l.i _ (shared ls cs) long
          (rw (l.invariant.0, l.invariant.1, by_word_to_at bit_or l.i ls cs, by_word_to_at flipped l.i cs ls) (sym (by_word_at bit_and refl ls cs same l.i)))
          l.invariant.2,
    )

pub returns : goal.returns
returns c =
    let l = c.loop-i in
    let ls = c.args.layer.now in
    let cs = c.args.cur.now in
    let same : length ls ≡ length cs = c.requires in
    let past : l.i ≡ length ls = omega arith in
    let past' : l.i ≡ length cs = omega arith in
    let whole : take l.i (shared ls cs) ≡ shared ls cs = rw (past ∙ sym (by_word_length bit_and ls cs)) (take-length (shared ls cs)) in
    record {
      united = l.invariant.0 ∙ rw past (by_word_to_all bit_or ls cs);
      carry = l.invariant.1 ∙ rw past' (by_word_to_all flipped cs ls) ∙ by_word_flip bit_and ls cs same;
      some = ap not (l.invariant.2 ∙ ap is_empty whole);
    }
