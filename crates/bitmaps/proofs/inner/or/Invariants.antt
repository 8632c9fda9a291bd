use lib.Bits.{bit_or}
use Rattle.bitmaps.proofs.inner.or.Given as goal

abbrev pub ghost-by_word : goal.ghost-by_word
ghost-by_word a = bit_or
