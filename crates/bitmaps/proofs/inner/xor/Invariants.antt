use lib.Bits.{bit_xor}
use Rattle.bitmaps.proofs.inner.xor.Given as goal

abbrev pub ghost-by_word : goal.ghost-by_word
ghost-by_word a = bit_xor
