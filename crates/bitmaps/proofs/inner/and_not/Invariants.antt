use Rattle.bitmaps.specs.Words.{word_but}
use Rattle.bitmaps.proofs.inner.and_not.Given as goal

abbrev pub ghost-by_word : goal.ghost-by_word
ghost-by_word a = word_but
