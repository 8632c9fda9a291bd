-- `next` meets its contract: what `inner::next` finds is the first of the ids from the place on. Assumes nothing.
use Rattle.std.proofs.Common.{sym}
use Rattle.paper.proofs.Answering.{answers_done}
use Rattle.bitmaps.proofs.Ids.{next_first}
use Rattle.bitmaps.proofs.next.Goals as goal

pub returns : goal.returns
returns c = answers_done _ _ _ _ (sym c.in_ok-check_set.ensures.told) (next_first _ _ _ c.next.ensures)
