-- `laws` meets its contract: each law is a theorem of this crate's proofs. Assumes nothing.
use Rattle.bitmaps.proofs.Digits.{has_union, has_shared, has_exclusive, has_without}
use Rattle.bitmaps.proofs.Size.{size_union}
use Rattle.bitmaps.proofs.Rising.{has_inserted, has_kept}
use Rattle.bitmaps.proofs.Ids.{ids_once, ids_rising, ids_size, walk_start, walk_on, walk_end, next_first}
use Rattle.bitmaps.proofs.Members.{has_empty, holds_union, holds_shared, holds_exclusive, holds_without, holds_inserted, holds_empty, same_words}
use Rattle.bitmaps.proofs.laws.Goals as goal

pub returns : goal.returns
returns c = record {
  has_union = has_union;
  has_shared = has_shared;
  has_exclusive = has_exclusive;
  has_without = has_without;
  has_inserted = has_inserted;
  has_kept = has_kept;
  has_empty = has_empty;
  holds_union = holds_union;
  holds_shared = holds_shared;
  holds_exclusive = holds_exclusive;
  holds_without = holds_without;
  holds_inserted = holds_inserted;
  holds_empty = holds_empty;
  same_words = same_words;
  size_union = size_union;
  ids_once = ids_once;
  ids_rising = ids_rising;
  ids_size = ids_size;
  walk_start = walk_start;
  walk_on = walk_on;
  walk_end = walk_end;
  next_first = next_first;
}
