-- `laws` meets its contract: each law is a theorem of this crate's proofs. Assumes nothing.
use Rattle.counting_bitmap.proofs.Counting.{counts, layer_holds}
use Rattle.counting_bitmap.proofs.Kept.{counts_kept, counts_add_up}
use Rattle.counting_bitmap.proofs.Dropped.{drops_nothing}
use Rattle.counting_bitmap.proofs.Places.{counts_at}
use Rattle.counting_bitmap.proofs.TopK.{chosen_is_highest, highest_is_chosen, eight_is_too_few, too_few_is_eight, zero_picks_last, part_of_highest, part_of_too_few, zero_part_is_last}
use Rattle.counting_bitmap.proofs.laws.Goals as goal

pub returns : goal.returns
returns c = record {
  counts = counts;
  layer_holds = layer_holds;
  counts_kept = counts_kept;
  counts_add_up = counts_add_up;
  drops_nothing = drops_nothing;
  counts_at = counts_at;
  chosen_is_highest = chosen_is_highest;
  highest_is_chosen = highest_is_chosen;
  eight_is_too_few = eight_is_too_few;
  too_few_is_eight = too_few_is_eight;
  zero_picks_last = zero_picks_last;
  part_of_highest = part_of_highest;
  part_of_too_few = part_of_too_few;
  zero_part_is_last = zero_part_is_last;
}
