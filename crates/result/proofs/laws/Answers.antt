-- `laws` meets its contract: each law is a theorem of this crate's proofs. Assumes nothing.
use Rattle.result.proofs.Order.{fed_order, larger_one_way}
use Rattle.result.proofs.Keeps.{fed_long, entries_fed, keeps}
use Rattle.result.proofs.Grown.{all_checked, all_entries, all_accepted, grown_sound}
use Rattle.result.proofs.Sorted.{sorted, larger_through, grown_sorted}
use Rattle.result.proofs.Closed.{fed_closed, closed_stays}
use Rattle.result.proofs.Outcomes.{fed_list_long, fed_list_best}
use Rattle.result.proofs.Recalls.{told_apart}
use Rattle.result.proofs.laws.Goals as goal

pub returns : goal.returns
returns c = record {
  fed_order = fed_order;
  fed_long = fed_long;
  fed_closed = fed_closed;
  sorted = sorted;
  fed_list_long = fed_list_long;
  fed_list_best = fed_list_best;
  larger_one_way = larger_one_way;
  larger_through = larger_through;
  entries_fed = entries_fed;
  all_entries = all_entries;
  all_checked = all_checked;
  keeps = keeps;
  all_accepted = all_accepted;
  grown_sound = grown_sound;
  grown_sorted = grown_sorted;
  closed_stays = closed_stays;
  told_apart = told_apart;
}
