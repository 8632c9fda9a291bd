-- `vector_store::laws` meets its contract. Assumes nothing.
use Rattle.vector_store.proofs.Answers.{search_accepted, chosen_highest, found_checked, found_listed, found_order, found_long, found_best, search_sound}
use Rattle.vector_store.proofs.laws.Goals as goal

pub returns : goal.returns
returns c =
    record {
      search_accepted = search_accepted;
      chosen_highest = chosen_highest;
      found_checked = found_checked;
      found_listed = found_listed;
      found_order = found_order;
      found_long = found_long;
      found_best = found_best;
      search_sound = λ g bs ix t k sk spill m. (search_sound g bs ix t k sk spill m).formed;
    }
