-- `found_again::laws` meets its contract. Assumes nothing.
use Rattle.adding.specs.Adding.{add_of}
use Rattle.found_again.proofs.Again.{picked_anywhere, layered_anywhere, chosen_anywhere, adding_puts, adding_keeps, merging_keeps, projects_again}
use Rattle.found_again.proofs.laws.Goals as goal

pub returns : goal.returns
returns c =
    record {
      picked_anywhere = picked_anywhere;
      layered_anywhere = layered_anywhere;
      chosen_anywhere = λ g bs id v ix f k sk spill. chosen_anywhere g bs id v ix f spill k sk;
      adding_puts = adding_puts;
      adding_keeps = adding_keeps;
      merging_keeps = merging_keeps;
      projects_again = projects_again;
      in_every_union = λ g bs id v ix work e. picked_anywhere g bs id v (add_of g bs id v ix work).ix (adding_puts g bs id v ix work e);
      in_every_layer = λ g bs id v ix work e. layered_anywhere g bs id v (add_of g bs id v ix work).ix (adding_puts g bs id v ix work e);
      in_chosen_layer = λ g bs id v ix work e k sk spill.
          chosen_anywhere g bs id v (add_of g bs id v ix work).ix (adding_puts g bs id v ix work e) spill k sk;
    }
