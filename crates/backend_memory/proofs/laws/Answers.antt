-- `backend_memory::laws` meets its contract. Assumes nothing.
use Rattle.backend_memory.proofs.Counts.{rank_checked, rank_order, scan_ranks}
use Rattle.backend_memory.proofs.Listed.{rank_listed}
use Rattle.backend_memory.proofs.Best.{rank_long, rank_best}
use Rattle.backend_memory.proofs.Cases.{scan_checked, scan_listed, scan_order, scan_long, scan_best, scan_sound}
use Rattle.backend_memory.proofs.laws.Goals as goal

pub returns : goal.returns
returns c =
    record {
      rank_checked = rank_checked;
      rank_listed = rank_listed;
      rank_order = rank_order;
      rank_long = rank_long;
      rank_best = rank_best;
      scan_ranks = scan_ranks;
      scan_checked = λ g ms vs t k w e. scan_checked g ms vs t k e w;
      scan_listed = scan_listed;
      scan_order = scan_order;
      scan_long = scan_long;
      scan_best = scan_best;
      scan_sound = λ g ms vs t k. (scan_sound g ms vs t k).formed;
    }
