-- `order_free::laws` meets its contract. Assumes nothing.
use Rattle.order_free.proofs.Orders.{answer_anywhere, run_shuffle}
use Rattle.order_free.proofs.Deals.{any_deal}
use Rattle.order_free.proofs.Grows.{grown_run, grown_once}
use Rattle.order_free.proofs.laws.Goals as goal

pub returns : goal.returns
returns c = record { answer_anywhere = answer_anywhere; run_shuffle = run_shuffle; any_deal = any_deal; grown_run = grown_run; grown_once = grown_once }
