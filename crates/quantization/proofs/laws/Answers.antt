-- `quantization::laws`: each law is a theorem of proofs/. Assumes nothing.
use Rattle.quantization.proofs.Halves.{lowered_nearest, nearest_only, lowered_nan, lowered_widened}
use Rattle.quantization.proofs.Bytes.{word_put}
use Rattle.quantization.proofs.Stored.{comp_back, components_back, restored_four, restored_two, restored_again}
use Rattle.quantization.proofs.Copies.{read_back}
use Rattle.quantization.proofs.laws.Goals as goal

pub returns : goal.returns
returns c = record {
  lowered_nearest = lowered_nearest;
  nearest_only = nearest_only;
  lowered_nan = lowered_nan;
  lowered_widened = lowered_widened;
  word_put = word_put;
  component_back = comp_back;
  components_back = components_back;
  restored_four = restored_four;
  restored_two = restored_two;
  restored_again = restored_again;
  read_back = read_back;
}
