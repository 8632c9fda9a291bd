use Rattle.std.proofs.Common.{◌≡◌, ◌%◌, ◌^◌, length}
use Rattle.std.specs.Slice.Iter.{iter_rest}
use Rattle.recorded.specs.Digits.{behind_number, number_from}
use Rattle.recorded.proofs.buffered.number.Given as goal

abbrev pub invariant-loop-b : goal.invariant-loop-b
invariant-loop-b l = record {
  value : number_from l.value (iter_rest l.input) % 2 ^ 64 ≡ number_from 0 (iter_rest l.fn.input) % 2 ^ 64;
  rest : behind_number (iter_rest l.input) ≡ behind_number (iter_rest l.fn.input);
}

abbrev pub decreases-loop-b : goal.decreases-loop-b
decreases-loop-b l = length (iter_rest l.input)
