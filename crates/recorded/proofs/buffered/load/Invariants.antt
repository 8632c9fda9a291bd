use Rattle.std.proofs.Common.{ℕ, ◌≡◌, ◌+◌, ◌<◌, get_or}
use Rattle.std.specs.Slice.Iter.{iter_rest}
use Rattle.recorded.specs.Digits.{number_of, behind_numbers}
use Rattle.recorded.proofs.buffered.load.Given as goal

abbrev pub invariant-loop-place : goal.invariant-loop-place
invariant-loop-place l = record {
  rest : iter_rest l.input ≡ behind_numbers (l.place-index + 1) (iter_rest l.fn.input);
  loaded : (k : ℕ) → k < l.place-index → get_or l.place-items k 0 ≡ number_of (behind_numbers (k + 1) (iter_rest l.fn.input));
}
