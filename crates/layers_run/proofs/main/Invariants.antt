use Rattle.std.proofs.Common.{◌≡◌, ◌≤◌, length}
use Rattle.layers_run.proofs.main.Given as goal

abbrev pub invariant-loop : goal.invariant-loop
invariant-loop l = record {
  a_len : length l.a ≡ 1056;
  b_len : length l.b ≡ 1056;
  first_fits : l.first ≤ 1056;
  second_fits : l.second ≤ 1056;
}
