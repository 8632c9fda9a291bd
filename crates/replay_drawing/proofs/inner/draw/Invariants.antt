use Rattle.std.proofs.Common.{◌≡◌, ◌-◌, ◌++◌, length, take}
use Rattle.replay_drawing.specs.Draws.{components_of, after_draws}
use Rattle.replay_drawing.proofs.inner.draw.Given as goal

abbrev pub invariant-loop-x : goal.invariant-loop-x
invariant-loop-x l = record {
  list : take l.x-index l.out ++ components_of (length l.initial.out - l.x-index) l.seed l.grain l.scale ≡ components_of (length l.initial.out) l.initial.seed l.grain l.scale;
  place : after_draws (length l.initial.out - l.x-index) l.seed ≡ after_draws (length l.initial.out) l.initial.seed;
}
