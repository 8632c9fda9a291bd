-- The loop of `vector::divide_all`: the components so far are divided, those that are left are to be divided.
use Rattle.std.proofs.Common.{◌≡◌, ◌++◌, map, take, drop}
use Rattle.std.specs.Float.{binary32}
use Rattle.std.specs.Float.Ieee.{Float, div}
use Rattle.vector.proofs.divide_all.Given as goal

abbrev pub by : Float → Float → Float
by n x = div binary32 x n

abbrev pub invariant-loop-x : goal.invariant-loop-x
invariant-loop-x l = take l.x-index l.vec ++ map (by l.norm) (drop l.x-index l.vec) ≡ map (by l.norm) l.initial.vec
