use Prim.Native.Nat.{◌+◌, ◌-◌, ◌*◌, ◌≤◌}
use mathlib.Core.Path.{◌≡◌}
use lib.ListN.{length, drop}
use Rattle.basis.specs.Four.{fold_four, dot_four}
use Rattle.basis.proofs.inner.dots_of_eight.Given as goal

abbrev pub invariant-loop-i : goal.invariant-loop-i
invariant-loop-i l = (l.i ≤ length l.target) × (fold_four l.t (drop l.i l.target) l.basis (l.at + l.i) (length l.target) ≡ dot_four l.target l.basis l.at) × (fold_four l.u (drop l.i l.target) l.basis (l.up + l.i) (length l.target) ≡ dot_four l.target l.basis l.up) × (l.up ≡ l.at + 4 * length l.target)

abbrev pub decreases-loop-i : goal.decreases-loop-i
decreases-loop-i l = length l.target - l.i

abbrev pub invariant-loop-j : goal.invariant-loop-j
invariant-loop-j l = (fold_four l.t (drop l.j l.target) l.basis (l.at + l.j) (length l.target) ≡ dot_four l.target l.basis l.at) × (fold_four l.u (drop l.j l.target) l.basis (l.up + l.j) (length l.target) ≡ dot_four l.target l.basis l.up) × (l.up ≡ l.at + 4 * length l.target)
