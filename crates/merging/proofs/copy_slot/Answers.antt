-- `merging::copy_slot` meets its contract. Assumes nothing.
use Rattle.std.proofs.Common.{◌+◌, ◌-◌, ◌≤◌, ◌≡◌, length, take, drop, append_assoc, refl, arith, length-drop, drop-drop}
use Rattle.std.proofs.lemmas.List.Edits.{sets-eq}
use lib.Seq.{length-take-le}
use Rattle.merging.proofs.copy_slot.Goals as goal

pub returns : goal.returns
returns c =
    let a = c.args in
    let few : a.size ≤ length (drop a.at a.from.now) = omega (arith, length-drop a.at a.from.now, c.requires) in
    let long : length (take a.size (drop a.at a.from.now)) ≡ a.size = length-take-le a.size _ few in
    let k : a.at + a.size - a.at ≡ a.size = omega arith in
    rw (sets-eq (take a.size (drop a.at a.from.now)) a.vectors.now a.at (omega (arith, c.requires)), long, append_assoc, c.copy_over.ensures, k, drop-drop) refl
