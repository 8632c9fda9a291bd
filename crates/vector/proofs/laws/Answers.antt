-- `vector::laws`: each law is a theorem of proofs/. Assumes nothing.
use mathlib.Core.Path.{◌≡◌, refl}
use mathlib.Core.List.{[]}
use Rattle.sqrt.specs.RootOf.{root}
use Rattle.sqrt.proofs.Floats.{root_zero}
use Rattle.vector.specs.Fold.{fold2, zero32, dot_of, squares_of}
use Rattle.paper.proofs.Answering.{answered_once}
use Rattle.vector.proofs.Vectors.{length_normalized, finite_normalized}
use Rattle.vector.proofs.laws.Goals as goal

dot_of_none : dot_of [] [] ≡ zero32
unfolding dot_of fold2
dot_of_none = refl

distance_of_none : root (squares_of [] []) ≡ zero32
unfolding squares_of fold2
distance_of_none = root_zero

pub returns : goal.returns
returns c = record {
  one_answer = λ r s num x. answered_once r s num x zero32;
  dot_of_none = dot_of_none;
  distance_of_none = distance_of_none;
  length_normalized = length_normalized;
  finite_normalized = finite_normalized;
}
