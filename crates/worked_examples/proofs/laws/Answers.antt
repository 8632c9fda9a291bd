-- `worked_examples::laws`: P1 to P12 hold, the checker computes each from the definitions. Assumes nothing.
use mathlib.Core.Path.{◌≡◌, refl, subst}
use Prim.Native.Nat.{ℕ, ◌<◌}
use native.Mathlib.Omega.{arith}
use lib.Count.{ones}
use lib.Ieee.{of_bits, lt, eq, neg, is_nan, nan_bits}
use Rattle.paper.specs.Geometry.{cap_ok}
use Rattle.sqrt.specs.Root.{Sqrt}
use Rattle.sqrt.specs.RootOf.{root_of}
use Rattle.sqrt.proofs.Function.{root_of_is}
use Rattle.quantization.specs.Bf16.{lowered}
use Rattle.vector.specs.Finite.{every}
use Rattle.faces.specs.Best.{beats, first_from, best_of}
use Rattle.faces.specs.Slots.{face_of, faces_of, picked_of, after_of, picks_of}
use Rattle.faces.specs.Answer.{face_number, spill_of}
use Rattle.bitmaps.specs.Words.{by_word, size}
use Rattle.bitmaps.specs.Walk.{ids_in}
use Rattle.counting_bitmap.specs.Layers.{merged, merged_all}
use Rattle.counting_bitmap.specs.TopLayer.{top_of}
use Rattle.counting_bitmap.specs.Answers.{layers_ok, merge_fault, layers_fault}
use Rattle.result.specs.Ranked.{fed}
use Rattle.result.proofs.Leaves.{leaves}
use Rattle.worked_examples.specs.Examples.{examples, All}
use Rattle.worked_examples.proofs.laws.Goals as goal

-- `root_of` computes, and what it gives is the root
rooted : (b q : ℕ) → b < 0x1_0000_0000 → root_of b ≡ q → Sqrt b q
rooted b q h e = subst (Sqrt b) e (root_of_is b h)

hold : All examples
unfolding root_of lowered nan_bits face_number face_of spill_of faces_of picked_of after_of picks_of best_of first_from every beats lt eq neg of_bits is_nan merged_all merged by_word ids_in merge_fault layers_fault layers_ok cap_ok top_of size ones fed
hold = (
  rooted _ _ (omega arith) refl,
  (
    rooted _ _ (omega arith) refl,
    (
      rooted _ _ (omega arith) refl,
      (
        refl,
        (
          refl,
          (
            refl,
            (
              record { refusal = refl; value = refl },
              (
                record { refusal = refl; value = refl },
                (
                  refl,
                  (
                    (
                      (refl, (refl, (refl, tt))),
                      (refl, (refl, (refl, tt))),
                      (record { refusal = refl; value = refl }, (record { refusal = refl; value = refl }, (record { refusal = refl; value = refl }, tt))),
                    ),
                    (
                      leaves 2 _ _ (omega arith) (omega arith) refl refl,
                      (
                        leaves 3 _ _ (omega arith) (omega arith) refl refl,
                        tt,
                      ),
                    ),
                  ),
                ),
              ),
            ),
          ),
        ),
      ),
    ),
  ),
)

pub returns : goal.returns
returns c = record { examples_hold = hold }
