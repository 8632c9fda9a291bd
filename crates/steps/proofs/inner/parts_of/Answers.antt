use Rattle.std.proofs.Common.{arith}
use Rattle.steps.proofs.Room.{layers_fit, parts_are}
use Rattle.steps.proofs.inner.parts_of.Goals as goal

pub overflow_mul-result : goal.overflow_mul-result
overflow_mul-result c = omega (arith, layers_fit c.args.g c.requires _ c.geometry-at.ensures)

pub returns : goal.returns
returns c = parts_are c.args.g c.requires _ c.geometry-at.ensures _ _ _ c.bases_len.ensures c.face_words.ensures c.vector_bytes.ensures
