-- `faces::laws`: each law is a theorem of proofs/. Assumes nothing.
use Rattle.std.proofs.Common.{pos}
use Rattle.paper.proofs.Answering.{answered_once}
use Rattle.vector.specs.Finite.{is_finite}
use Rattle.vector.proofs.Vectors.{every_at}
use Rattle.faces.proofs.First.{best_first}
use Rattle.faces.proofs.Slots.{picked_face, slot_low, face_slot_is, faces_slots, picks_begin}
use Rattle.faces.proofs.laws.Goals as goal

pub returns : goal.returns
returns c = record {
  one_answer = λ r s num f. answered_once r s num f (pos 0);
  best_first = λ w h f. best_first w h.some (every_at is_finite w h.finite) f;
  picked_face = picked_face;
  slot_low = slot_low;
  face_slot_is = face_slot_is;
  faces_slots = faces_slots;
  picks_begin = picks_begin;
}
