-- `index_memory::laws` meets its contract. Assumes nothing.
use Rattle.index_memory.proofs.Lengths.{empty_own}
use Rattle.index_memory.proofs.Places.{face_bit_word, face_bit_digit, face_bit_low}
use Rattle.index_memory.proofs.laws.Goals as goal

pub returns : goal.returns
returns c = record { face_bit_word = face_bit_word; face_bit_digit = face_bit_digit; face_bit_low = face_bit_low; empty_own = empty_own }
