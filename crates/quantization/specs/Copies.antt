-- Copying a vector out into bytes, and reading one (01, "bf16"; quantization.rs's marshal and unmarshal): for every input the answer and the
-- target afterwards. An unknown mode is refused by 1, then a wrong length by 2; a refused target stays as it was, and an accepted one beyond
-- what was written.
use Rattle.std.specs.Prelude.{List, ◌++◌, ℕ, ◌*◌, ◌/◌, ◌%◌, leb, eqb, length, drop, Float}
use Rattle.paper.specs.Choice.{pick, refuse}
use Rattle.paper.specs.Geometry.{mode_ok, comp_size}
use Rattle.quantization.specs.Stored.{lower_bytes, components}

pub record Marshalled : Type 0 where
  pub answer : ℕ
  pub array : List ℕ

abbrev pub marshalled : ℕ → List ℕ → Marshalled
marshalled answer array = record { answer = answer; array = array }

-- the target has to have room for every component
unfoldable pub marshal_refusal : ℕ → List Float → List ℕ → ℕ
marshal_refusal mode v array = refuse 1 (mode_ok mode) (refuse 2 (leb (length v * comp_size mode) (length array)) 0)

unfoldable pub marshal_of : ℕ → List Float → List ℕ → Marshalled
marshal_of mode v array =
    marshalled (marshal_refusal mode v array)
    (pick (eqb (marshal_refusal mode v array) 0) (lower_bytes mode v ++ drop (length v * comp_size mode) array) array)

pub record Unmarshalled : Type 0 where
  pub answer : ℕ
  pub out : List Float

abbrev pub unmarshalled : ℕ → List Float → Unmarshalled
unmarshalled answer out = record { answer = answer; out = out }

-- the bytes have to be whole components, and the target to have room for every one
unfoldable pub unmarshal_refusal : ℕ → List ℕ → List Float → ℕ
unmarshal_refusal mode array out =
    refuse 1 (mode_ok mode) (refuse 2 (eqb (length array % comp_size mode) 0) (refuse 2 (leb (length array / comp_size mode) (length out)) 0))

unfoldable pub unmarshal_of : ℕ → List ℕ → List Float → Unmarshalled
unmarshal_of mode array out =
    unmarshalled (unmarshal_refusal mode array out)
    (pick (eqb (unmarshal_refusal mode array out) 0)
    (components mode array 0 (length array / comp_size mode) ++ drop (length array / comp_size mode) out)
    out)
