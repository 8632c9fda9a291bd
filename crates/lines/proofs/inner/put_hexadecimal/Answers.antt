use mathlib.Core.List.{[], ◌∷◌}
use Rattle.lines.specs.Lines.{hexadecimal}
use Rattle.lines.proofs.Texts.{put_as}
use Rattle.lines.proofs.inner.put_hexadecimal.Goals as goal

pub returns : goal.returns
unfolding hexadecimal
returns c = put_as (λ j. c.glyph.ensures j ∷ c.glyph-2.ensures j ∷ c.glyph-3.ensures j ∷ c.glyph-4.ensures j ∷ c.glyph-5.ensures j ∷ c.glyph-6.ensures j ∷ c.glyph-7.ensures j ∷ c.glyph-8.ensures j ∷ []) c.put_text.ensures
