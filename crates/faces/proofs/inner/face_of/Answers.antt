-- `faces::inner::face_of` meets its contract. Assumes nothing.
use Prim.Native.Nat.{ℕ, suc, ◌+◌, ◌<◌}
use mathlib.Core.Path.{◌≡◌, sym, ◌∙◌, ap, subst}
use mathlib.Core.Bool.{Bool}
use native.Mathlib.Numerals.{add-one}
use native.Mathlib.Omega.{arith}
use lib.IntN.{ℤ, pos, negsuc, ◌-ℤ◌, +ℤ_idl}
use mir.Syntax.{w32}
use mir.Val.{SFits, to_z, of_z}
use mir.ValLaws.{to_z-of_z}
use mir.Facts.{to_z_pos}
use Rattle.faces.specs.Slots.{face_for}
use Rattle.faces.proofs.inner.face_of.Goals as goal

read : (b : ℕ) → b < 1024 → to_z w32 (b + 1) ≡ pos (suc b)
read b h = to_z_pos w32 (omega arith) ∙ ap pos (add-one b)

minus : (b : ℕ) → b < 1024 → pos 0 -ℤ to_z w32 (b + 1) ≡ negsuc b
minus b h = ap (λ (z : ℤ). pos 0 -ℤ z) (read b h) ∙ +ℤ_idl (negsuc b)

small : (b : ℕ) → b < 1024 → SFits w32 (negsuc b)
small b h = record { sfits = omega arith }

pub overflow_sub-result : goal.overflow_sub-result
overflow_sub-result c = subst (SFits w32) (sym (minus c.args.b c.requires)) (small c.args.b c.requires)

pub returns-then-up : goal.returns-then-up
returns-then-up c = read c.args.b c.requires ∙ sym (ap (λ (t : Bool). face_for t c.args.b) c.if-up.true)

pub returns-else-up : goal.returns-else-up
returns-else-up c =
    ap (λ (z : ℤ). to_z w32 (of_z w32 z)) (minus c.args.b c.requires) ∙ to_z-of_z w32 (negsuc c.args.b) (small c.args.b c.requires)
    ∙ sym (ap (λ (t : Bool). face_for t c.args.b) c.if-up.false)
