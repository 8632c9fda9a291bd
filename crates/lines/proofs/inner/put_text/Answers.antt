use mathlib.Core.Path.{refl, ◌∙◌}
use Prim.Native.Nat.{◌+◌, ◌-◌}
use native.Mathlib.Omega.{arith}
use lib.ListN.{length}
use Rattle.std.proofs.lemmas.Slice.{put_mid-paste}
use Rattle.lines.proofs.Texts.{pasted}
use Rattle.lines.proofs.inner.put_text.Goals as goal

pub returns : goal.returns
returns c =
    let at = c.args.at in
    let n = length c.args.text.now in
    record {
      next = refl;
      stored = put_mid-paste at (at + n - at) c.args.out.now _ c.args.text.now n c.copy_from_slice.ensures.after (omega arith) refl ∙ pasted c.args.out.now c.args.text.now at n refl (omega arith);
    }
