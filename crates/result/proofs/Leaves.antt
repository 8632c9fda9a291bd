-- What a set holds after entries are fed in turn, from what the list's rule gives: a worked example then only computes a list. Assumes nothing.
use mathlib.Core.Path.{◌≡◌, ap, ◌∙◌}
use mathlib.Core.Bool.{true}
use mathlib.Core.List.{List, []}
use Prim.Native.Nat.{ℕ, ◌≤◌}
use native.Mathlib.Omega.{arith}
use lib.ListN.{length}
use Rattle.result.specs.Lists.{all_of}
use Rattle.result.specs.Ranked.{Entry, larger, fed_list}
use Rattle.result.specs.Sets.{entries_of, empty_set}
use Rattle.result.specs.Leaves.{Leaves}
use Rattle.result.specs.Sets.{Fed}
use Rattle.result.proofs.Keeps.{held_e, entries_none, empty_k, empty_checked, sound_empty}
use Rattle.result.proofs.Grown.{all_accepted, all_entries, all_checked}

pub leaves : (k : ℕ) (es list : List Entry) → k ≤ 256 → length es ≤ 256 → all_of held_e es ≡ true → fed_list larger k es [] ≡ list → Leaves k es list (length es)
leaves k es list h l a e =
    let c = empty_checked k in
    let n = all_checked (empty_set k) es in
    let r = all_accepted (empty_set k) es (sound_empty k h) a (omega arith) in
    record {
      accepted = ap (λ (f : Fed). f.refusal) r;
      lists = ap (λ (f : Fed). entries_of f.set) r ∙ all_entries (empty_set k) es ∙ (λ i. fed_list larger (empty_k k i) es (entries_none k i)) ∙ e;
      counts = ap (λ (f : Fed). f.set.checked) r ∙ omega arith;
    }
