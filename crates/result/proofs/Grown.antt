-- Sets grown by feeding entries in turn: what they hold, their count, their order, and that the public feed accepts each. Assumes nothing.
use mathlib.Core.Path.{◌≡◌, refl, ap, ◌∙◌}
use mathlib.Core.Bool.{true}
use mathlib.Core.List.{List, [], ◌∷◌}
use Prim.Native.Nat.{ℕ, ◌+◌, ◌≤◌}
use native.Mathlib.Omega.{arith}
use borrow.Author.Tests.{not-true}
use lib.ListN.{length}
use Rattle.paper.proofs.Choice.{and_l, and_r}
use Rattle.result.specs.Lists.{all_of}
use Rattle.result.specs.Ranked.{Entry, larger, fed_list, in_order}
use Rattle.result.specs.Sets.{entries_of, empty_set, fed_set, fed_all, feed_all_of, answer}
use Rattle.result.specs.declared.ResultSet.{ResultSet}
use Rattle.result.proofs.Keeps.{entries_fed, entries_none, fed_k, fed_checked, held_e, Sound, sound_empty, sound_fed, feed_accepts}
use Rattle.result.proofs.Order.{fed_list_order, larger_one_way}

-- feeding n entries raises checked by n, and leaves k
pub all_checked : (s : ResultSet) (es : List Entry) → (fed_all s es).checked ≡ s.checked + length es
all_checked s [] = omega arith
all_checked s (e ∷ es) = all_checked (fed_set s e) es ∙ omega (arith, fed_checked s e)

pub all_k : (s : ResultSet) (es : List Entry) → (fed_all s es).k ≡ s.k
all_k s [] = refl
all_k s (e ∷ es) = all_k (fed_set s e) es ∙ fed_k s e

-- what it then holds is the list fed by the rule
pub all_entries : (s : ResultSet) (es : List Entry) → entries_of (fed_all s es) ≡ fed_list larger s.k es (entries_of s)
all_entries s [] = refl
all_entries s (e ∷ es) = all_entries (fed_set s e) es ∙ (λ i. fed_list larger (fed_k s e i) es (entries_fed s e i))

-- a set grown from empty is in order: its scores never rise along the list
pub grown_order : (k : ℕ) (es : List Entry) → in_order larger (entries_of (fed_all (empty_set k) es)) ≡ true
unfolding in_order
grown_order k es =
    ap (in_order larger) (all_entries (empty_set k) es ∙ ap (λ (r : List Entry). fed_list larger (empty_set k).k es r) (entries_none k))
    ∙ fed_list_order larger larger_one_way (empty_set k).k es [] refl

-- and well formed, if no score is NaN
pub all_sound : (s : ResultSet) (es : List Entry) → Sound s → all_of held_e es ≡ true → Sound (fed_all s es)
all_sound s [] h a = h
all_sound s (e ∷ es) h a = all_sound (fed_set s e) es (sound_fed s e h (not-true _ (and_l (held_e e) _ a))) (and_r (held_e e) _ a)

pub grown_sound : (k : ℕ) (es : List Entry) → k ≤ 256 → all_of held_e es ≡ true → Sound (fed_all (empty_set k) es)
grown_sound k es h a = all_sound (empty_set k) es (sound_empty k h) a

-- the public feed accepts each of them, unless the count would run over
pub all_accepted : (s : ResultSet) (es : List Entry) → Sound s → all_of held_e es ≡ true → s.checked + length es ≤ 4294967295
    → feed_all_of s es ≡ answer 0 (fed_all s es)
all_accepted s [] h a c = refl
all_accepted s (e ∷ es) h a c =
    let n = not-true _ (and_l (held_e e) _ a) in
    let f = feed_accepts s e.key e.sim h.formed n (omega arith) in
    let r = fed_checked s e in
    rw f (all_accepted (fed_set s e) es (sound_fed s e h n) (and_r (held_e e) _ a) (omega arith))
