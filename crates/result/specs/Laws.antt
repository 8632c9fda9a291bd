-- The laws of ranked lists and of result sets, which `laws` claims. The first are over any comparison, with what each asks of it.
use Rattle.std.specs.Prelude.{ℕ, ◌+◌, ◌<◌, ◌≤◌, min, Bool, true, false, ◌≡◌, List, [], Float, Result, length, get_or}
use Rattle.std.specs.Float.Ieee.{lt, is_nan}
use Rattle.result.specs.Lists.{all_of, Each}
use Rattle.result.specs.Ranked.{Entry, held_e, larger, stays, fed, fed_list, in_order, Apart, Outcome, OneWay, Through}
use Rattle.result.specs.Places.{full_above}
use Rattle.result.specs.Sets.{well_formed, Sound, entries_of, empty_set, fed_set, fed_all, feed_all_of, answer}
use Rattle.result.specs.Recalls.{told_by}
use Rattle.result.specs.declared.ResultSet.{ResultSet}
use Rattle.paper.specs.declared.Refusal.{Refusal}

pub record Laws : Type 0 where
  -- ---- lists, over any comparison
  -- feeding keeps a list in order
  pub fed_order : (before : Float → Float → Bool) → OneWay before → (k : ℕ) (e : Entry) (es : List Entry)
      → in_order before es ≡ true → in_order before (fed before k e es) ≡ true
  -- a fed list is no shorter than before, and no longer than k
  pub fed_long : (before : Float → Float → Bool) (k : ℕ) (e : Entry) (es : List Entry) → length es ≤ k
      → (length es ≤ length (fed before k e es)) × (length (fed before k e es) ≤ k)
  -- what a full list is closed to, it stays closed to: its last score never gets worse
  pub fed_closed : (before : Float → Float → Bool) → OneWay before → Through before → (k : ℕ) (x e : Entry) (es : List Entry)
      → held_e e ≡ true → in_order before es ≡ true → all_of held_e es ≡ true → stays before k x es ≡ true → stays before k x (fed before k e es) ≡ true
  -- in a list that is in order no later score goes before an earlier one, however far apart they stand
  pub sorted : (before : Float → Float → Bool) → Through before → (d : Entry) (es : List Entry) (i j : ℕ)
      → in_order before es ≡ true → all_of held_e es ≡ true → i < j → j < length es → before (get_or es j d).sim (get_or es i d).sim ≡ false
  -- entries of different ids that are fed to an empty list leave as many as they are, and at most k
  pub fed_list_long : (before : Float → Float → Bool) (k : ℕ) (xs : List Entry) → Apart xs → length (fed_list before k xs []) ≡ min k (length xs)
  -- none of them is left out but of a full list, and then its score goes before no listed one
  pub fed_list_best : (before : Float → Float → Bool) → OneWay before → Through before → (k : ℕ) (xs : List Entry)
      → all_of held_e xs ≡ true → Apart xs → Each (Outcome before k (fed_list before k xs [])) xs
  -- ---- the rule in use, the larger score first, is such a comparison
  pub larger_one_way : OneWay larger
  pub larger_through : Through larger
  -- ---- sets, by the rule in use
  -- what a set holds after a feed is the list that the rule leaves
  pub entries_fed : (s : ResultSet) (e : Entry) → entries_of (fed_set s e) ≡ fed larger s.k e (entries_of s)
  -- the same for entries in turn
  pub all_entries : (s : ResultSet) (es : List Entry) → entries_of (fed_all s es) ≡ fed_list larger s.k es (entries_of s)
  -- each feed adds 1 to checked
  pub all_checked : (s : ResultSet) (es : List Entry) → (fed_all s es).checked ≡ s.checked + length es
  -- a well formed set stays so
  pub keeps : (s : ResultSet) (e : Entry) → s.len ≤ length s.ids → s.len ≤ length s.sims → is_nan e.sim ≡ false
      → well_formed s ≡ true → well_formed (fed_set s e) ≡ true
  -- so the public call accepts every entry whose score is no NaN, unless the count would run over
  pub all_accepted : (s : ResultSet) (es : List Entry) → Sound s → all_of held_e es ≡ true → s.checked + length es ≤ 4294967295
      → feed_all_of s es ≡ answer 0 (fed_all s es)
  -- a set grown from empty is well formed,
  pub grown_sound : (k : ℕ) (es : List Entry) → k ≤ 256 → all_of held_e es ≡ true → Sound (fed_all (empty_set k) es)
  -- and sorted: no later score is larger than an earlier one
  pub grown_sorted : (k : ℕ) (es : List Entry) (d : Entry) (i j : ℕ) → all_of held_e es ≡ true → i < j → j < length (entries_of (fed_all (empty_set k) es))
      → lt (get_or (entries_of (fed_all (empty_set k) es)) i d).sim (get_or (entries_of (fed_all (empty_set k) es)) j d).sim ≡ false
  -- a set that is closed to a score x (full, its last score above x) is closed to it after any feed
  pub closed_stays : (s : ResultSet) (e : Entry) (x : Float) → Sound s → in_order larger (entries_of s) ≡ true → is_nan e.sim ≡ false
      → full_above s.len s.k s.sims x ≡ true → full_above (fed_set s e).len (fed_set s e).k (fed_set s e).sims x ≡ true
  -- ---- recall
  -- two recalls that tell the same number and share are the same answer
  pub told_apart : (a b : Result Float Refusal) → told_by a ≡ told_by b → a ≡ b
