use Rattle.std.proofs.Common.{◌≡◌, refl, true, false, arith, rules}
use Rattle.steps.specs.Steps.{held}
use Rattle.session.specs.Runs.{is_stop, is_read}
use Rattle.console.proofs.Turns.{cut, stops, dry, goes, reads}
use Rattle.console.proofs.turn.Goals.{then-not-print-via-then-not-print, then-not-print-via-else-not-print+then-eq}
use Rattle.console.proofs.turn.Goals as goal

pub returns-then-not-print : goal.returns-then-not-print
returns-then-not-print c = elim c.then-not-print.branch [
  | then-not-print-via-then-not-print w ↦ cut c.args.place.from c.args.place.end c.args.input.now (held c.args.place.store) c.args.out.now _ c.feed_part-ran.ensures.2 _
  | then-not-print-via-else-not-print+then-eq w ↦
      let s : is_stop c.feed_part-ran.result.next ≡ true = search rules in
      stops c.args.place.from c.args.place.end c.args.input.now (held c.args.place.store) c.args.out.now _ c.feed_part-ran.ensures.2 _ s
]

pub returns-then-eq-2 : goal.returns-then-eq-2
returns-then-eq-2 c =
    let s : is_stop c.feed_part-ran.result.next ≡ false = search rules in
    let r : is_read c.feed_part-ran.result.next ≡ false = search rules in
    goes c.args.place.from c.args.place.end c.args.input.now (held c.args.place.store) c.args.out.now _ c.feed_part-ran.ensures.2 _ s r refl refl refl (omega arith) (omega arith)

pub returns-in_default : goal.returns-in_default
returns-in_default c =
    let s : is_stop c.feed_part-ran.result.next ≡ false = search rules in
    let r : is_read c.feed_part-ran.result.next ≡ true = search rules in
    dry c.args.place.from c.args.place.end c.args.input.now (held c.args.place.store) c.args.out.now _ c.feed_part-ran.ensures.2 _ s r

pub returns : goal.returns
returns c =
    let s : is_stop c.feed_part-ran.result.next ≡ false = search rules in
    let r : is_read c.feed_part-ran.result.next ≡ true = search rules in
    reads c.args.place.from c.args.place.end c.args.input.now (held c.args.place.store) c.args.out.now _ c.feed_part-ran.ensures.2 _ _ _ s r refl refl refl c.in-Some.ensures.ends.0 (omega (arith, c.in-Some.ensures.ends)) c.refill.ensures.stays
