use Rattle.std.proofs.Common.{◌∙◌, ap, map, refl}
use Rattle.std.specs.List.{flat_map}
use Rattle.contact_avoid.specs.Kept.{heard_all, posts_from, settled, KnownContactsState}
use Rattle.contact_avoid.specs.Standing.{pairs_said}
use Rattle.contact_avoid.proofs.Turning.{turned}
use Rattle.contact_avoid.proofs.manager.Manager.turn.Goals as goal

pub returns-clause-turned : goal.returns-clause-turned
returns-clause-turned c =
    let old = c.args.self.now in
    let mail = c.args.mail.now in
    let fresh : KnownContactsState = c.hear_all.new.self in
    let here = c.own-own.ensures.value in
    turned mail c.in_ok-batch.batch old (record { ranges = old.ranges; known_contacts = c.settle.new.self }) fresh
    (record {
      fresh_is = c.in_ok-hear_all.ensures ∙ (λ i. heard_all (c.in_ok-fresh.ensures i) (pairs_said (c.all.ensures i)));
      batch_is = c.in_ok-batch.ensures ∙ ap (λ own. flat_map (posts_from old.ranges own) fresh.contacts) here;
      ranges = refl;
      x = c.settle.ensures.x;
      y = c.settle.ensures.y;
      contacts = c.settle.ensures.contacts ∙ ap (λ own. map (settled old.ranges own) fresh.contacts) here;
    })
