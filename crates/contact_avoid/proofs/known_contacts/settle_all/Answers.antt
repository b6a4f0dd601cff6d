use Rattle.std.proofs.Common.{◌∙◌, ◌<◌, List, ap, arith, length, slice_set}
use Rattle.std.proofs.lemmas.List.Edits.{map_over_more}
use Rattle.contact_avoid.specs.declared.contact.Contact.{Contact}
use Rattle.contact_avoid.specs.Kept.{settled}
use Rattle.contact_avoid.proofs.known_contacts.settle_all.Goals as goal

pub loop-k-preserved : goal.loop-k-preserved
loop-k-preserved c =
    let old : List Contact = c.args.contacts.now.items in
    let k = c.loop-k.k in
    let one : Contact = c.index_mut.result.now in
    let below : k < length old = omega (arith, c.loop-k-test.true) in
    record {
      settled = ap (slice_set c.loop-k.contacts.items k) c.settle.ensures ∙ map_over_more (settled c.args.ranges c.args.own) old c.loop-k.contacts.items k one below c.loop-k.invariant.settled c.index_mut.ensures.value;
      len = c.loop-k.invariant.len;
    }
