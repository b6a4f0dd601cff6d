use Rattle.std.proofs.Common.{rules, ◌≡◌, ap, sym, ◌∙◌}
use Rattle.std.specs.Prelude.{position, Some}
use Rattle.contact_avoid.specs.Kept.{is_named_as, learnt_in_place}
use Rattle.contact_avoid.proofs.contacts.learn.Goals as goal

pub returns-in-Some-clause-ok : goal.returns-in-Some-clause-ok
returns-in-Some-clause-ok c =
    let found : position (is_named_as c.args.report.name) c.args.known.now.items ≡ Some c.in-Some.place = search rules in
    c.renew.ensures ∙ ap (learnt_in_place c.args.report c.args.known.now.items) (sym found)
