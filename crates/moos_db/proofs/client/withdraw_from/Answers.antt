use Rattle.std.proofs.Common.{◌∙◌, ap, map, not, rules, sym}
use Rattle.std.proofs.lemmas.Fn.{filter_same}
use Rattle.moos_mail.proofs.Lists.{filter-map}
use Rattle.moos_db.specs.Clients.{is_with_patterns}
use Rattle.moos_db.proofs.client.withdraw_from.Goals as goal

pub returns-clause-left : goal.returns-clause-left
returns-clause-left c =
    ap (map (λ live. live.value)) (filter_same _ (λ live. not (is_with_patterns c.args.var.now c.args.source.now live.value)) _ (λ x b f' k. search rules) _ _ c.retain.ensures.filtered)
    ∙ sym (filter-map (λ live. not (is_with_patterns c.args.var.now c.args.source.now live)) (λ live. live.value) c.args.lives.now.items)
