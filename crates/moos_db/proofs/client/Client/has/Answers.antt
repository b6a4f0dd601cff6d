use Rattle.std.proofs.Common.{◌∙◌, ap, sym}
use Rattle.std.specs.List.{list_any}
use Rattle.moos_mail.proofs.Lists.{list_any-map}
use Rattle.moos_db.specs.Clients.{has_registration, is_with_patterns}
use Rattle.moos_db.proofs.client.Client.has.Goals as goal

pub returns : goal.returns
returns c =
    c.has_both.ensures
    ∙ ap (λ lives. list_any (λ live. is_with_patterns c.args.var.now c.args.source.now live.value) lives) c.as_slice.ensures.value
    ∙ sym (list_any-map (is_with_patterns c.args.var.now c.args.source.now) (λ live. live.value) c.self.inside.lives.items)
    ∙ ap (λ client. has_registration c.args.var.now c.args.source.now client.lives) c.self.view_is
