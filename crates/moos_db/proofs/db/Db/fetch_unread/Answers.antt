use Rattle.std.proofs.Common.{◌≡◌, ◌<◌, ◌∙◌, Some, ap, length, rules, slice_get, sym}
use Rattle.std.proofs.lemmas.Option.{slice_get-get_or}
use Rattle.moos_db.proofs.Whole.{IsDb-equal, IsDb-fetch, IsDb-spare}
use Rattle.moos_db.proofs.db.Db.fetch_unread.Goals as goal

pub invariant_of-self : goal.invariant_of-self
invariant_of-self c =
    let parts = c.deref_mut-parts.result.now in
    let one = c.index_mut.result.now in
    let within : c.args.client < length c.deref_mut-parts.result.now.clients.items = search rules in
    let there : slice_get c.deref_mut-parts.result.now.clients.items c.args.client ≡ Some c.index_mut.result.now
    = slice_get-get_or parts.clients.items c.args.client one within ∙ ap (λ client. Some client) (sym c.index_mut.ensures.value) in
    IsDb-spare parts.names parts.log c.fetch_unread.new.log parts.variables parts.clients.items c.args.client one c.fetch_unread.new.client there c.in_err-fetch_unread.ensures.same c.in_err-fetch_unread.ensures.waiting
    (IsDb-equal _ _ c.deref_mut-parts.ensures.value c.self.invariant)

pub invariant_of-self-2 : goal.invariant_of-self-2
invariant_of-self-2 c =
    let parts = c.deref_mut-parts.result.now in
    let one = c.index_mut.result.now in
    let within : c.args.client < length c.deref_mut-parts.result.now.clients.items = search rules in
    let there : slice_get c.deref_mut-parts.result.now.clients.items c.args.client ≡ Some c.index_mut.result.now
    = slice_get-get_or parts.clients.items c.args.client one within ∙ ap (λ client. Some client) (sym c.index_mut.ensures.value) in
    IsDb-fetch parts.names parts.log c.fetch_unread.new.log parts.variables parts.clients.items c.args.stamp c.args.client one c.fetch_unread.new.client there c.in_ok-fetch_unread.ensures.ok c.in_ok-fetch_unread.ensures.given
    (IsDb-equal _ _ c.deref_mut-parts.ensures.value c.self.invariant)
