use Rattle.std.proofs.Common.{◌≡◌, ◌<◌, ◌∙◌, Some, ap, length, rules, slice_get, subst, sym}
use Rattle.std.specs.List.{All}
use Rattle.std.proofs.lemmas.Option.{slice_get-get_or}
use Rattle.moos_post.specs.Delivery.{mail_after}
use Rattle.moos_post.specs.History.{posts_of}
use Rattle.moos_db.specs.declared.db.Parts.{Parts}
use Rattle.moos_db.specs.Database.{AreLetters, Database}
use Rattle.moos_db.proofs.AfterCalls.{AreKept-mail}
use Rattle.moos_db.proofs.Growth.{mail-below}
use Rattle.moos_db.proofs.Whole.{IsDb-equal, IsDb-fetch, IsDb-spare}
use Rattle.moos_db.proofs.db.Db.fetch.Goals as goal

pub invariant_of-self : goal.invariant_of-self
invariant_of-self c =
    let parts = c.deref_mut-parts.result.now in
    let one = c.index_mut.result.now in
    let within : c.args.client < length c.deref_mut-parts.result.now.clients.items = search rules in
    let there : slice_get c.deref_mut-parts.result.now.clients.items c.args.client ≡ Some c.index_mut.result.now
    = slice_get-get_or parts.clients.items c.args.client one within ∙ ap (λ client. Some client) (sym c.index_mut.ensures.value) in
    IsDb-spare parts.names parts.log c.fetch.new.log parts.variables parts.clients.items c.args.client one c.fetch.new.client there c.in_err-mail.ensures.same c.in_err-mail.ensures.waiting
    (IsDb-equal _ _ c.deref_mut-parts.ensures.value c.self.invariant)

pub invariant_of-self-2 : goal.invariant_of-self-2
invariant_of-self-2 c =
    let parts = c.deref_mut-parts.result.now in
    let one = c.index_mut.result.now in
    let within : c.args.client < length c.deref_mut-parts.result.now.clients.items = search rules in
    let there : slice_get c.deref_mut-parts.result.now.clients.items c.args.client ≡ Some c.index_mut.result.now
    = slice_get-get_or parts.clients.items c.args.client one within ∙ ap (λ client. Some client) (sym c.index_mut.ensures.value) in
    IsDb-fetch parts.names parts.log c.fetch.new.log parts.variables parts.clients.items c.args.stamp c.args.client one c.fetch.new.client there c.in_ok-mail.ensures.ok c.in_ok-mail.ensures.given
    (IsDb-equal _ _ c.deref_mut-parts.ensures.value c.self.invariant)

pub fetch-requires-clause-within : goal.fetch-requires-clause-within
fetch-requires-clause-within c =
    let parts = c.deref_mut-parts.result.now in
    let one = c.index_mut.result.now in
    let within : c.args.client < length c.deref_mut-parts.result.now.clients.items = search rules in
    let there : slice_get c.deref_mut-parts.result.now.clients.items c.args.client ≡ Some c.index_mut.result.now
    = slice_get-get_or parts.clients.items c.args.client one within ∙ ap (λ client. Some client) (sym c.index_mut.ensures.value) in
    let db = IsDb-equal _ _ c.deref_mut-parts.ensures.value c.self.invariant in
    subst (All (λ number. number < length (posts_of c.deref_mut-parts.result.now.log.entries))) (sym (AreKept-mail parts.names parts.log.entries c.args.client parts.variables parts.clients.items one there db.kept))
    (mail-below parts.names parts.log.entries c.args.client)

pub returns-clause-mail : goal.returns-clause-mail
returns-clause-mail c =
    let parts = c.deref_mut-parts.result.now in
    let one = c.index_mut.result.now in
    let within : c.args.client < length c.deref_mut-parts.result.now.clients.items = search rules in
    let there : slice_get c.deref_mut-parts.result.now.clients.items c.args.client ≡ Some c.index_mut.result.now
    = slice_get-get_or parts.clients.items c.args.client one within ∙ ap (λ client. Some client) (sym c.index_mut.ensures.value) in
    let db = IsDb-equal _ _ c.deref_mut-parts.ensures.value c.self.invariant in
    subst (λ (db : Database). AreLetters (posts_of db.history) (mail_after db.names c.args.client db.history) c.in_ok-mail.mail) c.self.view_is
    (subst (λ (p : Parts). AreLetters (posts_of p.log.entries) (mail_after p.names c.args.client p.log.entries) c.in_ok-mail.mail) c.deref_mut-parts.ensures.value
    (subst (λ numbers. AreLetters (posts_of c.deref_mut-parts.result.now.log.entries) numbers c.in_ok-mail.mail) (AreKept-mail parts.names parts.log.entries c.args.client parts.variables parts.clients.items one there db.kept)
    c.in_ok-mail.ensures.mail))
