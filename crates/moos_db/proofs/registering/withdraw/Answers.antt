use Rattle.std.proofs.Common.{◌≡◌, ◌≤◌, ◌∙◌, Some, ap, false, set, slice_get, subst, sym, arith}
use Rattle.std.proofs.lemmas.List.{set-get_or}
use Rattle.std.proofs.lemmas.Option.{slice_get-get_or}
use Rattle.moos_post.specs.Delivery.{without_patterns}
use Rattle.moos_db.specs.Clients.{ClientState, has_registration}
use Rattle.moos_db.specs.Subscriptions.{AreKeptAs, with_lives}
use Rattle.moos_db.proofs.Withdrawing.{AreKeptAs-none, AreKeptAs-withdrawn, AreStill-withdrawn}
use Rattle.moos_db.proofs.registering.withdraw.Goals as goal

pub returns-then-has-clause-kept : goal.returns-then-has-clause-kept
returns-then-has-clause-kept c = λ inboxes posts held.
    let clients = c.args.clients.now.items in
    let one = c.index_mut-kept.result.now in
    let there : slice_get c.args.clients.now.items c.args.client ≡ Some c.index_mut-kept.result.now
    = slice_get-get_or clients c.args.client one c.requires ∙ ap (λ client. Some client) (sym c.index_mut-kept.ensures.value) in
    subst (λ (client : ClientState). AreKeptAs (with_lives c.args.client (without_patterns c.args.var.now c.args.source.now) inboxes) posts c.withdraw-then-has.new.self (set c.args.clients.now.items c.args.client client)) (sym c.withdraw.ensures.same)
    (AreKeptAs-withdrawn c.args.client c.args.var.now c.args.source.now inboxes posts c.args.variables.now c.withdraw-then-has.new.self clients one c.withdraw.new.self.room there c.withdraw-then-has.ensures held)

pub returns-then-has-clause-still : goal.returns-then-has-clause-still
returns-then-has-clause-still c =
    let clients = c.args.clients.now.items in
    let one = c.index_mut-kept.result.now in
    let there : slice_get c.args.clients.now.items c.args.client ≡ Some c.index_mut-kept.result.now
    = slice_get-get_or clients c.args.client one c.requires ∙ ap (λ client. Some client) (sym c.index_mut-kept.ensures.value) in
    let room : c.index_mut-kept.result.now.room ≤ c.withdraw.new.self.room = c.withdraw.ensures.room in
    let spare : c.withdraw.new.self.spare ≡ c.index_mut-kept.result.now.spare = ap (λ (client : ClientState). client.spare) c.withdraw.ensures.same in
    AreStill-withdrawn c.args.client c.args.var.now c.args.source.now c.args.variables.now c.withdraw-then-has.new.self clients one c.withdraw.new.self there (record { room = omega arith; spare = omega arith }) c.withdraw-then-has.ensures

pub returns-else-has-clause-kept : goal.returns-else-has-clause-kept
returns-else-has-clause-kept c = λ inboxes posts held.
    let clients = c.args.clients.now.items in
    let one = c.index_mut-kept.result.now in
    let there : slice_get c.args.clients.now.items c.args.client ≡ Some c.index_mut-kept.result.now
    = slice_get-get_or clients c.args.client one c.requires ∙ ap (λ client. Some client) (sym c.index_mut-kept.ensures.value) in
    let none : has_registration c.args.var.now c.args.source.now c.index_mut-kept.result.now.lives ≡ false = sym c.has.ensures ∙ c.if-has.false in
    subst (AreKeptAs (with_lives c.args.client (without_patterns c.args.var.now c.args.source.now) inboxes) posts c.args.variables.now)
    (sym (ap (set c.args.clients.now.items c.args.client) c.index_mut-kept.ensures.value ∙ set-get_or clients c.args.client one))
    (AreKeptAs-none c.args.client c.args.var.now c.args.source.now inboxes posts c.args.variables.now clients one there none held)
