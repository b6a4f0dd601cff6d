use Rattle.std.proofs.Common.{◌≡◌, ◌∙◌, ◌≤◌, ◌+◌, ap, set, slice_get, Some, subst, sym}
use Rattle.std.proofs.lemmas.List.{set-get_or}
use Rattle.std.proofs.lemmas.Option.{get_or_from_slice_get, same_Some, slice_get-get_or}
use Rattle.moos_mail.proofs.Lists.{found-below}
use Rattle.moos_post.specs.History.{posts_of}
use Rattle.moos_db.specs.Clients.{ClientState}
use Rattle.moos_db.specs.Subscriptions.{AreKeptAs, mailed_if, with_inbox}
use Rattle.moos_db.specs.Registering.{catch_number}
use Rattle.moos_db.proofs.Caught.{catch-mailed, catch-noted, catch-one}
use Rattle.moos_db.proofs.Changes.{set-at}
use Rattle.moos_db.proofs.registering.catch_one.Goals as goal

pub returns-then-was_mailed-clause-kept : goal.returns-then-was_mailed-clause-kept
returns-then-was_mailed-clause-kept c =
    λ inboxes at are.
    catch-mailed c.args.names.now (posts_of c.args.log.now.entries) c.args.client c.args.number c.args.variables.now c.args.clients.now.items c.requires.within c.requires.below c.requires.latest c.requires.noted
    (λ place variable noted there. sym (c.was_mailed.ensures place variable noted there) ∙ c.if-was_mailed.true) inboxes are

pub mail-requires : goal.mail-requires
mail-requires c =
    let states = c.args.clients.now.items in
    let one : ClientState = c.index_mut.result.now in
    c.requires.room one (slice_get-get_or states c.args.client one c.requires.within ∙ ap (λ x. Some x) (sym c.index_mut.ensures.value))

pub returns-then-catch_up-clause-kept : goal.returns-then-catch_up-clause-kept
returns-then-catch_up-clause-kept c =
    let states = c.args.clients.now.items in
    let client = c.args.client in
    let number = c.args.number in
    let one : ClientState = c.index_mut.result.now in
    let other : ClientState = c.mail.new.self in
    let here : slice_get states client ≡ Some one = slice_get-get_or states client one c.requires.within ∙ ap (λ x. Some x) (sym c.index_mut.ensures.value) in
    catch-one c.args.names.now (posts_of c.args.log.now.entries) client c.args.made number c.catch_up.result c.args.variables.now c.catch_up.new.self c.origin-origin.result c.source_of-source.result.now
    c.requires.below c.origin-origin.ensures c.source_of-source.ensures c.requires.noted c.catch_up.ensures c.requires.latest
    (λ place variable noted there. sym (c.was_mailed.ensures place variable noted there) ∙ c.if-was_mailed.false) states one other here
    (c.mail.ensures.mailed ∙ ap (λ b. record (mailed_if b number one) { spare = other.spare }) (sym c.if-catch_up.true))

pub returns-then-catch_up-clause-noted : goal.returns-then-catch_up-clause-noted
returns-then-catch_up-clause-noted c =
    catch-noted c.args.names.now (posts_of c.args.log.now.entries) c.args.client c.args.made c.args.number c.catch_up.result c.args.variables.now c.catch_up.new.self c.origin-origin.result c.source_of-source.result.now
    c.requires.below c.origin-origin.ensures c.source_of-source.ensures c.requires.noted c.catch_up.ensures

pub returns-then-catch_up-clause-room : goal.returns-then-catch_up-clause-room
returns-then-catch_up-clause-room c =
    let states = c.args.clients.now.items in
    let client = c.args.client in
    let had : ClientState = c.index_mut.result.now in
    let now : ClientState = c.mail.new.self in
    λ one other was is.
    let first : had ≡ one = same_Some had one (sym (slice_get-get_or states client had c.requires.within ∙ ap (λ x. Some x) (sym c.index_mut.ensures.value)) ∙ was) in
    let last : now ≡ other = same_Some now other (sym (set-at states client now c.requires.within) ∙ is) in
    subst (λ (x : ClientState). one.spare ≤ x.spare + 1) last (subst (λ (x : ClientState). x.spare ≤ now.spare + 1) first c.mail.ensures.room)

pub returns-else-catch_up-clause-kept : goal.returns-else-catch_up-clause-kept
returns-else-catch_up-clause-kept c =
    let states = c.args.clients.now.items in
    let client = c.args.client in
    let number = c.args.number in
    let posts = posts_of c.args.log.now.entries in
    let one : (x : ClientState) × (slice_get states client ≡ Some x) = found-below states client c.requires.within in
    λ inboxes at are.
    subst (AreKeptAs (with_inbox client (λ one. catch_number c.args.names.now posts one number) inboxes) posts c.catch_up.new.self)
    (ap (set states client) (sym (get_or_from_slice_get states client one.0 one.0 one.1)) ∙ set-get_or states client one.0)
    (catch-one c.args.names.now posts client c.args.made number c.catch_up.result c.args.variables.now c.catch_up.new.self c.origin-origin.result c.source_of-source.result.now
    c.requires.below c.origin-origin.ensures c.source_of-source.ensures c.requires.noted c.catch_up.ensures c.requires.latest
    (λ place variable noted there. sym (c.was_mailed.ensures place variable noted there) ∙ c.if-was_mailed.false) states one.0 one.0 one.1
    (ap (λ b. record (mailed_if b number one.0) { spare = one.0.spare }) (sym c.if-catch_up.false)) inboxes at are)

pub returns-else-catch_up-clause-noted : goal.returns-else-catch_up-clause-noted
returns-else-catch_up-clause-noted c =
    catch-noted c.args.names.now (posts_of c.args.log.now.entries) c.args.client c.args.made c.args.number c.catch_up.result c.args.variables.now c.catch_up.new.self c.origin-origin.result c.source_of-source.result.now
    c.requires.below c.origin-origin.ensures c.source_of-source.ensures c.requires.noted c.catch_up.ensures
