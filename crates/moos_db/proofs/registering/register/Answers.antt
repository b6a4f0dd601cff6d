use Rattle.std.proofs.Common.{◌≡◌, ◌∙◌, ◌<◌, ◌≤◌, ◌∷◌, ◌++◌, ℕ, List, [], ap, arith, fold, length, map, refl, rules, slice_get, slice_set, Some, subst, sym}
use Rattle.std.specs.List.{All, Contains}
use Rattle.std.proofs.lemmas.Option.{same_Some, slice_get-get_or}
use Rattle.moos_post.specs.declared.entry.Call.TheVariants.{Register}
use Rattle.moos_post.specs.declared.entry.Entry.{Entry}
use Rattle.moos_post.specs.declared.value.Post.{Post}
use Rattle.moos_post.specs.Delivery.{Inbox}
use Rattle.moos_post.specs.History.{History, posts_of}
use Rattle.moos_db.specs.Clients.{ClientState}
use Rattle.moos_db.specs.Subscriptions.{AreKeptAs, AreNoted, VariableState, with_inbox, with_lives}
use Rattle.moos_db.specs.Places.{AreKept, inboxes_after, LogState}
use Rattle.moos_db.specs.Registering.{IsLatestPost, IsStill, PreparedState, StandsAt, catch_number, latest_prepared, variable_names, prepared_of, with_prepared}
use Rattle.moos_db.proofs.AfterCalls.{AreKept-room, no-posts}
use Rattle.moos_db.proofs.AfterRegistering.{roomier-names}
use Rattle.moos_db.proofs.Changes.{AreNoted-names, names-each, set-at}
use Rattle.moos_db.proofs.Registered.{AreKept-register, AreKept-roomier, all-ready, latest-below, latest-posts, stands-next}
use Rattle.moos_db.proofs.registering.register.Goals as goal

pub returns-in_err-all-clause-kept : goal.returns-in_err-all-clause-kept
returns-in_err-all-clause-kept c =
    AreKept-roomier c.args.names.now c.args.log.now.entries c.args.variables.now c.prepare_all.new.variables c.args.clients.now.items c.prepare_all.ensures.roomier c.requires.kept

pub returns-in_err-latest-clause-kept : goal.returns-in_err-latest-clause-kept
returns-in_err-latest-clause-kept c =
    AreKept-roomier c.args.names.now c.args.log.now.entries c.args.variables.now c.prepare_all.new.variables c.args.clients.now.items c.prepare_all.ensures.roomier c.requires.kept

pub returns-in_err-make_room-clause-kept : goal.returns-in_err-make_room-clause-kept
returns-in_err-make_room-clause-kept c =
    let states = c.args.clients.now.items in
    let one : ClientState = c.index_mut.result.now in
    let below : c.args.client < length states = omega (arith, c.requires.within, c.requires.kept.each) in
    let here : slice_get states c.args.client ≡ Some one = slice_get-get_or states c.args.client one below ∙ ap (λ x. Some x) (sym c.index_mut.ensures.value) in
    AreKept-room c.args.names.now c.args.log.now.entries c.args.client c.prepare_all.new.variables states one c.make_room.new.kept here c.make_room.ensures.same
    (AreKept-roomier c.args.names.now c.args.log.now.entries c.args.variables.now c.prepare_all.new.variables states c.prepare_all.ensures.roomier c.requires.kept)

pub returns-in_err-append-clause-kept : goal.returns-in_err-append-clause-kept
returns-in_err-append-clause-kept c =
    let states = c.args.clients.now.items in
    let one : ClientState = c.index_mut.result.now in
    let below : c.args.client < length states = omega (arith, c.requires.within, c.requires.kept.each) in
    let here : slice_get states c.args.client ≡ Some one = slice_get-get_or states c.args.client one below ∙ ap (λ x. Some x) (sym c.index_mut.ensures.value) in
    subst (λ (log : LogState). AreKept c.args.names.now log.entries c.prepare_all.new.variables (slice_set states c.args.client c.make_room.new.kept)) (sym c.in_err-append.ensures.same)
    (AreKept-room c.args.names.now c.args.log.now.entries c.args.client c.prepare_all.new.variables states one c.make_room.new.kept here c.make_room.ensures.same
    (AreKept-roomier c.args.names.now c.args.log.now.entries c.args.variables.now c.prepare_all.new.variables states c.prepare_all.ensures.roomier c.requires.kept))

pub make_all-requires-clause-ready : goal.make_all-requires-clause-ready
make_all-requires-clause-ready c =
    all-ready c.args.client c.len-made.result c.args.variables.now.all c.prepare_all.new.variables.all c.all.result.now c.in_ok-all.all.items c.in_ok-all.ensures.each c.prepare_all.ensures.roomier.all c.in_ok-all.ensures.room

pub make_all-requires-clause-room : goal.make_all-requires-clause-room
make_all-requires-clause-room c =
    let states = c.args.clients.now.items in
    let new : ClientState = c.make_room.new.kept in
    let below : c.args.client < length states = omega (arith, c.requires.within, c.requires.kept.each) in
    λ kept there.
    subst (λ (state : ClientState). length c.in_ok-all.all.items ≤ state.room) (same_Some new kept (sym (set-at states c.args.client new below) ∙ there))
    (omega (arith, c.in_ok-make_room.ensures.regs))

pub catch_up-requires-clause-below : goal.catch_up-requires-clause-below
catch_up-requires-clause-below c =
    let entries = c.args.log.now.entries in
    let entry : Entry = record { stamp = c.args.stamp; client = c.args.client; call = Register c.args.regs } in
    let added : c.append.new.self.entries ≡ entries ++ entry ∷ [] = search rules in
    let posts : posts_of c.append.new.self.entries ≡ posts_of entries = ap posts_of added ∙ no-posts entries entry refl in
    let ready : AreKept c.args.names.now entries c.prepare_all.new.variables c.args.clients.now.items
    = AreKept-roomier c.args.names.now entries c.args.variables.now c.prepare_all.new.variables c.args.clients.now.items c.prepare_all.ensures.roomier c.requires.kept in
    let all : List PreparedState = c.as_slice.result.now in
    subst (λ list. All (λ number. number < length list) c.as_slice-2.result.now) (sym posts)
    (subst (All (λ number. number < length (posts_of entries))) (sym c.as_slice-2.ensures.value)
    (latest-below (posts_of entries) c.prepare_all.new.variables.all all c.in_ok-latest.latest.items ready.kept.heard.latest c.in_ok-latest.ensures.only))

pub catch_up-requires-clause-latest : goal.catch_up-requires-clause-latest
catch_up-requires-clause-latest c =
    let entries = c.args.log.now.entries in
    let entry : Entry = record { stamp = c.args.stamp; client = c.args.client; call = Register c.args.regs } in
    let added : c.append.new.self.entries ≡ entries ++ entry ∷ [] = search rules in
    let posts : posts_of c.append.new.self.entries ≡ posts_of entries = ap posts_of added ∙ no-posts entries entry refl in
    let ready : AreKept c.args.names.now entries c.prepare_all.new.variables c.args.clients.now.items
    = AreKept-roomier c.args.names.now entries c.args.variables.now c.prepare_all.new.variables c.args.clients.now.items c.prepare_all.ensures.roomier c.requires.kept in
    subst (λ list. All (IsLatestPost list) c.as_slice-2.result.now) (sym posts)
    (subst (All (IsLatestPost (posts_of entries))) (sym c.as_slice-2.ensures.value)
    (latest-posts (posts_of entries) c.prepare_all.new.variables.all c.as_slice.result.now c.in_ok-latest.latest.items ready.kept.heard.latest c.in_ok-latest.ensures.only))

pub catch_up-requires-clause-noted : goal.catch_up-requires-clause-noted
catch_up-requires-clause-noted c =
    let entries = c.args.log.now.entries in
    let entry : Entry = record { stamp = c.args.stamp; client = c.args.client; call = Register c.args.regs } in
    let added : c.append.new.self.entries ≡ entries ++ entry ∷ [] = search rules in
    let posts : posts_of c.append.new.self.entries ≡ posts_of entries = ap posts_of added ∙ no-posts entries entry refl in
    let ready : AreKept c.args.names.now entries c.prepare_all.new.variables c.args.clients.now.items
    = AreKept-roomier c.args.names.now entries c.args.variables.now c.prepare_all.new.variables c.args.clients.now.items c.prepare_all.ensures.roomier c.requires.kept in
    let still = IsStill (length c.in_ok-all.all.items) in
    subst (λ list. AreNoted (map (λ (post : Post). post.var) list) c.make_all.new.variables) (sym posts)
    (AreNoted-names (map (λ (post : Post). post.var) (posts_of entries)) c.prepare_all.new.variables c.make_all.new.variables
    (names-each still c.prepare_all.new.variables.all c.make_all.new.variables.all (λ one other is. ap (λ (v : VariableState). v.name) is.same) c.make_all.ensures.still.variables)
    c.make_all.ensures.noted ready.noted)

pub catch_up-requires-clause-room : goal.catch_up-requires-clause-room
catch_up-requires-clause-room c =
    let states = c.args.clients.now.items in
    let new : ClientState = c.make_room.new.kept in
    let below : c.args.client < length states = omega (arith, c.requires.within, c.requires.kept.each) in
    λ kept there.
    let h = (c.make_all.ensures.still.clients.same c.args.client new kept (set-at states c.args.client new below) there).spare in
    omega (arith, c.in_ok-make_room.ensures.letters, h)

pub returns-clause-kept : goal.returns-clause-kept
returns-clause-kept c =
    let names = c.args.names.now in
    let entries = c.args.log.now.entries in
    let client = c.args.client in
    let entry : Entry = record { stamp = c.args.stamp; client = client; call = Register c.args.regs } in
    let added : c.append.new.self.entries ≡ entries ++ entry ∷ [] = search rules in
    let posts : posts_of c.append.new.self.entries ≡ posts_of entries = ap posts_of added ∙ no-posts entries entry refl in
    let states = c.args.clients.now.items in
    let one : ClientState = c.index_mut.result.now in
    let below : client < length states = omega (arith, c.requires.within, c.requires.kept.each) in
    let here : slice_get states client ≡ Some one = slice_get-get_or states client one below ∙ ap (λ x. Some x) (sym c.index_mut.ensures.value) in
    let variables = c.prepare_all.new.variables in
    let roomy = slice_set states client c.make_room.new.kept in
    let ready : AreKept names entries variables roomy
    = AreKept-room names entries client variables states one c.make_room.new.kept here c.make_room.ensures.same
    (AreKept-roomier names entries c.args.variables.now variables states c.prepare_all.ensures.roomier c.requires.kept) in
    let all : List PreparedState = c.in_ok-all.all.items in
    let latest : List ℕ = c.in_ok-latest.latest.items in
    let others = c.catch_up.new.clients.items in
    let more = c.catch_up.new.variables in
    let inboxes : ℕ → Inbox = inboxes_after names entries in
    let now : ℕ → Inbox = with_lives client (λ lives. fold with_prepared lives all) inboxes in
    let at : StandsAt c.len-made.result (now client) = subst (λ n. StandsAt n (now client)) (sym c.len-made.ensures.value) (stands-next names entries client (λ lives. fold with_prepared lives all)) in
    let held : AreKeptAs (with_inbox client (λ one. fold (catch_number names (posts_of entries)) one latest) now) (posts_of entries) more others
    = subst (λ list. AreKeptAs (with_inbox client (λ one. fold (catch_number names (posts_of entries)) one list) now) (posts_of entries) more others) c.as_slice-2.ensures.value
    (subst (λ list. AreKeptAs (with_inbox client (λ one. fold (catch_number names list) one c.as_slice-2.result.now) now) list more others) posts
    (c.catch_up.ensures.kept now at (c.make_all.ensures.kept inboxes (posts_of c.append.new.self.entries) (subst (λ list. AreKeptAs inboxes list variables roomy) (sym posts) ready.kept)))) in
    let prepared : all ≡ map (prepared_of client (length entries) (variable_names variables.all)) c.args.regs
    = c.in_ok-all.ensures.each
    ∙ ap (λ regs. map (prepared_of client c.len-made.result (variable_names c.args.variables.now.all)) regs) c.all.ensures
    ∙ ap (λ n. map (prepared_of client n (variable_names c.args.variables.now.all)) c.args.regs) c.len-made.ensures.value
    ∙ ap (λ vars. map (prepared_of client (length entries) vars) c.args.regs) (sym (roomier-names c.args.variables.now.all variables.all c.prepare_all.ensures.roomier.all)) in
    subst (λ (history : History). AreKept names history more others) (sym added)
    (AreKept-register names entries c.args.stamp client c.args.regs variables more roomy others all latest prepared c.in_ok-latest.ensures.rising
    (λ number among. subst (λ list. Contains (latest_prepared variables.all list) number) c.as_slice.ensures.value (c.in_ok-latest.ensures.only number among))
    (λ number among. c.in_ok-latest.ensures.each number (subst (λ list. Contains (latest_prepared variables.all list) number) (sym c.as_slice.ensures.value) among))
    (c.catch_up.ensures.each ∙ c.make_all.ensures.still.clients.each)
    (subst (λ list. AreNoted (map (λ (post : Post). post.var) list) more) posts c.catch_up.ensures.noted)
    held ready)
