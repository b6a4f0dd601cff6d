use Rattle.std.proofs.Common.{◌≡◌, ◌∙◌, ◌<◌, ◌∷◌, ◌++◌, [], ap, arith, length, slice_get, slice_set, Some, subst, sym}
use Rattle.std.specs.List.{All}
use Rattle.std.proofs.lemmas.List.{length-map}
use Rattle.std.proofs.lemmas.Option.{slice_get-get_or}
use Rattle.moos_mail.proofs.Lists.{found-below}
use Rattle.moos_mail.proofs.Standing.{new_live}
use Rattle.moos_post.specs.Delivery.{without_patterns}
use Rattle.moos_db.specs.declared.registration.Registration.{Registration}
use Rattle.moos_db.specs.Clients.{ClientState}
use Rattle.moos_db.specs.Subscriptions.{AreKeptAs, VariableState, with_lives}
use Rattle.moos_db.specs.Registering.{AreEachAt, HasRoomThrough, HaveRoomFor, Heard, IsAddedTo, PreparedState, heard_through, variable_names, with_prepared}
use Rattle.moos_db.proofs.Making.{kept-made, lives-twice, room-through, still-made, still-names, through-within}
use Rattle.moos_db.proofs.registering.make.Goals as goal

pub add_subscriptions-requires-clause-within : goal.add_subscriptions-requires-clause-within
add_subscriptions-requires-clause-within c =
    let live = c.one.inside.live.value in
    let first = c.args.variables.now.all in
    let after = c.withdraw.new.variables.all in
    let subscriptions = subst (λ (one : PreparedState). one.subscriptions ≡ heard_through c.args.client one.live 0 (variable_names first)) (sym c.one.view_is) c.requires.ready.subscriptions in
    subst (All (λ (one : Heard). one.0 < length after)) (sym subscriptions)
    (through-within c.args.client live 0 (variable_names first) (length after) (omega (arith, length-map first (λ (variable : VariableState). variable.name), c.withdraw.ensures.still.variables.each)))

pub add_subscriptions-requires-clause-room : goal.add_subscriptions-requires-clause-room
add_subscriptions-requires-clause-room c =
    let live = c.one.inside.live.value in
    let first = c.args.variables.now.all in
    let after = c.withdraw.new.variables.all in
    let subscriptions = subst (λ (one : PreparedState). one.subscriptions ≡ heard_through c.args.client one.live 0 (variable_names first)) (sym c.one.view_is) c.requires.ready.subscriptions in
    let room = subst (λ (one : PreparedState). HasRoomThrough 1 one.live.reg.var first) (sym c.one.view_is) c.requires.ready.room in
    let still = c.withdraw.ensures.still.variables in
    subst (λ all. HaveRoomFor all after) (sym (subscriptions ∙ ap (heard_through c.args.client live 0) (sym (still-names 0 first after still))))
    (room-through c.args.client live first after still room)

pub add-requires : goal.add-requires
add-requires c =
    let states = c.args.clients.now.items in
    let others = c.withdraw.new.clients.items in
    let one : ClientState = c.index_mut.result.now in
    let ready = c.withdraw.ensures.still.clients in
    let below : c.args.client < length others = omega (arith, ready.each, c.requires.within) in
    let had : (x : ClientState) × (slice_get states c.args.client ≡ Some x) = found-below states c.args.client c.requires.within in
    let here : slice_get others c.args.client ≡ Some one = slice_get-get_or others c.args.client one below ∙ ap (λ x. Some x) (sym c.index_mut.ensures.value) in
    omega (arith, c.requires.room had.0 had.1, (ready.same c.args.client had.0 one had.1 here).room)

pub returns-clause-kept : goal.returns-clause-kept
returns-clause-kept c =
    let client = c.args.client in
    let live : Registration = c.one.inside.live.value in
    let before = c.withdraw.new.variables in
    let after = c.add_subscriptions.new.self in
    let others = c.withdraw.new.clients.items in
    let one : ClientState = c.index_mut.result.now in
    let other : ClientState = c.add.new.self in
    let subscriptions = subst (λ (one : PreparedState). one.subscriptions ≡ heard_through client one.live 0 (variable_names c.args.variables.now.all)) (sym c.one.view_is) c.requires.ready.subscriptions
    ∙ ap (heard_through client live 0) (sym (still-names 0 c.args.variables.now.all before.all c.withdraw.ensures.still.variables)) in
    let added = subst (λ all. AreEachAt (IsAddedTo all) before.all after.all) subscriptions c.add_subscriptions.ensures.added in
    let below : client < length others = omega (arith, c.withdraw.ensures.still.clients.each, c.requires.within) in
    let here : slice_get others client ≡ Some one = slice_get-get_or others client one below ∙ ap (λ x. Some x) (sym c.index_mut.ensures.value) in
    λ inboxes posts are.
    let left : AreKeptAs (with_lives client (without_patterns live.reg.var live.reg.source) inboxes) posts before others
    = subst (λ (r : Registration). AreKeptAs (with_lives client (without_patterns live.reg.var r.reg.source) inboxes) posts before others) c.deref-2.ensures
    (subst (λ (r : Registration). AreKeptAs (with_lives client (without_patterns r.reg.var c.deref-2.result.now.reg.source) inboxes) posts before others) c.deref.ensures (c.withdraw.ensures.kept inboxes posts are)) in
    subst (λ (one : PreparedState). AreKeptAs (with_lives client (λ lives. with_prepared lives one) inboxes) posts after (slice_set others client other)) c.one.view_is
    (subst (λ now. AreKeptAs now posts after (slice_set others client other)) (lives-twice client (without_patterns live.reg.var live.reg.source) (λ lives. lives ++ new_live live.made live.reg ∷ []) inboxes)
    (kept-made client live (with_lives client (without_patterns live.reg.var live.reg.source) inboxes) posts before after others one other added c.add_subscriptions.ensures.numbers here c.add.ensures.same left))

pub returns-clause-still : goal.returns-clause-still
returns-clause-still c =
    let client = c.args.client in
    let live : Registration = c.one.inside.live.value in
    let before = c.withdraw.new.variables in
    let after = c.add_subscriptions.new.self in
    let others = c.withdraw.new.clients.items in
    let one : ClientState = c.index_mut.result.now in
    let other : ClientState = c.add.new.self in
    let subscriptions = subst (λ (one : PreparedState). one.subscriptions ≡ heard_through client one.live 0 (variable_names c.args.variables.now.all)) (sym c.one.view_is) c.requires.ready.subscriptions
    ∙ ap (heard_through client live 0) (sym (still-names 0 c.args.variables.now.all before.all c.withdraw.ensures.still.variables)) in
    let added = subst (λ all. AreEachAt (IsAddedTo all) before.all after.all) subscriptions c.add_subscriptions.ensures.added in
    let below : client < length others = omega (arith, c.withdraw.ensures.still.clients.each, c.requires.within) in
    let here : slice_get others client ≡ Some one = slice_get-get_or others client one below ∙ ap (λ x. Some x) (sym c.index_mut.ensures.value) in
    still-made client live c.args.variables.now before after c.args.clients.now.items others one other c.withdraw.ensures.still added c.add_subscriptions.ensures.numbers here c.add.ensures.same c.add.ensures.room
