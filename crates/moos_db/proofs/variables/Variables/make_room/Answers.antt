use Rattle.std.proofs.Common.{◌≡◌, ◌∙◌, ◌<◌, ◌+◌, Some, ap, length, refl, slice_get, subst, sym, take, arith}
use Rattle.std.specs.List.{All}
use Rattle.std.proofs.lemmas.List.Elements.{All-more}
use Rattle.std.proofs.lemmas.List.{take_all}
use Rattle.std.proofs.lemmas.Option.{slice_get_read, slice_get_within}
use Rattle.moos_db.specs.Subscriptions.{HasRoom, VariablesState}
use Rattle.moos_db.proofs.Rooms.{HaveRoomTo, HaveRoomTo-more, alike-set, room-own, rooms-set}
use Rattle.moos_db.proofs.variables.Variables.make_room.Goals as goal

pub loop-subscription-preserved : goal.loop-subscription-preserved
loop-subscription-preserved c =
    let state = c.loop-subscription.invariant in
    let clients = c.loop-subscription.clients.items in
    let new = c.make_room.new.self in
    let made = c.in_ok-make_room.ensures.room in
    let i = c.client.result in record {
      alike = alike-set c.args.clients.now.items clients i c.index_mut.result.now new state.alike c.index_mut.ensures.value c.make_room.ensures.same;
      room = λ post number variable low high noted there. rooms-set clients i c.args.more new variable.subscriptions made (state.room post number variable low high noted there);
      here = All-more (HasRoom _ c.args.more) c.as_slice-subscription-items.result.now c.loop-subscription.subscription-index c.subscription-item.result c.loop-subscription-test.true
          (rooms-set clients i c.args.more new (take c.loop-subscription.subscription-index c.as_slice-subscription-items.result.now) made state.here)
          (subst (HasRoom _ c.args.more) c.subscription-item.is (room-own clients i c.args.more new c.subscription-item.result made c.client.ensures));
    }

pub loop-post-preserved : goal.loop-post-preserved
loop-post-preserved c =
    let state = c.loop-subscription.invariant in
    let post = c.loop-post.post in
    let clients = c.loop-subscription.clients.items in
    let view : VariablesState = record { all = c.self.inside.all.items; numbers = c.self.inside.numbers; noted = c.self.inside.noted.items } in
    let here = c.index-in-loop-post.result.now in
    let items = c.as_slice-subscription-items.result.now in
    let within : post < length view.noted = omega (arith, c.len-post-end.ensures, c.loop-post-test.true) in
    let noted : slice_get view.noted post ≡ Some c.index.result.now = slice_get_read view.noted (length view.noted) post c.index.result.now refl within c.index.ensures in
    let numbered : c.index.result.now < length view.all = subst (λ n. n < length view.all) (sym c.index.ensures) (c.self.invariant.noted post c.index.result.now within) in
    let stands : slice_get view.all c.index.result.now ≡ Some here = slice_get_read view.all (length view.all) c.index.result.now here refl numbered c.index-in-loop-post.ensures in
    let all : All (HasRoom clients c.args.more) here.subscriptions =
    subst (All (HasRoom clients c.args.more)) (take_all c.loop-subscription.subscription-index items c.loop-subscription-test.false ∙ c.as_slice-subscription-items.ensures.value ∙ ap (λ variable. variable.subscriptions) c.behind-self.view_is) state.here in
    record {
      alike = state.alike;
      room = subst (λ variables. HaveRoomTo clients variables c.args.from (post + 1) c.args.more) c.self.view_is
          (HaveRoomTo-more clients view c.args.from post c.args.more c.index.result.now here (subst (λ variables. HaveRoomTo clients variables c.args.from post c.args.more) (sym c.self.view_is) state.room) noted stands all);
    }

pub returns-clause-room : goal.returns-clause-room
returns-clause-room c post number variable low noted there =
    c.loop-post.invariant.room post number variable low
    (omega (arith, slice_get_within c.args.self.now.noted post number noted, ap (λ v. length v.noted) c.self.view_is, c.len-post-end.ensures, c.loop-post-test.false))
    noted there
