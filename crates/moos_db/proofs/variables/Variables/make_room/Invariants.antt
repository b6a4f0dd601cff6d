-- The clients are as they were but for room, and there is room with those that hear the posts so far.
use Rattle.std.proofs.Common.{take}
use Rattle.std.specs.List.{All}
use Rattle.moos_db.specs.Subscriptions.{AreAlike, HasRoom}
use Rattle.moos_db.proofs.Rooms.{HaveRoomTo}
use Rattle.moos_db.proofs.variables.Variables.make_room.Given as goal

abbrev pub invariant-loop-post : goal.invariant-loop-post
invariant-loop-post l = record {
  alike : AreAlike l.fn.clients.items l.clients.items;
  room : HaveRoomTo l.clients.items l.self l.from l.post l.more;
}

abbrev pub invariant-loop-subscription : goal.invariant-loop-subscription
invariant-loop-subscription l = record {
  alike : AreAlike l.fn.clients.items l.clients.items;
  room : HaveRoomTo l.clients.items l.self l.from l.post l.more;
  here : All (HasRoom l.clients.items l.more) (take l.subscription-index l.subscription-items);
}
