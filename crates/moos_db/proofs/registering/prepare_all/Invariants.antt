-- Those so far are prepared, and have room.
use Rattle.std.proofs.Common.{◌≡◌, length, map, take}
use Rattle.std.specs.List.{All}
use Rattle.moos_db.specs.Registering.{AreRoomier, HasRoomThrough, variable_names, prepared_of}
use Rattle.moos_db.proofs.registering.prepare_all.Given as goal

abbrev pub invariant-loop-reg : goal.invariant-loop-reg
invariant-loop-reg l = record {
  each : l.all.items ≡ map (prepared_of l.client l.made (variable_names l.fn.variables.all)) (take l.reg-index l.regs);
  roomier : AreRoomier l.fn.variables l.variables;
  room : All (λ reg. HasRoomThrough (length l.regs) reg.var l.variables.all) (take l.reg-index l.regs);
}
