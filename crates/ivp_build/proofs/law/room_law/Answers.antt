use Rattle.ivp_build.proofs.Rooms.{tops_leave_room}
use Rattle.ivp_build.proofs.law.room_law.Goals as goal

pub returns : goal.returns
returns c = tops_leave_room
