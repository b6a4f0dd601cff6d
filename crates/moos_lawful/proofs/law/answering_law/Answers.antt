use Rattle.moos_lawful.proofs.Further.{is_wider}
use Rattle.moos_lawful.proofs.Playable.{is_playable}
use Rattle.moos_lawful.proofs.law.answering_law.Goals as goal

pub returns-clause-playable : goal.returns-clause-playable
returns-clause-playable g c = λ order lines clients stop period answerers names mailed room. is_playable order lines clients stop period answerers names mailed room

pub returns-clause-wider : goal.returns-clause-wider
returns-clause-wider g c = λ order lines clients stop period first others names mailed room. is_wider order lines clients stop period first others names mailed room
