use Rattle.search_core.specs.Cores.{start_of}
use Rattle.search_core.proofs.Ending.{finished, ran_keeps, ran_stays, start_keeps}
use Rattle.search_core.proofs.Sounding.{sound_from, sound_keeps}
use Rattle.search_core.proofs.Stepping.{step_keeps}
use Rattle.search_core.proofs.law.core_law.Goals as goal

pub returns-clause-kept : goal.returns-clause-kept
returns-clause-kept c = λ problem step core core' h sound stepped. sound_from problem core' (step_keeps problem h step core core' stepped (sound_keeps problem core sound))

pub returns-clause-sound : goal.returns-clause-sound
returns-clause-sound c = λ problem others steps core h ran. sound_from problem core (ran_keeps problem h steps (start_of problem others) core ran (start_keeps problem h others))

pub returns-clause-stays : goal.returns-clause-stays
returns-clause-stays c = λ problem steps core core' ran node there. ran_stays problem steps core core' ran node there

pub returns-clause-finished : goal.returns-clause-finished
returns-clause-finished c = λ problem others steps later earlier core h ran ran' over. finished problem later earlier core (ran_keeps problem h later earlier core ran' (ran_keeps problem h steps (start_of problem others) earlier ran (start_keeps problem h others))) ran' over
