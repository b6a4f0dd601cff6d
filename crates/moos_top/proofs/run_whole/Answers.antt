use Rattle.std.proofs.Common.{[], ◌++◌, None, Some, subst}
use Rattle.command_line.specs.Endings.{sinking, surroundings}
use Rattle.moos_files.specs.Answers.{unsure_faring}
use Rattle.moos_files.specs.Gathered.{all_put}
use Rattle.moos_jobs.specs.Run.{EndsWith}
use Rattle.moos_top.proofs.Finishing.{run_failed}
use Rattle.moos_top.proofs.run_whole.Goals as goal

-- whatever the run came to, a front of its text went out when the put of the rest failed
pub returns-in-Err : goal.returns-in-Err
returns-in-Err g c =
    let held = c.run-status.new.out in
    let ran = subst (λ before. EndsWith c.args.words.now (surroundings None [] c.args.folder.now c.run-status.new.folder
    (sinking (all_put (λ sink. Some sink.taken) before) (Some (held.sink.taken ++ held.held)) (unsure_faring before.sink.faults) (unsure_faring held.sink.faults))) c.run-status.result)
    c.requires.begun c.run-status.ensures.ran in
    record {
      ended = run_failed held.sink.taken held.held c.finish.new.self.sink.taken held.sink.faults c.finish.new.self.sink.faults c.in-Err.ensures.told.front c.in-Err.ensures.told.rose.rose
          None [] c.args.folder.now c.run-status.new.folder c.args.words.now c.run-status.result ran;
    }
