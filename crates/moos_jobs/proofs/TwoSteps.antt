-- A job that loads all its files, and then does what they stand for.
use Rattle.std.proofs.Common.{◌≡◌, ℕ, List, [], inl, None, refl, ap, sym, subst, ◌∙◌}
use Rattle.std.specs.Prelude.{Option}
use Rattle.command_line.proofs.Joining.{ends_as}
use Rattle.command_line.proofs.Loading.{ends_here}
use Rattle.command_line.specs.declared.status.Status.{Status}
use Rattle.command_line.specs.declared.status.Status.TheVariants.{Done, CheckNo, Usage, LoadFault, WriteFault, Refused, NoMemory}
use Rattle.command_line.specs.Endings.{Ended, EndsFrom, Outcomes, Sinking, Surroundings, sinking, surroundings}
use Rattle.command_line.specs.Turns.{FileTurn, Ready, turn_as, Unfit, Wanted}
use Rattle.moos_files.specs.Answers.{unsure_faring}
use Rattle.moos_files.specs.Heard.{Hearing}
use Rattle.moos_io.specs.Faults.{Faring}
use Rattle.moos_jobs.proofs.FilesFirst.{followed, part_ends}
use Rattle.moos_jobs.specs.Loading.{HasLoaded, HasNotLoaded, nothing_written}

-- just this task, of which nothing is written
abbrev pub task_alone : {T : Type 0} → T → Outcomes T
task_alone task = record { MayWrite = λ one status text. (one ≡ task) × (text ≡ []); MayStand = λ one text. ⊥ }

-- a sink that tells nothing, and takes nothing
abbrev pub no_sink : Sinking
no_sink = sinking None None (unsure_faring 0) (unsure_faring 0)

module _ {T : Type 0} (told : Option (List ℕ → Option (List ℕ))) (sure : List (List ℕ)) where
  -- a job that needs no more files
  pub all_good : (heard : Hearing) (turn : List (List ℕ) → FileTurn T) (front : List (List ℕ)) (task : T) → turn front ≡ Ready task
      → EndsFrom (task_alone task) (surroundings told sure heard heard no_sink) turn front Done
  all_good heard turn front task is =
      ends_here (task_alone task) (surroundings told sure heard heard no_sink) turn front Done refl (record { task = task; good = is; text = []; output = (refl, refl); took = refl; fared = refl })

  pub has_loaded : (before after : Hearing) (turn : List (List ℕ) → FileTurn T) (task : T) → EndsFrom (task_alone task) (surroundings told sure before after no_sink) turn [] Done → HasLoaded told before after turn task
  has_loaded before after turn task did = record { files = did.files; loaded = did.loaded; heard = did.heard; ready = did.ended.good ∙ ap (λ (one : T). Ready one) did.ended.output.0 }

  is_loaded : (before after : Hearing) (turn : List (List ℕ) → FileTurn T) (task : T) → HasLoaded told before after turn task → EndsFrom (task_alone task) (surroundings told sure before after no_sink) turn [] Done
  is_loaded before after turn task has = record {
    files = has.files;
    loaded = has.loaded;
    heard = has.heard;
    ended = record { task = task; good = has.ready; text = []; output = (refl, refl); took = refl; fared = refl };
  }

module _ {T U : Type 0} (of : T → U) (told : Option (List ℕ → Option (List ℕ))) (sure : List (List ℕ)) (before after : Hearing) (turn : List (List ℕ) → FileTurn T) where
  -- the same with a task of a wider type
  pub loaded_as : (task : T) → HasLoaded told before after turn task → HasLoaded told before after (λ files. turn_as of (turn files)) (of task)
  loaded_as task has =
      has_loaded told sure before after (λ files. turn_as of (turn files)) (of task)
      (ends_as of (task_alone task) (task_alone (of task)) (λ one status text is. (ap of is.0, is.1)) (λ one text stands. absurd stands) (surroundings told sure before after no_sink) turn [] Done
      (is_loaded told sure before after turn task has))

  pub not_loaded_as : (status : Status) → HasNotLoaded told sure before after turn status → HasNotLoaded told sure before after (λ files. turn_as of (turn files)) status
  not_loaded_as status ends = λ taken faults.
      ends_as of nothing_written nothing_written (λ one status text none. absurd none) (λ one text none. absurd none) (surroundings told sure before after (sinking taken taken faults faults)) turn [] status (ends taken faults)

module _ {T : Type 0} (outcomes : Outcomes T) (told : Option (List ℕ → Option (List ℕ))) (sure : List (List ℕ)) (before after : Hearing) (turn : List (List ℕ) → FileTurn T) where
  -- the task was loaded, and doing it ended so
  module _ (task : T) (has : HasLoaded told before after turn task) (sink : Sinking) where
    abbrev run : Surroundings
    run = surroundings told sure before after sink

    ended_there : (status : Status) → Ended outcomes (Ready task) sink status → Ended outcomes (turn has.files) sink status
    ended_there status ended = subst (λ turn. Ended outcomes turn sink status) (sym has.ready) ended

    pub did_task : (status : Status) → Ended outcomes (Ready task) sink status → EndsFrom outcomes run turn [] status
    did_task Done ended = record { files = has.files; loaded = has.loaded; heard = has.heard; ended = ended_there Done ended }
    did_task CheckNo ended = record { files = has.files; loaded = has.loaded; heard = has.heard; ended = ended_there CheckNo ended }
    did_task Usage ended = absurd ended
    did_task LoadFault ended = absurd ended
    did_task WriteFault ended = record { files = has.files; loaded = has.loaded; heard = has.heard; ended = ended_there WriteFault ended }
    did_task (Refused refusal) ended = record { files = has.files; loaded = has.loaded; heard = has.heard; ended = ended_there (Refused refusal) ended }
    did_task NoMemory ended = record { files = has.files; loaded = has.loaded; heard = inl has.heard; ended = ended_there NoMemory ended }

  itself : (turn : FileTurn T) → turn ≡ followed (λ (task : T). Ready task) turn
  itself (Wanted kind name) = refl
  itself (Ready task) = refl
  itself (Unfit kind fault) = refl

  -- it was not: the job ends as its loading did
  pub did_no_task : (status : Status) → HasNotLoaded told sure before after turn status → (taken : Option (List ℕ)) (faults : Faring)
      → EndsFrom outcomes (surroundings told sure before after (sinking taken taken faults faults)) turn [] status
  did_no_task status ends taken faults =
      part_ends outcomes turn (λ task files. Ready task) turn [] (λ files. itself (turn files)) (surroundings told sure before after (sinking taken taken faults faults)) status (ends taken faults)
