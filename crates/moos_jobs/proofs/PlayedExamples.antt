-- Runs that play a script, worked by hand: what is written with the whole of it, and what without memory.
use Rattle.std.proofs.Common.{◌≡◌, ℕ, inl, inr, List, [], ◌∷◌, length, refl, ap, sym, subst, arith}
use Rattle.std.specs.Prelude.{codes, Some, None}
use Rattle.std.specs.Fmt.{digits}
use Rattle.script_reader.specs.declared.script.Order.TheVariants.{Stamp}
use Rattle.command_line.specs.declared.job.Job.TheVariants.{Play}
use Rattle.command_line.specs.declared.status.Status.{Status}
use Rattle.command_line.specs.declared.status.Status.TheVariants.{Done, NoMemory}
use Rattle.moos_jobs.specs.declared.task.Task.TheVariants.{Playing}
use Rattle.command_line.specs.Turns.{Ready}
use Rattle.moos_jobs.specs.Jobs.{IsPartOutput, outcomes, turn_of}
use Rattle.command_line.specs.Endings.{DidFrom, Surroundings, surroundings, Ended, WroteAll}
use Rattle.moos_jobs.specs.Run.{DidJob, HasFiles, EndsWith}
use Rattle.moos_jobs.proofs.Endings.{ended_with, Good, IsOver, output_of}
use Rattle.command_line.proofs.Examples.{plays}
use Rattle.moos_jobs.proofs.JobExamples.{fetches_lawful, no_other, script, sink_of}
use Rattle.moos_jobs.proofs.RunExamples.{folder, one_load, unheard}

-- a script was played where a report was written, and not where nothing was
abbrev play : List (List ℕ)
play = codes "play" ∷ codes "survey.txt" ∷ []

abbrev playing : List ℕ → Surroundings
playing taken = surroundings (Some (folder (codes "survey.txt") (codes "0 a fetch\n"))) [] unheard (one_load (codes "survey.txt") (codes "0 a fetch\n")) (sink_of [] taken 0)

played : EndsWith play (playing (codes "%% moosdb play 1\n%% client 0 a\n%% entry 0 0 a fetch\n%% end 1 0\n")) Done
unfolding digits
played =
    record {
      job = Play (codes "survey.txt") None Stamp 1;
      named = plays;
      ended =
          record {
            files = codes "0 a fetch\n" ∷ [];
            loaded = (refl, tt);
            heard = refl;
            ended =
                record {
                  task = Playing Stamp script None;
                  good = refl;
                  text = codes "%% moosdb play 1\n%% client 0 a\n%% entry 0 0 a fetch\n%% end 1 0\n";
                  output = record { history = script.lines; lawful = fetches_lawful; printed = refl; listed = λ other is text. no_other other is; steers = tt };
                  took = refl;
                  fared = refl;
                };
          };
    }

-- without memory what is printed of a front of its history may be out, and not half a line
front_played : EndsWith play (playing (codes "%% moosdb play 1\n%% client 0 a\n")) NoMemory
unfolding digits
front_played =
    inr (record {
      job = Play (codes "survey.txt") None Stamp 1;
      named = plays;
      ended =
          record {
            files = codes "0 a fetch\n" ∷ [];
            loaded = (refl, tt);
            heard = inl refl;
            ended = inr (record {
              front =
                  record {
                    task = Playing Stamp script None;
                    good = refl;
                    status = Done;
                    text = codes "%% moosdb play 1\n%% client 0 a\n%% entry 0 0 a fetch\n%% end 1 0\n";
                    output = record { history = script.lines; lawful = fetches_lawful; printed = refl; listed = λ other is text. no_other other is; steers = tt };
                    took = (31, omega arith, refl);
                  };
              text = codes "%% moosdb play 1\n%% client 0 a\n";
              stands = record { front = []; rest = script.lines; may = fetches_lawful; made = []; more = []; iterations = refl; fetched = refl; printed = refl };
              took = refl;
              fared = refl;
            });
          };
    })

plays_this : (taken : List ℕ) → HasFiles play (playing taken) (Play (codes "survey.txt") None Stamp 1) (codes "0 a fetch\n" ∷ [])
plays_this taken = record { told = folder (codes "survey.txt") (codes "0 a fetch\n"); telling = refl; named = plays; loaded = (refl, tt) }

playing_ended : (taken : List ℕ) (status : Status) (is : DidJob play (playing taken) status) (did : DidFrom outcomes (playing taken) (turn_of is.job) [] status) → IsOver (turn_of is.job did.files)
    → Ended outcomes (Ready (Playing Stamp script None)) (sink_of [] taken 0) status
playing_ended taken status is did over =
    ended_with play (playing taken) (Play (codes "survey.txt") None Stamp 1) (codes "0 a fetch\n" ∷ []) (plays_this taken) (Ready (Playing Stamp script None)) refl (Good (Playing Stamp script None) refl)
    status is.job is.named did over

half_a_line : EndsWith play (playing (codes "%% moosdb")) NoMemory → ⊥
half_a_line (inl none) = let taken : Some (codes "%% moosdb") ≡ Some [] = none.silent.taken in cc
half_a_line (inr is) = elim is.ended.ended [
  | inl untouched ↦ let taken : Some (codes "%% moosdb") ≡ Some [] = untouched.taken in cc
  | inr wrote ↦
      elim (playing_ended (codes "%% moosdb") NoMemory is is.ended (Good wrote.front.task wrote.front.good)) [
        | inl untouched ↦ let taken : Some (codes "%% moosdb") ≡ Some [] = untouched.taken in cc
        | inr part ↦
            let both : Ready (Playing Stamp script None) ≡ Ready part.front.task = part.front.good in
            let same : Playing Stamp script None ≡ part.front.task = cc in
            let stands : IsPartOutput (Playing Stamp script None) part.text = subst (λ task. IsPartOutput task part.text) (sym same) part.stands in
            let took : Some (codes "%% moosdb") ≡ Some part.text = part.took in
            let text : codes "%% moosdb" ≡ part.text = cc in
            omega (arith, ap length text, ap length stands.printed)
      ]
]

played_silently : EndsWith play (playing []) Done → ⊥
played_silently is =
    let wrote : WroteAll outcomes (Ready (Playing Stamp script None)) Done (sink_of [] [] 0) = playing_ended [] Done is is.ended (Good is.ended.ended.task is.ended.ended.good) in
    let printed = (output_of (Playing Stamp script None) Done (sink_of [] [] 0) wrote).printed in
    let took : Some [] ≡ Some wrote.text = wrote.took in
    cc
