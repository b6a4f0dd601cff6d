-- Jobs and their steps worked by hand: what is to be done, what may be written of it, and how it ends.
use Rattle.std.proofs.Common.{◌≡◌, ℕ, inl, inr, true, false, List, [], ◌∷◌, ◌++◌, length, take, cond, nat_eq, refl, ap, sym, ◌∙◌, subst, arith}
use Rattle.std.specs.Prelude.{codes, None, Some, Ok, Err, pos}
use Rattle.std.specs.Fmt.{digits}
use Rattle.std.specs.List.{All}
use Rattle.std.proofs.lemmas.Bool.{cases_eq}
use Rattle.std.proofs.lemmas.List.Elements.{All-cons, All-filter, All-head, All-nil, All-tail}
use Rattle.ivp_cert.specs.declared.claim.Decision.{Decision}
use Rattle.ivp_cert.specs.Texts.{decision_lines}
use Rattle.ivp_cert.proofs.Accepting.{walked_accepts}
use Rattle.ivp_problem.specs.Problems.{WeightedSum}
use Rattle.moos_post.specs.declared.entry.Call.TheVariants.{Fetch}
use Rattle.moos_post.specs.declared.entry.Entry.{Entry}
use Rattle.bhv_reader.specs.Behaviors.{nothing_said}
use Rattle.bhv_file.specs.declared.file.Block.{Block}
use Rattle.bhv_file.specs.declared.spec.Shape.TheVariants.{Timer}
use Rattle.ivp_cert.specs.Certificates.{best_decision}
use Rattle.mission_reader.specs.declared.mission.Mission.{Mission}
use Rattle.moos_client.specs.Calls.{entries_of}
use Rattle.moos_play.specs.Lawful.{IsLawful}
use Rattle.script_reader.specs.declared.script.Order.TheVariants.{Stamp, Race}
use Rattle.script_reader.specs.declared.script.Script.{Script}
use Rattle.moos_text.specs.declared.cause.Cause.TheVariants.{B1, M1, M8, P9, S7}
use Rattle.moos_text.specs.declared.cause.ReadFault.TheVariants.{At}
use Rattle.moos_io.specs.Faults.{Faring}
use Rattle.command_line.specs.declared.job.Job.TheVariants.{Play, Solve, Check}
use Rattle.command_line.specs.declared.status.FileKind.TheVariants.{Script as ScriptFile, Mission as MissionFile, Behaviors as BehaviorsFile, Problem as ProblemFile, Decision as DecisionFile}
use Rattle.command_line.specs.declared.status.Status.TheVariants.{Done, CheckNo, Usage, WriteFault, Refused}
use Rattle.moos_jobs.specs.declared.task.Task.TheVariants.{Checking, Playing, Solving}
use Rattle.command_line.specs.Turns.{Ready, Unfit, Wanted}
use Rattle.moos_jobs.specs.Jobs.{IsAccepted, IsOutput, outcomes, turn_of}
use Rattle.moos_jobs.specs.HelmFiles.{with_few_ticks}
use Rattle.command_line.specs.Endings.{Ended, Sinking, sinking}
use Rattle.moos_report.proofs.Communities.{all_entries}

-- one function of weight 1 over two points, of value 5 and 6
abbrev pub problem : WeightedSum
problem =
    record {
      axes = record { name = codes "a"; low = pos 0; high = pos 1000; points = 2 } ∷ [];
      terms =
          record {
            weight = 1000;
            func =
                record {
                  axes = record { name = codes "a"; low = pos 0; high = pos 1000; points = 2 } ∷ [];
                  pieces =
                      record {
                        area = record { low = 0 ∷ 0 ∷ 0 ∷ 0 ∷ []; high = 1 ∷ 0 ∷ 0 ∷ 0 ∷ [] };
                        base = pos 5;
                        slope = pos 1 ∷ pos 0 ∷ pos 0 ∷ pos 0 ∷ [];
                      }
                      ∷ [];
                };
          }
          ∷ [];
    }

abbrev pub problem_bytes : List ℕ
problem_bytes = codes "ivp 1\ndomain a:0:1:2\nfunction 1\npiece 0 1 5 1\nend\n"

-- the decision on it is the last point, and the one line of its certificate is that of the child by the only piece
abbrev pub decision : Decision
decision = record { problem = problem; claim = record { point = record { at = 1 ∷ 0 ∷ 0 ∷ 0 ∷ [] }; sum = 6000 }; cert = record { path = 0 ∷ []; sum = 6000; index = 1 } ∷ [] }

decided : best_decision problem ≡ decision
decided = refl

abbrev pub decision_bytes : List ℕ
decision_bytes = problem_bytes ++ codes "decision 1 6\ncut 0 : 6 1\ndone\n"

pub printed : decision_lines [] (best_decision problem) ≡ decision_bytes
unfolding digits
printed = refl

-- each job begins with its one file, or with the script, whether there is a mission or not
first_files : (turn_of (Play (codes "s") None Race 1) [] ≡ Wanted ScriptFile (codes "s")) × (turn_of (Play (codes "s") (Some (codes "m")) Race 1) [] ≡ Wanted ScriptFile (codes "s"))
    × (turn_of (Solve (codes "p") 16) [] ≡ Wanted ProblemFile (codes "p")) × (turn_of (Check (codes "d")) [] ≡ Wanted DecisionFile (codes "d"))
first_files = (refl, refl, refl, refl)

-- a bad interval, or nothing where a problem should be; the script is refused before its mission is wanted
bad_interval : turn_of (Play (codes "a") None Stamp 1) (codes "0 a register X -1" ∷ []) ≡ Unfit ScriptFile (At 1 S7)
bad_interval = refl

bad_interval_with_a_mission : turn_of (Play (codes "a") (Some (codes "m")) Stamp 1) (codes "0 a register X -1" ∷ []) ≡ Unfit ScriptFile (At 1 S7)
bad_interval_with_a_mission = refl

no_problem : turn_of (Solve (codes "p") 1) ([] ∷ []) ≡ Unfit ProblemFile (At 1 P9)
no_problem = refl

-- the bytes of two decisions: one claims the best point, and the other one the lesser
checked : turn_of (Check (codes "d")) (decision_bytes ∷ []) ≡ Ready (Checking decision)
checked = refl

abbrev pub poor : Decision
poor = record decision { claim = record { point = record { at = 0 ∷ 0 ∷ 0 ∷ 0 ∷ [] }; sum = 5000 } }

abbrev pub poor_bytes : List ℕ
poor_bytes = problem_bytes ++ codes "decision 0 5\ncut 0 : 6 1\ndone\n"

poor_checked : turn_of (Check (codes "d")) (poor_bytes ∷ []) ≡ Ready (Checking poor)
poor_checked = refl

-- the first is accepted; the one that claims the lesser point isn't, nor one without a line
pub accepted : IsAccepted decision
accepted = walked_accepts problem decision.claim decision.cert refl refl

pub not_accepted : IsAccepted poor → ⊥
not_accepted is = let line = is.lines 0 (record { path = 0 ∷ []; sum = 6000; index = 1 }) refl in omega (arith, line.sum, line.most)

no_line : IsAccepted (record decision { cert = [] }) → ⊥
no_line is = omega (arith, is.once (0 ∷ []) (record { depth = 1; area = record { low = 0 ∷ 0 ∷ 0 ∷ 0 ∷ []; high = 1 ∷ 0 ∷ 0 ∷ 0 ∷ [] }; base = pos 5000; slope = pos 1000 ∷ pos 0 ∷ pos 0 ∷ pos 0 ∷ [] }) refl (omega arith))

-- so a check of the first ends with Done, and of the other one with CheckNo, and each writes which it is, to the last byte
outputs : IsOutput (Checking decision) Done (codes "accepted\n") × IsOutput (Checking poor) CheckNo (codes "not accepted\n")
outputs = ((record { accepted = accepted; best = refl }, refl), (not_accepted, refl))

accepts_the_poor : IsOutput (Checking poor) Done (codes "accepted\n") → ⊥
accepts_the_poor is = not_accepted is.0.accepted

says_too_little : IsOutput (Checking decision) Done (codes "accepted") → ⊥
says_too_little is = omega (arith, ap length is.1)

-- a script of one fetch, and the report of what it leaves; nothing at all is no report
abbrev pub fetches : List Entry
fetches = record { stamp = 0; client = 0; call = Fetch } ∷ []

abbrev pub script : Script
script = record { names = codes "a" ∷ []; lines = fetches; stop = 0 }

played : turn_of (Play (codes "s") None Stamp 1) (codes "0 a fetch\n" ∷ []) ≡ Ready (Playing Stamp script None)
played = refl

-- with a mission, its file is wanted next, and then the behaviour file that it names
mission_bytes : List ℕ
mission_bytes = codes "ProcessConfig = pHelmIvP\n{\nbehaviors = b.bhv\ndomain = course:0:359:360\n}\n"

mission : Mission
mission = record { period = 250; behaviors = codes "b.bhv"; domain = record { name = codes "course"; low = pos 0; high = pos 359000; points = 360 } ∷ []; lines = 5 }

mission_wanted : turn_of (Play (codes "s") (Some (codes "m")) Stamp 1) (codes "0 a fetch\n" ∷ []) ≡ Wanted MissionFile (codes "m")
mission_wanted = refl

behaviors_wanted : turn_of (Play (codes "s") (Some (codes "m")) Stamp 1) (codes "0 a fetch\n" ∷ mission_bytes ∷ []) ≡ Wanted BehaviorsFile (codes "b.bhv")
unfolding mission_bytes
behaviors_wanted = refl

mission_refused : turn_of (Play (codes "s") (Some (codes "m")) Stamp 1) (codes "0 a fetch\n" ∷ codes "}\n" ∷ []) ≡ Unfit MissionFile (At 1 M1)
mission_refused = refl

-- so all is played with a helm of both files, also of an empty one, or the behaviour file is refused
all_read : turn_of (Play (codes "s") (Some (codes "m")) Stamp 1) (codes "0 a fetch\n" ∷ mission_bytes ∷ [] ∷ []) ≡ Ready (Playing Stamp script (Some (record { mission = mission; file = nothing_said })))
unfolding mission_bytes mission
all_read = refl

timer : Block
timer = record {
  common = record {
    name = codes "t";
    conds = [];
    runflags = [];
    idleflags = [];
    activeflags = [];
    inactiveflags = [];
    endflags = [];
    updates = None;
    duration = None;
    idle_decay = true;
    perpetual = false;
    template = false;
  };
  spec = record { weight = 100000; shape = Timer };
}

timer_read : turn_of (Play (codes "s") (Some (codes "m")) Stamp 1) (codes "0 a fetch\n" ∷ mission_bytes ∷ codes "\nBehavior = BHV_Timer\n{\nname = t\n}\n" ∷ [])
    ≡ Ready (Playing Stamp script (Some (record { mission = mission; file = record nothing_said { blocks = timer ∷ [] } })))
unfolding mission_bytes mission timer
timer_read = refl

behaviors_refused : turn_of (Play (codes "s") (Some (codes "m")) Stamp 1) (codes "0 a fetch\n" ∷ mission_bytes ∷ codes "\n}\n" ∷ []) ≡ Unfit BehaviorsFile (At 2 B1)
unfolding mission_bytes
behaviors_refused = refl

-- 20,000 iterations are the most: the last of these is at the last stamp
few_ticks : with_few_ticks (record { names = []; lines = []; stop = 4999999 }) (record mission { period = 250 }) ≡ Ok (record mission { period = 250 })
few_ticks = refl

many_ticks : with_few_ticks (record { names = []; lines = []; stop = 5000000 }) (record mission { period = 250 }) ≡ Err (At 5 M8)
unfolding mission
many_ticks = refl

-- it leaves no other history
abbrev IsFirst : Entry → Type 0
IsFirst entry = nat_eq entry.client 0 ≡ true

by_first : (history : List Entry) → All IsFirst history → entries_of 0 history ≡ history
by_first [] all = refl
by_first (entry ∷ later) all =
    let first = All-head IsFirst entry later all in
    ap (λ own. cond own (entry ∷ entries_of 0 later) (entries_of 0 later)) first ∙ ap (λ rest. entry ∷ rest) (by_first later (All-tail IsFirst entry later all))

-- the entries of each client behind the helm's opening, which is none, are its lines or none
own_first : (other : List Entry) → (is : IsLawful Stamp script None script.names other) → (client : ℕ) → All IsFirst (entries_of client is.rest)
own_first other is client =
    elim (cases_eq client 1) [
      | inl same ↦ subst (λ n. All IsFirst (entries_of n is.rest)) (sym same) (subst (All IsFirst) (sym is.steered) (All-nil IsFirst))
      | inr differs ↦ subst (All IsFirst) (sym (is.own client differs)) (All-filter (λ entry. nat_eq entry.client client) IsFirst fetches (All-cons IsFirst _ [] refl (All-nil IsFirst)))
    ]

pub no_other : (other : List Entry) → IsLawful Stamp script None script.names other → other ≡ fetches
no_other other is =
    is.opened ∙ (sym (by_first is.rest (all_entries IsFirst is.rest (own_first other is))) ∙ is.own 0 (λ same. absurd (omega (arith, same))))

-- one fetch is lawful: it is the client's, and no helm opens or ticks
pub fetches_lawful : IsLawful Stamp script None script.names fetches
fetches_lawful = record { rest = fetches; opened = refl; steered = refl; own = λ client differs. refl; moments = refl }

reported : IsOutput (Playing Stamp script None) Done (codes "%% moosdb play 1\n%% client 0 a\n%% entry 0 0 a fetch\n%% end 1 0\n")
unfolding digits
reported = record { history = fetches; lawful = fetches_lawful; printed = refl; listed = λ other is text. no_other other is; steers = tt }

nothing_reported : IsOutput (Playing Stamp script None) Done [] → ⊥
nothing_reported is = let printed = is.printed in cc

-- a sink by what it took before and after, and how often it failed since; it takes nothing for sure
abbrev pub sink_of : List ℕ → List ℕ → ℕ → Sinking
sink_of before after faults = sinking (Some before) (Some after) (record { faults = 0; firm = 0 }) (record { faults = faults; firm = 0 })

-- how the problem's job ends: all is written, or a front of it where the sink failed
all_written : Ended outcomes (Ready (Solving problem)) (sink_of (codes "x") (codes "x" ++ decision_bytes) 0) Done
unfolding digits
all_written = record { task = Solving problem; good = refl; text = decision_bytes; output = record { printed = refl; accepted = accepted }; took = refl; fared = refl }

front_written : Ended outcomes (Ready (Solving problem)) (sink_of [] (take 20 decision_bytes) 1) WriteFault
unfolding digits
front_written = (record { task = Solving problem; good = refl; status = Done; text = decision_bytes; output = record { printed = refl; accepted = accepted }; took = (20, omega arith, refl) }, record { rose = inl (omega arith); past = omega arith })

-- where a put failed the job isn't done, whatever was written then
hidden_fault : Ended outcomes (Ready (Solving problem)) (sink_of [] decision_bytes 1) Done → ⊥
hidden_fault is = let fared : record { faults = 1; firm = 0 } ≡ record { faults = 0; firm = 0 } = is.fared in omega (arith, ap (λ (faring : Faring). faring.faults) fared)

failed_without_a_fault : Ended outcomes (Ready (Solving problem)) (sink_of [] decision_bytes 0) WriteFault → ⊥
failed_without_a_fault is =
    elim is.1.rose [
      | inl rose ↦ omega arith
      | inr most ↦ omega arith
    ]

-- a good file isn't refused or half done with; a bad one is refused for what is wrong with it, and nothing is written
ended_usage : Ended outcomes (Ready (Solving problem)) (sink_of [] [] 0) Usage → ⊥
ended_usage is = is

good_refused : Ended outcomes (Ready (Solving problem)) (sink_of [] [] 0) (Refused (record { file = ProblemFile; line = 1; cause = P9 })) → ⊥
good_refused is = let read = is.0 in cc

bad_refused : Ended outcomes (Unfit ProblemFile (At 1 P9)) (sink_of [] [] 0) (Refused (record { file = ProblemFile; line = 1; cause = P9 }))
bad_refused = (refl, record { taken = refl; faults = refl })

other_line : Ended outcomes (Unfit ProblemFile (At 1 P9)) (sink_of [] [] 0) (Refused (record { file = ProblemFile; line = 2; cause = P9 })) → ⊥
other_line is = let read = is.0 in cc

other_kind : Ended outcomes (Unfit ProblemFile (At 1 P9)) (sink_of [] [] 0) (Refused (record { file = DecisionFile; line = 1; cause = P9 })) → ⊥
other_kind is = let kind = is.0 in cc

refused_and_written : Ended outcomes (Unfit ProblemFile (At 1 P9)) (sink_of [] (codes "no\n") 0) (Refused (record { file = ProblemFile; line = 1; cause = P9 })) → ⊥
refused_and_written is = let taken : Some (codes "no\n") ≡ Some [] = is.1.taken in cc

done_with_the_bad : Ended outcomes (Unfit ProblemFile (At 1 P9)) (sink_of [] [] 0) Done → ⊥
done_with_the_bad is = let good = is.good in cc

half_done : Ended outcomes (Ready (Solving problem)) (sink_of [] (take 20 decision_bytes) 0) Done → ⊥
half_done is =
    let good : Ready (Solving problem) ≡ Ready is.task = is.good in
    let task : is.task ≡ Solving problem = cc in
    let output : is.text ≡ decision_lines [] (best_decision problem) = (subst (λ task. IsOutput task Done is.text) task is.output).printed in
    let took : Some (take 20 decision_bytes) ≡ Some is.text = is.took in
    let same : take 20 decision_bytes ≡ is.text = cc in
    omega (arith, ap length same, ap length output, ap length printed)
