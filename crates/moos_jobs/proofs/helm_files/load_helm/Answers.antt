-- The mission is loaded first, and then its behaviour file, or one of them can't be loaded or is refused.
use Rattle.std.proofs.Common.{◌≡◌, ◌∙◌, ◌∷◌, [], refl, ap, sym, subst}
use Rattle.std.specs.Prelude.{Ok}
use Rattle.bhv_file.specs.declared.file.BhvFile.{BhvFile}
use Rattle.bhv_reader.specs.Behaviors.{behaviors_of}
use Rattle.command_line.proofs.Loading.{heard_twice, last_ends, load_ends, refusal_ends, went_on}
use Rattle.command_line.specs.declared.status.FileKind.TheVariants.{Behaviors as BehaviorsFile, Mission as MissionFile}
use Rattle.command_line.specs.Endings.{surroundings}
use Rattle.command_line.specs.Turns.{FileTurn, HasBytes, Ready, turn_behind}
use Rattle.moos_jobs.specs.declared.helm_files.HelmFiles.{HelmFiles}
use Rattle.moos_jobs.specs.HelmFiles.{with_few_ticks}
use Rattle.moos_jobs.specs.Loading.{behaviors_turn, helm_alone, helm_turn, nothing_written}
use Rattle.mission_reader.specs.declared.mission.Mission.{Mission}
use Rattle.mission_reader.specs.Missions.{mission_of}
use Rattle.moos_files.specs.Heard.{given_load, with_loads}
use Rattle.moos_text.specs.Refusals.{and_then, IsFirst}
use Rattle.moos_jobs.proofs.helm_files.load_helm.Goals as goal

pub returns-in-Err-clause-ends : goal.returns-in-Err-clause-ends
returns-in-Err-clause-ends g c = λ taken faults.
    load_ends nothing_written _ _ _ _ _ _ (helm_turn helm_alone c.args.script.now c.args.name.now) [] MissionFile c.args.name.now _ c.in-Err.fault c.unloaded.result refl c.bytes.ensures.value
    c.in-Err.ensures.failed c.in-Err.ensures.rose c.in-Err.ensures.unsure c.unloaded.ensures.failed c.unloaded.ensures.memory

pub returns-in-Err-read_for-clause-ends : goal.returns-in-Err-read_for-clause-ends
returns-in-Err-read_for-clause-ends g c = λ taken faults.
    let bytes = c.in-Ok.bytes.items in
    let script = c.args.script.now in
    let next : Mission → FileTurn HelmFiles = λ mission. behaviors_turn helm_alone mission [] in
    let first : IsFirst c.in-Err-read_for.fault (and_then (with_few_ticks script) (mission_of bytes))
    = subst (λ bytes. IsFirst c.in-Err-read_for.fault (and_then (with_few_ticks script) (mission_of bytes))) c.deref.ensures.value c.in-Err-read_for.ensures.refused in
    last_ends nothing_written _ _ _ _ _ (helm_turn helm_alone script c.args.name.now) [] MissionFile c.args.name.now _ bytes _ c.refused.result refl c.bytes.ensures.value
    c.in-Ok.ensures.content c.in-Ok.ensures.heard refl
    (refusal_ends nothing_written next MissionFile _ c.in-Err-read_for.fault c.refused.result _ _ first c.refused.ensures)

pub returns-in-Err-load-clause-ends : goal.returns-in-Err-load-clause-ends
returns-in-Err-load-clause-ends g c = λ taken faults.
    let bytes = c.in-Ok.bytes.items in
    let script = c.args.script.now in
    let mission = c.in-Ok-read_for.mission in
    let read : and_then (with_few_ticks script) (mission_of bytes) ≡ Ok mission = ap (λ bytes. and_then (with_few_ticks script) (mission_of bytes)) (sym c.deref.ensures.value) ∙ c.in-Ok-read_for.ensures.read in
    went_on nothing_written (surroundings _ _ _ _ _) (surroundings _ _ _ _ _)
    (helm_turn helm_alone script c.args.name.now) [] MissionFile c.args.name.now _ bytes
    (record { told = c.in-Ok.ensures.same.0; sure = c.in-Ok.ensures.same.1; sink = refl; before = c.in-Ok.ensures.heard; after = refl }) refl c.bytes.ensures.value c.in-Ok.ensures.content c.unloaded-in-Err-load.result
    (load_ends nothing_written _ _ _ _ _ _ (helm_turn helm_alone script c.args.name.now) (bytes ∷ []) BehaviorsFile mission.behaviors _ c.in-Err-load.fault c.unloaded-in-Err-load.result
    (ap (turn_behind MissionFile (λ mission. behaviors_turn helm_alone mission [])) read) c.bytes-2.ensures.value
    c.in-Err-load.ensures.failed c.in-Err-load.ensures.rose c.in-Err-load.ensures.unsure c.unloaded-in-Err-load.ensures.failed c.unloaded-in-Err-load.ensures.memory)

pub returns-in-Ok-read_behaviors-clause-loaded : goal.returns-in-Ok-read_behaviors-clause-loaded
returns-in-Ok-read_behaviors-clause-loaded g c =
    let bytes = c.in-Ok.bytes.items in
    let second = c.in-Ok-load.bytes.items in
    let script = c.args.script.now in
    let mission = c.in-Ok-read_for.mission in
    record {
      mission = bytes;
      mission_told = subst (λ name. HasBytes (g.F.Folder.told c.args.folder.now) name bytes) c.bytes.ensures.value c.in-Ok.ensures.content;
      mission_read = ap (λ bytes. and_then (with_few_ticks script) (mission_of bytes)) (sym c.deref.ensures.value) ∙ c.in-Ok-read_for.ensures.read;
      behaviors = second;
      behaviors_told = subst (λ told. HasBytes told mission.behaviors second) c.in-Ok.ensures.same.0
          (subst (λ name. HasBytes (g.F.Folder.told c.load.new.folder) name second) c.bytes-2.ensures.value c.in-Ok-load.ensures.content);
      behaviors_read = ap (behaviors_of mission.domain) (sym c.deref-2.ensures.value) ∙ c.in-Ok-read_behaviors.ensures.read;
      heard = heard_twice (g.F.Folder.heard c.args.folder.now) (g.F.Folder.heard c.load.new.folder) _ _ _
          (c.in-Ok.ensures.heard ∙ ap (λ name. with_loads (g.F.Folder.heard c.args.folder.now) (given_load name bytes ∷ [])) c.bytes.ensures.value)
          (c.in-Ok-load.ensures.heard ∙ ap (λ name. with_loads (g.F.Folder.heard c.load.new.folder) (given_load name second ∷ [])) c.bytes-2.ensures.value);
    }

pub returns-clause-ends : goal.returns-clause-ends
returns-clause-ends g c = λ taken faults.
    let bytes = c.in-Ok.bytes.items in
    let second = c.in-Ok-load.bytes.items in
    let script = c.args.script.now in
    let mission = c.in-Ok-read_for.mission in
    let fault = c.in-Err-read_behaviors.fault in
    let read : and_then (with_few_ticks script) (mission_of bytes) ≡ Ok mission = ap (λ bytes. and_then (with_few_ticks script) (mission_of bytes)) (sym c.deref.ensures.value) ∙ c.in-Ok-read_for.ensures.read in
    let next : BhvFile → FileTurn HelmFiles = λ file. Ready (record { mission = mission; file = file }) in
    let first : IsFirst fault (behaviors_of mission.domain second) = subst (λ bytes. IsFirst fault (behaviors_of mission.domain bytes)) c.deref-2.ensures.value c.in-Err-read_behaviors.ensures.refused in
    went_on nothing_written (surroundings _ _ _ _ _) (surroundings _ _ _ _ _)
    (helm_turn helm_alone script c.args.name.now) [] MissionFile c.args.name.now _ bytes
    (record { told = c.in-Ok.ensures.same.0; sure = c.in-Ok.ensures.same.1; sink = refl; before = c.in-Ok.ensures.heard; after = refl }) refl c.bytes.ensures.value c.in-Ok.ensures.content c.refused-in-Err-read_behaviors.result
    (last_ends nothing_written _ _ _ _ _ (helm_turn helm_alone script c.args.name.now) (bytes ∷ []) BehaviorsFile mission.behaviors _ second _ c.refused-in-Err-read_behaviors.result
    (ap (turn_behind MissionFile (λ mission. behaviors_turn helm_alone mission [])) read) c.bytes-2.ensures.value c.in-Ok-load.ensures.content c.in-Ok-load.ensures.heard
    (ap (turn_behind MissionFile (λ mission. behaviors_turn helm_alone mission (second ∷ []))) read)
    (refusal_ends nothing_written next BehaviorsFile _ fault c.refused-in-Err-read_behaviors.result _ _ first c.refused-in-Err-read_behaviors.ensures))
