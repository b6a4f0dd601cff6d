-- The script is loaded, then the helm's files, then the vehicle file, and then the contacts file, where one is named, or one of them isn't
-- there, or is refused.
use Rattle.std.proofs.Common.{◌≡◌, ◌∙◌, ◌∷◌, ◌++◌, [], List, None, ℕ, Some, ap, append-nil, append_assoc, refl, subst, sym}
use Rattle.std.specs.Prelude.{is_some}
use Rattle.command_line.specs.declared.status.FileKind.TheVariants.{Contacts as ContactsFile, Script as ScriptFile, Vehicle as VehicleFile}
use Rattle.command_line.specs.declared.status.Status.TheVariants.{Done}
use Rattle.command_line.specs.Endings.{sinking, surroundings}
use Rattle.command_line.specs.Turns.{FileTurn, turn_behind}
use Rattle.contact_avoid.specs.RangeFiles.{ranges_of}
use Rattle.moos_jobs.proofs.FilesFirst.{both, IsFurther, ends_so, file_ends, goes_on, read_on, stands_behind}
use Rattle.moos_jobs.proofs.TwoSteps.{all_good, has_loaded, no_sink, task_alone}
use Rattle.moos_jobs.specs.declared.task.Simulation.{Simulation}
use Rattle.moos_jobs.specs.Loading.{HasNotLoaded, WasRead, file_turn, helm_turn, nothing_written}
use Rattle.moos_jobs.specs.Simulating.{all_read, contacts_turn, simulate_turn, simulated_script, vehicle_turn}
use Rattle.sim_vehicle.specs.Vehicles.{vehicle_of}
use Rattle.moos_jobs.proofs.simulate_job.load_simulation.Goals as goal

pub returns-in-Err-clause-ends : goal.returns-in-Err-clause-ends
returns-in-Err-clause-ends g c = λ taken faults.
    let contacts = c.args.contacts.now in
    let vehicle = c.args.vehicle.now in
    let mission = c.args.mission.now in
    let turn : List (List ℕ) → FileTurn Simulation = simulate_turn c.args.script.now mission vehicle contacts in
    let read = simulated_script (is_some contacts) in
    let ends = subst (λ watched. HasNotLoaded (g.F.Folder.told c.args.folder.now) (g.F.Folder.sure c.args.folder.now) (g.F.Folder.heard c.args.folder.now) (g.F.Folder.heard c.load_simulated.new.folder) (file_turn ScriptFile c.args.script.now (simulated_script watched)) c.in-Err.status) c.is_some.ensures c.in-Err.ensures.ends in
    file_ends ScriptFile c.args.script.now read (λ script files. helm_turn (vehicle_turn script vehicle contacts) script mission files) turn refl (λ bytes more. refl) nothing_written turn [] (λ files. refl)
    (surroundings _ _ _ _ _) c.in-Err.status (ends taken faults)

pub returns-in-Err-load_helm-clause-ends : goal.returns-in-Err-load_helm-clause-ends
returns-in-Err-load_helm-clause-ends g c = λ taken faults.
    let contacts = c.args.contacts.now in
    let vehicle = c.args.vehicle.now in
    let mission = c.args.mission.now in
    let turn : List (List ℕ) → FileTurn Simulation = simulate_turn c.args.script.now mission vehicle contacts in
    let read = simulated_script (is_some contacts) in
    let script = c.in-Ok.script in
    let first = subst (λ watched. WasRead (g.F.Folder.told c.args.folder.now) (g.F.Folder.heard c.args.folder.now) (g.F.Folder.heard c.load_simulated.new.folder) c.args.script.now (simulated_script watched) script) c.is_some.ensures c.in-Ok.ensures.read in
    let next = vehicle_turn script vehicle contacts in
    let behind : (files : List (List ℕ)) → turn (first.bytes ∷ files) ≡ helm_turn next script mission files
    = λ files. ap (turn_behind ScriptFile (λ script. helm_turn (vehicle_turn script vehicle contacts) script mission files)) first.good in
    read_on nothing_written _ _ _ _ _ _ _ _ turn [] ScriptFile c.args.script.now read script first c.in-Err-load_helm.status c.in-Ok.ensures.same.0 c.in-Ok.ensures.same.1 refl
    (ends_so nothing_written next script mission turn (first.bytes ∷ []) behind (surroundings _ _ _ _ _) c.in-Err-load_helm.status (c.in-Err-load_helm.ensures.ends taken faults))

pub returns-in-Err-load_craft-clause-ends : goal.returns-in-Err-load_craft-clause-ends
returns-in-Err-load_craft-clause-ends g c = λ taken faults.
    let contacts = c.args.contacts.now in
    let vehicle = c.args.vehicle.now in
    let mission = c.args.mission.now in
    let turn : List (List ℕ) → FileTurn Simulation = simulate_turn c.args.script.now mission vehicle contacts in
    let read = simulated_script (is_some contacts) in
    let script = c.in-Ok.script in
    let first = subst (λ watched. WasRead (g.F.Folder.told c.args.folder.now) (g.F.Folder.heard c.args.folder.now) (g.F.Folder.heard c.load_simulated.new.folder) c.args.script.now (simulated_script watched) script) c.is_some.ensures c.in-Ok.ensures.read in
    let next = vehicle_turn script vehicle contacts in
    let behind : (files : List (List ℕ)) → turn (first.bytes ∷ files) ≡ helm_turn next script mission files
    = λ files. ap (turn_behind ScriptFile (λ script. helm_turn (vehicle_turn script vehicle contacts) script mission files)) first.good in
    let status = c.in-Err-load_craft.status in
    let helm = c.in-Ok-load_helm.files in
    let were = c.in-Ok-load_helm.ensures.loaded in
    let run = surroundings (g.F.Folder.told c.load_simulated.new.folder) (g.F.Folder.sure c.load_simulated.new.folder) (g.F.Folder.heard c.load_simulated.new.folder) (g.F.Folder.heard c.load_craft.new.folder) (sinking taken taken faults faults) in
    let later = surroundings (g.F.Folder.told c.load_helm.new.folder) (g.F.Folder.sure c.load_helm.new.folder) (g.F.Folder.heard c.load_helm.new.folder) (g.F.Folder.heard c.load_craft.new.folder) (sinking taken taken faults faults) in
    let is : IsFurther run later = record { told = c.in-Ok-load_helm.ensures.same.0; sure = c.in-Ok-load_helm.ensures.same.1; sink = refl; after = refl } in
    let done = both nothing_written next script mission turn (first.bytes ∷ []) behind run later is helm were in
    let further : (files : List (List ℕ)) → turn (done ++ files) ≡ next helm files = stands_behind nothing_written next script mission turn (first.bytes ∷ []) behind run later is helm were in
    read_on nothing_written _ _ _ _ _ _ _ _ turn [] ScriptFile c.args.script.now read script first status c.in-Ok.ensures.same.0 c.in-Ok.ensures.same.1 refl
    (goes_on nothing_written next script mission turn (first.bytes ∷ []) behind run later is helm were status
    (file_ends VehicleFile vehicle vehicle_of (λ craft files. contacts_turn script helm contacts craft files) (next helm) refl (λ bytes more. refl) nothing_written turn done further later status
    (c.in-Err-load_craft.ensures.ends taken faults)))

pub returns-in_default-clause-loaded : goal.returns-in_default-clause-loaded
returns-in_default-clause-loaded g c =
    let contacts = c.args.contacts.now in
    let vehicle = c.args.vehicle.now in
    let mission = c.args.mission.now in
    let turn : List (List ℕ) → FileTurn Simulation = simulate_turn c.args.script.now mission vehicle contacts in
    let read = simulated_script (is_some contacts) in
    let script = c.in-Ok.script in
    let first = subst (λ watched. WasRead (g.F.Folder.told c.args.folder.now) (g.F.Folder.heard c.args.folder.now) (g.F.Folder.heard c.load_simulated.new.folder) c.args.script.now (simulated_script watched) script) c.is_some.ensures c.in-Ok.ensures.read in
    let next = vehicle_turn script vehicle contacts in
    let behind : (files : List (List ℕ)) → turn (first.bytes ∷ files) ≡ helm_turn next script mission files
    = λ files. ap (turn_behind ScriptFile (λ script. helm_turn (vehicle_turn script vehicle contacts) script mission files)) first.good in
    let craft = c.in-Ok-load_craft.craft in
    let third = c.in-Ok-load_craft.ensures.read in
    let task : Simulation = record { script = script; files = c.in-Ok-load_helm.files; gear = record { craft = craft; ranges = None } } in
    let helm = c.in-Ok-load_helm.files in
    let were = c.in-Ok-load_helm.ensures.loaded in
    let run = surroundings (g.F.Folder.told c.load_simulated.new.folder) [] (g.F.Folder.heard c.load_simulated.new.folder) (g.F.Folder.heard c.load_craft.new.folder) no_sink in
    let later = surroundings (g.F.Folder.told c.load_helm.new.folder) [] (g.F.Folder.heard c.load_helm.new.folder) (g.F.Folder.heard c.load_craft.new.folder) no_sink in
    let is : IsFurther run later = record { told = c.in-Ok-load_helm.ensures.same.0; sure = refl; sink = refl; after = refl } in
    let done = both (task_alone task) next script mission turn (first.bytes ∷ []) behind run later is helm were in
    let further : (files : List (List ℕ)) → turn (done ++ files) ≡ next helm files = stands_behind (task_alone task) next script mission turn (first.bytes ∷ []) behind run later is helm were in
    has_loaded _ [] _ _ turn task
    (read_on (task_alone task) _ _ [] [] _ _ _ _ turn [] ScriptFile c.args.script.now read script first Done c.in-Ok.ensures.same.0 refl refl
    (goes_on (task_alone task) next script mission turn (first.bytes ∷ []) behind run later is helm were Done
    (read_on (task_alone task) _ _ [] [] _ _ _ _ turn done VehicleFile vehicle vehicle_of craft third Done c.in-Ok-load_craft.ensures.same.0 refl (ap turn (sym (append-nil done)) ∙ further [])
    (all_good (g.F.Folder.told c.load_craft.new.folder) [] (g.F.Folder.heard c.load_craft.new.folder) turn (done ++ third.bytes ∷ []) task
    (further (third.bytes ∷ []) ∙ ap (turn_behind VehicleFile (λ craft. contacts_turn script helm contacts craft [])) third.good ∙ ap (λ contacts. contacts_turn script helm contacts craft []) c.in_default.is)))))

pub returns-in-Err-load_ranges-clause-ends : goal.returns-in-Err-load_ranges-clause-ends
returns-in-Err-load_ranges-clause-ends g c = λ taken faults.
    let contacts = c.args.contacts.now in
    let vehicle = c.args.vehicle.now in
    let mission = c.args.mission.now in
    let turn : List (List ℕ) → FileTurn Simulation = simulate_turn c.args.script.now mission vehicle contacts in
    let read = simulated_script (is_some contacts) in
    let script = c.in-Ok.script in
    let first = subst (λ watched. WasRead (g.F.Folder.told c.args.folder.now) (g.F.Folder.heard c.args.folder.now) (g.F.Folder.heard c.load_simulated.new.folder) c.args.script.now (simulated_script watched) script) c.is_some.ensures c.in-Ok.ensures.read in
    let next = vehicle_turn script vehicle contacts in
    let behind : (files : List (List ℕ)) → turn (first.bytes ∷ files) ≡ helm_turn next script mission files
    = λ files. ap (turn_behind ScriptFile (λ script. helm_turn (vehicle_turn script vehicle contacts) script mission files)) first.good in
    let status = c.in-Err-load_ranges.status in
    let craft = c.in-Ok-load_craft.craft in
    let third = c.in-Ok-load_craft.ensures.read in
    let helm = c.in-Ok-load_helm.files in
    let were = c.in-Ok-load_helm.ensures.loaded in
    let run = surroundings (g.F.Folder.told c.load_simulated.new.folder) (g.F.Folder.sure c.load_simulated.new.folder) (g.F.Folder.heard c.load_simulated.new.folder) (g.F.Folder.heard c.load_ranges.new.folder) (sinking taken taken faults faults) in
    let later = surroundings (g.F.Folder.told c.load_helm.new.folder) (g.F.Folder.sure c.load_helm.new.folder) (g.F.Folder.heard c.load_helm.new.folder) (g.F.Folder.heard c.load_ranges.new.folder) (sinking taken taken faults faults) in
    let is : IsFurther run later = record { told = c.in-Ok-load_helm.ensures.same.0; sure = c.in-Ok-load_helm.ensures.same.1; sink = refl; after = refl } in
    let done = both nothing_written next script mission turn (first.bytes ∷ []) behind run later is helm were in
    let further : (files : List (List ℕ)) → turn (done ++ files) ≡ next helm files = stands_behind nothing_written next script mission turn (first.bytes ∷ []) behind run later is helm were in
    let wanted : (files : List (List ℕ)) → turn ((done ++ third.bytes ∷ []) ++ files) ≡ contacts_turn script helm (Some c.in-Some.contacts) craft files
    = λ files. ap turn (append_assoc done (third.bytes ∷ []) files) ∙ further (third.bytes ∷ files) ∙ ap (turn_behind VehicleFile (λ craft. contacts_turn script helm contacts craft files)) third.good
    ∙ ap (λ contacts. contacts_turn script helm contacts craft files) c.in-Some.is in
    read_on nothing_written _ _ _ _ _ _ _ _ turn [] ScriptFile c.args.script.now read script first status c.in-Ok.ensures.same.0 c.in-Ok.ensures.same.1 refl
    (goes_on nothing_written next script mission turn (first.bytes ∷ []) behind run later is helm were status
    (read_on nothing_written _ _ _ _ _ _ _ _ turn done VehicleFile vehicle vehicle_of craft third status c.in-Ok-load_craft.ensures.same.0 c.in-Ok-load_craft.ensures.same.1 (ap turn (sym (append-nil done)) ∙ further [])
    (file_ends ContactsFile c.in-Some.contacts ranges_of (λ ranges files. all_read script helm craft (Some ranges)) (contacts_turn script helm (Some c.in-Some.contacts) craft) refl (λ bytes more. refl) nothing_written turn (done ++ third.bytes ∷ []) wanted
    (surroundings _ _ _ _ _) status (c.in-Err-load_ranges.ensures.ends taken faults))))

pub returns-clause-loaded : goal.returns-clause-loaded
returns-clause-loaded g c =
    let contacts = c.args.contacts.now in
    let vehicle = c.args.vehicle.now in
    let mission = c.args.mission.now in
    let turn : List (List ℕ) → FileTurn Simulation = simulate_turn c.args.script.now mission vehicle contacts in
    let read = simulated_script (is_some contacts) in
    let script = c.in-Ok.script in
    let first = subst (λ watched. WasRead (g.F.Folder.told c.args.folder.now) (g.F.Folder.heard c.args.folder.now) (g.F.Folder.heard c.load_simulated.new.folder) c.args.script.now (simulated_script watched) script) c.is_some.ensures c.in-Ok.ensures.read in
    let next = vehicle_turn script vehicle contacts in
    let behind : (files : List (List ℕ)) → turn (first.bytes ∷ files) ≡ helm_turn next script mission files
    = λ files. ap (turn_behind ScriptFile (λ script. helm_turn (vehicle_turn script vehicle contacts) script mission files)) first.good in
    let craft = c.in-Ok-load_craft.craft in
    let third = c.in-Ok-load_craft.ensures.read in
    let ranges = c.in-Ok-load_ranges.ranges in
    let last = c.in-Ok-load_ranges.ensures.read in
    let task : Simulation = record { script = script; files = c.in-Ok-load_helm.files; gear = record { craft = craft; ranges = Some ranges } } in
    let helm = c.in-Ok-load_helm.files in
    let were = c.in-Ok-load_helm.ensures.loaded in
    let run = surroundings (g.F.Folder.told c.load_simulated.new.folder) [] (g.F.Folder.heard c.load_simulated.new.folder) (g.F.Folder.heard c.load_ranges.new.folder) no_sink in
    let later = surroundings (g.F.Folder.told c.load_helm.new.folder) [] (g.F.Folder.heard c.load_helm.new.folder) (g.F.Folder.heard c.load_ranges.new.folder) no_sink in
    let is : IsFurther run later = record { told = c.in-Ok-load_helm.ensures.same.0; sure = refl; sink = refl; after = refl } in
    let done = both (task_alone task) next script mission turn (first.bytes ∷ []) behind run later is helm were in
    let further : (files : List (List ℕ)) → turn (done ++ files) ≡ next helm files = stands_behind (task_alone task) next script mission turn (first.bytes ∷ []) behind run later is helm were in
    let wanted : (files : List (List ℕ)) → turn ((done ++ third.bytes ∷ []) ++ files) ≡ contacts_turn script helm (Some c.in-Some.contacts) craft files
    = λ files. ap turn (append_assoc done (third.bytes ∷ []) files) ∙ further (third.bytes ∷ files) ∙ ap (turn_behind VehicleFile (λ craft. contacts_turn script helm contacts craft files)) third.good
    ∙ ap (λ contacts. contacts_turn script helm contacts craft files) c.in-Some.is in
    has_loaded _ [] _ _ turn task
    (read_on (task_alone task) _ _ [] [] _ _ _ _ turn [] ScriptFile c.args.script.now read script first Done c.in-Ok.ensures.same.0 refl refl
    (goes_on (task_alone task) next script mission turn (first.bytes ∷ []) behind run later is helm were Done
    (read_on (task_alone task) _ _ [] [] _ _ _ _ turn done VehicleFile vehicle vehicle_of craft third Done c.in-Ok-load_craft.ensures.same.0 refl (ap turn (sym (append-nil done)) ∙ further [])
    (read_on (task_alone task) _ _ [] [] _ _ _ _ turn (done ++ third.bytes ∷ []) ContactsFile c.in-Some.contacts ranges_of ranges last Done c.in-Ok-load_ranges.ensures.same.0 refl (ap turn (sym (append-nil (done ++ third.bytes ∷ []))) ∙ wanted [])
    (all_good (g.F.Folder.told c.load_ranges.new.folder) [] (g.F.Folder.heard c.load_ranges.new.folder) turn ((done ++ third.bytes ∷ []) ++ last.bytes ∷ []) task
    (wanted (last.bytes ∷ []) ∙ ap (turn_behind ContactsFile (λ ranges. all_read script helm craft (Some ranges))) last.good))))))
