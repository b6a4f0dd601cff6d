-- A job whose tasks are among those of several jobs ends among them as it ends alone.
use Rattle.std.proofs.Common.{◌≡◌, ℕ, List, [], ◌∷◌, ◌++◌, inl, inr, refl, ap, ap₂, ◌∙◌}
use Rattle.std.specs.Prelude.{Option}
use Rattle.moos_files.specs.Asked.{Load}
use Rattle.moos_files.specs.Heard.{Hearing, failed_load, given_load, with_loads}
use Rattle.command_line.specs.declared.status.Status.{Status}
use Rattle.command_line.specs.declared.status.Status.TheVariants.{Done, CheckNo, Usage, LoadFault, WriteFault, Refused, NoMemory}
use Rattle.command_line.specs.Endings.{DidFrom, Ended, EndsFrom, IsHeard, Outcomes, Sinking, Surroundings, WroteAll, WroteFront, WrotePart}
use Rattle.command_line.specs.Turns.{AreLoaded, FileTurn, Ready, Unfit, Wanted, WasWanted, loads_of, name_wanted, turn_as}

module _ {T U : Type 0} (of : T → U) where
  wanted_as : (told : Option (List ℕ → Option (List ℕ))) (turn : FileTurn T) (bytes : List ℕ) → WasWanted told turn bytes → WasWanted told (turn_as of turn) bytes
  wanted_as told (Wanted kind name) bytes was = was
  wanted_as told (Ready task) bytes was = absurd was
  wanted_as told (Unfit kind fault) bytes was = absurd was

  loaded_as : (told : Option (List ℕ → Option (List ℕ))) (turn : List (List ℕ) → FileTurn T) (front files : List (List ℕ)) → AreLoaded told turn front files
      → AreLoaded told (λ files. turn_as of (turn files)) front files
  loaded_as told turn front [] loaded = tt
  loaded_as told turn front (bytes ∷ files) loaded = (wanted_as told (turn front) bytes loaded.0, loaded_as told turn (front ++ bytes ∷ []) files loaded.1)

module _ {T U : Type 0} (of : T → U) where
  same_name : (turn : FileTurn T) → name_wanted turn ≡ name_wanted (turn_as of turn)
  same_name (Wanted kind name) = refl
  same_name (Ready task) = refl
  same_name (Unfit kind fault) = refl

  same_loads : (turn : List (List ℕ) → FileTurn T) (front files : List (List ℕ)) → loads_of turn front files ≡ loads_of (λ files. turn_as of (turn files)) front files
  same_loads turn front [] = refl
  same_loads turn front (bytes ∷ files) = ap₂ (λ (name : List ℕ) (loads : List Load). given_load name bytes ∷ loads) (same_name (turn front)) (same_loads turn (front ++ bytes ∷ []) files)

  heard_as : (turn : FileTurn T) (status : Status) (before after : Hearing) (one other : List Load) → one ≡ other → IsHeard turn status before after one → IsHeard (turn_as of turn) status before after other
  heard_as turn NoMemory before after one other same (inl heard) = inl (heard ∙ ap (with_loads before) same)
  heard_as turn NoMemory before after one other same (inr out) = inr (record {
    kind = out.kind;
    name = out.name;
    wanted = ap (turn_as of) out.wanted;
    heard = out.heard ∙ ap (λ (loads : List Load). before.loads ++ (loads ++ failed_load out.name ∷ [])) same;
  })
  heard_as turn status before after one other same heard = heard ∙ ap (with_loads before) same

module _ {T U : Type 0} (of : T → U) (own : Outcomes T) (all : Outcomes U) (writes : (task : T) (status : Status) (text : List ℕ) → own.MayWrite task status text → all.MayWrite (of task) status text)
    (stands : (task : T) (text : List ℕ) → own.MayStand task text → all.MayStand (of task) text) where
  all_as : (turn : FileTurn T) (status : Status) (sink : Sinking) → WroteAll own turn status sink → WroteAll all (turn_as of turn) status sink
  all_as turn status sink wrote =
      record { task = of wrote.task; good = ap (turn_as of) wrote.good; text = wrote.text; output = writes wrote.task status wrote.text wrote.output; took = wrote.took; fared = wrote.fared }

  front_as : (turn : FileTurn T) (sink : Sinking) → WroteFront own turn sink → WroteFront all (turn_as of turn) sink
  front_as turn sink wrote = record {
    task = of wrote.task;
    good = ap (turn_as of) wrote.good;
    status = wrote.status;
    text = wrote.text;
    output = writes wrote.task wrote.status wrote.text wrote.output;
    took = wrote.took;
  }

  part_as : (turn : FileTurn T) (sink : Sinking) → WrotePart own turn sink → WrotePart all (turn_as of turn) sink
  unfolding front_as
  part_as turn sink wrote =
      record { front = front_as turn sink wrote.front; text = wrote.text; stands = stands wrote.front.task wrote.text wrote.stands; took = wrote.took; fared = wrote.fared }

  pub ended_as : (turn : FileTurn T) (sink : Sinking) (status : Status) → Ended own turn sink status → Ended all (turn_as of turn) sink status
  ended_as turn sink Done ended = all_as turn Done sink ended
  ended_as turn sink CheckNo ended = all_as turn CheckNo sink ended
  ended_as turn sink Usage ended = absurd ended
  ended_as turn sink LoadFault ended = absurd ended
  ended_as turn sink WriteFault ended = (front_as turn sink ended.0, ended.1)
  ended_as turn sink (Refused refusal) ended = (ap (turn_as of) ended.0, ended.1)
  ended_as turn sink NoMemory (inl untouched) = inl untouched
  ended_as turn sink NoMemory (inr part) = inr (part_as turn sink part)

  did_as : (run : Surroundings) (turn : List (List ℕ) → FileTurn T) (front : List (List ℕ)) (status : Status) → DidFrom own run turn front status → DidFrom all run (λ files. turn_as of (turn files)) front status
  did_as run turn front status did =
      record { files = did.files; loaded = loaded_as of run.told turn front did.files did.loaded; heard = heard_as of (turn (front ++ did.files)) status run.heard_before run.heard_after _ _ (same_loads of turn front did.files) did.heard; ended = ended_as (turn (front ++ did.files)) run.sink status did.ended }

  -- what the job's own crate says of how it ends, over the tasks of all
  pub ends_as : (run : Surroundings) (turn : List (List ℕ) → FileTurn T) (front : List (List ℕ)) (status : Status) → EndsFrom own run turn front status
      → EndsFrom all run (λ files. turn_as of (turn files)) front status
  ends_as run turn front LoadFault ends = record {
    rose = ends.rose;
    files = ends.files;
    loaded = loaded_as of run.told turn front ends.files ends.loaded;
    kind = ends.kind;
    name = ends.name;
    wanted = ap (turn_as of) ends.wanted;
    heard = ends.heard ∙ ap (λ (loads : List Load). run.heard_before.loads ++ (loads ++ failed_load ends.name ∷ [])) (same_loads of turn front ends.files);
    unsure = ends.unsure;
    silent = ends.silent;
  }
  ends_as run turn front status ends = did_as run turn front status ends
