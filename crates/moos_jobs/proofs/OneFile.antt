-- One file of a job: it couldn't be loaded, or isn't good, or was read.
use Rattle.std.proofs.Common.{◌≡◌, ◌∙◌, ◌++◌, ◌∷◌, ℕ, List, [], false, refl, ap, subst}
use Rattle.std.specs.Prelude.{Ok, Option, Result}
use Rattle.command_line.proofs.Loading.{last_ends, load_ends, refusal_ends}
use Rattle.command_line.specs.declared.status.FileKind.{FileKind}
use Rattle.command_line.specs.declared.status.Status.{Status}
use Rattle.command_line.specs.declared.status.Status.TheVariants.{LoadFault as Unloaded, NoMemory}
use Rattle.command_line.specs.Endings.{sinking, status_of}
use Rattle.command_line.specs.Turns.{HasBytes, Ready, turn_behind}
use Rattle.moos_files.specs.declared.folder.LoadFault.{LoadFault}
use Rattle.moos_files.specs.declared.folder.LoadFault.TheVariants.{Failed, NoMemory as NoMemoryToLoad}
use Rattle.moos_files.specs.Files.{is_among}
use Rattle.moos_files.specs.Heard.{Hearing, failed_load, given_load, with_loads}
use Rattle.moos_io.specs.Faults.{Rose}
use Rattle.moos_jobs.specs.Loading.{file_turn, HasNotLoaded, nothing_written, WasRead}
use Rattle.moos_text.specs.declared.cause.ReadFault.{ReadFault}
use Rattle.moos_text.specs.Refusals.{IsFirst}

module _ {A : Type 0} (told : Option (List ℕ → Option (List ℕ))) (before after : Hearing) (kind : FileKind) (name loaded : List ℕ) (read : List ℕ → Result A ReadFault) (named : loaded ≡ name) where
  pub not_there : (sure : List (List ℕ)) (fault : LoadFault) (status : Status) → after.loads ≡ before.loads ++ failed_load loaded ∷ [] → (fault ≡ Failed → Rose before.faults after.faults)
      → (fault ≡ Failed → is_among sure loaded ≡ false) → (fault ≡ Failed → status ≡ Unloaded) → (fault ≡ NoMemoryToLoad → status ≡ NoMemory)
      → HasNotLoaded told sure before after (file_turn kind name read) status
  not_there sure fault status heard rose unsure failed memory = λ taken faults.
      load_ends nothing_written told sure before after taken faults (file_turn kind name read) [] kind name loaded fault status refl named heard rose unsure failed memory

  module _ (bytes : List ℕ) (content : HasBytes told loaded bytes) (heard : after ≡ with_loads before (given_load loaded bytes ∷ [])) where
    pub not_good : (sure : List (List ℕ)) (fault : ReadFault) (status : Status) → IsFirst fault (read bytes) → status ≡ status_of kind fault
        → HasNotLoaded told sure before after (file_turn kind name read) status
    not_good sure fault status first is = λ taken faults.
        last_ends nothing_written told sure before after (sinking taken taken faults faults) (file_turn kind name read) [] kind name loaded bytes (turn_behind kind (λ (value : A). Ready value) (read bytes)) status refl named content heard refl
        (refusal_ends nothing_written (λ (value : A). Ready value) kind (read bytes) fault status taken faults first is)

    pub was_read : (value : A) → read bytes ≡ Ok value → WasRead told before after name read value
    was_read value good = record {
      bytes = bytes;
      bytes_told = subst (λ name. HasBytes told name bytes) named content;
      good = good;
      heard = heard ∙ ap (λ name. with_loads before (given_load name bytes ∷ [])) named;
    }
