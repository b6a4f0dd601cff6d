-- The steps of a run: files are loaded one after another, the last is good or refused, and what a job writes is put.
use Rattle.std.proofs.Common.{◌≡◌, ℕ, List, [], ◌∷◌, ◌++◌, inl, inr, refl, ap, sym, ◌∙◌, subst, append_assoc, append-nil}
use Rattle.std.specs.Prelude.{Option, Some, None, Result, Ok, Err, OnOk, OnErr, false}
use Rattle.moos_files.specs.declared.folder.LoadFault.{LoadFault}
use Rattle.moos_files.specs.declared.folder.LoadFault.TheVariants.{Failed, NoMemory as NoMemoryToLoad}
use Rattle.moos_files.specs.Asked.{Load}
use Rattle.moos_io.specs.Faults.{Fares, Faring, Fell, Rose}
use Rattle.moos_files.specs.Heard.{Hearing, failed_load, given_load, with_loads}
use Rattle.moos_files.specs.Files.{CameFrom, Loaded, is_among}
use Rattle.moos_io.specs.Pieces.{Took, TookFront}
use Rattle.moos_text.specs.Refusals.{IsFirst}
use Rattle.moos_text.specs.declared.cause.ReadFault.{ReadFault}
use Rattle.moos_text.specs.declared.cause.ReadFault.TheVariants.{At, NoMemory as Unread}
use Rattle.command_line.specs.declared.status.FileKind.{FileKind}
use Rattle.command_line.specs.declared.status.Status.{Status}
use Rattle.command_line.specs.declared.status.Status.TheVariants.{LoadFault as Unloaded, WriteFault, NoMemory}
use Rattle.command_line.specs.Endings.{DidFrom, Ended, EndsFrom, FailsFrom, IsHeard, IsUntouched, Outcomes, Sinking, Surroundings, WroteAll, sinking, status_of, surroundings}
use Rattle.command_line.specs.Turns.{AreLoaded, FileTurn, HasBytes, Ready, Wanted, WasWanted, loads_of, name_wanted, turn_behind}

-- what was loaded behind no bytes is the whole file
pub whole : (told : Option (List ℕ → Option (List ℕ))) (name before now : List ℕ) → before ≡ [] → Loaded told name before now → HasBytes told name now
whole None name before now none loaded = loaded
whole (Some files) name before now none loaded = of (files name) (subst (λ (bytes : List ℕ). CameFrom (files name) bytes now) none loaded)
  where
    of : (file : Option (List ℕ)) → CameFrom file [] now → file ≡ Some now
    of None came = absurd came
    of (Some bytes) came = ap (λ (one : List ℕ). Some one) (sym came)

-- what is heard of loads one after another
heard_both : (before between after : Hearing) (load : Load) (loads : List Load) → between ≡ with_loads before (load ∷ []) → after ≡ with_loads between loads → after ≡ with_loads before (load ∷ loads)
heard_both before between after load loads one other =
    other ∙ (ap (λ heard. with_loads heard loads) one ∙ ap (λ (all : List Load). record { faults = before.faults; loads = all }) (append_assoc before.loads (load ∷ []) loads))

loads_both : (before between : Hearing) (load : Load) (rest all : List Load) → between ≡ with_loads before (load ∷ []) → all ≡ between.loads ++ rest → all ≡ before.loads ++ (load ∷ rest)
loads_both before between load rest all one other = other ∙ (ap (λ (heard : Hearing). heard.loads ++ rest) one ∙ append_assoc before.loads (load ∷ []) rest)

-- two loads
pub heard_twice : (before between after : Hearing) (load other : Load) → between ≡ with_loads before (load ∷ []) → after ≡ with_loads between (other ∷ []) → after ≡ with_loads before (load ∷ other ∷ [])
heard_twice before between after load other one two = heard_both before between after load (other ∷ []) one two

-- the same, of a job that wants the same file
pub heard_for : {A T : Type 0} (turn : FileTurn A) (other : FileTurn T) (status : Status) (before after : Hearing) (one two : List Load)
    → ((kind : FileKind) (name : List ℕ) → turn ≡ Wanted kind name → other ≡ Wanted kind name) → one ≡ two → IsHeard turn status before after one → IsHeard other status before after two
heard_for turn other NoMemory before after one two wants same (inl heard) = inl (heard ∙ ap (with_loads before) same)
heard_for turn other NoMemory before after one two wants same (inr out) = inr (record {
  kind = out.kind;
  name = out.name;
  wanted = wants out.kind out.name out.wanted;
  heard = out.heard ∙ ap (λ (loads : List Load). before.loads ++ (loads ++ failed_load out.name ∷ [])) same;
})
heard_for turn other status before after one two wants same heard = heard ∙ ap (with_loads before) same

module _ {T : Type 0} where
  -- loads that were all good
  heard_all : (turn : FileTurn T) (status : Status) (before after : Hearing) (loads : List Load) → after ≡ with_loads before loads → IsHeard turn status before after loads
  heard_all turn NoMemory before after loads heard = inl heard
  heard_all turn status before after loads heard = heard

  heard_more : (turn other : FileTurn T) (status : Status) (before between after : Hearing) (load : Load) (loads : List Load) → turn ≡ other → between ≡ with_loads before (load ∷ [])
      → IsHeard turn status between after loads → IsHeard other status before after (load ∷ loads)
  heard_more turn other NoMemory before between after load loads same one (inl heard) = inl (heard_both before between after load loads one heard)
  heard_more turn other NoMemory before between after load loads same one (inr out) = inr (record {
    kind = out.kind;
    name = out.name;
    wanted = sym same ∙ out.wanted;
    heard = loads_both before between load (loads ++ failed_load out.name ∷ []) after.loads one out.heard;
  })
  heard_more turn other status before between after load loads same one heard = heard_both before between after load loads one heard

module _ {T : Type 0} (outcomes : Outcomes T) where
  -- nothing was put when no memory was left
  pub nothing_put : (turn : FileTurn T) (taken : Option (List ℕ)) (faults : Faring) → Ended outcomes turn (sinking taken taken faults faults) NoMemory
  nothing_put turn taken faults = inl (record { taken = refl; faults = refl })

  -- a job that needs no more files has ended with those that it has
  ended_here : (run : Surroundings) (turn : List (List ℕ) → FileTurn T) (front : List (List ℕ)) (status : Status) → run.heard_after ≡ run.heard_before → Ended outcomes (turn front) run.sink status
      → DidFrom outcomes run turn front status
  ended_here run turn front status heard ended = record {
    files = [];
    loaded = tt;
    heard = heard_all (turn (front ++ [])) status run.heard_before run.heard_after []
        (heard ∙ ap (λ (all : List Load). record { faults = run.heard_before.faults; loads = all }) (sym (append-nil run.heard_before.loads)));
    ended = subst (λ files. Ended outcomes (turn files) run.sink status) (sym (append-nil front)) ended;
  }

  pub ends_here : (run : Surroundings) (turn : List (List ℕ) → FileTurn T) (front : List (List ℕ)) (status : Status) → run.heard_after ≡ run.heard_before → Ended outcomes (turn front) run.sink status
      → EndsFrom outcomes run turn front status
  ends_here run turn front Unloaded heard ended = absurd ended
  ends_here run turn front status heard ended = ended_here run turn front status heard ended

-- a file that is wanted was loaded, and no other; the folder tells the same in the rest of the run
pub record IsBehind (run later : Surroundings) (name bytes : List ℕ) : Type 0 where
  pub told : later.told ≡ run.told
  pub sure : later.sure ≡ run.sure
  pub sink : later.sink ≡ run.sink
  pub before : later.heard_before ≡ with_loads run.heard_before (given_load name bytes ∷ [])
  pub after : later.heard_after ≡ run.heard_after

module _ {T : Type 0} (outcomes : Outcomes T) (run later : Surroundings) (turn : List (List ℕ) → FileTurn T) (front : List (List ℕ)) (kind : FileKind) (name loaded bytes : List ℕ)
    (is : IsBehind run later loaded bytes) (wanted : turn front ≡ Wanted kind name) (named : loaded ≡ name) (content : HasBytes run.told loaded bytes) where
  first : WasWanted run.told (turn front) bytes
  first = subst (λ turn. WasWanted run.told turn bytes) (sym wanted) (subst (λ name. HasBytes run.told name bytes) named content)

  loaded_more : (files : List (List ℕ)) → AreLoaded later.told turn (front ++ bytes ∷ []) files → AreLoaded run.told turn front (bytes ∷ files)
  loaded_more files loaded = (first, subst (λ told. AreLoaded told turn (front ++ bytes ∷ []) files) is.told loaded)

  -- the load of this file, by the name that is wanted
  one_more_load : later.heard_before ≡ with_loads run.heard_before (given_load (name_wanted (turn front)) bytes ∷ [])
  one_more_load = is.before ∙ ap (λ name. with_loads run.heard_before (given_load name bytes ∷ [])) (named ∙ sym (ap name_wanted wanted))

  did_more : (status : Status) → DidFrom outcomes later turn (front ++ bytes ∷ []) status → DidFrom outcomes run turn front status
  did_more status did = record {
    files = bytes ∷ did.files;
    loaded = loaded_more did.files did.loaded;
    heard = subst (λ after. IsHeard (turn (front ++ bytes ∷ did.files)) status run.heard_before after (loads_of turn front (bytes ∷ did.files))) is.after
        (heard_more (turn ((front ++ bytes ∷ []) ++ did.files)) (turn (front ++ bytes ∷ did.files)) status run.heard_before later.heard_before later.heard_after (given_load (name_wanted (turn front)) bytes)
        (loads_of turn (front ++ bytes ∷ []) did.files) (ap turn (append_assoc front (bytes ∷ []) did.files)) one_more_load did.heard);
    ended = subst (λ sink. Ended outcomes (turn (front ++ bytes ∷ did.files)) sink status) is.sink
        (subst (λ files. Ended outcomes (turn files) later.sink status) (append_assoc front (bytes ∷ []) did.files) did.ended);
  }

  fails_more : FailsFrom later turn (front ++ bytes ∷ []) → FailsFrom run turn front
  fails_more fails = record {
    rose = subst (λ (before : ℕ). Rose before run.heard_after.faults) (ap (λ (heard : Hearing). heard.faults) is.before)
        (subst (λ (after : Hearing). Rose later.heard_before.faults after.faults) is.after fails.rose);
    files = bytes ∷ fails.files;
    loaded = loaded_more fails.files fails.loaded;
    kind = fails.kind;
    name = fails.name;
    wanted = ap turn (sym (append_assoc front (bytes ∷ []) fails.files)) ∙ fails.wanted;
    heard = loads_both run.heard_before later.heard_before (given_load (name_wanted (turn front)) bytes) (loads_of turn (front ++ bytes ∷ []) fails.files ++ failed_load fails.name ∷ []) run.heard_after.loads one_more_load
        (sym (ap (λ (heard : Hearing). heard.loads) is.after) ∙ fails.heard);
    unsure = ap (λ sure. is_among sure fails.name) (sym is.sure) ∙ fails.unsure;
    silent = subst IsUntouched is.sink fails.silent;
  }

  -- so the job goes on as it does with this file behind the others
  pub went_on : (status : Status) → EndsFrom outcomes later turn (front ++ bytes ∷ []) status → EndsFrom outcomes run turn front status
  went_on Unloaded goes = fails_more goes
  went_on status goes = did_more status goes

module _ {T : Type 0} (outcomes : Outcomes T) where
  -- so a job whose last file is this one ends as it stands then
  pub last_ends : (told : Option (List ℕ → Option (List ℕ))) (sure : List (List ℕ)) (before after : Hearing) (sink : Sinking) (turn : List (List ℕ) → FileTurn T) (front : List (List ℕ)) (kind : FileKind)
      (name loaded bytes : List ℕ) (last : FileTurn T) (status : Status) → turn front ≡ Wanted kind name → loaded ≡ name → HasBytes told loaded bytes
      → after ≡ with_loads before (given_load loaded bytes ∷ []) → turn (front ++ bytes ∷ []) ≡ last → Ended outcomes last sink status → EndsFrom outcomes (surroundings told sure before after sink) turn front status
  last_ends told sure before after sink turn front kind name loaded bytes last status wanted named content later is ended =
      let rest : Surroundings = surroundings told sure after after sink in
      went_on outcomes (surroundings told sure before after sink) rest turn front kind name loaded bytes (record { told = refl; sure = refl; sink = refl; before = later; after = refl }) wanted named content status
      (ends_here outcomes rest turn (front ++ bytes ∷ []) status refl (subst (λ turn. Ended outcomes turn sink status) (sym is) ended))

  -- a job whose next file can't be loaded ends with that, and nothing is written
  pub load_ends : (told : Option (List ℕ → Option (List ℕ))) (sure : List (List ℕ)) (before after : Hearing) (taken : Option (List ℕ)) (faults : Faring) (turn : List (List ℕ) → FileTurn T) (front : List (List ℕ))
      (kind : FileKind) (name loaded : List ℕ) (fault : LoadFault) (status : Status) → turn front ≡ Wanted kind name → loaded ≡ name
      → after.loads ≡ before.loads ++ failed_load loaded ∷ [] → (fault ≡ Failed → Rose before.faults after.faults) → (fault ≡ Failed → is_among sure loaded ≡ false)
      → (fault ≡ Failed → status ≡ Unloaded) → (fault ≡ NoMemoryToLoad → status ≡ NoMemory)
      → EndsFrom outcomes (surroundings told sure before after (sinking taken taken faults faults)) turn front status
  load_ends told sure before after taken faults turn front kind name loaded Failed status wanted named heard rose unsure failed memory =
      rw (failed refl) (record {
        rose = rose refl;
        files = [];
        loaded = tt;
        kind = kind;
        name = name;
        wanted = ap turn (append-nil front) ∙ wanted;
        heard = heard ∙ ap (λ name. before.loads ++ failed_load name ∷ []) named;
        unsure = ap (is_among sure) (sym named) ∙ unsure refl;
        silent = record { taken = refl; faults = refl };
      })
  load_ends told sure before after taken faults turn front kind name loaded NoMemoryToLoad status wanted named heard rose unsure failed memory =
      rw (memory refl) (record {
        files = [];
        loaded = tt;
        heard = inr (record {
          kind = kind;
          name = name;
          wanted = ap turn (append-nil front) ∙ wanted;
          heard = heard ∙ ap (λ name. before.loads ++ failed_load name ∷ []) named;
        });
        ended = nothing_put outcomes (turn (front ++ [])) taken faults;
      })

  -- a job whose last file is refused ends with the first refusal, and nothing is written
  pub refusal_ends : {A : Type 0} (next : A → FileTurn T) (kind : FileKind) (read : Result A ReadFault) (fault : ReadFault) (status : Status) (taken : Option (List ℕ)) (faults : Faring)
      → IsFirst fault read → status ≡ status_of kind fault → Ended outcomes (turn_behind kind next read) (sinking taken taken faults faults) status
  refusal_ends next kind read (At line cause) status taken faults first is = rw is (ap (turn_behind kind next) first, record { taken = refl; faults = refl })
  refusal_ends next kind read Unread status taken faults first is = rw is (nothing_put outcomes (turn_behind kind next read) taken faults)

  -- a job that puts a text which it may write to end with this status, or fails at that
  pub put_ends : {E : Type 0} (turn : FileTurn T) (task : T) (text : List ℕ) (meant status : Status) (sink : Sinking) (put : Result (Unit {0}) E)
      → (WroteAll outcomes turn meant sink → Ended outcomes turn sink meant) → turn ≡ Ready task → outcomes.MayWrite task meant text → OnOk put (Took sink.taken_before sink.taken_after text)
      → OnErr put (TookFront sink.taken_before sink.taken_after text) → Fares put sink.fared_before sink.fared_after → OnErr put (Fell sink.fared_before sink.fared_after sink.taken_after)
      → OnOk put (status ≡ meant) → OnErr put (status ≡ WriteFault) → Ended outcomes turn sink status
  put_ends turn task text meant status sink (Ok put) ends good output took front fares rose all fault =
      rw all (ends (record { task = task; good = good; text = text; output = output; took = took; fared = fares }))
  put_ends turn task text meant status sink (Err failed) ends good output took front fares rose all fault =
      rw fault (record { task = task; good = good; status = meant; text = text; output = output; took = front }, rose)
