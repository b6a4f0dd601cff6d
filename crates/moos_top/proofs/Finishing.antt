-- What a run did whose standard output failed when it passed on the last of what it held.
use Rattle.std.proofs.Common.{◌≡◌, ℕ, ◌+◌, ◌<◌, inl, inr, Some, None, Option, List, [], ◌++◌, length, take, ap, sym, subst, ◌∙◌, arith, length-append, length-take}
use Rattle.std.proofs.Math.Seq.{take-append-add}
use Rattle.std.proofs.lemmas.List.{take-take}
use Rattle.moos_files.specs.Answers.{unsure_faring}
use Rattle.moos_files.specs.Asked.{Load}
use Rattle.moos_files.specs.Heard.{Hearing, with_loads}
use Rattle.moos_io.specs.Faults.{Rose}
use Rattle.moos_io.specs.Pieces.{Took, TookFront}
use Rattle.command_line.specs.declared.status.Status.{Status}
use Rattle.command_line.specs.declared.status.Status.TheVariants.{Done, CheckNo, Usage, LoadFault, WriteFault, Refused, NoMemory}
use Rattle.command_line.specs.Endings.{DidFrom, Ended, EndsFrom, IsHeard, IsUntouched, Outcomes, Sinking, WroteAll, WroteFront, sinking, surroundings}
use Rattle.command_line.specs.Turns.{FileTurn, Ready, Wanted, loads_of}
use Rattle.moos_jobs.specs.Jobs.{outcomes, turn_of}
use Rattle.moos_jobs.specs.Run.{DidJob, EndsWith}

-- what a box holds
abbrev in_box : List ℕ → Option (List ℕ) → List ℕ
in_box none None = none
in_box none (Some bytes) = bytes

inside : (one other : List ℕ) → Some one ≡ Some other → one ≡ other
inside one other same = ap (in_box one) same

-- what went out before was `out`, and `held` was held; then a front of it went out, and the put of the rest failed
module _ (out held now : List ℕ) (before after : ℕ) (front : TookFront (Some out) (Some now) held) (rose : Rose before after) where
  abbrev pub sink_before : Sinking
  sink_before = sinking (Some []) (Some (out ++ held)) (unsure_faring 0) (unsure_faring before)

  abbrev pub sink_after : Sinking
  sink_after = sinking (Some []) (Some now) (unsure_faring 0) (unsure_faring after)

  -- what went out is a front of both
  abbrev count : ℕ
  count = length out + front.0

  is_less : count < length (out ++ held)
  is_less = omega (arith, front.1, length-append out held)

  is_front : now ≡ take count (out ++ held)
  is_front = inside now (out ++ take front.0 held) front.2 ∙ sym (take-append-add out held front.0)

  -- a whole text was put: not all of it went out
  from_whole : (text : List ℕ) → Took (Some []) (Some (out ++ held)) text → TookFront (Some []) (Some now) text
  from_whole text took =
      let same : out ++ held ≡ text = inside (out ++ held) text took in
      (count, subst (λ all. count < length all) same is_less, ap Some (is_front ∙ ap (take count) same))

  -- a front of it was put: a shorter one went out
  from_front : (text : List ℕ) → TookFront (Some []) (Some (out ++ held)) text → TookFront (Some []) (Some now) text
  from_front text put =
      let same : out ++ held ≡ take put.0 text = inside (out ++ held) (take put.0 text) put.2 in
      let less : count < length (take put.0 text) = subst (λ all. count < length all) same is_less in
      let fewer : count < put.0 = omega (arith, less, length-take put.0 text) in (
        count,
        omega (arith, fewer, put.1),
        ap Some (is_front ∙ ap (take count) same ∙ take-take count put.0 text (omega (arith, fewer))),
      )

  -- nothing was put: nothing can be held
  not_untouched : IsUntouched sink_before → ⊥
  not_untouched silent =
      let none : out ++ held ≡ [] = inside (out ++ held) [] silent.taken in
      absurd (omega (arith, subst (λ all. count < length all) none is_less))

  fell : Rose 0 after
  fell = by rose where
    by : Rose before after → Rose 0 after
    by (inl more) = inl (omega arith)
    by (inr most) = inr most

  module _ {T : Type 0} (outcomes : Outcomes T) where
    front_of_whole : (turn : FileTurn T) (status : Status) → WroteAll outcomes turn status sink_before → WroteFront outcomes turn sink_after
    front_of_whole turn status wrote = record {
      task = wrote.task;
      good = wrote.good;
      status = status;
      text = wrote.text;
      output = wrote.output;
      took = from_whole wrote.text wrote.took;
    }

    front_of_front : (turn : FileTurn T) → WroteFront outcomes turn sink_before → WroteFront outcomes turn sink_after
    front_of_front turn wrote = record {
      task = wrote.task;
      good = wrote.good;
      status = wrote.status;
      text = wrote.text;
      output = wrote.output;
      took = from_front wrote.text wrote.took;
    }

    wrote_front : (turn : FileTurn T) (status : Status) → Ended outcomes turn sink_before status → WroteFront outcomes turn sink_after
    wrote_front turn Done wrote = front_of_whole turn Done wrote
    wrote_front turn CheckNo wrote = front_of_whole turn CheckNo wrote
    wrote_front turn Usage none = absurd none
    wrote_front turn LoadFault none = absurd none
    wrote_front turn WriteFault wrote = front_of_front turn wrote.0
    wrote_front turn (Refused refusal) silent = absurd (not_untouched silent.1)
    wrote_front turn NoMemory (inl silent) = absurd (not_untouched silent)
    wrote_front turn NoMemory (inr part) = front_of_front turn part.front

    -- where something was written, no load was the last
    were_loaded : (turn : FileTurn T) (status : Status) (before after : Hearing) (loads : List Load) → WroteFront outcomes turn sink_after → IsHeard turn status before after loads → after ≡ with_loads before loads
    were_loaded turn NoMemory before after loads wrote (inl heard) = heard
    were_loaded turn NoMemory before after loads wrote (inr out) =
        let never : Ready wrote.task ≡ Wanted out.kind out.name = sym wrote.good ∙ out.wanted in
        cc
    were_loaded turn Done before after loads wrote heard = heard
    were_loaded turn CheckNo before after loads wrote heard = heard
    were_loaded turn Usage before after loads wrote heard = heard
    were_loaded turn LoadFault before after loads wrote heard = heard
    were_loaded turn WriteFault before after loads wrote heard = heard
    were_loaded turn (Refused refusal) before after loads wrote heard = heard

    module _ (told : Option (List ℕ → Option (List ℕ))) (sure : List (List ℕ)) (heard_before heard_after : Hearing) (turn : List (List ℕ) → FileTurn T) (first : List (List ℕ)) where
      did_fail : (status : Status) → DidFrom outcomes (surroundings told sure heard_before heard_after sink_before) turn first status
          → DidFrom outcomes (surroundings told sure heard_before heard_after sink_after) turn first WriteFault
      did_fail status did =
          let wrote = wrote_front (turn (first ++ did.files)) status did.ended in
          record {
            files = did.files;
            loaded = did.loaded;
            heard = were_loaded (turn (first ++ did.files)) status heard_before heard_after (loads_of turn first did.files) wrote did.heard;
            ended = (wrote, record { rose = fell; past = omega arith });
          }

      pub ends_failed : (status : Status) → EndsFrom outcomes (surroundings told sure heard_before heard_after sink_before) turn first status
          → EndsFrom outcomes (surroundings told sure heard_before heard_after sink_after) turn first WriteFault
      ends_failed LoadFault fails = absurd (not_untouched fails.silent)
      ends_failed Done did = did_fail Done did
      ends_failed CheckNo did = did_fail CheckNo did
      ends_failed Usage did = did_fail Usage did
      ends_failed WriteFault did = did_fail WriteFault did
      ends_failed (Refused refusal) did = did_fail (Refused refusal) did
      ends_failed NoMemory did = did_fail NoMemory did

  module _ (told : Option (List ℕ → Option (List ℕ))) (sure : List (List ℕ)) (heard_before heard_after : Hearing) (words : List (List ℕ)) where
    job_failed : (status : Status) → DidJob words (surroundings told sure heard_before heard_after sink_before) status
        → DidJob words (surroundings told sure heard_before heard_after sink_after) WriteFault
    job_failed status did = record {
      job = did.job;
      named = did.named;
      ended = ends_failed outcomes told sure heard_before heard_after (turn_of did.job) [] status did.ended;
    }

    -- whatever the run's own status is
    pub run_failed : (status : Status) → EndsWith words (surroundings told sure heard_before heard_after sink_before) status
        → EndsWith words (surroundings told sure heard_before heard_after sink_after) WriteFault
    run_failed Usage none = absurd (not_untouched none.silent)
    run_failed NoMemory (inl none) = absurd (not_untouched none.silent)
    run_failed NoMemory (inr did) = job_failed NoMemory did
    run_failed Done did = job_failed Done did
    run_failed CheckNo did = job_failed CheckNo did
    run_failed LoadFault did = job_failed LoadFault did
    run_failed WriteFault did = job_failed WriteFault did
    run_failed (Refused refusal) did = job_failed (Refused refusal) did
