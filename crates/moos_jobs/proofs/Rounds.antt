-- A play that is told as it comes: what each round adds, and what a front of it is a front of.
use Rattle.std.proofs.Common.{◌≡◌, ℕ, ◌+◌, ◌<◌, ◌≤◌, List, [], ◌++◌, length, take, drop, Option, None, Some, true, inl, inr, refl, ap, sym, ◌∙◌, subst, arith, length-append, append_assoc}
use Rattle.std.specs.Prelude.{◌⊎◌, IfSome, Result, Ok, Err, OnOk, OnErr}
use Rattle.std.proofs.Math.Seq.{take-append-add}
use Rattle.std.proofs.Math.Nat.{div-le_self}
use Rattle.std.proofs.lemmas.List.{drop_at, take_at, take-append-le}
use Rattle.helm_core.specs.declared.iteration.Iteration.{Iteration}
use Rattle.moos_io.specs.declared.buffered_writer.BufferedWriter.{BufferedWriter}
use Rattle.moos_io.specs.declared.sink.Failed.{Failed}
use Rattle.moos_io.specs.BufferedWriting.{Sends}
use Rattle.moos_io.specs.Faults.{Faring, Fares, Fell}
use Rattle.moos_io.specs.Pieces.{Took, TookFront}
use Rattle.moos_post.specs.History.{History}
use Rattle.moos_play.specs.declared.round_made.Round.{Round}
use Rattle.moos_play.specs.Lawful.{HelmSetup}
use Rattle.moos_play.specs.Plays.{clients_in, GoesOnWith, HasTicked, helm_in, history_in, IsRunFor, iterations_made, Playing, script_played, StaysSeated}
use Rattle.moos_report.proofs.KeptLines.{lines_on}
use Rattle.moos_report.specs.declared.setup.Setup.{Setup}
use Rattle.moos_report.specs.IterationLines.{helm_fetches}
use Rattle.moos_report.specs.Lines.{KeepsLines}
use Rattle.moos_report.specs.Parts.{EndsWithin, front_text, FrontsStay, PartsAddUp}
use Rattle.moos_report.specs.Report.{end_text, entries_text, head_text, report_text}
use Rattle.command_line.specs.Endings.{sinking}
use Rattle.command_line.specs.declared.status.Status.{Status}
use Rattle.command_line.specs.declared.status.Status.TheVariants.{Done, WriteFault}
use Rattle.moos_jobs.specs.Telling.{IsToldSoFar, Tells, ToldFront}
use Rattle.moos_jobs.proofs.Fetching.{IsNamed, IsRunWell, ends_far, fetched, helm_behind, none_without, part_ends}

-- a sink that took one piece and then another took both, or a front of both
took_both : (before between after : Option (List ℕ)) (first second : List ℕ) → Took before between first → Took between after second → Took before after (first ++ second)
took_both None between after first second one other = rw (other, one) refl
took_both (Some old) between after first second one other = rw (other, one) (ap Some (append_assoc old first second))

front_behind : (before between after : Option (List ℕ)) (first second : List ℕ) → Took before between first → TookFront between after second → TookFront before after (first ++ second)
front_behind before between after first second one (n, within, other) = (
  length first + n,
  omega (arith, within, length-append first second),
  subst (Took before after) (sym (take-append-add first second n)) (took_both before between after first (take n second) one other),
)

-- a front of a text, or the text, is a front of a longer one
front_of_more : (before after : Option (List ℕ)) (text more : List ℕ) → TookFront before after text → TookFront before after (text ++ more)
front_of_more before after text more (n, within, took) =
    (n, omega (arith, within, length-append text more), subst (Took before after) (sym (take-append-le n text more (omega (arith, within)))) took)

whole_of_more : (before after : Option (List ℕ)) (text more : List ℕ) → 0 < length more → Took before after text → TookFront before after (text ++ more)
whole_of_more before after text more some took =
    (length text, omega (arith, some, length-append text more), subst (Took before after) (sym (take_at text more (length text) refl)) took)

-- a play that goes on twice
pub goes_on_twice : (before middle after : Playing) → GoesOnWith before middle → GoesOnWith middle after → GoesOnWith before after
goes_on_twice before middle after one other = record {
  script = other.script ∙ one.script;
  order = other.order ∙ one.order;
  names = other.names ∙ one.names;
  helm = other.helm ∙ one.helm;
}

-- the lines of the posts of a history, under other names for the same
pub lines_as : {names others : List (List ℕ)} {history other : History} (lines : List (List ℕ)) → names ≡ others → history ≡ other → KeepsLines names history lines → KeepsLines others other lines
lines_as {names = names} {other = other} lines named same so =
    subst (λ names. KeepsLines names other lines) named (subst (λ history. KeepsLines names history lines) same so)

-- the lines of posts that are kept stay those when a play goes on
pub lines_stay : (old new : Playing) (lines : List (List ℕ)) → StaysSeated old new → KeepsLines (clients_in old) (history_in old) lines → KeepsLines (clients_in new) (history_in new) lines
lines_stay old new lines stays so = lines_as lines (sym stays.names) (sym stays.later.1) (lines_on (clients_in old) (history_in old) stays.later.0 lines so)

-- what a round brought stands behind what was printed before
module _ (setup : Setup) (old new : Playing) (round : Round) (adds : PartsAddUp) (before : IsRunWell old) (after : IsRunWell new) (named : IsNamed old) (on : GoesOnWith old new) (stays : StaysSeated old new)
    (from : round.from ≡ length (history_in old)) (more : iterations_made new ≡ iterations_made old ++ round.iterations) where
  abbrev part : History
  part = stays.later.0

  entries_before : take round.from (history_in new) ≡ history_in old
  entries_before = ap (take round.from) stays.later.1 ∙ take_at (history_in old) part round.from (sym from)

  entries_behind : drop round.from (history_in new) ≡ part
  entries_behind = ap (drop round.from) stays.later.1 ∙ drop_at (history_in old) part round.from (sym from)

  names_same : clients_in new ≡ clients_in old
  names_same = on.names

  pub fetched_before : helm_fetches (clients_in new) (take round.from (history_in new)) ≡ length (iterations_made old)
  fetched_before = (λ i. helm_fetches (names_same i) (entries_before i)) ∙ fetched old before named

  part_own : EndsWithin (clients_in old) (history_in old) (length (iterations_made old)) (length (iterations_made old) + length round.iterations) part
  part_own =
      subst (λ limit. EndsWithin (clients_in old) (history_in old) (length (iterations_made old)) limit part) (ap length more ∙ length-append (iterations_made old) round.iterations)
      (part_ends (script_played old) (clients_in old) (helm_in old) (iterations_made old) (iterations_made new) (history_in old) part named (none_without old) (λ none. none_without new (on.helm ∙ none))
      (helm_behind (script_played old) (length (iterations_made old)) (helm_in old) before.helm) before.steered stands)
    where
      count : ℕ
      count = length (iterations_made new)

      stands : IfSome (helm_in old) (λ helm. HasTicked (clients_in old) helm count (history_in old ++ part))
      stands = subst (λ history. IfSome (helm_in old) (λ helm. HasTicked (clients_in old) helm count history)) stays.later.1
          (subst (λ names. IfSome (helm_in old) (λ helm. HasTicked names helm count (history_in new))) on.names
          (subst (λ helm. IfSome helm (λ helm. HasTicked (clients_in new) helm count (history_in new))) on.helm after.steered))

  part_joins : front_text setup (clients_in old) (history_in old) (iterations_made old)
      ++ entries_text setup (length (iterations_made old)) round.iterations (clients_in new) (take round.from (history_in new)) (drop round.from (history_in new))
      ≡ front_text setup (clients_in new) (history_in new) (iterations_made new)
  part_joins =
      (λ i. front_text setup (clients_in old) (history_in old) (iterations_made old)
      ++ entries_text setup (length (iterations_made old)) round.iterations (names_same i) (entries_before i) (entries_behind i))
      ∙ adds setup (clients_in old) (history_in old) part (iterations_made old) round.iterations (ends_far old before named) part_own
      ∙ (λ i. front_text setup (sym names_same i) (sym stays.later.1 i) (sym more i))

  pub part_told : (before between after : Option (List ℕ)) (count : ℕ) → count ≡ length (iterations_made old) → IsToldSoFar setup before between old
      → Took between after (entries_text setup count round.iterations (clients_in new) (take round.from (history_in new)) (drop round.from (history_in new))) → IsToldSoFar setup before after new
  part_told before between after count same told took =
      subst (Took before after) part_joins
      (took_both before between after (front_text setup (clients_in old) (history_in old) (iterations_made old)) _ told
      (subst (λ count. Took between after (entries_text setup count round.iterations (clients_in new) (take round.from (history_in new)) (drop round.from (history_in new)))) same took))

  pub part_front : (before between after : Option (List ℕ)) (count : ℕ) → count ≡ length (iterations_made old) → IsToldSoFar setup before between old
      → TookFront between after (entries_text setup count round.iterations (clients_in new) (take round.from (history_in new)) (drop round.from (history_in new)))
      → TookFront before after (front_text setup (clients_in new) (history_in new) (iterations_made new))
  part_front before between after count same told front =
      subst (TookFront before after) part_joins
      (front_behind before between after (front_text setup (clients_in old) (history_in old) (iterations_made old)) _ told
      (subst (λ count. TookFront between after (entries_text setup count round.iterations (clients_in new) (take round.from (history_in new)) (drop round.from (history_in new)))) same front))

-- What was printed of a play between two rounds is a front of its report, where that goes on with these entries and iterations and may be
-- so.
module _ (setup : Setup) (play : Playing) (stay : FrontsStay) (well : IsRunWell play) (named : IsNamed play) (rest : History) (more : List Iteration) (MayBe : List ℕ → Type 0)
    (may : MayBe (report_text setup (clients_in play) (history_in play ++ rest) (iterations_made play ++ more))) where
  abbrev behind : List ℕ
  behind = entries_text setup 0 (iterations_made play ++ more) (clients_in play) (history_in play) rest ++ end_text (history_in play ++ rest)

  some_behind : 0 < length behind
  some_behind = omega (arith, length-append (entries_text setup 0 (iterations_made play ++ more) (clients_in play) (history_in play) rest) (end_text (history_in play ++ rest)))

  abbrev text : List ℕ
  text = front_text setup (clients_in play) (history_in play) (iterations_made play) ++ behind

  may_be : MayBe text
  may_be = subst MayBe (stay setup (clients_in play) (history_in play) rest (iterations_made play) more (ends_far play well named)) may

  pub told_so_far : (before after : Option (List ℕ)) (faults later : Faring) → IsToldSoFar setup before after play → ToldFront MayBe (sinking before after faults later)
  told_so_far before after faults later told = record {
    text = text;
    may = may_be;
    took = whole_of_more before after (front_text setup (clients_in play) (history_in play) (iterations_made play)) behind some_behind told;
  }

  pub told_front : (before after : Option (List ℕ)) (faults later : Faring) → TookFront before after (front_text setup (clients_in play) (history_in play) (iterations_made play))
      → ToldFront MayBe (sinking before after faults later)
  told_front before after faults later front = record {
    text = text;
    may = may_be;
    took = front_of_more before after (front_text setup (clients_in play) (history_in play) (iterations_made play)) behind front;
  }

-- the whole report once nothing is left
whole_text : (setup : Setup) (play : Playing) → report_text setup (clients_in play) (history_in play) (iterations_made play)
    ≡ front_text setup (clients_in play) (history_in play) (iterations_made play) ++ end_text (history_in play)
whole_text setup play =
    sym (append_assoc (head_text setup (clients_in play)) (entries_text setup 0 (iterations_made play) (clients_in play) [] (history_in play)) (end_text (history_in play)))

-- a play in which nothing is left, whose report may be so, and whose end is put
pub end_told : {E : Type 0} (setup : Setup) (play : Playing) (MayBe IsPart : List ℕ → Type 0) (before between after : Option (List ℕ)) (first then last : Faring) (put : Result (Unit {0}) E) (status : Status)
    → MayBe (report_text setup (clients_in play) (history_in play) (iterations_made play)) → IsToldSoFar setup before between play
    → OnOk put (Took between after (end_text (history_in play))) → OnErr put (TookFront between after (end_text (history_in play))) → then ≡ first → Fares put then last → OnErr put (Fell then last after)
    → OnOk put (status ≡ Done) → OnErr put (status ≡ WriteFault) → Tells MayBe IsPart (sinking before after first last) status
end_told setup play MayBe IsPart before between after first then last (Ok put) status may told took front same fares rose all fault =
    rw all (record {
      text = front_text setup (clients_in play) (history_in play) (iterations_made play) ++ end_text (history_in play);
      may = subst MayBe (whole_text setup play) may;
      took = took_both before between after (front_text setup (clients_in play) (history_in play) (iterations_made play)) (end_text (history_in play)) told took;
      fared = fares ∙ same;
    })
end_told setup play MayBe IsPart before between after first then last (Err failed) status may told took front same fares rose all fault =
    rw fault (
      record {
        text = front_text setup (clients_in play) (history_in play) (iterations_made play) ++ end_text (history_in play);
        may = subst MayBe (whole_text setup play) may;
        took = front_behind before between after (front_text setup (clients_in play) (history_in play) (iterations_made play)) (end_text (history_in play)) told front;
      },
      subst (λ first. Fell first last after) same rose,
    )

-- a writer that sent a text has failed, or holds nothing
pub sent_over : {S : Type 0} {taken : S → Option (List ℕ)} {faults : S → Faring} {before after : BufferedWriter S} {text : List ℕ} (result : Result (Unit {0}) Failed)
    → Sends taken faults before after result text → (after.failed ≡ true) ⊎ (after.buffer ≡ [])
sent_over (Ok done) sends = inr sends.clear.empty
sent_over (Err failed) sends = inl sends.failed

-- the iterations of a play are few
pub few_made : (play : Playing) → IsRunWell play → length (iterations_made play) ≤ 1000000001
few_made play well = few (helm_in play) (λ none. none_without play none) well.helm
  where
    few : (helm : Option HelmSetup) → (helm ≡ None → iterations_made play ≡ []) → IfSome helm (IsRunFor (script_played play) (length (iterations_made play))) → length (iterations_made play) ≤ 1000000001
    few None none run = omega (arith, ap length (none refl))
    few (Some helm) none run = omega (arith, run.few, div-le_self (script_played play).stop helm.period, well.valid.early)
