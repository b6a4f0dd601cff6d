-- Lemmas on texts that go through a buffered writer one after another, and on loops that write.
use Rattle.std.proofs.Common.{◌≡◌, ℕ, ◌+◌, ◌<◌, ◌≤◌, Bool, true, false, Option, List, [], ◌++◌, flat_map, length, drop, get_or, Result, Ok, Err, refl, ap, sym, subst, ◌∙◌, Some, None, add-one, append_assoc, append-nil, drop-cons}
use Rattle.std.proofs.SliceLists.{any-default}
use Rattle.std.proofs.lemmas.Bool.{false≢true}
use Rattle.std.proofs.lemmas.List.{drop_all}
use Rattle.std.specs.Prelude.{is_err, OnOk}
use Rattle.moos_io.specs.declared.buffered_writer.BufferedWriter.{BufferedWriter}
use Rattle.moos_io.specs.declared.sink.Failed.{Failed}
use Rattle.moos_io.specs.BufferedWriting.{Delivers, Finishes, IsClear, Sends, Writes, way_of}
use Rattle.moos_io.specs.Faults.{Faring, FaresOn, Fell}
use Rattle.moos_io.specs.Pieces.{Took, TookFront}
use Rattle.moos_io.specs.Writing.{Way, Went, Stopped}
use Rattle.moos_io.proofs.Writing.{stopped_before, stopped_later, went_on}

-- nothing is written yet
none_took : (taken : Option (List ℕ)) → Took taken taken []
none_took None = refl
none_took (Some old) = ap Some (sym (append-nil old))

-- nothing is written
went_none : (now : Way) → Went now now []
went_none now = record { piece = []; took = none_took now.taken; rest = sym (append-nil now.held); same = refl }

each_due : {X : Type 0} (text : X → List ℕ) (all : List X) (i : ℕ) (x : X) → i < length all → x ≡ get_or all i x
    → flat_map text (drop i all) ≡ text x ++ flat_map text (drop (i + 1) all)
each_due text all i x within is = ap (flat_map text) (drop-cons all i x within) ∙ rw (← is, add-one) refl

-- a text that went through a buffer, empty before and after, is what the sink took
took_whole : {a b c : Way} {text : List ℕ} → a.held ≡ [] → c.held ≡ [] → Went a b text → Went b c [] → Took a.taken c.taken text
took_whole {a = a} {c = c} {text = text} before after wrote flushed =
    let both = went_on wrote flushed in
    let same : both.piece ≡ text =
    sym (append-nil both.piece) ∙ ap (λ end. both.piece ++ end) (sym after) ∙ both.rest ∙ ap (λ front. front ++ (text ++ [])) before ∙ append-nil text in
    rw (← same) both.took

-- what was stopped stays so, whatever the buffer holds
stopped_at : {S : Type 0} (taken : S → Option (List ℕ)) (faults : S → Faring) (a b c : BufferedWriter S) (text : List ℕ) → c.out.now ≡ b.out.now
    → Stopped (way_of taken faults a) (way_of taken faults b) text → Stopped (way_of taken faults a) (way_of taken faults c) text
stopped_at taken faults a b c text same stopped = record {
  front = subst (λ now. TookFront (taken a.out.now) (taken now) (a.buffer ++ text)) (sym same) stopped.front;
  later = subst (λ now. FaresOn (faults a.out.now) (faults now)) (sym same) stopped.later;
  rose = subst (λ now. Fell (faults a.out.now) (faults now) (taken now)) (sym same) stopped.rose;
}

-- what was written so far, and `left` behind it, is the whole text
pub record Leaves {S : Type 0} (taken : S → Option (List ℕ)) (faults : S → Faring) (before now : BufferedWriter S) (left whole : List ℕ) : Type 0 where
  pub done : List ℕ
  pub wrote : Writes taken faults before now done
  pub rest : done ++ left ≡ whole

module _ {S : Type 0} {taken : S → Option (List ℕ)} {faults : S → Faring} where
  -- a failure in the first of two texts, or in the second
  stopped_in : (failed : Bool) {a b c : BufferedWriter S} {first second : List ℕ} → b.failed ≡ failed → Writes taken faults a b first → Writes taken faults b c second
      → a.failed ≡ false → c.failed ≡ true → Stopped (way_of taken faults a) (way_of taken faults c) (first ++ second)
  stopped_in true {a} {b} {c} {first} {second} is one other begun over = stopped_at taken faults a b c (first ++ second) (other.idle is).1 (stopped_before second (one.stopped begun is))
  stopped_in false is one other begun over = stopped_later (one.went is).1 (other.stopped is over)

  -- one text after another
  pub writes_on : {a b c : BufferedWriter S} {first second : List ℕ} → Writes taken faults a b first → Writes taken faults b c second → Writes taken faults a c (first ++ second)
  writes_on {b = b} one other = record {
    same = other.same ∙ one.same;
    idle = λ over. let middle = one.idle over in let last = other.idle middle.0 in (last.0, last.1 ∙ middle.1);
    went = λ good. let last = other.went good in let middle = one.went last.0 in (middle.0, went_on middle.1 last.1);
    stopped = stopped_in b.failed refl one other;
  }

  -- nothing was written
  pub writes_none : (now : BufferedWriter S) → Writes taken faults now now []
  writes_none now = record { same = refl; idle = λ over. (over, refl); went = λ good. (good, went_none (way_of taken faults now)); stopped = λ good over. absurd (false≢true (sym good ∙ over)) }

  -- where the sink has failed it doesn't matter what text comes behind: it went nowhere
  pub writes_failed : {a b : BufferedWriter S} {text : List ℕ} (more : List ℕ) → b.failed ≡ true → Writes taken faults a b text → Writes taken faults a b (text ++ more)
  writes_failed more over wrote = record {
    same = wrote.same;
    idle = wrote.idle;
    went = λ good. absurd (false≢true (sym good ∙ over));
    stopped = λ begun _. stopped_before more (wrote.stopped begun over);
  }

  -- the same text under another name
  pub writes_as : {a b : BufferedWriter S} {text other : List ℕ} → text ≡ other → Writes taken faults a b text → Writes taken faults a b other
  writes_as {a = a} {b = b} same wrote = subst (Writes taken faults a b) same wrote

  -- nothing is written yet
  pub leaves_all : (now : BufferedWriter S) (whole : List ℕ) → Leaves taken faults now now whole whole
  leaves_all now whole = record { done = []; wrote = writes_none now; rest = refl }

  -- one text more is written
  pub leaves_less : {a b c : BufferedWriter S} {left text later whole : List ℕ} → Leaves taken faults a b left whole → left ≡ text ++ later → Writes taken faults b c text → Leaves taken faults a c later whole
  leaves_less {text = text} {later = later} so is wrote = record {
    done = so.done ++ text;
    wrote = writes_on so.wrote wrote;
    rest = append_assoc so.done text later ∙ ap (λ end. so.done ++ end) (sym is) ∙ so.rest;
  }

  -- nothing is left
  pub leaves_none : {a b : BufferedWriter S} {left whole : List ℕ} → Leaves taken faults a b left whole → left ≡ [] → Writes taken faults a b whole
  leaves_none so none = rw (← so.rest, none, append-nil so.done) so.wrote

  -- the last text
  pub leaves_last : {a b c : BufferedWriter S} {left text whole : List ℕ} → Leaves taken faults a b left whole → left ≡ text → Writes taken faults b c text → Writes taken faults a c whole
  leaves_last so is wrote = writes_as (ap (λ end. so.done ++ end) (sym is) ∙ so.rest) (writes_on so.wrote wrote)

  -- the sink has failed, and what is left goes nowhere
  pub leaves_failed : {a b : BufferedWriter S} {left whole : List ℕ} → Leaves taken faults a b left whole → b.failed ≡ true → Writes taken faults a b whole
  leaves_failed {left = left} so over = writes_as so.rest (writes_failed left over so.wrote)

  -- elements of a list are written in turn: the next one
  pub each_less : {a b c : BufferedWriter S} {X : Type 0} {whole : List ℕ} (text : X → List ℕ) (all : List X) (i : ℕ) (x : X)
      → Leaves taken faults a b (flat_map text (drop i all)) whole → i < length all → x ≡ get_or all i x → Writes taken faults b c (text x) → Leaves taken faults a c (flat_map text (drop (i + 1) all)) whole
  each_less text all i x so within is wrote = leaves_less so (each_due text all i x within is) wrote

  -- all are written
  pub each_none : {a b : BufferedWriter S} {X : Type 0} {whole : List ℕ} (text : X → List ℕ) (all : List X) (i : ℕ)
      → Leaves taken faults a b (flat_map text (drop i all)) whole → length all ≤ i → Writes taken faults a b whole
  each_none text all i so past = leaves_none so (ap (flat_map text) (drop_all i all past))

  -- the same of elements that are read with a default
  pub read_less : {a b c : BufferedWriter S} {X : Type 0} {whole : List ℕ} (text : X → List ℕ) (all : List X) (i : ℕ) (d : X)
      → Leaves taken faults a b (flat_map text (drop i all)) whole → i < length all → Writes taken faults b c (text (get_or all i d)) → Leaves taken faults a c (flat_map text (drop (i + 1) all)) whole
  read_less text all i d so within wrote = each_less text all i (get_or all i d) so within (any-default all i d (get_or all i d) within) wrote

  -- A writer that had written nothing wrote a text and was ended: the sink took it, or a front of it.
  pub delivered : {a b : BufferedWriter S} {now : S} {text : List ℕ} (result : Result (Unit {0}) Failed) → a.failed ≡ false → a.buffer ≡ []
      → Writes taken faults a b text → Finishes taken faults b now result → Delivers taken faults a.out.now now result text
  delivered {a} {b} {now} {text} (Ok t) good empty wrote over =
      let last = over.went refl in let first = wrote.went last.0 in
      record { ok = took_whole empty refl first.1 last.1; front = tt; fares = (went_on first.1 last.1).same; rose = tt }
  delivered {a} {b} {now} {text} (Err e) good empty wrote over =
      let stopped = (writes_on wrote over).stopped good refl in
      record { ok = tt; front = subst (λ t. TookFront (taken a.out.now) (taken now) t) (ap (λ front. front ++ (text ++ [])) empty ∙ append-nil text) stopped.front; fares = stopped.later; rose = stopped.rose }

  -- One that was clear wrote a text and was flushed.
  pub sent : {a b c : BufferedWriter S} {text : List ℕ} (result : Result (Unit {0}) Failed) → IsClear a → Writes taken faults a b text → Writes taken faults b c [] → OnOk result (c.buffer ≡ [])
      → c.failed ≡ is_err result → Sends taken faults a c result text
  sent {a} {b} {c} {text} (Ok t) clear wrote flushed empty told =
      let last = flushed.went told in let first = wrote.went last.0 in
      record {
        same = flushed.same ∙ wrote.same;
        sent = record { ok = took_whole clear.empty empty first.1 last.1; front = tt; fares = (went_on first.1 last.1).same; rose = tt };
        clear = record { empty = empty; going = told };
        failed = tt;
      }
  sent {a} {b} {c} {text} (Err e) clear wrote flushed empty told =
      let stopped = (writes_on wrote flushed).stopped clear.going told in
      let front = subst (λ t. TookFront (taken a.out.now) (taken c.out.now) t) (ap (λ front. front ++ (text ++ [])) clear.empty ∙ append-nil text) stopped.front in
      record { same = flushed.same ∙ wrote.same; sent = record { ok = tt; front = front; fares = stopped.later; rose = stopped.rose }; clear = tt; failed = told }
