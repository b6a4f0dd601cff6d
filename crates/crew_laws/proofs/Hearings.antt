-- What a helm has heard by its ticks, whatever the order of the entries, and in order Stamp.
use Rattle.std.proofs.Common.{◌≡◌, ◌≢◌, ℕ, suc, ◌*◌, ◌<◌, ◌≤◌, Bool, true, false, cond, ◌==◌, ◌&&◌, ◌||◌, not, List, [], ◌∷◌, ◌++◌, append_assoc, append-nil, length, length-append, map, take, refl, sym, ap, subst, ◌∙◌, arith, if◌then◌else◌, ne_eqb, eq-eqb}
use Rattle.std.specs.Prelude.{nat_lt, nat_le}
use Rattle.std.specs.List.{list_any}
use Rattle.std.proofs.lemmas.Bool.{and_parts, leb-true, lt-leb}
use Rattle.moos_post.specs.declared.entry.Call.TheVariants.{Register, Post as Posts}
use Rattle.moos_post.specs.declared.entry.Entry.{Entry}
use Rattle.moos_post.specs.declared.value.Post.{Post}
use Rattle.moos_post.specs.Delivery.{is_fetch, Mailing, mailed_to, was_mailed}
use Rattle.moos_post.specs.History.{History, posts_of}
use Rattle.moos_mail.specs.Sentences.{StampsRise}
use Rattle.moos_lawful.specs.Schedules.{never_falls}
use Rattle.helm_core.specs.Plans.{wants_of}
use Rattle.helm_core.specs.Ticks.{pairs_mailed, Tick}
use Rattle.moos_play.specs.Lawful.{heard_of, helm_number, HelmSetup, mailed_in, moment_of, opening_of, ticks_to}
use Rattle.script_reader.specs.declared.script.Order.{Order}
use Rattle.script_reader.specs.declared.script.Order.TheVariants.{Stamp}
use Rattle.script_reader.specs.declared.script.Script.{Script}
use Rattle.crew_laws.specs.Hearing.{before_tick, HeardFromItsStamp, HearsPostsInTime, is_read, MailedIfInTime, NoneIsOvertaken}
use Rattle.crew_laws.specs.InTime.{is_overtaken}
use Rattle.crew_laws.specs.Runs.{IsHelmRun, OfEveryRun}
use Rattle.crew_laws.proofs.Coming.{mailed_in_time, matched_by, numbers_in_time}
use Rattle.crew_laws.proofs.Mails.{AreJoined, letters_by_fetch, RegistersFirst}
use Rattle.crew_laws.proofs.Ordering.{around_tick, early_front, first_of_all, has_tick, HasTick, heard_rest, is_early, is_late, IsAround, IsTicked, place, ticked, ticks_heard}
use Rattle.crew_laws.proofs.Reading.{all_pairs, pairs_in_time}
use Rattle.crew_laws.proofs.Stamping.{rise_call, rise_weaker, rising_in_time}

pub hears : AreJoined → (order : Order) → OfEveryRun order HearsPostsInTime
hears joined order script helm names history run i less =
    all_pairs (take (suc i) (heard_of names helm.client history))
    ∙ ap pairs_mailed (letters_by_fetch names helm.client (wants_of helm.plan) (mailed_in names) (λ (tick : Tick). tick.mail) (λ stamp past. refl) joined history i (first_of_all helm names _ history so)
    (omega (arith, less, ap length (ap (heard_of names helm.client) so.opened ∙ heard_rest names helm so.rest), ticks_heard helm names (ticks_to script.stop helm) history so)))
    ∙ pairs_in_time (is_read helm.plan) [] (posts_of (before_tick helm history i))
  where
    so : IsTicked helm names (ticks_to script.stop helm) history
    so = ticked order script helm names history run

-- ---- which posts are mailed

-- a number below those of some posts isn't among them
none_before : (wanted : List ℕ → Bool) (n : ℕ) (before posts : List Post) → n < length before → list_any (λ m. m == n) (numbers_in_time wanted before posts) ≡ false
none_before wanted n before [] less = refl
none_before wanted n before (post ∷ posts) less =
    by (wanted post.var && not (is_overtaken before post)) (none_before wanted n (before ++ post ∷ []) posts (omega (arith, less, length-append before (post ∷ []))))
  where
    by : (heard : Bool) → list_any (λ m. m == n) (numbers_in_time wanted (before ++ post ∷ []) posts) ≡ false
        → list_any (λ m. m == n) (if heard then length before ∷ numbers_in_time wanted (before ++ post ∷ []) posts else numbers_in_time wanted (before ++ post ∷ []) posts) ≡ false
    by true none = ap (λ b. b || list_any (λ m. m == n) (numbers_in_time wanted (before ++ post ∷ []) posts)) (ne_eqb (length before) n (λ same. omega (arith, same, less))) ∙ none
    by false none = none

among : (wanted : List ℕ → Bool) (front before : List Post) (post : Post) (later : List Post)
    → list_any (λ m. m == length (front ++ before)) (numbers_in_time wanted front (before ++ post ∷ later)) ≡ (wanted post.var && not (is_overtaken (front ++ before) post))
among wanted front [] post later =
    ap (λ front. list_any (λ m. m == length front) (numbers_in_time wanted start (post ∷ later))) (append-nil front)
    ∙ by (wanted post.var && not (is_overtaken front post)) (none_before wanted (length front) (front ++ post ∷ []) later (omega (arith, length-append front (post ∷ []))))
    ∙ ap (λ front. wanted post.var && not (is_overtaken front post)) (sym (append-nil front))
  where
    start : List Post
    start = front

    by : (heard : Bool) → list_any (λ m. m == length front) (numbers_in_time wanted (front ++ post ∷ []) later) ≡ false
        → list_any (λ m. m == length front) (if heard then length front ∷ numbers_in_time wanted (front ++ post ∷ []) later else numbers_in_time wanted (front ++ post ∷ []) later) ≡ heard
    by true none = ap (λ b. b || list_any (λ m. m == length front) (numbers_in_time wanted (front ++ post ∷ []) later)) (eq-eqb (length front) (length front) refl)
    by false none = none
among wanted front (one ∷ before) post later =
    by (wanted one.var && not (is_overtaken front one))
    ∙ ap (λ all. list_any (λ m. m == length all) (numbers_in_time wanted (front ++ one ∷ []) (before ++ post ∷ later))) (sym (append_assoc front (one ∷ []) before))
    ∙ among wanted (front ++ one ∷ []) before post later ∙ ap (λ all. wanted post.var && not (is_overtaken all post)) (append_assoc front (one ∷ []) before)
  where
    n : ℕ
    n = length (front ++ one ∷ before)

    by : (heard : Bool) → list_any (λ m. m == n) (if heard then length front ∷ numbers_in_time wanted (front ++ one ∷ []) (before ++ post ∷ later) else numbers_in_time wanted (front ++ one ∷ []) (before ++ post ∷ later))
        ≡ list_any (λ m. m == n) (numbers_in_time wanted (front ++ one ∷ []) (before ++ post ∷ later))
    by true = ap (λ b. b || list_any (λ m. m == n) (numbers_in_time wanted (front ++ one ∷ []) (before ++ post ∷ later))) (ne_eqb (length front) n (λ same. omega (arith, same, length-append front (one ∷ before))))
    by false = refl

mailed_numbers : (n : ℕ) (mailed : List Mailing) → was_mailed n mailed ≡ list_any (λ m. m == n) (map (λ one. one.number) mailed)
mailed_numbers n [] = refl
mailed_numbers n (one ∷ mailed) = ap (λ b. (one.number == n) || b) (mailed_numbers n mailed)

pub mailed : (order : Order) → OfEveryRun order MailedIfInTime
mailed order script helm names history run before post later is =
    mailed_numbers (length before) (mailed_to names helm.client history)
    ∙ ap (λ history. list_any (λ m. m == length before) (map (λ (one : Mailing). one.number) (mailed_to names helm.client history))) first.is
    ∙ ap (list_any (λ m. m == length before)) (mailed_in_time names helm.client first.stamp (wants_of helm.plan) first.later first.all first.keeps)
    ∙ ap (λ posts. list_any (λ m. m == length before) (numbers_in_time (matched_by (wants_of helm.plan)) [] posts)) (ap posts_of (sym first.is) ∙ is)
    ∙ among (is_read helm.plan) [] before post later
  where
    first : RegistersFirst helm.client (wants_of helm.plan) history
    first = first_of_all helm names (ticks_to script.stop helm) history (ticked order script helm names history run)

-- ---- in order Stamp

-- the posts of entries whose moments don't fall
rising : (client low m : ℕ) (entries : History) → 2 * low ≤ m → never_falls m (map (moment_of client) entries) ≡ true → StampsRise low (posts_of entries)
rising client low m [] less falls = tt
rising client low m (entry ∷ entries) less falls =
    let both = and_parts (nat_le m (moment_of client entry)) (never_falls (moment_of client entry) (map (moment_of client) entries)) falls in
    let at = by (entry.client == client) (leb-true m (moment_of client entry) both.0) in
    rise_weaker low entry.stamp (posts_of (entry ∷ entries)) at.0 (rise_call entry.stamp entry.client entry.call (posts_of entries) (rising client entry.stamp (moment_of client entry) entries at.1 both.1))
  where
    by : (own : Bool) → m ≤ (if own then suc (2 * entry.stamp) else 2 * entry.stamp) → (low ≤ entry.stamp) × (2 * entry.stamp ≤ (if own then suc (2 * entry.stamp) else 2 * entry.stamp))
    by true more = (omega (arith, more, less), omega arith)
    by false more = (omega (arith, more, less), omega arith)

pub stamps_rise : (script : Script) (helm : HelmSetup) (names : List (List ℕ)) (history : History) → IsHelmRun Stamp script helm names history → StampsRise 0 (posts_of history)
stamps_rise script helm names history run = subst (λ history. StampsRise 0 (posts_of history)) (sym run.lawful.opened) (by (nat_lt 0 (length helm.plan.opening)))
  where
    rest : StampsRise 0 (posts_of run.lawful.rest)
    rest = rising (helm_number script) 0 0 run.lawful.rest (omega arith) run.lawful.moments

    by : (some : Bool) → StampsRise 0 (posts_of (record { stamp = 0; client = helm.client; call = Register (wants_of helm.plan) } ∷ cond some (record { stamp = 0; client = helm.client; call = Posts helm.plan.opening } ∷ []) [] ++ run.lawful.rest))
    by true = rise_call 0 helm.client (Posts helm.plan.opening) (posts_of run.lawful.rest) rest
    by false = rest

pub none_overtaken : OfEveryRun Stamp NoneIsOvertaken
none_overtaken script helm names history run = rising_in_time (posts_of history) (stamps_rise script helm names history run)

pub whole_is : (helm : HelmSetup) (names : List (List ℕ)) (ticks : ℕ) (history : History) → (so : IsTicked helm names ticks history) → (i : ℕ) → (tick : HasTick helm history so.rest i) → history ≡ (opening_of helm ++ tick.before) ++ tick.fetch ∷ tick.later
whole_is helm names ticks history so i tick = so.opened ∙ ap (λ rest. opening_of helm ++ rest) tick.is ∙ sym (append_assoc (opening_of helm) tick.before (tick.fetch ∷ tick.later))

-- a helm's fetch is no entry of another client
pub no_fetch : (helm : HelmSetup) (history rest : History) (i : ℕ) → (tick : HasTick helm history rest i) → (entry : Entry) → entry.client ≢ helm.client → entry ≡ tick.fetch → ⊥
no_fetch helm history rest i tick entry other same =
    let own : (tick.fetch.client == helm.client) ≡ true = (and_parts (tick.fetch.client == helm.client) (is_fetch tick.fetch.call) tick.own).0 in
    let e : false ≡ true = sym (ne_eqb entry.client helm.client other) ∙ ap (λ (entry : Entry). entry.client == helm.client) same ∙ own in absurd (by e)
  where
    by : false ≡ true → ⊥
    by e = cc

pub tick_around : (script : Script) (helm : HelmSetup) (names : List (List ℕ)) (history : History) → (run : IsHelmRun Stamp script helm names history) → (i : ℕ) → (tick : HasTick helm history run.lawful.rest i) → IsAround helm i tick.before tick.later
tick_around script helm names history run i tick = around_tick helm history run.lawful.rest i tick (ap (λ client. never_falls 0 (map (moment_of client) run.lawful.rest)) run.number ∙ run.lawful.moments)

pub heard_from : OfEveryRun Stamp HeardFromItsStamp
heard_from script helm names history run before entry later is other i less =
    ap (λ front. nat_lt (length before) (length front)) tick.front
    ∙ place (is_early helm i) (is_late helm i) (opening_of helm ++ tick.before) tick.fetch tick.later before entry later (sym (whole_is helm names (ticks_to script.stop helm) history so i tick) ∙ is)
    (early_front helm i tick.before near.heard) (no_fetch helm history so.rest i tick entry other) near.late (nat_le entry.stamp (i * helm.period))
    (λ early. ap (λ own. own || nat_le entry.stamp (i * helm.period)) (sym (ne_eqb entry.client helm.client other)) ∙ early)
    (λ late. lt-leb entry.stamp (i * helm.period) (leb-true (suc (i * helm.period)) entry.stamp (ap (λ own. own || nat_lt (i * helm.period) entry.stamp) (sym (ne_eqb entry.client helm.client other)) ∙ late)))
  where
    so : IsTicked helm names (ticks_to script.stop helm) history
    so = ticked Stamp script helm names history run

    tick : HasTick helm history so.rest i
    tick = has_tick helm names (ticks_to script.stop helm) history so i less

    near : IsAround helm i tick.before tick.later
    near = tick_around script helm names history run i tick
