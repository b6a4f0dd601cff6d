-- What stands before a tick of a helm in a history, and what stands behind it.
use Rattle.std.proofs.Common.{◌≡◌, ℕ, zero, suc, ◌+◌, ◌*◌, ◌<◌, ◌≤◌, Bool, true, false, cond, ◌==◌, ◌&&◌, ◌||◌, not, List, [], ◌∷◌, ◌++◌, length, map, refl, sym, ap, subst, ◌∙◌, arith, zero-add, inl, inr, if◌then◌else◌}
use Rattle.std.specs.Prelude.{nat_lt, nat_le}
use Rattle.std.specs.List.{list_all}
use Rattle.std.proofs.Math.Bool.{and-false, or-true}
use Rattle.std.proofs.lemmas.Bool.{and_from, and_parts, eq-eqb, cases_Bool, le-leb, leb-false, leb-true, lt-leb, not-true}
use Rattle.std.proofs.lemmas.List.Elements.{filter-append}
use Rattle.std.proofs.lemmas.List.{map-append}
use Rattle.std.proofs.lemmas.List.Folds.{list_all-append, list_all-map}
use Rattle.moos_post.specs.declared.entry.Call.TheVariants.{Register, Post as Posts}
use Rattle.moos_post.specs.declared.entry.Entry.{Entry}
use Rattle.moos_post.specs.Delivery.{is_fetch}
use Rattle.moos_post.specs.History.{History}
use Rattle.moos_mail.specs.Sentences.{keeps_lives, leaves_lives}
use Rattle.moos_client.proofs.Hearing.{heard_append, heard_deaf, heard_many}
use Rattle.moos_client.specs.Calls.{entries_of, entry_of}
use Rattle.moos_client.specs.Hearing.{fetches, heard_in}
use Rattle.moos_lawful.specs.Schedules.{never_falls}
use Rattle.helm_core.specs.Plans.{wants_of}
use Rattle.helm_core.specs.Ticks.{Tick}
use Rattle.moos_play.specs.Lawful.{heard_of, helm_number, HelmSetup, mailed_in, moment_of, opening_of, ticks_of, ticks_to}
use Rattle.script_reader.specs.declared.script.Order.{Order}
use Rattle.script_reader.specs.declared.script.Script.{Script}
use Rattle.crew_laws.specs.Fetches.{before_fetch, fetches_for}
use Rattle.crew_laws.specs.Hearing.{before_tick}
use Rattle.crew_laws.specs.Overrides.{is_heard_by}
use Rattle.crew_laws.specs.Runs.{IsHelmRun}
use Rattle.crew_laws.proofs.Mails.{fetch_at, IsFetchAt, RegistersFirst}
use Rattle.crew_laws.proofs.Reading.{wants_everybody}
use Rattle.crew_laws.proofs.Stamping.{around}
use Rattle.crew_laws.proofs.Ticking.{first_same, IsTickAt, own_keep, rest_same, tick_at, ticks_are, ticks_fetch, ticks_from, ticks_leave}

-- ---- the helm's opening

pub opening_deaf : (helm : HelmSetup) → list_all (λ entry. not (is_fetch entry.call)) (opening_of helm) ≡ true
opening_deaf helm = by (nat_lt 0 (length helm.plan.opening))
  where
    by : (some : Bool) → list_all (λ entry. not (is_fetch entry.call)) (entry_of helm.client 0 (Register (wants_of helm.plan)) ∷ cond some (entry_of helm.client 0 (Posts helm.plan.opening) ∷ []) []) ≡ true
    by true = refl
    by false = refl

pub opening_own : (helm : HelmSetup) → list_all (λ entry. entry.client == helm.client) (opening_of helm) ≡ true
opening_own helm = by (helm.client == helm.client) (eq-eqb helm.client helm.client refl) (nat_lt 0 (length helm.plan.opening))
  where
    by : (own : Bool) → own ≡ true → (some : Bool) → (own && list_all (λ entry. entry.client == helm.client) (cond some (entry_of helm.client 0 (Posts helm.plan.opening) ∷ []) [])) ≡ true
    by own is true = and_from own ((helm.client == helm.client) && true) is (and_from (helm.client == helm.client) true (eq-eqb helm.client helm.client refl) refl)
    by own is false = and_from own true is refl

-- what the helm hears behind its opening is all that it hears
pub heard_rest : (names : List (List ℕ)) (helm : HelmSetup) (rest : History) → heard_of names helm.client (opening_of helm ++ rest) ≡ heard_in (mailed_in names) helm.client (opening_of helm) rest
heard_rest names helm rest =
    heard_append (mailed_in names) helm.client [] (opening_of helm) rest
    ∙ ap (λ heard. heard ++ heard_in (mailed_in names) helm.client (opening_of helm) rest) (heard_deaf (mailed_in names) helm.client [] (opening_of helm) (opening_deaf helm))

-- no fetch is left out
before_deaf : (client i : ℕ) (deaf rest : History) → list_all (λ entry. not (is_fetch entry.call)) deaf ≡ true → before_fetch client i (deaf ++ rest) ≡ deaf ++ before_fetch client i rest
before_deaf client i [] rest none = refl
before_deaf client i (entry ∷ deaf) rest none =
    let both = and_parts (not (is_fetch entry.call)) (list_all (λ entry. not (is_fetch entry.call)) deaf) none in
    by i (ap (λ b. (entry.client == client) && b) (not-true (is_fetch entry.call) both.0) ∙ and-false (entry.client == client)) ∙ ap (λ rest. entry ∷ rest) (before_deaf client i deaf rest both.1)
  where
    by : (i : ℕ) → fetches_for client entry ≡ false → before_fetch client i (entry ∷ deaf ++ rest) ≡ entry ∷ before_fetch client i (deaf ++ rest)
    by zero other = ap (λ own. cond own [] (entry ∷ before_fetch client zero (deaf ++ rest))) other
    by (suc i) other = ap (λ own. entry ∷ before_fetch client (cond own i (suc i)) (deaf ++ rest)) other

-- ---- a run, behind the opening

-- what is behind the helm's opening, of which its own entries are so many ticks over what it heard
pub record IsTicked (helm : HelmSetup) (names : List (List ℕ)) (ticks : ℕ) (history : History) : Type 0 where
  pub rest : History
  pub opened : history ≡ opening_of helm ++ rest
  pub some : 1 ≤ helm.period
  pub heard : List Tick
  pub steered : entries_of helm.client rest ≡ ticks_of helm heard ticks

abbrev pub ticked : (order : Order) (script : Script) (helm : HelmSetup) (names : List (List ℕ)) (history : History) → IsHelmRun order script helm names history → IsTicked helm names (ticks_to script.stop helm) history
ticked order script helm names history run = record {
  rest = run.lawful.rest;
  opened = run.lawful.opened;
  some = run.period;
  heard = heard_of names (helm_number script) history;
  steered = ap (λ client. entries_of client run.lawful.rest) run.number ∙ run.lawful.steered;
}

pub ticks_heard : (helm : HelmSetup) (names : List (List ℕ)) (ticks : ℕ) (history : History) → (so : IsTicked helm names ticks history) → length (heard_in (mailed_in names) helm.client (opening_of helm) so.rest) ≡ ticks
ticks_heard helm names ticks history so =
    heard_many (mailed_in names) helm.client (opening_of helm) so.rest ∙ ap fetches (so.steered ∙ ticks_are helm so.heard ticks) ∙ ticks_fetch helm so.heard 0 ticks

-- the helm registers first of all, and never again
pub first_of_all : (helm : HelmSetup) (names : List (List ℕ)) (ticks : ℕ) (history : History) → IsTicked helm names ticks history → RegistersFirst helm.client (wants_of helm.plan) history
first_of_all helm names ticks history so = record {
  stamp = 0;
  later = cond (nat_lt 0 (length helm.plan.opening)) (entry_of helm.client 0 (Posts helm.plan.opening) ∷ []) [] ++ so.rest;
  is = so.opened;
  all = wants_everybody helm.plan;
  keeps =
      list_all-append (keeps_lives helm.client) (cond (nat_lt 0 (length helm.plan.opening)) (entry_of helm.client 0 (Posts helm.plan.opening) ∷ []) []) so.rest
      ∙ and_from (list_all (keeps_lives helm.client) (cond (nat_lt 0 (length helm.plan.opening)) (entry_of helm.client 0 (Posts helm.plan.opening) ∷ []) [])) (list_all (keeps_lives helm.client) so.rest) (by (nat_lt 0 (length helm.plan.opening)))
      (own_keep helm.client so.rest (ap (list_all (λ entry. leaves_lives entry.call)) (so.steered ∙ ticks_are helm so.heard ticks) ∙ ticks_leave helm so.heard 0 ticks));
}
  where
    by : (some : Bool) → list_all (keeps_lives helm.client) (cond some (entry_of helm.client 0 (Posts helm.plan.opening) ∷ []) []) ≡ true
    by true = and_from (not (helm.client == helm.client) || true) true (or-true (not (helm.client == helm.client))) refl
    by false = refl

-- where the helm's tick i is, which has its stamp, and the helm's own entries before it have lesser ones
pub record HasTick (helm : HelmSetup) (history rest : History) (i : ℕ) : Type 0 where
  pub before : History
  pub fetch : Entry
  pub later : History
  pub is : rest ≡ before ++ fetch ∷ later
  pub own : fetches_for helm.client fetch ≡ true
  pub front : before_tick helm history i ≡ opening_of helm ++ before
  pub stamp : fetch.stamp ≡ i * helm.period
  pub earlier : list_all (λ entry. nat_lt entry.stamp (i * helm.period)) (entries_of helm.client before) ≡ true

pub has_tick : (helm : HelmSetup) (names : List (List ℕ)) (ticks : ℕ) (history : History) → (so : IsTicked helm names ticks history) → (i : ℕ) → i < ticks → HasTick helm history so.rest i
has_tick helm names ticks history so i less = record {
  before = at.before;
  fetch = at.fetch;
  later = at.later;
  is = at.is;
  own = at.own;
  front = ap (before_fetch helm.client i) so.opened ∙ before_deaf helm.client i (opening_of helm) so.rest (opening_deaf helm) ∙ ap (λ rest. opening_of helm ++ rest) at.front;
  stamp = tick.stamp ∙ ap (λ n. n * helm.period) count;
  earlier = subst (λ n. list_all (λ (entry : Entry). nat_lt entry.stamp (n * helm.period)) (entries_of helm.client at.before) ≡ true) count tick.earlier;
}
  where
    at : IsFetchAt (mailed_in names) helm.client i (opening_of helm) so.rest
    at = fetch_at (mailed_in names) helm.client i (opening_of helm) so.rest (omega (arith, less, ticks_heard helm names ticks history so))

    parts : (at.fetch.client == helm.client ≡ true) × (is_fetch at.fetch.call ≡ true)
    parts = and_parts (at.fetch.client == helm.client) (is_fetch at.fetch.call) at.own

    count : 0 + fetches (entries_of helm.client at.before) ≡ i
    count = zero-add (fetches (entries_of helm.client at.before)) ∙ sym (heard_many (mailed_in names) helm.client (opening_of helm) at.before) ∙ at.count

    entries : ticks_from helm so.heard 0 ticks ≡ entries_of helm.client at.before ++ at.fetch ∷ entries_of helm.client at.later
    entries =
        sym (so.steered ∙ ticks_are helm so.heard ticks) ∙ ap (entries_of helm.client) at.is ∙ filter-append (λ entry. entry.client == helm.client) at.before (at.fetch ∷ at.later)
        ∙ ap (λ own. entries_of helm.client at.before ++ cond own (at.fetch ∷ entries_of helm.client at.later) (entries_of helm.client at.later)) parts.0

    tick : IsTickAt helm so.heard (0 + fetches (entries_of helm.client at.before)) (entries_of helm.client at.before) at.fetch
    tick = tick_at helm so.heard 0 ticks (entries_of helm.client at.before) at.fetch (entries_of helm.client at.later) so.some entries parts.1

-- ---- two places of one history

pub in_middle : (test : Entry → Bool) (before : History) (entry : Entry) (later : History) → list_all test (before ++ entry ∷ later) ≡ true → (test entry ≡ true) × (list_all test later ≡ true)
in_middle test before entry later all =
    and_parts (test entry) (list_all test later) (and_parts (list_all test before) (list_all test (entry ∷ later)) (sym (list_all-append test before (entry ∷ later)) ∙ all)).1

next_lt : (m n : ℕ) → nat_lt (suc m) (suc n) ≡ nat_lt m n
next_lt m n =
    elim (cases_Bool (nat_lt m n)) [
      | inl less ↦ le-leb (suc (suc m)) (suc n) (omega (arith, leb-true (suc m) n less)) ∙ sym less
      | inr more ↦ lt-leb (suc (suc m)) (suc n) (omega (arith, leb-false (suc m) n more)) ∙ sym more
    ]

module _ (early late : Entry → Bool) where
  -- an entry is before a fetch if all those before it are early, all those behind it late, and so is this one
  pub place : (front : History) (fetch : Entry) (back before : History) (entry : Entry) (later : History) → front ++ fetch ∷ back ≡ before ++ entry ∷ later → list_all early front ≡ true → (entry ≡ fetch → ⊥) → list_all late back ≡ true
      → (within : Bool) → (early entry ≡ true → within ≡ true) → (late entry ≡ true → within ≡ false) → nat_lt (length before) (length front) ≡ within
  place [] fetch back [] entry later same all other none within soon far = absurd (other (sym (first_same fetch entry back later same)))
  place [] fetch back (one ∷ before) entry later same all other none within soon far =
      lt-leb (suc (suc (length before))) 0 (omega arith)
      ∙ sym (far (in_middle late before entry later (subst (λ back. list_all late back ≡ true) (rest_same fetch one back (before ++ entry ∷ later) same) none)).0)
  place (first ∷ front) fetch back [] entry later same all other none within soon far =
      le-leb 1 (suc (length front)) (omega arith)
      ∙ sym (soon (ap early (sym (first_same first entry (front ++ fetch ∷ back) later same)) ∙ (and_parts (early first) (list_all early front) all).0))
  place (first ∷ front) fetch back (one ∷ before) entry later same all other none within soon far =
      next_lt (length before) (length front)
      ∙ place front fetch back before entry later (rest_same first one (front ++ fetch ∷ back) (before ++ entry ∷ later) same) (and_parts (early first) (list_all early front) all).1 other none within soon far

-- an entry before a fetch, and what is between them
pub record IsBetween (front : History) (fetch : Entry) (back before : History) (entry : Entry) (later : History) : Type 0 where
  pub some : History
  pub front_is : front ≡ before ++ entry ∷ some
  pub later_is : later ≡ some ++ fetch ∷ back

pub between : (late : Entry → Bool) (front : History) (fetch : Entry) (back before : History) (entry : Entry) (later : History) → front ++ fetch ∷ back ≡ before ++ entry ∷ later → (entry ≡ fetch → ⊥) → list_all late back ≡ true → (late entry ≡ true → ⊥)
    → IsBetween front fetch back before entry later
between late [] fetch back [] entry later same other none early = absurd (other (sym (first_same fetch entry back later same)))
between late [] fetch back (one ∷ before) entry later same other none early =
    absurd (early (in_middle late before entry later (subst (λ back. list_all late back ≡ true) (rest_same fetch one back (before ++ entry ∷ later) same) none)).0)
between late (first ∷ front) fetch back [] entry later same other none early = record {
  some = front;
  front_is = ap (λ one. one ∷ front) (first_same first entry (front ++ fetch ∷ back) later same);
  later_is = sym (rest_same first entry (front ++ fetch ∷ back) later same);
}
between late (first ∷ front) fetch back (one ∷ before) entry later same other none early =
    let next = between late front fetch back before entry later (rest_same first one (front ++ fetch ∷ back) (before ++ entry ∷ later) same) other none early in record {
      some = next.some;
      front_is = ap (λ one. one ∷ front) (first_same first one (front ++ fetch ∷ back) (before ++ entry ∷ later) same) ∙ ap (λ rest. one ∷ rest) next.front_is;
      later_is = next.later_is;
    }

-- behind an entry that isn't among the first ones
pub behind : (own test : Entry → Bool) (first rest before : History) (entry : Entry) (some : History) → first ++ rest ≡ before ++ entry ∷ some → list_all own first ≡ true → (own entry ≡ true → ⊥) → list_all test rest ≡ true → list_all test some ≡ true
behind own test [] rest before entry some same all other tests = (in_middle test before entry some (subst (λ rest. list_all test rest ≡ true) same tests)).1
behind own test (one ∷ first) rest [] entry some same all other tests = absurd (other (ap own (sym (first_same one entry (first ++ rest) some same)) ∙ (and_parts (own one) (list_all own first) all).0))
behind own test (one ∷ first) rest (two ∷ before) entry some same all other tests =
    behind own test first rest before entry some (rest_same one two (first ++ rest) (before ++ entry ∷ some) same) (and_parts (own one) (list_all own first) all).1 other tests

-- ---- in order Stamp

pub all_so : (some more : Entry → Bool) → ((entry : Entry) → some entry ≡ true → more entry ≡ true) → (entries : History) → list_all some entries ≡ true → list_all more entries ≡ true
all_so some more so [] all = refl
all_so some more so (entry ∷ entries) all =
    let both = and_parts (some entry) (list_all some entries) all in and_from (more entry) (list_all more entries) (so entry both.0) (all_so some more so entries both.1)

-- the helm's own, or not above the stamp of its tick i; and the helm's own, or above it
abbrev pub is_early : HelmSetup → ℕ → Entry → Bool
is_early helm i entry = (entry.client == helm.client) || nat_le entry.stamp (i * helm.period)

abbrev pub is_late : HelmSetup → ℕ → Entry → Bool
is_late helm i entry = (entry.client == helm.client) || nat_lt (i * helm.period) entry.stamp

pub record IsAround (helm : HelmSetup) (i : ℕ) (before later : History) : Type 0 where
  pub heard : list_all (is_heard_by helm i) before ≡ true
  pub late : list_all (is_late helm i) later ≡ true

heard_all : (helm : HelmSetup) (i : ℕ) (before : History) → list_all (λ entry. nat_lt entry.stamp (i * helm.period)) (entries_of helm.client before) ≡ true → list_all (λ entry. nat_le (moment_of helm.client entry) (suc (2 * (i * helm.period)))) before ≡ true
    → list_all (is_heard_by helm i) before ≡ true
heard_all helm i [] earlier within = refl
heard_all helm i (entry ∷ before) earlier within =
    let both = and_parts (nat_le (moment_of helm.client entry) (suc (2 * (i * helm.period)))) (list_all (λ entry. nat_le (moment_of helm.client entry) (suc (2 * (i * helm.period)))) before) within in
    by (entry.client == helm.client) earlier both.0 (λ rest. heard_all helm i before rest both.1)
  where
    by : (own : Bool) → list_all (λ entry. nat_lt entry.stamp (i * helm.period)) (cond own (entry ∷ entries_of helm.client before) (entries_of helm.client before)) ≡ true
        → nat_le (if own then suc (2 * entry.stamp) else 2 * entry.stamp) (suc (2 * (i * helm.period))) ≡ true
        → (list_all (λ entry. nat_lt entry.stamp (i * helm.period)) (entries_of helm.client before) ≡ true → list_all (is_heard_by helm i) before ≡ true)
        → ((if own then nat_lt entry.stamp (i * helm.period) else nat_le entry.stamp (i * helm.period)) && list_all (is_heard_by helm i) before) ≡ true
    by true earlier here more =
        let both = and_parts (nat_lt entry.stamp (i * helm.period)) (list_all (λ entry. nat_lt entry.stamp (i * helm.period)) (entries_of helm.client before)) earlier in
        and_from (nat_lt entry.stamp (i * helm.period)) (list_all (is_heard_by helm i) before) both.0 (more both.1)
    by false earlier here more =
        let low : 2 * entry.stamp ≤ suc (2 * (i * helm.period)) = leb-true (2 * entry.stamp) (suc (2 * (i * helm.period))) here in
        and_from (nat_le entry.stamp (i * helm.period)) (list_all (is_heard_by helm i) before) (le-leb entry.stamp (i * helm.period) (omega (arith, low))) (more earlier)

pub around_tick : (helm : HelmSetup) (history rest : History) (i : ℕ) → (tick : HasTick helm history rest i) → never_falls 0 (map (moment_of helm.client) rest) ≡ true → IsAround helm i tick.before tick.later
around_tick helm history rest i tick falls = record {
  heard = heard_all helm i tick.before tick.earlier (subst (λ n. list_all (λ entry. nat_le (moment_of helm.client entry) n) tick.before ≡ true) moment (sym (list_all-map (λ m. nat_le m fetched) (moment_of helm.client) tick.before) ∙ parts.1));
  late = all_so (λ entry. nat_le (suc (2 * (i * helm.period))) (moment_of helm.client entry)) (is_late helm i) (λ entry. by (entry.client == helm.client) entry.stamp) tick.later
      (subst (λ n. list_all (λ entry. nat_le n (moment_of helm.client entry)) tick.later ≡ true) moment (sym (list_all-map (λ m. nat_le fetched m) (moment_of helm.client) tick.later) ∙ parts.2));
}
  where
    fetched : ℕ
    fetched = moment_of helm.client tick.fetch

    moment : fetched ≡ suc (2 * (i * helm.period))
    moment = ap (λ own. if own then suc (2 * tick.fetch.stamp) else 2 * tick.fetch.stamp) (and_parts (tick.fetch.client == helm.client) (is_fetch tick.fetch.call) tick.own).0 ∙ ap (λ stamp. suc (2 * stamp)) tick.stamp

    parts : (0 ≤ fetched) × (list_all (λ m. nat_le m fetched) (map (moment_of helm.client) tick.before) ≡ true) × (list_all (λ m. nat_le fetched m) (map (moment_of helm.client) tick.later) ≡ true)
    parts = around 0 (map (moment_of helm.client) tick.before) fetched (map (moment_of helm.client) tick.later) (ap (never_falls 0) (sym (map-append (moment_of helm.client) tick.before (tick.fetch ∷ tick.later)) ∙ ap (map (moment_of helm.client)) (sym tick.is)) ∙ falls)

    by : (own : Bool) (stamp : ℕ) → nat_le (suc (2 * (i * helm.period))) (if own then suc (2 * stamp) else 2 * stamp) ≡ true → (own || nat_lt (i * helm.period) stamp) ≡ true
    by true stamp high = refl
    by false stamp high = (let above : suc (2 * (i * helm.period)) ≤ 2 * stamp = leb-true (suc (2 * (i * helm.period))) (2 * stamp) high in le-leb (suc (i * helm.period)) stamp (omega (arith, above)))

-- what the helm may have heard is early, and so are its own entries
pub early_front : (helm : HelmSetup) (i : ℕ) (before : History) → list_all (is_heard_by helm i) before ≡ true → list_all (is_early helm i) (opening_of helm ++ before) ≡ true
early_front helm i before heard =
    list_all-append (is_early helm i) (opening_of helm) before
    ∙ and_from (list_all (is_early helm i) (opening_of helm)) (list_all (is_early helm i) before)
    (all_so (λ entry. entry.client == helm.client) (is_early helm i) (λ entry own. ap (λ own. own || nat_le entry.stamp (i * helm.period)) own) (opening_of helm) (opening_own helm))
    (all_so (is_heard_by helm i) (is_early helm i) (λ entry. by (entry.client == helm.client) entry.stamp) before heard)
  where
    by : (own : Bool) (stamp : ℕ) → (if own then nat_lt stamp (i * helm.period) else nat_le stamp (i * helm.period)) ≡ true → (own || nat_le stamp (i * helm.period)) ≡ true
    by true stamp is = refl
    by false stamp is = is
