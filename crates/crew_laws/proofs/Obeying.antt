-- By which posts of the override a helm is parked.
use Rattle.std.proofs.Common.{◌≡◌, suc, ◌*◌, Bool, true, false, cond, not, ◌==◌, ◌||◌, [], ◌∷◌, ◌++◌, map, Option, Some, None, refl, sym, ap, subst, ◌∙◌, arith, ne_eqb}
use Rattle.std.specs.Prelude.{filter, nat_lt}
use Rattle.std.specs.List.{list_all}
use Rattle.std.specs.Option.{option_or}
use Rattle.std.proofs.lemmas.Bool.{and_parts, leb-true}
use Rattle.std.proofs.lemmas.Grind.{flat_map-append}
use Rattle.std.proofs.lemmas.List.{map-append}
use Rattle.std.proofs.lemmas.List.Elements.{filter-append}
use Rattle.moos_post.specs.declared.entry.Entry.{Entry}
use Rattle.moos_post.specs.declared.value.Value.{Value}
use Rattle.moos_post.specs.History.{History, posts_of, posts_of_entry}
use Rattle.moos_mail.specs.Sentences.{StampsRise}
use Rattle.moos_db.specs.Database.{pair_posted}
use Rattle.helm_core.specs.Ticks.{gives_way, is_parked, latest_override}
use Rattle.moos_play.specs.Lawful.{opening_of, ticks_to}
use Rattle.script_reader.specs.declared.script.Order.{Order}
use Rattle.script_reader.specs.declared.script.Order.TheVariants.{Stamp}
use Rattle.crew_laws.specs.Hearing.{before_tick}
use Rattle.crew_laws.specs.InTime.{in_time}
use Rattle.crew_laws.specs.Overrides.{HoldsFromItsStamp, is_heard_by, override_in, ParkedByLastInTime, ParkedByLastPost}
use Rattle.crew_laws.specs.Runs.{OfEveryRun}
use Rattle.crew_laws.proofs.Hearings.{hears, no_fetch, stamps_rise, tick_around, whole_is}
use Rattle.crew_laws.proofs.Mails.{AreJoined}
use Rattle.crew_laws.proofs.Ordering.{behind, between, has_tick, HasTick, IsAround, IsBetween, is_late, IsTicked, opening_own, ticked}
use Rattle.crew_laws.proofs.Reading.{override_append, overrides_kept}
use Rattle.crew_laws.proofs.Stamping.{rise_front, rising_in_time}

pub by_last_in_time : AreJoined → (order : Order) → OfEveryRun order ParkedByLastInTime
by_last_in_time joined order script helm names history run i less =
    ap is_parked (hears joined order script helm names history run i less) ∙ ap (λ latest. not (gives_way latest)) (overrides_kept helm.plan (in_time (posts_of (before_tick helm history i))))

pub by_last_post : AreJoined → OfEveryRun Stamp ParkedByLastPost
by_last_post joined script helm names history run i less =
    by_last_in_time joined Stamp script helm names history run i less
    ∙ ap (λ posts. is_parked (map pair_posted posts)) (rising_in_time (posts_of (before_tick helm history i)) (subst (λ front. StampsRise 0 (posts_of front)) (sym tick.front) (rise_front 0 (posts_of front) (posts_of (tick.fetch ∷ tick.later)) both)))
  where
    so : IsTicked helm names (ticks_to script.stop helm) history
    so = ticked Stamp script helm names history run

    tick : HasTick helm history so.rest i
    tick = has_tick helm names (ticks_to script.stop helm) history so i less

    front : History
    front = opening_of helm ++ tick.before

    both : StampsRise 0 (posts_of front ++ posts_of (tick.fetch ∷ tick.later))
    both =
        subst (StampsRise 0) (ap posts_of (whole_is helm names (ticks_to script.stop helm) history so i tick) ∙ flat_map-append posts_of_entry front (tick.fetch ∷ tick.later))
        (stamps_rise script helm names history run)

-- ---- the last override of two parts

override_parts : (some more : History) → override_in (some ++ more) ≡ option_or (override_in more) (override_in some)
override_parts some more =
    ap (λ posts. latest_override (map pair_posted posts)) (flat_map-append posts_of_entry some more) ∙ ap latest_override (map-append pair_posted (posts_of some) (posts_of more))
    ∙ override_append (map pair_posted (posts_of some)) (map pair_posted (posts_of more))

none_or : (later first : Option Value) → option_or later first ≡ None → first ≡ None
none_or None first none = none
none_or (Some value) first none = absurd (let e : Some value ≡ None = none in cc)

last_one : (before : History) (entry : Entry) (some : History) (value : Value) → override_in (entry ∷ []) ≡ Some value → override_in some ≡ None → override_in (before ++ entry ∷ some) ≡ Some value
last_one before entry some value says none =
    override_parts before (entry ∷ some) ∙ ap (λ later. option_or later (override_in before)) (override_parts (entry ∷ []) some ∙ ap (λ later. option_or later (override_in (entry ∷ []))) none ∙ says)

all_kept : (test : Entry → Bool) (entries : History) → list_all test entries ≡ true → filter test entries ≡ entries
all_kept test [] all = refl
all_kept test (entry ∷ entries) all =
    let both = and_parts (test entry) (list_all test entries) all in
    ap (λ b. cond b (entry ∷ filter test entries) (filter test entries)) both.0 ∙ ap (λ rest. entry ∷ rest) (all_kept test entries both.1)

pub holds : AreJoined → OfEveryRun Stamp HoldsFromItsStamp
holds joined script helm names history run i value less posted =
    by_last_post joined script helm names history run i less ∙ ap (λ front. not (gives_way (override_in front))) (tick.front ∙ split.front_is)
    ∙ ap (λ latest. not (gives_way latest)) (last_one posted.before posted.entry split.some value posted.says none)
  where
    so : IsTicked helm names (ticks_to script.stop helm) history
    so = ticked Stamp script helm names history run

    tick : HasTick helm history so.rest i
    tick = has_tick helm names (ticks_to script.stop helm) history so i less

    near : IsAround helm i tick.before tick.later
    near = tick_around script helm names history run i tick

    not_late : is_late helm i posted.entry ≡ true → ⊥
    not_late late =
        omega (arith, posted.stamp, leb-true (suc (i * helm.period)) posted.entry.stamp (ap (λ own. own || nat_lt (i * helm.period) posted.entry.stamp) (sym (ne_eqb posted.entry.client helm.client posted.other)) ∙ late))

    split : IsBetween (opening_of helm ++ tick.before) tick.fetch tick.later posted.before posted.entry posted.later
    split = between (is_late helm i) (opening_of helm ++ tick.before) tick.fetch tick.later posted.before posted.entry posted.later (sym (whole_is helm names (ticks_to script.stop helm) history so i tick) ∙ posted.is)
        (no_fetch helm history so.rest i tick posted.entry posted.other) near.late not_late

    not_own : (posted.entry.client == helm.client) ≡ true → ⊥
    not_own own = by (sym (ne_eqb posted.entry.client helm.client posted.other) ∙ own)
      where
        by : false ≡ true → ⊥
        by e = cc

    heard : list_all (is_heard_by helm i) split.some ≡ true
    heard = behind (λ entry. entry.client == helm.client) (is_heard_by helm i) (opening_of helm) tick.before posted.before posted.entry split.some split.front_is (opening_own helm) not_own near.heard

    none : override_in split.some ≡ None
    none =
        none_or (override_in (filter (is_heard_by helm i) (tick.fetch ∷ tick.later))) (override_in split.some)
        (ap (λ some. option_or (override_in (filter (is_heard_by helm i) (tick.fetch ∷ tick.later))) (override_in some)) (sym (all_kept (is_heard_by helm i) split.some heard))
        ∙ sym (override_parts (filter (is_heard_by helm i) split.some) (filter (is_heard_by helm i) (tick.fetch ∷ tick.later)))
        ∙ ap override_in (sym (filter-append (is_heard_by helm i) split.some (tick.fetch ∷ tick.later)) ∙ ap (filter (is_heard_by helm i)) (sym split.later_is)) ∙ posted.last)
