-- Runs with an override worked by hand, in both orders, and vehicles that slow down.
use Rattle.std.proofs.Common.{◌≡◌, ℕ, ◌*◌, ◌==◌, Bool, true, false, cond, List, [], ◌∷◌, ◌++◌, drop, map, take, None, Some, refl, sym, arith, ne_eqb}
use Rattle.std.specs.Prelude.{codes, filter, pos}
use Rattle.std.proofs.lemmas.Bool.{eqb-true, false≢true}
use Rattle.moos_post.specs.declared.entry.Call.TheVariants.{Post as Posts, Fetch}
use Rattle.moos_post.specs.declared.entry.Entry.{Entry}
use Rattle.moos_post.specs.declared.value.Post.{Post}
use Rattle.moos_post.specs.declared.value.Value.TheVariants.{Num, Text}
use Rattle.moos_post.specs.Delivery.{mailed_to, was_mailed}
use Rattle.moos_post.specs.History.{History}
use Rattle.moos_client.specs.Calls.{entry_of}
use Rattle.moos_play.specs.Lawful.{heard_of, HelmSetup, KeepsOrder, opening_of, tick_entries}
use Rattle.script_reader.specs.declared.script.Order.TheVariants.{Race, Stamp}
use Rattle.script_reader.specs.declared.script.Script.{Script}
use Rattle.sim_vehicle.specs.Settings.{default_settings}
use Rattle.crew_laws.specs.Braking.{braking, coasting}
use Rattle.crew_laws.specs.Hearing.{before_tick}
use Rattle.crew_laws.specs.InTime.{in_time}
use Rattle.crew_laws.specs.Overrides.{IsLastOverride, is_heard_by, override_in, parked_at}
use Rattle.crew_laws.specs.Races.{posts_alone}
use Rattle.crew_laws.specs.Runs.{IsHelmRun}

-- ---- which posts come in time

abbrev post : ℕ → List ℕ → Post
post stamp var = record { stamp = stamp; source = 0; var = var; value = Num (pos 0) }

-- The third post is of A, and behind a later one of A. That of B is behind it too, but of another variable; and an equal stamp does no harm.
some_in_time : map (λ (one : Post). one.stamp) (in_time (post 1 (codes "A") ∷ post 5 (codes "A") ∷ post 3 (codes "A") ∷ post 2 (codes "B") ∷ post 5 (codes "A") ∷ [])) ≡ 1 ∷ 5 ∷ 2 ∷ 5 ∷ []
some_in_time = refl

-- ---- an override in order Stamp

abbrev says : ℕ → ℕ → List ℕ → Entry
says client stamp text = entry_of client stamp (Posts (record { var = codes "MOOS_MANUAL_OVERRIDE"; value = Text text } ∷ []))

abbrev names : List (List ℕ)
names = codes "a" ∷ codes "b" ∷ codes "pHelmIvP" ∷ []

-- a helm that ticks four times a second
abbrev helm : HelmSetup
helm = record { client = 2; plan = record { axes = []; opening = []; decls = []; blocks = [] }; period = 250 }

-- its tick i behind a history
abbrev ticked : History → ℕ → History
ticked past i = past ++ tick_entries helm (heard_of names 2 (past ++ entry_of 2 (i * 250) Fetch ∷ [])) i

-- a gives the vehicle at 0, and takes it at 0.3 s; b gives it back at 0.6 s
abbrev in_order : History
in_order = ticked (ticked (ticked (ticked (opening_of helm ++ says 0 0 (codes "false") ∷ []) 0) 1 ++ says 0 300 (codes "true") ∷ []) 2 ++ says 1 600 (codes "False") ∷ []) 3

-- The override of 0.3 s holds from the tick at 0.5 s on, and that of 0.6 s from the one at 0.75 s on.
parks_in_order : map (parked_at helm names in_order) (0 ∷ 1 ∷ 2 ∷ 3 ∷ []) ≡ false ∷ false ∷ true ∷ false ∷ []
parks_in_order = refl

overrides_in_order : map (λ i. override_in (before_tick helm in_order i)) (0 ∷ 1 ∷ 2 ∷ 3 ∷ []) ≡ Some (Text (codes "false")) ∷ Some (Text (codes "false")) ∷ Some (Text (codes "true")) ∷ Some (Text (codes "False")) ∷ []
overrides_in_order = refl

keeps_order : KeepsOrder Stamp 2 (drop 1 in_order)
keeps_order = refl

-- At the tick at 0.5 s that of 0.3 s is the last one, since that of 0.6 s isn't heard by then.
last_then : IsLastOverride helm in_order 2 (Text (codes "true"))
last_then = record {
  before = take 6 in_order;
  entry = says 0 300 (codes "true");
  later = drop 7 in_order;
  is = refl;
  other = omega arith;
  says = refl;
  stamp = omega arith;
  last = refl;
}

-- At the tick at 0.75 s it isn't any more, and at the one at 0.25 s it isn't yet.
heard_later : map (λ i. override_in (filter (is_heard_by helm i) (drop 7 in_order))) (2 ∷ 3 ∷ []) ≡ None ∷ Some (Text (codes "False")) ∷ []
heard_later = refl

heard_yet : map (λ i. is_heard_by helm i (says 0 300 (codes "true"))) (1 ∷ 2 ∷ []) ≡ false ∷ true ∷ []
heard_yet = refl

-- The helm's own post at a tick is heard at the next one.
heard_own : map (λ i. is_heard_by helm i (says 2 250 (codes "true"))) (1 ∷ 2 ∷ []) ≡ false ∷ true ∷ []
heard_own = refl

-- ---- an override in a race

-- b gives the vehicle back at 0.2 s before a has taken it at 0.1 s
abbrev overtaken : History
overtaken = ticked (ticked (opening_of helm ++ says 1 200 (codes "false") ∷ says 0 100 (codes "true") ∷ []) 0) 1

-- In order Stamp this isn't lawful; in a race it may be.
out_of_order : KeepsOrder Stamp 2 (drop 1 overtaken) → ⊥
out_of_order = false≢true

-- That of a is never mailed, and the helm drives on, though it is the last one that was posted.
never_mailed : map (λ n. was_mailed n (mailed_to names 2 overtaken)) (0 ∷ 1 ∷ []) ≡ true ∷ false ∷ []
never_mailed = refl

drives_on : map (parked_at helm names overtaken) (0 ∷ 1 ∷ []) ≡ false ∷ false ∷ []
drives_on = refl

last_posted : override_in (before_tick helm overtaken 0) ≡ Some (Text (codes "true"))
last_posted = refl

-- Posted again with a stamp that isn't below any before, it holds from the helm's next tick on.
abbrev repeated : History
repeated = ticked (overtaken ++ says 0 200 (codes "true") ∷ []) 2

parks_again : parked_at helm names repeated 2 ≡ true
parks_again = refl

-- Only a later stamp of the same spelling overtakes.
abbrev spelled : History
spelled = ticked (opening_of helm ++ says 1 200 (codes "false") ∷ entry_of 0 100 (Posts (record { var = codes "MOOS_MANUAL_OVERIDE"; value = Text (codes "true") } ∷ [])) ∷ []) 0

parks_by_other : parked_at helm names spelled 0 ≡ true
parks_by_other = refl

-- ---- such runs

abbrev script_of : Entry → Entry → ℕ → Script
script_of first second stop = record { names = codes "a" ∷ codes "b" ∷ []; lines = first ∷ second ∷ []; stop = stop }

-- what some entries of one client add to others, if it is the client that is asked for
abbrev kept : Bool → List Entry → List Entry → List Entry
kept own [] rest = rest
kept own (entry ∷ entries) rest = cond own (entry ∷ kept own entries rest) (kept own entries rest)

-- A run in order Stamp: a gives the vehicle at 0 and takes it at 0.1 s, and the helm ticks at 0 and at 0.25 s.
abbrev short : History
short = ticked (ticked (opening_of helm ++ says 0 0 (codes "false") ∷ []) 0 ++ says 0 100 (codes "true") ∷ []) 1

short_run : IsHelmRun Stamp (script_of (says 0 0 (codes "false")) (says 0 100 (codes "true")) 250) helm names short
short_run = record {
  number = refl;
  period = omega arith;
  lawful = record {
    rest = drop 1 short;
    opened = refl;
    steered = refl;
    own = λ client other. by (0 == client) (2 == client) (ne_eqb 2 client (λ same. other (sym same)));
    moments = refl;
  };
}
  where
    by : (first helms : Bool) → helms ≡ false
        → cond first (says 0 0 (codes "false") ∷ kept helms (take 2 (drop 2 short)) (cond first (says 0 100 (codes "true") ∷ kept helms (drop 5 short) []) (kept helms (drop 5 short) [])))
        (kept helms (take 2 (drop 2 short)) (cond first (says 0 100 (codes "true") ∷ kept helms (drop 5 short) []) (kept helms (drop 5 short) [])))
        ≡ cond first (says 0 0 (codes "false") ∷ cond first (says 0 100 (codes "true") ∷ []) []) (cond first (says 0 100 (codes "true") ∷ []) [])
    by first true none = absurd (let e : true ≡ false = none in cc)
    by first false none = refl

-- So the override of 0.1 s holds at its second tick and not at its first.
parks_short : map (parked_at helm names short) (0 ∷ 1 ∷ []) ≡ false ∷ true ∷ []
parks_short = refl

-- A run in a race: that of a stands behind that of b, which has a later stamp.
raced_run : IsHelmRun Race (script_of (says 0 100 (codes "true")) (says 1 200 (codes "false")) 250) helm names overtaken
raced_run = record {
  number = refl;
  period = omega arith;
  lawful = record {
    rest = drop 1 overtaken;
    opened = refl;
    steered = refl;
    own = λ client other. by (0 == client) (1 == client) (2 == client) (λ first. ne_eqb 1 client (λ same. omega (arith, same, eqb-true 0 client first))) (ne_eqb 2 client (λ same. other (sym same)));
    moments = tt;
  };
}
  where
    by : (first second helms : Bool) → (first ≡ true → second ≡ false) → helms ≡ false
        → cond second (says 1 200 (codes "false") ∷ cond first (says 0 100 (codes "true") ∷ kept helms (drop 3 overtaken) []) (kept helms (drop 3 overtaken) []))
        (cond first (says 0 100 (codes "true") ∷ kept helms (drop 3 overtaken) []) (kept helms (drop 3 overtaken) []))
        ≡ cond first (says 0 100 (codes "true") ∷ cond second (says 1 200 (codes "false") ∷ []) []) (cond second (says 1 200 (codes "false") ∷ []) [])
    by first second true alone none = absurd (let e : true ≡ false = none in cc)
    by true true false alone none = absurd (let e : true ≡ false = alone refl in cc)
    by true false false alone none = refl
    by false second false alone none = refl

-- In the first run a alone posts overrides, and in the second neither client does.
alone_in_order : posts_alone 0 (codes "MOOS_MANUAL_OVERRIDE") short ≡ true
alone_in_order = refl

alone_in_race : map (λ client. posts_alone client (codes "MOOS_MANUAL_OVERRIDE") overtaken) (0 ∷ 1 ∷ []) ≡ false ∷ false ∷ []
alone_in_race = refl

-- ---- vehicles that slow down

-- By 1 m/s in each second, in steps of a quarter of a second, 2 m/s are gone after 8 steps and not after 7.
eight_steps : map (coasting default_settings 250 (pos 2000)) (1 ∷ 7 ∷ 8 ∷ 9 ∷ []) ≡ pos 1750 ∷ pos 250 ∷ pos 0 ∷ pos 0 ∷ []
eight_steps = refl

-- What is left is taken off whole.
uneven : map (coasting (record default_settings { decel = pos 1200 }) 250 (pos 500)) (1 ∷ 2 ∷ []) ≡ pos 200 ∷ pos 0 ∷ []
uneven = refl

-- Half a metre a second in a second is less than a thousandth in a millisecond: it never slows.
too_short : braking (record default_settings { decel = pos 500 }) 1 ≡ pos 0
too_short = refl

goes_on : coasting (record default_settings { decel = pos 500 }) 1 (pos 2000) 5 ≡ pos 2000
goes_on = refl
