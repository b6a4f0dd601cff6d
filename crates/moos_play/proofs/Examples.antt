-- A script with a helm worked by hand: what they may leave together, and what they may not.
use Rattle.std.proofs.Common.{◌≡◌, ℕ, ◌==◌, Bool, cond, List, [], ◌∷◌, ◌++◌, length, None, Some, refl, sym, ap, arith, ne_eqb}
use Rattle.std.specs.Prelude.{codes}
use Rattle.std.proofs.lemmas.Bool.{false≢true}
use Rattle.helm_core.specs.Iterations.{iteration_at}
use Rattle.helm_core.specs.Plans.{Plan}
use Rattle.helm_core.specs.Ticks.{Tick}
use Rattle.moos_client.specs.Calls.{entries_of, entry_of}
use Rattle.moos_post.specs.declared.entry.Call.TheVariants.{Post as Posts, Fetch}
use Rattle.moos_post.specs.declared.entry.Entry.{Entry}
use Rattle.moos_post.specs.History.{History}
use Rattle.moos_play.specs.Lawful.{heard_of, IsLawful, KeepsOrder, opening, opening_of, HelmSetup, tick_entries, ticks, ticks_to}
use Rattle.moos_play.specs.Steered.{IsStopped}
use Rattle.script_reader.specs.declared.script.Order.TheVariants.{Stamp, Race}
use Rattle.script_reader.specs.declared.script.Script.{Script}

-- a client fetches at 0, and the script ends there
abbrev script : Script
script = record { names = codes "a" ∷ []; lines = entry_of 0 0 Fetch ∷ []; stop = 0 }

abbrev names : List (List ℕ)
names = codes "a" ∷ codes "pHelmIvP" ∷ []

-- a helm without modes, which posts nothing to begin with and ticks four times a second
abbrev plan : Plan
plan = record { axes = []; opening = []; decls = []; blocks = [] }

abbrev helm : HelmSetup
helm = record { client = 1; plan = plan; period = 250 }

-- there is a tick at 0 and, up to a quarter of a second, one at its end
one_tick : ticks_to 0 helm ≡ 1
one_tick = refl

two_ticks : (ticks_to 249 helm ≡ 1) × (ticks_to 250 helm ≡ 2)
two_ticks = (refl, refl)

-- what the helm hears at its one fetch, behind the client's entry
abbrev heard : List Tick
heard = heard_of names 1 (opening_of helm ++ entry_of 0 0 Fetch ∷ entry_of 1 0 Fetch ∷ [])

-- the client's entry, and behind it the helm's tick
abbrev rest : History
rest = entry_of 0 0 Fetch ∷ tick_entries helm heard 0

abbrev together : History
together = opening_of helm ++ rest

-- the helm hears at its one fetch, and nothing was posted before
hears : length (heard_of names 1 together) ≡ 1
hears = refl

lawful : IsLawful Stamp script (Some helm) names together
lawful = record {
  rest = rest;
  opened = refl;
  steered = refl;
  own = λ client other. ap (whole client) (ne_eqb 1 client (λ e. other (sym e)));
  moments = refl;
}
  where
    posted : Bool → List Entry
    posted b = cond b (entry_of 1 0 (Posts (iteration_at plan heard 0).posts) ∷ []) []

    ticked : Bool → List Entry
    ticked b = cond b (entry_of 1 0 Fetch ∷ posted b) (posted b)

    whole : ℕ → Bool → List Entry
    whole client b = cond (0 == client) (entry_of 0 0 Fetch ∷ ticked b) (ticked b)

-- a tick before a client of its stamp isn't lawful in order Stamp, and may be in a race
tick_first : KeepsOrder Stamp 1 (entry_of 1 0 Fetch ∷ entry_of 0 0 Fetch ∷ []) → ⊥
tick_first = false≢true

race_is_open : KeepsOrder Race 1 (entry_of 1 0 Fetch ∷ entry_of 0 0 Fetch ∷ [])
race_is_open = tt

-- no tick may be left out
tick_left_out : entries_of 1 (entry_of 0 0 Fetch ∷ []) ≡ ticks (Some helm) 0 [] → ⊥
tick_left_out same = omega (arith, ap length same)

-- and none comes without a helm
no_helm : ticks None 0 (heard_of names 1 together) ≡ []
no_helm = refl

-- the opening stands first
opens_later : (later : History) → entry_of 0 0 Fetch ∷ opening_of helm ≡ opening (Some helm) ++ later → ⊥
opens_later later same = omega (arith, ap first_client same)
  where
    first_client : History → ℕ
    first_client [] = 2
    first_client (entry ∷ later) = entry.client

-- a helm that found no memory behind its fetch: the post is left
stopped : IsStopped names helm 0 1 (opening_of helm ++ entry_of 0 0 Fetch ∷ entry_of 1 0 Fetch ∷ [])
stopped = record {
  left = entry_of 1 0 (Posts (iteration_at plan heard 0).posts) ∷ [];
  own = refl;
  made = omega arith;
  few = omega arith;
}

-- no helm that has stopped has made a post more
posted_again : IsStopped names helm 0 1 (opening_of helm ++ entry_of 0 0 Fetch ∷ entry_of 1 0 Fetch ∷ entry_of 1 0 (Posts []) ∷ entry_of 1 0 (Posts []) ∷ []) → ⊥
posted_again so = omega (arith, ap length so.own)
