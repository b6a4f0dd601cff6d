-- What a helm that steers is known to do, whatever it hears.
use Rattle.std.specs.Prelude.{ℕ, ◌≤◌, List}
use Rattle.helm_core.specs.Lists.{list_at}
use Rattle.helm_core.specs.Names.{count_named}
use Rattle.helm_core.specs.Plans.{Plan}
use Rattle.helm_core.specs.Ticks.{Tick}
use Rattle.helm_core.specs.Worths.{DecidesByWorth}
use Rattle.helm_laws.specs.Reliance.{IsReliable}

-- Whatever the helm of this plan hears, what it decides is decided by worth, and in each iteration at most one behaviour of its list has a
-- given name: so at most one keeps clear of a contact by its name. And a crew may rely on it: when it stops, what it desires, who has a
-- say, from when an override holds, and that what it hears is all that counts.
pub record SteersWell (plan : Plan) : Type 0 where
  pub worth : DecidesByWorth plan
  pub once : (ticks : List Tick) (i : ℕ) (name : List ℕ) → count_named name (list_at plan ticks i) ≤ 1
  pub reliable : IsReliable plan
