-- A behaviour that keeps clear of a contact is valid, and a domain serves it that suits it.
use Rattle.std.proofs.Common.{◌≡◌, Bool, true, refl, arith}
use Rattle.std.specs.Prelude.{List, codes}
use Rattle.std.proofs.lemmas.Bool.{and_from}
use Rattle.ivp_domain.specs.declared.axis.Axis.{Axis}
use Rattle.bhv_file.specs.Params.{has_axis}
use Rattle.bhv_file.specs.Serving.{suits}
use Rattle.contact_avoid.specs.Avoids.{CanServe, IsAvoid}
use Rattle.community_tests.specs.Clear.{kept_clear}

pub clear_valid : (resolved : Bool) → IsAvoid (kept_clear resolved)
clear_valid resolved = record {
  valid = record { ranges = record { weight = omega arith; parameters = (refl, refl, refl, refl, refl, refl, refl, refl) }; given = refl; relations = refl };
  avoids = refl;
}

pub clear_served : (axes : List Axis) (resolved : Bool) → has_axis axes (codes "course") ≡ true → has_axis axes (codes "speed") ≡ true → suits axes (kept_clear resolved).shape ≡ true → CanServe axes (kept_clear resolved)
clear_served axes resolved course speed suited = record { named = and_from _ _ course (and_from _ _ speed refl); suited = suited }
