-- A profile from its slopes and its crest.
use Rattle.std.proofs.Common.{◌≡◌}
use Rattle.ivp_build.specs.declared.crest.Crest.{Crest}
use Rattle.ivp_build.specs.declared.profile.Profile.{Profile}
use Rattle.ivp_build.specs.declared.slopes.Slopes.{Slopes}

abbrev pub along : Slopes → Crest → Profile
along slopes crest = record { slopes = slopes; crest = crest }

pub same_along : (slopes slopes' : Slopes) (crest crest' : Crest) → slopes ≡ slopes' → crest ≡ crest' → along slopes crest ≡ along slopes' crest'
same_along slopes slopes' crest crest' e e' = cc
