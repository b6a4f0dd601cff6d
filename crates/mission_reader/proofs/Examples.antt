-- Missions and refusals worked by hand.
use Rattle.std.proofs.Common.{◌≡◌, ℕ, List, [], ◌∷◌, ◌++◌, refl}
use Rattle.std.specs.Prelude.{codes, Ok, Err, pos, Result}
use Rattle.moos_text.specs.declared.cause.Cause.TheVariants.{M2, M3, M4, M5, M6, M7}
use Rattle.moos_text.specs.declared.cause.ReadFault.{ReadFault}
use Rattle.moos_text.specs.declared.cause.ReadFault.TheVariants.{At}
use Rattle.ivp_domain.specs.declared.axis.Axis.{Axis}
use Rattle.mission_reader.specs.declared.mission.Mission.{Mission}
use Rattle.mission_reader.specs.Missions.{mission_of}

abbrev course : Axis
course = record { name = codes "course"; low = pos 0; high = pos 359000; points = 360 }

usual : mission_of (codes "// vehicle\nServerHost = localhost\nProcessConfig = ANTLER\n{\n  Run = pHelmIvP @ NewConsole = false\n  {\n}\n\tprocessconfig = PHELMIVP {\r\n  AppTick = 2 // fast\n  CommsTick = 4\n  Behaviors = \"a // b.bhv\"\n  domain = Course , 0 : 359:360\n}\n")
    ≡ Ok (record { period = 500; behaviors = codes "\"a // b.bhv\""; domain = course ∷ []; lines = 13 })
usual = refl

-- a mission of these lines in the helm's block, of which the first is line 2
abbrev helm : List ℕ → Result Mission ReadFault
helm lines = mission_of (codes "ProcessConfig = pHelmIvP {\n" ++ lines)

brace_missing : helm (codes "behaviors = a\ndomain = x:0:1:2") ≡ Err (At 3 M2)
brace_missing = refl

empty : mission_of [] ≡ Err (At 1 M5)
empty = refl

no_behaviors : helm (codes "domain = x:0:1:2\n}\n\n") ≡ Err (At 4 M7)
no_behaviors = refl

fifth : helm (codes "domain=a:0:1:2\ndomain=b:0:1:2\ndomain=c:0:1:2\ndomain=d:0:1:2\ndomain=e:0:1:2\n") ≡ Err (At 6 M3)
fifth = refl

repeated_before_large : helm (codes "domain=a:0:1:16384\ndomain=A:0:1:16385") ≡ Err (At 3 M3)
repeated_before_large = refl

large : helm (codes "domain=a:0:1:16384\ndomain=b:0:1:16385") ≡ Err (At 3 M4)
large = refl

tick : helm (codes "AppTick = 0.0009\n}") ≡ Err (At 2 M6)
tick = refl
