-- Contacts files, reports and turns worked by hand.
use Rattle.std.proofs.Common.{◌≡◌, ℕ, List, [], ◌∷◌, ◌++◌, refl}
use Rattle.std.specs.Fmt.{digits}
use Rattle.std.specs.Prelude.{codes, pos, neg_ℤ, Some, None, Ok, Err}
use Rattle.moos_post.specs.declared.value.Pair.{Pair}
use Rattle.moos_post.specs.declared.value.Value.TheVariants.{Num, Text}
use Rattle.moos_text.specs.declared.cause.Cause.TheVariants.{C1, C2, C3}
use Rattle.moos_text.specs.declared.cause.ReadFault.TheVariants.{At}
use Rattle.contact_avoid.specs.RangeFiles.{ranges_of, usual_ranges}
use Rattle.contact_avoid.specs.Contacts.{batches_of, pair_saying}
use Rattle.contact_avoid.specs.Reports.{report_of}

-- the last line of a name counts, and the order of the two is judged at the end
last_counts : ranges_of (codes "clear_range = 10\nALERT_RANGE = 20 // near\nclear_range = 70\n") ≡ Ok (record { alert = 20000; clear = 70000 })
last_counts = refl

nothing_set : ranges_of [] ≡ Ok usual_ranges
nothing_set = refl

up_to_clear : ranges_of (codes "alert_range = 60") ≡ Ok (record { alert = 60000; clear = 60000 })
up_to_clear = refl

past_clear : ranges_of (codes "\nalert_range = 61") ≡ Err (At 2 C3)
past_clear = refl

no_range : ranges_of (codes "range = x") ≡ Err (At 1 C1)
no_range = refl

too_far : ranges_of (codes "clear_range = 10000.001\nx") ≡ Err (At 1 C2)
too_far = refl

good : report_of (codes "name=b, x = -1.5,Y=2,Spd=3,HDG=360,TYPE=kayak") ≡ Some (record { name = codes "b"; x = neg_ℤ (pos 1500); y = pos 2000; speed = pos 3000; heading = pos 360000 })
good = refl

short : report_of (codes "NAME=b,X=1") ≡ None
short = refl

twice : report_of (codes "NAME=b,X=1,Y=2,SPD=3,HDG=4,x=1") ≡ None
twice = refl

empty_field : report_of (codes "NAME=b,X=1,,Y=2,SPD=3,HDG=4") ≡ None
empty_field = refl

-- a contact b that is so far to the east
abbrev at : List ℕ → List Pair
at x = pair_saying (codes "NODE_REPORT") (codes "NAME=b,X=" ++ x ++ codes ",Y=0,SPD=1,HDG=90") ∷ []

abbrev own : List Pair
own = record { var = codes "NAV_X"; value = Num (pos 0) } ∷ record { var = codes "NAV_Y"; value = Num (pos 0) } ∷ []

abbrev info : List ℕ → Pair
info x = pair_saying (codes "CONTACT_INFO") (codes "name=avd_b # contact=b # contact_x=" ++ x ++ codes " # contact_y=0 # contact_speed=1 # contact_heading=90")

-- one alert at the second turn, one resolution at the fifth, and each border belongs to its range
five_turns : batches_of usual_ranges ((own ++ at (codes "60")) ∷ at (codes "50") ∷ at (codes "50.001") ∷ at (codes "60") ∷ at (codes "60.001") ∷ [])
    ≡ []
    ∷ (pair_saying (codes "CONTACT_ALERT") (codes "b") ∷ info (codes "50") ∷ [])
    ∷ (info (codes "50.001") ∷ [])
    ∷ (info (codes "60") ∷ [])
    ∷ (pair_saying (codes "CONTACT_RESOLVED") (codes "b") ∷ pair_saying (codes "CONTACT_INFO") (codes "name=avd_b # resolved=true") ∷ [])
    ∷ []
unfolding digits
five_turns = refl

-- while the own position isn't known nothing crosses, and who is inside is told still
lost : batches_of usual_ranges ((own ++ at (codes "1")) ∷ (record { var = codes "NAV_X"; value = Text (codes "?") } ∷ at (codes "99")) ∷ [])
    ≡ (pair_saying (codes "CONTACT_ALERT") (codes "b") ∷ info (codes "1") ∷ []) ∷ (info (codes "99") ∷ []) ∷ []
unfolding digits
lost = refl
