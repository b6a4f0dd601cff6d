-- Shapes along an axis: the utility at a place, as arithmetic on the place.
use Rattle.std.specs.Prelude.{◌≡◌, ◌<◌, ◌≤◌, ◌≤ℤ◌, ◌^◌, IsTrue, ℕ, ◌+◌, ◌-◌, ◌*◌, ◌/◌, ◌%◌, ◌==◌, ℤ, pos, neg_ℤ, nat_abs, Bool, true, false, nat_le, if◌then◌else◌}
use Rattle.std.specs.Int.{abs_diff}
use Rattle.ivp_domain.specs.declared.axis.Axis.{Axis}
use Rattle.ivp_build.specs.declared.crest.Crest.{Crest}
use Rattle.ivp_build.specs.declared.crest.Crest.TheVariants.{At, Round, UpTo, From}
use Rattle.ivp_build.specs.declared.slopes.Slopes.{Slopes}
use Rattle.ivp_build.specs.declared.profile.Profile.{Profile}
use Rattle.ivp_build.specs.declared.shape.Peak.{Peak}
use Rattle.ivp_domain.specs.Axes.{is_end}
use Rattle.ivp_build.specs.Places.{IsWidth, first_from, last_up_to, near, shorter_way, steps_of, wraps}

-- what is left at the end of the top
abbrev pub shoulder : Slopes → ℕ
shoulder s = s.max - s.fall * s.top

-- the zone of a distance: 0 the top, 1 the foot, 2 beyond
abbrev pub zone_of : Slopes → ℕ → ℕ
zone_of s distance = if nat_le distance s.top then 0 else if nat_le distance (s.top + s.foot) then 1 else 2

-- what is lost at each place of a zone: over the foot an equal part of what the top leaves, rounded down
abbrev pub fall_in : Slopes → ℕ → ℕ
fall_in s zone = if zone == 0 then s.fall else if zone == 1 then shoulder s / s.foot else 0

-- The utility at a distance: it falls by `fall` a place over the top, then over the foot by an equal part of what is left,
-- rounded down, and is 0 beyond the foot. At the end of the foot less than its number of places may be left.
abbrev pub height_at : Slopes → ℕ → ℕ
height_at s distance =
    if nat_le distance s.top then s.max - s.fall * distance
    else if nat_le distance (s.top + s.foot) then shoulder s - shoulder s / s.foot * (distance - s.top)
    else 0

-- how many places a place is from where the utility is greatest: on a line, round a circle, beyond a limit
abbrev pub distance_from : Crest → ℕ → ℕ
distance_from (At summit) place = abs_diff summit place
distance_from (Round summit places) place = shorter_way places (abs_diff summit place)
distance_from (UpTo last) place = place - last
distance_from (From first) place = first - place

-- the place is on the right side, where the utility falls: the summit is, and round a circle the places up to half of it
abbrev pub is_right : Crest → ℕ → Bool
is_right (At summit) place = nat_le summit place
is_right (Round summit places) place = nat_le ((place + places - summit) % places) (places / 2)
is_right (UpTo last) place = true
is_right (From first) place = false

-- the place is a summit
abbrev pub is_summit : Crest → ℕ → Bool
is_summit (At summit) place = place == summit
is_summit (Round summit places) place = place == summit
is_summit (UpTo last) place = false
is_summit (From first) place = false

-- the utility of a shape at a place
abbrev pub utility_along : Profile → ℕ → ℕ
utility_along profile place = height_at profile.slopes (distance_from profile.crest place)

-- the zone of a place
abbrev pub zone_at : Profile → ℕ → ℕ
zone_at profile place = zone_of profile.slopes (distance_from profile.crest place)

-- the change from a place of a zone and side to the next
abbrev pub change_at : Profile → ℕ → ℤ
change_at profile place =
    let fall = pos (fall_in profile.slopes (zone_at profile place)) in
    if is_right profile.crest place then neg_ℤ fall else fall

-- the slopes of a peak: `summitdelta` is lost over the places of its peak width, in equal steps rounded down, and the rest over
-- those of its base width
abbrev pub peak_slopes : Axis → Peak → Slopes
peak_slopes axis peak =
    let top = steps_of axis (nat_abs peak.peakwidth) in
    record { max = nat_abs peak.max; fall = nat_abs peak.summitdelta / top; top = top; foot = steps_of axis (nat_abs peak.basewidth) }

-- a peak about the place nearest to its summit
abbrev pub peak_profile : Axis → Peak → Profile
peak_profile axis peak =
    let summit = near axis peak.summit in
    record { slopes = peak_slopes axis peak; crest = if wraps axis then Round summit axis.points else At summit }

-- the slopes beyond a limit: there is no top, and all is lost over the places of a width
abbrev pub limit_slopes : Axis → ℕ → ℕ → Slopes
limit_slopes axis basewidth max = record { max = max; fall = 0; top = 0; foot = steps_of axis basewidth }

-- an upper limit: the greatest utility up to the last place within it
abbrev pub at_most_profile : Axis → ℤ → ℕ → ℕ → Profile
at_most_profile axis limit basewidth max = record { slopes = limit_slopes axis basewidth max; crest = UpTo (last_up_to axis limit) }

-- a lower limit: the greatest utility from the first place within it on
abbrev pub at_least_profile : Axis → ℤ → ℕ → ℕ → Profile
at_least_profile axis limit basewidth max = record { slopes = limit_slopes axis basewidth max; crest = From (first_from axis limit) }

-- Peak: the utility at a place
abbrev pub peak_at : Axis → Peak → ℕ → ℕ
peak_at axis peak place = utility_along (peak_profile axis peak) place

-- AtMost: the utility at a place
abbrev pub at_most_at : Axis → ℤ → ℕ → ℕ → ℕ → ℕ
at_most_at axis limit basewidth max place = utility_along (at_most_profile axis limit basewidth max) place

-- AtLeast: the utility at a place
abbrev pub at_least_at : Axis → ℤ → ℕ → ℕ → ℕ → ℕ
at_least_at axis limit basewidth max place = utility_along (at_least_profile axis limit basewidth max) place

-- slopes within which the arithmetic is sound: some foot, and no more lost over the top than there is
pub record AreSlopes (s : Slopes) : Type 0 where
  pub some : 0 < s.foot
  pub within : s.fall * s.top ≤ s.max
  pub one : s.fall ≤ s.max
  pub most : s.max ≤ 100000
  pub top : s.top ≤ 10 ^ 12 * 2 ^ 28
  pub foot : s.foot ≤ 10 ^ 12 * 2 ^ 28

-- the place of greatest utility is one of `count` places, and a circle has just these
abbrev pub IsCrestOf : ℕ → Crest → Type 0
IsCrestOf count (At summit) = summit < count
IsCrestOf count (Round summit places) = (summit < count) × (places ≡ count)
IsCrestOf count (UpTo last) = last < count
IsCrestOf count (From first) = first < count

-- beyond a limit nothing is lost on top
abbrev pub IsLevelOnTop : Profile → Crest → Type 0
IsLevelOnTop profile (UpTo last) = (profile.slopes.top ≡ 0) × (profile.slopes.fall ≡ 0)
IsLevelOnTop profile (From first) = (profile.slopes.top ≡ 0) × (profile.slopes.fall ≡ 0)
IsLevelOnTop profile _ = Unit {0}

-- a profile over an axis of `count` places
pub record IsProfileOf (count : ℕ) (profile : Profile) : Type 0 where
  pub slopes : AreSlopes profile.slopes
  pub crest : IsCrestOf count profile.crest
  pub level : IsLevelOnTop profile profile.crest

-- a peak that can be built: its numbers within 10^12, and no more lost at the top than there is
pub record IsPeak (peak : Peak) : Type 0 where
  pub summit : IsTrue (is_end peak.summit)
  pub peakwidth : IsWidth peak.peakwidth
  pub basewidth : IsWidth peak.basewidth
  pub some : pos 0 ≤ℤ peak.summitdelta
  pub within : peak.summitdelta ≤ℤ peak.max
  pub most : peak.max ≤ℤ pos 100000
