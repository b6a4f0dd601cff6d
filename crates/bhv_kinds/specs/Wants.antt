-- What a step wants: the few numbers that its function is made of.
use Rattle.std.specs.Prelude.{◌≡◌, ◌<◌, ◌≤◌, ◌^◌, nat_abs, List, codes, IsTrue, option_map}
use Rattle.ivp_domain.specs.declared.axis.Axis.{Axis}
use Rattle.ivp_domain.specs.Axes.{is_end}
use Rattle.ivp_build.specs.Places.{IsWidth}
use Rattle.ivp_build.specs.Shapes.{IsPeak}
use Rattle.bhv_file.specs.Params.{has_axis}
use Rattle.bhv_kinds.specs.declared.want.Aim.{Aim}
use Rattle.bhv_kinds.specs.declared.want.Want.{Want}
use Rattle.bhv_kinds.specs.declared.want.Want.TheVariants.{OnCourse, OnSpeed, OnDepth, AtMostDeep, Travel, Stay}
use Rattle.bhv_kinds.specs.declared.making.Made.{Made}
use Rattle.bhv_kinds.specs.Giving.{Given}
use Rattle.bhv_kinds.specs.Utilities.{Utility, AtMostOn, Flat, PeakOn, Sum, cruise, function_of, steer}

-- the utility that is wanted
abbrev pub utility_of : Want → Utility
utility_of (OnCourse peak) = PeakOn (codes "course") peak
utility_of (OnSpeed peak) = PeakOn (codes "speed") peak
utility_of (OnDepth peak) = PeakOn (codes "depth") peak
utility_of (AtMostDeep limit basewidth) = AtMostOn (codes "depth") limit (nat_abs basewidth) 100000
utility_of (Travel degree speed) = Sum (steer degree) (cruise speed)
utility_of Stay = Sum (Flat 0) (cruise 0)

-- a function of it can be made over these axes: they have those that it names, and its numbers are within their bounds
abbrev pub CanMake : List Axis → Want → Type 0
CanMake axes (OnCourse peak) = IsTrue (has_axis axes (codes "course")) × IsPeak peak
CanMake axes (OnSpeed peak) = IsTrue (has_axis axes (codes "speed")) × IsPeak peak
CanMake axes (OnDepth peak) = IsTrue (has_axis axes (codes "depth")) × IsPeak peak
CanMake axes (AtMostDeep limit basewidth) = IsTrue (has_axis axes (codes "depth")) × IsTrue (is_end limit) × IsWidth basewidth
CanMake axes (Travel degree speed) = IsTrue (has_axis axes (codes "course")) × IsTrue (has_axis axes (codes "speed")) × (degree < 360) × (speed ≤ 10 ^ 6)
CanMake axes Stay = IsTrue (has_axis axes (codes "speed"))

-- what a step gives by what it aims at
abbrev pub given_of : Aim → Given
given_of aim = record { utility = option_map utility_of aim.want; done = aim.done; fault = aim.fault }

-- the function that is kept is that of the want beside it
abbrev pub IsMade : Made → Type 0
IsMade made = made.func ≡ function_of made.func.axes (utility_of made.want)
