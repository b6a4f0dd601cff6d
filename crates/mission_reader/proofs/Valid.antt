-- Every mission that is read is valid.
use Rattle.std.proofs.Common.{◌≡◌, ℕ, ◌+◌, ◌/◌, ◌<◌, ◌≤◌, ◌^◌, Bool, true, false, ◌&&◌, ◌||◌, ◌==◌, cond, nat_lt, nat_le, List, [], ◌∷◌, ◌++◌, length, map, Option, Some, None, refl, arith, length-append, codes}
use Rattle.std.specs.Prelude.{ℤ, Result, Ok, Err, IfOk, IfSome, pos, negsuc, option_and_then, is_none, IsTrue}
use Rattle.std.specs.List.{list_any}
use Rattle.std.specs.Str.{str_eq_ignore_ascii_case}
use Rattle.std.proofs.lemmas.Bool.{and_parts, leb-true, leb-false, ltb-true}
use Rattle.std.proofs.lemmas.List.Elements.{All-nil, All-push}
use Rattle.std.proofs.Math.Nat.{div-le_self, le-max_left}
use Rattle.std.proofs.lemmas.Nat.{le-div}
use Rattle.moos_post.specs.Words.{is_text}
use Rattle.moos_text.specs.declared.cause.Cause.{Cause}
use Rattle.moos_text.specs.declared.cause.Cause.TheVariants.{M1, M3}
use Rattle.moos_text.specs.Lines.{last_line, raw_lines, trimmed}
use Rattle.moos_text.specs.Numbers.{milli_of, whole_of}
use Rattle.moos_text.specs.Pairs.{Sides, sides_of}
use Rattle.moos_text.specs.Refusals.{and_then}
use Rattle.moos_text.specs.Sections.{made_of_file}
use Rattle.moos_text.proofs.Judging.{and_then_good, cond_good, file_good, Keeps}
use Rattle.ivp_domain.specs.declared.axis.Axis.{Axis}
use Rattle.ivp_domain.specs.declared.domain.DomainFault.{DomainFault}
use Rattle.ivp_domain.specs.declared.domain.DomainFault.TheVariants.{BadAxis, TooLarge, SameName}
use Rattle.ivp_domain.specs.AxisNames.{is_axis_name}
use Rattle.ivp_domain.specs.Domains.{bad_axis, domain_of, is_domain, judged_axes, repeated_place, same_name, size_of}
use Rattle.axis_reader.specs.Fields.{axis_from, axis_with, fields_of}
use Rattle.axis_reader.proofs.Makes.{domain_good}
use Rattle.mission_reader.specs.declared.settings.Settings.{Settings}
use Rattle.mission_reader.specs.Missions.{app_block, app_of, AppBlock, mission_axes, axis_byte, axis_set, begun_by, complete, is_brace, line_in, mission_form, mission_of, mission_with, nothing_set, period_of, with_mission_axis, with_behaviors, with_mission_domain, with_period, with_setting}
use Rattle.mission_reader.specs.Validity.{HaveAxisNames, IsValidMission}

-- what settings keep
record IsSound (settings : Settings) : Type 0 where
  ticks : 1 ≤ settings.period
  slowest : settings.period ≤ 1000000
  named : IfSome settings.behaviors (λ name. (0 < length name) × IsTrue (is_text name))
  domain : IfSome settings.domain (λ axes. IsTrue (is_domain axes))
  axes : IfSome settings.domain HaveAxisNames

period_sound : (settings : Settings) (period : Option ℕ) → IsSound settings → IfSome period (λ p. (1 ≤ p) × (p ≤ 1000000)) → IfOk (with_period settings period) IsSound
period_sound settings None sound is = tt
period_sound settings (Some period) sound is = record { ticks = is.0; slowest = is.1; named = sound.named; domain = sound.domain; axes = sound.axes }

behaviors_sound : (settings : Settings) (name : List ℕ) → IsSound settings → IfOk (with_behaviors settings name) IsSound
behaviors_sound settings name sound =
    cond_good IsSound (is_none settings.behaviors && nat_lt 0 (length name) && is_text name) (Ok (record settings { behaviors = Some name })) (Err M1)
    (λ good.
    let both = and_parts (is_none settings.behaviors && nat_lt 0 (length name)) (is_text name) good in
    let some = and_parts (is_none settings.behaviors) (nat_lt 0 (length name)) both.0 in
    record { ticks = sound.ticks; slowest = sound.slowest; named = (ltb-true 0 (length name) some.1, both.1); domain = sound.domain; axes = sound.axes })
    (λ bad. tt)

-- a period of a rate in its range
rate_period : (rate : ℕ) → IfSome (period_of (pos rate)) (λ p. (1 ≤ p) × (p ≤ 1000000))
rate_period rate = at (nat_le 1 rate && nat_le rate 1000000) refl
  where
    at : (b : Bool) → (nat_le 1 rate && nat_le rate 1000000) ≡ b → IfSome (cond b (Some (1000000 / rate)) None) (λ p. (1 ≤ p) × (p ≤ 1000000))
    at false e = tt
    at true e =
        let both = and_parts (nat_le 1 rate) (nat_le rate 1000000) e in
        let least : 1 ≤ rate = leb-true 1 rate both.0 in
        let most : rate ≤ 1000000 = leb-true rate 1000000 both.1 in
        (le-div 1 1000000 rate (omega arith) (omega arith), div-le_self 1000000 rate)

tick_period : (rate : Option ℤ) → IfSome (option_and_then period_of rate) (λ p. (1 ≤ p) × (p ≤ 1000000))
tick_period None = tt
tick_period (Some (pos rate)) = rate_period rate
tick_period (Some (negsuc rate)) = tt

-- an axis that is read has a name
abbrev IsNamedAxis : Axis → Type 0
IsNamedAxis axis = IsTrue (is_axis_name axis.name)

with_named : (name : List ℕ) (low high : Option ℤ) (points : Option ℕ) → IfSome (axis_with name low high points) IsNamedAxis
with_named name (Some low) (Some high) (Some points) = at (is_axis_name name) refl
  where
    at : (b : Bool) → is_axis_name name ≡ b → IfSome (cond b (Some (record { name = name; low = low; high = high; points = points })) None) IsNamedAxis
    at true is = is
    at false is = tt
with_named name None high points = tt
with_named name (Some low) None points = tt
with_named name (Some low) (Some high) None = tt

from_named : (fields : List (List ℕ)) → IfSome (axis_from fields) IsNamedAxis
from_named [] = tt
from_named (name ∷ []) = tt
from_named (name ∷ low ∷ []) = tt
from_named (name ∷ low ∷ high ∷ []) = tt
from_named (name ∷ low ∷ high ∷ points ∷ []) = with_named name (milli_of low) (milli_of high) (whole_of points)
from_named (name ∷ low ∷ high ∷ points ∷ more ∷ rest) = tt

-- axes that make a domain keep their names
names_kept : (axes : List Axis) → HaveAxisNames axes → IfOk (domain_of axes) HaveAxisNames
names_kept axes named = at (bad_axis axes) (nat_le (size_of axes) (2 ^ 28)) (repeated_place axes)
  where
    at : (place : Option ℕ) (fits : Bool) (same : Option ℕ) → IfOk (judged_axes axes place fits same) HaveAxisNames
    at (Some place) fits same = tt
    at None false same = tt
    at None true (Some place) = tt
    at None true None = named

names_so_far : (axes : Option (List Axis)) → IfSome axes HaveAxisNames → HaveAxisNames (mission_axes axes)
names_so_far None named = All-nil IsNamedAxis
names_so_far (Some axes) named = named

-- a domain with one axis more
domain_sound : (settings : Settings) (made : Result (List Axis) DomainFault) → IsSound settings → IfOk made (λ all. is_domain all ≡ true) → IfOk made HaveAxisNames → IfOk (with_mission_domain settings made) IsSound
domain_sound settings (Ok axes) sound is named = record { ticks = sound.ticks; slowest = sound.slowest; named = sound.named; domain = is; axes = named }
domain_sound settings (Err (BadAxis place)) sound is named = tt
domain_sound settings (Err TooLarge) sound is named = tt
domain_sound settings (Err (SameName place)) sound is named = tt

or_left : (a b : Bool) → (a || b) ≡ false → a ≡ false
or_left true b e = e
or_left false b e = refl

axis_sound : (settings : Settings) (axis : Option Axis) → IsSound settings → IfSome axis IsNamedAxis → IfOk (with_mission_axis settings axis) IsSound
axis_sound settings None sound named = tt
axis_sound settings (Some axis) sound named =
    let axes = mission_axes settings.domain in
    let many = nat_le 4 (length axes) || list_any (same_name axis) axes in
    cond_good IsSound many (Err M3) (with_mission_domain settings (domain_of (axes ++ axis ∷ []))) (λ _. tt)
    (λ few.
    let short : length axes < 4 = leb-false 4 (length axes) (or_left (nat_le 4 (length axes)) (list_any (same_name axis) axes) few) in
    let long : length (axes ++ axis ∷ []) ≡ length axes + 1 = length-append axes (axis ∷ []) in
    domain_sound settings (domain_of (axes ++ axis ∷ [])) sound (domain_good (axes ++ axis ∷ []) (omega (arith, long)) (omega (arith, long, short)))
    (names_kept (axes ++ axis ∷ []) (All-push IsNamedAxis axes axis (names_so_far settings.domain sound.axes) named)))

setting_sound : (settings : Settings) (set : Option Sides) → IsSound settings → IfOk (with_setting settings set) IsSound
setting_sound settings None sound = tt
setting_sound settings (Some set) sound =
    cond_good IsSound (str_eq_ignore_ascii_case set.name (codes "AppTick")) (with_period settings (option_and_then period_of (milli_of set.value))) others
    (λ _. period_sound settings (option_and_then period_of (milli_of set.value)) sound (tick_period (milli_of set.value)))
    (λ _. cond_good IsSound (str_eq_ignore_ascii_case set.name (codes "behaviors")) (with_behaviors settings set.value) axes (λ _. behaviors_sound settings set.value sound)
    (λ _. cond_good IsSound (str_eq_ignore_ascii_case set.name (codes "domain")) (with_mission_axis settings (axis_set set.value)) (Ok settings) (λ _. axis_sound settings (axis_set set.value) sound (from_named (map trimmed (fields_of (map axis_byte set.value))))) (λ _. sound)))
  where
    axes : Result Settings Cause
    axes = cond (str_eq_ignore_ascii_case set.name (codes "domain")) (with_mission_axis settings (axis_set set.value)) (Ok settings)

    others : Result Settings Cause
    others = cond (str_eq_ignore_ascii_case set.name (codes "behaviors")) (with_behaviors settings set.value) (cond (str_eq_ignore_ascii_case set.name (codes "domain")) (with_mission_axis settings (axis_set set.value)) (Ok settings))

begun_sound : (settings : Settings) (app : List ℕ) → IsSound settings → IfOk (begun_by settings app) (λ block. IsSound block.settings)
begun_sound settings app sound =
    cond_good (λ block. IsSound block.settings) (length app == 0) (Err M1) named (λ _. tt)
    (λ _. cond_good (λ block. IsSound block.settings) (str_eq_ignore_ascii_case app (codes "pHelmIvP")) helm (Ok (app_block settings false))
    (λ _. cond_good (λ block. IsSound block.settings) settings.helm (Err M1) (Ok (app_block (record settings { helm = true }) true)) (λ _. tt)
    (λ _. record { ticks = sound.ticks; slowest = sound.slowest; named = sound.named; domain = sound.domain; axes = sound.axes }))
    (λ _. sound))
  where
    helm : Result AppBlock Cause
    helm = cond settings.helm (Err M1) (Ok (app_block (record settings { helm = true }) true))

    named : Result AppBlock Cause
    named = cond (str_eq_ignore_ascii_case app (codes "pHelmIvP")) (cond settings.helm (Err M1) (Ok (app_block (record settings { helm = true }) true))) (Ok (app_block settings false))

in_sound : (block : AppBlock) (text : List ℕ) → IsSound block.settings → IfOk (line_in block text) (λ more. IsSound more.settings)
in_sound block text sound =
    cond_good (λ more. IsSound more.settings) block.helm (and_then (λ settings. Ok (app_block settings true)) (with_setting block.settings (sides_of text))) (Ok block)
    (λ _. and_then_good IsSound (λ more. IsSound more.settings) (λ settings. Ok (app_block settings true)) (with_setting block.settings (sides_of text)) (setting_sound block.settings (sides_of text) sound) (λ settings is. is))
    (λ _. sound)

sound_form : Keeps mission_form IsSound (λ block. IsSound block.settings)
sound_form = record {
  loose = λ settings said sound. cond_good IsSound (is_brace said.text) (Err M1) (Ok settings) (λ _. tt) (λ _. sound);
  begin = λ settings said sound. begun_sound settings (app_of (sides_of said.text)) sound;
  inside = λ block said sound. in_sound block said.text sound;
  close = λ block said sound. sound;
}

complete_valid : (last : ℕ) (settings : Settings) → 1 ≤ last → IsSound settings → IfOk (mission_with last settings) IsValidMission
complete_valid last settings some sound = at settings.domain settings.behaviors sound.domain sound.axes sound.named
  where
    at : (domain : Option (List Axis)) (behaviors : Option (List ℕ)) → IfSome domain (λ axes. IsTrue (is_domain axes)) → IfSome domain HaveAxisNames → IfSome behaviors (λ name. (0 < length name) × IsTrue (is_text name))
        → IfOk (complete last settings.period domain behaviors) IsValidMission
    at None behaviors lawful axes name = tt
    at (Some domain) None lawful axes name = tt
    at (Some domain) (Some behaviors) lawful axes name = record { ticks = sound.ticks; slowest = sound.slowest; named = name.0; text = name.1; domain = lawful; axes = axes; lines = some }

-- what the bytes of a mission stand for is valid
pub mission_valid : (bytes : List ℕ) → IfOk (mission_of bytes) IsValidMission
mission_valid bytes =
    and_then_good IsSound IsValidMission (mission_with (last_line bytes)) (made_of_file mission_form nothing_set bytes)
    (file_good mission_form IsSound (λ block. IsSound block.settings) sound_form nothing_set bytes (record { ticks = omega arith; slowest = omega arith; named = tt; domain = tt; axes = tt }))
    (λ settings. complete_valid (last_line bytes) settings (le-max_left 1 (length (raw_lines bytes))))
