-- What the bytes of a mission stand for: what its helm's block sets, or the first refusal with its line and cause.
use Rattle.std.specs.Prelude.{ℕ, ℤ, pos, negsuc, ◌/◌, Bool, true, false, ◌&&◌, ◌||◌, ◌==◌, nat_le, nat_lt, if◌then◌else◌, List, [], ◌∷◌, ◌++◌, length, map, codes, bytes_eq, Option, Some, None, is_none, option_and_then, Result, Ok, Err}
use Rattle.std.specs.Char.{to_ascii_lowercase}
use Rattle.std.specs.List.{list_any}
use Rattle.std.specs.Str.{str_eq_ignore_ascii_case}
use Rattle.moos_post.specs.Words.{is_text}
use Rattle.moos_text.specs.declared.cause.Cause.{Cause}
use Rattle.moos_text.specs.declared.cause.Cause.TheVariants.{M1, M2, M3, M4, M5, M6, M7}
use Rattle.moos_text.specs.declared.cause.ReadFault.{ReadFault}
use Rattle.moos_text.specs.declared.cause.ReadFault.TheVariants.{At}
use Rattle.moos_text.specs.Lines.{last_line, trimmed, without_last}
use Rattle.moos_text.specs.Numbers.{milli_of}
use Rattle.moos_text.specs.Pairs.{Sides, sides_of}
use Rattle.moos_text.specs.Refusals.{and_then}
use Rattle.moos_text.specs.Sections.{Form, made_of_file}
use Rattle.ivp_domain.specs.declared.axis.Axis.{Axis}
use Rattle.ivp_domain.specs.declared.domain.DomainFault.{DomainFault}
use Rattle.ivp_domain.specs.declared.domain.DomainFault.TheVariants.{BadAxis, TooLarge, SameName}
use Rattle.ivp_domain.specs.Domains.{domain_of, same_name}
use Rattle.axis_reader.specs.Fields.{axis_from, fields_of}
use Rattle.mission_reader.specs.declared.mission.Mission.{Mission}
use Rattle.mission_reader.specs.declared.settings.Settings.{Settings}

-- what is before the first line: four iterations a second
abbrev pub nothing_set : Settings
nothing_set = record { period = 250; behaviors = None; domain = None; helm = false }

-- the milliseconds from one iteration to the next, rounded down, if a thousand seconds have `rate` of them, which are 1 to 1,000,000
abbrev pub period_of : ℤ → Option ℕ
period_of (pos rate) = if nat_le 1 rate && nat_le rate 1000000 then Some (1000000 / rate) else None
period_of (negsuc rate) = None

-- the last period that is set counts
abbrev pub with_period : Settings → Option ℕ → Result Settings Cause
with_period settings None = Err M6
with_period settings (Some period) = Ok (record settings { period = period })

-- the behaviour file is named once, by a text that isn't empty
abbrev pub with_behaviors : Settings → List ℕ → Result Settings Cause
with_behaviors settings name =
    if is_none settings.behaviors && nat_lt 0 (length name) && is_text name then Ok (record settings { behaviors = Some name }) else Err M1

-- a byte of an axis: letters count in lower case, and `,` as `:`
abbrev pub axis_byte : ℕ → ℕ
axis_byte byte = if byte == 44 then 58 else to_ascii_lowercase byte

-- the axis that is written NAME:LOW:HIGH:POINTS, with blanks around its fields or not
abbrev pub axis_set : List ℕ → Option Axis
axis_set value = axis_from (map trimmed (fields_of (map axis_byte value)))

-- the axes so far
abbrev pub mission_axes : Option (List Axis) → List Axis
mission_axes None = []
mission_axes (Some axes) = axes

-- the axes, if they make a domain
abbrev pub with_mission_domain : Settings → Result (List Axis) DomainFault → Result Settings Cause
with_mission_domain settings (Ok axes) = Ok (record settings { domain = Some axes })
with_mission_domain settings (Err TooLarge) = Err M4
with_mission_domain settings (Err (BadAxis place)) = Err M3
with_mission_domain settings (Err (SameName place)) = Err M3

-- the settings with one more axis: a fifth is refused, one of a name that an axis has, and one that makes no domain with those
-- before it
abbrev pub with_mission_axis : Settings → Option Axis → Result Settings Cause
with_mission_axis settings None = Err M3
with_mission_axis settings (Some axis) =
    if nat_le 4 (length (mission_axes settings.domain)) || list_any (same_name axis) (mission_axes settings.domain) then Err M3
    else with_mission_domain settings (domain_of (mission_axes settings.domain ++ axis ∷ []))

-- what a line of the helm's block sets; a name that isn't the helm's is unread
abbrev pub with_setting : Settings → Option Sides → Result Settings Cause
with_setting settings None = Err M1
with_setting settings (Some set) =
    if str_eq_ignore_ascii_case set.name (codes "AppTick") then with_period settings (option_and_then period_of (milli_of set.value))
    else if str_eq_ignore_ascii_case set.name (codes "behaviors") then with_behaviors settings set.value
    else if str_eq_ignore_ascii_case set.name (codes "domain") then with_mission_axis settings (axis_set set.value)
    else Ok settings

-- what is set, with a block whose end is to come, and whether it is the helm's
pub record AppBlock : Type 0 where
  pub settings : Settings
  pub helm : Bool

-- a block whose end is to come, with these settings, and the helm's or not
abbrev pub app_block : Settings → Bool → AppBlock
app_block settings helm = record { settings = settings; helm = helm }

-- `ProcessConfig = App` opens a block
abbrev pub opens_block : Option Sides → Bool
opens_block None = false
opens_block (Some set) = str_eq_ignore_ascii_case set.name (codes "ProcessConfig")

-- the app whose block is opened, without the `{` that may end the line
abbrev pub app_of : Option Sides → List ℕ
app_of None = []
app_of (Some set) = trimmed (without_last 123 set.value)

-- a block of this app is begun: an app has a name, and the helm has one block
abbrev pub begun_by : Settings → List ℕ → Result AppBlock Cause
begun_by settings app =
    if length app == 0 then Err M1
    else if str_eq_ignore_ascii_case app (codes "pHelmIvP") then (if settings.helm then Err M1 else Ok (app_block (record settings { helm = true }) true))
    else Ok (app_block settings false)

-- a brace alone
abbrev pub is_brace : List ℕ → Bool
is_brace text = bytes_eq text (codes "{") || bytes_eq text (codes "}")

-- a line in a block, which is unread if the block isn't the helm's
abbrev pub line_in : AppBlock → List ℕ → Result AppBlock Cause
line_in block text = if block.helm then and_then (λ settings. Ok (app_block settings true)) (with_setting block.settings (sides_of text)) else Ok block

-- how a mission is read, section after section: outside blocks a line is unread, but it may not be a brace alone
abbrev pub mission_form : Form Settings AppBlock
mission_form =
    record {
      opens = λ text. opens_block (sides_of text);
      closes = λ text. bytes_eq text (codes "}");
      bad = M1;
      unclosed = M2;
      loose = λ settings said. if is_brace said.text then Err M1 else Ok settings;
      begin = λ settings said. begun_by settings (app_of (sides_of said.text));
      inside = λ block said. line_in block said.text;
      close = λ block said. Ok block.settings;
    }

-- the mission with this period, in a file with this last line: it needs a domain, and then a behaviour file
abbrev pub complete : ℕ → ℕ → Option (List Axis) → Option (List ℕ) → Result Mission ReadFault
complete last period None behaviors = Err (At last M5)
complete last period (Some axes) None = Err (At last M7)
complete last period (Some axes) (Some name) = Ok (record { period = period; behaviors = name; domain = axes; lines = last })

-- the mission of all settings
abbrev pub mission_with : ℕ → Settings → Result Mission ReadFault
mission_with last settings = complete last settings.period settings.domain settings.behaviors

-- What the bytes of a mission stand for. Lines are counted from 1.
abbrev pub mission_of : List ℕ → Result Mission ReadFault
mission_of bytes = and_then (mission_with (last_line bytes)) (made_of_file mission_form nothing_set bytes)
