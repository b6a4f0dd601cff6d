-- The script of a generated mission: what its clients do and when, by the draws in their order. Stamps are in milliseconds.
use Rattle.std.specs.Prelude.{ℕ, zero, suc, ◌+◌, ◌*◌, ◌==◌, ℤ, pos, ◌-ℤ◌, ◌*ℤ◌, if◌then◌else◌, List, [], ◌∷◌, ◌++◌, codes, slice_index_or}
use Rattle.moos_post.specs.declared.entry.Call.{Call}
use Rattle.moos_post.specs.declared.entry.Call.TheVariants.{Register, Post as Posts, Fetch}
use Rattle.moos_post.specs.declared.entry.Entry.{Entry}
use Rattle.moos_post.specs.declared.registration.Reg.{Reg}
use Rattle.moos_post.specs.declared.value.Pair.{Pair}
use Rattle.moos_post.specs.declared.value.Value.{Value}
use Rattle.moos_post.specs.declared.value.Value.TheVariants.{Num, Text}
use Rattle.script_reader.specs.declared.script.Script.{Script}
use Rattle.mission_maker.specs.Draws.{draw}

-- the clients: c0 to c7 talk to each other, and nav, with number 8, tells where the vehicle is
abbrev pub generated_names : List (List ℕ)
generated_names =
    codes "c0" ∷ codes "c1" ∷ codes "c2" ∷ codes "c3" ∷ codes "c4" ∷ codes "c5" ∷ codes "c6" ∷ codes "c7" ∷ codes "nav" ∷ []

-- the variables that they post to each other
abbrev pub talked_of : List (List ℕ)
talked_of =
    codes "V0" ∷ codes "V1" ∷ codes "V2" ∷ codes "V3" ∷ codes "V4" ∷ codes "V5" ∷ codes "V6" ∷ codes "V7" ∷ codes "V8" ∷ codes "V9"
    ∷ codes "V10" ∷ codes "V11" ∷ codes "V12" ∷ codes "V13" ∷ codes "V14" ∷ codes "V15" ∷ []

-- a line: a client's call at a stamp
abbrev pub line_at : ℕ → ℕ → Call → Entry
line_at stamp client call = record { stamp = stamp; client = client; call = call }

-- what a variable is said to be
abbrev pub saying : List ℕ → Value → Pair
saying var value = record { var = var; value = value }

-- a whole number as a value
abbrev pub whole_number : ℤ → Value
whole_number n = Num (n *ℤ pos 1000)

-- `V*`, from whatever source
abbrev pub registration_of_all : ℕ → Reg
registration_of_all interval = record { var = codes "V*"; source = codes "*"; interval = interval }

-- Client k registers at stamp k for what they all talk of, with an interval of 0, 1 or 2 half seconds, which is draw k.
abbrev pub registration : ℕ → ℕ → Entry
registration number k = line_at k k (Register (registration_of_all (500 * draw number k 3) ∷ []))

-- the registrations of the first k clients
unfoldable pub registrations : ℕ → ℕ → List Entry
registrations number zero = []
registrations number (suc k) = registrations number k ++ registration number k ∷ []

-- nav deploys the vehicle and lets the helm drive it
abbrev pub start : Entry
start = line_at 50 8 (Posts (saying (codes "DEPLOY") (Text (codes "true")) ∷ saying (codes "MOOS_MANUAL_OVERRIDE") (Text (codes "false")) ∷ []))

-- How many draws come before turn k of a second: one for each registration, and in each second three for each of its eight
-- turns and two for the position behind them.
abbrev pub draws_before : ℕ → ℕ → ℕ
draws_before second k = 8 + 26 * second + 3 * k

-- when turn k of a second is
abbrev pub turn_stamp : ℕ → ℕ → ℕ
turn_stamp second k = 1000 * second + 100 * k + 100

-- In its turn client k posts a variable, the first draw, as a number, the second.
abbrev pub talk : ℕ → ℕ → ℕ → Entry
talk number second k =
    let before = draws_before second k in
    line_at (turn_stamp second k) k
    (Posts (saying (slice_index_or talked_of (draw number before 16) []) (whole_number (pos (draw number (before + 1) 1000))) ∷ []))

-- A millisecond later it fetches its mail, if the third draw is 0.
abbrev pub fetch_behind : ℕ → ℕ → ℕ → List Entry
fetch_behind number second k =
    if draw number (draws_before second k + 2) 4 == 0 then line_at (turn_stamp second k + 1) k Fetch ∷ [] else []

-- the lines of the first k turns of a second
unfoldable pub turns : ℕ → ℕ → ℕ → List Entry
turns number second zero = []
turns number second (suc k) = turns number second k ++ talk number second k ∷ fetch_behind number second k

-- Behind the eight turns nav posts the position: x from 0 to 199 is drawn first, and y from -200 to -1 second.
abbrev pub position_told : ℕ → ℕ → Entry
position_told number second =
    let before = draws_before second 8 in
    line_at (1000 * second + 950) 8
    (Posts (saying (codes "NAV_X") (whole_number (pos (draw number before 200)))
    ∷ saying (codes "NAV_Y") (whole_number (pos (draw number (before + 1) 200) -ℤ pos 200)) ∷ []))

-- the lines of all seconds before this one
unfoldable pub seconds : ℕ → ℕ → List Entry
seconds number zero = []
seconds number (suc second) = seconds number second ++ turns number second 8 ++ position_told number second ∷ []

-- The script of the mission with this number. It goes on for 600 seconds.
abbrev pub generated_script : ℕ → Script
generated_script number = record {
  names = generated_names;
  lines = registrations number 8 ++ start ∷ seconds number 600;
  stop = 600000;
}
