-- Two clients that answer two ticks beside a script of one line.
use Rattle.std.proofs.Common.{◌≡◌, ℕ, true, false, List, [], ◌∷◌, length, refl}
use Rattle.std.specs.Prelude.{codes, map, pos}
use Rattle.moos_post.specs.declared.entry.Call.TheVariants.{Post as Posts, Fetch}
use Rattle.moos_post.specs.declared.entry.Entry.{Entry}
use Rattle.moos_post.specs.declared.value.Pair.{Pair}
use Rattle.moos_post.specs.declared.value.Value.TheVariants.{Num}
use Rattle.moos_client.specs.Hearing.{Mailed}
use Rattle.moos_lawful.specs.Schedules.{due_in, never_falls, Schedule}
use Rattle.moos_lawful.specs.Answering.{Answerer, moment_in, schedule_of}
use Rattle.moos_client.specs.Calls.{entry_of}
use Rattle.script_reader.specs.declared.script.Order.TheVariants.{Stamp, Race}

-- a client hears how long the history is
abbrev how_long : Mailed ℕ
how_long client stamp history = length history

-- and says how long it was at its last turn
abbrev saying : List ℕ → ℕ
saying [] = 0
saying (n ∷ []) = n
saying (n ∷ m ∷ ns) = saying (m ∷ ns)

abbrev counting : Answerer ℕ
counting = record { opening = []; says = λ heard. record { var = codes "N"; value = Num (pos (saying heard)) } ∷ [] }

abbrev says : ℕ → List Pair
says n = record { var = codes "N"; value = Num (pos n) } ∷ []

abbrev line : Entry
line = entry_of 0 0 Fetch

abbrev schedule : Schedule ℕ
schedule = schedule_of Stamp (line ∷ []) 1 250 250 (counting ∷ counting ∷ []) 3 how_long

-- behind the line and a fetch of client 1 its answer is left, over the mail of that fetch, and so is its turn at 250
answer_left : due_in schedule 1 (line ∷ entry_of 1 0 Fetch ∷ []) ≡ entry_of 1 0 Fetch ∷ entry_of 1 0 (Posts (says 1)) ∷ entry_of 1 250 Fetch ∷ entry_of 1 250 (Posts (says 1)) ∷ []
answer_left = refl

-- in order Stamp the second of two that answer isn't before the first
second_first : never_falls 0 (map (moment_in Stamp 1 2) (line ∷ entry_of 2 0 Fetch ∷ entry_of 1 0 Fetch ∷ [])) ≡ false
second_first = refl

in_turn : never_falls 0 (map (moment_in Stamp 1 2) (line ∷ entry_of 1 0 Fetch ∷ entry_of 2 0 Fetch ∷ [])) ≡ true
in_turn = refl

-- in order Race it may be
in_race : never_falls 0 (map (moment_in Race 1 2) (line ∷ entry_of 2 0 Fetch ∷ entry_of 1 0 Fetch ∷ [])) ≡ true
in_race = refl

-- an answer to mail that comes later is none: it is over what was heard by then
early_answer : due_in schedule 1 (line ∷ entry_of 1 0 Fetch ∷ entry_of 1 0 (Posts (says 3)) ∷ entry_of 1 250 Fetch ∷ []) ≡ entry_of 1 0 Fetch ∷ entry_of 1 0 (Posts (says 1)) ∷ entry_of 1 250 Fetch ∷ entry_of 1 250 (Posts (says 3)) ∷ []
early_answer = refl
