-- Which job a command line asks for.
use Rattle.std.specs.Prelude.{ℕ, ◌≤◌, if◌then◌else◌, List, [], ◌∷◌, codes, bytes_eq, Option, Some, None, option_map, option_and_then, is_none}
use Rattle.clap.specs.Words.{Row, Text, first_of}
use Rattle.command_line.specs.Commands.{check_command, file_in, found_in, generate_command, is_set, number_in, play_command, share_command, simulate_command, solve_command, workers_in}
use Rattle.command_line.specs.declared.job.Job.{Job}
use Rattle.command_line.specs.declared.job.Job.TheVariants.{Play, Solve, Check, Generate, Share, Simulate}
use Rattle.script_reader.specs.declared.script.Order.{Order}
use Rattle.script_reader.specs.declared.script.Order.TheVariants.{Stamp, Race}

-- the order that was found: a race with `--race`
abbrev pub order_in : List Row → Order
order_in found = if is_set (codes "race") found then Race else Stamp

-- the name of a file that need not be there, which a text can hold, if one was found; and none if none was
abbrev pub other_file_in : Text → List Row → Option (Option (List ℕ))
other_file_in id found = if is_none (first_of id found) then Some None else option_map (λ name. Some name) (file_in id found)

-- the job of what `play` found: a script, and a mission or none; no job if no text can hold the name of such a file
abbrev pub play_of : List Row → Option Job
play_of found =
    option_and_then (λ script. option_map (λ mission. Play script mission (order_in found) (workers_in found)) (other_file_in (codes "mission") found))
    (file_in (codes "script") found)

-- the job of what `solve` found: a problem; no job if no text can hold its file's name
abbrev pub solve_of : List Row → Option Job
solve_of found = option_map (λ problem. Solve problem (workers_in found)) (file_in (codes "problem") found)

-- the job of what `check` found: a decision; no job if no text can hold its file's name
abbrev pub check_of : List Row → Option Job
check_of found = option_map Check (file_in (codes "decision") found)

-- the job of what `generate` found: the number of a mission
abbrev pub generate_of : List Row → Job
generate_of found = Generate (number_in found)

-- the job of what `share` found: two scripts and a bridge, from the last line up; no job if no text can hold the name of such a file
abbrev pub share_of : List Row → Option Job
share_of found =
    option_and_then (λ first. option_and_then (λ second. option_map (λ bridge. Share first second bridge (order_in found)) (file_in (codes "bridge") found))
    (file_in (codes "second") found))
    (file_in (codes "first") found)

-- the job of what `simulate` found: a script, a mission, a vehicle, and contacts or none, from the last line up; no job if no
-- text can hold the name of such a file
abbrev pub simulate_of : List Row → Option Job
simulate_of found =
    option_and_then (λ script. option_and_then (λ mission. option_and_then (λ vehicle. option_map (λ contacts. Simulate script mission vehicle contacts (workers_in found)) (other_file_in (codes "contacts") found))
    (file_in (codes "vehicle") found))
    (file_in (codes "mission") found))
    (file_in (codes "script") found)

-- the job of a line that begins with this word
abbrev pub job_of : Text → List Text → Option Job
job_of word line =
    if bytes_eq word (codes "play") then option_and_then play_of (found_in play_command line)
    else if bytes_eq word (codes "solve") then option_and_then solve_of (found_in solve_command line)
    else if bytes_eq word (codes "check") then option_and_then check_of (found_in check_command line)
    else if bytes_eq word (codes "generate") then option_map generate_of (found_in generate_command line)
    else if bytes_eq word (codes "share") then option_and_then share_of (found_in share_command line)
    else if bytes_eq word (codes "simulate") then option_and_then simulate_of (found_in simulate_command line)
    else None

-- the job that a command line asks for: its first word is that of a job, whose command takes the line, and the names of its
-- files are ones that a text can hold
abbrev pub job_named : List Text → Option Job
job_named [] = None
job_named (word ∷ rest) = job_of word (word ∷ rest)

-- a job's workers are from 1 to 16
abbrev pub HasFewWorkers : Job → Type 0
HasFewWorkers (Play script mission order workers) = (1 ≤ workers) × (workers ≤ 16)
HasFewWorkers (Solve problem workers) = (1 ≤ workers) × (workers ≤ 16)
HasFewWorkers (Check decision) = Unit {0}
HasFewWorkers (Generate number) = Unit {0}
HasFewWorkers (Share first second bridge order) = Unit {0}
HasFewWorkers (Simulate script mission vehicle contacts workers) = (1 ≤ workers) × (workers ≤ 16)
