-- The script that stands in the bytes, unless a line of it is of a client of the vehicle.
use Rattle.std.proofs.Common.{◌≡◌, ◌∙◌, List, ℕ, Option, None, Some, ap, sym}
use Rattle.moos_simulate.specs.Simulated.{vehicle_names}
use Rattle.moos_text.specs.Refusals.{and_then}
use Rattle.script_reader.specs.Named.{line_of_client}
use Rattle.script_reader.specs.Script.{script_of}
use Rattle.moos_jobs.proofs.SimulatedReports.{refused_first}
use Rattle.moos_jobs.specs.Simulating.{refused_at}
use Rattle.moos_jobs.proofs.simulate_reading.read_simulated.Goals as goal

pub returns-in-Err-clause-refused : goal.returns-in-Err-clause-refused
returns-in-Err-clause-refused c = refused_first (refused_at (line_of_client (vehicle_names c.args.watched) c.args.bytes.now)) c.in-Err.fault (script_of c.args.bytes.now) c.in-Err.ensures.refused

pub returns-in-None-clause-read : goal.returns-in-None-clause-read
returns-in-None-clause-read c =
    let bytes = c.args.bytes.now in
    let none : line_of_client (vehicle_names c.args.watched) bytes ≡ None = ap (λ (names : List (List ℕ)). line_of_client names bytes) (sym c.in-Ok-vehicle_names.ensures) ∙ sym c.line_of_client.ensures ∙ c.in-None.is in
    ap (and_then (refused_at (line_of_client (vehicle_names c.args.watched) bytes))) c.in-Ok.ensures.read ∙ ap (λ (line : Option ℕ). refused_at line c.in-Ok.script) none

pub returns-in-None-clause-apart : goal.returns-in-None-clause-apart
returns-in-None-clause-apart c =
    let bytes = c.args.bytes.now in
    let none : line_of_client (vehicle_names c.args.watched) bytes ≡ None = ap (λ (names : List (List ℕ)). line_of_client names bytes) (sym c.in-Ok-vehicle_names.ensures) ∙ sym c.line_of_client.ensures ∙ c.in-None.is in
    c.client_law.ensures (vehicle_names c.args.watched) bytes c.in-Ok.script c.in-Ok.ensures.read none

pub returns-in-Some-clause-refused : goal.returns-in-Some-clause-refused
returns-in-Some-clause-refused c =
    let bytes = c.args.bytes.now in
    let some : line_of_client (vehicle_names c.args.watched) bytes ≡ Some c.in-Some.line = ap (λ (names : List (List ℕ)). line_of_client names bytes) (sym c.in-Ok-vehicle_names.ensures) ∙ sym c.line_of_client.ensures ∙ c.in-Some.is in
    ap (and_then (refused_at (line_of_client (vehicle_names c.args.watched) bytes))) c.in-Ok.ensures.read ∙ ap (λ (line : Option ℕ). refused_at line c.in-Ok.script) some
