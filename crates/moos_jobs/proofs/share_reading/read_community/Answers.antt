-- A script without the bridge's name among its clients has no line of it.
use Rattle.std.proofs.Common.{◌≡◌, ℕ, false, ◌∷◌, [], codes, Option, refl, sym, ap, ◌∙◌}
use Rattle.std.specs.Prelude.{Ok, Err}
use Rattle.std.specs.List.{list_any}
use Rattle.std.specs.Option.{option_map_or}
use Rattle.moos_text.specs.declared.cause.Cause.TheVariants.{S10}
use Rattle.moos_text.specs.declared.cause.ReadFault.TheVariants.{At}
use Rattle.moos_text.specs.Refusals.{and_then}
use Rattle.script_reader.specs.Named.{has_name}
use Rattle.script_reader.specs.Script.{script_of}
use Rattle.moos_jobs.specs.Sharing.{unless_of_bridge}
use Rattle.moos_jobs.proofs.Unnamed.{no_line}
use Rattle.moos_jobs.proofs.share_reading.read_community.Goals as goal

pub returns-then-not-has_bridge-clause-read : goal.returns-then-not-has_bridge-clause-read
returns-then-not-has_bridge-clause-read c =
    let bytes = c.args.bytes.now in
    let script = c.in_ok-script.script in
    let read : script_of bytes ≡ Ok script = c.in_ok-script.ensures.read in
    let none : list_any (has_name (codes "pShare" ∷ [])) script.names ≡ false = sym c.has_bridge.ensures ∙ c.if-not-has_bridge.true in
    ap (and_then (unless_of_bridge bytes)) read
    ∙ ap (λ (line : Option ℕ). option_map_or (λ line. Err (At line S10)) line (Ok script)) (no_line (codes "pShare" ∷ []) bytes script refl read none)
