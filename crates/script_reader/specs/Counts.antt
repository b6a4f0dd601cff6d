-- What a reader counts beside the script, so that no limit costs a walk over the lines. This serves `reading` alone.
use Rattle.std.specs.Prelude.{◌≡◌, ℕ, ◌<◌, ◌≤◌, not, List, [], ◌∷◌, ◌++◌, length, fold, slice_index, slice_set, ◌+◌, if◌then◌else◌, codes, bytes_eq, IsTrue, Result, Ok}
use Rattle.std.specs.List.{All}
use Rattle.moos_post.specs.declared.entry.Call.{Call}
use Rattle.moos_post.specs.declared.entry.Call.TheVariants.{Register, Unregister, Post as Posts, Fetch}
use Rattle.moos_post.specs.declared.value.Pair.{Pair}
use Rattle.moos_post.specs.Words.{is_name}
use Rattle.moos_text.specs.declared.cause.Cause.{Cause}
use Rattle.moos_text.specs.Refusals.{and_then}
use Rattle.script_reader.specs.declared.script.Script.{Script}
use Rattle.script_reader.specs.Script.{is_register, registrations_of, variables_of, with_variable, with_client, call_of}

-- the pairs that a call posts
abbrev pub pairs_in : Call → List Pair
pairs_in (Register regs) = []
pairs_in (Unregister var source) = []
pairs_in (Posts batch) = batch
pairs_in Fetch = []

-- the variables that are posted, with those of pairs
abbrev pub with_pairs : List (List ℕ) → List Pair → List (List ℕ)
with_pairs known pairs = fold (λ vars pair. with_variable vars pair.var) known pairs

-- the variables that are posted, with those of a call
abbrev pub with_call_variables : List (List ℕ) → Call → List (List ℕ)
with_call_variables known call = with_pairs known (pairs_in call)

-- the registrations of each client, with one more of this client if the call is one
abbrev pub with_made : List ℕ → ℕ → Call → List ℕ
with_made made client call = if is_register call then slice_set made client (slice_index made client + 1) else made

-- the script whose names a client has joined
abbrev pub with_name : Script → List ℕ → Script
with_name script client = record script { names = with_client script.names client }

-- the script with one more call, of the client of this number
abbrev pub with_call : Script → ℕ → ℕ → Call → Script
with_call script stamp number call = record {
  names = script.names;
  lines = script.lines ++ record { stamp = stamp; client = number; call = call } ∷ [];
  stop = stamp;
}

-- the script with the call of the client of this number
abbrev pub after_call : Script → ℕ → List ℕ → ℕ → Result Script Cause
after_call script stamp text number =
    and_then (λ call. Ok (with_call script stamp number call)) (call_of (registrations_of number script.lines) (variables_of script.lines) text)

-- how many registrations each of 64 clients has made, which variables are posted, and who the clients are
pub record AreCounts (script : Script) (made : List ℕ) (variables clients : List (List ℕ)) : Type 0 where
  pub few : length script.names ≤ 64
  pub each : length made ≡ 64
  pub registrations : (client : ℕ) → client < 64 → slice_index made client ≡ registrations_of client script.lines
  pub posted : variables ≡ variables_of script.lines
  pub joined : clients ≡ script.names
  pub named : All (λ name. IsTrue (is_name name)) script.names
  pub own : All (λ name. IsTrue (not (bytes_eq name (codes "pHelmIvP")))) script.names
