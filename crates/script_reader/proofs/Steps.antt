-- One step of a line after another.
use Rattle.std.proofs.Common.{◌≡◌, ℕ, ◌<◌, false, cond, List, codes, bytes_eq, sym, ap, ◌∙◌}
use Rattle.std.specs.Prelude.{Result, Ok, IsTrue}
use Rattle.moos_post.specs.declared.entry.Call.{Call}
use Rattle.moos_text.specs.declared.cause.Cause.{Cause}
use Rattle.moos_text.specs.Lines.{first_word, behind_word}
use Rattle.moos_text.specs.Refusals.{and_then}
use Rattle.script_reader.specs.declared.script.Script.{Script}
use Rattle.script_reader.specs.Script.{with_none_behind, is_register, registrations_of, variables_of, call_of, client_of, after_client, after_stamp}
use Rattle.script_reader.specs.Counts.{with_name, with_call, after_call}
use Rattle.script_reader.proofs.Joining.{IsClient, client_good}
use Rattle.script_reader.proofs.Calls.{IsFine, call_fine}
use Rattle.moos_text.proofs.Judging.{at_good}

-- the words of a client's line
pub client_step : (script : Script) (text word rest : List ℕ) (stamp number : ℕ) → word ≡ first_word text → rest ≡ behind_word text → bytes_eq word (codes "until") ≡ false
    → client_of script.names word ≡ Ok number → after_stamp script text stamp ≡ after_call (with_name script word) stamp rest number
client_step script text word rest stamp number first behind other good =
    let client = at_good (IsClient script.names word) (client_of script.names word) number (client_good script.names word) good in
    ap (λ w. at w (behind_word text)) (sym first) ∙ ap (at word) (sym behind)
    ∙ ap (λ b. cond b (with_none_behind (record script { stop = stamp }) (first_word rest)) (and_then (after_client script stamp word rest) (client_of script.names word))) other
    ∙ ap (and_then (after_client script stamp word rest)) good
    ∙ ap (λ n. and_then (λ call. Ok (with_call (with_name script word) stamp n call)) (call_of (registrations_of number script.lines) (variables_of script.lines) rest)) (sym client.number_is)
  where
    at : List ℕ → List ℕ → Result Script Cause
    at w r =
        cond (bytes_eq w (codes "until")) (with_none_behind (record script { stop = stamp }) (first_word r)) (and_then (after_client script stamp w r) (client_of script.names w))

-- a registration that is read has room
pub call_room : (made : ℕ) (known : List (List ℕ)) (text : List ℕ) (call : Call) → call_of made known text ≡ Ok call → IsTrue (is_register call) → made < 256
call_room made known text call is one = (at_good (IsFine made known) (call_of made known text) call (call_fine made known text) is).room one
