-- Every script that is read is valid.
use Rattle.std.proofs.Common.{◌≡◌, ℕ, suc, ◌+◌, ◌<◌, ◌≤◌, Bool, true, false, ◌&&◌, ◌||◌, cond, not, nat_lt, nat_le, nat_eq, drop, List, [], ◌∷◌, ◌++◌, length, refl, sym, ap, subst, ◌∙◌, arith, length-append, codes, bytes_eq, Some, None}
use Rattle.std.specs.Prelude.{Option, ok_or, Result, Ok, Err, IfOk, IfSome}
use Rattle.std.specs.List.{All, list_any}
use Rattle.std.proofs.Math.ListN.{drop_of_length-le}
use Rattle.std.proofs.lemmas.Bool.{and_from, and_parts, le-leb, leb-true, leb-false, lt-ltb, ltb-true, ltb-false, eqb-true}
use Rattle.std.proofs.lemmas.List.Elements.{All-append, All-cons, All-nil}
use Rattle.std.proofs.lemmas.List.Folds.{list_any-append}
use Rattle.moos_post.specs.declared.entry.Call.{Call}
use Rattle.moos_post.specs.declared.entry.Entry.{Entry}
use Rattle.moos_post.specs.Entries.{IsEntry}
use Rattle.moos_post.proofs.Texts.{bytes_eq_comm}
use Rattle.moos_text.specs.declared.cause.Cause.{Cause}
use Rattle.moos_text.specs.declared.cause.Cause.TheVariants.{S1, S2, S5, S8}
use Rattle.moos_text.specs.declared.cause.Limit.TheVariants.{Lines as NonBlank}
use Rattle.moos_text.specs.Lines.{raw_lines, content_of, is_unclosed, first_word, behind_word}
use Rattle.script_reader.specs.declared.script.Script.{Script}
use Rattle.moos_text.specs.Refusals.{and_then}
use Rattle.script_reader.specs.Script.{with_none_behind, time_of, is_register, registrations_of, variables_of, call_of, client_number, with_client, client_of, with_client_call, after_client, after_stamp, not_before, after_line_words, Progress, progress, after_filled, after_line, go_on, progress_from, nothing_read}
use Rattle.script_reader.specs.Validity.{are_clients, are_lines, keeps_limits, IsValid}
use Rattle.script_reader.proofs.Calls.{IsFine, IsEarly, time_early, call_fine}
use Rattle.script_reader.proofs.Joining.{Named, IsClient, client_good, client_length, first_place}
use Rattle.script_reader.proofs.Counting.{registrations_more, variables_more}
use Rattle.moos_text.proofs.Judging.{cond_good, and_then_good, at_good}
use Rattle.script_reader.proofs.Judging.{ended_good}
use Rattle.moos_text.proofs.WordLemmas.{position_or_len-le-length}

-- the four tests of a line, of which the last one is that of the lines behind it
pub line_tests : (a b c d : Bool) → (a && b && c && d) ≡ true → (a ≡ true) × (b ≡ true) × (c ≡ true) × (d ≡ true)
line_tests a b c d h =
    let three = and_parts (a && b && c) d h in
    let two = and_parts (a && b) c three.0 in
    let one = and_parts a b two.0 in
    (one.0, one.1, two.1, three.1)

four_true : (a b c d : Bool) → a ≡ true → b ≡ true → c ≡ true → d ≡ true → (a && b && c && d) ≡ true
four_true a b c d ha hb hc hd = and_from (a && b && c) d (and_from (a && b) c (and_from a b ha hb) hc) hd

-- one line more, of a client that there is, with a stamp that doesn't go back
lines_more : (clients last stop : ℕ) (lines : List Entry) (line : Entry) → are_lines clients last stop lines ≡ true → line.client < clients → stop ≤ line.stamp → keeps_limits line.call ≡ true
    → are_lines clients last line.stamp (lines ++ line ∷ []) ≡ true
lines_more clients last stop [] line good among rises limits =
    let before = leb-true last stop good in
    four_true (nat_lt line.client clients) (nat_le last line.stamp) (keeps_limits line.call) (nat_le line.stamp line.stamp)
    (lt-ltb line.client clients among) (le-leb last line.stamp (omega arith)) limits (le-leb line.stamp line.stamp (omega arith))
lines_more clients last stop (first ∷ lines) line good among rises limits =
    let tests = line_tests (nat_lt first.client clients) (nat_le last first.stamp) (keeps_limits first.call) (are_lines clients first.stamp stop lines) good in
    four_true (nat_lt first.client clients) (nat_le last first.stamp) (keeps_limits first.call) (are_lines clients first.stamp line.stamp (lines ++ line ∷ []))
    tests.0 tests.1 tests.2 (lines_more clients first.stamp stop lines line tests.3 among rises limits)

-- they stay lines where clients join, and where the last stamp rises
lines_wider : (clients more last stop later : ℕ) (lines : List Entry) → clients ≤ more → stop ≤ later → are_lines clients last stop lines ≡ true → are_lines more last later lines ≡ true
lines_wider clients more last stop later [] wider rises good = let before = leb-true last stop good in le-leb last later (omega arith)
lines_wider clients more last stop later (line ∷ lines) wider rises good =
    let tests = line_tests (nat_lt line.client clients) (nat_le last line.stamp) (keeps_limits line.call) (are_lines clients line.stamp stop lines) good in
    let among : line.client < clients = ltb-true line.client clients tests.0 in
    four_true (nat_lt line.client more) (nat_le last line.stamp) (keeps_limits line.call) (are_lines more line.stamp later lines)
    (lt-ltb line.client more (omega arith)) tests.1 tests.2 (lines_wider clients more line.stamp stop later lines wider rises tests.3)

-- a client that no name is may join
clients_more : (names : List (List ℕ)) (client : List ℕ) → are_clients names ≡ true → not (bytes_eq client (codes "pHelmIvP")) ≡ true → length names ≤ client_number names client → are_clients (names ++ client ∷ []) ≡ true
clients_more [] client good own new = and_from (not (bytes_eq client (codes "pHelmIvP")) && true) true (and_from (not (bytes_eq client (codes "pHelmIvP"))) true own refl) refl
clients_more (name ∷ names) client good own new = at (bytes_eq name client) refl (clients_more names client)
  where
    helm : Bool
    helm = not (bytes_eq name (codes "pHelmIvP"))

    here : (not (bytes_eq name (codes "pHelmIvP")) && not (list_any (λ other. bytes_eq other name) names)) ≡ true
    here = (and_parts (not (bytes_eq name (codes "pHelmIvP")) && not (list_any (λ other. bytes_eq other name) names)) (are_clients names) good).0

    later : are_clients names ≡ true
    later = (and_parts (not (bytes_eq name (codes "pHelmIvP")) && not (list_any (λ other. bytes_eq other name) names)) (are_clients names) good).1

    joined : (a b : Bool) → not a ≡ true → b ≡ false → not (a || (b || false)) ≡ true
    joined true b h g = h
    joined false true h g = sym g
    joined false false h g = refl

    at : (same : Bool) → bytes_eq name client ≡ same
        → (are_clients names ≡ true → not (bytes_eq client (codes "pHelmIvP")) ≡ true → length names ≤ client_number names client → are_clients (names ++ client ∷ []) ≡ true)
        → are_clients (name ∷ names ++ client ∷ []) ≡ true
    at true is rest = absurd (omega (arith, first_place true name client names is))
    at false is rest =
        and_from (not (bytes_eq name (codes "pHelmIvP")) && not (list_any (λ other. bytes_eq other name) (names ++ client ∷ []))) (are_clients (names ++ client ∷ []))
        (and_from (not (bytes_eq name (codes "pHelmIvP"))) (not (list_any (λ other. bytes_eq other name) (names ++ client ∷ [])))
        (and_parts (not (bytes_eq name (codes "pHelmIvP"))) (not (list_any (λ other. bytes_eq other name) names)) here).0
        (ap not (list_any-append (λ other. bytes_eq other name) names (client ∷ []))
        ∙ joined (list_any (λ other. bytes_eq other name) names) (bytes_eq client name)
        (and_parts (not (bytes_eq name (codes "pHelmIvP"))) (not (list_any (λ other. bytes_eq other name) names)) here).1 (bytes_eq_comm client name ∙ is)))
        (rest later own (omega (arith, first_place false name client names is)))

-- what a script so far keeps
record IsSound (script : Script) : Type 0 where
  named : All Named script.names
  clients : are_clients script.names ≡ true
  few_clients : length script.names ≤ 64
  lines : are_lines (length script.names) 0 script.stop script.lines ≡ true
  entries : All IsEntry script.lines
  early : script.stop ≤ 1000000000
  few_registrations : (client : ℕ) → registrations_of client script.lines ≤ 256
  few_variables : length (variables_of script.lines) ≤ 4096

-- a script with at most one line more than so many
record IsNext (count : ℕ) (script : Script) : Type 0 where
  sound : IsSound script
  few : length script.lines ≤ suc count

-- the names with a client's, of which the client is one
record AreJoined (names joined : List (List ℕ)) (name : List ℕ) : Type 0 where
  named : All Named joined
  clients : are_clients joined ≡ true
  wider : length names ≤ length joined
  among : client_number names name < length joined

names_joined : (names : List (List ℕ)) (name : List ℕ) → All Named names → Named name → are_clients names ≡ true → not (bytes_eq name (codes "pHelmIvP")) ≡ true → AreJoined names (with_client names name) name
names_joined names name named one good own = at (nat_lt (client_number names name) (length names)) refl
  where
    at : (known : Bool) → nat_lt (client_number names name) (length names) ≡ known → AreJoined names (cond known names (names ++ name ∷ [])) name
    at true is = record { named = named; clients = good; wider = omega arith; among = ltb-true (client_number names name) (length names) is }
    at false is =
        let past = ltb-false (client_number names name) (length names) is in
        let place : client_number names name ≤ length names = position_or_len-le-length (λ other. bytes_eq other name) names in
        let longer : length (names ++ name ∷ []) ≡ length names + 1 = length-append names (name ∷ []) in
        record { named = All-append Named names (name ∷ []) named (All-cons Named name [] one (All-nil Named)); clients = clients_more names name good own past; wider = omega (arith, longer); among = omega (arith, longer) }

registrations_few : (lines : List Entry) (line : Entry) → ((client : ℕ) → registrations_of client lines ≤ 256) → (is_register line.call ≡ true → registrations_of line.client lines < 256)
    → (client : ℕ) → registrations_of client (lines ++ line ∷ []) ≤ 256
registrations_few lines line few room client = at (nat_eq line.client client) (is_register line.call) refl refl (registrations_more client lines line)
  where
    at : (same one : Bool) → nat_eq line.client client ≡ same → is_register line.call ≡ one
        → registrations_of client (lines ++ line ∷ []) ≡ registrations_of client lines + cond (same && one) 1 0 → registrations_of client (lines ++ line ∷ []) ≤ 256
    at true true is calls more =
        let below : registrations_of client lines < 256 = subst (λ n. registrations_of n lines < 256) (eqb-true line.client client is) (room calls) in omega (arith, more)
    at true false is calls more = omega (arith, more, few client)
    at false one is calls more = omega (arith, more, few client)

call_sound : (script : Script) (stamp : ℕ) (name : List ℕ) (call : Call) → IsSound script → IsClient script.names name (client_number script.names name) → script.stop ≤ stamp → stamp ≤ 1000000000
    → IsFine (registrations_of (client_number script.names name) script.lines) (variables_of script.lines) call → IsNext (length script.lines) (with_client_call script stamp name call)
call_sound script stamp name call sound client rises early fine = record {
  sound = record {
    named = joined.named;
    clients = joined.clients;
    few_clients = client_length script.names name sound.few_clients client.among;
    lines = lines_more (length (with_client script.names name)) 0 script.stop script.lines line
        (lines_wider (length script.names) (length (with_client script.names name)) 0 script.stop script.stop script.lines joined.wider (omega arith) sound.lines)
        joined.among rises fine.limits;
    entries = All-append IsEntry script.lines (line ∷ []) sound.entries (All-cons IsEntry line [] (record { stamp = omega (arith, early); call = fine.parts }) (All-nil IsEntry));
    early = early;
    few_registrations = registrations_few script.lines line sound.few_registrations fine.room;
    few_variables = let few = fine.variables sound.few_variables in omega (arith, ap length (variables_more script.lines line));
  };
  few = omega (arith, length-append script.lines (line ∷ []));
}
  where
    line : Entry
    line = record { stamp = stamp; client = client_number script.names name; call = call }

    joined : AreJoined script.names (with_client script.names name) name
    joined = names_joined script.names name sound.named client.named sound.clients client.own

until_sound : (script : Script) (stamp : ℕ) → IsSound script → script.stop ≤ stamp → stamp ≤ 1000000000 → IsNext (length script.lines) (record script { stop = stamp })
until_sound script stamp sound rises early = record {
  sound = record {
    named = sound.named;
    clients = sound.clients;
    few_clients = sound.few_clients;
    lines = lines_wider (length script.names) (length script.names) 0 script.stop stamp script.lines (omega arith) rises sound.lines;
    entries = sound.entries;
    early = early;
    few_registrations = sound.few_registrations;
    few_variables = sound.few_variables;
  };
  few = omega arith;
}

client_sound : (script : Script) (stamp : ℕ) (name text : List ℕ) (number : ℕ) → IsSound script → script.stop ≤ stamp → stamp ≤ 1000000000 → IsClient script.names name number
    → IfOk (after_client script stamp name text number) (IsNext (length script.lines))
client_sound script stamp name text number sound rises early client =
    subst (λ n. IfOk (after_client script stamp name text n) (IsNext (length script.lines))) (sym client.number_is)
    (and_then_good (IsFine made known) (IsNext (length script.lines)) (λ call. Ok (with_client_call script stamp name call)) (call_of made known text) (call_fine made known text)
    (λ call fine. call_sound script stamp name call sound own rises early fine))
  where
    made : ℕ
    made = registrations_of (client_number script.names name) script.lines

    known : List (List ℕ)
    known = variables_of script.lines

    own : IsClient script.names name (client_number script.names name)
    own = subst (IsClient script.names name) client.number_is client

stamp_sound : (script : Script) (text : List ℕ) (stamp : ℕ) → IsSound script → (script.stop ≤ stamp) × (stamp ≤ 1000000000) → IfOk (after_stamp script text stamp) (IsNext (length script.lines))
stamp_sound script text stamp sound late =
    cond_good (IsNext (length script.lines)) (bytes_eq (first_word text) (codes "until")) (with_none_behind (record script { stop = stamp }) (first_word (behind_word text)))
    (and_then (after_client script stamp (first_word text) (behind_word text)) (client_of script.names (first_word text)))
    (λ _. ended_good (IsNext (length script.lines)) (record script { stop = stamp }) (first_word (behind_word text)) (until_sound script stamp sound late.0 late.1))
    (λ _. and_then_good (IsClient script.names (first_word text)) (IsNext (length script.lines)) (after_client script stamp (first_word text) (behind_word text))
    (client_of script.names (first_word text)) (client_good script.names (first_word text))
    (λ number client. client_sound script stamp (first_word text) (behind_word text) number sound late.0 late.1 client))

words_sound : (script : Script) (text : List ℕ) → IsSound script → IfOk (after_line_words script text) (IsNext (length script.lines))
words_sound script text sound =
    and_then_good IsLate (IsNext (length script.lines)) (after_stamp script (behind_word text)) (and_then (not_before script.stop) (ok_or (time_of (first_word text)) S1))
    (and_then_good IsEarly IsLate (not_before script.stop) (ok_or (time_of (first_word text)) S1) (early (time_of (first_word text)) (time_early (first_word text)))
    (λ stamp soon. cond_good IsLate (nat_lt stamp script.stop) (Err S2) (Ok stamp) (λ _. tt)
    (λ back. (ltb-false stamp script.stop back, leb-true stamp 1000000000 soon))))
    (λ stamp late. stamp_sound script (behind_word text) stamp sound late)
  where
    IsLate : ℕ → Type 0
    IsLate stamp = (script.stop ≤ stamp) × (stamp ≤ 1000000000)

    early : (time : Option ℕ) → IfSome time IsEarly → IfOk (ok_or time S1) IsEarly
    early None soon = tt
    early (Some stamp) soon = soon

-- what was read so far keeps
record IsGood (read : Progress) : Type 0 where
  sound : IsSound read.script
  fewer : length read.script.lines ≤ read.filled
  few : read.filled ≤ 100000

filled_good : (read : Progress) (content : List ℕ) → IsGood read → IfOk (after_filled read content) IsGood
filled_good read content good =
    cond_good IsGood (nat_le 100000 read.filled) (Err (S8 NonBlank)) (cond (is_unclosed content) (Err S5) (and_then more (after_line_words read.script content))) (λ _. tt)
    (λ room. cond_good IsGood (is_unclosed content) (Err S5) (and_then more (after_line_words read.script content)) (λ _. tt)
    (λ _. and_then_good (IsNext (length read.script.lines)) IsGood more (after_line_words read.script content) (words_sound read.script content good.sound)
    (λ script next. record { sound = next.sound; fewer = let few = next.few in omega (arith, good.fewer); few = leb-false 100000 read.filled room })))
  where
    more : Script → Result Progress Cause
    more script = Ok (progress script (suc read.filled))

line_good : (read : Progress) (content word : List ℕ) → IsGood read → IfOk (after_line read content word) IsGood
line_good read content [] good = good
line_good read content (byte ∷ bytes) good = filled_good read content good

read_good : (number : ℕ) (read : Progress) (raws : List (List ℕ)) → IsGood read → IfOk (progress_from number read raws) IsGood
read_good number read [] good = good
read_good number read (raw ∷ raws) good =
    at (after_line read (content_of raw) (first_word (content_of raw))) (line_good read (content_of raw) (first_word (content_of raw)) good)
    (λ next. read_good (suc number) next raws)
  where
    at : (result : Result Progress Cause) → IfOk result IsGood → ((next : Progress) → IsGood next → IfOk (progress_from (suc number) next raws) IsGood)
        → IfOk (go_on number (λ next. progress_from (suc number) next raws) result) IsGood
    at (Ok next) here rest = rest next here
    at (Err cause) here rest = tt

nothing_good : IsGood nothing_read
nothing_good = record {
  sound = record {
    named = All-nil Named;
    clients = refl;
    few_clients = omega arith;
    lines = refl;
    entries = All-nil IsEntry;
    early = omega arith;
    few_registrations = λ client. omega arith;
    few_variables = omega arith;
  };
  fewer = omega arith;
  few = omega arith;
}

good_valid : (read : Progress) → IsGood read → IsValid read.script
good_valid read good = record {
  named = good.sound.named;
  clients = good.sound.clients;
  few_clients = good.sound.few_clients;
  lines = good.sound.lines;
  entries = good.sound.entries;
  early = good.sound.early;
  few_lines = let fewer = good.fewer in omega (arith, good.few);
  few_registrations = good.sound.few_registrations;
  few_variables = good.sound.few_variables;
}

-- a script of which nothing is left to read
pub read_valid : (bytes : List ℕ) (from number : ℕ) (read : Progress) → length bytes ≤ from → progress_from 1 nothing_read (raw_lines bytes) ≡ progress_from number read (raw_lines (drop from bytes)) → IsValid read.script
read_valid bytes from number read end so_far =
    good_valid read (at_good IsGood (progress_from 1 nothing_read (raw_lines bytes)) read (read_good 1 nothing_read (raw_lines bytes) nothing_good)
    (so_far ∙ ap (progress_from number read) (ap raw_lines (drop_of_length-le bytes end))))
