-- What is left for each client of a run between two rounds: in order Stamp nothing that is before the next stamp.
use Rattle.std.proofs.Common.{◌≡◌, ℕ, zero, suc, ◌+◌, ◌-◌, ◌*◌, ◌/◌, ◌<◌, ◌≤◌, ◌==◌, ◌&&◌, Bool, true, false, cond, List, [], ◌∷◌, ◌++◌, length, drop, Option, None, Some, nat_le, nat_lt, refl, sym, ap, subst, ◌∙◌, arith}
use Rattle.std.specs.Prelude.{option_map, slice_get}
use Rattle.std.specs.List.{list_all}
use Rattle.std.proofs.lemmas.Bool.{and_from}
use Rattle.std.proofs.lemmas.Bool.Decides.{nat_tests}
use Rattle.std.proofs.lemmas.List.{append_cancel_left, length-drop}
use Rattle.helm_core.specs.Ticks.{Tick}
use Rattle.moos_client.specs.Calls.{entries_of}
use Rattle.moos_client.proofs.Histories.{all_kept}
use Rattle.moos_lawful.specs.Answering.{Answerer, turns_from}
use Rattle.moos_lawful.specs.Schedules.{due_in, IsLawfulSoFar, Schedule}
use Rattle.moos_play.proofs.Finishing.{parts_known}
use Rattle.moos_play.proofs.Coming.{behind_late}
use Rattle.moos_play.proofs.Moving.{least_line, least_tick}
use Rattle.moos_play.proofs.Stamping.{next_line}
use Rattle.moos_play.specs.declared.stage.Stage.{Stage}
use Rattle.moos_play.specs.declared.helm_client.HelmClient.{HelmClient}
use Rattle.moos_play.specs.Lawful.{heard_of, ticks_to}
use Rattle.moos_play.specs.Plays.{earliest, history_in, IsLeft, KeepsLeft, known_clients_in, schedule_in, stamp_next, ticks_behind}
use Rattle.moos_play.specs.Runs.{IsPaused, playing_of}
use Rattle.moos_play.specs.Schedules.{answering}
use Rattle.moos_play.specs.Steered.{helm_of, IsBehind, left_for, parts, helm_setup_of, tick_due, turns_left, ticks_in}
use Rattle.moos_post.specs.declared.entry.Entry.{Entry}
use Rattle.moos_post.specs.History.{History}
use Rattle.script_reader.specs.declared.script.Order.{Order}
use Rattle.script_reader.specs.declared.script.Order.TheVariants.{Stamp, Race}
use Rattle.script_reader.specs.declared.script.Script.{Script}
use Rattle.script_reader.specs.Validity.{are_lines}

-- what is left for a client is determined by the history
left_one : {A : Type 0} (schedule : Schedule A) (history : History) (so other : IsLawfulSoFar schedule history) (n : ℕ) → n < schedule.known → so.left n ≡ other.left n
left_one schedule history so other n below =
    append_cancel_left (entries_of n so.rest) (so.left n) (other.left n)
    (sym (so.own n below) ∙ ap (due_in schedule n) same ∙ other.own n below ∙ ap (λ rest. entries_of n rest ++ other.left n) (sym same))
  where
    same : so.rest ≡ other.rest
    same = append_cancel_left schedule.start so.rest other.rest (sym so.opened ∙ other.opened)

-- the lines from a place on aren't before a stamp that isn't above the first of them
lines_late : (clients stop : ℕ) (lines : List Entry) (from s : ℕ) → are_lines clients 0 stop lines ≡ true → (left : List Entry) → drop from lines ≡ left → ((line : Entry) (more : List Entry) → left ≡ line ∷ more → s ≤ line.stamp) → list_all (λ line. nat_le s line.stamp) left ≡ true
lines_late clients stop lines from s valid [] is first = refl
lines_late clients stop lines from zero valid (line ∷ more) is first = any (line ∷ more)
  where
    any : (some : List Entry) → list_all (λ line. nat_le 0 line.stamp) some ≡ true
    any [] = refl
    any (one ∷ some) = and_from (nat_le 0 one.stamp) (list_all (λ line. nat_le 0 line.stamp) some) (grind (arith, nat_tests)) (any some)
lines_late clients stop lines from (suc s) valid (line ∷ more) is first =
    let here : suc s ≤ line.stamp = first line more refl in
    let test : nat_lt s line.stamp ≡ true = grind (arith, nat_tests, here) in
    subst (λ left. list_all (λ line. nat_le (suc s) line.stamp) left ≡ true) is (behind_late clients 0 stop lines from s valid (behind test))
  where
    behind : nat_lt s line.stamp ≡ true → IsBehind (Some s) (drop from lines)
    behind test = subst (IsBehind (Some s)) (sym is) test

-- turns from one on aren't before a stamp that isn't above it
turns_late : {A : Type 0} (answerer : Answerer A) (n period : ℕ) (heard : List A) (i count s : ℕ) → s ≤ i * period → list_all (λ entry. nat_le s entry.stamp) (turns_from answerer n period heard i count) ≡ true
turns_late answerer n period heard i zero s less = refl
turns_late answerer n period heard i (suc count) s less =
    let here : nat_le s (i * period) ≡ true = grind (arith, nat_tests, less) in
    let rest = turns_late answerer n period heard (suc i) count s (omega (arith, less)) in
    and_from (nat_le s (i * period)) (nat_le s (i * period) && list_all (λ entry. nat_le s entry.stamp) (turns_from answerer n period heard (suc i) count)) here
    (and_from (nat_le s (i * period)) (list_all (λ entry. nat_le s entry.stamp) (turns_from answerer n period heard (suc i) count)) here rest)

-- the next stamp in order Stamp
abbrev stamp_at : Script → ℕ → Option HelmClient → ℕ
stamp_at script from s = earliest script.stop (tick_due script.stop s) (option_map (λ (line : Entry). line.stamp) (slice_get script.lines from))

helm_late : (script : Script) (names : List (List ℕ)) (from : ℕ) (s : Option HelmClient) (history : History) → list_all (λ entry. nat_le (stamp_at script from s) entry.stamp) (turns_left script.stop s names history) ≡ true
helm_late script names from None history = refl
helm_late script names from (Some s) history = by (nat_le s.ticks (script.stop / s.period)) refl
  where
    heard : List Tick
    heard = heard_of names s.number history

    line : Option ℕ
    line = option_map (λ (line : Entry). line.stamp) (slice_get script.lines from)

    by : (b : Bool) → nat_le s.ticks (script.stop / s.period) ≡ b
        → list_all (λ entry. nat_le (earliest script.stop (cond b (Some (s.ticks * s.period)) None) line) entry.stamp) (turns_from (answering (helm_setup_of s)) s.number s.period heard s.ticks (ticks_to script.stop (helm_setup_of s) - s.ticks)) ≡ true
    by true e = turns_late (answering (helm_setup_of s)) s.number s.period heard s.ticks (ticks_to script.stop (helm_setup_of s) - s.ticks) (earliest script.stop (Some (s.ticks * s.period)) line) (least_tick script.stop (s.ticks * s.period) line)
    by false e =
        let over : ticks_to script.stop (helm_setup_of s) - s.ticks ≡ 0 = grind (arith, nat_tests, e) in
        ap (λ count. list_all (λ (entry : Entry). nat_le (earliest script.stop None line) entry.stamp) (turns_from (answering (helm_setup_of s)) s.number s.period heard s.ticks count)) over

all_late : (script : Script) (names : List (List ℕ)) (from : ℕ) (s : Option HelmClient) (history : History) (n : ℕ) → are_lines (length script.names) 0 script.stop script.lines ≡ true
    → list_all (λ entry. nat_le (stamp_at script from s) entry.stamp) (left_for script s names from history n) ≡ true
all_late script names from s history n valid = by (nat_lt n (length script.names))
  where
    late : list_all (λ line. nat_le (stamp_at script from s) line.stamp) (drop from script.lines) ≡ true
    late = lines_late (length script.names) script.stop script.lines from (stamp_at script from s) valid (drop from script.lines) refl
        (λ line more is. subst (λ next. earliest script.stop (tick_due script.stop s) (option_map (λ (line : Entry). line.stamp) next) ≤ line.stamp) (sym (next_line script.lines from line more is)) (least_line script.stop line.stamp (tick_due script.stop s)))

    by : (b : Bool) → list_all (λ entry. nat_le (stamp_at script from s) entry.stamp) (cond b (entries_of n (drop from script.lines)) (turns_left script.stop s names history)) ≡ true
    by true = all_kept (λ entry. nat_le (stamp_at script from s) entry.stamp) (λ entry. entry.client == n) (drop from script.lines) late
    by false = helm_late script names from s history

-- where nothing is left of a run nothing is left for a client
none_left : (script : Script) (names : List (List ℕ)) (from : ℕ) (s : Option HelmClient) (history : History) (n : ℕ) → length script.lines - from + ticks_behind script.stop (helm_of s) (ticks_in s) ≡ 0 → left_for script s names from history n ≡ []
none_left script names from s history n none = by (nat_lt n (length script.names))
  where
    empty : (left : List Entry) → length left ≡ 0 → left ≡ []
    empty [] is = refl
    empty (one ∷ more) is = absurd (omega (arith, is))

    lines : drop from script.lines ≡ []
    lines = empty (drop from script.lines) (omega (arith, length-drop from script.lines, none))

    turns : (s : Option HelmClient) → ticks_behind script.stop (helm_of s) (ticks_in s) ≡ 0 → turns_left script.stop s names history ≡ []
    turns None over = refl
    turns (Some s) over = ap (turns_from (answering (helm_setup_of s)) s.number s.period (heard_of names s.number history) s.ticks) over

    by : (b : Bool) → cond b (entries_of n (drop from script.lines)) (turns_left script.stop s names history) ≡ []
    by true = ap (entries_of n) lines
    by false = turns s (omega (arith, none))

-- WHAT IS LEFT FOR A CLIENT of a run between two rounds
pub is_left : (play : Stage) (whole : Bool) → IsPaused play → (so : IsLawfulSoFar (schedule_in (playing_of play whole)) (history_in (playing_of play whole))) (n : ℕ) → n < known_clients_in (playing_of play whole) → IsLeft (playing_of play whole) (so.left n)
is_left play whole between so n below = record {
  none = λ none. same ∙ none_left play.script.now play.lock.base play.from play.helm_client play.first.seat.seen n none;
  late = late play.order refl;
}
  where
    known : n < parts play.script.now play.helm_client
    known = omega (arith, below, parts_known play.script.now play.helm_client)

    same : so.left n ≡ left_for play.script.now play.helm_client play.lock.base play.from play.first.seat.seen n
    same = left_one (schedule_in (playing_of play whole)) (history_in (playing_of play whole)) so between.at_play.under.played.so_far n known ∙ between.at_play.under.played.left n known

    tick : Option ℕ
    tick = tick_due play.script.now.stop play.helm_client

    line : Option ℕ
    line = option_map (λ (line : Entry). line.stamp) (slice_get play.script.now.lines play.from)

    late : (order : Order) → play.order ≡ order → KeepsLeft order (stamp_next order play.script.now.stop tick line) (so.left n)
    late Race is = tt
    late Stamp is = subst (λ left. list_all (λ entry. nat_le (earliest play.script.now.stop tick line) entry.stamp) left ≡ true) (sym same) (all_late play.script.now play.lock.base play.from play.helm_client play.first.seat.seen n between.at_play.valid.lines)
