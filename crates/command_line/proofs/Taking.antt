-- A simple command takes the words at which no step of the parse fails.
use Rattle.std.proofs.Common.{map, ◌≡◌, ◌∙◌, ◌&&◌, ◌||◌, ◌==◌, not, cond, is_some, Option, Some, None, ℕ, zero, suc, true, false, refl, sym, ap, arith, List, [], ◌∷◌, Bool, length, nat_le, nat_lt, drop}
use Rattle.std.specs.Prelude.{codes, encode_utf8, slice_get}
use Rattle.std.specs.Option.{option_map_or}
use Rattle.std.specs.List.{list_all, list_any}
use Rattle.std.specs.Str.{bytes_eq, chars}
use Rattle.std.proofs.lemmas.Bool.{and_from, eqb-true, ltb-false, le-leb, or_parts}
use Rattle.std.proofs.lemmas.List.{map-id}
use Rattle.clap.specs.Facts.{parser_of_value, unwrap_or_range}
use Rattle.clap.specs.ValueTests.{accepts}
use Rattle.clap.specs.Lexer.{long_of, short_of}
use Rattle.clap.specs.Walk.{Held, Names, Row, Rule, Step, Text, Waiting, Walk, action_of, arg_by_id, arg_by_index, arg_by_long, arg_by_short, attached_value, finished, has_row, is_pending, most_values, nothing_held, reacted, settled, subcommand_met, takes_several, takes_values, values_or_missing, walk, walk_from, walked, word_met}
use Rattle.clap.specs.Walk.Step.{next, trailing, subcommand, value}
use Rattle.clap.specs.Matches.{found_of}
use Rattle.clap.specs.Walk.{rows_of}
use Rattle.clap.specs.Simple.{App, HasMatchesOf, Shape, argument_words, built, is_simple}
use Rattle.clap.specs.declared.parser.matches.ArgMatches.{ArgMatches}
use Rattle.command_line.specs.Commands.{IsPlain, found_in}
use Rattle.clap.specs.Takes.{action_passes, bundle_passes, bundle_step_passes, count_passes, default_passes, flag_word_passes, flags_pass, is_given, is_valid, level_passes, long_passes, option_passes, other_passes, positional_passes, react_passes, set_passes, settle_passes, short_passes, step_passes, takes, turn_passes, use_passes, values_pass, walk_passes, word_passes}
use Rattle.clap.specs.Kinds.{Kinds, check_kinds, or_else, range_kinds, value_kinds}
use Rattle.clap.specs.Faults.{action_fault, bundle_fault, bundle_step_fault, check_fault, count_fault, fault_of, flag_word_fault, flags_fault, has_free_rules, is_free_app, defaults_fault, level_fault, long_fault, option_fault, other_fault, positional_fault, react_fault, repeat_fault, set_fault, settle_fault, short_fault, step_fault, stray_fault, turn_fault, use_fault, values_fault, walk_fault, word_fault}
use Rattle.clap.specs.declared.builder.action.ArgAction.{ArgAction}
use Rattle.clap.specs.declared.builder.action.ArgAction.TheVariants.{Set, Append, SetTrue, SetFalse, Count, Help, HelpShort, HelpLong, Version}
use Rattle.clap.specs.declared.builder.value_parser.ValueParser.{ValueParser}
use Rattle.clap.specs.declared.error.kind.ErrorKind.{ErrorKind}
use Rattle.clap.specs.declared.error.kind.ErrorKind.TheVariants.{OutOfMemory, WrongNumberOfValues, TooFewValues, TooManyValues, UnknownArgument, InvalidSubcommand}
use Rattle.clap.proofs.FaultLemmas.{leaf_fault}
use Rattle.clap.proofs.TakesLemmas.{leaf_takes}
use Rattle.clap.proofs.WalkLemmas.{both}

-- ---- tests and kinds

-- no step fails where neither of two does
or_none : (a b : Kinds) → or_else a b ≡ [] → (a ≡ []) × (b ≡ [])
or_none [] b none = (refl, none)
or_none (k ∷ ks) b none = cc

-- a test that else fails
passed : (b : Bool) (k : ErrorKind) (ks : Kinds) → cond b [] (k ∷ ks) ≡ [] → b ≡ true
passed true k ks none = refl
passed false k ks none = cc

not_failed : (b : Bool) (k : ErrorKind) (ks : Kinds) (rest : Kinds) → cond b (k ∷ ks) rest ≡ [] → (b ≡ false) × (rest ≡ [])
not_failed false k ks rest none = (refl, none)
not_failed true k ks rest none = cc

-- a test that lets everything through
or_passed : (b : Bool) (kinds : Kinds) (other : Bool) → (kinds ≡ [] → other ≡ true) → cond b [] kinds ≡ [] → (b || other) ≡ true
or_passed true kinds other from none = refl
or_passed false kinds other from none = from none

-- not both tests hold
unless_both : (a b : Bool) (k : ErrorKind) (ks : Kinds) → cond (a && not b) (k ∷ ks) [] ≡ [] → (not a || b) ≡ true
unless_both false b k ks none = refl
unless_both true true k ks none = refl
unless_both true false k ks none = cc

-- ---- values

value_taken : (ignore : Bool) (parser : ValueParser) (text : Text) → value_kinds ignore parser text ≡ [] → accepts ignore parser text ≡ true
value_taken ignore parser text none = passed (accepts ignore parser text) _ [] none

values_taken : (a : Rule) (texts : List Text) → values_fault a texts ≡ [] → values_pass a texts ≡ true
values_taken a [] none = refl
values_taken a (text ∷ texts) none =
    let parts = or_none (value_kinds a.ignore_case (parser_of_value a.parser) text) (values_fault a texts) none in
    and_from _ _ (value_taken a.ignore_case (parser_of_value a.parser) text parts.0) (values_taken a texts parts.1)

-- ---- how many values there are

count_in : (least most n : ℕ) → range_kinds least most n ≡ [] → (nat_le least n ≡ true) × (nat_le n most ≡ true)
count_in least most n none = go (least == most) refl (not_failed (nat_lt 0 least && n == 0) _ _ _ none).1
  where
    go : (exact : Bool) → (least == most) ≡ exact
        → cond exact (cond (least == n) [] (WrongNumberOfValues ∷ [])) (cond (nat_lt n least) (TooFewValues ∷ []) (cond (nat_lt most n) (TooManyValues ∷ []) [])) ≡ []
        → (nat_le least n ≡ true) × (nat_le n most ≡ true)
    go true exact none =
        let one : least ≡ most = eqb-true least most exact in
        let other : least ≡ n = eqb-true least n (passed (least == n) _ _ none) in
        (le-leb least n (omega arith), le-leb n most (omega arith))
    go false exact none =
        let enough = not_failed (nat_lt n least) _ _ _ none in
        let no_more = not_failed (nat_lt most n) _ _ _ enough.1 in
        (le-leb least n (ltb-false n least enough.0), le-leb n most (ltb-false most n no_more.0))

-- ---- one use of an argument

set_taken : (again : Bool) (a : Rule) (values : List Text) (rows : List Row) → set_fault again a values rows ≡ [] → set_passes again a values rows ≡ true
set_taken again a values rows none =
    let parts = or_none (repeat_fault again a.id rows) (values_fault a values) none in
    and_from _ _ (unless_both (has_row a.id rows) again _ _ parts.0) (values_taken a values parts.1)

count_taken : (a : Rule) (values : List Text) (rows : List Row) → count_fault a values rows ≡ [] → count_passes a values rows ≡ true
count_taken a [] rows none = value_taken a.ignore_case (parser_of_value a.parser) _ none
count_taken a (text ∷ texts) rows none = values_taken a (text ∷ texts) none

action_taken : (x : ArgAction) (again : Bool) (a : Rule) (values : List Text) (rows : List Row) → action_fault x again a values rows ≡ [] → action_passes x again a values rows ≡ true
action_taken Set again a values rows none = set_taken again a values rows none
action_taken SetTrue again a values rows none = set_taken again a values rows none
action_taken SetFalse again a values rows none = set_taken again a values rows none
action_taken Append again a values rows none = values_taken a values none
action_taken Count again a values rows none = count_taken a values rows none
action_taken Help again a values rows none = cc
action_taken HelpShort again a values rows none = cc
action_taken HelpLong again a values rows none = cc
action_taken Version again a values rows none = cc

use_taken : (again : Bool) (a : Rule) (values : List Text) (rows : List Row) → use_fault again a values rows ≡ [] → use_passes again a values rows ≡ true
use_taken again a values rows none =
    let parts = or_none (range_kinds (unwrap_or_range a.range).start_inclusive (most_values a) (length values)) _ none in
    let count = count_in (unwrap_or_range a.range).start_inclusive (most_values a) (length values) parts.0 in
    and_from _ _ count.0 (and_from _ _ count.1 (action_taken (action_of a) again a (values_or_missing a values) rows parts.1))

-- ---- the walk

settle_taken : (c : List Rule) (again : Bool) (h : Held) → settle_fault c again h ≡ [] → settle_passes c again h ≡ true
settle_taken c again h none = go h.pending none
  where
    by_rule : (p : Text × List Text) (found : Option Rule) → option_map_or (λ a. use_fault again a p.1 h.rows) found [] ≡ [] → option_map_or (λ a. use_passes again a p.1 h.rows) found true ≡ true
    by_rule p None none = refl
    by_rule p (Some a) none = use_taken again a p.1 h.rows none

    go : (pending : Option (Text × List Text)) → option_map_or (λ p. option_map_or (λ a. use_fault again a p.1 h.rows) (arg_by_id c p.0) []) pending [] ≡ []
        → option_map_or (λ p. option_map_or (λ a. use_passes again a p.1 h.rows) (arg_by_id c p.0) true) pending true ≡ true
    go None none = refl
    go (Some p) none = by_rule p (arg_by_id c p.0) none

react_taken : (c : List Rule) (again : Bool) (a : Rule) (values : List Text) (h : Held) → react_fault c again a values h ≡ [] → react_passes c again a values h ≡ true
react_taken c again a values h none =
    let parts = or_none (settle_fault c again h) _ none in
    and_from _ _ (settle_taken c again h parts.0) (use_taken again a values (settled c h).rows parts.1)

option_taken : (c : List Rule) (again : Bool) (a : Rule) (v : Option Text) (h : Held) → option_fault c again a v h ≡ [] → option_passes c again a v h ≡ true
option_taken c again a (Some v) h none = react_taken c again a (v ∷ []) h none
option_taken c again a None h none = settle_taken c again h none

long_taken : (c : List Rule) (again : Bool) (found : Option Rule) (v : Option Text) (h : Held) → long_fault c again found v h ≡ [] → long_passes c again found v h ≡ true
long_taken c again None v h none = cc
long_taken c again (Some a) v h none = go (takes_values a) v none
  where
    flag : (v : Option Text) → cond (is_some v) (TooManyValues ∷ []) (react_fault c again a [] h) ≡ [] → (not (is_some v) && react_passes c again a [] h) ≡ true
    flag None none = react_taken c again a [] h none
    flag (Some text) none = cc

    go : (takes : Bool) (v : Option Text) → cond takes (option_fault c again a v h) (cond (is_some v) (TooManyValues ∷ []) (react_fault c again a [] h)) ≡ []
        → cond takes (option_passes c again a v h) (not (is_some v) && react_passes c again a [] h) ≡ true
    go true v none = option_taken c again a v h none
    go false v none = flag v none

short_taken : (c : List Rule) (again : Bool) (found : Option Rule) (rest : Text) (h : Held) (fails : Held → Kinds) (passes : Held → Bool)
    → ((after : Held) → fails after ≡ [] → passes after ≡ true) → short_fault c again found rest h fails ≡ [] → short_passes c again found rest h passes ≡ true
short_taken c again None rest h fails passes each none = cc
short_taken c again (Some a) rest h fails passes each none = go (takes_values a) none
  where
    go : (takes : Bool) → cond takes (option_fault c again a (attached_value rest) h) (or_else (react_fault c again a [] h) (fails (reacted c a [] h))) ≡ []
        → cond takes (option_passes c again a (attached_value rest) h) (react_passes c again a [] h && passes (reacted c a [] h)) ≡ true
    go true none = option_taken c again a (attached_value rest) h none
    go false none =
        let parts = or_none (react_fault c again a [] h) _ none in
        and_from _ _ (react_taken c again a [] h parts.0) (each (reacted c a [] h) parts.1)

bundle_step_taken : (c : List Rule) (again : Bool) (x : Option ℕ) (flags : Text) (skip : ℕ) (h : Held) (fails : Text → ℕ → Held → Kinds) (passes : Text → ℕ → Held → Bool)
    → ((rest : Text) (skip : ℕ) (after : Held) → fails rest skip after ≡ [] → passes rest skip after ≡ true)
    → bundle_step_fault c again x flags skip h fails ≡ [] → bundle_step_passes c again x flags skip h passes ≡ true
bundle_step_taken c again None flags skip h fails passes each none = refl
bundle_step_taken c again (Some x) flags zero h fails passes each none =
    let rest = drop (length (encode_utf8 x)) flags in
    short_taken c again (arg_by_short c x) rest h (fails rest 0) (passes rest 0) (each rest 0) none
bundle_step_taken c again (Some x) flags (suc skip) h fails passes each none = each (drop (length (encode_utf8 x)) flags) skip h none

flags_taken : (c : List Rule) (again : Bool) (k : ℕ) (flags : Text) (skip : ℕ) (h : Held) → flags_fault c again k flags skip h ≡ [] → flags_pass c again k flags skip h ≡ true
unfolding flags_fault flags_pass
flags_taken c again zero flags skip h none = refl
flags_taken c again (suc k) flags skip h none =
    bundle_step_taken c again (slice_get (chars flags) 0) flags skip h (flags_fault c again k) (flags_pass c again k) (flags_taken c again k) none

flag_word_taken : (c : List Rule) (again : Bool) (long : Option (Text × Option Text)) (word : Text) (h : Held) → flag_word_fault c again long word h ≡ [] → flag_word_passes c again long word h ≡ true
flag_word_taken c again (Some p) word h none = long_taken c again (arg_by_long c p.0) p.1 h none
flag_word_taken c again None word h none = go (short_of word) none
  where
    go : (flags : Option Text) → option_map_or (λ flags. bundle_fault c again flags h) flags [] ≡ [] → option_map_or (λ flags. bundle_passes c again flags h) flags true ≡ true
    go None none = refl
    go (Some flags) none = flags_taken c again (length flags) flags h.skip (record h { skip = 0 }) none

other_taken : (s : Shape) (met : Option Text) (word : Text) (h : Held) → other_fault s met word h ≡ [] → other_passes s met word h ≡ true
other_taken s (Some name) word h none = unless_both (bytes_eq name (codes "help")) s.disable_help_subcommand _ _ none
other_taken s None word h none =
    or_passed (bytes_eq word (45 ∷ 45 ∷ [])) _ _ (flag_word_taken s.rules s.args_override_self (long_of word) word h) none

word_taken : (s : Shape) (names : Names) (is_trailing : Bool) (waiting : Waiting) (word : Text) (h : Held)
    → word_fault s names is_trailing waiting word h ≡ [] → word_passes s names is_trailing waiting word h ≡ true
word_taken s names is_trailing waiting word h none = or_passed is_trailing _ _ (other_taken s (subcommand_met names waiting word) word h) none

positional_taken : (c : List Rule) (again : Bool) (a : Rule) (h : Held) → positional_fault c again a h ≡ [] → positional_passes c again a h ≡ true
positional_taken c again a h none = or_passed (is_pending a h.pending && takes_several a) _ _ (settle_taken c again h) none

stray_fails : (s : Shape) → stray_fault s ≡ [] → ⊥
stray_fails s none = go s.is_leaf none
  where
    go : (leaf : Bool) → cond leaf (UnknownArgument ∷ []) (UnknownArgument ∷ InvalidSubcommand ∷ []) ≡ [] → ⊥
    go true none = cc
    go false none = cc

step_taken : (s : Shape) (position : ℕ) (h : Held) (step : Step) → step_fault s position h step ≡ [] → step_passes s position h step ≡ true
step_taken s position h value none = go (arg_by_index s.rules position) none
  where
    go : (found : Option Rule) → option_map_or (λ a. positional_fault s.rules s.args_override_self a h) found (stray_fault s) ≡ []
        → option_map_or (λ a. positional_passes s.rules s.args_override_self a h) found false ≡ true
    go None none = absurd (stray_fails s none)
    go (Some a) none = positional_taken s.rules s.args_override_self a h none
step_taken s position h (next waiting) none = refl
step_taken s position h (trailing place) none = refl
step_taken s position h (subcommand name) none = refl

turn_taken : (s : Shape) (names : Names) (w : Walk) (word : Text) → turn_fault s names w word ≡ [] → turn_passes s names w word ≡ true
turn_taken s names w word none =
    let met = word_met s.rules names w.is_trailing w.waiting w.position word w.held in
    or_passed (is_some w.stopped) _ _ (both_steps met) none
  where
    both_steps : (met : Held × Step) → or_else (word_fault s names w.is_trailing w.waiting word w.held) (step_fault s w.position met.0 met.1) ≡ []
        → (word_passes s names w.is_trailing w.waiting word w.held && step_passes s w.position met.0 met.1) ≡ true
    both_steps met none =
        let parts = or_none (word_fault s names w.is_trailing w.waiting word w.held) _ none in
        and_from _ _ (word_taken s names w.is_trailing w.waiting word w.held parts.0) (step_taken s w.position met.0 met.1 parts.1)

walk_taken : (s : Shape) (names : Names) (w : Walk) (words : List Text) → walk_fault s names w words ≡ [] → walk_passes s names w words ≡ true
unfolding walk_fault walk_passes
walk_taken s names w [] none = refl
walk_taken s names w (word ∷ rest) none =
    let parts = or_none (turn_fault s names w word) _ none in
    and_from _ _ (turn_taken s names w word parts.0) (walk_taken s names (walked s.rules names w word) rest parts.1)

-- ---- after the walk

unless : (a b : Bool) → (a && not b) ≡ false → (not a || b) ≡ true
unless false b none = refl
unless true true none = refl
unless true false none = cc

-- what is required is there
required_given : (rows : List Row) (rules : List Rule) → list_any (λ a. a.required && not (is_given a.id rows)) rules ≡ false
    → list_all (λ a. not a.required || is_given a.id rows) rules ≡ true
required_given rows [] none = refl
required_given rows (a ∷ rules) none =
    let parts = or_parts (a.required && not (is_given a.id rows)) _ none in
    and_from _ _ (unless a.required (is_given a.id rows) parts.0) (required_given rows rules parts.1)

last_failed : (b : Bool) (k : ErrorKind) → cond b (k ∷ []) [] ≡ [] → b ≡ false
last_failed false k none = refl
last_failed true k none = cc

-- a command without subcommands passes the last checks
checks_taken : (s : Shape) (rows : List Row) → has_free_rules s ≡ true → check_fault s rows false ≡ [] → is_valid s rows false ≡ true
checks_taken s rows free none = go s.arg_required_else_help s.subcommand_required s.subcommand_negates_reqs _ none
  where
    all_given : Bool
    all_given = list_all (λ a. not a.required || is_given a.id rows) s.rules

    any_missing : Bool
    any_missing = list_any (λ a. a.required && not (is_given a.id rows)) s.rules

    given : (negates : Bool) → (not (negates && false) && any_missing) ≡ false → ((negates && false) || all_given) ≡ true
    given true none = required_given rows s.rules none
    given false none = required_given rows s.rules none

    unwanted : (sub : Bool) → sub ≡ false → (not sub || false) ≡ true
    unwanted false none = refl
    unwanted true none = cc

    go : (help sub negates given_any : Bool)
        → check_kinds (help && not given_any) sub (not (negates && false) && any_missing) ≡ []
        → ((not help || given_any) && ((not sub || false) && (list_all (λ a. a.is_free) s.rules && ((negates && false) || all_given)))) ≡ true
    go help sub negates given_any none =
        let first = not_failed (help && not given_any) _ _ _ none in
        let second = not_failed sub _ _ _ first.1 in
        let third = last_failed (not (negates && false) && any_missing) _ second.1 in
        and_from _ _ (unless help given_any first.0) (and_from _ _ (unwanted sub second.0) (and_from _ _ free (given negates third)))

-- one level of the parse passes
level_taken : (s : Shape) (words : List Text) → has_free_rules s ≡ true → list_all default_passes s.rules ≡ true
    → level_fault s [] nothing_held words false [] ≡ [] → level_passes s [] nothing_held words false ≡ true
level_taken s words free defaults none =
    let end = (walk s.rules [] nothing_held words).held in
    let one = or_none (walk_fault s [] (walk_from nothing_held) words) _ none in
    let two = or_none (settle_fault s.rules s.args_override_self end) _ one.1 in
    let three = or_none (defaults_fault (settled s.rules end).rows s.rules) _ two.1 in
    and_from _ _ (walk_taken s [] (walk_from nothing_held) words one.0)
    (and_from _ _ (settle_taken s.rules s.args_override_self end two.0) (and_from _ _ defaults (checks_taken s (finished s.rules end) free three.1)))

-- it takes the words at which no step of the parse fails
pub faultless : (command : App) (words : List Text) → IsPlain command → fault_of command words ≡ [] → takes command words ≡ true
faultless command words plain none =
    let parts = both (is_simple command) (is_free_app (built command)) plain.free in
    let rules = both (has_free_rules (built command).top) _ parts.1 in
    let level : level_fault (built command).top [] nothing_held (argument_words command words) false [] ≡ [] =
    sym (leaf_fault (built command) nothing_held (argument_words command words) plain.alone) ∙ none in
    and_from _ _ parts.0
    (leaf_takes (built command) nothing_held (argument_words command words) plain.alone
    (level_taken (built command).top (argument_words command words) rules.0 plain.defaults level))

-- what stands in the matches of a line, each word of which is itself
pub found_is : (command : App) (line : List Text) (m : ArgMatches) → IsPlain command → HasMatchesOf command (map (λ word. word) line) m
    → fault_of command (map (λ word. word) line) ≡ [] → Some (rows_of (found_of m)) ≡ found_in command line
found_is command line m plain same none =
    let words : map (λ word. word) line ≡ line = map-id line in
    let simple = (both (is_simple command) (is_free_app (built command)) plain.free).0 in
    let taken = faultless command line plain (ap (fault_of command) (sym words) ∙ none) in
    rw (taken, ← words, (same simple).0) refl

-- a line at which memory alone can fail is taken, so another failure means that it isn't
pub found_none : (command : App) (line : List Text) (kind : ErrorKind) → (takes command (map (λ word. word) line) ≡ true → kind ≡ OutOfMemory) → (kind ≡ OutOfMemory → ⊥)
    → None ≡ found_in command line
found_none command line kind passes other = go (takes command line) refl
  where
    go : (taken : Bool) → takes command line ≡ taken → None ≡ found_in command line
    go false is = rw is refl
    go true is = absurd (other (passes (ap (takes command) (map-id line) ∙ is)))
