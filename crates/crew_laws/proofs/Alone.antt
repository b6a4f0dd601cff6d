-- The posts of one client of a script have rising stamps in every order, so they come in time if nobody else posts their variable.
use Rattle.std.proofs.Common.{◌≡◌, ◌≢◌, ℕ, ◌≤◌, Bool, true, false, cond, ◌==◌, ◌&&◌, ◌||◌, not, List, [], ◌∷◌, ◌++◌, length, map, bytes_eq, refl, sym, ap, subst, ◌∙◌, arith, ne_eqb}
use Rattle.std.specs.Prelude.{filter, nat_le, nat_lt}
use Rattle.std.specs.List.{list_all}
use Rattle.std.proofs.lemmas.Bool.{and_from, and_parts, eqb-true, le-leb, leb-true}
use Rattle.std.proofs.lemmas.List.Elements.{filter-append}
use Rattle.std.proofs.lemmas.List.Folds.{list_all-append}
use Rattle.std.proofs.lemmas.Slice.Eq.{bytes_eq-Decides}
use Rattle.moos_post.specs.declared.entry.Call.{Call}
use Rattle.moos_post.specs.declared.entry.Call.TheVariants.{Register, Unregister, Post as Posts, Fetch}
use Rattle.moos_post.specs.declared.entry.Entry.{Entry}
use Rattle.moos_post.specs.declared.value.Pair.{Pair}
use Rattle.moos_post.specs.declared.value.Post.{Post}
use Rattle.moos_post.specs.History.{History, post_of, posts_of, posts_of_call, posts_of_entry}
use Rattle.moos_mail.specs.Sentences.{StampsRise}
use Rattle.moos_client.specs.Calls.{entries_of}
use Rattle.moos_play.specs.Lawful.{HelmSetup, opening_of}
use Rattle.script_reader.specs.declared.script.Order.{Order}
use Rattle.script_reader.specs.declared.script.Script.{Script}
use Rattle.script_reader.specs.Validity.{are_lines, keeps_limits}
use Rattle.crew_laws.specs.InTime.{has_later}
use Rattle.crew_laws.specs.Races.{InTimeIfAlone}
use Rattle.crew_laws.specs.Runs.{IsHelmRun}
use Rattle.crew_laws.proofs.Ordering.{opening_own}
use Rattle.crew_laws.proofs.Stamping.{none_later, rise_call, rise_weaker}

-- the post is by this client
abbrev is_by : ℕ → Post → Bool
is_by client post = post.source == client

-- ---- what one client posts

nothing_by : (own : Bool) → [] ≡ cond {A = List Post} own [] []
nothing_by true = refl
nothing_by false = refl

batch_by : (client stamp source : ℕ) (batch : List Pair) → filter (is_by client) (map (post_of stamp source) batch) ≡ cond (source == client) (map (post_of stamp source) batch) []
batch_by client stamp source [] = nothing_by (source == client)
batch_by client stamp source (pair ∷ batch) = by (source == client) (batch_by client stamp source batch)
  where
    one : Post
    one = post_of stamp source pair

    by : (own : Bool) → filter (is_by client) (map (post_of stamp source) batch) ≡ cond own (map (post_of stamp source) batch) []
        → cond own (one ∷ filter (is_by client) (map (post_of stamp source) batch)) (filter (is_by client) (map (post_of stamp source) batch)) ≡ cond own (one ∷ map (post_of stamp source) batch) []
    by true h = ap (λ rest. one ∷ rest) h
    by false h = h

call_by : (client stamp source : ℕ) (call : Call) → filter (is_by client) (posts_of_call stamp source call) ≡ cond (source == client) (posts_of_call stamp source call) []
call_by client stamp source (Register regs) = nothing_by (source == client)
call_by client stamp source (Unregister var from) = nothing_by (source == client)
call_by client stamp source (Posts batch) = batch_by client stamp source batch
call_by client stamp source Fetch = nothing_by (source == client)

posts_by : (client : ℕ) (entries : History) → filter (is_by client) (posts_of entries) ≡ posts_of (entries_of client entries)
posts_by client [] = refl
posts_by client (entry ∷ entries) =
    filter-append (is_by client) (posts_of_entry entry) (posts_of entries) ∙ ap (λ front. front ++ filter (is_by client) (posts_of entries)) (call_by client entry.stamp entry.client entry.call)
    ∙ ap (λ rest. cond (entry.client == client) (posts_of_entry entry) [] ++ rest) (posts_by client entries) ∙ by (entry.client == client)
  where
    by : (own : Bool) → cond own (posts_of_entry entry) [] ++ posts_of (entries_of client entries) ≡ posts_of (cond own (entry ∷ entries_of client entries) (entries_of client entries))
    by true = refl
    by false = refl

-- ---- whose stamps rise

two_of_four : (a b c d : Bool) → (a && b && c && d) ≡ true → (b ≡ true) × (d ≡ true)
two_of_four true true true true is = (refl, refl)
two_of_four true true true false is = absurd (let e : false ≡ true = is in cc)
two_of_four true true false d is = absurd (let e : false ≡ true = is in cc)
two_of_four true false c d is = absurd (let e : false ≡ true = is in cc)
two_of_four false b c d is = absurd (let e : false ≡ true = is in cc)

lines_rise : (clients last stop : ℕ) (lines : List Entry) (client : ℕ) → are_lines clients last stop lines ≡ true → StampsRise last (posts_of (entries_of client lines))
lines_rise clients last stop [] client valid = tt
lines_rise clients last stop (line ∷ lines) client valid =
    let parts = two_of_four (nat_lt line.client clients) (nat_le last line.stamp) (keeps_limits line.call) (are_lines clients line.stamp stop lines) valid in
    by (line.client == client) (leb-true last line.stamp parts.0) (lines_rise clients line.stamp stop lines client parts.1)
  where
    by : (own : Bool) → last ≤ line.stamp → StampsRise line.stamp (posts_of (entries_of client lines)) → StampsRise last (posts_of (cond own (line ∷ entries_of client lines) (entries_of client lines)))
    by true less rise = rise_weaker last line.stamp (posts_of (line ∷ entries_of client lines)) less (rise_call line.stamp line.client line.call (posts_of (entries_of client lines)) rise)
    by false less rise = rise_weaker last line.stamp (posts_of (entries_of client lines)) less rise

none_of : (client own : ℕ) (entries : History) → client ≢ own → list_all (λ entry. entry.client == own) entries ≡ true → entries_of client entries ≡ []
none_of client own [] other all = refl
none_of client own (entry ∷ entries) other all =
    let both = and_parts (entry.client == own) (list_all (λ (entry : Entry). entry.client == own) entries) all in
    let is : entry.client ≡ own = eqb-true entry.client own both.0 in
    ap (λ b. cond b (entry ∷ entries_of client entries) (entries_of client entries)) (ne_eqb entry.client client (λ same. other (sym same ∙ is))) ∙ none_of client own entries other both.1

rises_alone : (order : Order) (script : Script) (helm : HelmSetup) (names : List (List ℕ)) (history : History) → IsHelmRun order script helm names history → are_lines (length script.names) 0 script.stop script.lines ≡ true
    → (client : ℕ) → client ≢ helm.client → StampsRise 0 (filter (is_by client) (posts_of history))
rises_alone order script helm names history run lines client other =
    subst (StampsRise 0) (sym (posts_by client history ∙ ap posts_of entries)) (lines_rise (length script.names) 0 script.stop script.lines client lines)
  where
    entries : entries_of client history ≡ entries_of client script.lines
    entries =
        ap (entries_of client) run.lawful.opened ∙ filter-append (λ entry. entry.client == client) (opening_of helm) run.lawful.rest
        ∙ ap (λ front. front ++ entries_of client run.lawful.rest) (none_of client helm.client (opening_of helm) other (opening_own helm)) ∙ run.lawful.own client (λ same. other (same ∙ sym run.number))

-- ---- so none of them is overtaken

before_all : (low : ℕ) (front : List Post) (post : Post) (back : List Post) → StampsRise low (front ++ post ∷ back) → (list_all (λ one. nat_le one.stamp post.stamp) front ≡ true) × (low ≤ post.stamp)
before_all low [] post back rise = (refl, rise.0)
before_all low (one ∷ front) post back rise =
    let rest = before_all one.stamp front post back rise.1 in
    (and_from (nat_le one.stamp post.stamp) (list_all (λ (one : Post). nat_le one.stamp post.stamp) front) (le-leb one.stamp post.stamp rest.1) rest.0, omega (arith, rise.0, rest.1))

later_alone : (client : ℕ) (var : List ℕ) (stamp : ℕ) (before : List Post) → list_all (λ post. not (bytes_eq post.var var) || post.source == client) before ≡ true → has_later before var stamp ≡ has_later (filter (is_by client) before) var stamp
later_alone client var stamp [] all = refl
later_alone client var stamp (one ∷ before) all =
    let both = and_parts (not (bytes_eq one.var var) || one.source == client) (list_all (λ (post : Post). not (bytes_eq post.var var) || post.source == client) before) all in
    by (bytes_eq one.var var) (one.source == client) both.0 refl (later_alone client var stamp before both.1)
  where
    kept : List Post
    kept = filter (is_by client) before

    by : (own sends : Bool) → (not own || sends) ≡ true → bytes_eq one.var var ≡ own → has_later before var stamp ≡ has_later kept var stamp
        → ((own && nat_lt stamp one.stamp) || has_later before var stamp) ≡ has_later (cond sends (one ∷ kept) kept) var stamp
    by own true alone is h = ap (λ b. (own && nat_lt stamp one.stamp) || b) h ∙ ap (λ own. (own && nat_lt stamp one.stamp) || has_later kept var stamp) (sym is)
    by true false alone is h = absurd (let e : false ≡ true = alone in cc)
    by false false alone is h = h

pub in_time_alone : InTimeIfAlone
in_time_alone order script helm names history run lines client var other alone before post later is same =
    ap (λ var. has_later before var post.stamp) var_is ∙ later_alone client var post.stamp before parts.0
    ∙ none_later (filter (is_by client) before) var post.stamp post.stamp (before_all 0 (filter (is_by client) before) post (filter (is_by client) later) rises).0 (omega arith)
  where
    var_is : post.var ≡ var
    var_is = (bytes_eq-Decides post.var var).0 same

    parts : (list_all (λ post. not (bytes_eq post.var var) || post.source == client) before ≡ true) × (list_all (λ post. not (bytes_eq post.var var) || post.source == client) (post ∷ later) ≡ true)
    parts =
        and_parts (list_all (λ (post : Post). not (bytes_eq post.var var) || post.source == client) before) (list_all (λ (post : Post). not (bytes_eq post.var var) || post.source == client) (post ∷ later))
        (sym (list_all-append (λ (post : Post). not (bytes_eq post.var var) || post.source == client) before (post ∷ later)) ∙ ap (list_all (λ (post : Post). not (bytes_eq post.var var) || post.source == client)) (sym is) ∙ alone)

    sent : (post.source == client) ≡ true
    sent =
        ap (λ own. not own || post.source == client) (sym same)
        ∙ (and_parts (not (bytes_eq post.var var) || post.source == client) (list_all (λ (post : Post). not (bytes_eq post.var var) || post.source == client) later) parts.1).0

    rises : StampsRise 0 (filter (is_by client) before ++ post ∷ filter (is_by client) later)
    rises =
        subst (StampsRise 0)
        (ap (filter (is_by client)) is ∙ filter-append (is_by client) before (post ∷ later) ∙ ap (λ sends. filter (is_by client) before ++ cond sends (post ∷ filter (is_by client) later) (filter (is_by client) later)) sent)
        (rises_alone order script helm names history run lines client other)
