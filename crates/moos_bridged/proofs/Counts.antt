-- How many posts a history has, and how many of them a bridge can carry at once.
use Rattle.std.proofs.Common.{◌≡◌, ◌≢◌, ℕ, zero, suc, ◌+◌, ◌*◌, ◌<◌, ◌≤◌, ◌==◌, ◌||◌, Bool, true, false, cond, nat_le, nat_lt, filter, List, [], ◌∷◌, length, length-append, map, Option, None, Some, refl, sym, ap, ◌∙◌, arith}
use Rattle.std.specs.Prelude.{option_map, option_to_list, slice_get}
use Rattle.std.specs.List.{All, AllPairs, list_any}
use Rattle.std.proofs.lemmas.Bool.{and_parts, eqb-false, eqb-true, le-ltb, leb-true, lt-ltb, ltb-false, ltb-true}
use Rattle.std.proofs.lemmas.Bool.Decides.{Decides-eqb}
use Rattle.std.proofs.lemmas.List.{length-map}
use Rattle.std.proofs.lemmas.List.Elements.{All-head, All-map, All-tail}
use Rattle.std.proofs.lemmas.List.Kept.{AllPairs-cons, AllPairs-filter}
use Rattle.std.proofs.lemmas.Map.Made.{IsDistinct-from_AllPairs}
use Rattle.std.proofs.lemmas.Map.Steps.{length-le_from_distinct_below}
use Rattle.moos_client.specs.Calls.{entries_of}
use Rattle.moos_db.specs.declared.mail.Letter.{Letter}
use Rattle.moos_db.specs.Database.{letter_of, letters_at}
use Rattle.moos_mail.proofs.Orderly.{settled-inbox_of}
use Rattle.moos_post.specs.declared.entry.Call.{Call}
use Rattle.moos_post.specs.declared.entry.Call.TheVariants.{Register, Unregister, Post as Posts, Fetch}
use Rattle.moos_post.specs.declared.entry.Entry.{Entry}
use Rattle.moos_post.specs.declared.value.Pair.{Pair}
use Rattle.moos_post.specs.declared.value.Post.{Post}
use Rattle.moos_post.specs.Delivery.{Inbox, inbox_of, mail_after, Mailing}
use Rattle.moos_post.specs.History.{History, post_of, posts_of, posts_of_call, posts_of_entry}
use Rattle.moos_bridged.proofs.Mailed.{waiting_there}
use Rattle.moos_share.specs.declared.rule.Rule.{Rule}
use Rattle.moos_share.specs.Renaming.{carried_by, carried_name, renamed, rule_for}
use Rattle.script_reader.proofs.Sound.{line_tests}
use Rattle.script_reader.specs.Validity.{are_lines, keeps_limits}

-- the posts of the clients below a number, client by client
abbrev posts_below : ℕ → History → ℕ
posts_below zero history = 0
posts_below (suc client) history = posts_below client history + length (posts_of (entries_of client history))

-- the posts of an entry whose client is below the number
abbrev own_posts : ℕ → Entry → ℕ
own_posts clients entry = cond (nat_lt entry.client clients) (length (posts_of_entry entry)) 0

below_next : (clients : ℕ) (entry : Entry) (later : History) → posts_below clients (entry ∷ later) ≡ own_posts clients entry + posts_below clients later
below_next zero entry later = ap (λ b. cond b (length (posts_of_entry entry)) 0 + 0) (sym (le-ltb entry.client 0 (omega arith)))
below_next (suc client) entry later = by (entry.client == client) refl (below_next client entry later)
  where
    count : ℕ
    count = length (posts_of_entry entry)

    others : List Entry
    others = entries_of client later

    some : (clients : ℕ) (b : Bool) → nat_lt entry.client clients ≡ b → own_posts clients entry ≡ cond b count 0
    some clients b is = ap (λ b. cond b count 0) is

    by : (own : Bool) → entry.client == client ≡ own → posts_below client (entry ∷ later) ≡ own_posts client entry + posts_below client later
        → posts_below client (entry ∷ later) + length (posts_of (cond own (entry ∷ others) others)) ≡ own_posts (suc client) entry + (posts_below client later + length (posts_of others))
    by true is next =
        let same = eqb-true entry.client client is in
        let before = some client false (le-ltb entry.client client (omega (arith, same))) in
        let now = some (suc client) true (lt-ltb entry.client (suc client) (omega (arith, same))) in
        let here = length-append (posts_of_entry entry) (posts_of others) in
        omega (arith, next, before, now, here)
    by false is next = let same = alike (nat_lt entry.client client) refl in omega (arith, next, same)
      where
        other : entry.client ≢ client
        other = eqb-false entry.client client is

        alike : (b : Bool) → nat_lt entry.client client ≡ b → own_posts (suc client) entry ≡ own_posts client entry
        alike true e = some (suc client) true (lt-ltb entry.client (suc client) (let less = ltb-true entry.client client e in omega (arith, less))) ∙ sym (some client true e)
        alike false e = some (suc client) false (le-ltb entry.client (suc client) (let more = ltb-false entry.client client e in omega (arith, more, other))) ∙ sym (some client false e)

-- all posts are of the clients below a number that all clients are below
below_all : (clients : ℕ) (history : History) → All (λ entry. entry.client < clients) history → posts_below clients history ≡ length (posts_of history)
below_all clients [] all = none clients
  where
    none : (clients : ℕ) → posts_below clients [] ≡ 0
    none zero = refl
    none (suc client) = omega (arith, none client)
below_all clients (entry ∷ later) all =
    let next = below_next clients entry later in
    let here : own_posts clients entry ≡ length (posts_of_entry entry) = ap (λ b. cond b (length (posts_of_entry entry)) 0) (lt-ltb entry.client clients (All-head (λ entry. entry.client < clients) entry later all)) in
    let rest = below_all clients later (All-tail (λ entry. entry.client < clients) entry later all) in
    let both = length-append (posts_of_entry entry) (posts_of later) in
    omega (arith, next, here, rest, both)

below_fewer : (clients : ℕ) (one two : History) → ((client : ℕ) → length (posts_of (entries_of client one)) ≤ length (posts_of (entries_of client two))) → posts_below clients one ≤ posts_below clients two
below_fewer zero one two each = omega arith
below_fewer (suc client) one two each = let rest = below_fewer client one two each in let here = each client in omega (arith, rest, here)

-- a history has no more posts than another where each client has no more
pub posts_fewer : (clients : ℕ) (one two : History) → All (λ entry. entry.client < clients) one → All (λ entry. entry.client < clients) two
    → ((client : ℕ) → length (posts_of (entries_of client one)) ≤ length (posts_of (entries_of client two))) → length (posts_of one) ≤ length (posts_of two)
posts_fewer clients one two first second each =
    let front = below_all clients one first in
    let back = below_all clients two second in
    let fewer = below_fewer clients one two each in
    omega (arith, front, back, fewer)

-- a line has at most 64 posts
line_few : (stamp client : ℕ) (call : Call) → keeps_limits call ≡ true → length (posts_of_call stamp client call) ≤ 64
line_few stamp client (Register regs) limits = omega arith
line_few stamp client (Unregister var source) limits = omega arith
line_few stamp client (Posts batch) limits =
    let few = leb-true (length batch) 64 (and_parts (nat_lt 0 (length batch)) (nat_le (length batch) 64) limits).1 in
    let same = length-map batch (post_of stamp client) in
    omega (arith, few, same)
line_few stamp client Fetch limits = omega arith

pub lines_few : (clients last stop : ℕ) (lines : List Entry) → are_lines clients last stop lines ≡ true → length (posts_of lines) ≤ 64 * length lines
lines_few clients last stop [] valid = omega arith
lines_few clients last stop (line ∷ lines) valid =
    let tests = line_tests (nat_lt line.client clients) (nat_le last line.stamp) (keeps_limits line.call) (are_lines clients line.stamp stop lines) valid in
    let here = line_few line.stamp line.client line.call tests.2 in
    let rest = lines_few clients line.stamp stop lines tests.3 in
    let both = length-append (posts_of_entry line) (posts_of lines) in
    omega (arith, here, rest, both)

-- a fetch gives no more letters than there are posts, since it gives none twice
mail_few : (names : List (List ℕ)) (client : ℕ) (history : History) → length (mail_after names client history) ≤ length (posts_of history)
mail_few names client history = length-le_from_distinct_below (numbers kept) (length (posts_of history)) (IsDistinct-from_AllPairs Decides-eqb (numbers kept) (apart kept once)) (among (numbers kept) (waiting_there names client history))
  where
    inbox : Inbox
    inbox = inbox_of names client history

    kept : List Mailing
    kept = filter (λ one. nat_le inbox.fetched one.entry) inbox.mailed

    numbers : List Mailing → List ℕ
    numbers mailed = map (λ (one : Mailing). one.number) mailed

    once : AllPairs (λ (one later : Mailing). one.number ≢ later.number) kept
    once = AllPairs-filter (λ (one later : Mailing). one.number ≢ later.number) (λ one. nat_le inbox.fetched one.entry) inbox.mailed (settled-inbox_of names client history).orderly.once

    apart : (mailed : List Mailing) → AllPairs (λ (one later : Mailing). one.number ≢ later.number) mailed → AllPairs (λ one later. one ≢ later) (numbers mailed)
    apart [] differ = λ i j d less within. absurd (omega (arith, within))
    apart (one ∷ mailed) differ =
        AllPairs-cons (λ one later. one ≢ later) one.number (numbers mailed)
        (All-map (λ later. one.number ≢ later) (λ (later : Mailing). later.number) mailed (λ k d within. differ 0 (suc k) d (omega arith) (omega arith)))
        (apart mailed (λ i j d less within. differ (suc i) (suc j) d (omega arith) (omega arith)))

    among : (some : List ℕ) → All (λ n. n < length (posts_of history)) some → (q : ℕ) → list_any (λ n. q == n) some ≡ true → q < length (posts_of history)
    among [] below q there = absurd cc
    among (n ∷ some) below q there = by (q == n) refl there (among some (All-tail (λ n. n < length (posts_of history)) n some below) q)
      where
        by : (same : Bool) → q == n ≡ same → (same || list_any (λ n. q == n) some) ≡ true → (list_any (λ n. q == n) some ≡ true → q < length (posts_of history)) → q < length (posts_of history)
        by true is there rest = let equal = eqb-true q n is in let first = All-head (λ n. n < length (posts_of history)) n some below in omega (arith, equal, first)
        by false is there rest = rest there

letters_few : (posts : List Post) (numbers : List ℕ) → length (letters_at posts numbers) ≤ length numbers
letters_few posts [] = omega arith
letters_few posts (n ∷ numbers) =
    let first : List Letter = option_to_list (option_map (letter_of n) (slice_get posts n)) in
    let both = length-append first (letters_at posts numbers) in
    let here : length first ≤ 1 = one (option_map (letter_of n) (slice_get posts n)) in
    let rest = letters_few posts numbers in
    omega (arith, both, here, rest)
  where
    one : (letter : Option Letter) → length (option_to_list letter) ≤ 1
    one None = omega arith
    one (Some letter) = omega arith

-- and the bridge posts no more than it fetched
renamed_few : (names : List (List ℕ)) (rules : List Rule) (letters : List Letter) → length (renamed names rules letters) ≤ length letters
renamed_few names rules [] = omega arith
renamed_few names rules (letter ∷ letters) =
    let both = length-append (carried_by letter.post (rule_for names rules letter.post)) (renamed names rules letters) in
    let here = one letter.post (rule_for names rules letter.post) in
    let rest = renamed_few names rules letters in
    omega (arith, both, here, rest)
  where
    one : (post : Post) (rule : Option Rule) → length (carried_by post rule) ≤ 1
    one post None = omega arith
    one post (Some rule) = by (nat_le (length (carried_name rule post.var)) 64)
      where
        by : (b : Bool) → length {A = Pair} (cond b (record { var = carried_name rule post.var; value = post.value } ∷ []) []) ≤ 1
        by true = omega arith
        by false = omega arith

pub carried_few : (names : List (List ℕ)) (rules : List Rule) (client : ℕ) (history : History) → length (renamed names rules (letters_at (posts_of history) (mail_after names client history))) ≤ length (posts_of history)
carried_few names rules client history =
    let mail = mail_few names client history in
    let letters = letters_few (posts_of history) (mail_after names client history) in
    let posts = renamed_few names rules (letters_at (posts_of history) (mail_after names client history)) in
    omega (arith, mail, letters, posts)
