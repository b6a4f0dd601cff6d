-- A bridge leaves out no letter: what is mailed to it a registration of its own selects, which is a rule's; and the variable is one that a
-- line posts, so no rule that selects it makes its name too long.
use Rattle.std.proofs.Common.{◌≡◌, ◌≢◌, ℕ, suc, ◌==◌, ◌⊎◌, ◌&&◌, ◌||◌, Bool, true, false, cond, not, nat_lt, List, [], ◌∷◌, ◌++◌, length, map, filter, find, take, drop, get_or, slice_get, option_map, Option, None, Some, inl, inr, refl, sym, ap, ◌∙◌, subst, eq-eqb, eqb-true, le-leb, ltb-false, ne_eqb}
use Rattle.std.specs.List.{All, list_any}
use Rattle.std.proofs.lemmas.Bool.{and_from, and_parts, cases_eq, false≢true, or_from, or_parts}
use Rattle.std.proofs.lemmas.List.Elements.{All-append, All-cons, All-filter, All-head, All-map, All-nil, All-tail, All-take, All-weaker, filter_passes}
use Rattle.std.proofs.lemmas.List.Folds.{list_any_at, list_any-append}
use Rattle.std.proofs.lemmas.Option.{get_or_from_slice_get, slice_get_within}
use Rattle.moos_bridged.proofs.Entries.{all_entries, all_own, letters_keep, own_entries}
use Rattle.moos_bridged.proofs.Wholes.{carried_all}
use Rattle.moos_bridged.specs.Fronts.{letters_mailed}
use Rattle.moos_bridged.specs.LeftOut.{HasCarriedEach, IsCarried, pair_for}
use Rattle.moos_client.specs.Calls.{entries_of}
use Rattle.moos_db.specs.declared.mail.Letter.{Letter}
use Rattle.moos_db.specs.Database.{letter_of}
use Rattle.moos_mail.proofs.Lists.{list_any-map, none-at}
use Rattle.moos_mail.proofs.Mailed.{once-each}
use Rattle.moos_mail.proofs.Sending.{sent}
use Rattle.moos_mail.specs.Registrations.{catches_up_at, ends, is_alike, is_due_at, is_to_mail, is_wanted_anew, last_of_each, live_at, live_before, live_from, made_at, MadeReg, regs_of, regs_of_call}
use Rattle.moos_mail.specs.Sentences.{is_selected, posts_before}
use Rattle.moos_post.specs.declared.entry.Entry.{Entry}
use Rattle.moos_post.specs.declared.registration.Reg.{Reg}
use Rattle.moos_post.specs.declared.value.Pair.{Pair}
use Rattle.moos_post.specs.declared.value.Post.{Post}
use Rattle.moos_post.specs.Delivery.{is_due, is_latest, mailed_to, Mailing, selects, was_mailed}
use Rattle.moos_post.specs.History.{History, posts_of, posts_of_entry}
use Rattle.moos_post.specs.Patterns.{matches}
use Rattle.moos_share.specs.Bridged.{bridge_number, bridge_opening, fetches_on, IsShared, names_bridged, regs_of_rules}
use Rattle.moos_share.specs.declared.rule.Rule.{Rule}
use Rattle.moos_share.specs.Fetches.{fetch_entry, MailedFetch}
use Rattle.moos_share.specs.LongNames.{is_long_with, makes_long, too_long_line}
use Rattle.moos_share.specs.Renaming.{carried_by, carried_name, renamed}
use Rattle.script_reader.specs.declared.script.Order.{Order}
use Rattle.script_reader.specs.declared.script.Script.{Script}

-- what follows from each element of a list that passes a test follows if one passes it
any_so : {X : Type 0} (P : X → Type 0) (Q : Type 0) (test : X → Bool) (xs : List X) → ((x : X) → P x → test x ≡ true → Q) → All P xs → list_any test xs ≡ true → Q
any_so P Q test [] so all any = absurd (false≢true any)
any_so P Q test (x ∷ xs) so all any = by (test x) refl any (any_so P Q test xs so (All-tail P x xs all))
  where
    by : (b : Bool) → test x ≡ b → (b || list_any test xs) ≡ true → (list_any test xs ≡ true → Q) → Q
    by true passes any rest = so x (All-head P x xs all) passes
    by false fails any rest = rest any

-- the first element that passes a test, and doesn't pass another one that no element passes
record IsFound {X : Type 0} (test other : X → Bool) (xs : List X) : Type 0 where
  one : X
  is : find test xs ≡ Some one
  passes : test one ≡ true
  fails : other one ≡ false

found_one : {X : Type 0} (test other : X → Bool) (xs : List X) → list_any test xs ≡ true → find other xs ≡ None → IsFound test other xs
found_one test other [] any none = absurd (false≢true any)
found_one test other (x ∷ xs) any none = by (other x) refl (test x) refl any none (found_one test other xs)
  where
    by : (o : Bool) → other x ≡ o → (b : Bool) → test x ≡ b → (b || list_any test xs) ≡ true → cond o (Some x) (find other xs) ≡ None → (list_any test xs ≡ true → find other xs ≡ None → IsFound test other xs) → IsFound test other (x ∷ xs)
    by true passes b is any none rest = absurd (let e : Some x ≡ None = none in cc)
    by false fails true is any none rest = record { one = x; is = ap (λ b. cond b (Some x) (find test xs)) is; passes = is; fails = fails }
    by false fails false is any none rest =
        let more = rest any none in
        record { one = more.one; is = ap (λ b. cond b (Some x) (find test xs)) is ∙ more.is; passes = more.passes; fails = more.fails }

none_mapped : {X Y : Type 0} (f : X → Y) (found : Option X) → option_map f found ≡ None → found ≡ None
none_mapped f None none = refl
none_mapped f (Some x) none = absurd (let e : Some (f x) ≡ None = none in cc)

-- no post passes a test just if none of each entry does
none_split : (test : Post → Bool) (entries : History) → list_any test (posts_of entries) ≡ false → All (λ entry. list_any test (posts_of_entry entry) ≡ false) entries
none_split test [] none = All-nil (λ entry. list_any test (posts_of_entry entry) ≡ false)
none_split test (entry ∷ later) none =
    let parts = or_parts (list_any test (posts_of_entry entry)) (list_any test (posts_of later)) (sym (list_any-append test (posts_of_entry entry) (posts_of later)) ∙ none) in
    All-cons (λ entry. list_any test (posts_of_entry entry) ≡ false) entry later parts.0 (none_split test later parts.1)

none_joined : (test : Post → Bool) (entries : History) → All (λ entry. list_any test (posts_of_entry entry) ≡ false) entries → list_any test (posts_of entries) ≡ false
none_joined test [] all = refl
none_joined test (entry ∷ later) all =
    list_any-append test (posts_of_entry entry) (posts_of later)
    ∙ or_from (list_any test (posts_of_entry entry)) (list_any test (posts_of later)) (All-head (λ entry. list_any test (posts_of_entry entry) ≡ false) entry later all)
    (none_joined test later (All-tail (λ entry. list_any test (posts_of_entry entry) ≡ false) entry later all))

-- what all registrations of a client keep, those that are live keep
last_keep : (P : Reg → Type 0) (regs : List Reg) → All P regs → All P (last_of_each regs)
last_keep P [] all = All-nil P
last_keep P (reg ∷ later) all = by (list_any (is_alike reg) later) (last_keep P later (All-tail P reg later all))
  where
    by : (b : Bool) → All P (last_of_each later) → All P (cond b (last_of_each later) (reg ∷ last_of_each later))
    by true rest = rest
    by false rest = All-cons P reg (last_of_each later) (All-head P reg later all) rest

abbrev RegsKeep : (Reg → Type 0) → ℕ → Entry → Type 0
RegsKeep P client entry = All P (regs_of client entry)

live_keep : (P : Reg → Type 0) (client number : ℕ) (entries : History) → All (RegsKeep P client) entries → All (λ (made : MadeReg). P made.reg) (live_from client number entries)
live_keep P client number [] all = All-nil (λ (made : MadeReg). P made.reg)
live_keep P client number (entry ∷ later) all =
    let stays : Reg → Bool = λ reg. not (list_any (ends client reg) later) in
    let kept : List Reg = filter stays (last_of_each (regs_of client entry)) in
    All-append (λ (made : MadeReg). P made.reg) (map (made_at number) kept) (live_from client (suc number) later)
    (All-map (λ (made : MadeReg). P made.reg) (made_at number) kept
    (All-filter stays P (last_of_each (regs_of client entry)) (last_keep P (regs_of client entry) (All-head (RegsKeep P client) entry later all))))
    (live_keep P client (suc number) later (All-tail (RegsKeep P client) entry later all))

-- What follows from each registration of a client that selects a post follows where the post is mailed to the client.
module _ (names : List (List ℕ)) (client : ℕ) (history : History) (post : Post) (Q : Type 0) where
  abbrev Wants : Reg → Type 0
  Wants reg = selects names reg post ≡ true → Q

  abbrev MadeWants : MadeReg → Type 0
  MadeWants made = Wants made.reg

  live_wants : (k : ℕ) → All (RegsKeep Wants client) history → All MadeWants (live_before client history k)
  live_wants k all = live_keep Wants client 0 (take k history) (All-take (RegsKeep Wants client) k history all)

  caught : (n e : ℕ) → All (RegsKeep Wants client) history → catches_up_at names client history e n (Some post) ≡ true → Q
  caught n e all catches =
      let latest = is_latest post (drop (suc n) (posts_of (take e history))) in
      let parts = and_parts (latest && is_wanted_anew names client history e post) (not (was_mailed n (mailed_to names client (take e history)))) catches in
      let anew = (and_parts latest (is_wanted_anew names client history e post) parts.0).1 in
      any_so MadeWants Q (λ made. made.entry == e && selects names made.reg post) (live_before client history (suc e))
      (λ made wants passes. wants (and_parts (made.entry == e) (selects names made.reg post) passes).1) (live_wants (suc e) all) anew

  due : (n e : ℕ) → All (RegsKeep Wants client) history → is_due_at names client history e n (Some post) ≡ true → Q
  due n e all is =
      any_so MadeWants Q (λ made. is_due names post (live_at names client history n made)) (live_before client history e)
      (λ made wants passes. wants (and_parts (selects names made.reg post) _ passes).0) (live_wants e all) is

  wanted : (n e : ℕ) → All (RegsKeep Wants client) history → slice_get (posts_of history) n ≡ Some post → is_to_mail names client history n e ≡ true → Q
  wanted n e all there is = by (nat_lt n (posts_before history e)) (ap (to_mail (nat_lt n (posts_before history e))) (sym there) ∙ is)
    where
      to_mail : Bool → Option Post → Bool
      to_mail earlier found = cond earlier (catches_up_at names client history e n found) (nat_lt n (posts_before history (suc e)) && is_due_at names client history e n found)

      by : (earlier : Bool) → to_mail earlier (Some post) ≡ true → Q
      by true is = caught n e all is
      by false is = due n e all (and_parts (nat_lt n (posts_before history (suc e))) (is_due_at names client history e n (Some post)) is).1

-- each mailing is at an entry at which its post is to be mailed
mailed_so : (names : List (List ℕ)) (client : ℕ) (history : History) → All (λ (one : Mailing). is_to_mail names client history one.number one.entry ≡ true) (mailed_to names client history)
mailed_so names client history k d within =
    sym (sent names client history one.number one.entry ((once-each names client history).made k d within).entry)
    ∙ list_any_at (λ (other : Mailing). other.number == one.number && other.entry == one.entry) (mailed_to names client history) k d within
    (and_from (one.number == one.number) (one.entry == one.entry) (eq-eqb one.number one.number refl) (eq-eqb one.entry one.entry refl))
  where
    one : Mailing
    one = get_or (mailed_to names client history) k d

-- the renaming of letters none of which is left out
renamed_each : (names : List (List ℕ)) (rules : List Rule) (letters : List Letter) → All (IsCarried names rules) letters → map (λ (pair : Pair). Some pair) (renamed names rules letters) ≡ map (pair_for names rules) letters
renamed_each names rules [] all = refl
renamed_each names rules (letter ∷ letters) all =
    ap (λ rule. map (λ (pair : Pair). Some pair) (carried_by letter.post rule ++ renamed names rules letters)) is.first
    ∙ ap (λ b. map (λ (pair : Pair). Some pair) (cond b (pair_by is.rule ∷ []) [] ++ renamed names rules letters)) (le-leb (length (carried_name is.rule letter.post.var)) 64 is.short)
    ∙ ap (λ rest. Some (pair_by is.rule) ∷ rest) (renamed_each names rules letters (All-tail (IsCarried names rules) letter letters all))
    ∙ ap (λ rule. option_map pair_by rule ∷ map (pair_for names rules) letters) (sym is.first)
  where
    is : IsCarried names rules letter
    is = All-head (IsCarried names rules) letter letters all

    pair_by : Rule → Pair
    pair_by rule = record { var = carried_name rule letter.post.var; value = letter.post.value }

module _ (order : Order) (first second : Script) (rules : List Rule) (one two : History) (so : IsShared order first second rules one two) where
  abbrev names : List (List ℕ)
  names = names_bridged first

  abbrev n : ℕ
  n = bridge_number first

  abbrev fetches : List MailedFetch
  fetches = fetches_on first one

  -- the bridge has no registration but those of its rules
  module _ (P : Reg → Type 0) (all : All P (regs_of_rules rules)) where
    abbrev Keeps : Entry → Type 0
    Keeps = RegsKeep P n

    others_keep : (entry : Entry) → entry.client ≢ n → Keeps entry
    others_keep entry other = subst (λ b. All P (cond b (regs_of_call entry.call) [])) (sym (ne_eqb entry.client n other)) (All-nil P)

    opening_keeps : Keeps (bridge_opening first rules)
    opening_keeps = subst (λ b. All P (cond b (regs_of_rules rules) [])) (sym (eq-eqb n n refl)) all

    fetch_keeps : (fetch : MailedFetch) → Keeps (fetch_entry n fetch)
    fetch_keeps fetch = subst (λ b. All P (cond b [] [])) (sym (eq-eqb n n refl)) (All-nil P)

    regs_keep : All Keeps one
    regs_keep = all_entries Keeps one (λ client. by client (cases_eq client n))
      where
        by : (client : ℕ) → (client ≡ n) ⊎ (client ≢ n) → All Keeps (entries_of client one)
        by client (inl same) =
            subst (λ m. All Keeps (entries_of m one)) (sym same)
            (subst (All Keeps) (sym (own_entries order first second rules one two so.bridged))
            (All-cons Keeps (bridge_opening first rules) (map (fetch_entry n) fetches) opening_keeps
            (All-map Keeps (fetch_entry n) fetches (λ k d within. fetch_keeps (get_or fetches k d)))))
        by client (inr other) =
            All-weaker (λ entry. entry.client == client ≡ true) Keeps (λ entry is. others_keep entry (λ same. other (sym (eqb-true entry.client client is) ∙ same)))
            (entries_of client one) (filter_passes (λ entry. entry.client == client) one)

  -- and nobody posts a variable there but those that the lines post
  short_there : (rule : Rule) → makes_long first.lines rule ≡ false → makes_long one rule ≡ false
  short_there rule none =
      none_joined (λ post. is_long_with rule post.var) one
      (all_own Posts first one so.first_lines (none_split (λ post. is_long_with rule post.var) first.lines none)
      (subst (All Posts) (sym (own_entries order first second rules one two so.bridged))
      (All-cons Posts (bridge_opening first rules) (map (fetch_entry n) fetches) refl (All-map Posts (fetch_entry n) fetches (λ k d within. refl)))))
    where
      Posts : Entry → Type 0
      Posts entry = list_any (λ post. is_long_with rule post.var) (posts_of_entry entry) ≡ false

  selected : (m e : ℕ) (post : Post) → slice_get (posts_of one) m ≡ Some post → is_to_mail names n one m e ≡ true → list_any (λ (rule : Rule). selects names rule.reg post) rules ≡ true
  selected m e post there is =
      sym (list_any-map (λ (reg : Reg). selects names reg post) (λ (rule : Rule). rule.reg) rules)
      ∙ wanted names n one post (is_selected names (regs_of_rules rules) post ≡ true) m e
      (regs_keep (Wants names n one post (is_selected names (regs_of_rules rules) post ≡ true)) (λ k d within passes. list_any_at (λ (reg : Reg). selects names reg post) (regs_of_rules rules) k d within passes))
      there is

  carried_letter : (m e : ℕ) (post : Post) → too_long_line rules first.lines ≡ None → slice_get (posts_of one) m ≡ Some post → is_to_mail names n one m e ≡ true → IsCarried names rules (letter_of m post)
  carried_letter m e post none there is =
      let found : IsFound (λ (rule : Rule). selects names rule.reg post) (makes_long first.lines) rules
      = found_one (λ (rule : Rule). selects names rule.reg post) (makes_long first.lines) rules (selected m e post there is) (none_mapped (λ (rule : Rule). rule.line) (find (makes_long first.lines) rules) none) in
      let long = nat_lt 64 (length (carried_name found.one post.var)) in
      let matched : matches found.one.reg.var post.var ≡ true = (and_parts (matches found.one.reg.var post.var) _ found.passes).0 in
      let not_long : is_long_with found.one post.var ≡ false
      = ap (λ (post : Post). is_long_with found.one post.var) (sym (get_or_from_slice_get (posts_of one) m post post there))
      ∙ none-at (λ (post : Post). is_long_with found.one post.var) (posts_of one) m post (short_there found.one found.fails) (slice_get_within (posts_of one) m post there) in
      record { rule = found.one; first = found.is; short = ltb-false 64 (length (carried_name found.one post.var)) (ap (λ b. b && long) (sym matched) ∙ not_long) }

pub none_left : (order : Order) (first second : Script) (rules : List Rule) (one two : History) → IsShared order first second rules one two → too_long_line rules first.lines ≡ None
    → All (IsCarried (names_bridged first) rules) (letters_mailed (names_bridged first) (bridge_number first) one)
none_left order first second rules one two so none =
    letters_keep (IsCarried names rules) (posts_of one) (map (λ (one : Mailing). one.number) mailed)
    (All-map (λ m. (post : Post) → slice_get (posts_of one) m ≡ Some post → IsCarried names rules (letter_of m post)) (λ (one : Mailing). one.number) mailed
    (λ k d within post there. carried_letter order first second rules one two so (get_or mailed k d).number (get_or mailed k d).entry post none there (mailed_so names (bridge_number first) one k d within)))
  where
    names : List (List ℕ)
    names = names_bridged first

    mailed : List Mailing
    mailed = mailed_to names (bridge_number first) one

pub carried_each : (order : Order) (first second : Script) (rules : List Rule) (one two : History) → IsShared order first second rules one two → too_long_line rules first.lines ≡ None
    → HasCarriedEach first second rules one two
carried_each order first second rules one two so none =
    ap (map (λ (pair : Pair). Some pair)) (carried_all order first second rules one two so)
    ∙ renamed_each (names_bridged first) rules (letters_mailed (names_bridged first) (bridge_number first) one) (none_left order first second rules one two so none)
