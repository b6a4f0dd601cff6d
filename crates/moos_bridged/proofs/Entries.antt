-- The entries of two communities with a bridge are as their parts let them be, and by their clients.
use Rattle.std.proofs.Common.{◌≡◌, ◌≢◌, ℕ, suc, ◌*◌, ◌<◌, ◌≤◌, ◌^◌, ◌==◌, ◌⊎◌, ◌&&◌, ◌||◌, Bool, true, false, cond, nat_le, nat_lt, max, List, [], ◌∷◌, ◌++◌, append_assoc, length, length-append, codes, map, Option, None, Some, inl, inr, refl, sym, ap, ◌∙◌, subst, arith, eq-eqb}
use Rattle.std.specs.Prelude.{get_or, IfSome, IsTrue, option_map, option_to_list, slice_get}
use Rattle.std.specs.List.{All, list_all}
use Rattle.std.proofs.lemmas.Bool.{and_from, and_parts, cases_eq, eqb-true, ltb-true}
use Rattle.std.proofs.lemmas.Grind.{flat_map-append}
use Rattle.std.proofs.lemmas.List.Elements.{All-append, All-cons, All-filter, All-head, All-map, All-nil, All-tail, All-weaker, filter_passes}
use Rattle.std.proofs.lemmas.List.Folds.{list_all-append}
use Rattle.std.proofs.lemmas.List.Sums.{AllPass-from_list_all}
use Rattle.std.proofs.lemmas.Option.{get_or_from_slice_get, slice_get_within}
use Rattle.moos_client.specs.Calls.{entries_of}
use Rattle.moos_db.specs.declared.mail.Letter.{Letter}
use Rattle.moos_db.specs.Database.{letter_of, letters_after, letters_at, pair_posted}
use Rattle.moos_post.specs.declared.entry.Call.{Call}
use Rattle.moos_post.specs.declared.entry.Call.TheVariants.{Register, Unregister, Post as Posts, Fetch}
use Rattle.moos_post.specs.declared.entry.Entry.{Entry}
use Rattle.moos_post.specs.declared.value.Pair.{Pair}
use Rattle.moos_post.specs.declared.value.Post.{Post}
use Rattle.moos_post.specs.Delivery.{is_fetch, mail_after, selects}
use Rattle.moos_post.specs.Entries.{IsCall, IsEntry, IsPair, IsReg}
use Rattle.moos_post.specs.History.{History, post_of, posts_of, posts_of_call, posts_of_entry}
use Rattle.moos_post.specs.Words.{begins_name, is_name, is_name_byte}
use Rattle.moos_bridged.proofs.Counts.{carried_few, lines_few, posts_fewer}
use Rattle.moos_bridged.proofs.Lines.{lines_below}
use Rattle.moos_bridged.specs.Entries.{AreEntries}
use Rattle.moos_share.specs.Bridged.{bridge_number, bridge_opening, fetches_on, has_stamp, HasOwnLines, IsBridged, IsShared, KeepsBridge, names_bridged, shared_entry}
use Rattle.moos_share.specs.declared.rule.Rule.{Rule}
use Rattle.moos_share.specs.Fetches.{fetch_entry, fetches_in, MailedFetch}
use Rattle.moos_share.specs.Renaming.{carried_by, carried_name, prefix_bytes, renamed, rule_for}
use Rattle.moos_share.specs.Validity.{IsRule}
use Rattle.script_reader.specs.declared.script.Order.{Order}
use Rattle.script_reader.specs.declared.script.Order.TheVariants.{Race, Stamp}
use Rattle.script_reader.specs.declared.script.Script.{Script}
use Rattle.script_reader.specs.Validity.{IsValid}

-- what holds of each client's entries holds of all
pub all_entries : (P : Entry → Type 0) (history : History) → ((client : ℕ) → All P (entries_of client history)) → All P history
all_entries P [] each = All-nil P
all_entries P (entry ∷ later) each = All-cons P entry later first (all_entries P later (λ client. rest client (entry.client == client) (each client)))
  where
    first : P entry
    first = All-head P entry (entries_of entry.client later) (subst (λ b. All P (cond b (entry ∷ entries_of entry.client later) (entries_of entry.client later))) (eq-eqb entry.client entry.client refl) (each entry.client))

    rest : (client : ℕ) (own : Bool) → All P (cond own (entry ∷ entries_of client later) (entries_of client later)) → All P (entries_of client later)
    rest client true all = All-tail P entry (entries_of client later) all
    rest client false all = all

-- what holds of a script's lines and of the bridge's entries holds of all
pub all_own : (P : Entry → Type 0) (script : Script) (history : History) → HasOwnLines script history → All P script.lines → All P (entries_of (bridge_number script) history) → All P history
all_own P script history own lines bridge = all_entries P history (λ client. by client (cases_eq client (bridge_number script)))
  where
    by : (client : ℕ) → (client ≡ bridge_number script) ⊎ (client ≢ bridge_number script) → All P (entries_of client history)
    by client (inl same) = subst (λ n. All P (entries_of n history)) (sym same) bridge
    by client (inr other) = subst (All P) (sym (own client other)) (All-filter (λ entry. entry.client == client) P script.lines lines)

abbrev IsBelow : ℕ → Entry → Type 0
IsBelow clients entry = entry.client < clients

-- the clients of both are the script's and the bridge
module _ (script : Script) (valid : IsValid script) where
  clients_more : length (names_bridged script) ≡ suc (length script.names)
  clients_more = omega (arith, length-append script.names (codes "pShare" ∷ []))

  pub lines_by : All (IsBelow (length (names_bridged script))) script.lines
  lines_by =
      All-weaker (λ line. nat_lt line.client (length script.names) ≡ true) (IsBelow (length (names_bridged script)))
      (λ line below. let less = ltb-true line.client (length script.names) below in omega (arith, less, clients_more)) script.lines
      (AllPass-from_list_all (λ line. nat_lt line.client (length script.names)) script.lines (lines_below (length script.names) 0 script.stop script.lines valid.lines))

  pub clients_are : (history : History) → HasOwnLines script history → All (IsBelow (length (names_bridged script))) history
  clients_are history own =
      all_own (IsBelow (length (names_bridged script))) script history own lines_by
      (All-weaker (λ entry. entry.client == bridge_number script ≡ true) (IsBelow (length (names_bridged script)))
      (λ entry is. let same = eqb-true entry.client (bridge_number script) is in omega (arith, same, clients_more)) (entries_of (bridge_number script) history)
      (filter_passes (λ entry. entry.client == bridge_number script) history))

-- a post whose parts are as its type lets them be
abbrev IsPosted : Post → Type 0
IsPosted post = IsPair (pair_posted post)

posted : (history : History) → All IsEntry history → All IsPosted (posts_of history)
posted [] all = All-nil IsPosted
posted (entry ∷ later) all =
    All-append IsPosted (posts_of_entry entry) (posts_of later) (by entry.stamp entry.client entry.call (All-head IsEntry entry later all).call) (posted later (All-tail IsEntry entry later all))
  where
    by : (stamp client : ℕ) (call : Call) → IsCall call → All IsPosted (posts_of_call stamp client call)
    by stamp client (Register regs) is = All-nil IsPosted
    by stamp client (Unregister var source) is = All-nil IsPosted
    by stamp client (Posts batch) is = All-map IsPosted (post_of stamp client) batch is.1
    by stamp client Fetch is = All-nil IsPosted

front_all : (P : Entry → Type 0) (front rest : History) → All P (front ++ rest) → All P front
front_all P [] rest all = All-nil P
front_all P (entry ∷ front) rest all = All-cons P entry front (All-head P entry (front ++ rest) all) (front_all P front rest (All-tail P entry (front ++ rest) all))

-- what holds of the letters of posts that are there holds of the letters with these numbers
pub letters_keep : (P : Letter → Type 0) (posts : List Post) (numbers : List ℕ) → All (λ n. (post : Post) → slice_get posts n ≡ Some post → P (letter_of n post)) numbers → All P (letters_at posts numbers)
letters_keep P posts [] all = All-nil P
letters_keep P posts (n ∷ numbers) all =
    All-append P (option_to_list (option_map (letter_of n) (slice_get posts n))) (letters_at posts numbers) (by (slice_get posts n) refl) (letters_keep P posts numbers (All-tail Keeps n numbers all))
  where
    Keeps : ℕ → Type 0
    Keeps n = (post : Post) → slice_get posts n ≡ Some post → P (letter_of n post)

    by : (post : Option Post) → slice_get posts n ≡ post → All P (option_to_list (option_map (letter_of n) post))
    by None there = All-nil P
    by (Some post) there = All-cons P (letter_of n post) [] (All-head Keeps n numbers all post there) (All-nil P)

-- so are the letters of a fetch
letters_posted : (posts : List Post) (numbers : List ℕ) → All IsPosted posts → All (λ (letter : Letter). IsPosted letter.post) (letters_at posts numbers)
letters_posted posts numbers all =
    letters_keep (λ (letter : Letter). IsPosted letter.post) posts numbers
    (λ k d within. (let n = get_or numbers k d in λ post there. subst IsPosted (get_or_from_slice_get posts n post post there) (all n post (slice_get_within posts n post there))))

-- a name with a prefix before it is a name, unless it is too long
name_bytes : (name : List ℕ) → is_name name ≡ true → list_all is_name_byte name ≡ true
name_bytes [] is = absurd cc
name_bytes (first ∷ rest) is = (and_parts (begins_name first) (list_all is_name_byte (first ∷ rest)) (and_parts (begins_name first && list_all is_name_byte (first ∷ rest)) (nat_le (length (first ∷ rest)) 64) is).0).1

name_carried : (prefix : Option (List ℕ)) (var : List ℕ) → IfSome prefix (λ prefix. IsTrue (is_name prefix && nat_le (length prefix) 32)) → is_name var ≡ true → nat_le (length (prefix_bytes prefix ++ var)) 64 ≡ true → is_name (prefix_bytes prefix ++ var) ≡ true
name_carried None var named is short = is
name_carried (Some []) var named is short = absurd cc
name_carried (Some (first ∷ rest)) var named is short =
    let name = (and_parts (is_name (first ∷ rest)) (nat_le (length (first ∷ rest)) 32) named).0 in
    let front = and_parts (begins_name first) (list_all is_name_byte (first ∷ rest)) (and_parts (begins_name first && list_all is_name_byte (first ∷ rest)) (nat_le (length (first ∷ rest)) 64) name).0 in
    and_from (begins_name first && list_all is_name_byte (first ∷ rest ++ var)) (nat_le (length (first ∷ rest ++ var)) 64)
    (and_from (begins_name first) (list_all is_name_byte (first ∷ rest ++ var)) front.0
    (list_all-append is_name_byte (first ∷ rest) var ∙ and_from (list_all is_name_byte (first ∷ rest)) (list_all is_name_byte var) front.1 (name_bytes var is)))
    short

-- what the bridge posts of letters
rule_found : (names : List (List ℕ)) (rules : List Rule) (post : Post) → All IsRule rules → IfSome (rule_for names rules post) IsRule
rule_found names [] post good = tt
rule_found names (rule ∷ rules) post good = by (selects names rule.reg post) (rule_found names rules post (All-tail IsRule rule rules good))
  where
    by : (b : Bool) → IfSome (rule_for names rules post) IsRule → IfSome (cond b (Some rule) (rule_for names rules post)) IsRule
    by true rest = All-head IsRule rule rules good
    by false rest = rest

pair_carried : (post : Post) (rule : Option Rule) → IfSome rule IsRule → IsPosted post → All IsPair (carried_by post rule)
pair_carried post None is pair = All-nil IsPair
pair_carried post (Some rule) is pair = by (nat_le (length (carried_name rule post.var)) 64) refl
  where
    carried : Pair
    carried = record { var = carried_name rule post.var; value = post.value }

    by : (b : Bool) → nat_le (length (carried_name rule post.var)) 64 ≡ b → All IsPair (cond b (carried ∷ []) [])
    by true short = All-cons IsPair carried [] (record { var = name_carried rule.prefix post.var is.prefix pair.var short; value = pair.value }) (All-nil IsPair)
    by false long = All-nil IsPair

pairs_carried : (names : List (List ℕ)) (rules : List Rule) (letters : List Letter) → All IsRule rules → All (λ (letter : Letter). IsPosted letter.post) letters → All IsPair (renamed names rules letters)
pairs_carried names rules [] good all = All-nil IsPair
pairs_carried names rules (letter ∷ letters) good all =
    All-append IsPair (carried_by letter.post (rule_for names rules letter.post)) (renamed names rules letters)
    (pair_carried letter.post (rule_for names rules letter.post) (rule_found names rules letter.post good) (All-head (λ (letter : Letter). IsPosted letter.post) letter letters all))
    (pairs_carried names rules letters good (All-tail (λ (letter : Letter). IsPosted letter.post) letter letters all))

-- the mail of a fetch is that behind some front of the history
record HasMail (names : List (List ℕ)) (client : ℕ) (history : History) (one : MailedFetch) : Type 0 where
  before : History
  behind : History
  whole : history ≡ before ++ behind
  mail : one.mail ≡ letters_after names client before

fetches_mail : (names : List (List ℕ)) (client : ℕ) (past later : History) → All (HasMail names client (past ++ later)) (fetches_in names client past later)
fetches_mail names client past [] = All-nil (HasMail names client (past ++ []))
fetches_mail names client past (entry ∷ later) =
    by (entry.client == client && is_fetch entry.call)
    (subst (λ history. All (HasMail names client history) (fetches_in names client (past ++ entry ∷ []) later)) (append_assoc past (entry ∷ []) later) (fetches_mail names client (past ++ entry ∷ []) later))
  where
    one : MailedFetch
    one = record { stamp = entry.stamp; mail = letters_after names client past }

    by : (b : Bool) → All (HasMail names client (past ++ entry ∷ later)) (fetches_in names client (past ++ entry ∷ []) later)
        → All (HasMail names client (past ++ entry ∷ later)) (cond b (one ∷ fetches_in names client (past ++ entry ∷ []) later) (fetches_in names client (past ++ entry ∷ []) later))
    by true rest = All-cons (HasMail names client (past ++ entry ∷ later)) one (fetches_in names client (past ++ entry ∷ []) later) (record { before = past; behind = entry ∷ later; whole = refl; mail = refl }) rest
    by false rest = rest

-- the stamps of the bridge's fetches are those of lines, or the greater one of both ends
abbrev IsEarly : ℕ → Type 0
IsEarly stamp = stamp < 2 ^ 64

line_early : (stamp : ℕ) (lines : List Entry) → All IsEntry lines → has_stamp stamp lines ≡ true → IsEarly stamp
line_early stamp [] all there = absurd cc
line_early stamp (line ∷ lines) all there = by (line.stamp == stamp) refl there (line_early stamp lines (All-tail IsEntry line lines all))
  where
    by : (same : Bool) → line.stamp == stamp ≡ same → (same || has_stamp stamp lines) ≡ true → (has_stamp stamp lines ≡ true → IsEarly stamp) → IsEarly stamp
    by true is there rest = subst IsEarly (eqb-true line.stamp stamp is) (All-head IsEntry line lines all).stamp
    by false is there rest = rest there

map_back : {X Y : Type 0} (P : Y → Type 0) (f : X → Y) (xs : List X) → All P (map f xs) → All (λ x. P (f x)) xs
map_back P f [] all = All-nil (λ x. P (f x))
map_back P f (x ∷ xs) all = All-cons (λ x. P (f x)) x xs (All-head P (f x) (map f xs) all) (map_back P f xs (All-tail P (f x) (map f xs) all))

stamps_early : (order : Order) (first second : Script) (rules : List Rule) (one rest two : History) → IsValid first → IsValid second → KeepsBridge order first second rules one rest two
    → All (λ (one : MailedFetch). IsEarly one.stamp) (fetches_on first one)
stamps_early Stamp first second rules one rest two valid also keeps =
    map_back IsEarly (λ (fetch : MailedFetch). fetch.stamp) (fetches_on first one)
    (All-weaker (λ stamp. (has_stamp stamp first.lines || has_stamp stamp second.lines) ≡ true) IsEarly (λ stamp there. by stamp (has_stamp stamp first.lines) refl there) (map (λ (fetch : MailedFetch). fetch.stamp) (fetches_on first one))
    (AllPass-from_list_all (λ stamp. has_stamp stamp first.lines || has_stamp stamp second.lines) (map (λ (fetch : MailedFetch). fetch.stamp) (fetches_on first one)) keeps.stamps.each))
  where
    by : (stamp : ℕ) (here : Bool) → has_stamp stamp first.lines ≡ here → (here || has_stamp stamp second.lines) ≡ true → IsEarly stamp
    by stamp true is there = line_early stamp first.lines valid.entries is
    by stamp false is there = line_early stamp second.lines also.entries there
stamps_early Race first second rules one rest two valid also keeps =
    map_back IsEarly (λ (fetch : MailedFetch). fetch.stamp) (fetches_on first one)
    (subst (All IsEarly) (sym keeps.stamps)
    (All-append IsEarly (map (λ (line : Entry). line.stamp) first.lines) (max first.stop second.stop ∷ [])
    (All-map IsEarly (λ (line : Entry). line.stamp) first.lines (All-weaker IsEntry (λ (line : Entry). IsEarly line.stamp) (λ line is. is.stamp) first.lines valid.entries))
    (All-cons IsEarly (max first.stop second.stop) [] (omega (arith, valid.early, also.early)) (All-nil IsEarly))))

-- the bridge's entries in the first community
pub own_entries : (order : Order) (first second : Script) (rules : List Rule) (one two : History) → IsBridged order first second rules one two
    → entries_of (bridge_number first) one ≡ bridge_opening first rules ∷ map (fetch_entry (bridge_number first)) (fetches_on first one)
own_entries order first second rules one two bridged =
    ap (entries_of n) bridged.opened ∙ ap (λ b. cond b (bridge_opening first rules ∷ entries_of n bridged.rest) (entries_of n bridged.rest)) (eq-eqb n n refl)
    ∙ ap (λ entries. bridge_opening first rules ∷ entries) bridged.fetched
  where
    n : ℕ
    n = bridge_number first

module _ (order : Order) (first second : Script) (rules : List Rule) (one two : History) (valid : IsValid first) (also : IsValid second) (good : All IsRule rules) (so : IsShared order first second rules one two) where
  abbrev names : List (List ℕ)
  names = names_bridged first

  abbrev n : ℕ
  n = bridge_number first

  abbrev fetches : List MailedFetch
  fetches = fetches_on first one

  abbrev opening : Entry
  opening = bridge_opening first rules

  stamps : All (λ (one : MailedFetch). IsEarly one.stamp) fetches
  stamps = stamps_early order first second rules one so.bridged.rest two valid also so.bridged.ordered

  entries_first : All IsEntry one
  entries_first =
      all_own IsEntry first one so.first_lines valid.entries
      (subst (All IsEntry) (sym (own_entries order first second rules one two so.bridged))
      (All-cons IsEntry opening (map (fetch_entry n) fetches)
      (record { stamp = omega arith; call = All-map IsReg (λ (rule : Rule). rule.reg) rules (All-weaker IsRule (λ (rule : Rule). IsReg rule.reg) (λ rule is. is.reg) rules good) })
      (All-map IsEntry (fetch_entry n) fetches (All-weaker (λ (one : MailedFetch). IsEarly one.stamp) (λ one. IsEntry (fetch_entry n one)) (λ one early. record { stamp = early; call = tt }) fetches stamps))))

  -- the first community's posts are its lines'
  posts_few : length (posts_of one) ≤ 64 * length first.lines
  posts_few =
      let fewer = posts_fewer (length names) one first.lines (clients_are first valid one so.first_lines) (lines_by first valid) each in
      let few = lines_few (length first.names) 0 first.stop first.lines valid.lines in
      omega (arith, fewer, few)
    where
      silent : (some : List MailedFetch) → posts_of (map (fetch_entry n) some) ≡ []
      silent [] = refl
      silent (one ∷ some) = silent some

      each : (client : ℕ) → length (posts_of (entries_of client one)) ≤ length (posts_of (entries_of client first.lines))
      each client = by (cases_eq client n)
        where
          by : (client ≡ n) ⊎ (client ≢ n) → length (posts_of (entries_of client one)) ≤ length (posts_of (entries_of client first.lines))
          by (inl same) =
              let none : length (posts_of (entries_of client one)) ≡ 0 = ap (λ client. length (posts_of (entries_of client one))) same ∙ ap (λ entries. length (posts_of entries)) (own_entries order first second rules one two so.bridged) ∙ ap length (silent fetches) in
              omega (arith, none)
          by (inr other) = let like = ap (λ entries. length (posts_of entries)) (so.first_lines client other) in omega (arith, like)

  -- the bridge's posts in the second community
  post_is : (fetch : MailedFetch) → IsEarly fetch.stamp → HasMail names n one fetch → IsEntry (shared_entry first second rules fetch)
  post_is fetch early from = record { stamp = early; call = (subst (λ letters. length (renamed names rules letters) < 2 ^ 64) (sym from.mail) few, subst (λ letters. All IsPair (renamed names rules letters)) (sym from.mail) pairs) }
    where
      before : All IsEntry from.before
      before = front_all IsEntry from.before from.behind (subst (All IsEntry) from.whole entries_first)

      pairs : All IsPair (renamed names rules (letters_after names n from.before))
      pairs = pairs_carried names rules (letters_after names n from.before) good (letters_posted (posts_of from.before) (mail_after names n from.before) (posted from.before before))

      few : length (renamed names rules (letters_after names n from.before)) < 2 ^ 64
      few =
          let carried = carried_few names rules n from.before in
          let whole : length (posts_of one) ≡ length (posts_of from.before ++ posts_of from.behind) = ap (λ history. length (posts_of history)) from.whole ∙ ap length (flat_map-append posts_of_entry from.before from.behind) in
          let front = length-append (posts_of from.before) (posts_of from.behind) in
          omega (arith, carried, whole, front, posts_few, valid.few_lines)

  entries_second : All IsEntry two
  entries_second =
      all_own IsEntry second two so.second_lines also.entries
      (subst (All IsEntry) (sym so.bridged.posted)
      (All-map IsEntry (shared_entry first second rules) fetches (λ k d within. post_is (get_or fetches k d) (stamps k d within) (fetches_mail names n [] one k d within))))

  pub entries_are : AreEntries first one × AreEntries second two
  entries_are = (
    record { entries = entries_first; clients = clients_are first valid one so.first_lines },
    record { entries = entries_second; clients = clients_are second also two so.second_lines },
  )

pub entries_shared : (order : Order) (first second : Script) (rules : List Rule) (one two : History) → IsValid first → IsValid second → All IsRule rules → IsShared order first second rules one two
    → AreEntries first one × AreEntries second two
entries_shared order first second rules one two valid also good so = entries_are order first second rules one two valid also good so
