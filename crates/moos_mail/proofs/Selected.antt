-- A client that registers once, before anybody posts, and without an interval is mailed each post that its registrations select.
use Rattle.std.proofs.Common.{◌≡◌, ℕ, suc, ◌+◌, ◌≤◌, Bool, true, false, cond, ◌==◌, ◌&&◌, ◌||◌, not, List, [], ◌∷◌, ◌++◌, append-nil, length, map, fold, Option, Some, None, bytes_eq, All, refl, ap, sym, ◌∙◌, arith, subst, if◌then◌else◌}
use Rattle.std.specs.Prelude.{IfSome}
use Rattle.std.specs.List.{list_all, list_any}
use Rattle.std.proofs.Math.Bool.{or-false}
use Rattle.std.proofs.lemmas.Bool.{and_parts, eq-eqb, le-leb}
use Rattle.std.proofs.lemmas.Grind.{flat_map-append}
use Rattle.std.proofs.lemmas.List.{map-append}
use Rattle.std.proofs.lemmas.List.Elements.{All-head, All-tail}
use Rattle.std.proofs.lemmas.List.Folds.{list_all-append, list_any-append}
use Rattle.std.proofs.lemmas.List.Sums.{fold-append}
use Rattle.std.proofs.lemmas.Slice.Eq.{bytes_eq-Decides}
use Rattle.moos_post.specs.declared.entry.Call.{Call}
use Rattle.moos_post.specs.declared.entry.Call.TheVariants.{Register, Unregister, Post as Posts, Fetch}
use Rattle.moos_post.specs.declared.entry.Entry.{Entry}
use Rattle.moos_post.specs.declared.registration.Reg.{Reg}
use Rattle.moos_post.specs.declared.value.Post.{Post}
use Rattle.moos_post.specs.Delivery.{empty_inbox, Inbox, inbox_of, is_due, is_past, last_stamp, Live, Mailing, mailing, newer_stamp, selects, with_came, with_entry, with_own, with_post, with_reg, with_regs, without_patterns, after_catching_up}
use Rattle.moos_post.specs.History.{History, posts_of, posts_of_entry}
use Rattle.moos_mail.specs.Sentences.{HearsAll, is_selected, keeps_lives, leaves_lives, numbers_mailed, numbers_selected, StampsRise}
use Rattle.moos_mail.proofs.Inboxes.{posts-inbox_of, with_entry-ended}
use Rattle.moos_mail.proofs.Appending.{numbers}

-- the registration asks for no interval, and no post with a greater stamp than this one came through it
record IsUnder (low : ℕ) (live : Live) : Type 0 where
  always : live.reg.interval ≡ 0
  came : (var : List ℕ) → IfSome (last_stamp var live.came) (λ stamp. stamp ≤ low)

abbrev AllUnder : ℕ → List Live → Type 0
AllUnder low [] = Unit {0}
AllUnder low (live ∷ lives) = IsUnder low live × AllUnder low lives

-- so a post that it selects is due
past_all : (last : Option ℕ) (low stamp : ℕ) → IfSome last (λ stamp. stamp ≤ low) → low ≤ stamp → is_past last stamp 0 ≡ true
past_all None low stamp before after = refl
past_all (Some last) low stamp before after = le-leb (last + 0) stamp (omega (arith, before, after))

due_all : (names : List (List ℕ)) (low : ℕ) (post : Post) (live : Live) → IsUnder low live → low ≤ post.stamp → is_due names post live ≡ selects names live.reg post
due_all names low post live under after =
    ap (λ interval. selects names live.reg post && is_past (last_stamp post.var live.came) post.stamp interval) under.always
    ∙ ap (λ b. selects names live.reg post && b) (past_all (last_stamp post.var live.came) low post.stamp (under.came post.var) after)
    ∙ and_same (selects names live.reg post)
  where
    and_same : (b : Bool) → (b && true) ≡ b
    and_same true = refl
    and_same false = refl

any_due : (names : List (List ℕ)) (low : ℕ) (post : Post) (lives : List Live) → AllUnder low lives → low ≤ post.stamp → list_any (is_due names post) lives ≡ list_any (λ live. selects names live.reg post) lives
any_due names low post [] under after = refl
any_due names low post (live ∷ lives) under after =
    ap (λ b. b || list_any (is_due names post) lives) (due_all names low post live under.0 after) ∙ ap (λ b. selects names live.reg post || b) (any_due names low post lives under.1 after)

-- the registrations after a post, which comes through where it is due
abbrev after_post : List (List ℕ) → Post → Live → Live
after_post names post live = if is_due names post live then with_came post live else live

under_later : (low high : ℕ) (live : Live) → low ≤ high → IsUnder low live → IsUnder high live
under_later low high live more under = record { always = under.always; came = λ var. by (last_stamp var live.came) (under.came var) }
  where
    by : (last : Option ℕ) → IfSome last (λ stamp. stamp ≤ low) → IfSome last (λ stamp. stamp ≤ high)
    by None h = tt
    by (Some stamp) h = omega (arith, h, more)

under_came : (low : ℕ) (post : Post) (live : Live) → low ≤ post.stamp → IsUnder low live → IsUnder post.stamp (with_came post live)
under_came low post live after under = record {
  always = under.always;
  came = λ var. subst (λ last. IfSome last (λ stamp. stamp ≤ post.stamp)) (sym (fold-append (newer_stamp var) None live.came (post ∷ []))) (by var (bytes_eq post.var var) ((under_later low post.stamp live after under).came var));
}
  where
    by : (var : List ℕ) (own : Bool) → IfSome (last_stamp var live.came) (λ stamp. stamp ≤ post.stamp) → IfSome (if own then Some post.stamp else last_stamp var live.came) (λ stamp. stamp ≤ post.stamp)
    by var true h = omega arith
    by var false h = h

all_after : (names : List (List ℕ)) (low : ℕ) (post : Post) (lives : List Live) → low ≤ post.stamp → AllUnder low lives → AllUnder post.stamp (map (after_post names post) lives)
all_after names low post [] after under = tt
all_after names low post (live ∷ lives) after under = (by (is_due names post live), all_after names low post lives after under.1)
  where
    by : (due : Bool) → IsUnder post.stamp (if due then with_came post live else live)
    by true = under_came low post live after under.0
    by false = under_later low post.stamp live after under.0

-- what a registration selects stays
select_after : (names : List (List ℕ)) (post other : Post) (lives : List Live) → list_any (λ (live : Live). selects names live.reg other) (map (after_post names post) lives) ≡ list_any (λ live. selects names live.reg other) lives
select_after names post other [] = refl
select_after names post other (live ∷ lives) =
    ap (λ b. b || list_any (λ (live : Live). selects names live.reg other) (map (after_post names post) lives)) (by (is_due names post live))
    ∙ ap (λ b. selects names live.reg other || b) (select_after names post other lives)
  where
    by : (due : Bool) → selects names (if due then with_came post live else live).reg other ≡ selects names live.reg other
    by true = refl
    by false = refl

-- one post more
selected_more : (names : List (List ℕ)) (regs : List Reg) (number : ℕ) (posts : List Post) (post : Post)
    → numbers_selected names regs number (posts ++ post ∷ []) ≡ numbers_selected names regs number posts ++ (if is_selected names regs post then (number + length posts) ∷ [] else [])
selected_more names regs number [] post = by (is_selected names regs post)
  where
    by : (selected : Bool) → (if selected then number ∷ [] else []) ≡ (if selected then (number + 0) ∷ [] else [])
    by true = (let e : number ≡ number + 0 = omega arith in ap (λ n. n ∷ []) e)
    by false = refl
selected_more names regs number (one ∷ posts) post = by (is_selected names regs one) (selected_more names regs (suc number) posts post)
  where
    more : ℕ → List ℕ
    more n = if is_selected names regs post then n ∷ [] else []

    next : suc number + length posts ≡ number + suc (length posts)
    next = omega arith

    by : (selected : Bool) → numbers_selected names regs (suc number) (posts ++ post ∷ []) ≡ numbers_selected names regs (suc number) posts ++ more (suc number + length posts)
        → (if selected then number ∷ numbers_selected names regs (suc number) (posts ++ post ∷ []) else numbers_selected names regs (suc number) (posts ++ post ∷ []))
        ≡ (if selected then number ∷ numbers_selected names regs (suc number) posts else numbers_selected names regs (suc number) posts) ++ more (number + suc (length posts))
    by true h = ap (λ rest. number ∷ rest) (h ∙ ap (λ n. numbers_selected names regs (suc number) posts ++ more n) next)
    by false h = h ∙ ap (λ n. numbers_selected names regs (suc number) posts ++ more n) next

-- what was mailed is what these registrations select, and so do those that are live
record Hears (names : List (List ℕ)) (regs : List Reg) (low : ℕ) (inbox : Inbox) : Type 0 where
  mailed : numbers inbox.mailed ≡ numbers_selected names regs 0 inbox.posts
  select : (post : Post) → list_any (λ (live : Live). selects names live.reg post) inbox.lives ≡ is_selected names regs post
  under : AllUnder low inbox.lives

hears_post : (names : List (List ℕ)) (regs : List Reg) (low : ℕ) (inbox : Inbox) (post : Post) → low ≤ post.stamp → Hears names regs low inbox → Hears names regs post.stamp (with_post names inbox post)
hears_post names regs low inbox post after so = record {
  mailed =
      ap (λ b. numbers (if b then inbox.mailed ++ mailing (length inbox.posts) inbox.entries ∷ [] else inbox.mailed)) due
      ∙ by (is_selected names regs post) ∙ sym (selected_more names regs 0 inbox.posts post);
  select = λ other. select_after names post other inbox.lives ∙ so.select other;
  under = all_after names low post inbox.lives after so.under;
}
  where
    due : list_any (is_due names post) inbox.lives ≡ is_selected names regs post
    due = any_due names low post inbox.lives so.under after ∙ so.select post

    by : (selected : Bool) → numbers (if selected then inbox.mailed ++ mailing (length inbox.posts) inbox.entries ∷ [] else inbox.mailed)
        ≡ numbers_selected names regs 0 inbox.posts ++ (if selected then (0 + length inbox.posts) ∷ [] else [])
    by true =
        map-append (λ (one : Mailing). one.number) inbox.mailed (mailing (length inbox.posts) inbox.entries ∷ []) ∙ ap (λ front. front ++ length inbox.posts ∷ []) so.mailed
        ∙ (let e : length inbox.posts ≡ 0 + length inbox.posts = omega arith in ap (λ n. numbers_selected names regs 0 inbox.posts ++ n ∷ []) e)
    by false = so.mailed ∙ sym (append-nil (numbers_selected names regs 0 inbox.posts))

-- the stamp of the last of these posts, or this one
abbrev last_of : ℕ → List Post → ℕ
last_of low posts = fold (λ last (post : Post). post.stamp) low posts

hears_posts : (names : List (List ℕ)) (regs : List Reg) (low : ℕ) (inbox : Inbox) (posts : List Post) → StampsRise low posts → Hears names regs low inbox → Hears names regs (last_of low posts) (fold (with_post names) inbox posts)
hears_posts names regs low inbox [] rise so = so
hears_posts names regs low inbox (post ∷ posts) rise so = hears_posts names regs post.stamp (with_post names inbox post) posts rise.1 (hears_post names regs low inbox post rise.0 so)

-- the client's entry that registers and unregisters nothing
hears_own : (names : List (List ℕ)) (regs : List Reg) (low : ℕ) (inbox : Inbox) (own : Bool) (call : Call) → (not own || leaves_lives call) ≡ true → Hears names regs low inbox
    → Hears names regs low (if own then with_own names inbox call else inbox)
hears_own names regs low inbox false call leaves so = so
hears_own names regs low inbox true (Register more) leaves so = absurd (let e : false ≡ true = leaves in cc)
hears_own names regs low inbox true (Unregister var source) leaves so = absurd (let e : false ≡ true = leaves in cc)
hears_own names regs low inbox true (Posts batch) leaves so = so
hears_own names regs low inbox true Fetch leaves so = record { mailed = so.mailed; select = so.select; under = so.under }

rise_front : (low : ℕ) (posts more : List Post) → StampsRise low (posts ++ more) → StampsRise low posts
rise_front low [] more rise = tt
rise_front low (post ∷ posts) more rise = (rise.0, rise_front post.stamp posts more rise.1)

rise_rest : (low : ℕ) (posts more : List Post) → StampsRise low (posts ++ more) → StampsRise (last_of low posts) more
rise_rest low [] more rise = rise
rise_rest low (post ∷ posts) more rise = rise_rest post.stamp posts more rise.1

hears_entry : (names : List (List ℕ)) (client : ℕ) (regs : List Reg) (low : ℕ) (inbox : Inbox) (entry : Entry) → keeps_lives client entry ≡ true → StampsRise low (posts_of_entry entry) → Hears names regs low inbox
    → Hears names regs (last_of low (posts_of_entry entry)) (with_entry names client inbox entry)
hears_entry names client regs low inbox entry keeps rise so =
    let kept = hears_posts names regs low _ (posts_of_entry entry) rise (hears_own names regs low inbox (entry.client == client) entry.call keeps so) in
    subst (Hears names regs (last_of low (posts_of_entry entry))) (sym (with_entry-ended names client inbox entry)) (record { mailed = kept.mailed; select = kept.select; under = kept.under })

hears_entries : (names : List (List ℕ)) (client : ℕ) (regs : List Reg) (low : ℕ) (inbox : Inbox) (entries : History) → list_all (keeps_lives client) entries ≡ true → StampsRise low (posts_of entries) → Hears names regs low inbox
    → Hears names regs (last_of low (posts_of entries)) (fold (with_entry names client) inbox entries)
hears_entries names client regs low inbox [] keeps rise so = so
hears_entries names client regs low inbox (entry ∷ entries) keeps rise so =
    let both = and_parts (keeps_lives client entry) (list_all (keeps_lives client) entries) keeps in
    let own : List Post = posts_of_entry entry in
    subst (λ last. Hears names regs last (fold (with_entry names client) (with_entry names client inbox entry) entries)) (sym (fold-append (λ last (post : Post). post.stamp) low own (posts_of entries)))
    (hears_entries names client regs (last_of low own) (with_entry names client inbox entry) entries both.1 (rise_rest low own (posts_of entries) rise)
    (hears_entry names client regs low inbox entry both.0 (rise_front low own (posts_of entries) rise) so))

-- what registrations select after one more is made, which withdraws one with the same patterns
module _ (names : List (List ℕ)) (post : Post) where
  same_patterns : (one other : Reg) → (bytes_eq one.var other.var && bytes_eq one.source other.source) ≡ true → selects names one post ≡ selects names other post
  same_patterns one other same =
      let parts = and_parts (bytes_eq one.var other.var) (bytes_eq one.source other.source) same in
      let var : one.var ≡ other.var = (bytes_eq-Decides one.var other.var).0 parts.0 in
      let source : one.source ≡ other.source = (bytes_eq-Decides one.source other.source).0 parts.1 in
      ap (λ var. selects names (record one { var = var }) post) var ∙ ap (λ source. selects names (record other { source = source }) post) source

  without_one : (reg : Reg) (lives : List Live) → (list_any (λ (live : Live). selects names live.reg post) (without_patterns reg.var reg.source lives) || selects names reg post) ≡ (list_any (λ (live : Live). selects names live.reg post) lives || selects names reg post)
  without_one reg [] = refl
  without_one reg (live ∷ lives) = by (bytes_eq live.reg.var reg.var && bytes_eq live.reg.source reg.source) refl (without_one reg lives)
    where
      rest : List Live
      rest = without_patterns reg.var reg.source lives

      any : List Live → Bool
      any some = list_any (λ (live : Live). selects names live.reg post) some

      twice : (a b : Bool) → (a || b) ≡ ((b || a) || b)
      twice true true = refl
      twice true false = refl
      twice false true = refl
      twice false false = refl

      front : (a b c d : Bool) → (b || d) ≡ (c || d) → ((a || b) || d) ≡ ((a || c) || d)
      front true b c d h = refl
      front false b c d h = h

      by : (same : Bool) → (bytes_eq live.reg.var reg.var && bytes_eq live.reg.source reg.source) ≡ same → (any rest || selects names reg post) ≡ (any lives || selects names reg post)
          → (any (cond (not same) (live ∷ rest) rest) || selects names reg post) ≡ ((selects names live.reg post || any lives) || selects names reg post)
      by true is h = h ∙ twice (any lives) (selects names reg post) ∙ ap (λ b. (b || any lives) || selects names reg post) (sym (same_patterns live.reg reg is))
      by false is h = front (selects names live.reg post) (any rest) (any lives) (selects names reg post) h

  with_one : (entry : ℕ) (lives : List Live) (reg : Reg) → list_any (λ (live : Live). selects names live.reg post) (with_reg entry lives reg) ≡ (list_any (λ (live : Live). selects names live.reg post) lives || selects names reg post)
  with_one entry lives reg =
      list_any-append (λ (live : Live). selects names live.reg post) (without_patterns reg.var reg.source lives) (record { reg = reg; made = entry; came = [] } ∷ [])
      ∙ ap (λ b. list_any (λ (live : Live). selects names live.reg post) (without_patterns reg.var reg.source lives) || b) (or-false (selects names reg post)) ∙ without_one reg lives

  with_all : (entry : ℕ) (lives : List Live) (regs : List Reg) → list_any (λ (live : Live). selects names live.reg post) (fold (with_reg entry) lives regs) ≡ (list_any (λ (live : Live). selects names live.reg post) lives || is_selected names regs post)
  with_all entry lives [] = sym (or-false (list_any (λ (live : Live). selects names live.reg post) lives))
  with_all entry lives (reg ∷ regs) =
      with_all entry (with_reg entry lives reg) regs ∙ ap (λ b. b || is_selected names regs post) (with_one entry lives reg)
      ∙ assoc (list_any (λ (live : Live). selects names live.reg post) lives) (selects names reg post) (is_selected names regs post)
    where
      assoc : (a b c : Bool) → ((a || b) || c) ≡ (a || (b || c))
      assoc true b c = refl
      assoc false b c = refl

under_without : (low : ℕ) (var source : List ℕ) (lives : List Live) → AllUnder low lives → AllUnder low (without_patterns var source lives)
under_without low var source [] under = tt
under_without low var source (live ∷ lives) under = by (bytes_eq live.reg.var var && bytes_eq live.reg.source source) (under_without low var source lives under.1)
  where
    by : (same : Bool) → AllUnder low (without_patterns var source lives) → AllUnder low (cond (not same) (live ∷ without_patterns var source lives) (without_patterns var source lives))
    by true rest = rest
    by false rest = (under.0, rest)

under_more : (low : ℕ) (lives more : List Live) → AllUnder low lives → AllUnder low more → AllUnder low (lives ++ more)
under_more low [] more under other = other
under_more low (live ∷ lives) more under other = (under.0, under_more low lives more under.1 other)

under_all : (low entry : ℕ) (lives : List Live) (regs : List Reg) → All (λ reg. reg.interval ≡ 0) regs → AllUnder low lives → AllUnder low (fold (with_reg entry) lives regs)
under_all low entry lives [] always under = under
under_all low entry lives (reg ∷ regs) always under =
    under_all low entry (with_reg entry lives reg) regs (All-tail (λ (reg : Reg). reg.interval ≡ 0) reg regs always)
    (under_more low (without_patterns reg.var reg.source lives) (record { reg = reg; made = entry; came = [] } ∷ []) (under_without low reg.var reg.source lives under)
    (record { always = All-head (λ (reg : Reg). reg.interval ≡ 0) reg regs always; came = λ var. tt }, tt))

-- the entry that registers, before anybody posts
hears_first : (names : List (List ℕ)) (client : ℕ) (regs : List Reg) (low stamp : ℕ) (inbox : Inbox) → inbox.posts ≡ [] → All (λ reg. reg.interval ≡ 0) regs → Hears names [] low inbox
    → Hears names regs low (with_entry names client inbox (record { stamp = stamp; client = client; call = Register regs }))
hears_first names client regs low stamp inbox none always so =
    let lives : List Live = fold (with_reg inbox.entries) inbox.lives regs in
    let made : with_entry names client inbox (record { stamp = stamp; client = client; call = Register regs }) ≡ record inbox { lives = lives; entries = suc inbox.entries }
    = ap (λ b. record (if b then with_regs names inbox regs else inbox) { entries = suc inbox.entries }) (eq-eqb client client refl)
    ∙ ap (λ posts. record (after_catching_up names 0 (record inbox { lives = lives }) posts) { entries = suc inbox.entries }) none in
    subst (Hears names regs low) (sym made) (record {
      mailed = so.mailed ∙ ap (numbers_selected names [] 0) none ∙ sym (ap (numbers_selected names regs 0) none);
      select = λ post. with_all names post inbox.entries inbox.lives regs ∙ ap (λ b. b || is_selected names regs post) (so.select post);
      under = under_all low inbox.entries inbox.lives regs always so.under;
    })

-- To a client that registers once, before anybody posts, without an interval, each post is mailed that its registrations select.
pub selected : (names : List (List ℕ)) (client : ℕ) (regs : List Reg) (history : History) → HearsAll client regs history → numbers_mailed names client history ≡ numbers_selected names regs 0 (posts_of history)
selected names client regs history so =
    ap (λ (inbox : Inbox). numbers inbox.mailed) whole ∙ final.mailed ∙ ap (numbers_selected names regs 0) (ap (λ (inbox : Inbox). inbox.posts) (sym whole) ∙ posts-inbox_of names client history)
  where
    opening : Entry
    opening = record { stamp = so.stamp; client = client; call = Register regs }

    begun : Inbox
    begun = inbox_of names client so.before

    whole : inbox_of names client history ≡ fold (with_entry names client) (with_entry names client begun opening) so.later
    whole = ap (inbox_of names client) so.is ∙ fold-append (with_entry names client) empty_inbox so.before (opening ∷ so.later)

    posts : posts_of history ≡ posts_of so.later
    posts = ap posts_of so.is ∙ flat_map-append posts_of_entry so.before (opening ∷ so.later) ∙ ap (λ before. before ++ posts_of so.later) so.first

    keeps : (list_all (keeps_lives client) so.before && list_all (keeps_lives client) so.later) ≡ true
    keeps = sym (list_all-append (keeps_lives client) so.before so.later) ∙ so.once

    before : Hears names [] 0 begun
    before =
        subst (λ low. Hears names [] low begun) (ap (last_of 0) so.first)
        (hears_entries names client [] 0 empty_inbox so.before (and_parts _ (list_all (keeps_lives client) so.later) keeps).0 (subst (StampsRise 0) (sym so.first) tt) (record { mailed = refl; select = λ post. refl; under = tt }))

    final : Hears names regs (last_of 0 (posts_of so.later)) (fold (with_entry names client) (with_entry names client begun opening) so.later)
    final =
        hears_entries names client regs 0 (with_entry names client begun opening) so.later (and_parts (list_all (keeps_lives client) so.before) _ keeps).1 (subst (StampsRise 0) posts so.rising)
        (hears_first names client regs 0 so.stamp begun (posts-inbox_of names client so.before ∙ so.first) so.always before)
