-- Which posts come through to a client that registers before anybody posts, from everybody and at any time: those in time.
use Rattle.std.proofs.Common.{◌≡◌, ℕ, suc, ◌+◌, ◌≤◌, ◌<◌, Bool, true, false, cond, ◌==◌, ◌&&◌, ◌||◌, not, List, [], ◌∷◌, ◌++◌, append-nil, append_assoc, length, map, fold, Option, Some, None, bytes_eq, refl, ap, sym, ◌∙◌, arith, subst, if◌then◌else◌, inl, inr}
use Rattle.std.specs.Prelude.{codes, nat_le, nat_lt}
use Rattle.std.specs.List.{list_all, list_any}
use Rattle.std.proofs.Math.Bool.{or-false}
use Rattle.std.proofs.lemmas.Bool.{and_parts, eq-eqb, le-leb, lt-leb, leb-true, leb-false, cases_Bool}
use Rattle.std.proofs.lemmas.List.{map-append}
use Rattle.std.proofs.lemmas.List.Folds.{list_any-append}
use Rattle.std.proofs.lemmas.List.Sums.{fold-append}
use Rattle.std.proofs.lemmas.Slice.Eq.{bytes_eq-Decides}
use Rattle.moos_post.specs.declared.entry.Call.{Call}
use Rattle.moos_post.specs.declared.entry.Call.TheVariants.{Register, Unregister, Post as Posts, Fetch}
use Rattle.moos_post.specs.declared.entry.Entry.{Entry}
use Rattle.moos_post.specs.declared.registration.Reg.{Reg}
use Rattle.moos_post.specs.declared.value.Post.{Post}
use Rattle.moos_mail.proofs.Inboxes.{posts-inbox_of, with_entry-ended}
use Rattle.moos_post.specs.Delivery.{empty_inbox, Inbox, is_due, is_past, last_stamp, Live, Mailing, mailing, newer_stamp, selects, with_came, with_entry, with_own, with_post, with_reg, with_regs, without_patterns, mailed_to}
use Rattle.moos_post.specs.History.{History, posts_of, posts_of_entry, name_of}
use Rattle.moos_post.specs.Patterns.{matches}
use Rattle.moos_mail.specs.Sentences.{keeps_lives, leaves_lives}
use Rattle.crew_laws.specs.InTime.{has_later, is_overtaken}

-- The registration is from everybody and at any time, and a post of a variable that it matches is due if none of the posts
-- so far that are of the variable has a later stamp.
record Follows (posts : List Post) (live : Live) : Type 0 where
  always : live.reg.interval ≡ 0
  everybody : live.reg.source ≡ codes "*"
  latest : (var : List ℕ) (stamp : ℕ) → matches live.reg.var var ≡ true → is_past (last_stamp var live.came) stamp 0 ≡ not (has_later posts var stamp)

abbrev AllFollow : List Post → List Live → Type 0
AllFollow posts [] = Unit {0}
AllFollow posts (live ∷ lives) = Follows posts live × AllFollow posts lives

-- a star matches every name
star_matches : (name : List ℕ) → matches (codes "*") name ≡ true
star_matches [] = refl
star_matches (byte ∷ name) = star_matches name

selects_var : (names : List (List ℕ)) (post : Post) (reg : Reg) → reg.source ≡ codes "*" → selects names reg post ≡ matches reg.var post.var
selects_var names post reg everybody =
    ap (λ source. matches reg.var post.var && matches source (name_of names post.source)) everybody ∙ ap (λ b. matches reg.var post.var && b) (star_matches (name_of names post.source)) ∙ and_same (matches reg.var post.var)
  where
    and_same : (b : Bool) → (b && true) ≡ b
    and_same true = refl
    and_same false = refl

-- whether a post is due
due_is : (names : List (List ℕ)) (posts : List Post) (post : Post) (live : Live) → Follows posts live → is_due names post live ≡ (matches live.reg.var post.var && not (is_overtaken posts post))
due_is names posts post live follows =
    ap (λ interval. selects names live.reg post && is_past (last_stamp post.var live.came) post.stamp interval) follows.always
    ∙ ap (λ b. b && is_past (last_stamp post.var live.came) post.stamp 0) (selects_var names post live.reg follows.everybody)
    ∙ by (matches live.reg.var post.var) (follows.latest post.var post.stamp)
  where
    by : (b : Bool) → (b ≡ true → is_past (last_stamp post.var live.came) post.stamp 0 ≡ not (is_overtaken posts post)) → (b && is_past (last_stamp post.var live.came) post.stamp 0) ≡ (b && not (is_overtaken posts post))
    by true h = h refl
    by false h = refl

any_due : (names : List (List ℕ)) (posts : List Post) (post : Post) (lives : List Live) → AllFollow posts lives → list_any (is_due names post) lives ≡ (list_any (λ live. matches live.reg.var post.var) lives && not (is_overtaken posts post))
any_due names posts post [] follow = refl
any_due names posts post (live ∷ lives) follow =
    ap (λ b. b || list_any (is_due names post) lives) (due_is names posts post live follow.0) ∙ ap (λ b. (matches live.reg.var post.var && not (is_overtaken posts post)) || b) (any_due names posts post lives follow.1)
    ∙ spread (matches live.reg.var post.var) (list_any (λ (live : Live). matches live.reg.var post.var) lives) (not (is_overtaken posts post))
  where
    spread : (a b c : Bool) → ((a && c) || (b && c)) ≡ ((a || b) && c)
    spread true true true = refl
    spread true true false = refl
    spread true false true = refl
    spread true false false = refl
    spread false b c = refl

-- one post more of a variable, with this stamp, that came through if it was due
past_more : (last : Option ℕ) (later : ℕ → Bool) (new : ℕ) → ((stamp : ℕ) → is_past last stamp 0 ≡ not (later stamp)) → (stamp : ℕ) → is_past (cond (is_past last new 0) (Some new) last) stamp 0 ≡ not (later stamp || nat_lt stamp new)
past_more None later new h stamp = by (later stamp) (h stamp)
  where
    by : (b : Bool) → true ≡ not b → nat_le (new + 0) stamp ≡ not (b || nat_lt stamp new)
    by true is = absurd (let e : true ≡ false = is in cc)
    by false is =
        elim (cases_Bool (nat_lt stamp new)) [
          | inl less ↦ lt-leb (new + 0) stamp (omega (arith, leb-true (suc stamp) new less)) ∙ ap not (sym less)
          | inr more ↦ le-leb (new + 0) stamp (omega (arith, leb-false (suc stamp) new more)) ∙ ap not (sym more)
        ]
past_more (Some last) later new h stamp =
    elim (cases_Bool (nat_le (last + 0) new)) [
      | inl early ↦ ap (λ b. is_past (cond b (Some new) (Some last)) stamp 0) early ∙ came (leb-true (last + 0) new early) (later stamp) (h stamp)
      | inr late ↦ ap (λ b. is_past (cond b (Some new) (Some last)) stamp 0) late ∙ h stamp ∙ stays (leb-false (last + 0) new late) (later stamp) (h stamp)
    ]
  where
    came : last + 0 ≤ new → (b : Bool) → nat_le (last + 0) stamp ≡ not b → nat_le (new + 0) stamp ≡ not (b || nat_lt stamp new)
    came early true is = lt-leb (new + 0) stamp (omega (arith, early, leb-false (last + 0) stamp is))
    came early false is =
        elim (cases_Bool (nat_lt stamp new)) [
          | inl less ↦ lt-leb (new + 0) stamp (omega (arith, leb-true (suc stamp) new less)) ∙ ap not (sym less)
          | inr more ↦ le-leb (new + 0) stamp (omega (arith, leb-false (suc stamp) new more)) ∙ ap not (sym more)
        ]

    stays : new < last + 0 → (b : Bool) → nat_le (last + 0) stamp ≡ not b → not b ≡ not (b || nat_lt stamp new)
    stays late true is = refl
    stays late false is = ap not (sym (lt-leb (suc stamp) new (omega (arith, late, leb-true (last + 0) stamp is))))

-- the registration after a post, which comes through where it is due
abbrev after_post : List (List ℕ) → Post → Live → Live
after_post names post live = if is_due names post live then with_came post live else live

-- the posts that came through, with one more
came_more : (names : List (List ℕ)) (post : Post) (live : Live) (var : List ℕ) (due : Bool)
    → last_stamp var (if due then with_came post live else live).came ≡ cond due (cond (bytes_eq post.var var) (Some post.stamp) (last_stamp var live.came)) (last_stamp var live.came)
came_more names post live var true = fold-append (newer_stamp var) None live.came (post ∷ [])
came_more names post live var false = refl

later_more : (posts : List Post) (post : Post) (var : List ℕ) (stamp : ℕ) → has_later (posts ++ post ∷ []) var stamp ≡ (has_later posts var stamp || (bytes_eq post.var var && nat_lt stamp post.stamp))
later_more posts post var stamp =
    list_any-append (λ (post : Post). bytes_eq post.var var && nat_lt stamp post.stamp) posts (post ∷ [])
    ∙ ap (λ b. has_later posts var stamp || b) (or-false (bytes_eq post.var var && nat_lt stamp post.stamp))

follows_post : (names : List (List ℕ)) (posts : List Post) (post : Post) (live : Live) → Follows posts live → Follows (posts ++ post ∷ []) (after_post names post live)
follows_post names posts post live follows = record {
  always = same (λ reg. reg.interval ≡ 0) (is_due names post live) follows.always;
  everybody = same (λ reg. reg.source ≡ codes "*") (is_due names post live) follows.everybody;
  latest = λ var stamp matching.
      ap (λ last. is_past last stamp 0) (came_more names post live var (is_due names post live))
      ∙ by var stamp (unmatched var (is_due names post live) matching) (bytes_eq post.var var) refl
      ∙ ap not (sym (later_more posts post var stamp));
}
  where
    same : (P : Reg → Type 0) (due : Bool) → P live.reg → P (if due then with_came post live else live).reg
    same P true h = h
    same P false h = h

    unmatched : (var : List ℕ) (due : Bool) → matches (if due then with_came post live else live).reg.var var ≡ true → matches live.reg.var var ≡ true
    unmatched var true h = h
    unmatched var false h = h

    twice : (due : Bool) (last : Option ℕ) → cond due last last ≡ last
    twice true last = refl
    twice false last = refl

    by : (var : List ℕ) (stamp : ℕ) → matches live.reg.var var ≡ true → (own : Bool) → bytes_eq post.var var ≡ own
        → is_past (cond (is_due names post live) (cond own (Some post.stamp) (last_stamp var live.came)) (last_stamp var live.came)) stamp 0 ≡ not (has_later posts var stamp || (own && nat_lt stamp post.stamp))
    by var stamp matching false is =
        ap (λ last. is_past last stamp 0) (twice (is_due names post live) (last_stamp var live.came)) ∙ follows.latest var stamp matching ∙ ap not (sym (or-false (has_later posts var stamp)))
    by var stamp matching true is =
        let var_is : post.var ≡ var = (bytes_eq-Decides post.var var).0 is in
        let due : is_due names post live ≡ is_past (last_stamp var live.came) post.stamp 0
        = due_is names posts post live follows ∙ ap (λ var. matches live.reg.var var && not (has_later posts var post.stamp)) var_is
        ∙ ap (λ b. b && not (has_later posts var post.stamp)) matching ∙ sym (follows.latest var post.stamp matching) in
        ap (λ due. is_past (cond due (Some post.stamp) (last_stamp var live.came)) stamp 0) due
        ∙ past_more (last_stamp var live.came) (has_later posts var) post.stamp (λ stamp. follows.latest var stamp matching) stamp

all_follow : (names : List (List ℕ)) (posts : List Post) (post : Post) (lives : List Live) → AllFollow posts lives → AllFollow (posts ++ post ∷ []) (map (after_post names post) lives)
all_follow names posts post [] follow = tt
all_follow names posts post (live ∷ lives) follow = (follows_post names posts post live follow.0, all_follow names posts post lives follow.1)

-- some of these registrations matches the variable
abbrev any_matches : List ℕ → List Live → Bool
any_matches var lives = list_any (λ live. matches live.reg.var var) lives

matches_after : (names : List (List ℕ)) (post : Post) (var : List ℕ) (lives : List Live) → any_matches var (map (after_post names post) lives) ≡ any_matches var lives
matches_after names post var [] = refl
matches_after names post var (live ∷ lives) =
    ap (λ b. b || any_matches var (map (after_post names post) lives)) (by (is_due names post live)) ∙ ap (λ b. matches live.reg.var var || b) (matches_after names post var lives)
  where
    by : (due : Bool) → matches (if due then with_came post live else live).reg.var var ≡ matches live.reg.var var
    by true = refl
    by false = refl

-- the numbers of those of some posts, behind others, that are of a wanted variable and come in time
abbrev pub numbers_in_time : (List ℕ → Bool) → List Post → List Post → List ℕ
numbers_in_time wanted before [] = []
numbers_in_time wanted before (post ∷ later) =
    if wanted post.var && not (is_overtaken before post) then length before ∷ numbers_in_time wanted (before ++ post ∷ []) later else numbers_in_time wanted (before ++ post ∷ []) later

-- one post more
numbers_more : (wanted : List ℕ → Bool) (before posts : List Post) (post : Post)
    → numbers_in_time wanted before (posts ++ post ∷ []) ≡ numbers_in_time wanted before posts ++ (if wanted post.var && not (is_overtaken (before ++ posts) post) then length (before ++ posts) ∷ [] else [])
numbers_more wanted before [] post = ap (λ front. if wanted post.var && not (is_overtaken front post) then length front ∷ [] else []) (sym (append-nil before))
numbers_more wanted before (one ∷ posts) post =
    by (wanted one.var && not (is_overtaken before one))
    (numbers_more wanted (before ++ one ∷ []) posts post ∙ ap (λ front. numbers_in_time wanted (before ++ one ∷ []) posts ++ more front) (append_assoc before (one ∷ []) posts))
  where
    more : List Post → List ℕ
    more front = if wanted post.var && not (is_overtaken front post) then length front ∷ [] else []

    by : (heard : Bool) → numbers_in_time wanted (before ++ one ∷ []) (posts ++ post ∷ []) ≡ numbers_in_time wanted (before ++ one ∷ []) posts ++ more (before ++ one ∷ posts)
        → (if heard then length before ∷ numbers_in_time wanted (before ++ one ∷ []) (posts ++ post ∷ []) else numbers_in_time wanted (before ++ one ∷ []) (posts ++ post ∷ []))
        ≡ (if heard then length before ∷ numbers_in_time wanted (before ++ one ∷ []) posts else numbers_in_time wanted (before ++ one ∷ []) posts) ++ more (before ++ one ∷ posts)
    by true h = ap (λ rest. length before ∷ rest) h
    by false h = h

-- the numbers of what was mailed
abbrev numbers : List Mailing → List ℕ
numbers mailed = map (λ one. one.number) mailed

-- what was mailed are the wanted posts in time, and the registrations go on with these posts
record HearsInTime (wanted : List ℕ → Bool) (inbox : Inbox) : Type 0 where
  mailed : numbers inbox.mailed ≡ numbers_in_time wanted [] inbox.posts
  select : (var : List ℕ) → any_matches var inbox.lives ≡ wanted var
  follow : AllFollow inbox.posts inbox.lives

hears_post : (names : List (List ℕ)) (wanted : List ℕ → Bool) (inbox : Inbox) (post : Post) → HearsInTime wanted inbox → HearsInTime wanted (with_post names inbox post)
hears_post names wanted inbox post so = record {
  mailed =
      ap (λ b. numbers (if b then inbox.mailed ++ mailing (length inbox.posts) inbox.entries ∷ [] else inbox.mailed)) due
      ∙ by (wanted post.var && not (is_overtaken inbox.posts post)) ∙ sym (numbers_more wanted [] inbox.posts post);
  select = λ var. matches_after names post var inbox.lives ∙ so.select var;
  follow = all_follow names inbox.posts post inbox.lives so.follow;
}
  where
    due : list_any (is_due names post) inbox.lives ≡ (wanted post.var && not (is_overtaken inbox.posts post))
    due = any_due names inbox.posts post inbox.lives so.follow ∙ ap (λ b. b && not (is_overtaken inbox.posts post)) (so.select post.var)

    by : (heard : Bool) → numbers (if heard then inbox.mailed ++ mailing (length inbox.posts) inbox.entries ∷ [] else inbox.mailed) ≡ numbers_in_time wanted [] inbox.posts ++ (if heard then length inbox.posts ∷ [] else [])
    by true = map-append (λ (one : Mailing). one.number) inbox.mailed (mailing (length inbox.posts) inbox.entries ∷ []) ∙ ap (λ front. front ++ length inbox.posts ∷ []) so.mailed
    by false = so.mailed ∙ sym (append-nil (numbers_in_time wanted [] inbox.posts))

hears_posts : (names : List (List ℕ)) (wanted : List ℕ → Bool) (inbox : Inbox) (posts : List Post) → HearsInTime wanted inbox → HearsInTime wanted (fold (with_post names) inbox posts)
hears_posts names wanted inbox [] so = so
hears_posts names wanted inbox (post ∷ posts) so = hears_posts names wanted (with_post names inbox post) posts (hears_post names wanted inbox post so)

hears_own : (names : List (List ℕ)) (wanted : List ℕ → Bool) (inbox : Inbox) (own : Bool) (call : Call) → (not own || leaves_lives call) ≡ true → HearsInTime wanted inbox
    → HearsInTime wanted (if own then with_own names inbox call else inbox)
hears_own names wanted inbox false call leaves so = so
hears_own names wanted inbox true (Register more) leaves so = absurd (let e : false ≡ true = leaves in cc)
hears_own names wanted inbox true (Unregister var source) leaves so = absurd (let e : false ≡ true = leaves in cc)
hears_own names wanted inbox true (Posts batch) leaves so = so
hears_own names wanted inbox true Fetch leaves so = record { mailed = so.mailed; select = so.select; follow = so.follow }

hears_entry : (names : List (List ℕ)) (client : ℕ) (wanted : List ℕ → Bool) (inbox : Inbox) (entry : Entry) → keeps_lives client entry ≡ true → HearsInTime wanted inbox → HearsInTime wanted (with_entry names client inbox entry)
hears_entry names client wanted inbox entry keeps so =
    let kept = hears_posts names wanted _ (posts_of_entry entry) (hears_own names wanted inbox (entry.client == client) entry.call keeps so) in
    subst (HearsInTime wanted) (sym (with_entry-ended names client inbox entry)) (record { mailed = kept.mailed; select = kept.select; follow = kept.follow })

hears_entries : (names : List (List ℕ)) (client : ℕ) (wanted : List ℕ → Bool) (inbox : Inbox) (entries : History) → list_all (keeps_lives client) entries ≡ true → HearsInTime wanted inbox
    → HearsInTime wanted (fold (with_entry names client) inbox entries)
hears_entries names client wanted inbox [] keeps so = so
hears_entries names client wanted inbox (entry ∷ entries) keeps so =
    let both = and_parts (keeps_lives client entry) (list_all (keeps_lives client) entries) keeps in
    hears_entries names client wanted (with_entry names client inbox entry) entries both.1 (hears_entry names client wanted inbox entry both.0 so)

-- what registrations match after one more is made, which withdraws one with the same patterns
without_one : (var : List ℕ) (reg : Reg) (lives : List Live) → (any_matches var (without_patterns reg.var reg.source lives) || matches reg.var var) ≡ (any_matches var lives || matches reg.var var)
without_one var reg [] = refl
without_one var reg (live ∷ lives) = by (bytes_eq live.reg.var reg.var && bytes_eq live.reg.source reg.source) refl (without_one var reg lives)
  where
    rest : List Live
    rest = without_patterns reg.var reg.source lives

    twice : (a b : Bool) → (a || b) ≡ ((b || a) || b)
    twice true true = refl
    twice true false = refl
    twice false true = refl
    twice false false = refl

    front : (a b c d : Bool) → (b || d) ≡ (c || d) → ((a || b) || d) ≡ ((a || c) || d)
    front true b c d h = refl
    front false b c d h = h

    by : (same : Bool) → (bytes_eq live.reg.var reg.var && bytes_eq live.reg.source reg.source) ≡ same → (any_matches var rest || matches reg.var var) ≡ (any_matches var lives || matches reg.var var)
        → (any_matches var (cond (not same) (live ∷ rest) rest) || matches reg.var var) ≡ ((matches live.reg.var var || any_matches var lives) || matches reg.var var)
    by true is h =
        let one : live.reg.var ≡ reg.var = (bytes_eq-Decides live.reg.var reg.var).0 (and_parts (bytes_eq live.reg.var reg.var) (bytes_eq live.reg.source reg.source) is).0 in
        h ∙ twice (any_matches var lives) (matches reg.var var) ∙ ap (λ pattern. (matches pattern var || any_matches var lives) || matches reg.var var) (sym one)
    by false is h = front (matches live.reg.var var) (any_matches var rest) (any_matches var lives) (matches reg.var var) h

with_one : (var : List ℕ) (entry : ℕ) (lives : List Live) (reg : Reg) → any_matches var (with_reg entry lives reg) ≡ (any_matches var lives || matches reg.var var)
with_one var entry lives reg =
    list_any-append (λ (live : Live). matches live.reg.var var) (without_patterns reg.var reg.source lives) (record { reg = reg; made = entry; came = [] } ∷ [])
    ∙ ap (λ b. any_matches var (without_patterns reg.var reg.source lives) || b) (or-false (matches reg.var var)) ∙ without_one var reg lives

-- some of these registrations matches the variable, as it was asked for
abbrev pub matched_by : List Reg → List ℕ → Bool
matched_by regs var = list_any (λ reg. matches reg.var var) regs

with_all : (var : List ℕ) (entry : ℕ) (lives : List Live) (regs : List Reg) → any_matches var (fold (with_reg entry) lives regs) ≡ (any_matches var lives || matched_by regs var)
with_all var entry lives [] = sym (or-false (any_matches var lives))
with_all var entry lives (reg ∷ regs) =
    with_all var entry (with_reg entry lives reg) regs ∙ ap (λ b. b || matched_by regs var) (with_one var entry lives reg) ∙ assoc (any_matches var lives) (matches reg.var var) (matched_by regs var)
  where
    assoc : (a b c : Bool) → ((a || b) || c) ≡ (a || (b || c))
    assoc true b c = refl
    assoc false b c = refl

-- each of these asks for no interval, and for posts from everybody
abbrev pub from_everybody : List Reg → Type 0
from_everybody [] = Unit {0}
from_everybody (reg ∷ regs) = (reg.interval ≡ 0) × (reg.source ≡ codes "*") × from_everybody regs

follow_without : (var source : List ℕ) (lives : List Live) → AllFollow [] lives → AllFollow [] (without_patterns var source lives)
follow_without var source [] follow = tt
follow_without var source (live ∷ lives) follow = by (bytes_eq live.reg.var var && bytes_eq live.reg.source source) (follow_without var source lives follow.1)
  where
    by : (same : Bool) → AllFollow [] (without_patterns var source lives) → AllFollow [] (cond (not same) (live ∷ without_patterns var source lives) (without_patterns var source lives))
    by true rest = rest
    by false rest = (follow.0, rest)

follow_more : (lives more : List Live) → AllFollow [] lives → AllFollow [] more → AllFollow [] (lives ++ more)
follow_more [] more follow other = other
follow_more (live ∷ lives) more follow other = (follow.0, follow_more lives more follow.1 other)

follow_start : (entry : ℕ) (lives : List Live) (regs : List Reg) → from_everybody regs → AllFollow [] lives → AllFollow [] (fold (with_reg entry) lives regs)
follow_start entry lives [] all follow = follow
follow_start entry lives (reg ∷ regs) all follow =
    follow_start entry (with_reg entry lives reg) regs all.2
    (follow_more (without_patterns reg.var reg.source lives) (record { reg = reg; made = entry; came = [] } ∷ []) (follow_without reg.var reg.source lives follow)
    (record { always = all.0; everybody = all.1; latest = λ var stamp matching. refl }, tt))

-- What is mailed to a client that registers first of all, from everybody and at any time, and never again: the posts in time of the
-- variables that it asked for.
pub mailed_in_time : (names : List (List ℕ)) (client stamp : ℕ) (regs : List Reg) (later : History) → from_everybody regs → list_all (keeps_lives client) later ≡ true
    → numbers (mailed_to names client (record { stamp = stamp; client = client; call = Register regs } ∷ later)) ≡ numbers_in_time (matched_by regs) [] (posts_of later)
mailed_in_time names client stamp regs later all keeps =
    ap (λ inbox. numbers (fold (with_entry names client) inbox later).mailed) begun ∙ final.mailed
    ∙ ap (numbers_in_time (matched_by regs) []) (ap (λ inbox. (fold (with_entry names client) inbox later).posts) (sym begun) ∙ posts-inbox_of names client (record { stamp = stamp; client = client; call = Register regs } ∷ later))
  where
    start : Inbox
    start = record { fetched = 0; entries = 1; posts = []; lives = fold (with_reg 0) [] regs; mailed = [] }

    begun : with_entry names client empty_inbox (record { stamp = stamp; client = client; call = Register regs }) ≡ start
    begun = ap (λ b. record (if b then with_regs names empty_inbox regs else empty_inbox) { entries = 1 }) (eq-eqb client client refl)

    final : HearsInTime (matched_by regs) (fold (with_entry names client) start later)
    final = hears_entries names client (matched_by regs) start later keeps (record { mailed = refl; select = λ var. with_all var 0 [] regs; follow = follow_start 0 [] regs all tt })
