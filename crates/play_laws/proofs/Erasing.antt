-- What a client hears doesn't depend on the entries of others that post nothing that it asks for.
use Rattle.std.proofs.Common.{◌≡◌, ℕ, Option, ◌<◌, ◌==◌, ◌&&◌, ◌||◌, Bool, true, false, cond, Some, None, List, [], ◌∷◌, ◌++◌, refl, sym, ap, ◌∙◌, arith, append-nil}
use Rattle.std.specs.Prelude.{All, map, filter, fold, option_map, option_to_list, slice_get}
use Rattle.std.specs.List.{list_any}
use Rattle.std.proofs.lemmas.List.Elements.{All-head, All-nil, All-push, All-tail, filter-append}
use Rattle.moos_client.specs.Hearing.{heard_in}
use Rattle.moos_db.specs.declared.mail.Letter.{Letter}
use Rattle.moos_db.specs.Database.{letter_of, letters_after, letters_at}
use Rattle.moos_mail.proofs.Inboxes.{posts-inbox_of}
use Rattle.moos_post.specs.declared.entry.Entry.{Entry}
use Rattle.moos_post.specs.declared.registration.Reg.{Reg}
use Rattle.moos_post.specs.declared.value.Post.{Post}
use Rattle.moos_post.specs.Delivery.{Inbox, Live, Mailing, empty_inbox, is_fetch, mail_after, with_entry}
use Rattle.moos_post.specs.History.{History, posts_of, posts_of_entry}
use Rattle.play_laws.specs.Calm.{posts_heard}
use Rattle.play_laws.specs.Heard.{ask_for, ask_of}
use Rattle.play_laws.proofs.Keeping.{AsksNoMore, is_for, IsAsked, keep_asked_post, keep_entry, keep_own, keep_post, kept, Kept, kept_entry, kept_is, said, Sane, settle, settled, Through}

module _ (names : List (List ℕ)) (regs : List Reg) (client : ℕ)
  where
    abbrev after : Kept → History → Kept
    after had entries = fold (keep_entry names (ask_for regs) client) had entries

    settle_twice : (lives : List Through) → map (settle names (ask_for regs)) (map (settle names (ask_for regs)) lives) ≡ map (settle names (ask_for regs)) lives
    settle_twice [] = refl
    settle_twice (live ∷ lives) = ap (λ later. settle names (ask_for regs) live ∷ later) (settle_twice lives)

    settled_twice : (had : Kept) → settled names (ask_for regs) (settled names (ask_for regs) had) ≡ settled names (ask_for regs) had
    settled_twice had = kept_is (settled names (ask_for regs) (settled names (ask_for regs) had)) (settled names (ask_for regs) had) refl (settle_twice had.lives) refl

    keep_nothing : (had : Kept) (posts : List Post) → list_any (λ (post : Post). ask_for regs post.var) posts ≡ false → fold (keep_post names (ask_for regs)) had posts ≡ had
    keep_nothing had [] none = refl
    keep_nothing had (post ∷ posts) none = by (ask_for regs post.var) none (keep_nothing had posts)
      where
        by : (b : Bool) → (b || list_any (λ (post : Post). ask_for regs post.var) posts) ≡ false → (list_any (λ (post : Post). ask_for regs post.var) posts ≡ false → fold (keep_post names (ask_for regs)) had posts ≡ had)
            → fold (keep_post names (ask_for regs)) (cond b (keep_asked_post names (ask_for regs) had post) had) posts ≡ had
        by true none rest = absurd (let e : true ≡ false = none in cc)
        by false none rest = rest none

    -- an entry of somebody else that posts nothing that is asked for
    kept_beside : (had : Kept) (entry : Entry) → settled names (ask_for regs) had ≡ had → is_for client regs entry ≡ false → keep_entry names (ask_for regs) client had entry ≡ had
    kept_beside had entry rests none = by (entry.client == client) none
      where
        by : (b : Bool) → (b || ask_of regs entry) ≡ false
            → settled names (ask_for regs) (fold (keep_post names (ask_for regs)) (cond b (keep_own names (ask_for regs) had entry.call) had) (posts_of_entry entry)) ≡ had
        by true none = absurd (let e : true ≡ false = none in cc)
        by false none = ap (settled names (ask_for regs)) (keep_nothing had (posts_of_entry entry) none) ∙ rests

    rests_after : (had : Kept) (entry : Entry) → settled names (ask_for regs) (keep_entry names (ask_for regs) client had entry) ≡ keep_entry names (ask_for regs) client had entry
    rests_after had entry = settled_twice (fold (keep_post names (ask_for regs)) (cond (entry.client == client) (keep_own names (ask_for regs) had entry.call) had) (posts_of_entry entry))

    erased : (had : Kept) (entries : History) → settled names (ask_for regs) had ≡ had → after had entries ≡ after had (filter (is_for client regs) entries)
    erased had [] rests = refl
    erased had (entry ∷ entries) rests =
        by (is_for client regs entry) refl (erased (keep_entry names (ask_for regs) client had entry) entries (rests_after had entry)) (erased had entries rests)
      where
        by : (b : Bool) → is_for client regs entry ≡ b
            → after (keep_entry names (ask_for regs) client had entry) entries ≡ after (keep_entry names (ask_for regs) client had entry) (filter (is_for client regs) entries)
            → after had entries ≡ after had (filter (is_for client regs) entries)
            → after (keep_entry names (ask_for regs) client had entry) entries ≡ after had (cond b (entry ∷ filter (is_for client regs) entries) (filter (is_for client regs) entries))
        by true is kept dropped = kept
        by false is kept dropped = ap (λ had. after had entries) (kept_beside had entry rests is) ∙ dropped

    kept_all : (inbox : Inbox) (entries : History) → Sane names (ask_for regs) inbox.entries inbox → All (AsksNoMore names (ask_for regs) client) entries
        → kept names (ask_for regs) (fold (with_entry names client) inbox entries) ≡ after (kept names (ask_for regs) inbox) entries
    kept_all inbox [] sane all = refl
    kept_all inbox (entry ∷ entries) sane all =
        let step = kept_entry names (ask_for regs) client inbox entry sane (All-head (AsksNoMore names (ask_for regs) client) entry entries all) in
        kept_all (with_entry names client inbox entry) entries step.sane (All-tail (AsksNoMore names (ask_for regs) client) entry entries all) ∙ ap (λ had. after had entries) step.is

    -- what waits for the client behind a history
    abbrev pub waits_in : History → List Post
    waits_in history = said (posts_of history) (mail_after names client history)

    empty_sane : Sane names (ask_for regs) 0 empty_inbox
    empty_sane = record {
      fetched = omega arith;
      numbers = All-nil (λ (one : Mailing). one.number < 0);
      entries = All-nil (λ (one : Mailing). one.entry < 0);
      lives = All-nil (λ (live : Live). live.made < 0);
      asked = All-nil (λ (live : Live). IsAsked names (ask_for regs) live.reg);
    }

    waits_kept : (history : History) → All (AsksNoMore names (ask_for regs) client) history → waits_in history ≡ (after (kept names (ask_for regs) empty_inbox) (filter (is_for client regs) history)).waits
    waits_kept history all =
        ap (λ posts. said posts (mail_after names client history)) (sym (posts-inbox_of names client history))
        ∙ ap (λ (had : Kept). had.waits) (kept_all empty_inbox history empty_sane all ∙ erased (kept names (ask_for regs) empty_inbox) history refl)

    -- Two histories that have the same entries for the client leave it the same mail.
    pub same_waits : (history other : History) → All (AsksNoMore names (ask_for regs) client) history → All (AsksNoMore names (ask_for regs) client) other
        → filter (is_for client regs) history ≡ filter (is_for client regs) other → waits_in history ≡ waits_in other
    same_waits history other all all' same = waits_kept history all ∙ ap (λ entries. (after (kept names (ask_for regs) empty_inbox) entries).waits) same ∙ sym (waits_kept other all')

    -- ---- what is heard at each fetch

    posts_at : (posts : List Post) (numbers : List ℕ) → map (λ (letter : Letter). letter.post) (letters_at posts numbers) ≡ said posts numbers
    posts_at posts [] = refl
    posts_at posts (number ∷ numbers) = by (slice_get posts number) (posts_at posts numbers)
      where
        by : (found : Option Post) → map (λ (letter : Letter). letter.post) (letters_at posts numbers) ≡ said posts numbers
            → map (λ (letter : Letter). letter.post) (option_to_list (option_map (letter_of number) found) ++ letters_at posts numbers) ≡ option_to_list found ++ said posts numbers
        by None same = same
        by (Some post) same = ap (λ later. post ∷ later) same

    -- the mail of a client behind two histories that have the same entries for it
    pub same_posts : (history other : History) → All (AsksNoMore names (ask_for regs) client) history → All (AsksNoMore names (ask_for regs) client) other
        → filter (is_for client regs) history ≡ filter (is_for client regs) other → map (λ (letter : Letter). letter.post) (letters_after names client history) ≡ map (λ (letter : Letter). letter.post) (letters_after names client other)
    same_posts history other all all' same =
        posts_at (posts_of history) (mail_after names client history) ∙ same_waits history other all all' same ∙ sym (posts_at (posts_of other) (mail_after names client other))

    own_for : (entry : Entry) → (entry.client == client) ≡ true → is_for client regs entry ≡ true
    own_for entry is = ap (λ b. b || ask_of regs entry) is

    more_for : (past past' : History) (entry : Entry) → filter (is_for client regs) past ≡ filter (is_for client regs) past' → filter (is_for client regs) (past ++ entry ∷ []) ≡ filter (is_for client regs) (past' ++ entry ∷ [])
    more_for past past' entry same =
        filter-append (is_for client regs) past (entry ∷ []) ∙ ap (λ front. front ++ filter (is_for client regs) (entry ∷ [])) same ∙ sym (filter-append (is_for client regs) past' (entry ∷ []))

    less_for : (past past' : History) (entry : Entry) → is_for client regs entry ≡ false → filter (is_for client regs) past ≡ filter (is_for client regs) past' → filter (is_for client regs) (past ++ entry ∷ []) ≡ filter (is_for client regs) past'
    less_for past past' entry none same =
        filter-append (is_for client regs) past (entry ∷ []) ∙ ap (λ b. filter (is_for client regs) past ++ cond b (entry ∷ []) []) none ∙ append-nil (filter (is_for client regs) past) ∙ same

    -- what is heard doesn't depend on the other entries
    pub heard_erased : (past past' later : History) → All (AsksNoMore names (ask_for regs) client) past → All (AsksNoMore names (ask_for regs) client) past' → All (AsksNoMore names (ask_for regs) client) later
        → filter (is_for client regs) past ≡ filter (is_for client regs) past' → heard_in (posts_heard names) client past later ≡ heard_in (posts_heard names) client past' (filter (is_for client regs) later)
    heard_erased past past' [] all all' rest same = refl
    heard_erased past past' (entry ∷ later) all all' rest same =
        by (is_for client regs entry) (entry.client == client) refl refl
        (heard_erased (past ++ entry ∷ []) (past' ++ entry ∷ []) later (more past all) (more past' all') rest' (more_for past past' entry same))
        (λ none. heard_erased (past ++ entry ∷ []) past' later (more past all) all' rest' (less_for past past' entry none same))
      where
        here : AsksNoMore names (ask_for regs) client entry
        here = All-head (AsksNoMore names (ask_for regs) client) entry later rest

        rest' : All (AsksNoMore names (ask_for regs) client) later
        rest' = All-tail (AsksNoMore names (ask_for regs) client) entry later rest

        more : (past : History) → All (AsksNoMore names (ask_for regs) client) past → All (AsksNoMore names (ask_for regs) client) (past ++ entry ∷ [])
        more past all = All-push (AsksNoMore names (ask_for regs) client) past entry all here

        some : History
        some = filter (is_for client regs) later

        by : (b own : Bool) → is_for client regs entry ≡ b → (entry.client == client) ≡ own
            → heard_in (posts_heard names) client (past ++ entry ∷ []) later ≡ heard_in (posts_heard names) client (past' ++ entry ∷ []) (filter (is_for client regs) later)
            → (is_for client regs entry ≡ false → heard_in (posts_heard names) client (past ++ entry ∷ []) later ≡ heard_in (posts_heard names) client past' (filter (is_for client regs) later))
            → cond (own && is_fetch entry.call) (posts_heard names client entry.stamp past ∷ heard_in (posts_heard names) client (past ++ entry ∷ []) later) (heard_in (posts_heard names) client (past ++ entry ∷ []) later)
            ≡ heard_in (posts_heard names) client past' (cond b (entry ∷ some) some)
        by true own is e same' none =
            ap (λ heard. cond (own && is_fetch entry.call) (posts_heard names client entry.stamp past ∷ heard) heard) same'
            ∙ ap (λ posts. cond (own && is_fetch entry.call) (posts ∷ heard_in (posts_heard names) client (past' ++ entry ∷ []) some) (heard_in (posts_heard names) client (past' ++ entry ∷ []) some)) (same_posts past past' all all' same)
            ∙ ap (λ own. cond (own && is_fetch entry.call) (posts_heard names client entry.stamp past' ∷ heard_in (posts_heard names) client (past' ++ entry ∷ []) some) (heard_in (posts_heard names) client (past' ++ entry ∷ []) some)) (sym e)
        by false true is e same' none = absurd (let h : true ≡ false = sym (own_for entry e) ∙ is in cc)
        by false false is e same' none = none is
