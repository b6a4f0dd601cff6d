-- In a calm script nothing that a client hears depends on how the calls of one stamp fell.
use Rattle.std.proofs.Common.{◌≡◌, ◌≢◌, ℕ, suc, ◌*◌, ◌==◌, Bool, true, false, nat_le, List, [], ◌∷◌, ◌++◌, Option, refl, sym, ap, ◌∙◌, subst, arith, append-nil, inl, inr, ◌⊎◌}
use Rattle.std.specs.Prelude.{All, map, filter}
use Rattle.std.specs.List.{Contains}
use Rattle.std.proofs.lemmas.Bool.{cases_eq, eqb-true, or_cases}
use Rattle.std.proofs.lemmas.List.{map-append}
use Rattle.std.proofs.lemmas.List.Elements.{All-contains_itself, All-filter, All-nil, All-weaker, filter-append, filter_passes}
use Rattle.helm_core.specs.Ticks.{pairs_mailed}
use Rattle.moos_client.specs.Calls.{entries_of}
use Rattle.moos_client.specs.Hearing.{heard_in}
use Rattle.moos_db.specs.declared.mail.Letter.{Letter}
use Rattle.moos_db.specs.Database.{letters_after, pair_posted}
use Rattle.moos_lawful.proofs.Rising.{front_rises}
use Rattle.moos_lawful.specs.Schedules.{never_falls}
use Rattle.moos_post.specs.declared.entry.Entry.{Entry}
use Rattle.moos_post.specs.declared.registration.Reg.{Reg}
use Rattle.moos_post.specs.History.{History}
use Rattle.moos_play.specs.Lawful.{HelmSetup, helm_number, IsLawful, moment_of, opening}
use Rattle.script_reader.specs.declared.script.Order.TheVariants.{Stamp}
use Rattle.script_reader.specs.declared.script.Script.{Script}
use Rattle.play_laws.specs.Calm.{CalmHearTheSame, HearTheSame, IsCalm, LeavesAlone, mails_to, posts_heard, registered_by_client}
use Rattle.play_laws.specs.Heard.{ask_for, ask_of}
use Rattle.play_laws.proofs.Asking.{all_front, front_asks}
use Rattle.play_laws.proofs.Cutting.{done_by, helm_moment, other_moment}
use Rattle.play_laws.proofs.Erasing.{heard_erased, same_posts}
use Rattle.play_laws.proofs.Keeping.{AsksNoMore, is_for}
use Rattle.play_laws.proofs.Merged.{all_of_parts, filter_rises, filter_twice, merged}
use Rattle.play_laws.proofs.Parting.{behind_opening}
use Rattle.play_laws.proofs.Steered.{AreMailed, InputsTell, same_helm, SameHelm}

-- an entry of the helm, or one of the lines
abbrev IsDue : Script → Entry → Type 0
IsDue script entry = (entry.client ≡ helm_number script) ⊎ Contains script.lines entry

all_due : (script : Script) (helm : Option HelmSetup) (names : List (List ℕ)) (history : History) → (lawful : IsLawful Stamp script helm names history) → All (IsDue script) lawful.rest
all_due script helm names history lawful = all_of_parts (IsDue script) lawful.rest (λ n. by n (cases_eq n (helm_number script)))
  where
    by : (n : ℕ) → (n ≡ helm_number script) ⊎ (n ≡ helm_number script → ⊥) → All (IsDue script) (entries_of n lawful.rest)
    by n (inl same) =
        All-weaker (λ entry. (entry.client == n) ≡ true) (IsDue script) (λ entry is. inl (eqb-true entry.client n is ∙ same)) (entries_of n lawful.rest) (filter_passes (λ (entry : Entry). entry.client == n) lawful.rest)
    by n (inr apart) =
        subst (All (IsDue script)) (sym (lawful.own n apart))
        (All-weaker (Contains script.lines) (IsDue script) (λ entry is. inr is) (entries_of n script.lines) (All-filter (λ (entry : Entry). entry.client == n) (Contains script.lines) script.lines (All-contains_itself script.lines)))

module _ (script : Script) (helm : Option HelmSetup) (calm : IsCalm script helm)
  where
    number : ℕ
    number = helm_number script

    abbrev regs_of : ℕ → List Reg
    regs_of client = registered_by_client script helm client

    -- such an entry that is for the client
    record IsFor (client : ℕ) (entry : Entry) : Type 0 where
      due : IsDue script entry
      is : is_for client (registered_by_client script helm client) entry ≡ true

    -- two lines of one stamp that are for one client are of one client
    lines_apart : (client : ℕ) (one other : Entry) → Contains script.lines one → Contains script.lines other → one.stamp ≡ other.stamp
        → is_for client (registered_by_client script helm client) one ≡ true → is_for client (registered_by_client script helm client) other ≡ true → one.client ≢ other.client → ⊥
    lines_apart client one other within within' stamps is is' apart =
        by (or_cases (one.client == client) (ask_of (regs_of client) one) is) (or_cases (other.client == client) (ask_of (regs_of client) other) is')
      where
        mine : LeavesAlone script helm one other
        mine = calm one other within within' stamps apart

        yours : LeavesAlone script helm other one
        yours = calm other one within' within (sym stamps) (λ same. apart (sym same))

        clash : (b : Bool) → b ≡ true → b ≡ false → ⊥
        clash b holds fails = let e : true ≡ false = sym holds ∙ fails in absurd cc

        by : ((one.client == client) ≡ true) ⊎ (ask_of (registered_by_client script helm client) one ≡ true) → ((other.client == client) ≡ true) ⊎ (ask_of (registered_by_client script helm client) other ≡ true) → ⊥
        by (inl own) (inl own') = apart (eqb-true one.client client own ∙ sym (eqb-true other.client client own'))
        by (inl own) (inr asks') = clash (ask_of (registered_by_client script helm client) other) asks' (subst (λ n. ask_of (registered_by_client script helm n) other ≡ false) (eqb-true one.client client own) mine.unheard)
        by (inr asks) (inl own') = clash (ask_of (registered_by_client script helm client) one) asks (subst (λ n. ask_of (registered_by_client script helm n) one ≡ false) (eqb-true other.client client own') yours.unheard)
        by (inr asks) (inr asks') = clash (ask_of (registered_by_client script helm client) other) asks' (mine.apart client asks)

    line_of : (entry : Entry) → entry.client ≢ helm_number script → IsDue script entry → Contains script.lines entry
    line_of entry apart (inl same) = absurd (apart same)
    line_of entry apart (inr within) = within

    -- entries for one client that have one moment are of one client
    same_client : (client : ℕ) (one other : Entry) → IsFor client one → IsFor client other → moment_of (helm_number script) one ≡ moment_of (helm_number script) other → one.client ≡ other.client
    same_client client one other for for' same = by (cases_eq one.client (helm_number script)) (cases_eq other.client (helm_number script))
      where
        by : (one.client ≡ helm_number script) ⊎ (one.client ≡ helm_number script → ⊥) → (other.client ≡ helm_number script) ⊎ (other.client ≡ helm_number script → ⊥) → one.client ≡ other.client
        by (inl mine) (inl yours) = mine ∙ sym yours
        by (inl mine) (inr yours) =
            let left : moment_of (helm_number script) one ≡ suc (2 * one.stamp) = helm_moment (helm_number script) one mine in
            let right : moment_of (helm_number script) other ≡ 2 * other.stamp = other_moment (helm_number script) other yours in
            absurd (omega (arith, left, right, same))
        by (inr mine) (inl yours) =
            let left : moment_of (helm_number script) one ≡ 2 * one.stamp = other_moment (helm_number script) one mine in
            let right : moment_of (helm_number script) other ≡ suc (2 * other.stamp) = helm_moment (helm_number script) other yours in
            absurd (omega (arith, left, right, same))
        by (inr mine) (inr yours) =
            let left : moment_of (helm_number script) one ≡ 2 * one.stamp = other_moment (helm_number script) one mine in
            let right : moment_of (helm_number script) other ≡ 2 * other.stamp = other_moment (helm_number script) other yours in
            let stamps : one.stamp ≡ other.stamp = omega (arith, left, right, same) in
            at (cases_eq one.client other.client) stamps
          where
            at : (one.client ≡ other.client) ⊎ (one.client ≡ other.client → ⊥) → one.stamp ≡ other.stamp → one.client ≡ other.client
            at (inl is) stamps = is
            at (inr apart) stamps = absurd (lines_apart client one other (line_of one mine for.due) (line_of other yours for'.due) stamps for.is for'.is apart)

    -- two ordered lists with the same entries of each client have the same entries for one
    same_for : (client : ℕ) (entries others : History) → All (IsDue script) entries → All (IsDue script) others → never_falls 0 (map (moment_of (helm_number script)) entries) ≡ true
        → never_falls 0 (map (moment_of (helm_number script)) others) ≡ true → ((n : ℕ) → entries_of n entries ≡ entries_of n others)
        → filter (is_for client (registered_by_client script helm client)) entries ≡ filter (is_for client (registered_by_client script helm client)) others
    same_for client entries others all all' order order' same =
        merged (moment_of (helm_number script)) (λ (entry : Entry). entry.client) (IsFor client) (same_client client) 0 (filter test entries) (filter test others) (for entries all) (for others all')
        (filter_rises (moment_of (helm_number script)) test 0 entries order) (filter_rises (moment_of (helm_number script)) test 0 others order')
        (λ n. filter_twice (λ (entry : Entry). entry.client == n) test entries ∙ ap (filter test) (same n) ∙ sym (filter_twice (λ (entry : Entry). entry.client == n) test others))
      where
        test : Entry → Bool
        test entry = is_for client (registered_by_client script helm client) entry

        for : (entries : History) → All (IsDue script) entries → All (IsFor client) (filter (is_for client (registered_by_client script helm client)) entries)
        for entries all =
            All-weaker (λ entry. IsDue script entry × (is_for client (registered_by_client script helm client) entry ≡ true)) (IsFor client) (λ entry both. record { due = both.0; is = both.1 })
            (filter (is_for client (registered_by_client script helm client)) entries)
            (λ k d within. (All-filter (is_for client (registered_by_client script helm client)) (IsDue script) entries all k d within, filter_passes (is_for client (registered_by_client script helm client)) entries k d within))

    module _ (names : List (List ℕ)) (history other : History) (lawful : IsLawful Stamp script helm names history) (lawful' : IsLawful Stamp script helm names other)
      where
        -- the same clients have done the same by an entry of the helm
        done_same : (before behind before' behind' : History) (fetch : Entry) → fetch.client ≡ helm_number script → lawful.rest ≡ before ++ fetch ∷ behind → lawful'.rest ≡ before' ++ fetch ∷ behind'
            → entries_of (helm_number script) before ≡ entries_of (helm_number script) before' → (n : ℕ) → entries_of n before ≡ entries_of n before'
        done_same before behind before' behind' fetch own is is' same n = by (cases_eq n (helm_number script))
          where
            early : Entry → Bool
            early one = nat_le (moment_of (helm_number script) one) (moment_of (helm_number script) fetch)

            by : (n ≡ helm_number script) ⊎ (n ≡ helm_number script → ⊥) → entries_of n before ≡ entries_of n before'
            by (inl mine) = ap (λ n. entries_of n before) mine ∙ same ∙ ap (λ n. entries_of n before') (sym mine)
            by (inr apart) =
                done_by (helm_number script) (λ (entry : Entry). entry.client == n) others lawful.rest before fetch behind is own lawful.moments
                ∙ ap (filter early) (lawful.own n apart ∙ sym (lawful'.own n apart))
                ∙ sym (done_by (helm_number script) (λ (entry : Entry). entry.client == n) others lawful'.rest before' fetch behind' is' own lawful'.moments)
              where
                others : (one : Entry) → (one.client == n) ≡ true → one.client ≢ helm_number script
                others one is mine = apart (sym (eqb-true one.client n is) ∙ mine)

        front_due : (rest before : History) (entry : Entry) (behind : History) → rest ≡ before ++ entry ∷ behind → All (IsDue script) rest → All (IsDue script) before
        front_due rest before entry behind is all = all_front (IsDue script) before (entry ∷ behind) (subst (All (IsDue script)) is all)

        front_ordered : (rest before : History) (entry : Entry) (behind : History) → rest ≡ before ++ entry ∷ behind → never_falls 0 (map (moment_of (helm_number script)) rest) ≡ true
            → never_falls 0 (map (moment_of (helm_number script)) before) ≡ true
        front_ordered rest before entry behind is order =
            front_rises 0 (map (moment_of (helm_number script)) before) (map (moment_of (helm_number script)) (entry ∷ behind))
            (subst (λ (keys : List ℕ). never_falls 0 keys ≡ true) (ap (map (moment_of (helm_number script))) is ∙ map-append (moment_of (helm_number script)) before (entry ∷ behind)) order)

        -- for a client the same entries stand behind the opening
        behind_same : (client : ℕ) (some others : History) → filter (is_for client (registered_by_client script helm client)) some ≡ filter (is_for client (registered_by_client script helm client)) others
            → filter (is_for client (registered_by_client script helm client)) (opening helm ++ some) ≡ filter (is_for client (registered_by_client script helm client)) (opening helm ++ others)
        behind_same client some others same =
            filter-append (is_for client (registered_by_client script helm client)) (opening helm) some
            ∙ ap (λ back. filter (is_for client (registered_by_client script helm client)) (opening helm) ++ back) same
            ∙ sym (filter-append (is_for client (registered_by_client script helm client)) (opening helm) others)

        said_by : (mail : List Letter) → pairs_mailed mail ≡ map pair_posted (map (λ (letter : Letter). letter.post) mail)
        said_by [] = refl
        said_by (letter ∷ mail) = ap (λ later. pair_posted letter.post ∷ later) (said_by mail)

        mailed_alike : AreMailed script helm names lawful.rest lawful'.rest
        mailed_alike before behind before' behind' fetch own is is' same =
            said_by (letters_after names (helm_number script) (opening helm ++ before))
            ∙ ap (map pair_posted)
            (same_posts names (registered_by_client script helm (helm_number script)) (helm_number script) (opening helm ++ before) (opening helm ++ before')
            (front_asks names Stamp script helm history lawful (helm_number script) before (fetch ∷ behind) is) (front_asks names Stamp script helm other lawful' (helm_number script) before' (fetch ∷ behind') is')
            (behind_same (helm_number script) before before'
            (same_for (helm_number script) before before'
            (front_due lawful.rest before fetch behind is (all_due script helm names history lawful)) (front_due lawful'.rest before' fetch behind' is' (all_due script helm names other lawful'))
            (front_ordered lawful.rest before fetch behind is lawful.moments) (front_ordered lawful'.rest before' fetch behind' is' lawful'.moments)
            (done_same before behind before' behind' fetch own is is' same))))
            ∙ sym (said_by (letters_after names (helm_number script) (opening helm ++ before')))

        helm_same : InputsTell → SameHelm script helm names history other lawful.rest lawful'.rest
        helm_same law = same_helm law Stamp Stamp script helm names history other lawful lawful' mailed_alike

        each_same : InputsTell → (n : ℕ) → entries_of n lawful.rest ≡ entries_of n lawful'.rest
        each_same law n = by (cases_eq n (helm_number script))
          where
            by : (n ≡ helm_number script) ⊎ (n ≡ helm_number script → ⊥) → entries_of n lawful.rest ≡ entries_of n lawful'.rest
            by (inl mine) = ap (λ n. entries_of n lawful.rest) mine ∙ (helm_same law).steered ∙ ap (λ n. entries_of n lawful'.rest) (sym mine)
            by (inr apart) = lawful.own n apart ∙ sym (lawful'.own n apart)

        mails_by : (client : ℕ) (history : History) → (lawful : IsLawful Stamp script helm names history)
            → mails_to names client history ≡ heard_in (posts_heard names) client [] (filter (is_for client (registered_by_client script helm client)) (opening helm ++ lawful.rest))
        mails_by client history lawful =
            ap (mails_to names client) lawful.opened
            ∙ heard_erased names (registered_by_client script helm client) client [] [] (opening helm ++ lawful.rest)
            (All-nil (AsksNoMore names (ask_for (registered_by_client script helm client)) client)) (All-nil (AsksNoMore names (ask_for (registered_by_client script helm client)) client))
            (front_asks names Stamp script helm history lawful client lawful.rest [] (sym (append-nil lawful.rest))) refl

        pub hear_the_same : InputsTell → HearTheSame script helm names history other
        hear_the_same law = record {
          mails = λ client. mails_by client other lawful'
              ∙ sym (ap (heard_in (posts_heard names) client []) (behind_same client lawful.rest lawful'.rest
              (same_for client lawful.rest lawful'.rest (all_due script helm names history lawful) (all_due script helm names other lawful') lawful.moments lawful'.moments (each_same law))))
              ∙ sym (mails_by client history lawful);
          steered = behind_opening helm (helm_number script) other lawful'.rest lawful'.opened
              ∙ ap (λ rest. entries_of (helm_number script) (opening helm) ++ rest) (sym (helm_same law).steered)
              ∙ sym (behind_opening helm (helm_number script) history lawful.rest lawful.opened);
          iterations = sym (helm_same law).iterated;
        }

pub calm_hear_the_same : InputsTell → CalmHearTheSame
calm_hear_the_same law script helm names history other calm lawful lawful' = hear_the_same script helm calm names history other lawful lawful' law
