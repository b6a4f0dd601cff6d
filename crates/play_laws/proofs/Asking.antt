-- In a lawful history a client registers for nothing but what its lines, or the helm's opening, register for.
use Rattle.std.proofs.Common.{◌≡◌, ℕ, zero, suc, ◌==◌, ◌||◌, Bool, true, false, cond, List, [], ◌∷◌, ◌++◌, Option, Some, None, refl, sym, ap, ◌∙◌, subst, append_assoc, inl, inr, ◌⊎◌}
use Rattle.std.specs.Prelude.{All, filter}
use Rattle.std.specs.List.{flat_map}
use Rattle.std.proofs.lemmas.Bool.{cases_eq}
use Rattle.std.proofs.lemmas.List.Elements.{All-append, All-cons, All-head, All-nil, All-tail, filter-append}
use Rattle.std.proofs.lemmas.List.Folds.{list_any-append}
use Rattle.helm_core.specs.Ticks.{Tick}
use Rattle.moos_client.specs.Calls.{entries_of}
use Rattle.moos_post.specs.declared.entry.Entry.{Entry}
use Rattle.moos_post.specs.declared.registration.Reg.{Reg}
use Rattle.moos_post.specs.Patterns.{matches}
use Rattle.moos_post.specs.History.{History}
use Rattle.moos_play.specs.Lawful.{heard_of, HelmSetup, helm_number, IsLawful, opening, tick_entries, ticks, ticks_of, ticks_to}
use Rattle.script_reader.specs.declared.script.Order.{Order}
use Rattle.script_reader.specs.declared.script.Script.{Script}
use Rattle.play_laws.specs.Calm.{registered_by_client}
use Rattle.play_laws.specs.Heard.{ask_for, registered_by}
use Rattle.play_laws.proofs.Keeping.{AsksNoMore, IsAsked}

pub all_front : {A : Type 0} (P : A → Type 0) (some more : List A) → All P (some ++ more) → All P some
all_front P [] more all = All-nil P
all_front P (one ∷ some) more all = All-cons P one some (All-head P one (some ++ more) all) (all_front P some more (All-tail P one (some ++ more) all))

all_back : {A : Type 0} (P : A → Type 0) (some more : List A) → All P (some ++ more) → All P more
all_back P [] more all = all
all_back P (one ∷ some) more all = all_back P some more (All-tail P one (some ++ more) all)

-- what holds of those that pass a test
passed : (P : Entry → Type 0) (test : Entry → Bool) (entries : List Entry) → All P (filter test entries) → All (λ entry. test entry ≡ true → P entry) entries
passed P test [] all = All-nil (λ entry. test entry ≡ true → P entry)
passed P test (entry ∷ entries) all = All-cons (λ entry. test entry ≡ true → P entry) entry entries (first (test entry) all) (passed P test entries (rest (test entry) all))
  where
    first : (b : Bool) → All P (cond b (entry ∷ filter test entries) (filter test entries)) → b ≡ true → P entry
    first true all is = All-head P entry (filter test entries) all
    first false all is = absurd (let e : false ≡ true = is in cc)

    rest : (b : Bool) → All P (cond b (entry ∷ filter test entries) (filter test entries)) → All P (filter test entries)
    rest true all = All-tail P entry (filter test entries) all
    rest false all = all

module _ (names : List (List ℕ))
  where
    -- registrations ask for what they ask for
    asked_itself : (before regs : List Reg) → All (IsAsked names (ask_for (before ++ regs))) regs
    asked_itself before [] = All-nil (IsAsked names (ask_for (before ++ [])))
    asked_itself before (reg ∷ regs) =
        All-cons (IsAsked names (ask_for (before ++ reg ∷ regs))) reg regs
        (λ var is. list_any-append (λ (one : Reg). matches one.var var) before (reg ∷ regs) ∙ ap (λ b. ask_for before var || (b || ask_for regs var)) is ∙ last (ask_for before var))
        (subst (λ (all : List Reg). All (IsAsked names (ask_for all)) regs) (append_assoc before (reg ∷ []) regs) (asked_itself (before ++ reg ∷ []) regs))
      where
        last : (b : Bool) → (b || true) ≡ true
        last true = refl
        last false = refl

    -- the entry's registrations are among these
    abbrev Asks : List Reg → Entry → Type 0
    Asks regs entry = All (IsAsked names (ask_for regs)) (registered_by entry.call)

    each_asks : (regs : List Reg) (entries : List Entry) → All (IsAsked names (ask_for regs)) (flat_map (λ (entry : Entry). registered_by entry.call) entries) → All (Asks regs) entries
    each_asks regs [] all = All-nil (Asks regs)
    each_asks regs (entry ∷ entries) all =
        All-cons (Asks regs) entry entries (all_front (IsAsked names (ask_for regs)) (registered_by entry.call) (flat_map (λ (entry : Entry). registered_by entry.call) entries) all)
        (each_asks regs entries (all_back (IsAsked names (ask_for regs)) (registered_by entry.call) (flat_map (λ (entry : Entry). registered_by entry.call) entries) all))

    ticks_ask : (regs : List Reg) (helm : HelmSetup) (heard : List Tick) (count : ℕ) → All (Asks regs) (ticks_of helm heard count)
    ticks_ask regs helm heard zero = All-nil (Asks regs)
    ticks_ask regs helm heard (suc count) =
        All-append (Asks regs) (ticks_of helm heard count) (tick_entries helm heard count) (ticks_ask regs helm heard count)
        (each_asks regs (tick_entries helm heard count) (All-nil (IsAsked names (ask_for regs))))

    turns_ask : (regs : List Reg) (helm : Option HelmSetup) (stop : ℕ) (heard : List Tick) → All (Asks regs) (ticks helm stop heard)
    turns_ask regs None stop heard = All-nil (Asks regs)
    turns_ask regs (Some helm) stop heard = ticks_ask regs helm heard (ticks_to stop helm)

    -- a client's entries ask for nothing else
    own_ask : (order : Order) (script : Script) (helm : Option HelmSetup) (history : History) → (lawful : IsLawful order script helm names history) → (client : ℕ)
        → All (Asks (registered_by_client script helm client)) (entries_of client (opening helm ++ lawful.rest))
    own_ask order script helm history lawful client =
        subst (All (Asks regs)) (sym (filter-append (λ (entry : Entry). entry.client == client) (opening helm) lawful.rest))
        (All-append (Asks regs) (entries_of client (opening helm)) (entries_of client lawful.rest) (all_front (Asks regs) (entries_of client (opening helm)) (entries_of client script.lines) all) (by (cases_eq client (helm_number script))))
      where
        regs : List Reg
        regs = registered_by_client script helm client

        all : All (Asks regs) (entries_of client (opening helm) ++ entries_of client script.lines)
        all = subst (All (Asks regs)) (filter-append (λ (entry : Entry). entry.client == client) (opening helm) script.lines) (each_asks regs (entries_of client (opening helm ++ script.lines)) (asked_itself [] regs))

        by : (client ≡ helm_number script) ⊎ (client ≡ helm_number script → ⊥) → All (Asks regs) (entries_of client lawful.rest)
        by (inl same) =
            subst (λ n. All (Asks regs) (entries_of n lawful.rest)) (sym same)
            (subst (All (Asks regs)) (sym lawful.steered) (turns_ask regs helm script.stop (heard_of names (helm_number script) history)))
        by (inr apart) = subst (All (Asks regs)) (sym (lawful.own client apart)) (all_back (Asks regs) (entries_of client (opening helm)) (entries_of client script.lines) all)

    -- nor do those in a front of the history
    pub front_asks : (order : Order) (script : Script) (helm : Option HelmSetup) (history : History) → (lawful : IsLawful order script helm names history) → (client : ℕ) (before behind : History)
        → lawful.rest ≡ before ++ behind → All (AsksNoMore names (ask_for (registered_by_client script helm client)) client) (opening helm ++ before)
    front_asks order script helm history lawful client before behind is =
        passed (Asks (registered_by_client script helm client)) (λ (entry : Entry). entry.client == client) (opening helm ++ before)
        (all_front (Asks (registered_by_client script helm client)) (entries_of client (opening helm ++ before)) (entries_of client behind)
        (subst (All (Asks (registered_by_client script helm client)))
        (ap (λ (rest : History). entries_of client (opening helm ++ rest)) is ∙ ap (entries_of client) (sym (append_assoc (opening helm) before behind)) ∙ filter-append (λ (entry : Entry). entry.client == client) (opening helm ++ before) behind)
        (own_ask order script helm history lawful client)))
