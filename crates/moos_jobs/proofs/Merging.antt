-- Two histories that are lawful for the same script and helm are one.
use Rattle.std.proofs.Common.{◌≡◌, ℕ, suc, ◌*◌, ◌≤◌, ◌==◌, Bool, true, false, cond, nat_eq, nat_le, Option, Some, None, List, [], ◌∷◌, ◌++◌, length, refl, ap, sym, ◌∙◌, subst, arith, append_assoc, length-append, inl, inr}
use Rattle.std.specs.Prelude.{All, map, ◌≢◌}
use Rattle.std.proofs.lemmas.Bool.{and_parts, cases_eq, eqb-false, eqb-true}
use Rattle.std.proofs.lemmas.List.{append_cancel_left}
use Rattle.std.proofs.lemmas.List.Elements.{All-filter, All-head, All-tail, filter-append}
use Rattle.helm_core.specs.Ticks.{Tick}
use Rattle.moos_client.specs.Calls.{entries_of}
use Rattle.moos_post.specs.declared.entry.Entry.{Entry}
use Rattle.moos_post.specs.History.{History}
use Rattle.moos_lawful.specs.Schedules.{never_falls}
use Rattle.moos_play.specs.Lawful.{IsLawful, HelmSetup, heard_of, helm_number, moment_of, opening, ticks, ticks_of, ticks_to, mailed_in}
use Rattle.moos_client.specs.Hearing.{heard_in}
use Rattle.moos_client.proofs.Hearing.{heard_append}
use Rattle.script_reader.specs.declared.script.Order.TheVariants.{Stamp}
use Rattle.script_reader.specs.declared.script.Script.{Script}
use Rattle.mission_maker.specs.Stamps.{rise_within}
use Rattle.moos_jobs.specs.SoleHistory.{RisingIsSole}
use Rattle.moos_jobs.proofs.SummaryLines.{first_least, head, head_among, line_with, own_head, own_lines}
use Rattle.moos_jobs.proofs.Ticking.{fetches, heard_at_fetches, same_next}

-- what stands behind the opening of a lawful history
record Follows (script : Script) (helm : Option HelmSetup) (names : List (List ℕ)) (rest : History) : Type 0 where
  steered : entries_of (helm_number script) rest ≡ ticks helm script.stop (heard_of names (helm_number script) (opening helm ++ rest))
  own : (client : ℕ) → client ≢ helm_number script → entries_of client rest ≡ entries_of client script.lines

entries_append : (client : ℕ) (some more : History) → entries_of client (some ++ more) ≡ entries_of client some ++ entries_of client more
entries_append client some more = filter-append (λ entry. entry.client == client) some more

-- behind what both have the next entry of the helm is one
helm_next : (script : Script) (helm : Option HelmSetup) (names : List (List ℕ)) (done next another : History) → Follows script helm names (done ++ next) → Follows script helm names (done ++ another)
    → head (entries_of (helm_number script) next) ≡ head (entries_of (helm_number script) another)
helm_next script None names done next another one two = nothing next one.steered ∙ sym (nothing another two.steered)
  where
    nothing : (next : History) → entries_of (helm_number script) (done ++ next) ≡ [] → head (entries_of (helm_number script) next) ≡ None
    nothing next none = behind (entries_of (helm_number script) done) (entries_of (helm_number script) next) (sym (entries_append (helm_number script) done next) ∙ none)
      where
        behind : (front more : List Entry) → front ++ more ≡ [] → head more ≡ None
        behind [] more none = ap head none
        behind (entry ∷ front) more none = absurd cc
helm_next script (Some helm) names done next another one two =
    same_next helm heard (heard_in (mailed_in names) number past next) (heard_in (mailed_in names) number past another) (ticks_to script.stop helm) (entries_of number done) (entries_of number next) (entries_of number another)
    enough (along next one.steered) (along another two.steered)
  where
    number : ℕ
    number = helm_number script

    past : History
    past = opening (Some helm) ++ done

    heard : List Tick
    heard = heard_of names (helm_number script) (opening (Some helm) ++ done)

    along : (next : History) → entries_of (helm_number script) (done ++ next) ≡ ticks_of helm (heard_of names (helm_number script) (opening (Some helm) ++ (done ++ next))) (ticks_to script.stop helm)
        → entries_of (helm_number script) done ++ entries_of (helm_number script) next
        ≡ ticks_of helm (heard_of names (helm_number script) (opening (Some helm) ++ done) ++ heard_in (mailed_in names) (helm_number script) (opening (Some helm) ++ done) next) (ticks_to script.stop helm)
    along next is =
        sym (entries_append (helm_number script) done next) ∙ is
        ∙ ap (λ heard. ticks_of helm heard (ticks_to script.stop helm))
        (ap (heard_of names (helm_number script)) (sym (append_assoc (opening (Some helm)) done next)) ∙ heard_append (mailed_in names) (helm_number script) [] (opening (Some helm) ++ done) next)

    enough : fetches (entries_of (helm_number script) done) ≤ length (heard_of names (helm_number script) (opening (Some helm) ++ done))
    enough =
        omega (
          arith,
          ap length (heard_append (mailed_in names) (helm_number script) [] (opening (Some helm)) done),
          heard_at_fetches names (helm_number script) (opening (Some helm)) done,
          length-append (heard_of names (helm_number script) (opening (Some helm))) (heard_in (mailed_in names) (helm_number script) (opening (Some helm)) done),
        )

-- and that of any client
next_same : (script : Script) (helm : Option HelmSetup) (names : List (List ℕ)) (done next another : History) → Follows script helm names (done ++ next) → Follows script helm names (done ++ another)
    → (client : ℕ) → head (entries_of client next) ≡ head (entries_of client another)
next_same script helm names done next another one two client =
    elim (cases_eq client (helm_number script)) [
      | inl same ↦ subst (λ n. head (entries_of n next) ≡ head (entries_of n another)) (sym same) (helm_next script helm names done next another one two)
      | inr other ↦
          ap head
          (append_cancel_left (entries_of client done) (entries_of client next) (entries_of client another)
          (sym (entries_append client done next) ∙ one.own client other ∙ sym (two.own client other) ∙ entries_append client done another))
    ]

-- an entry of a client is one of the lines
is_line : (script : Script) (helm : Option HelmSetup) (names : List (List ℕ)) (P : Entry → Type 0) (done : History) (entry : Entry) (later : History) → Follows script helm names (done ++ entry ∷ later)
    → entry.client ≢ helm_number script → All P script.lines → P entry
is_line script helm names P done entry later follows other all =
    All-head P entry (entries_of entry.client later)
    (subst (All P) (own_head entry later)
    (behind (entries_of entry.client done) (entries_of entry.client (entry ∷ later))
    (subst (All P) (entries_append entry.client done (entry ∷ later))
    (subst (All P) (sym (follows.own entry.client other)) (All-filter (λ one. one.client == entry.client) P script.lines all)))))
  where
    behind : (front more : List Entry) → All P (front ++ more) → All P more
    behind [] more all = all
    behind (one ∷ front) more all = behind front more (All-tail P one (front ++ more) all)

-- entries of two clients that come next in two such histories can't both be first
not_both : (script : Script) (helm : Option HelmSetup) (names : List (List ℕ)) (from to : ℕ) (done : History) (one other : Entry) (later behind : History) → rise_within from to script.lines ≡ true
    → Follows script helm names (done ++ one ∷ later) → Follows script helm names (done ++ other ∷ behind)
    → moment_of (helm_number script) one ≡ moment_of (helm_number script) other → (one.client ≡ other.client → ⊥) → ⊥
not_both script helm names from to done one other later behind rise follows follows' same apart =
    by (nat_eq one.client number) (nat_eq other.client number) refl refl same
  where
    number : ℕ
    number = helm_number script

    clients : one.stamp ≡ other.stamp → one.client ≢ helm_number script → other.client ≢ helm_number script → ⊥
    clients stamps mine yours =
        let all = own_lines from to script.lines rise in
        let first : line_with one.stamp script.lines ≡ Some one = is_line script helm names (λ line. line_with line.stamp script.lines ≡ Some line) done one later follows mine all in
        let second : line_with other.stamp script.lines ≡ Some other = is_line script helm names (λ line. line_with line.stamp script.lines ≡ Some line) done other behind follows' yours all in
        let is : Some one ≡ Some other = sym first ∙ ap (λ stamp. line_with stamp script.lines) stamps ∙ second in
        let entries : one ≡ other = cc in
        apart (ap (λ (entry : Entry). entry.client) entries)

    by : (b c : Bool) → nat_eq one.client (helm_number script) ≡ b → nat_eq other.client (helm_number script) ≡ c
        → cond b (suc (2 * one.stamp)) (2 * one.stamp) ≡ cond c (suc (2 * other.stamp)) (2 * other.stamp) → ⊥
    by true true mine yours same = apart (eqb-true one.client (helm_number script) mine ∙ sym (eqb-true other.client (helm_number script) yours))
    by true false mine yours same = omega (arith, same)
    by false true mine yours same = omega (arith, same)
    by false false mine yours same = clients (omega (arith, same)) (eqb-false one.client (helm_number script) mine) (eqb-false other.client (helm_number script) yours)

-- two first entries are one
first_same : (script : Script) (helm : Option HelmSetup) (names : List (List ℕ)) (from to last : ℕ) (done : History) (one other : Entry) (later behind : History) → rise_within from to script.lines ≡ true
    → Follows script helm names (done ++ one ∷ later) → Follows script helm names (done ++ other ∷ behind) → never_falls last (map (moment_of (helm_number script)) (one ∷ later)) ≡ true
    → never_falls last (map (moment_of (helm_number script)) (other ∷ behind)) ≡ true → other ≡ one
first_same script helm names from to last done one other later behind rise follows follows' order order' =
    elim (cases_eq one.client other.client) [
      | inl same ↦
          let is : Some one ≡ Some other
          = sym (ap head (own_head one later)) ∙ heads one.client ∙ ap (λ client. head (entries_of client (other ∷ behind))) same ∙ ap head (own_head other behind) in
          cc
      | inr apart ↦
          let mine : key one ≤ key other
          = head_among (λ entry. key one ≤ key entry) other.client (one ∷ later) other (heads other.client ∙ ap head (own_head other behind)) (first_least key last one later order) in
          let yours : key other ≤ key one
          = head_among (λ entry. key other ≤ key entry) one.client (other ∷ behind) one (sym (heads one.client) ∙ ap head (own_head one later)) (first_least key last other behind order') in
          absurd (not_both script helm names from to done one other later behind rise follows follows' (both (key one) (key other) mine yours) apart)
    ]
  where
    key : Entry → ℕ
    key entry = moment_of (helm_number script) entry

    heads : (client : ℕ) → head (entries_of client (one ∷ later)) ≡ head (entries_of client (other ∷ behind))
    heads client = next_same script helm names done (one ∷ later) (other ∷ behind) follows follows' client

    both : (m n : ℕ) → m ≤ n → n ≤ m → m ≡ n
    both m n le ge = omega arith

-- so they are one from any common front on
follow : (script : Script) (helm : Option HelmSetup) (names : List (List ℕ)) (from to last : ℕ) (done rest other : History) → rise_within from to script.lines ≡ true
    → Follows script helm names (done ++ rest) → Follows script helm names (done ++ other) → never_falls last (map (moment_of (helm_number script)) rest) ≡ true
    → never_falls last (map (moment_of (helm_number script)) other) ≡ true → other ≡ rest
follow script helm names from to last done [] [] rise follows follows' order order' = refl
follow script helm names from to last done [] (two ∷ other) rise follows follows' order order' =
    let is : None ≡ Some two = next_same script helm names done [] (two ∷ other) follows follows' two.client ∙ ap head (own_head two other) in absurd cc
follow script helm names from to last done (one ∷ rest) [] rise follows follows' order order' =
    let is : Some one ≡ None = sym (ap head (own_head one rest)) ∙ next_same script helm names done (one ∷ rest) [] follows follows' one.client in absurd cc
follow script helm names from to last done (one ∷ rest) (two ∷ other) rise follows follows' order order' =
    ap (λ entry. entry ∷ other) same
    ∙ ap (λ more. one ∷ more)
    (follow script helm names from to (moment_of (helm_number script) one) (done ++ one ∷ []) rest other rise
    (subst (Follows script helm names) (sym (append_assoc done (one ∷ []) rest)) follows)
    (subst (Follows script helm names) (sym (append_assoc done (one ∷ []) other)) (subst (λ entry. Follows script helm names (done ++ entry ∷ other)) same follows'))
    (and_parts (nat_le last (moment_of (helm_number script) one)) (never_falls (moment_of (helm_number script) one) (map (moment_of (helm_number script)) rest)) order).1
    (and_parts (nat_le last (moment_of (helm_number script) one)) (never_falls (moment_of (helm_number script) one) (map (moment_of (helm_number script)) other))
    (subst (λ entry. never_falls last (map (moment_of (helm_number script)) (entry ∷ other)) ≡ true) same order')).1)
  where
    same : two ≡ one
    same = first_same script helm names from to last done one two rest other rise follows follows' order order'

-- A script whose lines rise leaves one history in the order of the stamps.
pub sole_history : RisingIsSole
sole_history script helm names from to history other rise lawful lawful' =
    lawful'.opened
    ∙ ap (λ rest. opening helm ++ rest) (follow script helm names from to 0 [] lawful.rest lawful'.rest rise (behind history lawful) (behind other lawful') lawful.moments lawful'.moments)
    ∙ sym lawful.opened
  where
    behind : (history : History) → (lawful : IsLawful Stamp script helm names history) → Follows script helm names lawful.rest
    behind history lawful = record {
      steered = lawful.steered ∙ ap (λ history. ticks helm script.stop (heard_of names (helm_number script) history)) lawful.opened;
      own = lawful.own;
    }
