-- The history in the order of the lines is lawful, and of rising lines each lawful history is in their order.
use Rattle.std.proofs.Common.{◌≡◌, ◌≢◌, ℕ, zero, suc, ◌+◌, ◌*◌, ◌≤◌, ◌<◌, ◌==◌, ◌&&◌, Bool, true, false, cond, nat_le, nat_lt, Option, Some, None, List, [], ◌∷◌, ◌++◌, length, refl, sym, ap, ◌∙◌, subst, arith, append_assoc, append-nil, length-append, eq-eqb, ne_eqb, inl, inr, ◌⊎◌}
use Rattle.std.specs.Prelude.{All, map, not}
use Rattle.std.proofs.lemmas.Bool.{and_from, and_parts, cases_eq, cases_lt, eqb-true, le-leb, leb-true, le-ltb, lt-leb, lt-ltb, ltb-true, not-true}
use Rattle.std.proofs.lemmas.List.{map-append, take-append-le}
use Rattle.std.proofs.lemmas.List.Elements.{All-cons, All-filter, All-head, All-map, All-nil, All-tail, All-weaker, filter-append, filter_passes}
use Rattle.helm_core.specs.declared.iteration.Iteration.{Iteration}
use Rattle.helm_core.specs.Iterations.{iteration_at}
use Rattle.helm_core.specs.Plans.{wants_of}
use Rattle.helm_core.specs.Ticks.{Tick}
use Rattle.helm_laws.specs.Inputs.{input_of}
use Rattle.mission_maker.specs.Stamps.{rise_within}
use Rattle.moos_client.proofs.Hearing.{heard_append, heard_deaf, heard_none}
use Rattle.moos_client.specs.Calls.{entries_of, entry_of}
use Rattle.moos_client.specs.Hearing.{heard_in}
use Rattle.moos_lawful.proofs.Rising.{lower}
use Rattle.moos_lawful.specs.Schedules.{never_falls}
use Rattle.moos_post.specs.declared.entry.Call.TheVariants.{Register, Post as Posts, Fetch}
use Rattle.moos_post.specs.declared.entry.Entry.{Entry}
use Rattle.moos_post.specs.History.{History}
use Rattle.moos_play.specs.Lawful.{heard_of, HelmSetup, helm_number, IsLawful, mailed_in, moment_of, opening, opening_of, tick_entries, ticks_of, ticks_to}
use Rattle.script_reader.specs.declared.script.Order.TheVariants.{Stamp}
use Rattle.script_reader.specs.declared.script.Script.{Script}
use Rattle.script_reader.specs.Validity.{are_lines, IsValid, keeps_limits}
use Rattle.play_laws.specs.Ordered.{EachHasOrdered, entries_but, IsHelmOf, IsLawfulInOrder, IsOrdered, lines_behind, lines_to, ordered_from, ordered_history, RisingIsOrdered}
use Rattle.play_laws.proofs.Cutting.{helm_moment, other_moment}
use Rattle.play_laws.proofs.Merged.{all_of_parts, filter_all, filter_none, filter_twice, filter_rises, merged}
use Rattle.play_laws.proofs.Ordering.{ordered_is_sole}
use Rattle.play_laws.proofs.Ticking.{opening_deaf}
use Rattle.play_laws.proofs.Steered.{helm_client, InputsTell}

-- ---- lines

-- the lines are of clients below a number, and their stamps don't go back
record AreRising (clients last : ℕ) (lines : List Entry) : Type 0 where
  below : All (λ (line : Entry). line.client < clients) lines
  order : never_falls last (map (λ (line : Entry). line.stamp) lines) ≡ true

rising : (clients last stop : ℕ) (lines : List Entry) → are_lines clients last stop lines ≡ true → AreRising clients last lines
rising clients last stop [] is = record { below = All-nil (λ (line : Entry). line.client < clients); order = refl }
rising clients last stop (line ∷ lines) is =
    let outer = and_parts (nat_lt line.client clients && nat_le last line.stamp && keeps_limits line.call) (are_lines clients line.stamp stop lines) is in
    let mid = and_parts (nat_lt line.client clients && nat_le last line.stamp) (keeps_limits line.call) outer.0 in
    let inner = and_parts (nat_lt line.client clients) (nat_le last line.stamp) mid.0 in
    let rest = rising clients line.stamp stop lines outer.1 in
    record {
      below = All-cons (λ (line : Entry). line.client < clients) line lines (ltb-true line.client clients inner.0) rest.below;
      order = and_from (nat_le last line.stamp) (never_falls line.stamp (map (λ (line : Entry). line.stamp) lines)) inner.1 rest.order;
    }

stamps_from : (last : ℕ) (lines : List Entry) → never_falls last (map (λ (line : Entry). line.stamp) lines) ≡ true → All (λ (line : Entry). last ≤ line.stamp) lines
stamps_from last [] order = All-nil (λ (line : Entry). last ≤ line.stamp)
stamps_from last (line ∷ lines) order =
    let parts = and_parts (nat_le last line.stamp) (never_falls line.stamp (map (λ (line : Entry). line.stamp) lines)) order in
    let first = leb-true last line.stamp parts.0 in
    All-cons (λ (line : Entry). last ≤ line.stamp) line lines first (All-weaker (λ (other : Entry). line.stamp ≤ other.stamp) (λ other. last ≤ other.stamp) (λ other later. omega (arith, later, first)) lines (stamps_from line.stamp lines parts.1))

-- the lines up to a stamp come first
lines_apart : (stamp last : ℕ) (lines : List Entry) → never_falls last (map (λ (line : Entry). line.stamp) lines) ≡ true → lines_to stamp lines ++ lines_behind stamp lines ≡ lines
lines_apart stamp last [] order = refl
lines_apart stamp last (line ∷ lines) order = by (cases_lt stamp line.stamp) (lines_apart stamp line.stamp lines parts.1)
  where
    parts : (nat_le last line.stamp ≡ true) × (never_falls line.stamp (map (λ (line : Entry). line.stamp) lines) ≡ true)
    parts = and_parts (nat_le last line.stamp) (never_falls line.stamp (map (λ (line : Entry). line.stamp) lines)) order

    by : (stamp < line.stamp) ⊎ (line.stamp ≤ stamp) → lines_to stamp lines ++ lines_behind stamp lines ≡ lines → lines_to stamp (line ∷ lines) ++ lines_behind stamp (line ∷ lines) ≡ line ∷ lines
    by (inr early) rest =
        ap (λ b. cond b (line ∷ lines_to stamp lines) (lines_to stamp lines) ++ lines_behind stamp (line ∷ lines)) (le-leb line.stamp stamp early)
        ∙ ap (λ b. line ∷ (lines_to stamp lines ++ cond b (line ∷ lines_behind stamp lines) (lines_behind stamp lines))) (le-ltb stamp line.stamp early)
        ∙ ap (λ later. line ∷ later) rest
    by (inl late) rest =
        ap (λ b. cond b (line ∷ lines_to stamp lines) (lines_to stamp lines) ++ lines_behind stamp (line ∷ lines)) (lt-leb line.stamp stamp late)
        ∙ ap (λ b. lines_to stamp lines ++ cond b (line ∷ lines_behind stamp lines) (lines_behind stamp lines)) (lt-ltb stamp line.stamp late)
        ∙ ap (λ front. front ++ line ∷ lines_behind stamp lines) none
        ∙ ap (λ later. line ∷ later) (ap (λ front. front ++ lines_behind stamp lines) (sym none) ∙ rest)
      where
        none : lines_to stamp lines ≡ []
        none = filter_none (λ (one : Entry). nat_le one.stamp stamp) lines
            (All-weaker (λ (one : Entry). line.stamp ≤ one.stamp) (λ one. nat_le one.stamp stamp ≡ false) (λ one later. lt-leb one.stamp stamp (omega (arith, later, late))) lines (stamps_from line.stamp lines parts.1))

-- lists of numbers behind each other
joined : (low most : ℕ) (some more : List ℕ) → never_falls low some ≡ true → All (λ n. n ≤ most) some → low ≤ most → never_falls most more ≡ true → never_falls low (some ++ more) ≡ true
joined low most [] more rises all less then = lower low most more less then
joined low most (n ∷ some) more rises all less then =
    let parts = and_parts (nat_le low n) (never_falls n some) rises in
    and_from (nat_le low n) (never_falls n (some ++ more)) parts.0
    (joined n most some more parts.1 (All-tail (λ n. n ≤ most) n some all) (All-head (λ n. n ≤ most) n some all) then)

-- the moments of lines that aren't the helm's
line_moments : (helm last : ℕ) (lines : List Entry) → All (λ (line : Entry). line.client ≢ helm) lines → never_falls last (map (λ (line : Entry). line.stamp) lines) ≡ true
    → never_falls (2 * last) (map (moment_of helm) lines) ≡ true
line_moments helm last [] all order = refl
line_moments helm last (line ∷ lines) all order =
    let parts = and_parts (nat_le last line.stamp) (never_falls line.stamp (map (λ (line : Entry). line.stamp) lines)) order in
    let first : last ≤ line.stamp = leb-true last line.stamp parts.0 in
    let moment : moment_of helm line ≡ 2 * line.stamp = other_moment helm line (All-head (λ (line : Entry). line.client ≢ helm) line lines all) in
    and_from (nat_le (2 * last) (moment_of helm line)) (never_falls (moment_of helm line) (map (moment_of helm) lines)) (le-leb (2 * last) (moment_of helm line) (omega (arith, first, moment)))
    (subst (λ low. never_falls low (map (moment_of helm) lines) ≡ true) (sym moment) (line_moments helm line.stamp lines (All-tail (λ (line : Entry). line.client ≢ helm) line lines all) parts.1))

-- ---- parts

-- what a client has among the entries that aren't the helm's
part_but : (helm n : ℕ) (entries : History) → n ≢ helm → entries_of n (entries_but helm entries) ≡ entries_of n entries
part_but helm n entries apart =
    filter_twice (λ (entry : Entry). entry.client == n) (λ entry. not (entry.client == helm)) entries
    ∙ filter_all (λ (entry : Entry). not (entry.client == helm)) (entries_of n entries)
    (All-weaker (λ (entry : Entry). (entry.client == n) ≡ true) (λ entry. not (entry.client == helm) ≡ true) (λ entry is. ap not (ne_eqb entry.client helm (λ mine. apart (sym (eqb-true entry.client n is) ∙ mine)))) (entries_of n entries)
    (filter_passes (λ (entry : Entry). entry.client == n) entries))

no_helm : (helm : ℕ) (lines : List Entry) → All (λ (line : Entry). line.client ≢ helm) lines → entries_of helm lines ≡ []
no_helm helm lines all = filter_none (λ (line : Entry). line.client == helm) lines (All-weaker (λ (line : Entry). line.client ≢ helm) (λ line. (line.client == helm) ≡ false) (λ line apart. ne_eqb line.client helm apart) lines all)

all_but : (helm : ℕ) (lines : List Entry) → All (λ (line : Entry). line.client ≢ helm) lines → entries_but helm lines ≡ lines
all_but helm lines all = filter_all (λ (line : Entry). not (line.client == helm)) lines (All-weaker (λ (line : Entry). line.client ≢ helm) (λ line. not (line.client == helm) ≡ true) (λ line apart. ap not (ne_eqb line.client helm apart)) lines all)

raised : (last most : ℕ) (ns : List ℕ) → never_falls last ns ≡ true → All (λ n. most ≤ n) ns → never_falls most ns ≡ true
raised last most [] rises all = refl
raised last most (n ∷ ns) rises all =
    and_from (nat_le most n) (never_falls n ns) (le-leb most n (All-head (λ n. most ≤ n) n ns all)) (and_parts (nat_le last n) (never_falls n ns) rises).1

twice_rises : (m a b : ℕ) (ns : List ℕ) → a ≡ m → b ≡ m → never_falls m ns ≡ true → never_falls m (a ∷ b ∷ ns) ≡ true
twice_rises m a b ns is is' rises =
    ap (λ a. never_falls m (a ∷ b ∷ ns)) is ∙ ap (λ b. never_falls m (m ∷ b ∷ ns)) is'
    ∙ and_from (nat_le m m) (never_falls m (m ∷ ns)) (le-leb m m (omega arith)) (and_from (nat_le m m) (never_falls m ns) (le-leb m m (omega arith)) rises)

later_period : (i period : ℕ) → i * period ≤ suc i * period
later_period i period = grind arith

module _ (helm : HelmSetup) (names : List (List ℕ))
  where
    abbrev played : ℕ → List Tick → History → List Entry → History
    played i heard past lines = lines_to (i * helm.period) lines ++ tick_entries helm (heard ++ mailed_in names helm.client (i * helm.period) (past ++ lines_to (i * helm.period) lines) ∷ []) i

    abbrev heard_by : ℕ → List Tick → History → List Entry → List Tick
    heard_by i heard past lines = heard ++ mailed_in names helm.client (i * helm.period) (past ++ lines_to (i * helm.period) lines) ∷ []

    -- what stands behind a tick
    abbrev then : ℕ → ℕ → List Tick → History → List Entry → History
    then i count heard past lines = ordered_from names helm (suc i) count (heard_by i heard past lines) (past ++ played i heard past lines) (lines_behind (i * helm.period) lines)

    abbrev AreOthers : List Entry → Type 0
    AreOthers lines = All (λ (line : Entry). line.client ≢ helm.client) lines

    abbrev in_stamps : ℕ → List Entry → Type 0
    in_stamps last lines = never_falls last (map (λ (line : Entry). line.stamp) lines) ≡ true

    others_to : (stamp : ℕ) (lines : List Entry) → AreOthers lines → AreOthers (lines_to stamp lines)
    others_to stamp lines all = All-filter (λ (line : Entry). nat_le line.stamp stamp) (λ line. line.client ≢ helm.client) lines all

    others_behind : (stamp : ℕ) (lines : List Entry) → AreOthers lines → AreOthers (lines_behind stamp lines)
    others_behind stamp lines all = All-filter (λ (line : Entry). nat_lt stamp line.stamp) (λ line. line.client ≢ helm.client) lines all

    order_behind : (stamp last : ℕ) (lines : List Entry) → in_stamps last lines → in_stamps (suc stamp) (lines_behind stamp lines)
    order_behind stamp last lines order =
        raised last (suc stamp) (map (λ (line : Entry). line.stamp) (lines_behind stamp lines)) (filter_rises (λ (line : Entry). line.stamp) (λ line. nat_lt stamp line.stamp) last lines order)
        (All-map (λ n. suc stamp ≤ n) (λ (line : Entry). line.stamp) (lines_behind stamp lines)
        (All-weaker (λ (line : Entry). nat_lt stamp line.stamp ≡ true) (λ line. suc stamp ≤ line.stamp) (λ line is. ltb-true stamp line.stamp is) (lines_behind stamp lines) (filter_passes (λ (line : Entry). nat_lt stamp line.stamp) lines)))

    is_own : (helm.client == helm.client) ≡ true
    is_own = eq-eqb helm.client helm.client refl

    tick_but : (heard : List Tick) (i : ℕ) → entries_but helm.client (tick_entries helm heard i) ≡ []
    tick_but heard i = ap (λ b. cond (not b) (fetch ∷ cond (not b) (post ∷ []) []) (cond (not b) (post ∷ []) [])) is_own
      where
        fetch : Entry
        fetch = entry_of helm.client (i * helm.period) Fetch

        post : Entry
        post = entry_of helm.client (i * helm.period) (Posts (iteration_at helm.plan heard i).posts)

    tick_own : (heard : List Tick) (i : ℕ) → entries_of helm.client (tick_entries helm heard i) ≡ tick_entries helm heard i
    tick_own heard i = ap (λ b. cond b (fetch ∷ cond b (post ∷ []) []) (cond b (post ∷ []) [])) is_own
      where
        fetch : Entry
        fetch = entry_of helm.client (i * helm.period) Fetch

        post : Entry
        post = entry_of helm.client (i * helm.period) (Posts (iteration_at helm.plan heard i).posts)

    -- without the helm's entries it is the lines
    lines_left : (i count : ℕ) (heard : List Tick) (past : History) (last : ℕ) (lines : List Entry) → AreOthers lines → in_stamps last lines → entries_but helm.client (ordered_from names helm i count heard past lines) ≡ lines
    lines_left i zero heard past last lines others order = all_but helm.client lines others
    lines_left i (suc count) heard past last lines others order =
        filter-append test (played i heard past lines) (then i count heard past lines)
        ∙ ap (λ front. front ++ entries_but helm.client (then i count heard past lines)) front
        ∙ ap (λ back. lines_to (i * helm.period) lines ++ back)
        (lines_left (suc i) count (heard_by i heard past lines) (past ++ played i heard past lines) (suc (i * helm.period)) (lines_behind (i * helm.period) lines) (others_behind (i * helm.period) lines others)
        (order_behind (i * helm.period) last lines order))
        ∙ lines_apart (i * helm.period) last lines order
      where
        test : Entry → Bool
        test entry = not (entry.client == helm.client)

        front : entries_but helm.client (played i heard past lines) ≡ lines_to (i * helm.period) lines
        front =
            filter-append (λ (entry : Entry). not (entry.client == helm.client)) (lines_to (i * helm.period) lines) (tick_entries helm (heard_by i heard past lines) i)
            ∙ ap (λ back. entries_but helm.client (lines_to (i * helm.period) lines) ++ back) (tick_but (heard_by i heard past lines) i)
            ∙ append-nil (entries_but helm.client (lines_to (i * helm.period) lines))
            ∙ all_but helm.client (lines_to (i * helm.period) lines) (others_to (i * helm.period) lines others)

    -- the helm's entries are those of its ticks
    abbrev ticks_from : List Tick → ℕ → ℕ → List Entry
    ticks_from heard i zero = []
    ticks_from heard i (suc count) = tick_entries helm heard i ++ ticks_from heard (suc i) count

    ticks_split : (heard : List Tick) (i count n : ℕ) → n ≡ i + count → ticks_of helm heard n ≡ ticks_of helm heard i ++ ticks_from heard i count
    ticks_split heard i zero n is = let same : n ≡ i = omega (arith, is) in ap (ticks_of helm heard) same ∙ sym (append-nil (ticks_of helm heard i))
    ticks_split heard i (suc count) n is = ticks_split heard (suc i) count n (omega (arith, is)) ∙ append_assoc (ticks_of helm heard i) (tick_entries helm heard i) (ticks_from heard (suc i) count)

    heard_played : (i : ℕ) (heard : List Tick) (past : History) (lines : List Entry) → AreOthers lines
        → heard_in (mailed_in names) helm.client past (played i heard past lines) ≡ mailed_in names helm.client (i * helm.period) (past ++ lines_to (i * helm.period) lines) ∷ []
    heard_played i heard past lines others =
        heard_append (mailed_in names) helm.client past (lines_to (i * helm.period) lines) (tick_entries helm (heard_by i heard past lines) i)
        ∙ ap (λ front. front ++ heard_in (mailed_in names) helm.client (past ++ lines_to (i * helm.period) lines) (tick_entries helm (heard_by i heard past lines) i))
        (heard_none (mailed_in names) helm.client past (lines_to (i * helm.period) lines) (no_helm helm.client (lines_to (i * helm.period) lines) (others_to (i * helm.period) lines others)))
        ∙ ap (λ b. cond (b && true) (mailed_in names helm.client (i * helm.period) (past ++ lines_to (i * helm.period) lines) ∷ cond (b && false) (second ∷ []) []) (cond (b && false) (second ∷ []) [])) is_own
      where
        second : Tick
        second = mailed_in names helm.client (i * helm.period) ((past ++ lines_to (i * helm.period) lines) ++ entry_of helm.client (i * helm.period) Fetch ∷ [])

    all_heard : (i count : ℕ) (heard : List Tick) (past : History) (lines : List Entry) → AreOthers lines
        → heard ++ heard_in (mailed_in names) helm.client past (ordered_from names helm i (suc count) heard past lines)
        ≡ heard_by i heard past lines ++ heard_in (mailed_in names) helm.client (past ++ played i heard past lines) (then i count heard past lines)
    all_heard i count heard past lines others =
        ap (λ more. heard ++ more) (heard_append (mailed_in names) helm.client past (played i heard past lines) (then i count heard past lines) ∙ ap (λ front. front ++ more) (heard_played i heard past lines others))
        ∙ sym (append_assoc heard (mailed_in names helm.client (i * helm.period) (past ++ lines_to (i * helm.period) lines) ∷ []) more)
      where
        more : List Tick
        more = heard_in (mailed_in names) helm.client (past ++ played i heard past lines) (then i count heard past lines)

    tick_same : InputsTell → (i : ℕ) (heard more : List Tick) → suc i ≤ length heard → tick_entries helm heard i ≡ tick_entries helm (heard ++ more) i
    tick_same law i heard more within =
        ap (λ (iteration : Iteration). entry_of helm.client (i * helm.period) Fetch ∷ entry_of helm.client (i * helm.period) (Posts iteration.posts) ∷ [])
        (law helm.plan heard (heard ++ more) i (ap (map input_of) (sym (take-append-le (suc i) heard more within))))

    turns : InputsTell → (i count : ℕ) (heard : List Tick) (past : History) (lines : List Entry) → length heard ≡ i → AreOthers lines
        → entries_of helm.client (ordered_from names helm i count heard past lines) ≡ ticks_from (heard ++ heard_in (mailed_in names) helm.client past (ordered_from names helm i count heard past lines)) i count
    turns law i zero heard past lines many others = no_helm helm.client lines others
    turns law i (suc count) heard past lines many others =
        filter-append (λ (entry : Entry). entry.client == helm.client) (played i heard past lines) (then i count heard past lines)
        ∙ ap (λ front. front ++ entries_of helm.client (then i count heard past lines)) front
        ∙ ap (λ back. tick_entries helm (heard_by i heard past lines) i ++ back)
        (turns law (suc i) count (heard_by i heard past lines) (past ++ played i heard past lines) (lines_behind (i * helm.period) lines) longer (others_behind (i * helm.period) lines others))
        ∙ ap (λ tick. tick ++ ticks_from all (suc i) count) (tick_same law i (heard_by i heard past lines) more (omega (arith, longer)))
        ∙ ap (λ (all : List Tick). tick_entries helm all i ++ ticks_from all (suc i) count) (sym (all_heard i count heard past lines others))
      where
        more : List Tick
        more = heard_in (mailed_in names) helm.client (past ++ played i heard past lines) (then i count heard past lines)

        all : List Tick
        all = heard_by i heard past lines ++ more

        longer : length (heard_by i heard past lines) ≡ suc i
        longer = omega (arith, many, length-append heard (mailed_in names helm.client (i * helm.period) (past ++ lines_to (i * helm.period) lines) ∷ []))

        front : entries_of helm.client (played i heard past lines) ≡ tick_entries helm (heard_by i heard past lines) i
        front =
            filter-append (λ (entry : Entry). entry.client == helm.client) (lines_to (i * helm.period) lines) (tick_entries helm (heard_by i heard past lines) i)
            ∙ ap (λ front. front ++ entries_of helm.client (tick_entries helm (heard_by i heard past lines) i)) (no_helm helm.client (lines_to (i * helm.period) lines) (others_to (i * helm.period) lines others))
            ∙ tick_own (heard_by i heard past lines) i

    -- the moments don't fall
    moments_rise : (low i count : ℕ) (heard : List Tick) (past : History) (last : ℕ) (lines : List Entry) → AreOthers lines → in_stamps last lines → low ≤ 2 * last → low ≤ suc (2 * (i * helm.period))
        → never_falls low (map (moment_of helm.client) (ordered_from names helm i count heard past lines)) ≡ true
    moments_rise low i zero heard past last lines others order early early' = lower low (2 * last) (map (moment_of helm.client) lines) early (line_moments helm.client last lines others order)
    moments_rise low i (suc count) heard past last lines others order early early' =
        ap (λ (entries : List Entry). never_falls low (map (moment_of helm.client) entries)) (append_assoc before (tick_entries helm (heard_by i heard past lines) i) (then i count heard past lines))
        ∙ ap (never_falls low) (map-append (moment_of helm.client) before (tick_entries helm (heard_by i heard past lines) i ++ then i count heard past lines))
        ∙ joined low (suc (2 * stamp)) (map (moment_of helm.client) before) (map (moment_of helm.client) (tick_entries helm (heard_by i heard past lines) i ++ then i count heard past lines))
        (lower low (2 * last) (map (moment_of helm.client) before) early
        (line_moments helm.client last before (others_to stamp lines others) (filter_rises (λ (line : Entry). line.stamp) (λ line. nat_le line.stamp stamp) last lines order)))
        (All-map (λ n. n ≤ suc (2 * stamp)) (moment_of helm.client) before within) early'
        (twice_rises (suc (2 * stamp)) (moment_of helm.client fetch) (moment_of helm.client post) (map (moment_of helm.client) (then i count heard past lines)) (helm_moment helm.client fetch refl) (helm_moment helm.client post refl)
        (moments_rise (suc (2 * stamp)) (suc i) count (heard_by i heard past lines) (past ++ played i heard past lines) (suc stamp) (lines_behind stamp lines) (others_behind stamp lines others) (order_behind stamp last lines order)
        (omega arith) (omega (arith, later_period i helm.period))))
      where
        fetch : Entry
        fetch = entry_of helm.client (i * helm.period) Fetch

        post : Entry
        post = entry_of helm.client (i * helm.period) (Posts (iteration_at helm.plan (heard_by i heard past lines) i).posts)

        stamp : ℕ
        stamp = i * helm.period

        before : List Entry
        before = lines_to (i * helm.period) lines

        within : All (λ line. moment_of helm.client line ≤ suc (2 * (i * helm.period))) (lines_to (i * helm.period) lines)
        within =
            All-weaker (λ (line : Entry). (line.client ≢ helm.client) × (nat_le line.stamp (i * helm.period) ≡ true)) (λ line. moment_of helm.client line ≤ suc (2 * (i * helm.period))) at (lines_to (i * helm.period) lines)
            (λ k d inside. (others_to (i * helm.period) lines others k d inside, filter_passes (λ (line : Entry). nat_le line.stamp (i * helm.period)) lines k d inside))
          where
            at : (line : Entry) → (line.client ≢ helm.client) × (nat_le line.stamp (i * helm.period) ≡ true) → moment_of helm.client line ≤ suc (2 * (i * helm.period))
            at line both =
                let is : moment_of helm.client line ≡ 2 * line.stamp = other_moment helm.client line both.0 in
                let less : line.stamp ≤ i * helm.period = leb-true line.stamp (i * helm.period) both.1 in
                omega (arith, is, less)

-- ---- the history

-- the helm's entries, by its number
record IsPlayedBy (script : Script) (helm : HelmSetup) (names : List (List ℕ)) (number : ℕ) : Type 0 where
  steered : entries_of number (ordered_from names helm 0 (ticks_to script.stop helm) [] (opening_of helm) script.lines)
      ≡ ticks_of helm (heard_of names number (opening_of helm ++ ordered_from names helm 0 (ticks_to script.stop helm) [] (opening_of helm) script.lines)) (ticks_to script.stop helm)
  but : entries_but number (ordered_from names helm 0 (ticks_to script.stop helm) [] (opening_of helm) script.lines) ≡ script.lines
  opened : entries_but number (opening_of helm) ≡ []
  moments : never_falls 0 (map (moment_of number) (ordered_from names helm 0 (ticks_to script.stop helm) [] (opening_of helm) script.lines)) ≡ true

opening_but : (helm : HelmSetup) → entries_but helm.client (opening_of helm) ≡ []
opening_but helm = by (nat_lt 0 (length helm.plan.opening))
  where
    register : Entry
    register = entry_of helm.client 0 (Register (wants_of helm.plan))

    post : Entry
    post = entry_of helm.client 0 (Posts helm.plan.opening)

    by : (b : Bool) → entries_but helm.client (entry_of helm.client 0 (Register (wants_of helm.plan)) ∷ cond b (entry_of helm.client 0 (Posts helm.plan.opening) ∷ []) []) ≡ []
    by true = ap (λ b. cond (not b) (register ∷ cond (not b) (post ∷ []) []) (cond (not b) (post ∷ []) [])) (eq-eqb helm.client helm.client refl)
    by false = ap (λ b. cond (not b) (register ∷ []) []) (eq-eqb helm.client helm.client refl)

is_played : InputsTell → (script : Script) (helm : HelmSetup) (names : List (List ℕ)) → All (λ (line : Entry). line.client ≢ helm.client) script.lines
    → never_falls 0 (map (λ (line : Entry). line.stamp) script.lines) ≡ true → IsPlayedBy script helm names helm.client
is_played law script helm names others order = record {
  steered = turns helm names law 0 count [] (opening_of helm) script.lines refl others
      ∙ sym (ap (λ (heard : List Tick). ticks_of helm heard count) heard ∙ ticks_split helm names (heard_in (mailed_in names) helm.client (opening_of helm) rest) 0 count count (omega arith));
  but = lines_left helm names 0 count [] (opening_of helm) 0 script.lines others order;
  opened = opening_but helm;
  moments = moments_rise helm names 0 0 count [] (opening_of helm) 0 script.lines others order (omega arith) (omega arith);
}
  where
    count : ℕ
    count = ticks_to script.stop helm

    rest : History
    rest = ordered_from names helm 0 count [] (opening_of helm) script.lines

    heard : heard_of names helm.client (opening_of helm ++ rest) ≡ heard_in (mailed_in names) helm.client (opening_of helm) rest
    heard =
        heard_append (mailed_in names) helm.client [] (opening_of helm) rest
        ∙ ap (λ front. front ++ heard_in (mailed_in names) helm.client (opening_of helm) rest) (heard_deaf (mailed_in names) helm.client [] (opening_of helm) (opening_deaf helm))

-- none of a valid script's lines is the helm's
lines_others : (script : Script) → IsValid script → All (λ (line : Entry). line.client ≢ helm_number script) script.lines
lines_others script valid =
    All-weaker (λ (line : Entry). line.client < length script.names) (λ line. line.client ≢ helm_number script) (λ line below same. omega (arith, below, same)) script.lines
    (rising (length script.names) 0 script.stop script.lines valid.lines).below

lines_order : (script : Script) → IsValid script → never_falls 0 (map (λ (line : Entry). line.stamp) script.lines) ≡ true
lines_order script valid = (rising (length script.names) 0 script.stop script.lines valid.lines).order

pub each_has_ordered : InputsTell → EachHasOrdered
each_has_ordered law script None names valid own = record {
  lawful = record {
    rest = script.lines;
    opened = refl;
    steered = no_helm (helm_number script) script.lines (lines_others script valid);
    own = λ client apart. refl;
    moments = line_moments (helm_number script) 0 script.lines (lines_others script valid) (lines_order script valid);
  };
  ordered = all_but (helm_number script) script.lines (lines_others script valid);
}
each_has_ordered law script (Some helm) names valid own = record {
  lawful = record {
    rest = rest;
    opened = refl;
    steered = is.steered;
    own = λ client apart. sym (part_but (helm_number script) client rest apart) ∙ ap (entries_of client) is.but;
    moments = is.moments;
  };
  ordered = filter-append (λ (entry : Entry). not (entry.client == helm_number script)) (opening_of helm) rest
      ∙ ap (λ front. front ++ entries_but (helm_number script) rest) is.opened ∙ is.but;
}
  where
    rest : History
    rest = ordered_from names helm 0 (ticks_to script.stop helm) [] (opening_of helm) script.lines

    is : IsPlayedBy script helm names (helm_number script)
    is = subst (IsPlayedBy script helm names) own
        (is_played law script helm names (subst (λ n. All (λ (line : Entry). line.client ≢ n) script.lines) (sym own) (lines_others script valid)) (lines_order script valid))

-- ---- rising lines

-- the first line of a stamp
abbrev line_with : ℕ → List Entry → Option Entry
line_with stamp [] = None
line_with stamp (line ∷ lines) = cond (line.stamp == stamp) (Some line) (line_with stamp lines)

from_on : (from to : ℕ) (lines : List Entry) → rise_within from to lines ≡ true → All (λ (line : Entry). from ≤ line.stamp) lines
from_on from to [] rise = All-nil (λ (line : Entry). from ≤ line.stamp)
from_on from to (line ∷ lines) rise =
    let parts = and_parts (nat_le from line.stamp) (rise_within (suc line.stamp) to lines) rise in
    let first = leb-true from line.stamp parts.0 in
    All-cons (λ (line : Entry). from ≤ line.stamp) line lines first
    (All-weaker (λ (other : Entry). suc line.stamp ≤ other.stamp) (λ other. from ≤ other.stamp) (λ other later. omega (arith, later, first)) lines (from_on (suc line.stamp) to lines parts.1))

-- each of rising lines is the one of its stamp
own_lines : (from to : ℕ) (lines : List Entry) → rise_within from to lines ≡ true → All (λ (line : Entry). line_with line.stamp lines ≡ Some line) lines
own_lines from to [] rise = All-nil (λ (line : Entry). line_with line.stamp [] ≡ Some line)
own_lines from to (line ∷ lines) rise =
    All-cons (λ (other : Entry). line_with other.stamp (line ∷ lines) ≡ Some other) line lines
    (ap (λ b. cond b (Some line) (line_with line.stamp lines)) (eq-eqb line.stamp line.stamp refl))
    (All-weaker (λ (other : Entry). (suc line.stamp ≤ other.stamp) × (line_with other.stamp lines ≡ Some other)) (λ other. line_with other.stamp (line ∷ lines) ≡ Some other) at lines
    (λ k d within. (from_on (suc line.stamp) to lines parts.1 k d within, own_lines (suc line.stamp) to lines parts.1 k d within)))
  where
    parts : (nat_le from line.stamp ≡ true) × (rise_within (suc line.stamp) to lines ≡ true)
    parts = and_parts (nat_le from line.stamp) (rise_within (suc line.stamp) to lines) rise

    at : (other : Entry) → (suc line.stamp ≤ other.stamp) × (line_with other.stamp lines ≡ Some other) → line_with other.stamp (line ∷ lines) ≡ Some other
    at other both =
        let above : suc line.stamp ≤ other.stamp = both.0 in
        ap (λ b. cond b (Some line) (line_with other.stamp lines)) (ne_eqb line.stamp other.stamp (λ same. omega (arith, same, above))) ∙ both.1

-- what a lawful history has without the helm's entries
but_opening : (script : Script) (helm : Option HelmSetup) (names : List (List ℕ)) (history : History) → IsLawful Stamp script helm names history → entries_but (helm_number script) (opening helm) ≡ []
but_opening script None names history lawful = refl
but_opening script (Some helm) names history lawful = subst (λ n. entries_but n (opening_of helm) ≡ []) (helm_client Stamp script helm names history lawful) (opening_but helm)

rising_ordered : (script : Script) (helm : Option HelmSetup) (names : List (List ℕ)) (from to : ℕ) (history : History) → IsValid script → rise_within from to script.lines ≡ true → IsLawful Stamp script helm names history → IsOrdered script history
rising_ordered script helm names from to history valid rise lawful =
    ap (entries_but (helm_number script)) lawful.opened
    ∙ filter-append (λ (entry : Entry). not (entry.client == helm_number script)) (opening helm) lawful.rest
    ∙ ap (λ front. front ++ entries_but (helm_number script) lawful.rest) (but_opening script helm names history lawful)
    ∙ merged (moment_of (helm_number script)) (λ (entry : Entry). entry.client) IsOne one 0 (entries_but (helm_number script) lawful.rest) script.lines (all_of_parts IsOne (entries_but (helm_number script) lawful.rest) (λ n. parts n (cases_eq n (helm_number script)))) lines
    (filter_rises (moment_of (helm_number script)) (λ (entry : Entry). not (entry.client == helm_number script)) 0 lawful.rest lawful.moments)
    (line_moments (helm_number script) 0 script.lines (lines_others script valid) (lines_order script valid)) (λ n. same n (cases_eq n (helm_number script)))
  where
    IsOne : Entry → Type 0
    IsOne entry = (entry.client ≢ helm_number script) × (line_with entry.stamp script.lines ≡ Some entry)

    lines : All (λ (entry : Entry). (entry.client ≢ helm_number script) × (line_with entry.stamp script.lines ≡ Some entry)) script.lines
    lines k d within = (lines_others script valid k d within, own_lines from to script.lines rise k d within)

    none : entries_of (helm_number script) (entries_but (helm_number script) lawful.rest) ≡ []
    none =
        filter_none (λ (entry : Entry). entry.client == helm_number script) (entries_but (helm_number script) lawful.rest)
        (All-weaker (λ (entry : Entry). not (entry.client == helm_number script) ≡ true) (λ entry. (entry.client == helm_number script) ≡ false) (λ entry is. not-true (entry.client == helm_number script) is) (entries_but (helm_number script) lawful.rest)
        (filter_passes (λ (entry : Entry). not (entry.client == helm_number script)) lawful.rest))

    same : (n : ℕ) → (n ≡ helm_number script) ⊎ (n ≡ helm_number script → ⊥) → entries_of n (entries_but (helm_number script) lawful.rest) ≡ entries_of n script.lines
    same n (inl mine) = ap (λ n. entries_of n (entries_but (helm_number script) lawful.rest)) mine ∙ none ∙ sym (ap (λ n. entries_of n script.lines) mine ∙ no_helm (helm_number script) script.lines (lines_others script valid))
    same n (inr apart) = part_but (helm_number script) n lawful.rest apart ∙ lawful.own n apart

    parts : (n : ℕ) → (n ≡ helm_number script) ⊎ (n ≡ helm_number script → ⊥) → All (λ (entry : Entry). (entry.client ≢ helm_number script) × (line_with entry.stamp script.lines ≡ Some entry)) (entries_of n (entries_but (helm_number script) lawful.rest))
    parts n is =
        subst (All (λ (entry : Entry). (entry.client ≢ helm_number script) × (line_with entry.stamp script.lines ≡ Some entry))) (sym (same n is))
        (All-filter (λ (entry : Entry). entry.client == n) (λ entry. (entry.client ≢ helm_number script) × (line_with entry.stamp script.lines ≡ Some entry)) script.lines lines)

    one : (x y : Entry) → (x.client ≢ helm_number script) × (line_with x.stamp script.lines ≡ Some x) → (y.client ≢ helm_number script) × (line_with y.stamp script.lines ≡ Some y)
        → moment_of (helm_number script) x ≡ moment_of (helm_number script) y → x.client ≡ y.client
    one x y mine yours is =
        let left : moment_of (helm_number script) x ≡ 2 * x.stamp = other_moment (helm_number script) x mine.0 in
        let right : moment_of (helm_number script) y ≡ 2 * y.stamp = other_moment (helm_number script) y yours.0 in
        let stamps : x.stamp ≡ y.stamp = omega (arith, left, right, is) in
        let found : Some x ≡ Some y = sym mine.1 ∙ ap (λ stamp. line_with stamp script.lines) stamps ∙ yours.1 in
        let entries : x ≡ y = cc in
        ap (λ (entry : Entry). entry.client) entries

pub rising_is_ordered : InputsTell → RisingIsOrdered
rising_is_ordered law script helm names from to history valid rise lawful =
    sym (ordered_is_sole law script helm names history (ordered_history script helm names) lawful known.lawful (rising_ordered script helm names from to history valid rise lawful) known.ordered)
  where
    number : (helm : Option HelmSetup) → IsLawful Stamp script helm names history → IsHelmOf script helm
    number None lawful = tt
    number (Some helm) lawful = helm_client Stamp script helm names history lawful

    known : IsLawfulInOrder script helm names
    known = each_has_ordered law script helm names valid (number helm lawful)
