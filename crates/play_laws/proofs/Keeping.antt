-- What a client has after some entries, without the numbers of posts and entries, and of the posts those alone whose variable it asks for.
use Rattle.std.proofs.Common.{◌≡◌, ℕ, zero, suc, ◌+◌, ◌<◌, ◌≤◌, ◌==◌, ◌&&◌, ◌||◌, Bool, true, false, cond, Some, List, [], ◌∷◌, ◌++◌, length, refl, sym, ap, ◌∙◌, subst, arith, nat_le, append-nil, append_assoc, eq-eqb, length-append, zero-add}
use Rattle.std.specs.Prelude.{All, ◌≢◌, map, filter, fold, not, option_to_list, slice_get, bytes_eq}
use Rattle.std.specs.List.{list_any, flat_map}
use Rattle.std.proofs.lemmas.Bool.{false≢true, ne_eqb}
use Rattle.std.proofs.lemmas.Bool.Decides.{nat_tests}
use Rattle.std.proofs.lemmas.List.{map-append}
use Rattle.std.proofs.lemmas.Slice.Eq.{bytes_eq-Decides}
use Rattle.std.proofs.lemmas.List.Elements.{All-cons, All-head, All-map, All-nil, All-push, All-tail, All-weaker, All-filter}
use Rattle.moos_post.specs.declared.entry.Call.{Call}
use Rattle.moos_post.specs.declared.entry.Call.TheVariants.{Register, Unregister, Post as Posts, Fetch}
use Rattle.moos_post.specs.declared.entry.Entry.{Entry}
use Rattle.moos_post.specs.declared.registration.Reg.{Reg}
use Rattle.moos_post.specs.declared.value.Post.{Post}
use Rattle.moos_post.specs.Delivery.{Inbox, Live, Mailing, after_catching_up, catches_up, is_due, is_latest, is_new_for, is_past, last_stamp, mailing, selects, waiting, was_mailed, with_came, with_caught_up, with_entry, with_own, with_post, with_reg, with_regs, without_patterns}
use Rattle.moos_post.specs.History.{name_of, posts_of_call, posts_of_entry}
use Rattle.moos_post.specs.Patterns.{matches}
use Rattle.play_laws.specs.Heard.{ask_of, registered_by}

-- whether an entry is the client's own, or posts what these registrations ask for
abbrev pub is_for : ℕ → List Reg → Entry → Bool
is_for client regs entry = entry.client == client || ask_of regs entry

-- a post, and whether it was mailed
pub record Marked : Type 0 where
  pub post : Post
  pub mailed : Bool

-- a live registration without its number: what it asks for, what came through it, and whether it is made at the entry that is under way
pub record Through : Type 0 where
  pub reg : Reg
  pub came : List Post
  pub fresh : Bool

-- what is kept: the posts that the client asks for, its live registrations, and the posts that wait for its next fetch
pub record Kept : Type 0 where
  pub posts : List Marked
  pub lives : List Through
  pub waits : List Post

abbrev keep : List Marked → List Through → List Post → Kept
keep posts lives waits = record { posts = posts; lives = lives; waits = waits }

pub kept_is : (a b : Kept) → a.posts ≡ b.posts → a.lives ≡ b.lives → a.waits ≡ b.waits → a ≡ b
kept_is a b p l w = ap (λ posts. keep posts a.lives a.waits) p ∙ ap (λ lives. keep b.posts lives a.waits) l ∙ ap (λ waits. keep b.posts b.lives waits) w

-- the posts with these numbers
abbrev pub said : List Post → List ℕ → List Post
said posts numbers = flat_map (λ number. option_to_list (slice_get posts number)) numbers

-- ---- numbers

other_mailed : (m n e : ℕ) → m ≢ n → (mailed : List Mailing) → was_mailed m (mailed ++ mailing n e ∷ []) ≡ was_mailed m mailed
other_mailed m n e apart [] = ap (λ b. b || false) (ne_eqb n m (λ is. apart (sym is)))
other_mailed m n e apart (one ∷ mailed) = ap (λ b. one.number == m || b) (other_mailed m n e apart mailed)

same_mailed : (n e : ℕ) (mailed : List Mailing) → was_mailed n (mailed ++ mailing n e ∷ []) ≡ true
same_mailed n e [] = ap (λ b. b || false) (eq-eqb n n refl)
same_mailed n e (one ∷ mailed) = by (one.number == n) (same_mailed n e mailed)
  where
    by : (b : Bool) → was_mailed n (mailed ++ mailing n e ∷ []) ≡ true → (b || was_mailed n (mailed ++ mailing n e ∷ [])) ≡ true
    by true is = refl
    by false is = is

not_mailed : (n : ℕ) (mailed : List Mailing) → All (λ (one : Mailing). one.number < n) mailed → was_mailed n mailed ≡ false
not_mailed n [] all = refl
not_mailed n (one ∷ mailed) all =
    let here : one.number < n = All-head (λ (one : Mailing). one.number < n) one mailed all in
    ap (λ b. b || was_mailed n mailed) (ne_eqb one.number n (λ is. omega arith)) ∙ not_mailed n mailed (All-tail (λ (one : Mailing). one.number < n) one mailed all)

-- the numbers that wait, from an entry on
abbrev numbers_from : ℕ → List Mailing → List ℕ
numbers_from fetched mailed = map (λ one. one.number) (filter (λ one. nat_le fetched one.entry) mailed)

numbers_more : (fetched n e : ℕ) → fetched ≤ e → (mailed : List Mailing) → numbers_from fetched (mailed ++ mailing n e ∷ []) ≡ numbers_from fetched mailed ++ n ∷ []
numbers_more fetched n e late [] =
    let is : nat_le fetched e ≡ true = grind (arith, nat_tests) in
    ap (λ b. map (λ (one : Mailing). one.number) (cond b (mailing n e ∷ []) [])) is
numbers_more fetched n e late (one ∷ mailed) = by (nat_le fetched one.entry) (numbers_more fetched n e late mailed)
  where
    by : (b : Bool) → numbers_from fetched (mailed ++ mailing n e ∷ []) ≡ numbers_from fetched mailed ++ n ∷ []
        → map (λ (one : Mailing). one.number) (cond b (one ∷ filter (λ (one : Mailing). nat_le fetched one.entry) (mailed ++ mailing n e ∷ [])) (filter (λ (one : Mailing). nat_le fetched one.entry) (mailed ++ mailing n e ∷ [])))
        ≡ map (λ (one : Mailing). one.number) (cond b (one ∷ filter (λ (one : Mailing). nat_le fetched one.entry) mailed) (filter (λ (one : Mailing). nat_le fetched one.entry) mailed)) ++ n ∷ []
    by true is = ap (λ ns. one.number ∷ ns) is
    by false is = is

numbers_none : (fetched : ℕ) (mailed : List Mailing) → All (λ (one : Mailing). one.entry < fetched) mailed → numbers_from fetched mailed ≡ []
numbers_none fetched [] all = refl
numbers_none fetched (one ∷ mailed) all =
    let here : one.entry < fetched = All-head (λ (one : Mailing). one.entry < fetched) one mailed all in
    let is : nat_le fetched one.entry ≡ false = grind (arith, nat_tests) in
    ap (λ b. map (λ (one : Mailing). one.number) (cond b (one ∷ filter (λ (one : Mailing). nat_le fetched one.entry) mailed) (filter (λ (one : Mailing). nat_le fetched one.entry) mailed))) is
    ∙ numbers_none fetched mailed (All-tail (λ (one : Mailing). one.entry < fetched) one mailed all)

numbers_within : (fetched most : ℕ) (mailed : List Mailing) → All (λ (one : Mailing). one.number < most) mailed → All (λ n. n < most) (numbers_from fetched mailed)
numbers_within fetched most mailed all =
    All-map (λ n. n < most) (λ (one : Mailing). one.number) (filter (λ one. nat_le fetched one.entry) mailed) (All-filter (λ (one : Mailing). nat_le fetched one.entry) (λ one. one.number < most) mailed all)

get_front : (posts more : List Post) (n : ℕ) → n < length posts → slice_get (posts ++ more) n ≡ slice_get posts n
get_front [] more n within = absurd (omega arith)
get_front (post ∷ posts) more zero within = refl
get_front (post ∷ posts) more (suc n) within = get_front posts more n (omega arith)

get_next : (posts more : List Post) (post : Post) (n : ℕ) → n ≡ length posts → slice_get (posts ++ post ∷ more) n ≡ Some post
get_next [] more post zero is = refl
get_next [] more post (suc n) is = absurd (omega (arith, is))
get_next (one ∷ posts) more post zero is = absurd (omega (arith, is))
get_next (one ∷ posts) more post (suc n) is = get_next posts more post n (omega (arith, is))

said_front : (posts more : List Post) (numbers : List ℕ) → All (λ n. n < length posts) numbers → said (posts ++ more) numbers ≡ said posts numbers
said_front posts more [] all = refl
said_front posts more (n ∷ numbers) all =
    ap (λ post. option_to_list post ++ said (posts ++ more) numbers) (get_front posts more n (All-head (λ n. n < length posts) n numbers all))
    ∙ ap (λ later. option_to_list (slice_get posts n) ++ later) (said_front posts more numbers (All-tail (λ n. n < length posts) n numbers all))

said_more : (posts : List Post) (numbers more : List ℕ) → said posts (numbers ++ more) ≡ said posts numbers ++ said posts more
said_more posts [] more = refl
said_more posts (n ∷ numbers) more =
    ap (λ later. option_to_list (slice_get posts n) ++ later) (said_more posts numbers more) ∙ sym (append_assoc (option_to_list (slice_get posts n)) (said posts numbers) (said posts more))

-- ---- what is kept

module _ (names : List (List ℕ)) (asks : List ℕ → Bool)
  where
    abbrev pub marked : List Mailing → ℕ → List Post → List Marked
    marked mailed number [] = []
    marked mailed number (post ∷ posts) = cond (asks post.var) (record { post = post; mailed = was_mailed number mailed } ∷ marked mailed (suc number) posts) (marked mailed (suc number) posts)

    abbrev pub through : ℕ → Live → Through
    through entry live = record { reg = live.reg; came = live.came; fresh = live.made == entry }

    abbrev pub kept : Inbox → Kept
    kept inbox = record { posts = marked inbox.mailed 0 inbox.posts; lives = map (through inbox.entries) inbox.lives; waits = said inbox.posts (waiting inbox) }

    -- the registration asks for variables that the client asks for
    abbrev pub IsAsked : Reg → Type 0
    IsAsked reg = (var : List ℕ) → matches reg.var var ≡ true → asks var ≡ true

    -- numbers are of posts that there are, and of entries below one
    pub record Sane (top : ℕ) (inbox : Inbox) : Type 0 where
      pub fetched : inbox.fetched ≤ inbox.entries
      pub numbers : All (λ (one : Mailing). one.number < length inbox.posts) inbox.mailed
      pub entries : All (λ (one : Mailing). one.entry < top) inbox.mailed
      pub lives : All (λ (live : Live). live.made < top) inbox.lives
      pub asked : All (λ (live : Live). IsAsked live.reg) inbox.lives

    -- a post that isn't asked for is due nowhere
    not_selected : (post : Post) (reg : Reg) → IsAsked reg → asks post.var ≡ false → selects names reg post ≡ false
    not_selected post reg asked none = by (matches reg.var post.var) refl
      where
        by : (b : Bool) → matches reg.var post.var ≡ b → (b && matches reg.source (name_of names post.source)) ≡ false
        by true is = absurd (false≢true (sym none ∙ asked post.var is))
        by false is = refl

    -- ---- marks

    marked_append : (mailed : List Mailing) (number : ℕ) (some more : List Post) → marked mailed number (some ++ more) ≡ marked mailed number some ++ marked mailed (number + length some) more
    marked_append mailed number [] more = ap (λ n. marked mailed n more) (omega arith)
    marked_append mailed number (post ∷ some) more =
        by (asks post.var) (marked_append mailed (suc number) some more ∙ ap (λ n. marked mailed (suc number) some ++ marked mailed n more) (omega arith))
      where
        one : Marked
        one = record { post = post; mailed = was_mailed number mailed }

        by : (b : Bool) → marked mailed (suc number) (some ++ more) ≡ marked mailed (suc number) some ++ marked mailed (number + length (post ∷ some)) more
            → cond b (one ∷ marked mailed (suc number) (some ++ more)) (marked mailed (suc number) (some ++ more))
            ≡ cond b (one ∷ marked mailed (suc number) some) (marked mailed (suc number) some) ++ marked mailed (number + length (post ∷ some)) more
        by true is = ap (λ later. one ∷ later) is
        by false is = is

    -- what is mailed beside these posts marks none of them
    marked_beside : (mailed : List Mailing) (n e number : ℕ) (posts : List Post) → ((k : ℕ) → number ≤ k → k < number + length posts → k ≢ n)
        → marked (mailed ++ mailing n e ∷ []) number posts ≡ marked mailed number posts
    marked_beside mailed n e number [] apart = refl
    marked_beside mailed n e number (post ∷ posts) apart =
        ap (λ b. cond (asks post.var) (record { post = post; mailed = b } ∷ marked (mailed ++ mailing n e ∷ []) (suc number) posts) (marked (mailed ++ mailing n e ∷ []) (suc number) posts))
        (other_mailed number n e (apart number (omega arith) (omega arith)) mailed)
        ∙ ap (λ later. cond (asks post.var) (record { post = post; mailed = was_mailed number mailed } ∷ later) later)
        (marked_beside mailed n e (suc number) posts (λ k from to. apart k (omega arith) (omega arith)))

    -- ---- a post

    -- the post is due at the registration
    abbrev is_due_by : Post → Through → Bool
    is_due_by post live = selects names live.reg post && is_past (last_stamp post.var live.came) post.stamp live.reg.interval

    abbrev came_by : Post → Through → Through
    came_by post live = record live { came = live.came ++ post ∷ [] }

    abbrev came_if_due : Post → Through → Through
    came_if_due post live = cond (is_due_by post live) (came_by post live) live

    abbrev pub keep_asked_post : Kept → Post → Kept
    keep_asked_post had post =
        let due = list_any (is_due_by post) had.lives in
        record {
          posts = had.posts ++ record { post = post; mailed = due } ∷ [];
          lives = map (came_if_due post) had.lives;
          waits = cond due (had.waits ++ post ∷ []) had.waits;
        }

    -- a post that isn't asked for changes nothing
    abbrev pub keep_post : Kept → Post → Kept
    keep_post had post = cond (asks post.var) (keep_asked_post had post) had

    due_same : (post : Post) (entry : ℕ) (lives : List Live) → list_any (is_due_by post) (map (through entry) lives) ≡ list_any (is_due names post) lives
    due_same post entry [] = refl
    due_same post entry (live ∷ lives) = ap (λ b. is_due names post live || b) (due_same post entry lives)

    abbrev came_if : Post → Live → Live
    came_if post live = cond (is_due names post live) (with_came post live) live

    came_same : (post : Post) (entry : ℕ) (lives : List Live) → map (through entry) (map (came_if post) lives) ≡ map (came_if_due post) (map (through entry) lives)
    came_same post entry [] = refl
    came_same post entry (live ∷ lives) = ap (λ one. one ∷ map (through entry) (map (came_if post) lives)) (by (is_due names post live)) ∙ ap (λ later. came_if_due post (through entry live) ∷ later) (came_same post entry lives)
      where
        by : (b : Bool) → through entry (cond b (with_came post live) live) ≡ cond b (came_by post (through entry live)) (through entry live)
        by true = refl
        by false = refl

    none_due : (post : Post) (lives : List Live) → asks post.var ≡ false → All (λ (live : Live). IsAsked live.reg) lives → list_any (is_due names post) lives ≡ false
    none_due post [] none all = refl
    none_due post (live ∷ lives) none all =
        ap (λ b. (b && is_past (last_stamp post.var live.came) post.stamp live.reg.interval) || list_any (is_due names post) lives) (not_selected post live.reg (All-head (λ (live : Live). IsAsked live.reg) live lives all) none)
        ∙ none_due post lives none (All-tail (λ (live : Live). IsAsked live.reg) live lives all)

    none_came : (post : Post) (lives : List Live) → asks post.var ≡ false → All (λ (live : Live). IsAsked live.reg) lives → map (came_if post) lives ≡ lives
    none_came post [] none all = refl
    none_came post (live ∷ lives) none all =
        ap (λ b. cond (b && is_past (last_stamp post.var live.came) post.stamp live.reg.interval) (with_came post live) live ∷ map (came_if post) lives) (not_selected post live.reg (All-head (λ (live : Live). IsAsked live.reg) live lives all) none)
        ∙ ap (λ later. live ∷ later) (none_came post lives none (All-tail (λ (live : Live). IsAsked live.reg) live lives all))

    -- a mailing of the post that is made
    abbrev mailed_if_due : Bool → Inbox → List Mailing
    mailed_if_due due inbox = cond due (inbox.mailed ++ mailing (length inbox.posts) inbox.entries ∷ []) inbox.mailed

    marked_front : (due : Bool) (inbox : Inbox) → marked (mailed_if_due due inbox) 0 inbox.posts ≡ marked inbox.mailed 0 inbox.posts
    marked_front true inbox = marked_beside inbox.mailed (length inbox.posts) inbox.entries 0 inbox.posts (λ k from to is. omega arith)
    marked_front false inbox = refl

    marked_last : (due : Bool) (inbox : Inbox) → All (λ (one : Mailing). one.number < length inbox.posts) inbox.mailed → was_mailed (length inbox.posts) (mailed_if_due due inbox) ≡ due
    marked_last true inbox all = same_mailed (length inbox.posts) inbox.entries inbox.mailed
    marked_last false inbox all = not_mailed (length inbox.posts) inbox.mailed all

    waits_front : (inbox : Inbox) (post : Post) → All (λ (one : Mailing). one.number < length inbox.posts) inbox.mailed → said (inbox.posts ++ post ∷ []) (waiting inbox) ≡ said inbox.posts (waiting inbox)
    waits_front inbox post all = said_front inbox.posts (post ∷ []) (waiting inbox) (numbers_within inbox.fetched (length inbox.posts) inbox.mailed all)

    waits_post : (due : Bool) (inbox : Inbox) (post : Post) → All (λ (one : Mailing). one.number < length inbox.posts) inbox.mailed → inbox.fetched ≤ inbox.entries
        → said (inbox.posts ++ post ∷ []) (numbers_from inbox.fetched (mailed_if_due due inbox)) ≡ cond due (said inbox.posts (waiting inbox) ++ post ∷ []) (said inbox.posts (waiting inbox))
    waits_post true inbox post all late =
        ap (said (inbox.posts ++ post ∷ [])) (numbers_more inbox.fetched (length inbox.posts) inbox.entries late inbox.mailed)
        ∙ said_more (inbox.posts ++ post ∷ []) (waiting inbox) (length inbox.posts ∷ [])
        ∙ ap (λ front. front ++ said (inbox.posts ++ post ∷ []) (length inbox.posts ∷ [])) (waits_front inbox post all)
        ∙ ap (λ last. said inbox.posts (waiting inbox) ++ (option_to_list last ++ [])) (get_next inbox.posts [] post (length inbox.posts) refl)
    waits_post false inbox post all late = waits_front inbox post all

    kept_post : (top : ℕ) (inbox : Inbox) (post : Post) → Sane top inbox → kept (with_post names inbox post) ≡ keep_post (kept inbox) post
    kept_post top inbox post sane = by (asks post.var) refl
      where
        due : Bool
        due = list_any (is_due names post) inbox.lives

        marks : (b : Bool) → asks post.var ≡ b → marked (mailed_if_due due inbox) 0 (inbox.posts ++ post ∷ []) ≡ marked inbox.mailed 0 inbox.posts ++ cond b (record { post = post; mailed = due } ∷ []) []
        marks b is =
            marked_append (mailed_if_due due inbox) 0 inbox.posts (post ∷ [])
            ∙ ap (λ front. front ++ marked (mailed_if_due due inbox) (0 + length inbox.posts) (post ∷ [])) (marked_front due inbox)
            ∙ ap (λ n. marked inbox.mailed 0 inbox.posts ++ marked (mailed_if_due due inbox) n (post ∷ [])) (zero-add (length inbox.posts))
            ∙ ap (λ (one : Bool). marked inbox.mailed 0 inbox.posts ++ cond one (record { post = post; mailed = was_mailed (length inbox.posts) (mailed_if_due due inbox) } ∷ []) []) is
            ∙ ap (λ (one : Bool). marked inbox.mailed 0 inbox.posts ++ cond b (record { post = post; mailed = one } ∷ []) []) (marked_last due inbox sane.numbers)

        by : (b : Bool) → asks post.var ≡ b → kept (with_post names inbox post) ≡ cond b (keep_asked_post (kept inbox) post) (kept inbox)
        by true is =
            kept_is (kept (with_post names inbox post)) (keep_asked_post (kept inbox) post)
            (marks true is ∙ ap (λ (one : Bool). marked inbox.mailed 0 inbox.posts ++ record { post = post; mailed = one } ∷ []) (sym (due_same post inbox.entries inbox.lives)))
            (came_same post inbox.entries inbox.lives)
            (waits_post due inbox post sane.numbers sane.fetched ∙ ap (λ b. cond b (said inbox.posts (waiting inbox) ++ post ∷ []) (said inbox.posts (waiting inbox))) (sym (due_same post inbox.entries inbox.lives)))
        by false is =
            kept_is (kept (with_post names inbox post)) (kept inbox)
            (marks false is ∙ append-nil (marked inbox.mailed 0 inbox.posts))
            (ap (map (through inbox.entries)) (none_came post inbox.lives is sane.asked))
            (waits_post due inbox post sane.numbers sane.fetched ∙ ap (λ b. cond b (said inbox.posts (waiting inbox) ++ post ∷ []) (said inbox.posts (waiting inbox))) (none_due post inbox.lives is sane.asked))

    sane_lives : (top : ℕ) (post : Post) (lives : List Live) (P : Live → Type 0) → ((live : Live) → P live → P (with_came post live)) → (test : Live → Bool) → All P lives → All P (map (λ live. cond (test live) (with_came post live) live) lives)
    sane_lives top post [] P keeps test all = All-nil P
    sane_lives top post (live ∷ lives) P keeps test all =
        All-cons P (cond (test live) (with_came post live) live) (map (λ live. cond (test live) (with_came post live) live) lives) (by (test live) (All-head P live lives all)) (sane_lives top post lives P keeps test (All-tail P live lives all))
      where
        by : (b : Bool) → P live → P (cond b (with_came post live) live)
        by true is = keeps live is
        by false is = is

    sane_post : (top : ℕ) (inbox : Inbox) (post : Post) → inbox.entries < top → Sane top inbox → Sane top (with_post names inbox post)
    sane_post top inbox post early sane = record {
      fetched = sane.fetched;
      numbers = by (λ (one : Mailing). one.number < length (inbox.posts ++ post ∷ [])) (list_any (is_due names post) inbox.lives) (All-weaker (λ (one : Mailing). one.number < length inbox.posts) (λ one. one.number < length (inbox.posts ++ post ∷ [])) (λ one less. omega (arith, less, longer)) inbox.mailed sane.numbers) (omega (arith, longer));
      entries = by (λ (one : Mailing). one.entry < top) (list_any (is_due names post) inbox.lives) sane.entries early;
      lives = sane_lives top post inbox.lives (λ (live : Live). live.made < top) (λ live is. is) (is_due names post) sane.lives;
      asked = sane_lives top post inbox.lives (λ (live : Live). IsAsked live.reg) (λ live is. is) (is_due names post) sane.asked;
    }
      where
        longer : length (inbox.posts ++ post ∷ []) ≡ length inbox.posts + 1
        longer = length-append inbox.posts (post ∷ [])

        by : (P : Mailing → Type 0) (due : Bool) → All P inbox.mailed → P (mailing (length inbox.posts) inbox.entries) → All P (mailed_if_due due inbox)
        by P true all last = All-push P inbox.mailed (mailing (length inbox.posts) inbox.entries) all last
        by P false all last = all

    -- ---- registrations

    abbrev has_patterns : List ℕ → List ℕ → Reg → Bool
    has_patterns var source reg = bytes_eq reg.var var && bytes_eq reg.source source

    abbrev keep_without : List ℕ → List ℕ → List Through → List Through
    keep_without var source lives = filter (λ live. not (has_patterns var source live.reg)) lives

    abbrev keep_reg : List Through → Reg → List Through
    keep_reg lives reg = keep_without reg.var reg.source lives ++ record { reg = reg; came = []; fresh = true } ∷ []

    kept_without : (entry : ℕ) (var source : List ℕ) (lives : List Live) → map (through entry) (without_patterns var source lives) ≡ keep_without var source (map (through entry) lives)
    kept_without entry var source [] = refl
    kept_without entry var source (live ∷ lives) = by (not (has_patterns var source live.reg)) (kept_without entry var source lives)
      where
        by : (b : Bool) → map (through entry) (without_patterns var source lives) ≡ keep_without var source (map (through entry) lives)
            → map (through entry) (cond b (live ∷ without_patterns var source lives) (without_patterns var source lives)) ≡ cond b (through entry live ∷ keep_without var source (map (through entry) lives)) (keep_without var source (map (through entry) lives))
        by true is = ap (λ later. through entry live ∷ later) is
        by false is = is

    kept_reg : (entry : ℕ) (reg : Reg) (lives : List Live) → map (through entry) (with_reg entry lives reg) ≡ keep_reg (map (through entry) lives) reg
    kept_reg entry reg lives =
        map-append (through entry) (without_patterns reg.var reg.source lives) (record { reg = reg; made = entry; came = [] } ∷ [])
        ∙ ap (λ b. map (through entry) (without_patterns reg.var reg.source lives) ++ record { reg = reg; came = []; fresh = b } ∷ []) (eq-eqb entry entry refl)
        ∙ ap (λ front. front ++ record { reg = reg; came = []; fresh = true } ∷ []) (kept_without entry reg.var reg.source lives)

    kept_regs : (entry : ℕ) (regs : List Reg) (lives : List Live) → map (through entry) (fold (with_reg entry) lives regs) ≡ fold keep_reg (map (through entry) lives) regs
    kept_regs entry [] lives = refl
    kept_regs entry (reg ∷ regs) lives = kept_regs entry regs (with_reg entry lives reg) ∙ ap (λ lives. fold keep_reg lives regs) (kept_reg entry reg lives)

    regs_keep : (entry : ℕ) (P : Live → Type 0) (regs : List Reg) (lives : List Live) → All (λ (reg : Reg). P (record { reg = reg; made = entry; came = [] })) regs → All P lives → All P (fold (with_reg entry) lives regs)
    regs_keep entry P [] lives new all = all
    regs_keep entry P (reg ∷ regs) lives new all =
        regs_keep entry P regs (with_reg entry lives reg) (All-tail (λ (reg : Reg). P (record { reg = reg; made = entry; came = [] })) reg regs new)
        (All-push P (without_patterns reg.var reg.source lives) (record { reg = reg; made = entry; came = [] }) (All-filter (λ (live : Live). not (has_patterns reg.var reg.source live.reg)) P lives all)
        (All-head (λ (reg : Reg). P (record { reg = reg; made = entry; came = [] })) reg regs new))

    -- ---- posts that catch up

    abbrev is_fresh_by : Post → Through → Bool
    is_fresh_by post live = live.fresh && selects names live.reg post

    abbrev is_latest_kept : Post → List Marked → Bool
    is_latest_kept post later = not (list_any (λ other. bytes_eq other.post.var post.var) later)

    abbrev catches : List Through → Marked → List Marked → Bool
    catches lives one later = is_latest_kept one.post later && list_any (is_fresh_by one.post) lives && not one.mailed

    abbrev came_if_fresh : Post → Through → Through
    came_if_fresh post live = cond (is_fresh_by post live) (came_by post live) live

    -- the posts, each of which may catch up
    abbrev keep_caught : List Through → List Post → List Marked → Kept
    keep_caught lives waits [] = record { posts = []; lives = lives; waits = waits }
    keep_caught lives waits (one ∷ later) =
        let now = catches lives one later in
        let rest = keep_caught (cond now (map (came_if_fresh one.post) lives) lives) (cond now (waits ++ one.post ∷ []) waits) later in
        record rest { posts = record { post = one.post; mailed = cond now true one.mailed } ∷ rest.posts }

    latest_same : (mailed : List Mailing) (number : ℕ) (post : Post) (later : List Post) → asks post.var ≡ true → list_any (λ (other : Marked). bytes_eq other.post.var post.var) (marked mailed number later) ≡ list_any (λ (other : Post). bytes_eq other.var post.var) later
    latest_same mailed number post [] asked = refl
    latest_same mailed number post (other ∷ later) asked = by (asks other.var) (bytes_eq other.var post.var) refl refl (latest_same mailed (suc number) post later asked)
      where
        by : (a b : Bool) → asks other.var ≡ a → bytes_eq other.var post.var ≡ b
            → list_any (λ (other : Marked). bytes_eq other.post.var post.var) (marked mailed (suc number) later) ≡ list_any (λ (other : Post). bytes_eq other.var post.var) later
            → list_any (λ (other : Marked). bytes_eq other.post.var post.var) (cond a (record { post = other; mailed = was_mailed number mailed } ∷ marked mailed (suc number) later) (marked mailed (suc number) later))
            ≡ (b || list_any (λ (other : Post). bytes_eq other.var post.var) later)
        by true b a is same = ap (λ c. c || list_any (λ (other : Marked). bytes_eq other.post.var post.var) (marked mailed (suc number) later)) is ∙ ap (λ later. b || later) same
        by false false a is same = same
        by false true a is same = absurd (false≢true (sym a ∙ ap asks ((bytes_eq-Decides other.var post.var).0 is) ∙ asked))

    fresh_same : (post : Post) (entry : ℕ) (lives : List Live) → list_any (is_fresh_by post) (map (through entry) lives) ≡ list_any (is_new_for names entry post) lives
    fresh_same post entry [] = refl
    fresh_same post entry (live ∷ lives) = ap (λ b. is_new_for names entry post live || b) (fresh_same post entry lives)

    none_fresh : (post : Post) (entry : ℕ) (lives : List Live) → asks post.var ≡ false → All (λ (live : Live). IsAsked live.reg) lives → list_any (is_new_for names entry post) lives ≡ false
    none_fresh post entry [] none all = refl
    none_fresh post entry (live ∷ lives) none all =
        ap (λ b. (live.made == entry && b) || list_any (is_new_for names entry post) lives) (not_selected post live.reg (All-head (λ (live : Live). IsAsked live.reg) live lives all) none)
        ∙ ap (λ b. b || list_any (is_new_for names entry post) lives) (by (live.made == entry))
        ∙ none_fresh post entry lives none (All-tail (λ (live : Live). IsAsked live.reg) live lives all)
      where
        by : (b : Bool) → (b && false) ≡ false
        by true = refl
        by false = refl

    fresh_came : (post : Post) (entry : ℕ) (lives : List Live) → map (through entry) (map (λ live. cond (is_new_for names entry post live) (with_came post live) live) lives) ≡ map (came_if_fresh post) (map (through entry) lives)
    fresh_came post entry [] = refl
    fresh_came post entry (live ∷ lives) =
        ap (λ one. one ∷ map (through entry) (map (λ live. cond (is_new_for names entry post live) (with_came post live) live) lives)) (by (is_new_for names entry post live))
        ∙ ap (λ later. came_if_fresh post (through entry live) ∷ later) (fresh_came post entry lives)
      where
        by : (b : Bool) → through entry (cond b (with_came post live) live) ≡ cond b (came_by post (through entry live)) (through entry live)
        by true = refl
        by false = refl

    -- the inbox once a post has caught up, if it does
    abbrev caught_if : Bool → Inbox → ℕ → Post → Inbox
    caught_if now inbox number post = cond now (with_caught_up names inbox number post) inbox

    -- what catching up from a number on leaves
    record IsCaught (top number : ℕ) (inbox after : Inbox) (xs : List Post) (is : Kept) : Type 0 where
      sane : Sane top after
      posts : after.posts ≡ inbox.posts
      marks : marked after.mailed number xs ≡ is.posts
      lives : map (through after.entries) after.lives ≡ is.lives
      waits : said after.posts (waiting after) ≡ is.waits
      before : (m : ℕ) → m < number → was_mailed m after.mailed ≡ was_mailed m inbox.mailed
      entries : after.entries ≡ inbox.entries

    sane_caught : (top : ℕ) (inbox : Inbox) (number : ℕ) (post : Post) → inbox.entries < top → number < length inbox.posts → Sane top inbox → Sane top (with_caught_up names inbox number post)
    sane_caught top inbox number post early within sane = record {
      fetched = sane.fetched;
      numbers = All-push (λ (one : Mailing). one.number < length inbox.posts) inbox.mailed (mailing number inbox.entries) sane.numbers within;
      entries = All-push (λ (one : Mailing). one.entry < top) inbox.mailed (mailing number inbox.entries) sane.entries early;
      lives = sane_lives top post inbox.lives (λ (live : Live). live.made < top) (λ live is. is) (is_new_for names inbox.entries post) sane.lives;
      asked = sane_lives top post inbox.lives (λ (live : Live). IsAsked live.reg) (λ live is. is) (is_new_for names inbox.entries post) sane.asked;
    }

    -- one post that may catch up
    record IsOneCaught (top number : ℕ) (now : Bool) (inbox after : Inbox) (post : Post) (xs : List Post) : Type 0 where
      sane : Sane top after
      posts : after.posts ≡ inbox.posts
      mark : was_mailed number after.mailed ≡ cond now true (was_mailed number inbox.mailed)
      marks : marked after.mailed (suc number) xs ≡ marked inbox.mailed (suc number) xs
      lives : map (through after.entries) after.lives ≡ cond now (map (came_if_fresh post) (map (through inbox.entries) inbox.lives)) (map (through inbox.entries) inbox.lives)
      waits : said after.posts (waiting after) ≡ cond now (said inbox.posts (waiting inbox) ++ post ∷ []) (said inbox.posts (waiting inbox))
      before : (m : ℕ) → m < number → was_mailed m after.mailed ≡ was_mailed m inbox.mailed
      entries : after.entries ≡ inbox.entries

    one_caught : (top number : ℕ) (now : Bool) (inbox : Inbox) (post : Post) (xs front : List Post) → inbox.entries < top → Sane top inbox → inbox.posts ≡ front ++ post ∷ xs → number ≡ length front
        → IsOneCaught top number now inbox (caught_if now inbox number post) post xs
    one_caught top number false inbox post xs front early sane all is = record { sane = sane; posts = refl; mark = refl; marks = refl; lives = refl; waits = refl; before = λ m less. refl; entries = refl }
    one_caught top number true inbox post xs front early sane all is = record {
      sane = sane_caught top inbox number post early within sane;
      posts = refl;
      mark = same_mailed number inbox.entries inbox.mailed;
      marks = marked_beside inbox.mailed number inbox.entries (suc number) xs (λ k from to same. omega arith);
      lives = fresh_came post inbox.entries inbox.lives;
      waits = ap (said inbox.posts) (numbers_more inbox.fetched number inbox.entries sane.fetched inbox.mailed) ∙ said_more inbox.posts (waiting inbox) (number ∷ [])
          ∙ ap (λ last. said inbox.posts (waiting inbox) ++ (option_to_list last ++ [])) (ap (λ posts. slice_get posts number) all ∙ get_next front xs post number is);
      before = λ m less. other_mailed m number inbox.entries (λ same. omega arith) inbox.mailed;
      entries = refl;
    }
      where
        within : number < length inbox.posts
        within = omega (arith, is, ap length all, length-append front (post ∷ xs))

    catching_step : (top number : ℕ) (inbox : Inbox) (post : Post) (xs front : List Post) → inbox.entries < top → Sane top inbox → inbox.posts ≡ front ++ post ∷ xs → number ≡ length front
        → ((next : Inbox) → next ≡ caught_if (catches_up names inbox number post xs) inbox number post → next.entries < top → Sane top next → next.posts ≡ (front ++ post ∷ []) ++ xs
        → IsCaught top (suc number) next (after_catching_up names (suc number) next xs) xs (keep_caught (map (through next.entries) next.lives) (said next.posts (waiting next)) (marked next.mailed (suc number) xs)))
        → IsCaught top number inbox (after_catching_up names number inbox (post ∷ xs)) (post ∷ xs) (keep_caught (map (through inbox.entries) inbox.lives) (said inbox.posts (waiting inbox)) (marked inbox.mailed number (post ∷ xs)))
    catching_step top number inbox post xs front early sane all is go = by (asks post.var) refl
      where
        lives : List Through
        lives = map (through inbox.entries) inbox.lives

        waits : List Post
        waits = said inbox.posts (waiting inbox)

        now : Bool
        now = catches_up names inbox number post xs

        next : Inbox
        next = caught_if now inbox number post

        one : IsOneCaught top number now inbox next post xs
        one = one_caught top number now inbox post xs front early sane all is

        mark : Marked
        mark = record { post = post; mailed = was_mailed number inbox.mailed }

        rest : IsCaught top (suc number) next (after_catching_up names (suc number) next xs) xs (keep_caught (map (through next.entries) next.lives) (said next.posts (waiting next)) (marked next.mailed (suc number) xs))
        rest = go next refl (subst (λ n. n < top) (sym one.entries) early) one.sane (one.posts ∙ all ∙ sym (append_assoc front (post ∷ []) xs))

        after : Inbox
        after = after_catching_up names (suc number) next xs

        -- what is kept goes on the same
        goes_on : keep_caught (map (through next.entries) next.lives) (said next.posts (waiting next)) (marked next.mailed (suc number) xs)
            ≡ keep_caught (cond now (map (came_if_fresh post) lives) lives) (cond now (waits ++ post ∷ []) waits) (marked inbox.mailed (suc number) xs)
        goes_on =
            ap (λ (had : List Through). keep_caught had (said next.posts (waiting next)) (marked next.mailed (suc number) xs)) one.lives
            ∙ ap (λ (had : List Post). keep_caught (cond now (map (came_if_fresh post) lives) lives) had (marked next.mailed (suc number) xs)) one.waits
            ∙ ap (keep_caught (cond now (map (came_if_fresh post) lives) lives) (cond now (waits ++ post ∷ []) waits)) one.marks

        with : (had : Kept) → keep_caught (cond now (map (came_if_fresh post) lives) lives) (cond now (waits ++ post ∷ []) waits) (marked inbox.mailed (suc number) xs) ≡ had
            → IsCaught top (suc number) next after xs had
        with had same = subst (IsCaught top (suc number) next after xs) (goes_on ∙ same) rest

        earlier : (m : ℕ) → m < number → was_mailed m after.mailed ≡ was_mailed m inbox.mailed
        earlier m less = rest.before m (omega arith) ∙ one.before m less

        by : (b : Bool) → asks post.var ≡ b
            → IsCaught top number inbox after (post ∷ xs) (keep_caught lives waits (cond b (mark ∷ marked inbox.mailed (suc number) xs) (marked inbox.mailed (suc number) xs)))
        by false none =
            let same : now ≡ false = ap (λ b. (is_latest post xs && b) && not (was_mailed number inbox.mailed)) (none_fresh post inbox.entries inbox.lives none sane.asked) ∙ never (is_latest post xs) in
            let had = with (keep_caught lives waits (marked inbox.mailed (suc number) xs)) (ap (λ now. keep_caught (cond now (map (came_if_fresh post) lives) lives) (cond now (waits ++ post ∷ []) waits) (marked inbox.mailed (suc number) xs)) same) in
            record {
              sane = had.sane;
              posts = had.posts ∙ one.posts;
              marks = ap (λ b. cond b (record { post = post; mailed = was_mailed number after.mailed } ∷ marked after.mailed (suc number) xs) (marked after.mailed (suc number) xs)) none ∙ had.marks;
              lives = had.lives;
              waits = had.waits;
              before = earlier;
              entries = had.entries ∙ one.entries;
            }
          where
            never : (b : Bool) → ((b && false) && not (was_mailed number inbox.mailed)) ≡ false
            never true = refl
            never false = refl
        by true asked =
            let same : catches lives mark (marked inbox.mailed (suc number) xs) ≡ now
            = ap (λ b. (not b && list_any (is_fresh_by post) lives) && not (was_mailed number inbox.mailed)) (latest_same inbox.mailed (suc number) post xs asked)
            ∙ ap (λ b. (is_latest post xs && b) && not (was_mailed number inbox.mailed)) (fresh_same post inbox.entries inbox.lives) in
            let had = with (keep_caught (cond (catches lives mark (marked inbox.mailed (suc number) xs)) (map (came_if_fresh post) lives) lives) (cond (catches lives mark (marked inbox.mailed (suc number) xs)) (waits ++ post ∷ []) waits) (marked inbox.mailed (suc number) xs))
            (ap (λ now. keep_caught (cond now (map (came_if_fresh post) lives) lives) (cond now (waits ++ post ∷ []) waits) (marked inbox.mailed (suc number) xs)) (sym same)) in
            record {
              sane = had.sane;
              posts = had.posts ∙ one.posts;
              marks = ap (λ b. cond b (record { post = post; mailed = was_mailed number after.mailed } ∷ marked after.mailed (suc number) xs) (marked after.mailed (suc number) xs)) asked
                  ∙ ap (λ later. record { post = post; mailed = was_mailed number after.mailed } ∷ later) had.marks
                  ∙ ap (λ (b : Bool). record { post = post; mailed = b } ∷ (keep_caught (cond (catches lives mark (marked inbox.mailed (suc number) xs)) (map (came_if_fresh post) lives) lives) (cond (catches lives mark (marked inbox.mailed (suc number) xs)) (waits ++ post ∷ []) waits) (marked inbox.mailed (suc number) xs)).posts)
                  (rest.before number (omega arith) ∙ one.mark ∙ ap (λ now. cond now true (was_mailed number inbox.mailed)) (sym same));
              lives = had.lives;
              waits = had.waits;
              before = earlier;
              entries = had.entries ∙ one.entries;
            }

    catching : (top number : ℕ) (inbox : Inbox) (xs front : List Post) → inbox.entries < top → Sane top inbox → inbox.posts ≡ front ++ xs → number ≡ length front
        → IsCaught top number inbox (after_catching_up names number inbox xs) xs (keep_caught (map (through inbox.entries) inbox.lives) (said inbox.posts (waiting inbox)) (marked inbox.mailed number xs))
    catching top number inbox [] front early sane all is = record { sane = sane; posts = refl; marks = refl; lives = refl; waits = refl; before = λ m less. refl; entries = refl }
    catching top number inbox (post ∷ xs) front early sane all is =
        catching_step top number inbox post xs front early sane all is
        (λ next same early sane all. catching top (suc number) next xs (front ++ post ∷ []) early sane all (omega (arith, is, length-append front (post ∷ []))))

    -- ---- an entry

    abbrev pub keep_own : Kept → Call → Kept
    keep_own had (Register regs) = keep_caught (fold keep_reg had.lives regs) had.waits had.posts
    keep_own had (Unregister var source) = record had { lives = keep_without var source had.lives }
    keep_own had (Posts batch) = had
    keep_own had Fetch = record had { waits = [] }

    abbrev pub settle : Through → Through
    settle live = record live { fresh = false }

    -- no registration is made at the entry under way
    abbrev pub settled : Kept → Kept
    settled had = record had { lives = map settle had.lives }

    abbrev pub keep_entry : ℕ → Kept → Entry → Kept
    keep_entry client had entry = settled (fold keep_post (cond (entry.client == client) (keep_own had entry.call) had) (posts_of_entry entry))

    sane_later : (top more : ℕ) (inbox : Inbox) → top ≤ more → Sane top inbox → Sane more inbox
    sane_later top more inbox less sane = record {
      fetched = sane.fetched;
      numbers = sane.numbers;
      entries = All-weaker (λ (one : Mailing). one.entry < top) (λ one. one.entry < more) (λ one is. omega (arith, is, less)) inbox.mailed sane.entries;
      lives = All-weaker (λ (live : Live). live.made < top) (λ live. live.made < more) (λ live is. omega (arith, is, less)) inbox.lives sane.lives;
      asked = sane.asked;
    }

    -- a step within an entry
    record IsStep (inbox after : Inbox) (had : Kept) : Type 0 where
      sane : Sane (suc inbox.entries) after
      is : kept after ≡ had
      entries : after.entries ≡ inbox.entries

    step_regs : (inbox : Inbox) (regs : List Reg) → Sane inbox.entries inbox → All IsAsked regs → IsStep inbox (with_regs names inbox regs) (keep_own (kept inbox) (Register regs))
    step_regs inbox regs sane asked = record {
      sane = caught.sane;
      is = kept_is (kept (with_regs names inbox regs)) (keep_caught (map (through inbox.entries) relived.lives) (said inbox.posts (waiting inbox)) (marked inbox.mailed 0 inbox.posts))
          (ap (marked (with_regs names inbox regs).mailed 0) caught.posts ∙ caught.marks) caught.lives caught.waits
          ∙ ap (λ (lives : List Through). keep_caught lives (said inbox.posts (waiting inbox)) (marked inbox.mailed 0 inbox.posts)) (kept_regs inbox.entries regs inbox.lives);
      entries = caught.entries;
    }
      where
        now : Sane (suc inbox.entries) inbox
        now = sane_later inbox.entries (suc inbox.entries) inbox (omega arith) sane

        relived : Inbox
        relived = record inbox { lives = fold (with_reg inbox.entries) inbox.lives regs }

        sane' : Sane (suc inbox.entries) relived
        sane' = record {
          fetched = now.fetched;
          numbers = now.numbers;
          entries = now.entries;
          lives = regs_keep inbox.entries (λ (live : Live). live.made < suc inbox.entries) regs inbox.lives (All-weaker IsAsked (λ reg. inbox.entries < suc inbox.entries) (λ reg is. omega arith) regs asked) now.lives;
          asked = regs_keep inbox.entries (λ (live : Live). IsAsked live.reg) regs inbox.lives asked now.asked;
        }

        caught : IsCaught (suc inbox.entries) 0 relived (with_regs names inbox regs) inbox.posts (keep_caught (map (through inbox.entries) relived.lives) (said inbox.posts (waiting inbox)) (marked inbox.mailed 0 inbox.posts))
        caught = catching (suc inbox.entries) 0 relived inbox.posts [] (omega arith) sane' refl refl

    step_without : (inbox : Inbox) (var source : List ℕ) → Sane inbox.entries inbox → IsStep inbox (with_own names inbox (Unregister var source)) (keep_own (kept inbox) (Unregister var source))
    step_without inbox var source sane = record {
      sane = record {
        fetched = now.fetched;
        numbers = now.numbers;
        entries = now.entries;
        lives = All-filter (λ (live : Live). not (has_patterns var source live.reg)) (λ live. live.made < suc inbox.entries) inbox.lives now.lives;
        asked = All-filter (λ (live : Live). not (has_patterns var source live.reg)) (λ live. IsAsked live.reg) inbox.lives now.asked;
      };
      is = kept_is (kept (with_own names inbox (Unregister var source))) (keep_own (kept inbox) (Unregister var source)) refl (kept_without inbox.entries var source inbox.lives) refl;
      entries = refl;
    }
      where
        now : Sane (suc inbox.entries) inbox
        now = sane_later inbox.entries (suc inbox.entries) inbox (omega arith) sane

    step_posts : (inbox now : Inbox) (had : Kept) (posts : List Post) → IsStep inbox now had → IsStep inbox (fold (with_post names) now posts) (fold keep_post had posts)
    step_posts inbox now had [] step = step
    step_posts inbox now had (post ∷ posts) step = step_posts inbox (with_post names now post) (keep_post had post) posts
        (record {
          sane = sane_post (suc inbox.entries) now post (omega (arith, step.entries)) step.sane;
          is = kept_post (suc inbox.entries) now post step.sane ∙ ap (λ had. keep_post had post) step.is;
          entries = step.entries;
        })

    settled_lives : (entry : ℕ) (lives : List Live) → All (λ (live : Live). live.made < suc entry) lives → map (through (suc entry)) lives ≡ map settle (map (through entry) lives)
    settled_lives entry [] all = refl
    settled_lives entry (live ∷ lives) all =
        let here : live.made < suc entry = All-head (λ (live : Live). live.made < suc entry) live lives all in
        ap (λ (b : Bool). record { reg = live.reg; came = live.came; fresh = b } ∷ map (through (suc entry)) lives) (ne_eqb live.made (suc entry) (λ is. omega arith))
        ∙ ap (λ later. settle (through entry live) ∷ later) (settled_lives entry lives (All-tail (λ (live : Live). live.made < suc entry) live lives all))

    -- what an entry leaves
    pub record IsKept (inbox after : Inbox) (had : Kept) : Type 0 where
      pub sane : Sane after.entries after
      pub is : kept after ≡ had

    step_over : (inbox now : Inbox) (had : Kept) → IsStep inbox now had → IsKept inbox (record now { entries = suc inbox.entries }) (settled had)
    step_over inbox now had step = record {
      sane = record { fetched = omega (arith, step.sane.fetched, step.entries); numbers = step.sane.numbers; entries = step.sane.entries; lives = step.sane.lives; asked = step.sane.asked };
      is = kept_is (kept (record now { entries = suc inbox.entries })) (settled (kept now)) refl
          (settled_lives inbox.entries now.lives step.sane.lives ∙ ap (λ entry. map settle (map (through entry) now.lives)) (sym step.entries)) refl
          ∙ ap settled step.is;
    }

    step_fetch : (inbox : Inbox) → Sane inbox.entries inbox → IsKept inbox (record inbox { fetched = suc inbox.entries; entries = suc inbox.entries }) (settled (keep_own (kept inbox) Fetch))
    step_fetch inbox sane = record {
      sane = record { fetched = omega arith; numbers = now.numbers; entries = now.entries; lives = now.lives; asked = now.asked };
      is = kept_is (kept (record inbox { fetched = suc inbox.entries; entries = suc inbox.entries })) (settled (keep_own (kept inbox) Fetch)) refl (settled_lives inbox.entries inbox.lives now.lives)
          (ap (said inbox.posts) (numbers_none (suc inbox.entries) inbox.mailed now.entries));
    }
      where
        now : Sane (suc inbox.entries) inbox
        now = sane_later inbox.entries (suc inbox.entries) inbox (omega arith) sane

    step_call : (inbox : Inbox) (stamp source : ℕ) (call : Call) (own : Bool) → Sane inbox.entries inbox → (own ≡ true → All IsAsked (registered_by call))
        → IsKept inbox (record (fold (with_post names) (cond own (with_own names inbox call) inbox) (posts_of_call stamp source call)) { entries = suc inbox.entries })
        (settled (fold keep_post (cond own (keep_own (kept inbox) call) (kept inbox)) (posts_of_call stamp source call)))
    step_call inbox stamp source (Register regs) true sane asked = step_over inbox (with_regs names inbox regs) (keep_own (kept inbox) (Register regs)) (step_regs inbox regs sane (asked refl))
    step_call inbox stamp source (Unregister var from) true sane asked =
        step_over inbox (with_own names inbox (Unregister var from)) (keep_own (kept inbox) (Unregister var from)) (step_without inbox var from sane)
    step_call inbox stamp source Fetch true sane asked = step_fetch inbox sane
    step_call inbox stamp source (Posts batch) true sane asked = step_over inbox (fold (with_post names) inbox (posts_of_call stamp source (Posts batch))) (fold keep_post (kept inbox) (posts_of_call stamp source (Posts batch)))
        (step_posts inbox inbox (kept inbox) (posts_of_call stamp source (Posts batch)) (none inbox sane))
      where
        none : (inbox : Inbox) → Sane inbox.entries inbox → IsStep inbox inbox (kept inbox)
        none inbox sane = record { sane = sane_later inbox.entries (suc inbox.entries) inbox (omega arith) sane; is = refl; entries = refl }
    step_call inbox stamp source call false sane asked = step_over inbox (fold (with_post names) inbox (posts_of_call stamp source call)) (fold keep_post (kept inbox) (posts_of_call stamp source call))
        (step_posts inbox inbox (kept inbox) (posts_of_call stamp source call) (none inbox sane))
      where
        none : (inbox : Inbox) → Sane inbox.entries inbox → IsStep inbox inbox (kept inbox)
        none inbox sane = record { sane = sane_later inbox.entries (suc inbox.entries) inbox (omega arith) sane; is = refl; entries = refl }

    -- the entry's registrations ask for nothing else, if it is the client's
    abbrev pub AsksNoMore : ℕ → Entry → Type 0
    AsksNoMore client entry = (entry.client == client) ≡ true → All IsAsked (registered_by entry.call)

    pub kept_entry : (client : ℕ) (inbox : Inbox) (entry : Entry) → Sane inbox.entries inbox → AsksNoMore client entry → IsKept inbox (with_entry names client inbox entry) (keep_entry client (kept inbox) entry)
    kept_entry client inbox entry sane asked = step_call inbox entry.stamp entry.client entry.call (entry.client == client) sane asked
