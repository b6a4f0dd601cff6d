-- In order Stamp the posts of a history have rising stamps, and so they come in time.
use Rattle.std.proofs.Common.{◌≡◌, ℕ, suc, ◌≤◌, true, false, ◌&&◌, ◌||◌, List, [], ◌∷◌, ◌++◌, map, bytes_eq, refl, ap, ◌∙◌, arith, if◌then◌else◌}
use Rattle.std.specs.Prelude.{nat_le}
use Rattle.std.specs.List.{list_all}
use Rattle.std.proofs.Math.Bool.{and-false}
use Rattle.std.proofs.lemmas.Bool.{and_from, and_parts, le-leb, leb-true, lt-leb}
use Rattle.std.proofs.lemmas.List.Folds.{list_all-append}
use Rattle.moos_post.specs.declared.entry.Call.{Call}
use Rattle.moos_post.specs.declared.entry.Call.TheVariants.{Register, Unregister, Post as Posts, Fetch}
use Rattle.moos_post.specs.declared.value.Pair.{Pair}
use Rattle.moos_post.specs.declared.value.Post.{Post}
use Rattle.moos_post.specs.History.{post_of, posts_of_call}
use Rattle.moos_mail.specs.Sentences.{StampsRise}
use Rattle.moos_lawful.specs.Schedules.{never_falls}
use Rattle.crew_laws.specs.InTime.{has_later, in_time, in_time_behind}

-- ---- posts whose stamps rise

pub rise_weaker : (low high : ℕ) (posts : List Post) → low ≤ high → StampsRise high posts → StampsRise low posts
rise_weaker low high [] less rise = tt
rise_weaker low high (post ∷ posts) less rise = (omega (arith, less, rise.0), rise.1)

-- posts of one stamp before others
rise_batch : (stamp client : ℕ) (batch : List Pair) (posts : List Post) → StampsRise stamp posts → StampsRise stamp (map (post_of stamp client) batch ++ posts)
rise_batch stamp client [] posts rise = rise
rise_batch stamp client (pair ∷ batch) posts rise = (omega arith, rise_batch stamp client batch posts rise)

pub rise_call : (stamp client : ℕ) (call : Call) (posts : List Post) → StampsRise stamp posts → StampsRise stamp (posts_of_call stamp client call ++ posts)
rise_call stamp client (Register regs) posts rise = rise
rise_call stamp client (Unregister var source) posts rise = rise
rise_call stamp client (Posts batch) posts rise = rise_batch stamp client batch posts rise
rise_call stamp client Fetch posts rise = rise

pub rise_front : (low : ℕ) (posts more : List Post) → StampsRise low (posts ++ more) → StampsRise low posts
rise_front low [] more rise = tt
rise_front low (post ∷ posts) more rise = (rise.0, rise_front post.stamp posts more rise.1)

-- none is overtaken
pub none_later : (before : List Post) (var : List ℕ) (low stamp : ℕ) → list_all (λ post. nat_le post.stamp low) before ≡ true → low ≤ stamp → has_later before var stamp ≡ false
none_later [] var low stamp all less = refl
none_later (post ∷ before) var low stamp all less =
    let both = and_parts (nat_le post.stamp low) (list_all (λ (post : Post). nat_le post.stamp low) before) all in
    ap (λ b. (bytes_eq post.var var && b) || has_later before var stamp) (lt-leb (suc stamp) post.stamp (omega (arith, less, leb-true post.stamp low both.0)))
    ∙ ap (λ b. b || has_later before var stamp) (and-false (bytes_eq post.var var)) ∙ none_later before var low stamp both.1 less

all_weaker : (before : List Post) (low high : ℕ) → low ≤ high → list_all (λ post. nat_le post.stamp low) before ≡ true → list_all (λ post. nat_le post.stamp high) before ≡ true
all_weaker [] low high less all = refl
all_weaker (post ∷ before) low high less all =
    let both = and_parts (nat_le post.stamp low) (list_all (λ (post : Post). nat_le post.stamp low) before) all in
    and_from (nat_le post.stamp high) (list_all (λ (post : Post). nat_le post.stamp high) before) (le-leb post.stamp high (omega (arith, less, leb-true post.stamp low both.0))) (all_weaker before low high less both.1)

all_in_time : (before posts : List Post) (low : ℕ) → list_all (λ post. nat_le post.stamp low) before ≡ true → StampsRise low posts → in_time_behind before posts ≡ posts
all_in_time before [] low all rise = refl
all_in_time before (post ∷ posts) low all rise =
    ap (λ b. if b then in_time_behind (before ++ post ∷ []) posts else post ∷ in_time_behind (before ++ post ∷ []) posts) (none_later before post.var low post.stamp all rise.0)
    ∙ ap (λ rest. post ∷ rest) (all_in_time (before ++ post ∷ []) posts post.stamp
    (list_all-append (λ (one : Post). nat_le one.stamp post.stamp) before (post ∷ [])
    ∙ and_from (list_all (λ (one : Post). nat_le one.stamp post.stamp) before) (nat_le post.stamp post.stamp && true) (all_weaker before low post.stamp rise.0 all) (and_from (nat_le post.stamp post.stamp) true (le-leb post.stamp post.stamp (omega arith)) refl)) rise.1)

pub rising_in_time : (posts : List Post) → StampsRise 0 posts → in_time posts ≡ posts
rising_in_time posts rise = all_in_time [] posts 0 refl rise

-- ---- moments that don't fall

pub above_all : (low : ℕ) (ns : List ℕ) → never_falls low ns ≡ true → list_all (λ n. nat_le low n) ns ≡ true
above_all low [] falls = refl
above_all low (n ∷ ns) falls =
    let both = and_parts (nat_le low n) (never_falls n ns) falls in
    and_from (nat_le low n) (list_all (λ n. nat_le low n) ns) both.0 (weaker ns (leb-true low n both.0) (above_all n ns both.1))
  where
    weaker : (ms : List ℕ) → low ≤ n → list_all (λ m. nat_le n m) ms ≡ true → list_all (λ m. nat_le low m) ms ≡ true
    weaker [] less all = refl
    weaker (m ∷ ms) less all =
        let both = and_parts (nat_le n m) (list_all (λ m. nat_le n m) ms) all in
        and_from (nat_le low m) (list_all (λ m. nat_le low m) ms) (le-leb low m (omega (arith, less, leb-true n m both.0))) (weaker ms less both.1)

-- those before one are not above it, and those behind it not below
pub around : (low : ℕ) (before : List ℕ) (n : ℕ) (later : List ℕ) → never_falls low (before ++ n ∷ later) ≡ true
    → (low ≤ n) × (list_all (λ m. nat_le m n) before ≡ true) × (list_all (λ m. nat_le n m) later ≡ true)
around low [] n later falls = (let both = and_parts (nat_le low n) (never_falls n later) falls in (leb-true low n both.0, refl, above_all n later both.1))
around low (m ∷ before) n later falls =
    let both = and_parts (nat_le low m) (never_falls m (before ++ n ∷ later)) falls in
    let rest = around m before n later both.1 in
    (omega (arith, leb-true low m both.0, rest.0), and_from (nat_le m n) (list_all (λ m. nat_le m n) before) (le-leb m n rest.0) rest.1, rest.2)
