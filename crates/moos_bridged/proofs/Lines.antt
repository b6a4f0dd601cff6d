-- The lines of a script: those that are played and those that are left.
use Rattle.std.proofs.Common.{◌≡◌, ℕ, zero, suc, ◌+◌, ◌-◌, ◌<◌, ◌≤◌, ◌==◌, Bool, true, false, List, [], ◌∷◌, ◌++◌, length, take, drop, length-drop, Some, nat_le, nat_lt, refl, sym, ap, ◌∙◌, subst, arith}
use Rattle.std.specs.List.{list_all, list_any}
use Rattle.std.proofs.lemmas.Bool.{and_from, and_parts, false≢true, or_left, or_right}
use Rattle.std.proofs.lemmas.Bool.Decides.{nat_tests}
use Rattle.std.proofs.lemmas.List.{take_all, take-append-drop}
use Rattle.std.proofs.lemmas.List.Folds.{list_all-append, list_any-append}
use Rattle.std.proofs.Math.Seq.{drop-nil, take-add}
use Rattle.moos_bridged.specs.Communities.{is_next, lines_cut, next_line_stamp}
use Rattle.moos_post.specs.declared.entry.Entry.{Entry}
use Rattle.moos_share.specs.Bridged.{has_stamp}
use Rattle.script_reader.proofs.Sound.{line_tests}
use Rattle.script_reader.specs.Validity.{are_lines, keeps_limits}

pub some_same : {a b : ℕ} → Some a ≡ Some b → a ≡ b
some_same h = cc

-- what comes before a place and what stands from there to another one is what comes before that
pub take_cut : (from to : ℕ) (lines : List Entry) → from ≤ to → take to lines ≡ take from lines ++ lines_cut from to lines
take_cut from to lines more = let place : to ≡ from + (to - from) = omega (arith, more) in ap (λ n. take n lines) place ∙ take-add from (to - from) lines

-- and what is left from the first place is that and what is left from the other
drop_more : (a b : ℕ) (lines : List Entry) → drop b (drop a lines) ≡ drop (a + b) lines
drop_more zero b lines = let same : b ≡ 0 + b = omega arith in ap (λ n. drop n lines) same
drop_more (suc a) b [] = drop-nil b ∙ sym (drop-nil (suc a + b))
drop_more (suc a) b (line ∷ lines) = let same : suc (a + b) ≡ suc a + b = omega arith in drop_more a b lines ∙ ap (λ n. drop n (line ∷ lines)) same

pub drop_cut : (from to : ℕ) (lines : List Entry) → from ≤ to → drop from lines ≡ lines_cut from to lines ++ drop to lines
drop_cut from to lines more =
    let place : from + (to - from) ≡ to = omega (arith, more) in
    sym (take-append-drop (to - from) (drop from lines)) ∙ ap (λ end. lines_cut from to lines ++ end) (drop_more from (to - from) lines ∙ ap (λ n. drop n lines) place)

-- what a slice from one place on has
pub rest_is : (from : ℕ) (lines : List Entry) → take (length lines - from) (drop from lines) ≡ drop from lines
rest_is from lines = take_all (length lines - from) (drop from lines) (omega (arith, length-drop from lines))

-- one line more that has the stamp
pub next_within : (to stamp : ℕ) (lines : List Entry) → is_next stamp (drop to lines) ≡ true → to < length lines
next_within to stamp lines next = by (drop to lines) refl
  where
    by : (left : List Entry) → drop to lines ≡ left → to < length lines
    by [] is = absurd (false≢true (sym (ap (is_next stamp) is) ∙ next))
    by (line ∷ left) is = omega (arith, ap length is, length-drop to lines)

pub cut_more : (from to stamp : ℕ) (lines : List Entry) → from ≤ to → is_next stamp (drop to lines) ≡ true → list_all (λ line. line.stamp == stamp) (lines_cut from to lines) ≡ true → list_all (λ line. line.stamp == stamp) (lines_cut from (to + 1) lines) ≡ true
cut_more from to stamp lines more next so =
    ap same long ∙ list_all-append (λ line. line.stamp == stamp) (lines_cut from to lines) (take 1 (drop to lines)) ∙ and_from (same (lines_cut from to lines)) (same (take 1 (drop to lines))) so (one (drop to lines) next)
  where
    same : List Entry → Bool
    same lines = list_all (λ line. line.stamp == stamp) lines

    place : from + (to - from) ≡ to
    place = omega (arith, more)

    count : to + 1 - from ≡ to - from + 1
    count = omega (arith, more)

    long : lines_cut from (to + 1) lines ≡ lines_cut from to lines ++ take 1 (drop to lines)
    long =
        ap (λ n. take n (drop from lines)) count ∙ take-add (to - from) 1 (drop from lines)
        ∙ ap (λ left. lines_cut from to lines ++ take 1 left) (drop_more from (to - from) lines ∙ ap (λ n. drop n lines) place)

    one : (left : List Entry) → is_next stamp left ≡ true → same (take 1 left) ≡ true
    one [] next = refl
    one (line ∷ left) next = and_from (line.stamp == stamp) true next refl

pub cut_none : (from stamp : ℕ) (lines : List Entry) → list_all (λ line. line.stamp == stamp) (lines_cut from from lines) ≡ true
cut_none from stamp lines = let none : from - from ≡ 0 = omega arith in ap (λ n. list_all (λ (line : Entry). line.stamp == stamp) (take n (drop from lines))) none

-- a test of all lines is one of a part of them
pub all_left : (p : Entry → Bool) (lines : List Entry) (from : ℕ) → list_all p lines ≡ true → list_all p (drop from lines) ≡ true
all_left p lines from all = (and_parts (list_all p (take from lines)) (list_all p (drop from lines)) (sym (list_all-append p (take from lines) (drop from lines)) ∙ ap (list_all p) (take-append-drop from lines) ∙ all)).1

pub all_cut : (p : Entry → Bool) (lines : List Entry) (from to : ℕ) → list_all p lines ≡ true → list_all p (lines_cut from to lines) ≡ true
all_cut p lines from to all =
    let left : List Entry = drop from lines in
    (and_parts (list_all p (take (to - from) left)) (list_all p (drop (to - from) left)) (sym (list_all-append p (take (to - from) left) (drop (to - from) left)) ∙ ap (list_all p) (take-append-drop (to - from) left) ∙ all_left p lines from all)).0

-- the lines of a script are of its clients
pub lines_below : (clients last stop : ℕ) (lines : List Entry) → are_lines clients last stop lines ≡ true → list_all (λ line. nat_lt line.client clients) lines ≡ true
lines_below clients last stop [] valid = refl
lines_below clients last stop (line ∷ lines) valid =
    let tests = line_tests (nat_lt line.client clients) (nat_le last line.stamp) (keeps_limits line.call) (are_lines clients line.stamp stop lines) valid in
    and_from (nat_lt line.client clients) (list_all (λ line. nat_lt line.client clients) lines) tests.0 (lines_below clients line.stamp stop lines tests.3)

-- none of them has a stamp below that of one before it
raised : (low high : ℕ) (lines : List Entry) → low ≤ high → list_all (λ line. nat_le high line.stamp) lines ≡ true → list_all (λ line. nat_le low line.stamp) lines ≡ true
raised low high [] less all = refl
raised low high (line ∷ lines) less all =
    let tests = and_parts (nat_le high line.stamp) (list_all (λ line. nat_le high line.stamp) lines) all in
    let here = tests.0 in
    and_from (nat_le low line.stamp) (list_all (λ line. nat_le low line.stamp) lines) (grind (arith, nat_tests, less)) (raised low high lines less tests.1)

none_earlier : (clients last stop : ℕ) (lines : List Entry) → are_lines clients last stop lines ≡ true → list_all (λ line. nat_le last line.stamp) lines ≡ true
none_earlier clients last stop [] valid = refl
none_earlier clients last stop (line ∷ lines) valid =
    let tests = line_tests (nat_lt line.client clients) (nat_le last line.stamp) (keeps_limits line.call) (are_lines clients line.stamp stop lines) valid in
    let here = tests.1 in
    let less : last ≤ line.stamp = grind (arith, nat_tests) in
    and_from (nat_le last line.stamp) (list_all (λ line. nat_le last line.stamp) lines) tests.1 (raised last line.stamp lines less (none_earlier clients line.stamp stop lines tests.3))

-- nor one of those that are left below that of the next one
pub next_least : (clients last stop from : ℕ) (lines : List Entry) (stamp : ℕ) → are_lines clients last stop lines ≡ true → next_line_stamp (drop from lines) ≡ Some stamp → list_all (λ line. nat_le stamp line.stamp) (drop from lines) ≡ true
next_least clients last stop zero [] stamp valid is = refl
next_least clients last stop (suc from) [] stamp valid is = refl
next_least clients last stop zero (line ∷ lines) stamp valid is =
    let tests = line_tests (nat_lt line.client clients) (nat_le last line.stamp) (keeps_limits line.call) (are_lines clients line.stamp stop lines) valid in
    subst (λ stamp. list_all (λ (other : Entry). nat_le stamp other.stamp) (line ∷ lines) ≡ true) (some_same is)
    (and_from (nat_le line.stamp line.stamp) (list_all (λ other. nat_le line.stamp other.stamp) lines) (grind (arith, nat_tests)) (none_earlier clients line.stamp stop lines tests.3))
next_least clients last stop (suc from) (line ∷ lines) stamp valid is =
    let tests = line_tests (nat_lt line.client clients) (nat_le last line.stamp) (keeps_limits line.call) (are_lines clients line.stamp stop lines) valid in
    next_least clients line.stamp stop from lines stamp tests.3 is

-- none that is left has a stamp below one that the next hasn't
pub late_next : (clients last stop from : ℕ) (lines : List Entry) (low : ℕ) → are_lines clients last stop lines ≡ true → ((stamp : ℕ) → next_line_stamp (drop from lines) ≡ Some stamp → low ≤ stamp) → list_all (λ line. nat_le low line.stamp) (drop from lines) ≡ true
late_next clients last stop from lines low valid least = by (drop from lines) refl
  where
    by : (left : List Entry) → drop from lines ≡ left → list_all (λ line. nat_le low line.stamp) (drop from lines) ≡ true
    by [] is = ap (list_all (λ (line : Entry). nat_le low line.stamp)) is
    by (line ∷ left) is =
        let next : next_line_stamp (drop from lines) ≡ Some line.stamp = ap next_line_stamp is in
        raised low line.stamp (drop from lines) (least line.stamp next) (next_least clients last stop from lines line.stamp valid next)

-- those that are left behind all lines of a stamp have later ones
pub over_next : (clients last stop from : ℕ) (lines : List Entry) (stamp : ℕ) → are_lines clients last stop lines ≡ true → list_all (λ line. nat_le stamp line.stamp) (drop from lines) ≡ true → is_next stamp (drop from lines) ≡ false → list_all (λ line. nat_lt stamp line.stamp) (drop from lines) ≡ true
over_next clients last stop from lines stamp valid late other = later (drop from lines) (late_next clients last stop from lines (suc stamp) valid (λ next is. first (drop from lines) next is late other))
  where
    first : (left : List Entry) (next : ℕ) → next_line_stamp left ≡ Some next → list_all (λ line. nat_le stamp line.stamp) left ≡ true → is_next stamp left ≡ false → suc stamp ≤ next
    first [] next is late other = absurd cc
    first (line ∷ left) next is late other =
        let here = (and_parts (nat_le stamp line.stamp) (list_all (λ line. nat_le stamp line.stamp) left) late).0 in
        let same = some_same is in
        grind (arith, nat_tests, here, same, other)

    later : (left : List Entry) → list_all (λ line. nat_le (suc stamp) line.stamp) left ≡ true → list_all (λ line. nat_lt stamp line.stamp) left ≡ true
    later [] all = refl
    later (line ∷ left) all =
        let tests = and_parts (nat_le (suc stamp) line.stamp) (list_all (λ line. nat_le (suc stamp) line.stamp) left) all in
        let here = tests.0 in
        and_from (nat_lt stamp line.stamp) (list_all (λ line. nat_lt stamp line.stamp) left) (grind (arith, nat_tests, here)) (later left tests.1)

-- the next one is a line
pub next_among : (from : ℕ) (lines : List Entry) (stamp : ℕ) → next_line_stamp (drop from lines) ≡ Some stamp → has_stamp stamp lines ≡ true
next_among from lines stamp is =
    ap (list_any (λ (line : Entry). line.stamp == stamp)) (sym (take-append-drop from lines)) ∙ list_any-append (λ (line : Entry). line.stamp == stamp) (take from lines) (drop from lines)
    ∙ or_right (has_stamp stamp (take from lines)) (has_stamp stamp (drop from lines)) (first (drop from lines) is)
  where
    first : (left : List Entry) → next_line_stamp left ≡ Some stamp → has_stamp stamp left ≡ true
    first [] none = absurd cc
    first (line ∷ left) some = or_left (line.stamp == stamp) (has_stamp stamp left) (let same = some_same some in grind (arith, nat_tests, same))
