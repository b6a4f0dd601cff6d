-- A generated script is valid.
use Rattle.std.proofs.Common.{◌≡◌, ℕ, zero, suc, ◌+◌, ◌*◌, ◌<◌, ◌≤◌, ◌==◌, Bool, true, false, cond, ◌&&◌, nat_le, nat_lt, List, [], ◌∷◌, ◌++◌, length, refl, sym, subst, arith, codes, length-append, lit<, lit≤}
use Rattle.std.specs.Prelude.{All, pos, ◌-ℤ◌, slice_index_or}
use Rattle.std.specs.List.{AllPass, list_all}
use Rattle.std.proofs.lemmas.Bool.{and_from, and_parts, le-leb, leb-true, lt-ltb}
use Rattle.std.proofs.lemmas.Int.{ints}
use Rattle.std.proofs.lemmas.List.Elements.{All-append, All-cons, All-head, All-nil, All-tail, All-weaker}
use Rattle.std.proofs.lemmas.List.Sums.{AllPass-from_list_all, count_by-le-length, sum_by-append, sum_by-le}
use Rattle.moos_post.specs.declared.entry.Call.TheVariants.{Fetch}
use Rattle.moos_post.specs.declared.entry.Entry.{Entry}
use Rattle.moos_post.specs.declared.value.Pair.{Pair}
use Rattle.moos_post.specs.declared.value.Post.{Post}
use Rattle.moos_post.specs.declared.value.Value.TheVariants.{Text}
use Rattle.moos_post.specs.Entries.{IsEntry, IsPair, IsReg, IsValue}
use Rattle.moos_post.specs.History.{posts_of, posts_of_entry}
use Rattle.moos_post.specs.Words.{is_name}
use Rattle.script_reader.specs.Script.{is_register, registrations_of}
use Rattle.script_reader.specs.Validity.{are_lines, keeps_limits, IsValid}
use Rattle.mission_maker.specs.Draws.{draw}
use Rattle.mission_maker.specs.Generated.{draws_before, fetch_behind, generated_names, generated_script, line_at, position_told, registration, registration_of_all, registrations, saying, seconds, start, talk, talked_of, turn_stamp, turns, whole_number}
use Rattle.mission_maker.specs.Stamps.{rise_within}
use Rattle.mission_maker.proofs.Drawing.{draw_below}
use Rattle.mission_maker.proofs.Rising.{generated_rise}
use Rattle.mission_maker.proofs.Variables.{few_among, is_one_of}

-- all variables that are posted
abbrev all_variables : List (List ℕ)
all_variables = codes "DEPLOY" ∷ codes "MOOS_MANUAL_OVERRIDE" ∷ codes "NAV_X" ∷ codes "NAV_Y" ∷ talked_of

abbrev is_known : Post → Bool
is_known post = is_one_of all_variables post.var

-- what each line keeps
record IsGood (line : Entry) : Type 0 where
  among : line.client < 9
  limits : keeps_limits line.call ≡ true
  entry : IsEntry line
  posts : list_all is_known (posts_of_entry line) ≡ true

-- and each behind the registrations
record IsLater (line : Entry) : Type 0 where
  good : IsGood line
  other : is_register line.call ≡ false

-- rising lines that are good are lines of a script
good_lines : (last from to stop : ℕ) (lines : List Entry) → last ≤ from → to ≤ stop → rise_within from to lines ≡ true → All IsGood lines → are_lines 9 last stop lines ≡ true
good_lines last from to stop [] before behind rise good = let within = leb-true from to rise in le-leb last stop (omega arith)
good_lines last from to stop (line ∷ lines) before behind rise good =
    let parts = and_parts (nat_le from line.stamp) (rise_within (suc line.stamp) to lines) rise in
    let early = leb-true from line.stamp parts.0 in
    let first : IsGood line = All-head IsGood line lines good in
    and_from (nat_lt line.client 9 && nat_le last line.stamp && keeps_limits line.call) (are_lines 9 line.stamp stop lines)
    (and_from (nat_lt line.client 9 && nat_le last line.stamp) (keeps_limits line.call)
    (and_from (nat_lt line.client 9) (nat_le last line.stamp) (lt-ltb line.client 9 first.among) (le-leb last line.stamp (omega arith))) first.limits)
    (good_lines line.stamp (suc line.stamp) to stop lines (omega arith) behind parts.1 (All-tail IsGood line lines good))

-- a whole number that is small is a value
small_value : (n : ℕ) → n < 1000 → IsValue (whole_number (pos n))
small_value n few = (omega (arith, ints), omega (arith, ints))

below_value : (n : ℕ) → n < 200 → IsValue (whole_number (pos n -ℤ pos 200))
below_value n few = (omega (arith, ints), omega (arith, ints))

-- a variable that is talked of has a name, and is one of all
talked_name : (i : ℕ) → i < 16 → is_name (slice_index_or talked_of i []) ≡ true
talked_name i within = AllPass-from_list_all is_name talked_of refl i [] within

talked_known : (i : ℕ) → i < 16 → is_one_of all_variables (slice_index_or talked_of i []) ≡ true
talked_known i within = AllPass-from_list_all (is_one_of all_variables) talked_of refl i [] within

registration_good : (number k : ℕ) → k < 8 → IsGood (registration number k)
registration_good number k few = record {
  among = omega arith;
  limits = le-leb (500 * draw number k 3) 1000000000 (omega (arith, draw_below number k 3 (lit< tt)));
  entry = record {
    stamp = omega arith;
    call = All-cons IsReg (registration_of_all (500 * draw number k 3)) []
        (record { var = refl; source = refl; interval = omega (arith, draw_below number k 3 (lit< tt)) }) (All-nil IsReg);
  };
  posts = refl;
}

registrations_good : (number k : ℕ) → k ≤ 8 → All IsGood (registrations number k)
unfolding registrations
registrations_good number zero few = All-nil IsGood
registrations_good number (suc k) few =
    All-append IsGood (registrations number k) (registration number k ∷ []) (registrations_good number k (omega arith))
    (All-cons IsGood (registration number k) [] (registration_good number k (omega arith)) (All-nil IsGood))

abbrev deploy : Pair
deploy = saying (codes "DEPLOY") (Text (codes "true"))

abbrev by_hand : Pair
by_hand = saying (codes "MOOS_MANUAL_OVERRIDE") (Text (codes "false"))

start_later : IsLater start
start_later = record {
  good = record {
    among = lit< tt;
    limits = refl;
    entry = record {
      stamp = lit< tt;
      call = (lit< tt, All-cons IsPair deploy (by_hand ∷ []) (record { var = refl; value = refl }) (All-cons IsPair by_hand [] (record { var = refl; value = refl }) (All-nil IsPair)));
    };
    posts = refl;
  };
  other = refl;
}

talk_later : (number second k : ℕ) → second < 600 → k < 8 → IsLater (talk number second k)
talk_later number second k early few =
    let before = draws_before second k in
    let place = draw_below number before 16 (lit< tt) in
    let said : Pair = saying (slice_index_or talked_of (draw number before 16) []) (whole_number (pos (draw number (before + 1) 1000))) in
    record {
      good = record {
        among = omega arith;
        limits = refl;
        entry = record {
          stamp = omega arith;
          call = (lit< tt, All-cons IsPair said [] (record { var = talked_name (draw number before 16) place; value = small_value (draw number (before + 1) 1000) (draw_below number (before + 1) 1000 (lit< tt)) }) (All-nil IsPair));
        };
        posts = and_from (is_one_of all_variables (slice_index_or talked_of (draw number before 16) [])) true (talked_known (draw number before 16) place) refl;
      };
      other = refl;
    }

fetch_later : (number second k : ℕ) → second < 600 → k < 8 → All IsLater (fetch_behind number second k)
fetch_later number second k early few = at (draw number (draws_before second k + 2) 4 == 0)
  where
    at : (b : Bool) → All IsLater (cond b (line_at (turn_stamp second k + 1) k Fetch ∷ []) [])
    at false = All-nil IsLater
    at true =
        All-cons IsLater (line_at (turn_stamp second k + 1) k Fetch) []
        (record { good = record { among = omega arith; limits = refl; entry = record { stamp = omega arith; call = tt }; posts = refl }; other = refl }) (All-nil IsLater)

position_later : (number second : ℕ) → second < 600 → IsLater (position_told number second)
position_later number second early =
    let before = draws_before second 8 in
    let x : Pair = saying (codes "NAV_X") (whole_number (pos (draw number before 200))) in
    let y : Pair = saying (codes "NAV_Y") (whole_number (pos (draw number (before + 1) 200) -ℤ pos 200)) in
    record {
      good = record {
        among = lit< tt;
        limits = refl;
        entry = record {
          stamp = omega arith;
          call = (
            lit< tt,
            All-cons IsPair x (y ∷ []) (record { var = refl; value = small_value (draw number before 200) (omega (arith, draw_below number before 200 (lit< tt))) })
                (All-cons IsPair y [] (record { var = refl; value = below_value (draw number (before + 1) 200) (draw_below number (before + 1) 200 (lit< tt)) }) (All-nil IsPair)),
          );
        };
        posts = refl;
      };
      other = refl;
    }

turns_later : (number second k : ℕ) → second < 600 → k ≤ 8 → All IsLater (turns number second k)
unfolding turns
turns_later number second zero early few = All-nil IsLater
turns_later number second (suc k) early few =
    All-append IsLater (turns number second k) (talk number second k ∷ fetch_behind number second k) (turns_later number second k early (omega arith))
    (All-cons IsLater (talk number second k) (fetch_behind number second k) (talk_later number second k early (omega arith)) (fetch_later number second k early (omega arith)))

seconds_later : (number second : ℕ) → second ≤ 600 → All IsLater (seconds number second)
unfolding seconds
seconds_later number zero early = All-nil IsLater
seconds_later number (suc second) early =
    All-append IsLater (seconds number second ++ turns number second 8) (position_told number second ∷ [])
    (All-append IsLater (seconds number second) (turns number second 8) (seconds_later number second (omega arith)) (turns_later number second 8 (omega arith) (omega arith)))
    (All-cons IsLater (position_told number second) [] (position_later number second (omega arith)) (All-nil IsLater))

-- how many lines there are at most
registrations_few : (number k : ℕ) → length (registrations number k) ≤ k
unfolding registrations
registrations_few number zero = omega arith
registrations_few number (suc k) = omega (arith, length-append (registrations number k) (registration number k ∷ []), registrations_few number k)

fetch_few : (number second k : ℕ) → length (fetch_behind number second k) ≤ 1
fetch_few number second k = at (draw number (draws_before second k + 2) 4 == 0)
  where
    at : (b : Bool) → length (cond b (line_at (turn_stamp second k + 1) k Fetch ∷ []) []) ≤ 1
    at true = omega arith
    at false = omega arith

turns_few : (number second k : ℕ) → length (turns number second k) ≤ 2 * k
unfolding turns
turns_few number second zero = omega arith
turns_few number second (suc k) =
    omega (arith, length-append (turns number second k) (talk number second k ∷ fetch_behind number second k), turns_few number second k, fetch_few number second k)

seconds_few : (number second : ℕ) → length (seconds number second) ≤ 17 * second
unfolding seconds
seconds_few number zero = omega arith
seconds_few number (suc second) =
    omega (
      arith,
      length-append (seconds number second ++ turns number second 8) (position_told number second ∷ []),
      length-append (seconds number second) (turns number second 8),
      seconds_few number second,
      turns_few number second 8,
    )

-- each variable that good lines post is one of all
good_posts : (lines : List Entry) → All IsGood lines → AllPass is_known (posts_of lines)
good_posts [] good = All-nil (λ post. is_known post ≡ true)
good_posts (line ∷ lines) good =
    let first : IsGood line = All-head IsGood line lines good in
    All-append (λ post. is_known post ≡ true) (posts_of_entry line) (posts_of lines) (AllPass-from_list_all is_known (posts_of_entry line) first.posts) (good_posts lines (All-tail IsGood line lines good))

-- A generated script is valid.
pub generated_valid : (number : ℕ) → IsValid (generated_script number)
generated_valid number = record {
  named = AllPass-from_list_all is_name generated_names refl;
  clients = refl;
  few_clients = lit≤ tt;
  lines = good_lines 0 0 600000 600000 lines (omega arith) (omega arith) (generated_rise number) good;
  entries = All-weaker IsGood IsEntry (λ line fine. fine.entry) lines good;
  early = lit≤ tt;
  few_lines = omega (arith, length-append (registrations number 8) (start ∷ seconds number 600), registrations_few number 8, seconds_few number 600);
  few_registrations = few;
  few_variables = let known = few_among all_variables (posts_of lines) (good_posts lines good) in omega (arith, known);
}
  where
    lines : List Entry
    lines = registrations number 8 ++ start ∷ seconds number 600

    later : All IsLater (start ∷ seconds number 600)
    later = All-cons IsLater start (seconds number 600) start_later (seconds_later number 600 (omega arith))

    good : All IsGood (registrations number 8 ++ start ∷ seconds number 600)
    good = All-append IsGood (registrations number 8) (start ∷ seconds number 600) (registrations_good number 8 (omega arith))
        (All-weaker IsLater IsGood (λ line more. more.good) (start ∷ seconds number 600) later)

    none : (client : ℕ) (line : Entry) → IsLater line → cond (line.client == client && is_register line.call) 1 0 ≤ 0
    none client line more = subst (λ b. cond (line.client == client && b) 1 0 ≤ 0) (sym more.other) (neither (line.client == client))
      where
        neither : (b : Bool) → cond (b && false) 1 0 ≤ 0
        neither true = omega arith
        neither false = omega arith

    few : (client : ℕ) → registrations_of client (registrations number 8 ++ start ∷ seconds number 600) ≤ 256
    few client =
        let test : Entry → Bool = λ line. line.client == client && is_register line.call in
        let mine : Entry → ℕ = λ line. cond (line.client == client && is_register line.call) 1 0 in
        let sums = sum_by-append mine (registrations number 8) (start ∷ seconds number 600) in
        let first = count_by-le-length test (registrations number 8) in
        let rest = sum_by-le mine 0 (start ∷ seconds number 600) (All-weaker IsLater (λ line. mine line ≤ 0) (none client) (start ∷ seconds number 600) later) in
        omega (arith, sums, first, rest, registrations_few number 8)
