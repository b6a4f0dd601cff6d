-- What is posted of contacts: at most 64 pairs, each as its type lets it be.
use Rattle.std.proofs.Common.{◌≡◌, ℕ, ℤ, suc, ◌*◌, ◌<◌, ◌≤◌, ◌^◌, pos, neg_ℤ, Bool, true, false, ◌&&◌, ◌||◌, nat_le, List, [], ◌∷◌, ◌++◌, length, length-append, refl, ap, arith}
use Rattle.std.specs.Prelude.{◌≤ℤ◌, bytes_eq, codes, fold, if◌then◌else◌, IfSome, int_le, IsTrue, nat_lt, None, Option, Some}
use Rattle.std.specs.List.{All, AllByRecursion as Each, flat_map, list_any}
use Rattle.std.proofs.lemmas.Bool.Decides.{nat_tests}
use Rattle.std.proofs.lemmas.Int.{ints}
use Rattle.std.proofs.lemmas.List.Elements.{All-append, All-from_recursion, All-nil}
use Rattle.moos_post.specs.declared.value.Pair.{Pair}
use Rattle.moos_post.specs.declared.value.Value.{Value}
use Rattle.moos_post.specs.declared.value.Value.TheVariants.{Num, Text}
use Rattle.moos_post.specs.Entries.{IsPair}
use Rattle.moos_post.specs.Words.{is_name, IsMilli}
use Rattle.moos_text.specs.Numbers.{milli_of}
use Rattle.contact_avoid.proofs.Worded.{inside_is_text, name_text, outside_is_text}
use Rattle.contact_avoid.specs.Contacts.{batch_at, batches_from, contact_posts, contacts_after, contacts_with, is_inside, is_report_of, Picture, picture_after, pictures_from, report_in, reported, Turns, with_report}
use Rattle.contact_avoid.specs.declared.ranges.Ranges.{Ranges}
use Rattle.contact_avoid.specs.declared.report.Report.{Report}
use Rattle.contact_avoid.specs.Reports.{contact_name, have_sides, kept_in, name_in, number_in_range, number_under, report_of, report_with, value_of}
use Rattle.sim_clients.specs.Clients.{last_batch}

-- ---- the parts of a good report

-- a name and four numbers, as a post may have them
record IsSound (report : Report) : Type 0 where
  pub name : IsTrue (is_name report.name)
  pub x : IsMilli report.x
  pub y : IsMilli report.y
  pub speed : IsMilli report.speed
  pub heading : IsMilli report.heading

kept : (low high number : ℤ) → neg_ℤ (pos (10 ^ 12)) ≤ℤ low → high ≤ℤ pos (10 ^ 12) → IfSome (kept_in low high (Some number)) IsMilli
kept low high number least most = by (int_le low number && int_le number high) refl
  where
    by : (is : Bool) → (int_le low number && int_le number high) ≡ is → IfSome (if is then Some number else None) IsMilli
    by true e = grind (arith, nat_tests, ints)
    by false e = tt

ranged : (low high : ℤ) (value : Option (List ℕ)) → neg_ℤ (pos (10 ^ 12)) ≤ℤ low → high ≤ℤ pos (10 ^ 12) → IfSome (number_in_range low high value) IsMilli
ranged low high None least most = tt
ranged low high (Some value) least most = by (milli_of value)
  where
    by : (number : Option ℤ) → IfSome (kept_in low high number) IsMilli
    by None = tt
    by (Some number) = kept low high number least most

named : (value : Option (List ℕ)) → IfSome (name_in value) (λ name. IsTrue (is_name name))
named None = tt
named (Some value) = by (nat_le (length value) 32) (is_name value) refl
  where
    by : (short is : Bool) → is_name value ≡ is → IfSome (if short && is then Some value else None) (λ name. IsTrue (is_name name))
    by true true e = e
    by true false e = tt
    by false is e = tt

sound_with : (x y speed heading : Option ℤ) (name : Option (List ℕ)) → IfSome x IsMilli → IfSome y IsMilli → IfSome speed IsMilli → IfSome heading IsMilli → IfSome name (λ name. IsTrue (is_name name))
    → IfSome (report_with x y speed heading name) IsSound
sound_with None y speed heading name a b c d e = tt
sound_with (Some x) None speed heading name a b c d e = tt
sound_with (Some x) (Some y) None heading name a b c d e = tt
sound_with (Some x) (Some y) (Some speed) None name a b c d e = tt
sound_with (Some x) (Some y) (Some speed) (Some heading) None a b c d e = tt
sound_with (Some x) (Some y) (Some speed) (Some heading) (Some name) a b c d e = record { name = e; x = a; y = b; speed = c; heading = d }

sound_text : (text : List ℕ) → IfSome (report_of text) IsSound
sound_text text = by (have_sides text)
  where
    x : Option ℤ
    x = number_under text (codes "X") (neg_ℤ (pos 1000000000)) (pos 1000000000)

    y : Option ℤ
    y = number_under text (codes "Y") (neg_ℤ (pos 1000000000)) (pos 1000000000)

    speed : Option ℤ
    speed = number_under text (codes "SPD") (pos 0) (pos 100000)

    heading : Option ℤ
    heading = number_under text (codes "HDG") (pos 0) (pos 360000)

    by : (all : Bool) → IfSome (if all then report_with x y speed heading (contact_name text) else None) IsSound
    by false = tt
    by true =
        sound_with x y speed heading (contact_name text)
        (ranged (neg_ℤ (pos 1000000000)) (pos 1000000000) (value_of (codes "X") text) (omega (arith, ints)) (omega (arith, ints)))
        (ranged (neg_ℤ (pos 1000000000)) (pos 1000000000) (value_of (codes "Y") text) (omega (arith, ints)) (omega (arith, ints)))
        (ranged (pos 0) (pos 100000) (value_of (codes "SPD") text) (omega (arith, ints)) (omega (arith, ints)))
        (ranged (pos 0) (pos 360000) (value_of (codes "HDG") text) (omega (arith, ints)) (omega (arith, ints)))
        (named (value_of (codes "NAME") text))

sound_pair : (pair : Pair) → IfSome (reported pair) IsSound
sound_pair pair = by (bytes_eq (codes "NODE_REPORT") pair.var)
  where
    told : (value : Value) → IfSome (report_in value) IsSound
    told (Num number) = tt
    told (Text text) = sound_text text

    by : (is : Bool) → IfSome (if is then report_in pair.value else None) IsSound
    by true = told pair.value
    by false = tt

-- ---- the contacts that are known

-- at most 32, each by a sound report
record AreSound (known : List Report) : Type 0 where
  pub few : length known ≤ 32
  pub each : Each IsSound known

each_with : (report : Report) (known : List Report) → IsSound report → Each IsSound known → Each IsSound (with_report report known)
each_with report [] sound each = (sound, tt)
each_with report (other ∷ more) sound each = by (is_report_of report.name other) (each_with report more sound each.1)
  where
    by : (same : Bool) → Each IsSound (with_report report more) → Each IsSound (if same then report ∷ more else other ∷ with_report report more)
    by true behind = (sound, each.1)
    by false behind = (each.0, behind)

-- a report in the place of another, and one more
many_with : (report : Report) (known : List Report) → length (with_report report known) ≡ (if list_any (is_report_of report.name) known then length known else suc (length known))
many_with report [] = refl
many_with report (other ∷ more) = by (is_report_of report.name other) (list_any (is_report_of report.name) more) (many_with report more)
  where
    by : (same rest : Bool) → length (with_report report more) ≡ (if rest then length more else suc (length more))
        → length (if same then report ∷ more else other ∷ with_report report more) ≡ (if same || rest then suc (length more) else suc (suc (length more)))
    by true rest behind = refl
    by false true behind = ap suc behind
    by false false behind = ap suc behind

sound_after : (known : List Report) (found : Option Report) → IfSome found IsSound → AreSound known → AreSound (contacts_with known found)
sound_after known None sound are = are
sound_after known (Some report) sound are = by (list_any (is_report_of report.name) known) (nat_lt (length known) 32) refl (many_with report known)
  where
    by : (any less : Bool) → nat_lt (length known) 32 ≡ less → length (with_report report known) ≡ (if any then length known else suc (length known)) → AreSound (if any || less then with_report report known else known)
    by true less e many = record { few = omega (arith, many, are.few); each = each_with report known sound are.each }
    by false true e many = let room : length known < 32 = grind (arith, nat_tests, e) in record { few = omega (arith, many, room); each = each_with report known sound are.each }
    by false false e many = are

all_sound : (known : List Report) (heard : List Pair) → AreSound known → AreSound (fold (λ known pair. contacts_with known (reported pair)) known heard)
all_sound known [] are = are
all_sound known (pair ∷ more) are = all_sound (contacts_with known (reported pair)) more (sound_after known (reported pair) (sound_pair pair) are)

contacts_sound : (heard : List Pair) → AreSound (contacts_after heard)
contacts_sound heard = all_sound [] heard (record { few = omega arith; each = tt })

-- ---- the batches

-- so many pairs at most, each as its type lets it be
pub record ArePairs (most : ℕ) (batch : List Pair) : Type 0 where
  pub few : length batch ≤ most
  pub pairs : All IsPair batch

posts_are : (before now : Bool) (report : Report) → IsSound report → ArePairs 2 (contact_posts before now report)
posts_are false false report sound = record { few = omega arith; pairs = All-nil IsPair }
posts_are false true report sound = record {
  few = omega arith;
  pairs = All-from_recursion IsPair (contact_posts false true report) (
    record { var = refl; value = name_text report.name sound.name },
    (record { var = refl; value = inside_is_text report sound.name sound.x sound.y sound.speed sound.heading }, tt),
  );
}
posts_are true true report sound = record {
  few = omega arith;
  pairs = All-from_recursion IsPair (contact_posts true true report) (record { var = refl; value = inside_is_text report sound.name sound.x sound.y sound.speed sound.heading }, tt);
}
posts_are true false report sound = record {
  few = omega arith;
  pairs = All-from_recursion IsPair (contact_posts true false report) (
    record { var = refl; value = name_text report.name sound.name },
    (record { var = refl; value = outside_is_text report sound.name }, tt),
  );
}

all_posts : (posts : Report → List Pair) → ((report : Report) → IsSound report → ArePairs 2 (posts report)) → (known : List Report) → Each IsSound known → ArePairs (length known * 2) (flat_map posts known)
all_posts posts are [] each = record { few = omega arith; pairs = All-nil IsPair }
all_posts posts are (report ∷ more) each =
    let here = are report each.0 in
    let rest = all_posts posts are more each.1 in
    record { few = omega (arith, length-append (posts report) (flat_map posts more), here.few, rest.few); pairs = All-append IsPair (posts report) (flat_map posts more) here.pairs rest.pairs }

batch_is : (ranges : Ranges) (before : List Picture) (heard : List Pair) → ArePairs 64 (batch_at ranges before (picture_after heard))
batch_is ranges before heard =
    let known = contacts_sound heard in
    let all = all_posts (λ (report : Report). contact_posts (is_inside ranges report.name before) (is_inside ranges report.name (before ++ picture_after heard ∷ [])) report)
    (λ report sound. posts_are (is_inside ranges report.name before) (is_inside ranges report.name (before ++ picture_after heard ∷ [])) report sound) (contacts_after heard) known.each in
    record { few = omega (arith, all.few, known.few); pairs = all.pairs }

-- THE LAST BATCH OF ANY TURNS
pub last_is : (ranges : Ranges) (before : List Picture) (heard : List Pair) (turns : Turns) → ArePairs 64 (last_batch (batches_from ranges before (pictures_from heard turns)))
last_is ranges before heard [] = record { few = omega arith; pairs = All-nil IsPair }
last_is ranges before heard (said ∷ []) = batch_is ranges before (heard ++ said)
last_is ranges before heard (said ∷ next ∷ later) = last_is ranges (before ++ picture_after (heard ++ said) ∷ []) (heard ++ said) (next ∷ later)

-- the last of some batches and one more is that one
pub last_behind : (batches : List (List Pair)) (batch : List Pair) → last_batch (batches ++ batch ∷ []) ≡ batch
last_behind [] batch = refl
last_behind (first ∷ []) batch = refl
last_behind (first ∷ next ∷ later) batch = last_behind (next ∷ later) batch
