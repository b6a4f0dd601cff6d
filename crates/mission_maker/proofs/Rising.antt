-- The lines of a generated script rise in their stamps.
use Rattle.std.proofs.Common.{◌≡◌, ℕ, zero, suc, ◌+◌, ◌*◌, ◌≤◌, ◌==◌, Bool, true, false, cond, nat_le, List, [], ◌∷◌, ◌++◌, refl, arith}
use Rattle.std.proofs.lemmas.Bool.{and_from, and_parts, le-leb, leb-true}
use Rattle.moos_post.specs.declared.entry.Call.TheVariants.{Fetch}
use Rattle.moos_post.specs.declared.entry.Entry.{Entry}
use Rattle.mission_maker.specs.Draws.{draw}
use Rattle.mission_maker.specs.Generated.{draws_before, fetch_behind, generated_script, line_at, position_told, registration, registrations, seconds, start, talk, turn_stamp, turns}
use Rattle.mission_maker.specs.Stamps.{rise_within}

-- lines that rise within bounds do so within wider ones
rise_wider : (low from to high : ℕ) (lines : List Entry) → low ≤ from → to ≤ high → rise_within from to lines ≡ true → rise_within low high lines ≡ true
rise_wider low from to high [] before behind rise = let within = leb-true from to rise in le-leb low high (omega arith)
rise_wider low from to high (line ∷ lines) before behind rise =
    let parts = and_parts (nat_le from line.stamp) (rise_within (suc line.stamp) to lines) rise in
    let within = leb-true from line.stamp parts.0 in
    and_from (nat_le low line.stamp) (rise_within (suc line.stamp) high lines) (le-leb low line.stamp (omega arith))
    (rise_wider (suc line.stamp) (suc line.stamp) to high lines (omega arith) behind parts.1)

-- lines that rise up to a stamp, and lines that rise from there
rise_append : (from at to : ℕ) (lines more : List Entry) → rise_within from at lines ≡ true → rise_within at to more ≡ true → rise_within from to (lines ++ more) ≡ true
rise_append from at to [] more first second = rise_wider from at to to more (leb-true from at first) (omega arith) second
rise_append from at to (line ∷ lines) more first second =
    let parts = and_parts (nat_le from line.stamp) (rise_within (suc line.stamp) at lines) first in
    and_from (nat_le from line.stamp) (rise_within (suc line.stamp) to (lines ++ more)) parts.0 (rise_append (suc line.stamp) at to lines more parts.1 second)

-- a line in front of others
rise_cons : (from to : ℕ) (line : Entry) (lines : List Entry) → from ≤ line.stamp → rise_within (suc line.stamp) to lines ≡ true → rise_within from to (line ∷ lines) ≡ true
rise_cons from to line lines early rise = and_from (nat_le from line.stamp) (rise_within (suc line.stamp) to lines) (le-leb from line.stamp early) rise

registrations_rise : (number k : ℕ) → rise_within 0 k (registrations number k) ≡ true
unfolding registrations
registrations_rise number zero = refl
registrations_rise number (suc k) =
    rise_append 0 k (suc k) (registrations number k) (registration number k ∷ []) (registrations_rise number k)
    (rise_cons k (suc k) (registration number k) [] (omega arith) (le-leb (suc k) (suc k) (omega arith)))

fetch_rises : (number second k : ℕ) → rise_within (suc (turn_stamp second k)) (turn_stamp second k + 100) (fetch_behind number second k) ≡ true
fetch_rises number second k = at (draw number (draws_before second k + 2) 4 == 0)
  where
    stamp : ℕ
    stamp = turn_stamp second k

    at : (b : Bool) → rise_within (suc (turn_stamp second k)) (turn_stamp second k + 100) (cond b (line_at (turn_stamp second k + 1) k Fetch ∷ []) []) ≡ true
    at false = le-leb (suc (turn_stamp second k)) (turn_stamp second k + 100) (omega arith)
    at true =
        rise_cons (suc (turn_stamp second k)) (turn_stamp second k + 100) (line_at (turn_stamp second k + 1) k Fetch) [] (omega arith)
        (le-leb (suc (turn_stamp second k + 1)) (turn_stamp second k + 100) (omega arith))

turns_rise : (number second k : ℕ) → rise_within (1000 * second + 100) (turn_stamp second k) (turns number second k) ≡ true
unfolding turns
turns_rise number second zero = le-leb (1000 * second + 100) (1000 * second + 100 * 0 + 100) (omega arith)
turns_rise number second (suc k) =
    rise_append (1000 * second + 100) (turn_stamp second k) (turn_stamp second (suc k)) (turns number second k) (talk number second k ∷ fetch_behind number second k)
    (turns_rise number second k)
    (rise_cons (turn_stamp second k) (turn_stamp second (suc k)) (talk number second k) (fetch_behind number second k) (omega arith)
    (rise_wider (suc (turn_stamp second k)) (suc (turn_stamp second k)) (turn_stamp second k + 100) (turn_stamp second (suc k)) (fetch_behind number second k) (omega arith) (omega arith) (fetch_rises number second k)))

-- one second more, whose last line is its position
second_rises : (number second : ℕ) → rise_within 51 (1000 * second + 51) (seconds number second) ≡ true → rise_within 51 (1000 * second + 951) (seconds number (suc second)) ≡ true
unfolding seconds
second_rises number second rise =
    rise_append 51 (1000 * second + 900) (1000 * second + 951) (seconds number second ++ turns number second 8) (position_told number second ∷ [])
    (rise_append 51 (1000 * second + 51) (1000 * second + 900) (seconds number second) (turns number second 8) rise
    (rise_wider (1000 * second + 51) (1000 * second + 100) (turn_stamp second 8) (1000 * second + 900) (turns number second 8) (omega arith) (omega arith) (turns_rise number second 8)))
    (rise_cons (1000 * second + 900) (1000 * second + 951) (position_told number second) [] (omega arith) (le-leb (suc (1000 * second + 950)) (1000 * second + 951) (omega arith)))

seconds_rise : (number second : ℕ) → rise_within 51 (1000 * second + 51) (seconds number second) ≡ true
unfolding seconds
seconds_rise number zero = refl
seconds_rise number (suc second) =
    rise_wider 51 51 (1000 * second + 951) (1000 * suc second + 51) (seconds number (suc second)) (omega arith) (omega arith) (second_rises number second (seconds_rise number second))

-- no two lines of a generated script have one stamp, and all are before its end
pub generated_rise : (number : ℕ) → rise_within 0 600000 (generated_script number).lines ≡ true
generated_rise number =
    rise_append 0 8 600000 (registrations number 8) (start ∷ seconds number 600) (registrations_rise number 8)
    (rise_cons 8 600000 start (seconds number 600) (omega arith)
    (rise_wider 51 51 (1000 * 599 + 951) 600000 (seconds number 600) (omega arith) (omega arith) (second_rises number 599 (seconds_rise number 599))))
