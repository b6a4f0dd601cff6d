-- Two communities that are played with a bridge between them: where each is between two steps, and what a step does.
use Rattle.std.specs.Prelude.{◌≡◌, ◌≢◌, ℕ, ◌-◌, ◌==◌, ◌≤◌, nat_lt, Bool, false, List, [], ◌∷◌, ◌++◌, length, take, drop, Option, None, Some, IsTrue}
use Rattle.std.specs.List.{list_all}
use Rattle.moos_bridged.specs.declared.community.Community.{Community}
use Rattle.moos_client.specs.Calls.{entries_of, entry_of, IsFetched, SeatState}
use Rattle.moos_db.specs.declared.mail.Letter.{Letter}
use Rattle.moos_db.specs.Database.{letters_after}
use Rattle.moos_post.specs.declared.entry.Call.{Call}
use Rattle.moos_post.specs.declared.entry.Call.TheVariants.{Fetch, Post as Posts}
use Rattle.moos_post.specs.declared.entry.Entry.{Entry}
use Rattle.moos_post.specs.History.{History}
use Rattle.moos_share.specs.Bridged.{bridge_number, names_bridged}
use Rattle.moos_share.specs.Carrying.{HasGoneOn}
use Rattle.moos_share.specs.declared.rule.Rule.{Rule}
use Rattle.moos_share.specs.Renaming.{renamed}
use Rattle.moos_step.specs.Steps.{IsGathered, IsWhole}
use Rattle.script_reader.specs.declared.script.Script.{Script}
use Rattle.script_reader.specs.Validity.{IsValid}

-- the script that a community plays
abbrev pub community_script : Community → Script
community_script community = community.script.now

-- the history of a community so far
abbrev pub community_history : Community → History
community_history community = community.first.seat.seen

-- the number of the bridge in it
abbrev pub bridge_in : Community → ℕ
bridge_in community = bridge_number (community_script community)

-- the lines that it has played
abbrev pub done_lines : Community → List Entry
done_lines community = take community.from (community_script community).lines

-- the lines of a community that are left
abbrev pub left_lines : Community → List Entry
left_lines community = drop community.from (community_script community).lines

-- the lines from one place to another
abbrev pub lines_cut : ℕ → ℕ → List Entry → List Entry
lines_cut from to lines = take (to - from) (drop from lines)

-- the stamp of the first of these lines, if there is one
abbrev pub next_line_stamp : List Entry → Option ℕ
next_line_stamp [] = None
next_line_stamp (line ∷ lines) = Some line.stamp

-- whether the first of these lines has this stamp
abbrev pub is_next : ℕ → List Entry → Bool
is_next stamp [] = false
is_next stamp (line ∷ lines) = line.stamp == stamp

-- an entry of the bridge in a community
abbrev pub bridge_entry : Community → ℕ → Call → Entry
bridge_entry community stamp call = entry_of (bridge_in community) stamp call

-- A community between two steps: the first seat has taken in all others and has seen the whole history, in which each client but the
-- bridge has just its lines so far.
pub record IsResting (community : Community) : Type 0 where
  pub valid : IsValid (community_script community)
  pub names : community.lock.base ≡ names_bridged (community_script community)
  pub gathered : IsGathered community.lock community.first.seat
  pub whole : IsWhole community.first.seat
  pub within : community.from ≤ length (community_script community).lines
  pub calls : length community.calls.items ≡ length (community_script community).names
  pub own : (client : ℕ) → client ≢ bridge_in community → entries_of client (community_history community) ≡ entries_of client (done_lines community)

-- the same community, whose history goes on by these entries
pub record GoesOnBy (added : List Entry) (before after : Community) : Type 0 where
  pub script : community_script after ≡ community_script before
  pub lock : after.lock ≡ before.lock
  pub history : community_history after ≡ community_history before ++ added

-- as many lines are left
abbrev pub StaysAt : Community → Community → Type 0
StaysAt before after = after.from ≡ before.from

-- A community's clients have played these lines, each its own in order.
pub record HasPlayedLines (lines : List Entry) (before after : Community) : Type 0 where
  pub added : List Entry
  pub on : GoesOnBy added before after
  pub own : (client : ℕ) → entries_of client added ≡ entries_of client lines

-- where the lines end that have this stamp, of those from one place on
pub record IsStampEnd (stamp from to : ℕ) (lines : List Entry) : Type 0 where
  pub more : from ≤ to
  pub within : to ≤ length lines
  pub one : IsTrue (list_all (λ line. line.stamp == stamp) (lines_cut from to lines))
  pub over : is_next stamp (drop to lines) ≡ false

-- A community's clients have played the lines of a stamp, which are the first that were left: none of this stamp or an earlier
-- one is left.
pub record HasPlayedStamp (stamp : ℕ) (before after : Community) : Type 0 where
  pub lines : List Entry
  pub played : HasPlayedLines lines before after
  pub left : left_lines before ≡ lines ++ left_lines after
  pub done : done_lines after ≡ done_lines before ++ lines
  pub one : IsTrue (list_all (λ line. line.stamp == stamp) lines)
  pub over : IsTrue (list_all (λ line. nat_lt stamp line.stamp) (left_lines after))

-- One carrying from the bridge's seat in the first community, while nobody calls in the second: the seat makes a fetch, and the post
-- of the renaming of its mail ends the second history.
pub record HasCrossedFrom (names : List (List ℕ)) (rules : List Rule) (stamp : ℕ) (from from_new : SeatState) (two two_new : Community) : Type 0 where
  pub mail : List Letter
  pub fetched : IsFetched from from_new names stamp mail
  pub on_from : HasGoneOn from from_new
  pub second : GoesOnBy (bridge_entry two stamp (Posts (renamed names rules mail)) ∷ []) two two_new
  pub to : StaysAt two two_new

-- One carrying while nobody else calls: the bridge's fetch ends the first history, and the post of the renaming of its mail the
-- second.
pub record HasCrossed (rules : List Rule) (stamp : ℕ) (one one_new two two_new : Community) : Type 0 where
  pub first : GoesOnBy (bridge_entry one stamp Fetch ∷ []) one one_new
  pub second : GoesOnBy
      (bridge_entry two stamp
      (Posts (renamed (names_bridged (community_script one)) rules (letters_after (names_bridged (community_script one)) (bridge_in one) (community_history one)))) ∷ [])
      two two_new
  pub from : StaysAt one one_new
  pub to : StaysAt two two_new
