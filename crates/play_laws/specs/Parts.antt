-- What all lawful histories of one play have in common, however the calls of its clients fell between each other.
use Rattle.std.specs.Prelude.{◌≡◌, ◌≢◌, ℕ, ◌==◌, List, [], map, count_by, Option}
use Rattle.moos_client.specs.Calls.{entries_of}
use Rattle.moos_play.specs.Lawful.{HelmSetup, helm_number, IsLawful}
use Rattle.moos_post.specs.declared.entry.Call.{Call}
use Rattle.moos_post.specs.declared.entry.Call.TheVariants.{Register, Unregister, Post as Posts, Fetch}
use Rattle.moos_post.specs.declared.entry.Entry.{Entry}
use Rattle.moos_post.specs.History.{History}
use Rattle.script_reader.specs.declared.script.Order.{Order}
use Rattle.script_reader.specs.declared.script.Script.{Script}

-- a call without what it posts
abbrev pub call_but_pairs : Call → Call
call_but_pairs (Register regs) = Register regs
call_but_pairs (Unregister var source) = Unregister var source
call_but_pairs (Posts batch) = Posts []
call_but_pairs Fetch = Fetch

-- an entry without what it posts
abbrev pub entry_but_pairs : Entry → Entry
entry_but_pairs entry = record entry { call = call_but_pairs entry.call }

-- how many entries have this stamp
abbrev pub count_of_stamp : ℕ → History → ℕ
count_of_stamp stamp history = count_by (λ entry. entry.stamp == stamp) history

-- Each client but the helm has the same entries in both histories, in the same order and with the same stamps. So has the helm, but for
-- what it posts. And each stamp has as many entries in the one as in the other.
pub record HaveSameParts (helm : ℕ) (history other : History) : Type 0 where
  pub own : (client : ℕ) → client ≢ helm → entries_of client other ≡ entries_of client history
  pub steered : map entry_but_pairs (entries_of helm other) ≡ map entry_but_pairs (entries_of helm history)
  pub counts : (stamp : ℕ) → count_of_stamp stamp other ≡ count_of_stamp stamp history

-- So it is with any two histories that are lawful for one script and one helm, each in whichever order.
abbrev pub PartsAreSame : Type 0
PartsAreSame =
    (one two : Order) (script : Script) (helm : Option HelmSetup) (names : List (List ℕ)) (history other : History)
    → IsLawful one script helm names history → IsLawful two script helm names other → HaveSameParts (helm_number script) history other
