-- When two histories are bridged: what the bridge fetches in the first and posts in the second, and where its entries are.
use Rattle.std.specs.Prelude.{◌≡◌, ◌≢◌, ℕ, suc, max, ◌*◌, ◌==◌, ◌&&◌, ◌||◌, Bool, true, nat_le, nat_lt, if◌then◌else◌, List, [], ◌∷◌, ◌++◌, length, map, codes, IsTrue}
use Rattle.std.specs.List.{list_all, list_any}
use Rattle.moos_client.specs.Calls.{entries_of, entry_of}
use Rattle.moos_post.specs.declared.entry.Call.TheVariants.{Register}
use Rattle.moos_post.specs.declared.entry.Entry.{Entry}
use Rattle.moos_post.specs.declared.registration.Reg.{Reg}
use Rattle.moos_post.specs.History.{History}
use Rattle.moos_share.specs.declared.rule.Rule.{Rule}
use Rattle.moos_share.specs.Fetches.{fetch_entry, fetches_of, MailedFetch, post_entry}
use Rattle.script_reader.specs.declared.script.Order.{Order}
use Rattle.script_reader.specs.declared.script.Order.TheVariants.{Stamp, Race}
use Rattle.script_reader.specs.declared.script.Script.{Script}

-- the names of the clients of a community with a bridge: the script's, and then the bridge's
abbrev pub names_bridged : Script → List (List ℕ)
names_bridged script = script.names ++ codes "pShare" ∷ []

-- the bridge has the number behind the script's clients
abbrev pub bridge_number : Script → ℕ
bridge_number script = length script.names

-- what the bridge registers for in the first community: its rules' patterns and intervals, in order
abbrev pub regs_of_rules : List Rule → List Reg
regs_of_rules rules = map (λ rule. rule.reg) rules

-- the bridge's first entry, by which it registers at stamp 0
abbrev pub bridge_opening : Script → List Rule → Entry
bridge_opening first rules = entry_of (bridge_number first) 0 (Register (regs_of_rules rules))

-- the bridge's fetches in the first community
abbrev pub fetches_on : Script → History → List MailedFetch
fetches_on first history = fetches_of (names_bridged first) (bridge_number first) history

-- the bridge's post in the second community for a fetch in the first
abbrev pub shared_entry : Script → Script → List Rule → MailedFetch → Entry
shared_entry first second rules one = post_entry (names_bridged first) rules (bridge_number second) one

-- one of these lines has this stamp
abbrev pub has_stamp : ℕ → List Entry → Bool
has_stamp stamp lines = list_any (λ line. line.stamp == stamp) lines

-- each number is above the one before it
abbrev pub are_rising : List ℕ → Bool
are_rising [] = true
are_rising (one ∷ []) = true
are_rising (one ∷ next ∷ later) = nat_lt one next && are_rising (next ∷ later)

-- these are the stamps at which a line of either script makes a call, each once, in rising order
pub record AreStamps (first second : List Entry) (stamps : List ℕ) : Type 0 where
  pub rising : IsTrue (are_rising stamps)
  pub each : IsTrue (list_all (λ stamp. has_stamp stamp first || has_stamp stamp second) stamps)
  pub all : IsTrue (list_all (λ line. list_any (λ stamp. stamp == line.stamp) stamps) (first ++ second))

-- the moment of an entry: each stamp has two, the first for the script's clients and the second for the bridge
abbrev pub bridge_moment : ℕ → Entry → ℕ
bridge_moment bridge entry = if entry.client == bridge then suc (2 * entry.stamp) else 2 * entry.stamp

-- No entry's moment is below that of the one before, nor below the first one. So stamps don't fall, and the bridge's entry of a
-- stamp follows the others of that stamp.
abbrev pub keeps_moments : ℕ → ℕ → History → Bool
keeps_moments bridge last [] = true
keeps_moments bridge last (entry ∷ later) = nat_le last (bridge_moment bridge entry) && keeps_moments bridge (bridge_moment bridge entry) later

-- What order Stamp asks, of the first history what follows the opening: the bridge fetches once at each stamp at which a line
-- of either script is, and its entry of a stamp follows the clients' in both histories.
pub record KeepsStamps (first second : Script) (one rest two : History) : Type 0 where
  pub stamps : AreStamps first.lines second.lines (map (λ fetch. fetch.stamp) (fetches_on first one))
  pub first_in_order : IsTrue (keeps_moments (bridge_number first) 0 rest)
  pub second_in_order : IsTrue (keeps_moments (bridge_number second) 0 two)

-- the stamps of the fetches of a race: those of the first script's lines, and then the greater of both scripts' last stamps
abbrev pub race_stamps : Script → Script → List ℕ
race_stamps first second = map (λ line. line.stamp) first.lines ++ max first.stop second.stop ∷ []

-- the history ends with this entry
abbrev pub Ends : History → Entry → Type 0
Ends history entry = (front : History) × (history ≡ front ++ entry ∷ [])

-- the last fetch ends the first history, and its post the second
pub record EndsWithLast (first second : Script) (rules : List Rule) (one two : History) : Type 0 where
  pub before : List MailedFetch
  pub last : MailedFetch
  pub fetches : fetches_on first one ≡ before ++ last ∷ []
  pub fetch : Ends one (fetch_entry (bridge_number first) last)
  pub post : Ends two (shared_entry first second rules last)

-- What order Race asks: the bridge fetches once for each line of the first script, at its stamp, and once at the end.
pub record KeepsRace (first second : Script) (rules : List Rule) (one two : History) : Type 0 where
  pub stamps : map (λ fetch. fetch.stamp) (fetches_on first one) ≡ race_stamps first second
  pub ended : EndsWithLast first second rules one two

-- what an order asks of two histories, the first of which has this rest behind its first entry
abbrev pub KeepsBridge : Order → Script → Script → List Rule → History → History → History → Type 0
KeepsBridge Stamp first second rules one rest two = KeepsStamps first second one rest two
KeepsBridge Race first second rules one rest two = KeepsRace first second rules one two

-- Two histories are bridged: The first begins with the bridge's opening. The bridge's other entries there are fetches. Its
-- entries in the second are posts, one for each fetch in order, with its stamp and the renaming of its mail. All are as
-- the order asks.
pub record IsBridged (order : Order) (first second : Script) (rules : List Rule) (one two : History) : Type 0 where
  pub rest : History
  pub opened : one ≡ bridge_opening first rules ∷ rest
  pub fetched : entries_of (bridge_number first) rest ≡ map (fetch_entry (bridge_number first)) (fetches_on first one)
  pub posted : entries_of (bridge_number second) two ≡ map (shared_entry first second rules) (fetches_on first one)
  pub ordered : KeepsBridge order first second rules one rest two

-- every other client's entries are its lines, in order and with their stamps, and nobody else has an entry
abbrev pub HasOwnLines : Script → History → Type 0
HasOwnLines script history = (client : ℕ) → client ≢ bridge_number script → entries_of client history ≡ entries_of client script.lines

-- What sharing leaves: two bridged histories, in which all other entries are the scripts' lines.
pub record IsShared (order : Order) (first second : Script) (rules : List Rule) (one two : History) : Type 0 where
  pub bridged : IsBridged order first second rules one two
  pub first_lines : HasOwnLines first one
  pub second_lines : HasOwnLines second two
