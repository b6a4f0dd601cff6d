-- The report of a history and the helm's iterations in it: what is printed, line by line.
use Rattle.std.specs.Prelude.{◌≡◌, ℕ, suc, Bool, ◌==◌, ◌||◌, List, [], ◌∷◌, ◌++◌, length, codes, decimal, if◌then◌else◌, Option, Some, None, slice_get, flat_map}
use Rattle.std.specs.List.{concat}
use Rattle.moos_post.specs.declared.entry.Call.{Call}
use Rattle.moos_post.specs.declared.entry.Call.TheVariants.{Register, Unregister, Post as Posts, Fetch}
use Rattle.moos_post.specs.declared.entry.Entry.{Entry}
use Rattle.moos_post.specs.declared.registration.Reg.{Reg}
use Rattle.moos_post.specs.declared.value.Post.{Post}
use Rattle.moos_post.specs.declared.value.Value.{Value}
use Rattle.moos_post.specs.declared.value.Value.TheVariants.{Num, Text}
use Rattle.moos_post.specs.Delivery.{mail_after}
use Rattle.moos_post.specs.History.{History, posts_of, posts_of_entry, name_of}
use Rattle.moos_text.specs.Numbers.{milli_text, unsigned_text}
use Rattle.bhv_file.specs.declared.file.Unused.{Unused}
use Rattle.helm_core.specs.declared.iteration.Iteration.{Iteration}
use Rattle.moos_report.specs.declared.setup.Setup.{Setup}
use Rattle.moos_report.specs.Community.{IsCommunity, StandOnLines}
use Rattle.moos_report.specs.IterationLines.{outcome_text}

-- `"` and `\`
abbrev pub is_sign : ℕ → Bool
is_sign byte = byte == 34 || byte == 92

-- a byte of a text, with `\` before `"` and `\`
abbrev pub escaped : ℕ → List ℕ
escaped byte = if is_sign byte then 92 ∷ byte ∷ [] else byte ∷ []

-- a number as it prints, and a text between quotes
abbrev pub value_text : Value → List ℕ
value_text (Num number) = milli_text number
value_text (Text text) = concat (codes "\"" ∷ flat_map escaped text ∷ codes "\"" ∷ [])

-- `STAMP VAR SOURCE VALUE`, the stamp in seconds
abbrev pub said_text : ℕ → List ℕ → List ℕ → Value → List ℕ
said_text stamp source var value =
    concat (unsigned_text stamp ∷ codes " " ∷ var ∷ codes " " ∷ source ∷ codes " " ∷ []) ++ (value_text value ++ codes "\n")

-- the line of a post, which names its client
abbrev pub post_text : List (List ℕ) → Post → List ℕ
post_text names post = said_text post.stamp (name_of names post.source) post.var post.value

-- the line of a registration: both patterns, and the interval in seconds
abbrev pub reg_text : Reg → List ℕ
reg_text reg = concat (codes "%% reg " ∷ reg.var ∷ codes " " ∷ reg.source ∷ codes " " ∷ unsigned_text reg.interval ∷ codes "\n" ∷ [])

-- a letter of a fetch: the number of a post, and the post; each number of a mail has one
abbrev pub letter_text : List (List ℕ) → ℕ → Option Post → List ℕ
letter_text names number None = []
letter_text names number (Some post) = concat (codes "%% mail " ∷ decimal number ∷ codes " " ∷ []) ++ post_text names post

-- the letters of a mail, in its order
abbrev pub letters_text : List (List ℕ) → List Post → List ℕ → List ℕ
letters_text names posts mail = flat_map (λ number. letter_text names number (slice_get posts number)) mail

-- what an entry asks for, after the name on its line; of a fetch with the letters that the delivery rule gives for the history
-- before it
abbrev pub call_text : List (List ℕ) → History → Entry → Call → List ℕ
call_text names past entry (Register regs) = codes " register\n" ++ flat_map reg_text regs
call_text names past entry (Unregister var source) =
    concat (codes " unregister\n%% reg " ∷ var ∷ codes " " ∷ source ∷ codes "\n" ∷ [])
call_text names past entry (Posts batch) =
    concat (codes " post " ∷ decimal (length (posts_of past)) ∷ codes " " ∷ decimal (length batch) ∷ codes "\n" ∷ [])
    ++ flat_map (post_text names) (posts_of_entry entry)
call_text names past entry Fetch = codes " fetch\n" ++ letters_text names (posts_of past) (mail_after names entry.client past)

-- an entry and what belongs to it, if `past` is before it
abbrev pub entry_text : List (List ℕ) → History → Entry → List ℕ
entry_text names past entry =
    concat (codes "%% entry " ∷ decimal (length past) ∷ codes " " ∷ unsigned_text entry.stamp ∷ codes " " ∷ name_of names entry.client ∷ [])
    ++ call_text names past entry entry.call

-- the lines of these entries, if `past` is before them, each with what follows it; the iterations are those from number `first` on
abbrev pub entries_text : Setup → ℕ → List Iteration → List (List ℕ) → History → History → List ℕ
entries_text setup first iterations names past [] = []
entries_text setup first iterations names past (entry ∷ later) =
    entry_text names past entry
    ++ (outcome_text setup first iterations names past entry ++ entries_text setup first iterations names (past ++ entry ∷ []) later)

-- the line of a client: its number and its name
abbrev pub client_text : ℕ → List ℕ → List ℕ
client_text number name = concat (codes "%% client " ∷ decimal number ∷ codes " " ∷ name ∷ codes "\n" ∷ [])

-- the clients from this number on
abbrev pub clients_text : ℕ → List (List ℕ) → List ℕ
clients_text number [] = []
clients_text number (name ∷ names) = client_text number name ++ clients_text (suc number) names

-- the line of an unused parameter: its line in the behaviour file, and its name
abbrev pub unused_text : Unused → List ℕ
unused_text unused = concat (codes "%% unused " ∷ decimal unused.line ∷ codes " " ∷ unused.name ∷ codes "\n" ∷ [])

-- the line at the end: how many entries and how many posts there were
abbrev pub end_text : History → List ℕ
end_text history = concat (codes "%% end " ∷ decimal (length history) ∷ codes " " ∷ decimal (length (posts_of history)) ∷ codes "\n" ∷ [])

-- how a report begins: its clients, and what the behaviour file has that isn't used
abbrev pub head_text : Setup → List (List ℕ) → List ℕ
head_text setup names = codes "%% moosdb play 1\n" ++ (clients_text 0 names ++ flat_map unused_text setup.unused)

-- What is printed of a history, its clients, what the behaviour file has that isn't used, and the helm's iterations.
abbrev pub report_text : Setup → List (List ℕ) → History → List Iteration → List ℕ
report_text setup names history iterations = head_text setup names ++ (entries_text setup 0 iterations names [] history ++ end_text history)

-- Communities of which one report is printed have the same clients and the same history, whatever the iterations that are
-- printed with them, and whatever setups.
abbrev pub ReportsTell : Type 0
ReportsTell =
    (setup setup' : Setup) (names others : List (List ℕ)) (history other : History) (iterations iterations' : List Iteration)
    → IsCommunity names history → IsCommunity others other → StandOnLines setup iterations → StandOnLines setup' iterations'
    → report_text setup' others other iterations' ≡ report_text setup names history iterations → (others ≡ names) × (other ≡ history)

-- A report tells where it ends: if two texts that begin with a report each are the same, the reports tell the same clients and
-- the same history, and what follows them is the same, whatever it is.
abbrev pub ReportsTellTheirEnd : Type 0
ReportsTellTheirEnd =
    (setup setup' : Setup) (names others : List (List ℕ)) (history other : History) (iterations iterations' : List Iteration) (rest rest' : List ℕ)
    → IsCommunity names history → IsCommunity others other → StandOnLines setup iterations → StandOnLines setup' iterations'
    → report_text setup' others other iterations' ++ rest' ≡ report_text setup names history iterations ++ rest → (others ≡ names) × (other ≡ history) × (rest' ≡ rest)

-- a community with what its report is printed of
pub record Reported : Type 0 where
  pub setup : Setup
  pub names : List (List ℕ)
  pub history : History
  pub iterations : List Iteration
  pub community : IsCommunity names history
  pub lines : StandOnLines setup iterations

-- the report that is printed of a community
abbrev pub reported_text : Reported → List ℕ
reported_text one = report_text one.setup one.names one.history one.iterations

-- Two reports in a row tell the clients and the history of each.
abbrev pub TwoReportsTell : Type 0
TwoReportsTell =
    (one two other another : Reported) → reported_text other ++ reported_text another ≡ reported_text one ++ reported_text two
    → (other.names ≡ one.names) × (other.history ≡ one.history) × (another.names ≡ two.names) × (another.history ≡ two.history)
