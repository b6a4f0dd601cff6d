-- The ticks of the helm, and what each iteration sees of them.
use Rattle.std.specs.Prelude.{ℕ, suc, Bool, false, not, ◌||◌, if◌then◌else◌, List, [], map, fold, take, slice_index_or, codes, bytes_eq, Option, Some, None}
use Rattle.std.specs.List.{flat_map}
use Rattle.std.specs.Str.{str_eq_ignore_ascii_case}
use Rattle.moos_post.specs.declared.value.Pair.{Pair}
use Rattle.moos_post.specs.declared.value.Value.{Value}
use Rattle.moos_post.specs.declared.value.Value.TheVariants.{Num, Text}
use Rattle.moos_db.specs.declared.mail.Letter.{Letter}
use Rattle.moos_db.specs.Database.{pair_posted}
use Rattle.helm_cond.specs.Learnt.{Knowledge, latest_of}
use Rattle.bhv_file.specs.declared.decl.Decl.{Decl}
use Rattle.mode_tree.specs.Modes.{mode_text}

-- a tick: a mail, and the stamp of the iteration that heard it
pub record Tick : Type 0 where
  pub stamp : ℕ
  pub mail : List Letter

-- the tick of this stamp and mail
abbrev pub tick_of : ℕ → List Letter → Tick
tick_of stamp mail = record { stamp = stamp; mail = mail }

-- what the letters of a mail say
abbrev pub pairs_mailed : List Letter → List Pair
pairs_mailed mail = map (λ letter. pair_posted letter.post) mail

-- the stamp of the last tick, 0 before the first
abbrev pub stamp_of_last : List Tick → ℕ
stamp_of_last ticks = fold (λ before tick. tick.stamp) 0 ticks

-- the stamp of iteration i; 0 if there is none
abbrev pub tick_stamp : List Tick → ℕ → ℕ
tick_stamp ticks i = slice_index_or (map (λ tick. tick.stamp) ticks) i 0

-- the letters of iteration i; none if there is no such iteration
abbrev pub heard_at : List Tick → ℕ → List Pair
heard_at ticks i = slice_index_or (map (λ tick. pairs_mailed tick.mail) ticks) i []

-- all letters of these ticks
abbrev pub heard_in_all : List Tick → List Pair
heard_in_all ticks = flat_map (λ tick. pairs_mailed tick.mail) ticks

-- all letters up to iteration i
abbrev pub learnt_at : List Tick → ℕ → List Pair
learnt_at ticks i = heard_in_all (take (suc i) ticks)

-- the variable is the override, in either spelling
abbrev pub is_override : List ℕ → Bool
is_override var = bytes_eq var (codes "MOOS_MANUAL_OVERRIDE") || bytes_eq var (codes "MOOS_MANUAL_OVERIDE")

-- the latest override, of whichever spelling
abbrev pub latest_override : List Pair → Option Value
latest_override learnt = fold (λ latest pair. if is_override pair.var then Some pair.value else latest) None learnt

-- the value is the text `false`, ignoring the case of ASCII letters
abbrev pub is_false : Value → Bool
is_false (Num number) = false
is_false (Text text) = str_eq_ignore_ascii_case text (codes "false")

-- the helm has the vehicle: the latest override is `false`; without an override it hasn't
abbrev pub gives_way : Option Value → Bool
gives_way None = false
gives_way (Some value) = is_false value

-- the helm is parked unless the latest override is false
abbrev pub is_parked : List Pair → Bool
is_parked learnt = not (gives_way (latest_override learnt))

-- what an iteration sees: its stamp, the letters of its mail, whether the helm is parked, what is known, and the mode's
-- text
pub record Seen : Type 0 where
  pub stamp : ℕ
  pub letters : List Pair
  pub parked : Bool
  pub known : Knowledge
  pub mode : List ℕ

-- what iteration i sees, of all letters so far
abbrev pub seen_at : List Decl → List Tick → ℕ → Seen
seen_at decls ticks i =
    let learnt = learnt_at ticks i in
    record {
      stamp = tick_stamp ticks i;
      letters = heard_at ticks i;
      parked = is_parked learnt;
      known = latest_of learnt;
      mode = mode_text decls (latest_of learnt);
    }
