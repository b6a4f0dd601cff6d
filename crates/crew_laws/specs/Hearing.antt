-- What a helm has heard at each of its ticks, and which posts are mailed to it.
use Rattle.std.specs.Prelude.{◌≡◌, ◌≢◌, ℕ, ◌*◌, ◌<◌, Bool, ◌&&◌, not, nat_le, nat_lt, List, ◌∷◌, ◌++◌, filter, length, map}
use Rattle.std.specs.List.{list_any}
use Rattle.helm_core.specs.Plans.{Plan, wants_of}
use Rattle.helm_core.specs.Ticks.{learnt_at}
use Rattle.moos_db.specs.Database.{pair_posted}
use Rattle.moos_play.specs.Lawful.{heard_of, HelmSetup}
use Rattle.moos_post.specs.declared.entry.Entry.{Entry}
use Rattle.moos_post.specs.declared.value.Post.{Post}
use Rattle.moos_post.specs.Delivery.{mailed_to, was_mailed}
use Rattle.moos_post.specs.History.{History, posts_of}
use Rattle.moos_post.specs.Patterns.{matches}
use Rattle.crew_laws.specs.Fetches.{before_fetch}
use Rattle.crew_laws.specs.InTime.{in_time, is_overtaken}

-- the helm reads the variable: one of its registrations matches it
abbrev pub is_read : Plan → List ℕ → Bool
is_read plan var = list_any (λ reg. matches reg.var var) (wants_of plan)

-- the history before the helm's tick i
abbrev pub before_tick : HelmSetup → History → ℕ → History
before_tick helm history i = before_fetch helm.client i history

-- At each tick a helm has heard just those of the posts before it that are of a variable that it reads and came in time, in their order.
abbrev pub HearsPostsInTime : ℕ → HelmSetup → List (List ℕ) → History → Type 0
HearsPostsInTime ticks helm names history = (i : ℕ) → i < ticks → learnt_at (heard_of names helm.client history) i ≡ map pair_posted (filter (λ post. is_read helm.plan post.var) (in_time (posts_of (before_tick helm history i))))

-- A post is ever mailed to a helm exactly if it is of a variable that it reads and comes in time: one that is overtaken never is.
abbrev pub MailedIfInTime : ℕ → HelmSetup → List (List ℕ) → History → Type 0
MailedIfInTime ticks helm names history = (before : List Post) (post : Post) (later : List Post) → posts_of history ≡ before ++ post ∷ later
    → was_mailed (length before) (mailed_to names helm.client history) ≡ (is_read helm.plan post.var && not (is_overtaken before post))

-- In order Stamp every post comes in time.
abbrev pub NoneIsOvertaken : ℕ → HelmSetup → List (List ℕ) → History → Type 0
NoneIsOvertaken ticks helm names history = in_time (posts_of history) ≡ posts_of history

-- In order Stamp an entry of another client is before the helm's tick i exactly if its stamp isn't above the tick's. So the helm hears
-- it first at its first tick at or after that stamp.
abbrev pub HeardFromItsStamp : ℕ → HelmSetup → List (List ℕ) → History → Type 0
HeardFromItsStamp ticks helm names history = (before : History) (entry : Entry) (later : History) → history ≡ before ++ entry ∷ later → entry.client ≢ helm.client → (i : ℕ) → i < ticks
    → nat_lt (length before) (length (before_tick helm history i)) ≡ nat_le entry.stamp (i * helm.period)
