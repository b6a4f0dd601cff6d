-- What a helm registers for, and what its mails say: posts of what it reads, the overrides among them.
use Rattle.std.proofs.Common.{◌≡◌, ℕ, ◌⊎◌, Bool, true, false, cond, not, ◌&&◌, ◌||◌, List, [], ◌∷◌, ◌++◌, length, map, fold, Option, Some, None, bytes_eq, refl, sym, ap, subst, ◌∙◌, inl, inr, if◌then◌else◌}
use Rattle.std.specs.Prelude.{codes, filter}
use Rattle.std.specs.List.{flat_map, list_any}
use Rattle.std.specs.Option.{option_or}
use Rattle.std.proofs.lemmas.Bool.{cases_Bool}
use Rattle.std.proofs.lemmas.List.{map-append}
use Rattle.std.proofs.lemmas.List.Folds.{list_any-append}
use Rattle.std.proofs.lemmas.List.Sums.{fold-append}
use Rattle.std.proofs.lemmas.Slice.Eq.{bytes_eq-Decides}
use Rattle.moos_post.specs.declared.registration.Reg.{Reg}
use Rattle.moos_post.specs.declared.value.Pair.{Pair}
use Rattle.moos_post.specs.declared.value.Post.{Post}
use Rattle.moos_post.specs.declared.value.Value.{Value}
use Rattle.moos_post.specs.Patterns.{matches}
use Rattle.moos_db.specs.declared.mail.Letter.{Letter}
use Rattle.moos_db.specs.Database.{letter_of, pair_posted}
use Rattle.helm_core.specs.Plans.{always_read, block_names, decl_names, names_read, Plan, reg_wanted, wants_of, with_wanted}
use Rattle.helm_core.specs.Ticks.{heard_in_all, is_override, latest_override, pairs_mailed, Tick}
use Rattle.crew_laws.specs.Hearing.{is_read}
use Rattle.crew_laws.specs.InTime.{in_time_behind, is_overtaken}
use Rattle.crew_laws.proofs.Coming.{from_everybody}
use Rattle.crew_laws.proofs.Mails.{letters_in_time}

-- ---- what it registers for

all_wanted : (names : List (List ℕ)) → from_everybody (map reg_wanted names)
all_wanted [] = tt
all_wanted (name ∷ names) = (refl, refl, all_wanted names)

pub wants_everybody : (plan : Plan) → from_everybody (wants_of plan)
wants_everybody plan = all_wanted (fold with_wanted [] (names_read plan))

-- some of these names, as patterns, matches the variable
abbrev is_among : List (List ℕ) → List ℕ → Bool
is_among names var = list_any (λ name. matches name var) names

reads_among : (names : List (List ℕ)) (var : List ℕ) → list_any (λ (reg : Reg). matches reg.var var) (map reg_wanted names) ≡ is_among names var
reads_among [] var = refl
reads_among (name ∷ names) var = ap (λ b. matches name var || b) (reads_among names var)

-- a name that is wanted stays so
stays_one : (wanted : List (List ℕ)) (name var : List ℕ) → is_among wanted var ≡ true → is_among (with_wanted wanted name) var ≡ true
stays_one wanted name var is = by (bytes_eq name (codes "MODE") || list_any (bytes_eq name) wanted)
  where
    by : (known : Bool) → is_among (if known then wanted else wanted ++ name ∷ []) var ≡ true
    by true = is
    by false = list_any-append (λ name. matches name var) wanted (name ∷ []) ∙ ap (λ b. b || is_among (name ∷ []) var) is

stays_all : (wanted names : List (List ℕ)) (var : List ℕ) → is_among wanted var ≡ true → is_among (fold with_wanted wanted names) var ≡ true
stays_all wanted [] var is = is
stays_all wanted (name ∷ names) var is = stays_all (with_wanted wanted name) names var (stays_one wanted name var is)

either : (a b : Bool) → (a || b) ≡ true → (a ≡ true) ⊎ (b ≡ true)
either true b is = inl refl
either false b is = inr is

always_among : (rest : List (List ℕ)) (var : List ℕ) → is_override var ≡ true → is_among (fold with_wanted [] (always_read ++ rest)) var ≡ true
always_among rest var is = stays_all always_read rest var (by (either (bytes_eq var (codes "MOOS_MANUAL_OVERRIDE")) (bytes_eq var (codes "MOOS_MANUAL_OVERIDE")) is))
  where
    by : (bytes_eq var (codes "MOOS_MANUAL_OVERRIDE") ≡ true) ⊎ (bytes_eq var (codes "MOOS_MANUAL_OVERIDE") ≡ true) → is_among always_read var ≡ true
    by (inl this) = (let e : var ≡ codes "MOOS_MANUAL_OVERRIDE" = (bytes_eq-Decides var (codes "MOOS_MANUAL_OVERRIDE")).0 this in subst (λ var. is_among always_read var ≡ true) (sym e) refl)
    by (inr this) = (let e : var ≡ codes "MOOS_MANUAL_OVERIDE" = (bytes_eq-Decides var (codes "MOOS_MANUAL_OVERIDE")).0 this in subst (λ var. is_among always_read var ≡ true) (sym e) refl)

-- so the helm reads both spellings of the override
pub reads_override : (plan : Plan) (var : List ℕ) → is_override var ≡ true → is_read plan var ≡ true
reads_override plan var is = reads_among (fold with_wanted [] (names_read plan)) var ∙ always_among (flat_map decl_names plan.decls ++ flat_map block_names plan.blocks) var is

-- ---- what its mails say

pub all_pairs : (ticks : List Tick) → heard_in_all ticks ≡ pairs_mailed (flat_map (λ tick. tick.mail) ticks)
all_pairs [] = refl
all_pairs (tick ∷ ticks) = ap (λ rest. pairs_mailed tick.mail ++ rest) (all_pairs ticks) ∙ sym (map-append (λ (letter : Letter). pair_posted letter.post) tick.mail (flat_map (λ tick. tick.mail) ticks))

pub pairs_in_time : (wanted : List ℕ → Bool) (before posts : List Post) → pairs_mailed (letters_in_time wanted before posts) ≡ map pair_posted (filter (λ post. wanted post.var) (in_time_behind before posts))
pairs_in_time wanted before [] = refl
pairs_in_time wanted before (post ∷ later) = by (wanted post.var) refl (is_overtaken before post) (pairs_in_time wanted (before ++ post ∷ []) later)
  where
    by : (own : Bool) → wanted post.var ≡ own → (overtaken : Bool) → pairs_mailed (letters_in_time wanted (before ++ post ∷ []) later) ≡ map pair_posted (filter (λ post. wanted post.var) (in_time_behind (before ++ post ∷ []) later))
        → pairs_mailed (if own && not overtaken then letter_of (length before) post ∷ letters_in_time wanted (before ++ post ∷ []) later else letters_in_time wanted (before ++ post ∷ []) later)
        ≡ map pair_posted (filter (λ post. wanted post.var) (if overtaken then in_time_behind (before ++ post ∷ []) later else post ∷ in_time_behind (before ++ post ∷ []) later))
    by true is true h = h
    by true is false h = ap (λ rest. pair_posted post ∷ rest) h ∙ ap (λ own. map pair_posted (cond own (post ∷ filter (λ post. wanted post.var) (in_time_behind (before ++ post ∷ []) later)) (filter (λ post. wanted post.var) (in_time_behind (before ++ post ∷ []) later)))) (sym is)
    by false is true h = h
    by false is false h = h ∙ ap (λ own. map pair_posted (cond own (post ∷ filter (λ post. wanted post.var) (in_time_behind (before ++ post ∷ []) later)) (filter (λ post. wanted post.var) (in_time_behind (before ++ post ∷ []) later)))) (sym is)

-- ---- the overrides among them

abbrev step : Option Value → Pair → Option Value
step latest pair = cond (is_override pair.var) (Some pair.value) latest

same_overrides : (wanted : List ℕ → Bool) → ((var : List ℕ) → is_override var ≡ true → wanted var ≡ true) → (latest : Option Value) (posts : List Post)
    → fold step latest (map pair_posted (filter (λ post. wanted post.var) posts)) ≡ fold step latest (map pair_posted posts)
same_overrides wanted all latest [] = refl
same_overrides wanted all latest (post ∷ posts) = by (wanted post.var) refl (λ latest. same_overrides wanted all latest posts)
  where
    kept : List Post
    kept = filter (λ post. wanted post.var) posts

    none : wanted post.var ≡ false → is_override post.var ≡ false
    none is =
        elim (cases_Bool (is_override post.var)) [
          | inl this ↦ absurd (let e : true ≡ false = sym (all post.var this) ∙ is in cc)
          | inr other ↦ other
        ]

    by : (own : Bool) → wanted post.var ≡ own → ((latest : Option Value) → fold step latest (map pair_posted kept) ≡ fold step latest (map pair_posted posts))
        → fold step latest (map pair_posted (cond own (post ∷ kept) kept)) ≡ fold step (cond (is_override post.var) (Some post.value) latest) (map pair_posted posts)
    by true is more = more (cond (is_override post.var) (Some post.value) latest)
    by false is more = more latest ∙ ap (λ own. fold step (cond own (Some post.value) latest) (map pair_posted posts)) (sym (none is))

-- what isn't read is no override
pub overrides_kept : (plan : Plan) (posts : List Post) → latest_override (map pair_posted (filter (λ post. is_read plan post.var) posts)) ≡ latest_override (map pair_posted posts)
overrides_kept plan posts = same_overrides (is_read plan) (reads_override plan) None posts

or_behind : (own : Option Value) (value : Value) (latest : Option Value) → option_or own (Some value) ≡ option_or (option_or own (Some value)) latest
or_behind None value latest = refl
or_behind (Some own) value latest = refl

-- the latest override behind others
pub override_on : (latest : Option Value) (pairs : List Pair) → fold step latest pairs ≡ option_or (latest_override pairs) latest
override_on latest [] = refl
override_on latest (pair ∷ pairs) = by (is_override pair.var) (override_on (Some pair.value) pairs) (override_on latest pairs)
  where
    by : (own : Bool) → fold step (Some pair.value) pairs ≡ option_or (latest_override pairs) (Some pair.value) → fold step latest pairs ≡ option_or (latest_override pairs) latest
        → fold step (cond own (Some pair.value) latest) pairs ≡ option_or (fold step (cond own (Some pair.value) None) pairs) latest
    by true this other = this ∙ or_behind (latest_override pairs) pair.value latest ∙ ap (λ found. option_or found latest) (sym this)
    by false this other = other

pub override_append : (pairs more : List Pair) → latest_override (pairs ++ more) ≡ option_or (latest_override more) (latest_override pairs)
override_append pairs more = fold-append step None pairs more ∙ override_on (latest_override pairs) more
