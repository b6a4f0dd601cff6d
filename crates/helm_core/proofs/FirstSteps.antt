-- The first step of a behaviour is made in its first running iteration.
use Rattle.std.proofs.Common.{◌≡◌, ℕ, Bool, true, false, cond, List, [], ◌∷◌, ◌++◌, Option, Some, None, refl, ap, sym, ◌∙◌}
use Rattle.std.specs.Prelude.{fold, if◌then◌else◌, option_map, slice_get, bytes_eq}
use Rattle.std.specs.List.{AllByRecursion as Each, find}
use Rattle.std.specs.Option.{option_eq, option_or}
use Rattle.std.proofs.lemmas.List.Folds.{find-append}
use Rattle.moos_io.proofs.Lists.{each_at}
use Rattle.moos_post.specs.declared.value.Pair.{Pair}
use Rattle.moos_post.specs.declared.value.Value.{Value}
use Rattle.moos_post.specs.declared.value.Value.TheVariants.{Num, Text}
use Rattle.bhv_file.specs.declared.file.Block.{Block}
use Rattle.bhv_file.specs.declared.spec.Spec.{Spec}
use Rattle.bhv_kinds.specs.Changes.{KindChange, first_step}
use Rattle.bhv_life.specs.Lives.{BhvPast, can_run, is_stepped, turn_after}
use Rattle.bhv_life.specs.Runs.{FirstRunIsStepped, NoTimeNoStep, first_stepped}
use Rattle.bhv_life.proofs.Turning.{past_push}
use Rattle.ivp_domain.specs.declared.axis.Axis.{Axis}
use Rattle.helm_core.specs.Behaviors.{BhvSoFar, Judged, begun_at, begun_by_step, beginning_at, bhv_after, heard_with, judged_at, judged_with, none_judged, own_updates, past_so_far, turn_at, unstarted}
use Rattle.helm_core.specs.FirstSteps.{CountsFromFirstRun, NeverSteppedWithoutTime}
use Rattle.helm_core.specs.Lists.{list_at}
use Rattle.helm_core.specs.Plans.{Plan}
use Rattle.helm_core.specs.Templates.{with_said}
use Rattle.helm_core.specs.Ticks.{Seen, Tick}
use Rattle.helm_core.proofs.Listing.{Lasts, any_block, each_first, list_keeps}

-- updates are no steps
judged_first : (axes : List Axis) (spec : Spec) (so_far : Judged) (value : Value) → first_step (judged_with axes spec so_far value).changes ≡ first_step so_far.changes
judged_first axes spec so_far (Num number) = refl
judged_first axes spec so_far (Text text) = refl

heard_first : (axes : List Axis) (updates : Option (List ℕ)) (spec : Spec) (so_far : Judged) (letter : Pair) → first_step (heard_with axes updates spec so_far letter).changes ≡ first_step so_far.changes
heard_first axes updates spec so_far letter = by (option_eq bytes_eq updates (Some letter.var))
  where
    by : (b : Bool) → first_step (if b then judged_with axes spec so_far letter.value else so_far).changes ≡ first_step so_far.changes
    by true = judged_first axes spec so_far letter.value
    by false = refl

all_heard_first : (axes : List Axis) (updates : Option (List ℕ)) (spec : Spec) (so_far : Judged) (letters : List Pair) → first_step (fold (heard_with axes updates spec) so_far letters).changes ≡ first_step so_far.changes
all_heard_first axes updates spec so_far [] = refl
all_heard_first axes updates spec so_far (letter ∷ letters) = all_heard_first axes updates spec (heard_with axes updates spec so_far letter) letters ∙ heard_first axes updates spec so_far letter

-- the first step is the first turn with one
abbrev KeepsFirst : BhvSoFar → Type 0
KeepsFirst one = first_step one.changes ≡ first_stepped (past_so_far one)

-- a turn more
stamped : (past : List BhvPast) (one : BhvPast) (b : Bool) → one.stepped ≡ b → first_stepped (past ++ one ∷ []) ≡ option_or (first_stepped past) (if b then Some one.stamp else None)
stamped past one b is =
    ap (option_map (λ (one : BhvPast). one.stamp)) (find-append (λ (one : BhvPast). one.stepped) past (one ∷ [])) ∙ by (find (λ (one : BhvPast). one.stepped) past)
  where
    last : (c : Bool) → option_map (λ (one : BhvPast). one.stamp) (cond c (Some one) None) ≡ (if c then Some one.stamp else None)
    last true = refl
    last false = refl

    by : (o : Option BhvPast) → option_map (λ (one : BhvPast). one.stamp) (option_or o (find (λ (one : BhvPast). one.stepped) (one ∷ []))) ≡ option_or (option_map (λ (one : BhvPast). one.stamp) o) (if b then Some one.stamp else None)
    by None = last one.stepped ∙ ap (λ (c : Bool). if c then Some one.stamp else None) is
    by (Some x) = refl

or_none : {X : Type 0} (o : Option X) → option_or o None ≡ o
or_none None = refl
or_none (Some x) = refl

turn_first : (axes : List Axis) (seen : Seen) (fault : Bool) (one : BhvSoFar) (judged : Judged) (stepped : Bool) → is_stepped one.block.common (past_so_far one) (beginning_at seen one.block.common) ≡ stepped
    → first_step judged.changes ≡ first_step one.changes → KeepsFirst one → KeepsFirst (bhv_after seen fault (begun_by_step axes seen one judged stepped))
turn_first axes seen fault one judged true is same keeps =
    let begun = begun_by_step axes seen one judged true in
    ap (λ (o : Option ℕ). option_or o (Some seen.stamp)) (same ∙ keeps)
    ∙ sym (stamped (past_so_far one) (turn_after one.block.common (past_so_far one) (turn_at seen fault begun)) true is)
    ∙ ap first_stepped (sym (past_push one.block.common one.lived (turn_at seen fault begun)))
turn_first axes seen fault one judged false is same keeps =
    let begun = begun_by_step axes seen one judged false in
    (same ∙ keeps) ∙ sym (or_none (first_stepped (past_so_far one)))
    ∙ sym (stamped (past_so_far one) (turn_after one.block.common (past_so_far one) (turn_at seen fault begun)) false is)
    ∙ ap first_stepped (sym (past_push one.block.common one.lived (turn_at seen fault begun)))

one_first : (axes : List Axis) (seen : Seen) (fault : Bool) (one : BhvSoFar) → KeepsFirst one → KeepsFirst (bhv_after seen fault (begun_at axes seen one))
one_first axes seen fault one keeps =
    let letters = if can_run one.block.common (past_so_far one) then seen.letters else [] in
    turn_first axes seen fault one (judged_at axes seen one) (is_stepped one.block.common (past_so_far one) (beginning_at seen one.block.common)) refl
    (all_heard_first axes (own_updates one) one.block.spec (none_judged one.changes) letters) keeps

-- pairs are no steps
pairs_first : (axes : List Axis) (changes : List KindChange) (pairs : Option (List ℕ)) → first_step (with_said axes changes pairs) ≡ first_step changes
pairs_first axes changes None = refl
pairs_first axes changes (Some pairs) = refl

first_lasts : Lasts (λ block. Unit {0}) KeepsFirst
first_lasts = record {
  ended = one_first;
  made = λ axes template birth said q named. pairs_first axes [] said.pairs;
  changed = λ axes said one keeps. pairs_first axes one.changes said.pairs ∙ keeps;
}

-- all behaviours keep it
none_first : (blocks : List Block) → Each (λ block. KeepsFirst (unstarted block)) blocks
none_first [] = tt
none_first (block ∷ blocks) = (refl, none_first blocks)

kept_at : (plan : Plan) (ticks : List Tick) (i place : ℕ) (one : BhvSoFar) → slice_get (list_at plan ticks i) place ≡ Some one → KeepsFirst one
kept_at plan ticks i place one at = each_at KeepsFirst (list_at plan ticks i) place one (list_keeps (λ block. Unit {0}) KeepsFirst first_lasts plan ticks (any_block plan.blocks) (each_first KeepsFirst plan.blocks (none_first plan.blocks)) i) at

pub counts : FirstRunIsStepped → CountsFromFirstRun
counts law plan ticks i place one at lasts = kept_at plan ticks i place one at ∙ law one.block.common one.lived lasts

pub never : NoTimeNoStep → NeverSteppedWithoutTime
never law plan ticks i place one at none = kept_at plan ticks i place one at ∙ law one.block.common one.lived none
