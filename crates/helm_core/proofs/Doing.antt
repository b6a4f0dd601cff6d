-- What an update makes of a doer, by what it makes of a kind or of an `Avoid`; and what updates and steps make of it in an iteration.
use Rattle.std.proofs.Common.{◌≡◌, ℕ, Bool, true, false, if◌then◌else◌, List, [], ◌∷◌, ◌++◌, Option, Some, None, Result, Ok, Err, refl, ap, sym, subst, ◌∙◌}
use Rattle.std.specs.Prelude.{IfOk, is_some, unwrap_or}
use Rattle.std.specs.declared.alloc.AllocError.{AllocError}
use Rattle.moos_post.specs.declared.value.Value.{Value}
use Rattle.moos_post.specs.declared.value.Value.TheVariants.{Text}
use Rattle.ivp_domain.specs.declared.axis.Axis.{Axis}
use Rattle.helm_cond.specs.Learnt.{Knowledge}
use Rattle.bhv_file.specs.declared.out.Out.{Out}
use Rattle.bhv_file.specs.declared.spec.Spec.{Spec}
use Rattle.bhv_file.specs.Params.{is_avoid}
use Rattle.bhv_file.specs.Updates.{updated}
use Rattle.bhv_file.proofs.Pairwise.{updated_avoid}
use Rattle.bhv_kinds.specs.Giving.{out_at}
use Rattle.bhv_kinds.specs.Changes.{KindChange, Stepped, Updated, params_at, step_of}
use Rattle.bhv_kinds.specs.Kinds.{KindNow}
use Rattle.bhv_kinds.specs.Standing.{IsKindOf}
use Rattle.bhv_life.specs.declared.outcome.Phase.{Phase}
use Rattle.bhv_life.specs.declared.outcome.Phase.TheVariants.{Run}
use Rattle.helm_core.specs.declared.doer.Doer.{Doer}
use Rattle.helm_core.specs.declared.doer.Doer.TheVariants.{Kind, Avoid}
use Rattle.helm_core.specs.Behaviors.{judged_with}
use Rattle.helm_core.specs.Doers.{IsAvoidOf, IsDoerOf}
use Rattle.helm_core.specs.Standings.{HasStepped, IsJudged}

-- an update, which is good or not
record Updates (axes : List Axis) (spec : Spec) (changes : List KindChange) (text : List ℕ) (good : Bool) (new : Spec) : Type 0 where
  answer : good ≡ is_some (updated axes (params_at spec changes) text)
  stands : IsAvoidOf spec (Updated axes text ∷ changes) new

avoid_updates : (axes : List Axis) (spec : Spec) (changes : List KindChange) (text : List ℕ) (good : Bool) (old new : Spec) → updated axes old text ≡ (if good then Some new else None) → (good ≡ false → new ≡ old)
    → IsAvoidOf spec changes old → Updates axes spec changes text good new
avoid_updates axes spec changes text true old new is bad was =
    let same : updated axes (params_at spec changes) text ≡ Some new = subst (λ (params : Spec). updated axes params text ≡ Some new) was.params is in
    record {
      answer = sym (ap is_some same);
      stands = record {
        params = sym (ap (λ (after : Option Spec). unwrap_or after (params_at spec changes)) same);
        avoids = updated_avoid axes old new text is ∙ was.avoids;
      };
    }
avoid_updates axes spec changes text false old new is bad was =
    let same : updated axes (params_at spec changes) text ≡ None = subst (λ (params : Spec). updated axes params text ≡ None) was.params is in
    record {
      answer = sym (ap is_some same);
      stands = record {
        params = bad refl ∙ was.params ∙ sym (ap (λ (after : Option Spec). unwrap_or after (params_at spec changes)) same);
        avoids = ap (λ (it : Spec). is_avoid it.shape) (bad refl) ∙ was.avoids;
      };
    }

-- what an update leaves, by what it leaves of a kind and of an `Avoid`
pub kind_updated : (result : Result Bool AllocError) (axes : List Axis) (text : List ℕ) (old : Doer) (kind new : KindNow) → old ≡ Kind kind
    → IfOk result (λ good. (any : List Axis) (spec : Spec) (changes : List KindChange) → IsKindOf spec changes kind → IsKindOf spec (Updated any text ∷ changes) new)
    → IfOk result (λ good. (spec : Spec) (changes : List KindChange) → IsDoerOf spec changes old → IsKindOf spec (Updated axes text ∷ changes) new)
kind_updated (Ok good) axes text old kind new is stands = λ spec changes was. stands axes spec changes (subst (IsDoerOf spec changes) is was)
kind_updated (Err none) axes text old kind new is stands = tt

pub avoid_updated : (result : Result Bool AllocError) (axes : List Axis) (text : List ℕ) (old : Doer) (avoid new : Spec) → old ≡ Avoid avoid
    → IfOk result (λ good. updated axes avoid text ≡ (if good then Some new else None)) → IfOk result (λ good. good ≡ false → new ≡ avoid)
    → IfOk result (λ good. (spec : Spec) (changes : List KindChange) → IsDoerOf spec changes old → IsAvoidOf spec (Updated axes text ∷ changes) new)
avoid_updated (Ok good) axes text old avoid new is answers bad = λ spec changes was. (avoid_updates axes spec changes text good avoid new answers bad (subst (IsDoerOf spec changes) is was)).stands
avoid_updated (Err none) axes text old avoid new is answers bad = tt

-- what a text makes of it, as an update that is judged
pub heard_text : (result : Result Bool AllocError) (axes : List Axis) (text : List ℕ) (value : Value) (old new : Doer) → value ≡ Text text
    → IfOk result (λ good. (spec : Spec) (changes : List KindChange) → IsDoerOf spec changes old → good ≡ is_some (updated axes (params_at spec changes) text))
    → IfOk result (λ good. (spec : Spec) (changes : List KindChange) → IsDoerOf spec changes old → IsDoerOf spec (Updated axes text ∷ changes) new)
    → IfOk result (λ good. (spec : Spec) (changes : List KindChange) (taken : List Bool) → IsDoerOf spec changes old → IsJudged spec (judged_with axes spec (record { changes = changes; taken = taken }) value) new (taken ++ good ∷ []))
heard_text (Ok good) axes text value old new is answers stands = λ spec changes taken was.
    subst (λ (said : Value). IsJudged spec (judged_with axes spec (record { changes = changes; taken = taken }) said) new (taken ++ good ∷ [])) (sym is)
    (record { stands = stands spec changes was; answers = ap (λ (answer : Bool). taken ++ answer ∷ []) (answers spec changes was) })
heard_text (Err none) axes text value old new is answers stands = tt

-- what a step makes of it, where the phase has one
pub stepped_run : (result : Result Out AllocError) (phase : Phase) (axes : List Axis) (known : Knowledge) (stamp : ℕ) (fresh : Bool) (old new : Doer) → phase ≡ Run fresh
    → IfOk result (λ out. (spec : Spec) (changes : List KindChange) → IsDoerOf spec changes old → out ≡ out_at spec changes (step_of axes known stamp fresh))
    → IfOk result (λ out. (spec : Spec) (changes : List KindChange) → IsDoerOf spec changes old → IsDoerOf spec (Stepped (step_of axes known stamp fresh) ∷ changes) new)
    → IfOk result (HasStepped phase axes known stamp old new)
stepped_run (Ok out) phase axes known stamp fresh old new is gives stands =
    subst (λ (it : Phase). HasStepped it axes known stamp old new out) (sym is) (record { stands = stands; gives = gives })
stepped_run (Err none) phase axes known stamp fresh old new is gives stands = tt
