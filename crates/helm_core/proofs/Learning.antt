-- What more letters come to.
use Rattle.std.proofs.Common.{◌≡◌, ℕ, suc, length, Bool, true, false, not, cond, List, [], ◌∷◌, ◌++◌, fold, Option, Some, None, refl, ap, sym, subst, ◌∙◌}
use Rattle.std.proofs.lemmas.Grind.{fold-append}
use Rattle.std.proofs.lemmas.List.{append-nil}
use Rattle.moos_post.specs.declared.value.Pair.{Pair}
use Rattle.moos_post.specs.declared.value.Value.{Value}
use Rattle.moos_db.specs.declared.mail.Letter.{Letter}
use Rattle.bhv_file.specs.declared.decl.Decl.{Decl}
use Rattle.helm_cond.specs.Infos.{knowledge_of}
use Rattle.helm_cond.specs.Learnt.{Knowledge, known_with, latest_of}
use Rattle.mode_tree.specs.Modes.{mode_text}
use Rattle.helm_core.specs.declared.helm_view.HelmView.{HelmView}
use Rattle.helm_core.specs.Helms.{HasLearnt, IsHelmView}
use Rattle.helm_core.specs.Kept.{known_after, parked_after}
use Rattle.helm_core.specs.Ticks.{gives_way, is_false, is_override, is_parked, latest_override, pairs_mailed}

pub known_more : (learnt more : List Pair) → latest_of (learnt ++ more) ≡ known_after (latest_of learnt) more
known_more learnt more = fold-append (λ known pair. known_with known pair.var pair.value) (λ var. None) learnt more

-- the latest override behind one that was the latest so far
abbrev override_after : Option Value → List Pair → Option Value
override_after latest learnt = fold (λ so_far pair. cond (is_override pair.var) (Some pair.value) so_far) latest learnt

parked_on : (latest : Option Value) (more : List Pair) → not (gives_way (override_after latest more)) ≡ parked_after (not (gives_way latest)) more
parked_on latest [] = refl
parked_on latest (pair ∷ more) = by (is_override pair.var) (parked_on (Some pair.value) more) (parked_on latest more)
  where
    by : (own : Bool) → not (gives_way (override_after (Some pair.value) more)) ≡ parked_after (not (is_false pair.value)) more
        → not (gives_way (override_after latest more)) ≡ parked_after (not (gives_way latest)) more
        → not (gives_way (override_after (cond own (Some pair.value) latest) more)) ≡ parked_after (cond own (not (is_false pair.value)) (not (gives_way latest))) more
    by true this other = this
    by false this other = other

pub parked_more : (learnt more : List Pair) → is_parked (learnt ++ more) ≡ parked_after (is_parked learnt) more
parked_more learnt more =
    ap (λ latest. not (gives_way latest)) (fold-append (λ so_far (pair : Pair). cond (is_override pair.var) (Some pair.value) so_far) None learnt more)
    ∙ parked_on (latest_override learnt) more

-- What one more letter leaves known.
pub known_on : (before known after : Knowledge) (rest : List Pair) (pair : Pair)
    → ((other : List ℕ) → known other ≡ known_with before pair.var pair.value other)
    → known_after before (pair ∷ rest) ≡ after → known_after known rest ≡ after
known_on before known after rest pair learnt so_far = ap (λ k. known_after k rest) (λ i other. learnt other i) ∙ so_far

helm_view_none : (decls : List Decl) (learnt : List Pair) (helm_view : HelmView) → IsHelmView decls learnt helm_view → IsHelmView decls (learnt ++ []) helm_view
helm_view_none decls learnt helm_view is = subst (λ all. IsHelmView decls all helm_view) (sym (append-nil learnt)) is

pub helm_view_more : (decls : List Decl) (mail : List Letter) (old new : HelmView)
    → knowledge_of new.info ≡ known_after (knowledge_of old.info) (pairs_mailed mail) → new.parked ≡ parked_after old.parked (pairs_mailed mail)
    → new.mode ≡ mode_text decls (knowledge_of new.info)
    → HasLearnt decls mail old new
helm_view_more decls mail old new known parked mode learnt is =
    let knows : knowledge_of new.info ≡ latest_of (learnt ++ pairs_mailed mail)
    = known ∙ ap (λ k. known_after k (pairs_mailed mail)) is.known ∙ sym (known_more learnt (pairs_mailed mail)) in
    record {
      known = knows;
      parked = parked ∙ ap (λ p. parked_after p (pairs_mailed mail)) is.parked ∙ sym (parked_more learnt (pairs_mailed mail));
      mode = mode ∙ ap (mode_text decls) knows;
    }

pub helm_view_first : (decls : List Decl) (helm_view : HelmView) → ((var : List ℕ) → knowledge_of helm_view.info var ≡ None) → helm_view.parked ≡ true
    → helm_view.mode ≡ mode_text decls (knowledge_of helm_view.info) → IsHelmView decls [] helm_view
helm_view_first decls helm_view nothing parked mode =
    let knows : knowledge_of helm_view.info ≡ latest_of [] = λ i var. nothing var i in
    record { known = knows; parked = parked; mode = mode ∙ ap (mode_text decls) knows }

pub mail_none : (decls : List Decl) (mail : List Letter) (helm_view : HelmView) → length mail ≡ 0 → HasLearnt decls mail helm_view helm_view
mail_none decls [] helm_view none learnt is = helm_view_none decls learnt helm_view is
mail_none decls (letter ∷ mail) helm_view none learnt is = absurd (let e : suc (length mail) ≡ 0 = none in cc)
