use Rattle.std.proofs.Common.{◌≡◌, ℕ, [], ◌∷◌, arith}
use Rattle.ivp_domain.specs.declared.boxes.BoxN.{BoxN}
use Rattle.ivp_func.proofs.Facts.{place_in}
use Rattle.ivp_build.specs.Sampled.{all_runs}
use Rattle.ivp_build.proofs.boxes.box_of_runs.Goals as goal

-- a box from its ends
from_ends : (a a' b b' d d' e e' i i' j j' k k' l l' : ℕ) → a ≡ a' → b ≡ b' → d ≡ d' → e ≡ e' → i ≡ i' → j ≡ j' → k ≡ k' → l ≡ l'
    → ◌≡◌ {A = BoxN} (record { low = a ∷ b ∷ d ∷ e ∷ []; high = i ∷ j ∷ k ∷ l ∷ [] }) (record { low = a' ∷ b' ∷ d' ∷ e' ∷ []; high = i' ∷ j' ∷ k' ∷ l' ∷ [] })
from_ends a a' b b' d d' e e' i i' j j' k k' l l' p q r s t u v w = cc

pub ends_of_run-one-requires-clause-within : goal.ends_of_run-one-requires-clause-within
ends_of_run-one-requires-clause-within c = (place_in (all_runs c.args.domain.now c.args.size) c.args.runs.now c.requires.within 0 (omega arith)).1

pub ends_of_run-two-requires-clause-within : goal.ends_of_run-two-requires-clause-within
ends_of_run-two-requires-clause-within c = (place_in (all_runs c.args.domain.now c.args.size) c.args.runs.now c.requires.within 1 (omega arith)).1

pub ends_of_run-three-requires-clause-within : goal.ends_of_run-three-requires-clause-within
ends_of_run-three-requires-clause-within c = (place_in (all_runs c.args.domain.now c.args.size) c.args.runs.now c.requires.within 2 (omega arith)).1

pub ends_of_run-four-requires-clause-within : goal.ends_of_run-four-requires-clause-within
ends_of_run-four-requires-clause-within c = (place_in (all_runs c.args.domain.now c.args.size) c.args.runs.now c.requires.within 3 (omega arith)).1

pub returns-clause-area : goal.returns-clause-area
returns-clause-area c =
    let one = c.ends_of_run-one.ensures in
    let two = c.ends_of_run-two.ensures in
    let three = c.ends_of_run-three.ensures in
    let four = c.ends_of_run-four.ensures in
    from_ends _ _ _ _ _ _ _ _ _ _ _ _ _ _ _ _ one.low two.low three.low four.low one.high two.high three.high four.high
