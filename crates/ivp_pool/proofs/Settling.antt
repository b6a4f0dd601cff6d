-- The end of a search: where all doors were taken back and all deques are empty, what was put was taken.
use Rattle.std.proofs.Common.{◌≡◌, ℕ, zero, suc, ◌+◌, ◌<◌, ◌≤◌, List, [], ◌∷◌, length, set, refl, sym, ap, ◌∙◌, subst, arith}
use Rattle.std.specs.Prelude.{All, get_or}
use Rattle.std.specs.List.{sum_by, AllByRecursion as Each}
use Rattle.std.proofs.lemmas.List.Elements.{recursion_from_All}
use Rattle.std.proofs.lemmas.List.Sums.{sum_by-cons}
use Rattle.ivp_problem.specs.declared.node.Node.{Node}
use Rattle.ivp_pool.specs.declared.team.Member.{Member}
use Rattle.ivp_pool.specs.Hands.{EndState}
use Rattle.ivp_pool.specs.Members.{put_by, put_in, taken_by, taken_in}
use Rattle.ivp_pool.specs.Teams.{deque_states, HasEmptied, door_rows}

-- all that was put through this end was taken
abbrev pub IsEven : EndState → Type 0
IsEven end = (weigh : Node → ℕ) → sum_by weigh end.hand.put ≡ sum_by weigh end.hand.taken

-- all have all parts, and the first ones are even
abbrev pub SettledTo : ℕ → List EndState → Type 0
SettledTo zero ends = Each (λ end. end.hand.parts ≡ 1024) ends
SettledTo (suc count) [] = Unit {0}
SettledTo (suc count) (end ∷ ends) = (IsEven end) × SettledTo count ends

settled_parts : (count : ℕ) (ends : List EndState) (d : EndState) → count < length ends → SettledTo count ends → (get_or ends count d).hand.parts ≡ 1024
settled_parts zero [] d within settled = absurd (omega (arith, within))
settled_parts zero (end ∷ ends) d within settled = settled.0
settled_parts (suc count) [] d within settled = absurd (omega (arith, within))
settled_parts (suc count) (end ∷ ends) d within settled = settled_parts count ends d (omega (arith, within)) settled.1

settled_set : (count : ℕ) (ends : List EndState) (new : EndState) → IsEven new → SettledTo count ends → SettledTo (suc count) (set ends count new)
settled_set zero [] new even settled = tt
settled_set zero (end ∷ ends) new even settled = (even, settled.1)
settled_set (suc count) [] new even settled = tt
settled_set (suc count) (end ∷ ends) new even settled = (settled.0, settled_set count ends new even settled.1)

pub settled_next : (count : ℕ) (ends new : List EndState) → count < length ends → SettledTo count ends → HasEmptied count ends new → SettledTo (count + 1) new
settled_next count ends new within settled emptied =
    let even : IsEven emptied.end = emptied.settled (emptied.parts emptied.end within ∙ settled_parts count ends emptied.end within settled) in
    let same : suc count ≡ count + 1 = omega arith in
    subst (λ n. SettledTo n new) same (subst (SettledTo (suc count)) (sym emptied.is) (settled_set count ends emptied.end even settled))

module _ {K : Type 0} where
  pub settled_start : (members : List (Member K)) → All (λ member. member.deque.hand.parts ≡ 1024) members → SettledTo 0 (deque_states members)
  settled_start members parts = by members (recursion_from_All (λ (member : Member K). member.deque.hand.parts ≡ 1024) members parts)
    where
      by : (ms : List (Member K)) → Each (λ member. member.deque.hand.parts ≡ 1024) ms → SettledTo 0 (deque_states ms)
      by [] each = tt
      by (member ∷ ms) each = (each.0, by ms each.1)

  pub all_settled : (count : ℕ) (start members : List (Member K)) → length members ≤ count → All (λ member. member.doors.items ≡ []) start → door_rows members ≡ door_rows start → SettledTo count (deque_states members) → (weigh : Node → ℕ) → put_in weigh members ≡ taken_in weigh members
  all_settled count start members most none same settled weigh = by count start members most (recursion_from_All (λ (member : Member K). member.doors.items ≡ []) start none) same settled
    where
      by : (n : ℕ) (old ms : List (Member K)) → length ms ≤ n → Each (λ member. member.doors.items ≡ []) old → door_rows ms ≡ door_rows old → SettledTo n (deque_states ms) → put_in weigh ms ≡ taken_in weigh ms
      by n old [] most none same settled = refl
      by zero old (member ∷ ms) most none same settled = absurd (omega (arith, most))
      by (suc n) [] (member ∷ ms) most none same settled = absurd (cc)
      by (suc n) (old ∷ olds) (member ∷ ms) most none same settled =
          let here : member.doors.items ≡ old.doors.items = cc in
          let rest : door_rows ms ≡ door_rows olds = cc in
          omega (
            arith,
            sum_by-cons (put_by weigh) member ms,
            sum_by-cons (taken_by weigh) member ms,
            settled.0 weigh,
            ap (sum_by (λ (end : EndState). sum_by weigh end.hand.put)) (here ∙ none.0),
            ap (sum_by (λ (end : EndState). sum_by weigh end.hand.taken)) (here ∙ none.0),
            by n olds ms (omega (arith, most)) none.1 rest settled.1,
          )
