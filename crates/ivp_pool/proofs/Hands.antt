-- Each step at a deque keeps its rule.
use Rattle.std.proofs.Common.{◌≡◌, ℕ, zero, suc, ◌+◌, ◌-◌, ◌<◌, ◌≤◌, List, [], ◌∷◌, ◌++◌, set, sym, refl, ap, arith}
use Rattle.std.specs.List.{sum_by, AllByRecursion as Each}
use Rattle.std.proofs.lemmas.List.Sums.{sum_by-append, sum_by-cons}
use mathlib.Core.Option.{some, some-injective, some-ne-none}
use lib.ListN.{get_elem?}
use Rattle.crossbeam_deque.specs.Tasks.{Pushes, Takes, Pops, Finds, Forks, Merges}
use Rattle.moos_io.proofs.Lists.{each_append}
use Rattle.ivp_problem.specs.declared.node.Node.{Node}
use Rattle.ivp_problem.specs.Problems.{WeightedSum}
use Rattle.ivp_problem.specs.Trees.{IsNode}
use Rattle.ivp_pool.specs.declared.rule.Hand.{Hand}
use Rattle.ivp_pool.specs.Hands.{both_hands, hand, IsBalanced, IsIdleEmpty, IsSettled, AreTaken}

-- a sum after one hand changed
sum_set : (f : Hand → ℕ) (hands : List Hand) (port : ℕ) (held after : Hand) → get_elem? hands port ≡ some held → sum_by f (set hands port after) + f held ≡ sum_by f hands + f after
sum_set f [] port held after at = absurd (some-ne-none held (sym at))
sum_set f (x ∷ xs) zero held after at = let same : f x ≡ f held = ap f (some-injective x held at) in omega (arith, sum_by-cons f x xs, sum_by-cons f after xs)
sum_set f (x ∷ xs) (suc port) held after at = omega (arith, sum_set f xs port held after at, sum_by-cons f x xs, sum_by-cons f x (set xs port after))

-- a fact of each hand, after one changed
each_set : (hands : List Hand) (port : ℕ) (after : Hand) → Each IsIdleEmpty hands → IsIdleEmpty after → Each IsIdleEmpty (set hands port after)
each_set [] port after each is = tt
each_set (x ∷ xs) zero after each is = (is, each.1)
each_set (x ∷ xs) (suc port) after each is = (each.0, each_set xs port after each.1 is)

each_front : (P : Node → Type 0) (xs ys : List Node) → Each P (xs ++ ys) → Each P xs
each_front P [] ys each = tt
each_front P (x ∷ xs) ys each = (each.0, each_front P xs ys each.1)

each_back : (P : Node → Type 0) (xs ys : List Node) → Each P (xs ++ ys) → Each P ys
each_back P [] ys each = each
each_back P (x ∷ xs) ys each = each_back P xs ys each.1

module _ (problem : WeightedSum) (port : ℕ) (held : Hand) where
  pub begins : IsBalanced problem [] (hand 1024 [] [] ∷ [])
  begins = record { parts = refl; each_once = λ weigh. refl; idle = ((λ none. (refl, refl)), tt); here = tt }

  pub puts : (node : Node) → 0 < held.parts → IsNode problem node → Pushes (IsBalanced problem) port held (node ∷ []) (λ after. after ≡ hand held.parts (held.put ++ node ∷ []) held.taken)
  puts node part is nodes hands rule at =
      let after = hand held.parts (held.put ++ node ∷ []) held.taken in (
        after,
        record {
          parts = omega (arith, sum_set (λ h. h.parts) hands port held after at, rule.parts);
          each_once = λ weigh.
              omega (arith, sum_set (λ h. sum_by weigh h.put) hands port held after at, sum_set (λ h. sum_by weigh h.taken) hands port held after at, rule.each_once weigh, sum_by-append weigh held.put (node ∷ []), sum_by-append weigh nodes (node ∷ []));
          idle = each_set hands port after rule.idle (λ none. absurd (omega (arith, none, part)));
          here = each_append (IsNode problem) nodes (node ∷ []) rule.here (is, tt);
        },
        refl,
      )

  -- nodes are taken, wherever they stood
  takes_any : (taken nodes left : List Node) (hands : List Hand) → 0 < held.parts → ((weigh : Node → ℕ) → sum_by weigh nodes ≡ sum_by weigh taken + sum_by weigh left) → Each (IsNode problem) taken → Each (IsNode problem) left → IsBalanced problem nodes hands → get_elem? hands port ≡ some held → (after : Hand) × IsBalanced problem left (set hands port after) × AreTaken problem held taken after
  takes_any taken nodes left hands part with_parts_out are remain rule at =
      let after = hand held.parts held.put (held.taken ++ taken) in (
        after,
        record {
          parts = omega (arith, sum_set (λ h. h.parts) hands port held after at, rule.parts);
          each_once = λ weigh.
              omega (arith, sum_set (λ h. sum_by weigh h.put) hands port held after at, sum_set (λ h. sum_by weigh h.taken) hands port held after at, rule.each_once weigh, sum_by-append weigh held.taken taken, with_parts_out weigh);
          idle = each_set hands port after rule.idle (λ none. absurd (omega (arith, none, part)));
          here = remain;
        },
        (refl, are),
      )

  pub takes : 0 < held.parts → Takes (IsBalanced problem) port held 1 (AreTaken problem held)
  takes part taken left hands one few rule at =
      takes_any taken (taken ++ left) left hands part (λ weigh. sum_by-append weigh taken left) (each_front (IsNode problem) taken left rule.here) (each_back (IsNode problem) taken left rule.here) rule at

  pub pops : 0 < held.parts → Pops (IsBalanced problem) port held (AreTaken problem held)
  pops part node left hands rule at =
      takes_any (node ∷ []) (left ++ node ∷ []) left hands part (λ weigh. omega (arith, sum_by-append weigh left (node ∷ []))) (each_back (IsNode problem) left (node ∷ []) rule.here) (each_front (IsNode problem) left (node ∷ []) rule.here) rule at

  pub forks : 1 < held.parts → Forks (IsBalanced problem) port held (hand (held.parts - 1) held.put held.taken) (hand 1 [] [])
  forks part nodes hands rule at =
      let left = hand (held.parts - 1) held.put held.taken in
      let right = hand 1 [] [] in
      record {
        parts = omega (arith, part, sum_set (λ h. h.parts) hands port held left at, sum_by-append (λ (h : Hand). h.parts) (set hands port left) (right ∷ []), rule.parts);
        each_once = λ weigh.
            omega (arith, sum_set (λ h. sum_by weigh h.put) hands port held left at, sum_set (λ h. sum_by weigh h.taken) hands port held left at, rule.each_once weigh, sum_by-append (λ (h : Hand). sum_by weigh h.put) (set hands port left) (right ∷ []), sum_by-append (λ (h : Hand). sum_by weigh h.taken) (set hands port left) (right ∷ []));
        idle = each_append IsIdleEmpty (set hands port left) (right ∷ []) (each_set hands port left rule.idle (λ none. absurd (omega (arith, none, part)))) ((λ none. absurd (omega (arith, none))), tt);
        here = rule.here;
      }

  pub merges : (door : ℕ) (other : Hand) → 0 < held.parts → Merges (IsBalanced problem) port held door other (both_hands held other) (hand 0 [] [])
  merges door other part nodes hands rule at apart at' =
      let both = both_hands held other in
      let spent = hand 0 [] [] in
      let mid = set hands port both in
      record {
        parts = omega (arith, sum_set (λ h. h.parts) hands port held both at, sum_set (λ h. h.parts) mid door other spent at', rule.parts);
        each_once = λ weigh.
            omega (
              arith,
              sum_set (λ h. sum_by weigh h.put) hands port held both at,
              sum_set (λ h. sum_by weigh h.taken) hands port held both at,
              sum_set (λ h. sum_by weigh h.put) mid door other spent at',
              sum_set (λ h. sum_by weigh h.taken) mid door other spent at',
              rule.each_once weigh,
              sum_by-append weigh held.put other.put,
              sum_by-append weigh held.taken other.taken,
            );
        idle = each_set mid door spent (each_set hands port both rule.idle (λ none. absurd (omega (arith, none, part)))) (λ none. (refl, refl));
        here = rule.here;
      }

  -- who has all parts knows what the others know
  pub settles : Finds (IsBalanced problem) port held (IsSettled held)
  settles hands rule at all weigh =
      omega (
        arith,
        alone (λ h. sum_by weigh h.put) (λ h idle. ap (sum_by weigh) idle.0) hands port held at rule.idle (omega (arith, all, rule.parts)),
        alone (λ h. sum_by weigh h.taken) (λ h idle. ap (sum_by weigh) idle.1) hands port held at rule.idle (omega (arith, all, rule.parts)),
        rule.each_once weigh,
      )
    where
      nothing : (f : Hand → ℕ) → ((h : Hand) → (h.put ≡ []) × (h.taken ≡ []) → f h ≡ 0) → (hands : List Hand) → Each IsIdleEmpty hands → sum_by (λ h. h.parts) hands ≡ 0 → sum_by f hands ≡ 0
      nothing f none [] idle zeros = refl
      nothing f none (x ∷ xs) idle zeros =
          let parts = sum_by-cons (λ (h : Hand). h.parts) x xs in
          omega (arith, sum_by-cons f x xs, none x (idle.0 (omega (arith, parts, zeros))), nothing f none xs idle.1 (omega (arith, parts, zeros)))

      alone : (f : Hand → ℕ) → ((h : Hand) → (h.put ≡ []) × (h.taken ≡ []) → f h ≡ 0) → (hands : List Hand) (port : ℕ) (held : Hand) → get_elem? hands port ≡ some held → Each IsIdleEmpty hands → sum_by (λ h. h.parts) hands ≡ held.parts → sum_by f hands ≡ f held
      alone f none [] port held at idle all = absurd (some-ne-none held (sym at))
      alone f none (x ∷ xs) zero held at idle all =
          let same : x ≡ held = some-injective x held at in
          let parts = sum_by-cons (λ (h : Hand). h.parts) x xs in
          let here : x.parts ≡ held.parts = ap (λ (h : Hand). h.parts) same in
          omega (arith, sum_by-cons f x xs, ap f same, nothing f none xs idle.1 (omega (arith, parts, all, here)))
      alone f none (x ∷ xs) (suc port) held at idle all =
          let parts = sum_by-cons (λ (h : Hand). h.parts) x xs in
          let at_most = within xs port held at in
          omega (arith, sum_by-cons f x xs, none x (idle.0 (omega (arith, parts, all, at_most))), alone f none xs port held at idle.1 (omega (arith, parts, all, at_most)))
        where
          within : (hands : List Hand) (port : ℕ) (held : Hand) → get_elem? hands port ≡ some held → held.parts ≤ sum_by (λ h. h.parts) hands
          within [] port held at = absurd (some-ne-none held (sym at))
          within (x ∷ xs) zero held at = let same : x.parts ≡ held.parts = ap (λ (h : Hand). h.parts) (some-injective x held at) in omega (arith, sum_by-cons (λ (h : Hand). h.parts) x xs)
          within (x ∷ xs) (suc port) held at = omega (arith, sum_by-cons (λ (h : Hand). h.parts) x xs, within xs port held at)
