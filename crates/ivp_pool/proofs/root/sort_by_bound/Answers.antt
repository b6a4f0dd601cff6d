use Rattle.std.proofs.Common.{rules, ◌≡◌, ℕ, ◌+◌, inl, inr, false, get_or, arith, refl, sym, Ordering, Less, Equal, Greater}
use Rattle.std.specs.Ordering.{is_lt, nat_cmp, ordering_then}
use Rattle.std.specs.declared.cmp.Reverse.{Reverse}
use Rattle.std.proofs.lemmas.Bool.{false≢true}
use Rattle.std.proofs.lemmas.Cmp.{ranked}
use Rattle.std.proofs.lemmas.List.Sorted.{answers_always}
use Rattle.std.proofs.lemmas.Map.Keys.{ge_from_not_lt}
use Rattle.ivp_problem.specs.declared.key.Key.{Key}
use Rattle.ivp_problem.specs.Keys.{AtMost}
use Rattle.ivp_pool.specs.declared.root.Child.{Child}
use Rattle.ivp_pool.proofs.root.sort_by_bound.Goals as goal

-- what the sort compares by
abbrev rank_of : Child → Reverse ℕ × ℕ
rank_of child = (record { 0 = child.bound.sum }, child.bound.index)

-- where the second of two keys isn't below the first in rank, it is at most it
at_most : (one next : Key) (sums : Ordering) → sums ≡ nat_cmp one.sum next.sum → is_lt (ordering_then sums (nat_cmp next.index one.index)) ≡ false → AtMost next one
at_most one next Less is none = absurd (false≢true (sym none))
at_most one next Equal is none = inr (sym (ranked one.sum next.sum Equal is), ge_from_not_lt next.index one.index none)
at_most one next Greater is none = inl (ranked one.sum next.sum Greater is)

pub returns-clause-order : goal.returns-clause-order
returns-clause-order c = λ k d within.
    let all = c.sort_unstable_by_key.new.self in
    let sorted = c.sort_unstable_by_key.ensures.sorted rank_of (answers_always _ _ _ (λ f a r g h. search rules)) k d (omega arith) within in
    let one = (get_or all k d).bound in
    let next = (get_or all (k + 1) d).bound in
    at_most one next (nat_cmp one.sum next.sum) refl sorted
