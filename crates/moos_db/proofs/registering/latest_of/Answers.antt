use Rattle.std.proofs.Common.{ℕ, List, subst, sym}
use Rattle.std.specs.List.{Contains}
use Rattle.std.specs.List.Sorted.{IsStrictlyIncreasing}
use Rattle.std.proofs.Math.Dec.{eqb}
use Rattle.std.proofs.lemmas.List.Filters.{dedup_is}
use Rattle.std.proofs.lemmas.List.Kept.{Contains-dedup_nat, Contains-from_dedup}
use Rattle.std.proofs.lemmas.List.Sorted.{Contains-permutation, IsPermutation-sym}
use Rattle.std.proofs.lemmas.Map.Keys.{IsStrictlyIncreasing-dedup}
use Rattle.moos_db.proofs.registering.latest_of.Goals as goal

pub returns-clause-rising : goal.returns-clause-rising
returns-clause-rising c =
    let sorted : List ℕ = c.sort_unstable.new.self.items in
    subst IsStrictlyIncreasing (sym (dedup_is eqb sorted c.dedup.new.self.items c.dedup.ensures.filtered)) (IsStrictlyIncreasing-dedup sorted c.sort_unstable.ensures.sorted)

pub returns-clause-only : goal.returns-clause-only
returns-clause-only c =
    let sorted : List ℕ = c.sort_unstable.new.self.items in
    let gathered : List ℕ = c.in_ok-numbers.numbers.items in
    λ number within.
    subst (λ list. Contains list number) c.in_ok-numbers.ensures
    (Contains-permutation sorted gathered number (IsPermutation-sym gathered sorted c.sort_unstable.ensures.permutation)
    (Contains-from_dedup eqb sorted number
    (subst (λ list. Contains list number) (dedup_is eqb sorted c.dedup.new.self.items c.dedup.ensures.filtered) within)))

pub returns-clause-each : goal.returns-clause-each
returns-clause-each c =
    let sorted : List ℕ = c.sort_unstable.new.self.items in
    let gathered : List ℕ = c.in_ok-numbers.numbers.items in
    λ number within.
    subst (λ list. Contains list number) (sym (dedup_is eqb sorted c.dedup.new.self.items c.dedup.ensures.filtered))
    (Contains-dedup_nat sorted number
    (Contains-permutation gathered sorted number c.sort_unstable.ensures.permutation
    (subst (λ list. Contains list number) (sym c.in_ok-numbers.ensures) within)))
