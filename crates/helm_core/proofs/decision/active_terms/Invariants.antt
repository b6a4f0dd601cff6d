use Rattle.std.proofs.Common.{◌≡◌, ◌++◌, length}
use Rattle.std.specs.List.{filter_map}
use Rattle.std.specs.Vec.Iter.{into_iter_items, into_iter_len}
use Rattle.helm_core.specs.Decisions.{active_term}
use Rattle.helm_core.proofs.decision.active_terms.Given as goal

-- with what is left it comes to what all come to
abbrev pub invariant-loop-showing : goal.invariant-loop-showing
invariant-loop-showing l = record {
  counted : into_iter_len l.showing-iterator ≡ length (into_iter_items l.showing-iterator);
  terms : l.terms.items ++ filter_map active_term (into_iter_items l.showing-iterator) ≡ filter_map active_term l.fn.showings.items;
}
