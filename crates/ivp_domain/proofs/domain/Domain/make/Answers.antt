use Rattle.std.proofs.Common.{IsTrue, ◌≡◌, ◌∙◌, sym, true, None, not, rules}
use Rattle.std.specs.List.{list_all}
use Rattle.std.proofs.lemmas.Iterator.Adapters.{position_from-zero}
use Rattle.ivp_domain.specs.Axes.{is_good_axis, no_axis}
use Rattle.ivp_domain.specs.Domains.{is_domain, bad_axis, repeated_place}
use Rattle.ivp_domain.proofs.Padding.{kept, none_fails}
use Rattle.ivp_domain.proofs.Sizes.{is_domain-from}
use Rattle.ivp_domain.proofs.domain.Domain.make.Goals as goal

pub invariant_of-result : goal.invariant_of-result
invariant_of-result c =
    let axes = c.args.axes.now in
    let none : bad_axis axes ≡ None = search rules in
    let one : repeated_place axes ≡ None = search rules in
    let good : list_all is_good_axis axes ≡ true = none_fails is_good_axis axes 0 (sym (position_from-zero (λ axis. not (is_good_axis axis)) axes) ∙ none) in
    kept (λ all. IsTrue (is_domain all)) axes c.padded.result 4 no_axis c.padded.ensures
    (is_domain-from axes c.requires.0 c.requires.1 good (search rules) one)
