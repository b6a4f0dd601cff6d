-- Axes that make a domain are one.
use Rattle.std.proofs.Common.{◌≡◌, ◌<◌, ◌≤◌, Bool, true, false, not, nat_le, ◌^◌, List, length, Option, Some, None, refl, sym, ◌∙◌, ℕ}
use Rattle.std.specs.Prelude.{IfOk}
use Rattle.std.proofs.lemmas.Iterator.Adapters.{position_from-zero}
use Rattle.ivp_domain.specs.declared.axis.Axis.{Axis}
use Rattle.ivp_domain.specs.Axes.{is_good_axis}
use Rattle.ivp_domain.specs.Domains.{bad_axis, domain_of, is_domain, judged_axes, repeated_place, size_of}
use Rattle.ivp_domain.proofs.Padding.{none_fails}
use Rattle.ivp_domain.proofs.Sizes.{is_domain-from}

pub domain_good : (axes : List Axis) → 0 < length axes → length axes ≤ 4 → IfOk (domain_of axes) (λ all. is_domain all ≡ true)
domain_good axes some most = at (bad_axis axes) (nat_le (size_of axes) (2 ^ 28)) (repeated_place axes) refl refl refl
  where
    at : (place : Option ℕ) (fits : Bool) (same : Option ℕ) → bad_axis axes ≡ place → nat_le (size_of axes) (2 ^ 28) ≡ fits → repeated_place axes ≡ same → IfOk (judged_axes axes place fits same) (λ all. is_domain all ≡ true)
    at (Some place) fits same e f g = tt
    at None false same e f g = tt
    at None true (Some place) e f g = tt
    at None true None e f g = is_domain-from axes some most (none_fails is_good_axis axes 0 (sym (position_from-zero (λ axis. not (is_good_axis axis)) axes) ∙ e)) f g
