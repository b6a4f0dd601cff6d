use Rattle.std.proofs.Common.{◌≡◌, true, false, codes, bytes_eq, ap, sym, ◌∙◌}
use Rattle.moos_post.proofs.Texts.{bytes_eq_comm}
use Rattle.helm_cond.specs.Conditions.{names_in}
use Rattle.bhv_reader.proofs.Faults.{any_at, none_more}
use Rattle.bhv_reader.proofs.mode.names_mode.Goals as goal

pub returns-then-eq : goal.returns-then-eq
returns-then-eq c =
    let name = c.variable.result.now in
    let test : bytes_eq (codes "MODE") name ≡ true =
    bytes_eq_comm (codes "MODE") name ∙ ap (λ n. bytes_eq n (codes "MODE")) (sym c.bytes.ensures.value) ∙ sym (c.eq.ensures ∙ ap (bytes_eq c.bytes.result.now) c.as_slice.ensures) ∙ c.if-eq.true in
    sym (any_at (bytes_eq (codes "MODE")) (names_in c.args.cond.now) c.loop-place.place name c.variable.ensures test)

pub loop-place-preserved : goal.loop-place-preserved
loop-place-preserved c =
    let name = c.variable.result.now in
    let test : bytes_eq (codes "MODE") name ≡ false =
    bytes_eq_comm (codes "MODE") name ∙ ap (λ n. bytes_eq n (codes "MODE")) (sym c.bytes.ensures.value) ∙ sym (c.eq.ensures ∙ ap (bytes_eq c.bytes.result.now) c.as_slice.ensures) ∙ c.if-eq.false in
    none_more (bytes_eq (codes "MODE")) (names_in c.args.cond.now) c.loop-place.place name c.variable.ensures test c.loop-place.invariant
