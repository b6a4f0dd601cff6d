use Rattle.std.proofs.Common.{◌≡◌, ◌+◌, ◌^◌, ◌<◌, ◌≤◌, refl, sym, ap, ◌∙◌, arith, rules}
use Rattle.bhv_life.specs.Lives.{latest_stamp}
use Rattle.bhv_life.specs.Standing.{span_from}
use Rattle.bhv_life.proofs.Turning.{keeps_lasted, no_overflow}
use Rattle.bhv_life.proofs.started.Started.lasted.Goals as goal

pub returns : goal.returns
returns c = λ past one keeps later stamp ended now stepped ran.
    let above : latest_stamp past ≤ one.stamp = omega (arith, later, stamp) in
    let few = no_overflow past c.args.self.now.life one.stamp keeps above in
    let span : c.span_from.result ≡ span_from c.args.self.now.life.running one.stamp = c.span_from.ensures ∙ ap (span_from c.args.self.now.life.running) (sym stamp) in
    let small : c.args.self.now.stamp < 2 ^ 64 = search rules in
    let time : c.saturating_add.result ≡ c.args.self.now.life.time + span_from c.args.self.now.life.running one.stamp = omega (arith, c.saturating_add.ensures, span, few, stamp, small) in
    keeps_lasted past one c.args.self.now.life _ keeps above ended now (stepped ∙ sym c.steps_in.ensures) refl (cc) time (cc)
