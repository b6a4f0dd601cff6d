use Rattle.std.proofs.Common.{◌∙◌}
use Rattle.moos_bridged.proofs.Beginning.{opened_by}
use Rattle.moos_bridged.proofs.sharing.opened.Goals as goal

pub returns-clause-opened : goal.returns-clause-opened
returns-clause-opened g c =
    opened_by c.args.rules.now c.in_ok-regs.regs c.in_ok-one.one c.register.new.self c.in_ok-regs.ensures c.in_ok-one.ensures.new c.in_ok-register.ensures.on

pub returns-clause-script : goal.returns-clause-script
returns-clause-script g c = c.in_ok-register.ensures.on.script ∙ c.in_ok-one.ensures.script

pub returns-clause-from : goal.returns-clause-from
returns-clause-from g c = c.in_ok-register.ensures.stays ∙ c.in_ok-one.ensures.from
