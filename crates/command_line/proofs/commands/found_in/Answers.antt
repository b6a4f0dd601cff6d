use Rattle.std.proofs.Common.{◌≡◌, ◌∙◌, true, sym, true≢false}
use Rattle.clap.specs.Words.{app_of}
use Rattle.command_line.proofs.Taking.{found_is, found_none}
use Rattle.command_line.proofs.commands.found_in.Goals as goal

pub returns-in-Ok : goal.returns-in-Ok
returns-in-Ok c = found_is (app_of c.args.command) c.args.line.now c.in-Ok.matches c.requires c.in-Ok.ensures.matches (c.in-Ok.ensures.kinds c.requires.free)

pub returns-in-Err : goal.returns-in-Err
returns-in-Err c = tt

pub returns : goal.returns
returns c =
    found_none (app_of c.args.command) c.args.line.now c.kind.result (λ taken. c.kind.ensures ∙ c.in-Err.ensures.passes taken)
    (λ memory.
    let same : c.eq.result ≡ true = rw memory at c.eq.ensures in
    true≢false (sym same ∙ c.if-eq.false))
