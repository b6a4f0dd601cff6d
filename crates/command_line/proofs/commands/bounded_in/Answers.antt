use Rattle.std.proofs.Common.{◌∙◌}
use Rattle.std.specs.Str.Parse.{ParsesUnsigned, ExplainsUnsignedError, HasUnsignedDigitsIfOk}
use Rattle.clap.specs.Words.{found_of}
use Rattle.command_line.proofs.Finding.{bounded_is, bounded_none}
use Rattle.command_line.proofs.commands.bounded_in.Goals as goal

pub returns-in-Some-clause-found : goal.returns-in-Some-clause-found
returns-in-Some-clause-found c =
    c.bounded.ensures.bounded
    ∙ bounded_is (λ text read. ParsesUnsigned 64 10 text read × ExplainsUnsignedError 10 text read × HasUnsignedDigitsIfOk text read) (λ text read gives. gives.0)
    (found_of c.args.matches.now) c.args.id.now c.args.low c.args.high c.get_one.ensures.none c.get_one.ensures.value c.in-Some.is

pub returns-in-None-clause-found : goal.returns-in-None-clause-found
returns-in-None-clause-found c =
    bounded_none (λ text read. ParsesUnsigned 64 10 text read × ExplainsUnsignedError 10 text read × HasUnsignedDigitsIfOk text read) (λ text read gives. gives.0)
    (found_of c.args.matches.now) c.args.id.now c.args.low c.args.high c.get_one.ensures.none c.get_one.ensures.value c.in-None.is
