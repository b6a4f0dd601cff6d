use Rattle.std.proofs.Common.{◌≡◌, ◌∙◌, List, ℕ, Option, ap, subst}
use Rattle.std.specs.Prelude.{IfOk}
use Rattle.clap.specs.Words.{found_of}
use Rattle.command_line.specs.Commands.{text_of}
use Rattle.command_line.proofs.Finding.{file_is, file_none}
use Rattle.command_line.proofs.commands.file_in.Goals as goal

pub returns-in-Some : goal.returns-in-Some
returns-in-Some c =
    let name = ap text_of c.as_bytes.ensures.value ∙ file_is (found_of c.args.matches.now) c.args.id.now c.get_str.ensures c.in-Some.is in
    subst (λ (there : Option (List ℕ)). IfOk c.text_of.result (λ name. name ≡ there)) name c.text_of.ensures

pub returns-in-None : goal.returns-in-None
returns-in-None c = file_none (found_of c.args.matches.now) c.args.id.now c.get_str.ensures c.in-None.is
