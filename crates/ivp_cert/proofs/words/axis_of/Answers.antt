use Rattle.std.proofs.Common.{sym}
use Rattle.axis_reader.specs.Fields.{fields_of}
use Rattle.axis_reader.proofs.Cuts.{not_four}
use Rattle.ivp_cert.proofs.words.axis_of.Goals as goal

pub returns-in_err-four_fields : goal.returns-in_err-four_fields
returns-in_err-four_fields c = rw c.from_residual.ensures (sym (not_four (fields_of c.args.word.now) c.in_err-four_fields.ensures))
