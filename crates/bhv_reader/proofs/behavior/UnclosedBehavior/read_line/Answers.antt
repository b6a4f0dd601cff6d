use Rattle.std.proofs.Common.{ap, arith, sym, ◌∙◌}
use Rattle.std.specs.Prelude.{Ok}
use Rattle.moos_text.specs.Refusals.{and_then}
use Rattle.bhv_reader.specs.Blocks.{with_common, with_parameter, with_sides}
use Rattle.bhv_reader.specs.Places.{behavior_block}
use Rattle.bhv_reader.proofs.Called.{common_line, line_read, line_refused, own_line}
use Rattle.bhv_reader.proofs.Within.{value_within}
use Rattle.bhv_reader.proofs.behavior.UnclosedBehavior.read_line.Goals as goal

pub set_common-requires : goal.set_common-requires
set_common-requires c =
    let within = value_within c.args.text.now (record { name = c.in-Some.name.now; value = c.in-Some.value.now }) c.in-Some.ensures in
    record { text = omega (arith, within, c.requires.text) }

pub returns-in-Some-parameter_named-clause-read : goal.returns-in-Some-parameter_named-clause-read
returns-in-Some-parameter_named-clause-read c =
    let block = behavior_block c.args.file.now c.args.self.now in
    let value = c.in-Some.value.now in
    let parameter = c.in-Some-parameter_named.parameter in
    let line = ap (with_sides block c.args.line) c.in-Some.ensures ∙ own_line block c.args.line (record { name = c.in-Some.name.now; value = value }) parameter c.in-Some-parameter_named.ensures in
    line_read _ (with_parameter c.args.self.now value parameter) c.args.file.now c.set_own.new.self c.set_own.result line c.set_own.ensures.read

pub returns-in-Some-parameter_named-clause-refused : goal.returns-in-Some-parameter_named-clause-refused
returns-in-Some-parameter_named-clause-refused c =
    let block = behavior_block c.args.file.now c.args.self.now in
    let value = c.in-Some.value.now in
    let parameter = c.in-Some-parameter_named.parameter in
    let line = ap (with_sides block c.args.line) c.in-Some.ensures ∙ own_line block c.args.line (record { name = c.in-Some.name.now; value = value }) parameter c.in-Some-parameter_named.ensures in
    line_refused _ (with_parameter c.args.self.now value parameter) c.args.file.now c.set_own.result line c.set_own.ensures.refused

pub returns-in-Some-common_named-clause-read : goal.returns-in-Some-common_named-clause-read
returns-in-Some-common_named-clause-read c =
    let file = c.args.file.now in
    let block = behavior_block file c.args.self.now in
    let value = c.in-Some.value.now in
    let parameter = c.in-Some-common_named.parameter in
    let line = ap (with_sides block c.args.line) c.in-Some.ensures ∙ common_line block c.args.line (record { name = c.in-Some.name.now; value = value }) parameter c.in-Some-common_named.ensures
    ∙ ap (λ blocks. and_then (λ behavior. Ok (behavior_block file behavior)) (with_common blocks c.args.self.now value parameter)) (sym c.all.ensures) in
    line_read _ (with_common c.all.result.now c.args.self.now value parameter) file c.set_common.new.self c.set_common.result line c.set_common.ensures.read

pub returns-in-Some-common_named-clause-refused : goal.returns-in-Some-common_named-clause-refused
returns-in-Some-common_named-clause-refused c =
    let file = c.args.file.now in
    let block = behavior_block file c.args.self.now in
    let value = c.in-Some.value.now in
    let parameter = c.in-Some-common_named.parameter in
    let line = ap (with_sides block c.args.line) c.in-Some.ensures ∙ common_line block c.args.line (record { name = c.in-Some.name.now; value = value }) parameter c.in-Some-common_named.ensures
    ∙ ap (λ blocks. and_then (λ behavior. Ok (behavior_block file behavior)) (with_common blocks c.args.self.now value parameter)) (sym c.all.ensures) in
    line_refused _ (with_common c.all.result.now c.args.self.now value parameter) file c.set_common.result line c.set_common.ensures.refused
