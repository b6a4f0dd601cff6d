use Rattle.std.proofs.Common.{◌∙◌, ◌-◌, [], length, take, drop, ap, sym, arith}
use Rattle.std.specs.Prelude.{List}
use Rattle.std.proofs.lemmas.List.{nil_from_length}
use Rattle.helm_cond.specs.declared.symbol.Symbol.{Symbol}
use Rattle.helm_cond.specs.Flat.{behind_parentheses}
use Rattle.helm_cond.proofs.Flat.{only_is, none_only, one_alone, not_alone_behind, no_test_alone, first_behind}
use Rattle.helm_cond.proofs.cond.only_test.Goals as goal

pub returns-in_default : goal.returns-in_default
returns-in_default c = sym (none_only c.args.symbols.now (sym c.behind_parentheses.ensures ∙ nil_from_length c.behind_parentheses.result.now (omega arith)))

pub returns-then-behind_parentheses-gt0 : goal.returns-then-behind_parentheses-gt0
returns-then-behind_parentheses-gt0 c =
    let found : List Symbol = c.behind_parentheses.result.now in
    sym (only_is c.args.symbols.now (take (length found - 1) (drop 1 found)) c.symbol-item.result
    (sym c.behind_parentheses.ensures ∙ first_behind found c.symbol-item.result c.in-len1-up.len_at_least c.symbol-item.is)
    ∙ ap (one_alone c.symbol-item.result) (sym c.behind_parentheses-2.ensures)
    ∙ not_alone_behind c.symbol-item.result c.behind_parentheses-2.result.now c.if-behind_parentheses-gt0.true)

pub returns-in-Test : goal.returns-in-Test
returns-in-Test c =
    let found : List Symbol = c.behind_parentheses.result.now in
    sym (only_is c.args.symbols.now (take (length found - 1) (drop 1 found)) c.symbol-item.result
    (sym c.behind_parentheses.ensures ∙ first_behind found c.symbol-item.result c.in-len1-up.len_at_least c.symbol-item.is)
    ∙ ap (one_alone c.symbol-item.result) (sym c.behind_parentheses-2.ensures ∙ nil_from_length c.behind_parentheses-2.result.now (omega arith))
    ∙ ap (λ symbol. one_alone symbol []) c.in-Test.is)

pub returns-in_default-symbol : goal.returns-in_default-symbol
returns-in_default-symbol c =
    let found : List Symbol = c.behind_parentheses.result.now in
    sym (only_is c.args.symbols.now (take (length found - 1) (drop 1 found)) c.symbol-item.result
    (sym c.behind_parentheses.ensures ∙ first_behind found c.symbol-item.result c.in-len1-up.len_at_least c.symbol-item.is)
    ∙ no_test_alone c.symbol-item.result (behind_parentheses (take (length found - 1) (drop 1 found))) c.in_default-symbol.not-Test)
