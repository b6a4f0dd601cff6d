use Rattle.std.proofs.Common.{◌≡◌, ◌+◌, ◌<◌, ◌≤◌, ◌∙◌, ◌++◌, ◌∷◌, [], false, length, length-append, option_map, Some, ap, sym, arith}
use Rattle.std.specs.Prelude.{is_some}
use Rattle.helm_cond.specs.Flat.{names_among}
use Rattle.helm_cond.specs.Grammar.{with_symbol, symbols_of, tokens_of, condition_said}
use Rattle.helm_cond.specs.Levels.{accepts}
use Rattle.helm_cond.specs.KeptConditions.{condition_in}
use Rattle.helm_cond.proofs.Flat.{among_more}
use Rattle.helm_cond.proofs.Whole.{no_place, not_whole, is_said, whole, next_place, next_symbols, one_name}
use Rattle.helm_cond.proofs.cond.Cond.read.Goals as goal

pub returns-in_default-behind-clause-bad : goal.returns-in_default-behind-clause-bad
returns-in_default-behind-clause-bad c _ =
    let next : symbols_of (tokens_of c.symbols.rest.now) ≡ with_symbol (Some c.in-Some.next.symbol) (symbols_of (tokens_of c.in-Some.next.rest.now)) = rw c.in-Some.is at c.in_ok-next.ensures.symbol in
    no_place (symbols_of (tokens_of c.args.text.now)) c.symbols.symbols.items c.symbols.place.open c.symbols.place.ready c.symbols.invariant.place
    c.in-Some.next.symbol (symbols_of (tokens_of c.in-Some.next.rest.now))
    (c.symbols.invariant.symbols ∙ ap (option_map (λ more. c.symbols.symbols.items ++ more)) next)
    c.in_default-behind.ensures

pub symbols-preserved : goal.symbols-preserved
symbols-preserved c =
    let next : symbols_of (tokens_of c.symbols.rest.now) ≡ with_symbol (Some c.in-Some.next.symbol) (symbols_of (tokens_of c.in-Some.next.rest.now)) = rw c.in-Some.is at c.in_ok-next.ensures.symbol in
    let shorter : length c.in-Some.next.rest.now < length c.symbols.rest.now = rw c.in-Some.is at c.in_ok-next.ensures.shorter in
    let one : length (names_among (c.in-Some.next.symbol ∷ [])) ≤ 1 = one_name c.in-Some.next.symbol in
    let more_names : length c.keep.new.names.items ≡ length c.symbols.names.items + length (names_among (c.in-Some.next.symbol ∷ [])) =
    ap length c.in_ok-keep.ensures.names ∙ length-append c.symbols.names.items (names_among (c.in-Some.next.symbol ∷ [])) in
    record {
      symbols =
          next_symbols (symbols_of (tokens_of c.args.text.now)) c.symbols.symbols.items c.in-Some.next.symbol (symbols_of (tokens_of c.in-Some.next.rest.now))
          (c.symbols.invariant.symbols ∙ ap (option_map (λ more. c.symbols.symbols.items ++ more)) next)
          ∙ ap (λ items. option_map (λ more. items ++ more) (symbols_of (tokens_of c.in-Some.next.rest.now))) (sym c.in_ok-keep.ensures.symbols);
      place = λ more.
          ap (λ items. accepts 0 false (items ++ more)) c.in_ok-keep.ensures.symbols
          ∙ next_place (symbols_of (tokens_of c.args.text.now)) c.symbols.symbols.items c.symbols.place.open c.symbols.place.ready c.symbols.invariant.place
          c.in-Some.next.symbol c.in-Some-behind.next_place.open c.in-Some-behind.next_place.ready c.in-Some-behind.ensures more;
      vars =
          c.in_ok-keep.ensures.names ∙ ap (λ names. names ++ names_among (c.in-Some.next.symbol ∷ [])) c.symbols.invariant.vars
          ∙ sym (among_more c.symbols.symbols.items c.in-Some.next.symbol) ∙ ap names_among (sym c.in_ok-keep.ensures.symbols);
      few = omega (arith, c.symbols.invariant.few);
    }

pub returns-then-not-is_whole-clause-bad : goal.returns-then-not-is_whole-clause-bad
returns-then-not-is_whole-clause-bad c _ =
    let none : tokens_of c.symbols.rest.now ≡ [] = rw c.in_default.is at c.in_ok-next.ensures.symbol in
    not_whole (symbols_of (tokens_of c.args.text.now)) c.symbols.symbols.items c.symbols.place.open c.symbols.place.ready c.symbols.invariant.place
    (c.symbols.invariant.symbols ∙ ap (λ tokens. option_map (λ more. c.symbols.symbols.items ++ more) (symbols_of tokens)) none)
    (sym c.is_whole.ensures ∙ c.if-not-is_whole.true)

pub invariant_of-result : goal.invariant_of-result
invariant_of-result c = record {
  said =
      ap (λ symbols. is_some (condition_said symbols)) c.of.ensures
      ∙ is_said (symbols_of (tokens_of c.args.text.now)) c.symbols.symbols.items c.symbols.place.open c.symbols.place.ready c.symbols.invariant.place
      (sym c.is_whole.ensures ∙ c.if-not-is_whole.false);
  vars = c.of-2.ensures ∙ c.symbols.invariant.vars ∙ ap names_among (sym c.of.ensures);
  few = let same : length c.of-2.result ≡ length c.symbols.names.items = ap length c.of-2.ensures in omega (arith, c.symbols.invariant.few, c.requires);
}

pub returns-clause-ok : goal.returns-clause-ok
returns-clause-ok c =
    let none : tokens_of c.symbols.rest.now ≡ [] = rw c.in_default.is at c.in_ok-next.ensures.symbol in
    whole (symbols_of (tokens_of c.args.text.now)) c.symbols.symbols.items c.symbols.place.open c.symbols.place.ready c.symbols.invariant.place
    (c.symbols.invariant.symbols ∙ ap (λ tokens. option_map (λ more. c.symbols.symbols.items ++ more) (symbols_of tokens)) none)
    (sym c.is_whole.ensures ∙ c.if-not-is_whole.false)
    ∙ ap (λ symbols. Some (condition_in symbols)) (sym c.of.ensures)
