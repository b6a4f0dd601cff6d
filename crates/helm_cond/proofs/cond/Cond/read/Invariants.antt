use Rattle.std.proofs.Common.{◌≡◌, ◌+◌, ◌≤◌, List, ◌++◌, false, length, option_map}
use Rattle.helm_cond.specs.declared.symbol.Symbol.{Symbol}
use Rattle.helm_cond.specs.Flat.{names_among}
use Rattle.helm_cond.specs.Grammar.{symbols_of, tokens_of}
use Rattle.helm_cond.specs.Levels.{accepts}
use Rattle.helm_cond.proofs.cond.Cond.read.Given as goal

abbrev pub invariant-symbols : goal.invariant-symbols
invariant-symbols l = record {
  symbols : symbols_of (tokens_of l.text) ≡ option_map (λ more. l.symbols.items ++ more) (symbols_of (tokens_of l.rest));
  place : (more : List Symbol) → accepts 0 false (l.symbols.items ++ more) ≡ accepts l.place.open l.place.ready more;
  vars : l.names.items ≡ names_among l.symbols.items;
  few : length l.names.items + length l.rest ≤ length l.text;
}

abbrev pub decreases-symbols : goal.decreases-symbols
decreases-symbols l = length l.rest
