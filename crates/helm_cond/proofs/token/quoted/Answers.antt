use Rattle.std.proofs.Common.{◌∙◌, ◌+◌, ◌∷◌, take, ap, sym}
use Rattle.helm_cond.specs.Grammar.{Quoted, tokens_of}
use Rattle.helm_cond.proofs.TokenSteps.{quote_closed, quote_open, all_behind}
use Rattle.helm_cond.proofs.token.quoted.Goals as goal

pub returns-then-len-text-clause-token : goal.returns-then-len-text-clause-token
returns-then-len-text-clause-token c =
    quote_closed c.args.text.now c.bytes_before_quote-len.result c.bytes_before_quote-len.ensures c.if-len-text.true
    ∙ ap (λ behind. Quoted (take c.bytes_before_quote-len.result c.args.text.now) ∷ tokens_of behind) (sym (all_behind (c.bytes_before_quote-len.result + 1) c.args.text.now))

pub returns-else-len-text-clause-token : goal.returns-else-len-text-clause-token
returns-else-len-text-clause-token c = quote_open c.args.text.now c.bytes_before_quote-len.result c.bytes_before_quote-len.ensures c.if-len-text.false
