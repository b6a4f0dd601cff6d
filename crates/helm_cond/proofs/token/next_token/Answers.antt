use Rattle.std.proofs.Common.{◌≤◌, ◌∙◌, length, ap, sym, arith}
use Rattle.helm_cond.specs.Grammar.{tokens_of}
use Rattle.helm_cond.proofs.TokenSteps.{tokens_of-found, found_first, found_short, no_token}
use Rattle.helm_cond.proofs.token.next_token.Goals as goal

pub token_at-requires-clause-found : goal.token_at-requires-clause-found
token_at-requires-clause-found c = found_first c.args.text.now c.without_front_blanks-found.result.now c.without_front_blanks-found.ensures c.in-len1-up.len_at_least

pub returns-in-empty-clause-token : goal.returns-in-empty-clause-token
returns-in-empty-clause-token c = no_token c.args.text.now c.without_front_blanks-found.result.now c.without_front_blanks-found.ensures c.in-empty.len_below

pub returns-in-len1-up-clause-token : goal.returns-in-len1-up-clause-token
returns-in-len1-up-clause-token c =
    tokens_of-found c.args.text.now ∙ ap tokens_of (sym c.without_front_blanks-found.ensures) ∙ c.token_at.ensures.token

pub returns-in-len1-up-clause-shorter : goal.returns-in-len1-up-clause-shorter
returns-in-len1-up-clause-shorter c =
    let short : length c.without_front_blanks-found.result.now ≤ length c.args.text.now = found_short c.args.text.now c.without_front_blanks-found.result.now c.without_front_blanks-found.ensures in
    omega (arith, c.token_at.ensures.shorter)
