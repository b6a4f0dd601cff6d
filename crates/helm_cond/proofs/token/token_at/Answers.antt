use Rattle.std.proofs.Common.{◌∙◌, sym}
use Rattle.std.specs.Prelude.{not}
use Rattle.helm_cond.specs.Grammar.{is_operator_byte, is_plain}
use Rattle.helm_cond.proofs.TokenSteps.{place_within, sign_run, word_run, is_word_byte}
use Rattle.helm_cond.proofs.token.token_at.Goals as goal

pub split_at-requires : goal.split_at-requires
split_at-requires c = place_within (λ byte. not (is_operator_byte byte)) c.args.text.now c.sign_len.result c.sign_len.ensures

pub split_at-requires-else-is_operator_byte : goal.split_at-requires-else-is_operator_byte
split_at-requires-else-is_operator_byte c = place_within (λ byte. not (is_plain byte)) c.args.text.now c.word_len.result c.word_len.ensures

pub returns-then-is_operator_byte-clause-token : goal.returns-then-is_operator_byte-clause-token
returns-then-is_operator_byte-clause-token c =
    sign_run c.args.text.now c.args.byte c.args.rest.now c.sign_len.result c.split_at.result.0.now c.split_at.result.1.now c.requires.whole
    (sym c.is_operator_byte.ensures ∙ c.if-is_operator_byte.true) c.sign_len.ensures c.split_at.ensures.front c.split_at.ensures.back

pub returns-else-is_operator_byte-clause-token : goal.returns-else-is_operator_byte-clause-token
returns-else-is_operator_byte-clause-token c =
    word_run c.args.text.now c.args.byte c.args.rest.now c.word_len.result c.split_at-else-is_operator_byte.result.0.now c.split_at-else-is_operator_byte.result.1.now c.requires.whole
    (is_word_byte c.args.byte c.requires.found c.if-byte-eq34.false c.if-byte-eq40.false c.if-byte-eq41.false (sym c.is_operator_byte.ensures ∙ c.if-is_operator_byte.false))
    c.word_len.ensures c.split_at-else-is_operator_byte.ensures.front c.split_at-else-is_operator_byte.ensures.back
