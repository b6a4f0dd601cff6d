-- How a token is told at its place: this serves the reader alone.
use Rattle.std.specs.Prelude.{ℕ, List}
use Rattle.helm_cond.specs.declared.token.TokenKind.{TokenKind}
use Rattle.helm_cond.specs.declared.token.TokenKind.TheVariants.{Opening as IsOpening, Closing as IsClosing, Sign as IsSign, Quoted as IsQuoted, Unclosed as IsUnclosed, Word as IsWord}
use Rattle.helm_cond.specs.Grammar.{Token, Opening, Closing, Sign, Quoted, Unclosed, Word}

-- the token of this kind that says these bytes, if its kind says any
abbrev pub token_said : TokenKind → List ℕ → Token
token_said IsOpening bytes = Opening
token_said IsClosing bytes = Closing
token_said IsSign bytes = Sign bytes
token_said IsQuoted bytes = Quoted bytes
token_said IsUnclosed bytes = Unclosed
token_said IsWord bytes = Word bytes
