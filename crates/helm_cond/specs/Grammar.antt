-- The grammar of a condition: what its bytes stand for, or nothing if they are no condition. The bytes are cut into
-- tokens, three tokens make a comparison, and of what is between a pair of parentheses `or` binds weakest, then
-- `and`, then `not`.
use Rattle.std.specs.Prelude.{ℕ, zero, suc, Bool, true, false, not, ◌&&◌, ◌||◌, ◌==◌, nat_lt, if◌then◌else◌, List, [], ◌∷◌, codes, bytes_eq, Option, Some, None, is_none, option_map, option_and_then}
use Rattle.std.specs.Result.{result_ok}
use Rattle.std.specs.Str.{str_eq_ignore_ascii_case}
use Rattle.moos_post.specs.declared.value.Value.{Value}
use Rattle.moos_post.specs.Words.{is_name}
use Rattle.moos_text.specs.Lines.{is_blank, is_quoted_after}
use Rattle.moos_text.specs.Numbers.{milli_of}
use Rattle.moos_text.specs.Pairs.{is_quote, text_value, plain_value}
use Rattle.helm_cond.specs.declared.operator.Operator.{Operator}
use Rattle.helm_cond.specs.declared.operator.Operator.TheVariants.{Equal, Unequal, Below, AtMost, Above, AtLeast}
use Rattle.helm_cond.specs.declared.symbol.Symbol.{Symbol}
use Rattle.helm_cond.specs.declared.symbol.Symbol.TheVariants.{Open, Close, Not as NotWord, And as AndWord, Or as OrWord, Test}
use Rattle.helm_cond.specs.Conditions.{Condition, Compare, Not, And, Or}

-- a token: a parenthesis, a run of the bytes `=!<>`, a text in quotes, a quote that stays open, or a run of other bytes
pub data Token : Type 0 where
  Opening : Token
  Closing : Token
  Sign : List ℕ → Token
  Quoted : List ℕ → Token
  Unclosed : Token
  Word : List ℕ → Token

-- the byte is in an operator
abbrev pub is_operator_byte : ℕ → Bool
is_operator_byte byte = byte == 61 || byte == 33 || byte == 60 || byte == 62

-- the byte is a parenthesis
abbrev pub is_parenthesis_byte : ℕ → Bool
is_parenthesis_byte byte = byte == 40 || byte == 41

-- the byte is in a word: no blank, no quote, no parenthesis, and not in an operator
abbrev pub is_plain : ℕ → Bool
is_plain byte = not (is_blank byte || is_quote byte || is_parenthesis_byte byte || is_operator_byte byte)

-- the bytes begin with one that passes the test
abbrev pub first_passes : (ℕ → Bool) → List ℕ → Bool
first_passes test [] = false
first_passes test (byte ∷ bytes) = test byte

-- the byte in front of the first token's
abbrev pub onto_token : ℕ → List Token → List Token
onto_token byte [] = []
onto_token byte (Sign bytes ∷ tokens) = Sign (byte ∷ bytes) ∷ tokens
onto_token byte (Quoted bytes ∷ tokens) = Quoted (byte ∷ bytes) ∷ tokens
onto_token byte (Word bytes ∷ tokens) = Word (byte ∷ bytes) ∷ tokens
onto_token byte (Opening ∷ tokens) = Opening ∷ tokens
onto_token byte (Closing ∷ tokens) = Closing ∷ tokens
onto_token byte (Unclosed ∷ tokens) = Unclosed ∷ tokens

-- the tokens with one byte in front that is outside quotes, or opens a quote
abbrev pub with_plain : ℕ → List ℕ → List Token → List Token
with_plain byte bytes tokens =
    if is_blank byte || is_quote byte then tokens
    else if byte == 40 then Opening ∷ tokens
    else if byte == 41 then Closing ∷ tokens
    else if is_operator_byte byte then if first_passes is_operator_byte bytes then onto_token byte tokens else Sign (byte ∷ []) ∷ tokens
    else if first_passes is_plain bytes then onto_token byte tokens
    else Word (byte ∷ []) ∷ tokens

-- the tokens with one byte in front, inside quotes or outside; these bytes follow it
abbrev pub with_byte : Bool → ℕ → List ℕ → List Token → List Token
with_byte true byte bytes tokens = if is_quote byte then Quoted [] ∷ tokens else onto_token byte tokens
with_byte false byte bytes tokens = with_plain byte bytes tokens

-- the tokens of bytes that begin inside quotes, or outside
abbrev pub tokens_from : Bool → List ℕ → List Token
tokens_from quoted [] = if quoted then Unclosed ∷ [] else []
tokens_from quoted (byte ∷ bytes) = with_byte quoted byte bytes (tokens_from (is_quoted_after quoted byte) bytes)

-- the tokens of bytes; blanks part them
abbrev pub tokens_of : List ℕ → List Token
tokens_of bytes = tokens_from false bytes

-- the operator that a sign is
abbrev pub operator_of : List ℕ → Option Operator
operator_of sign =
    if bytes_eq sign (codes "=") || bytes_eq sign (codes "==") then Some Equal
    else if bytes_eq sign (codes "!=") then Some Unequal
    else if bytes_eq sign (codes "<") then Some Below
    else if bytes_eq sign (codes "<=") then Some AtMost
    else if bytes_eq sign (codes ">") then Some Above
    else if bytes_eq sign (codes ">=") then Some AtLeast
    else None

-- a literal: a text in quotes, or a word, which is a number if it is one
abbrev pub literal_of : Token → Option Value
literal_of (Quoted bytes) = result_ok (text_value bytes)
literal_of (Word bytes) = result_ok (plain_value (milli_of bytes) bytes)
literal_of Opening = None
literal_of Closing = None
literal_of (Sign bytes) = None
literal_of Unclosed = None

-- `not`, `and` and `or`, ignoring the case of ASCII letters
abbrev pub connective_of : List ℕ → Option Symbol
connective_of word =
    if str_eq_ignore_ascii_case word (codes "or") then Some OrWord
    else if str_eq_ignore_ascii_case word (codes "and") then Some AndWord
    else if str_eq_ignore_ascii_case word (codes "not") then Some NotWord
    else None

-- the comparison of these three
abbrev pub compared : List ℕ → Option Operator → Option Value → Option Symbol
compared var (Some operator) (Some literal) = Some (Test (record { var = var; operator = operator; literal = literal }))
compared var (Some operator) None = None
compared var None literal = None

-- a comparison: a name other than the three words, an operator, and a literal
abbrev pub comparison_of : List ℕ → List ℕ → Token → Option Symbol
comparison_of var sign literal =
    if is_name var && is_none (connective_of var) then compared var (operator_of sign) (literal_of literal) else None

-- a symbol before others
abbrev pub with_symbol : Option Symbol → Option (List Symbol) → Option (List Symbol)
with_symbol (Some symbol) (Some symbols) = Some (symbol ∷ symbols)
with_symbol (Some symbol) None = None
with_symbol None symbols = None

-- the symbols that tokens make: parentheses, comparisons, and the three words elsewhere
abbrev pub symbols_of : List Token → Option (List Symbol)
symbols_of [] = Some []
symbols_of (Opening ∷ tokens) = with_symbol (Some Open) (symbols_of tokens)
symbols_of (Closing ∷ tokens) = with_symbol (Some Close) (symbols_of tokens)
symbols_of (Word var ∷ Sign sign ∷ literal ∷ tokens) = with_symbol (comparison_of var sign literal) (symbols_of tokens)
symbols_of (Word word ∷ tokens) = with_symbol (connective_of word) (symbols_of tokens)
symbols_of (Sign sign ∷ tokens) = None
symbols_of (Quoted text ∷ tokens) = None
symbols_of (Unclosed ∷ tokens) = None

-- what is at one level of parentheses: the three words, and operands, each a comparison or what a pair holds
pub data Item : Type 0 where
  Operand : Option Condition → Item
  NotItem : Item
  AndItem : Item
  OrItem : Item

-- operands in a row, each with the `and` or `or` that joins it to the next
pub data Chain : Type 0 where
  Last : Condition → Chain
  AndThen : Condition → Chain → Chain
  OrElse : Condition → Chain → Chain

-- `not` is said of the first operand alone
abbrev pub negated_first : Chain → Chain
negated_first (Last one) = Last (Not one)
negated_first (AndThen one rest) = AndThen (Not one) rest
negated_first (OrElse one rest) = OrElse (Not one) rest

-- an operand before others, or nothing if it is none
abbrev pub joined : (Condition → Chain → Chain) → Option Condition → Option Chain → Option Chain
joined join (Some one) rest = option_map (join one) rest
joined join None rest = None

-- the operands of a level, each behind any number of `not`, and joined to the next
abbrev pub chain_of : List Item → Option Chain
chain_of [] = None
chain_of (NotItem ∷ items) = option_map negated_first (chain_of items)
chain_of (Operand one ∷ []) = option_map Last one
chain_of (Operand one ∷ AndItem ∷ items) = joined AndThen one (chain_of items)
chain_of (Operand one ∷ OrItem ∷ items) = joined OrElse one (chain_of items)
chain_of (Operand one ∷ Operand other ∷ items) = None
chain_of (Operand one ∷ NotItem ∷ items) = None
chain_of (AndItem ∷ items) = None
chain_of (OrItem ∷ items) = None

-- what is before an `and`, if anything does, and the operand behind it
abbrev pub and_also : Option Condition → Condition → Condition
and_also None one = one
and_also (Some before) one = And before one

-- The condition of a chain: `and` joins operands up to the next `or`. `before` is what they are joined to so far.
abbrev pub chain_condition : Option Condition → Chain → Condition
chain_condition before (Last one) = and_also before one
chain_condition before (AndThen one rest) = chain_condition (Some (and_also before one)) rest
chain_condition before (OrElse one rest) = Or (and_also before one) (chain_condition None rest)

-- the condition that a level says
abbrev pub level_condition : List Item → Option Condition
level_condition items = option_map (chain_condition None) (chain_of items)

-- what is, at some place of a condition, behind it at its level, and behind it at each of the levels around
pub record Nesting : Type 0 where
  pub here : List Item
  pub around : List (List Item)

-- a place with these items behind it at its level and these at the levels around
abbrev pub nested : List Item → List (List Item) → Nesting
nested here around = record { here = here; around = around }

-- an item in front of the level's
abbrev pub onto_level : Item → Nesting → Nesting
onto_level item behind = nested (item ∷ behind.here) behind.around

-- what is between a `(` and its `)` is one operand of the level around; a `(` that none closes makes no operand
abbrev pub grouped : List Item → List (List Item) → Nesting
grouped here [] = nested (Operand None ∷ here) []
grouped here (next ∷ more) = nested (Operand (level_condition here) ∷ next) more

-- the levels at the place before these symbols: behind a `)` the level around goes on
abbrev pub levels_of : List Symbol → Nesting
levels_of [] = nested [] []
levels_of (Open ∷ symbols) = let inside = levels_of symbols in grouped inside.here inside.around
levels_of (Close ∷ symbols) = let behind = levels_of symbols in nested [] (behind.here ∷ behind.around)
levels_of (NotWord ∷ symbols) = onto_level NotItem (levels_of symbols)
levels_of (AndWord ∷ symbols) = onto_level AndItem (levels_of symbols)
levels_of (OrWord ∷ symbols) = onto_level OrItem (levels_of symbols)
levels_of (Test comparison ∷ symbols) = onto_level (Operand (Some (Compare comparison))) (levels_of symbols)

-- with `depth` parentheses open before these symbols, at most 64 are ever open
abbrev pub is_shallow : ℕ → List Symbol → Bool
is_shallow depth [] = true
is_shallow depth (Open ∷ symbols) = nat_lt depth 64 && is_shallow (suc depth) symbols
is_shallow zero (Close ∷ symbols) = is_shallow zero symbols
is_shallow (suc depth) (Close ∷ symbols) = is_shallow depth symbols
is_shallow depth (NotWord ∷ symbols) = is_shallow depth symbols
is_shallow depth (AndWord ∷ symbols) = is_shallow depth symbols
is_shallow depth (OrWord ∷ symbols) = is_shallow depth symbols
is_shallow depth (Test comparison ∷ symbols) = is_shallow depth symbols

-- the condition of the one level that there is outside all parentheses; a `)` that closes none makes another
abbrev pub outermost : List Item → List (List Item) → Option Condition
outermost here [] = level_condition here
outermost here (next ∷ more) = None

-- the condition that symbols say, whose parentheses nest at most 64 deep
abbrev pub condition_said : List Symbol → Option Condition
condition_said symbols =
    let whole = levels_of symbols in
    if is_shallow 0 symbols then outermost whole.here whole.around else None

-- The condition that bytes stand for, or nothing if they are no condition.
abbrev pub condition_of : List ℕ → Option Condition
condition_of bytes = option_and_then condition_said (symbols_of (tokens_of bytes))
