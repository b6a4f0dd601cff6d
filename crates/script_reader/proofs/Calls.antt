-- What every call keeps that is read: the limits of a line, and what it adds to the counts.
use Rattle.std.proofs.Common.{◌≡◌, ℕ, ◌<◌, ◌≤◌, Bool, true, false, ◌&&◌, cond, not, nat_le, nat_lt, List, [], ◌∷◌, ◌++◌, length, codes, bytes_eq, Some, None, refl, sym, ap, ◌∙◌, arith, length-append}
use Rattle.std.specs.Prelude.{Option, option_and_then, Result, Ok, Err, IfOk, IfSome, IsTrue, ℤ, pos, negsuc}
use Rattle.std.specs.List.{All, list_any}
use Rattle.std.proofs.lemmas.Bool.{and_from, le-leb, leb-false, leb-true, lt-ltb}
use Rattle.std.proofs.lemmas.List.Elements.{All-append, All-cons, All-nil}
use Rattle.std.proofs.lemmas.List.Sums.{fold-append}
use Rattle.moos_post.specs.declared.entry.Call.{Call}
use Rattle.moos_post.specs.declared.entry.Call.TheVariants.{Register, Post as Posts, Fetch}
use Rattle.moos_post.specs.declared.registration.Reg.{Reg}
use Rattle.moos_post.specs.declared.value.Pair.{Pair}
use Rattle.moos_post.specs.Entries.{IsCall, IsPair, IsReg}
use Rattle.moos_post.specs.Words.{is_pattern}
use Rattle.moos_text.specs.declared.cause.Cause.{Cause}
use Rattle.moos_text.specs.declared.cause.Cause.TheVariants.{S3, S8}
use Rattle.moos_text.specs.declared.cause.Limit.TheVariants.{Registrations, Variables, Batch as InBatch}
use Rattle.moos_text.specs.Lines.{first_word, behind_word, words_of}
use Rattle.moos_text.specs.Numbers.{milli_of}
use Rattle.moos_text.specs.Pairs.{pair_of, parts_of}
use Rattle.moos_text.specs.Refusals.{and_then}
use Rattle.script_reader.specs.Script.{with_none_behind, milliseconds_of, time_of, pattern_of, interval_of, source_of, reg_of, register_one, register_of, word_at, withdrawal_of, unregister_of, with_cause, with_variable, Posting, posting, with_known, with_pair, with_part, with_parts, post_of_text, is_register, call_of}
use Rattle.script_reader.specs.Validity.{keeps_limits}
use Rattle.script_reader.specs.Counts.{with_pairs, with_call_variables}
use Rattle.moos_text.proofs.Parts.{onto_part, parts_begin}
use Rattle.moos_text.proofs.Judging.{cond_good, and_then_good}
use Rattle.script_reader.proofs.Judging.{ended_good}
use Rattle.script_reader.proofs.Parts.{part_is}

-- what every call keeps: its parts are as their types let them be, a registration has room for one more, the limits of a
-- line, and those of variables
pub record IsFine (made : ℕ) (known : List (List ℕ)) (call : Call) : Type 0 where
  pub parts : IsCall call
  pub room : is_register call ≡ true → made < 256
  pub limits : keeps_limits call ≡ true
  pub variables : length known ≤ 4096 → length (with_call_variables known call) ≤ 4096

abbrev pub IsEarly : ℕ → Type 0
IsEarly time = nat_le time 1000000000 ≡ true

milliseconds_early : (number : ℤ) → IfSome (milliseconds_of number) IsEarly
milliseconds_early (pos n) = at (nat_le n 1000000000) refl
  where
    at : (b : Bool) → nat_le n 1000000000 ≡ b → IfSome (cond b (Some n) None) IsEarly
    at true is = is
    at false is = tt
milliseconds_early (negsuc n) = tt

pub time_early : (word : List ℕ) → IfSome (time_of word) IsEarly
time_early word = at (milli_of word)
  where
    at : (number : Option ℤ) → IfSome (option_and_then milliseconds_of number) IsEarly
    at None = tt
    at (Some number) = milliseconds_early number

interval_early : (word : List ℕ) → IfSome (interval_of word) IsEarly
interval_early [] = refl
interval_early (byte ∷ bytes) = time_early (byte ∷ bytes)

abbrev IsPattern : List ℕ → Type 0
IsPattern bytes = IsTrue (is_pattern bytes)

pattern_is : (word : List ℕ) → IfSome (pattern_of word) IsPattern
pattern_is word = at (is_pattern word) refl
  where
    at : (b : Bool) → is_pattern word ≡ b → IfSome (cond b (Some word) None) IsPattern
    at true is = is
    at false is = tt

source_is : (word : List ℕ) → IfSome (source_of word) IsPattern
source_is [] = refl
source_is (byte ∷ bytes) = pattern_is (byte ∷ bytes)

-- a registration of 1,000,000 seconds at most
record IsShortReg (reg : Reg) : Type 0 where
  parts : IsReg reg
  early : IsEarly reg.interval

reg_short : (var : Option (List ℕ)) (interval : Option ℕ) (source : Option (List ℕ)) → IfSome var IsPattern → IfSome interval IsEarly → IfSome source IsPattern → IfOk (reg_of var interval source) IsShortReg
reg_short None interval source is early from = tt
reg_short (Some var) None source is early from = tt
reg_short (Some var) (Some interval) None is early from = tt
reg_short (Some var) (Some interval) (Some source) is early from =
    record { parts = record { var = is; source = from; interval = let short = leb-true interval 1000000000 early in omega (arith, short) }; early = early }

register_fine : (made : ℕ) (known words : List (List ℕ)) → IfOk (register_of made words) (IsFine made known)
register_fine made known words =
    and_then_good (IsFine made known) (IsFine made known) (λ call. with_none_behind call (word_at 3 words)) (and_then (register_one made) reg)
    (and_then_good IsShortReg (IsFine made known) (register_one made) reg
    (reg_short (pattern_of (word_at 0 words)) (interval_of (word_at 1 words)) (source_of (word_at 2 words)) (pattern_is (word_at 0 words)) (interval_early (word_at 1 words)) (source_is (word_at 2 words))) more)
    (λ call fine. ended_good (IsFine made known) call (word_at 3 words) fine)
  where
    reg : Result Reg Cause
    reg = reg_of (pattern_of (word_at 0 words)) (interval_of (word_at 1 words)) (source_of (word_at 2 words))

    more : (one : Reg) → IsShortReg one → IfOk (register_one made one) (IsFine made known)
    more one short =
        cond_good (IsFine made known) (nat_le 256 made) (Err (S8 Registrations)) (Ok (Register (one ∷ []))) (λ _. tt)
        (λ room. record { parts = All-cons IsReg one [] short.parts (All-nil IsReg); room = λ _. leb-false 256 made room; limits = short.early; variables = λ few. few })

withdrawal_fine : (made : ℕ) (known : List (List ℕ)) (var source : Option (List ℕ)) → IfSome var IsPattern → IfSome source IsPattern → IfOk (withdrawal_of var source) (IsFine made known)
withdrawal_fine made known None source is from = tt
withdrawal_fine made known (Some var) None is from = tt
withdrawal_fine made known (Some var) (Some source) is from = record { parts = (is, from); room = λ h. absurd cc; limits = refl; variables = λ few. few }

unregister_fine : (made : ℕ) (known words : List (List ℕ)) → IfOk (unregister_of words) (IsFine made known)
unregister_fine made known words =
    and_then_good (IsFine made known) (IsFine made known) (λ call. with_none_behind call (word_at 2 words)) (withdrawal_of (pattern_of (word_at 0 words)) (source_of (word_at 1 words)))
    (withdrawal_fine made known (pattern_of (word_at 0 words)) (source_of (word_at 1 words)) (pattern_is (word_at 0 words)) (source_is (word_at 1 words)))
    (λ call fine. ended_good (IsFine made known) call (word_at 2 words) fine)

-- the variables up to here are those before the post and those of its pairs
abbrev pub IsFrom : List (List ℕ) → Posting → Type 0
IsFrom known post = post.variables ≡ with_pairs known post.pairs

-- there is a pair up to here
abbrev HasPair : Posting → Type 0
HasPair post = 0 < length post.pairs

-- the limits of a post are kept up to here, and its parts are pairs
record IsShort (known : List (List ℕ)) (post : Posting) : Type 0 where
  parts : All IsPair post.pairs
  pairs : length post.pairs ≤ 64
  variables : length known ≤ 4096 → length post.variables ≤ 4096

with_pairs_more : (known : List (List ℕ)) (pairs : List Pair) (pair : Pair) → with_pairs known (pairs ++ pair ∷ []) ≡ with_variable (with_pairs known pairs) pair.var
with_pairs_more known pairs pair = fold-append (λ vars one. with_variable vars one.var) known pairs (pair ∷ [])

known_is : (known : List (List ℕ)) (var : List ℕ) → IfOk (with_known known var) (λ more. more ≡ with_variable known var)
known_is known var =
    cond_good (λ more. more ≡ with_variable known var) (not (list_any (bytes_eq var) known) && nat_le 4096 (length known)) (Err (S8 Variables)) (Ok (with_variable known var)) (λ _. tt) (λ _. refl)

known_short : (known : List (List ℕ)) (var : List ℕ) → IfOk (with_known known var) (λ more. length known ≤ 4096 → length more ≤ 4096)
known_short known var = at (list_any (bytes_eq var) known) (nat_le 4096 (length known)) refl
  where
    at : (among full : Bool) → nat_le 4096 (length known) ≡ full
        → IfOk (cond (not among && full) (Err (S8 Variables)) (Ok (cond among known (known ++ var ∷ [])))) (λ more. length known ≤ 4096 → length more ≤ 4096)
    at true true is = λ few. few
    at true false is = λ few. few
    at false true is = tt
    at false false is = λ few. let room = leb-false 4096 (length known) is in omega (arith, length-append known (var ∷ []))

pair_from : (known : List (List ℕ)) (post : Posting) (pair : Pair) → IsPair pair → IsFrom known post → IfOk (with_pair post pair) (IsFrom known)
pair_from known post pair is_pair from =
    cond_good (IsFrom known) (nat_le 64 (length post.pairs)) (Err (S8 InBatch)) (and_then add (with_known post.variables pair.var)) (λ _. tt)
    (λ _. and_then_good (λ more. more ≡ with_variable post.variables pair.var) (IsFrom known) add (with_known post.variables pair.var) (known_is post.variables pair.var)
    (λ more is. is ∙ ap (λ vars. with_variable vars pair.var) from ∙ sym (with_pairs_more known post.pairs pair)))
  where
    add : List (List ℕ) → Result Posting Cause
    add variables = Ok (posting variables (post.pairs ++ pair ∷ []))

pair_short : (known : List (List ℕ)) (post : Posting) (pair : Pair) → IsPair pair → IsShort known post → IfOk (with_pair post pair) (IsShort known)
pair_short known post pair is_pair short =
    cond_good (IsShort known) (nat_le 64 (length post.pairs)) (Err (S8 InBatch)) (and_then add (with_known post.variables pair.var)) (λ _. tt)
    (λ room. and_then_good (λ more. length post.variables ≤ 4096 → length more ≤ 4096) (IsShort known) add (with_known post.variables pair.var) (known_short post.variables pair.var)
    (λ more few. record {
      parts = All-append IsPair post.pairs (pair ∷ []) short.parts (All-cons IsPair pair [] is_pair (All-nil IsPair));
      pairs = let below = leb-false 64 (length post.pairs) room in omega (arith, length-append post.pairs (pair ∷ []));
      variables = λ all. few (short.variables all);
    }))
  where
    add : List (List ℕ) → Result Posting Cause
    add variables = Ok (posting variables (post.pairs ++ pair ∷ []))

-- what one pair more keeps, all parts keep
parts_keep : (P : Posting → Type 0) → ((post : Posting) (pair : Pair) → IsPair pair → P post → IfOk (with_pair post pair) P) → (post : Posting) (parts : List (List ℕ)) → P post → IfOk (with_parts post parts) P
parts_keep P more post [] here = here
parts_keep P more post (part ∷ parts) here =
    and_then_good P P (λ next. with_parts next parts) (with_part post part)
    (and_then_good IsPair P (with_pair post) (with_cause (pair_of part)) (part_is part) (λ pair is. more post pair is here))
    (λ next there. parts_keep P more next parts there)

-- one pair more is at least one
pair_some : (post : Posting) (pair : Pair) → IfOk (with_pair post pair) HasPair
pair_some post pair =
    cond_good HasPair (nat_le 64 (length post.pairs)) (Err (S8 InBatch)) (and_then add (with_known post.variables pair.var)) (λ _. tt)
    (λ _. and_then_good (λ more. more ≡ with_variable post.variables pair.var) HasPair add (with_known post.variables pair.var) (known_is post.variables pair.var)
    (λ more is. omega (arith, length-append post.pairs (pair ∷ []))))
  where
    add : List (List ℕ) → Result Posting Cause
    add variables = Ok (posting variables (post.pairs ++ pair ∷ []))

-- and a text has at least one part
parts_some : (text : List ℕ) (post : Posting) → IfOk (with_parts post (parts_of text)) HasPair
parts_some text post = by (parts_of text) (parts_begin text)
  where
    by : (parts : List (List ℕ)) → parts ≡ onto_part [] parts → IfOk (with_parts post parts) HasPair
    by [] e = absurd (cc)
    by (part ∷ parts) e =
        and_then_good HasPair HasPair (λ next. with_parts next parts) (with_part post part)
        (and_then_good IsPair HasPair (with_pair post) (with_cause (pair_of part)) (part_is part) (λ pair _. pair_some post pair))
        (λ next there. parts_keep HasPair (λ more pair _ _. pair_some more pair) next parts there)

pub parts_from : (known : List (List ℕ)) (parts : List (List ℕ)) → IfOk (with_parts (posting known []) parts) (IsFrom known)
parts_from known parts = parts_keep (IsFrom known) (λ post pair is from. pair_from known post pair is from) (posting known []) parts refl

parts_short : (known : List (List ℕ)) (parts : List (List ℕ)) → IfOk (with_parts (posting known []) parts) (IsShort known)
parts_short known parts = parts_keep (IsShort known) (pair_short known) (posting known []) parts (record { parts = All-nil IsPair; pairs = omega arith; variables = λ few. few })

both_good : {A E : Type 0} (P Q : A → Type 0) (r : Result A E) → IfOk r P → IfOk r Q → IfOk r (λ value. P value × Q value)
both_good P Q (Ok value) h g = (h, g)
both_good P Q (Err fault) h g = tt

post_fine : (made : ℕ) (known : List (List ℕ)) (text : List ℕ) → IfOk (post_of_text known text) (IsFine made known)
post_fine made known text =
    and_then_good Holds (IsFine made known) (λ post. Ok (Posts post.pairs)) read
    (both_good (λ post. IsFrom known post × IsShort known post) HasPair read
    (both_good (IsFrom known) (IsShort known) read (parts_from known (parts_of text)) (parts_short known (parts_of text))) (parts_some text (posting known [])))
    (λ post holds. record {
      parts = (let few = holds.0.1.pairs in omega (arith, few), holds.0.1.parts);
      room = λ h. absurd cc;
      limits = and_from (nat_lt 0 (length post.pairs)) (nat_le (length post.pairs) 64) (lt-ltb 0 (length post.pairs) holds.1) (le-leb (length post.pairs) 64 holds.0.1.pairs);
      variables = λ few. let all = holds.0.1.variables few in omega (arith, ap length holds.0.0);
    })
  where
    read : Result Posting Cause
    read = with_parts (posting known []) (parts_of text)

    Holds : Posting → Type 0
    Holds post = (IsFrom known post × IsShort known post) × HasPair post

pub call_fine : (made : ℕ) (known : List (List ℕ)) (text : List ℕ) → IfOk (call_of made known text) (IsFine made known)
call_fine made known text =
    cond_good (IsFine made known) (bytes_eq verb (codes "register")) (register_of made (words_of rest)) unregisters (λ _. register_fine made known (words_of rest))
    (λ _. cond_good (IsFine made known) (bytes_eq verb (codes "unregister")) (unregister_of (words_of rest)) posts (λ _. unregister_fine made known (words_of rest))
    (λ _. cond_good (IsFine made known) (bytes_eq verb (codes "post")) (post_of_text known rest) fetches (λ _. post_fine made known rest)
    (λ _. cond_good (IsFine made known) (bytes_eq verb (codes "fetch")) (with_none_behind Fetch (first_word rest)) (Err S3)
    (λ _. ended_good (IsFine made known) Fetch (first_word rest) (record { parts = tt; room = λ h. absurd cc; limits = refl; variables = λ few. few })) (λ _. tt))))
  where
    verb : List ℕ
    verb = first_word text

    rest : List ℕ
    rest = behind_word text

    fetches : Result Call Cause
    fetches = cond (bytes_eq (first_word text) (codes "fetch")) (with_none_behind Fetch (first_word (behind_word text))) (Err S3)

    posts : Result Call Cause
    posts = cond (bytes_eq (first_word text) (codes "post")) (post_of_text known (behind_word text)) fetches

    unregisters : Result Call Cause
    unregisters = cond (bytes_eq (first_word text) (codes "unregister")) (unregister_of (words_of (behind_word text))) posts
