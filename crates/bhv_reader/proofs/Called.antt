-- What is called as one of the tables' parameters is a name, and no parameter of a type is called as a common one. Letters of
-- both cases are the same in it.
use Rattle.std.proofs.Common.{◌≡◌, ℕ, ◌+◌, ◌<◌, ◌≤◌, Bool, true, false, ◌&&◌, ◌||◌, ◌==◌, nat_le, nat_lt, cond, List, [], ◌∷◌, length, Option, Some, None, refl, ap, sym, ◌∙◌, arith}
use Rattle.std.specs.Prelude.{bytes_eq, find, IfErr, IfOk, is_none, Ok, Err, Result}
use Rattle.std.specs.Char.{to_ascii_lowercase}
use Rattle.std.specs.List.{list_all, list_any}
use Rattle.std.specs.Str.{str_eq_ignore_ascii_case, str_to_ascii_lowercase}
use Rattle.std.proofs.lemmas.Bool.{and_from, and_parts, le-leb, ltb-true, ltb-false}
use Rattle.std.proofs.lemmas.List.{length-map}
use Rattle.std.proofs.lemmas.Slice.Eq.{bytes_eq-Decides}
use Rattle.std.proofs.Math.Bool.{or-true}
use Rattle.moos_post.specs.Words.{begins_name, is_alphabetic, is_between, is_digit, is_name, is_name_byte}
use Rattle.moos_text.specs.declared.cause.Cause.{Cause}
use Rattle.moos_text.specs.declared.cause.Cause.TheVariants.{B1}
use Rattle.moos_text.specs.declared.cause.LineFault.{LineFault}
use Rattle.moos_text.specs.declared.cause.LineFault.TheVariants.{Refused, NoMemory}
use Rattle.moos_text.specs.Pairs.{Sides}
use Rattle.moos_text.specs.Refusals.{and_then, IsLineFault}
use Rattle.bhv_reader.specs.declared.behavior.UnclosedBehavior.{UnclosedBehavior}
use Rattle.bhv_file.specs.declared.file.BhvFile.{BhvFile}
use Rattle.bhv_file.specs.declared.table.CommonParameter.{CommonParameter}
use Rattle.bhv_file.specs.declared.table.CommonParameter.TheVariants.{Name, Weight, Condition, RunFlag, IdleFlag, ActiveFlag, InactiveFlag, EndFlag, Updates, Duration, IdleDecay, Perpetual, Templating}
use Rattle.bhv_file.specs.declared.table.Parameter.{Parameter}
use Rattle.bhv_file.specs.declared.table.Parameter.TheVariants.{Heading as OfHeading, Speed as OfSpeed, Depth as OfDepth, PeakWidth, BaseWidth, SummitDelta, MaxDepth as OfMaxDepth, Points, CaptureRadius, SlipRadius, Order, Repeat, Polygon, Clockwise, StationPoint, CenterActivate, InnerRadius, OuterRadius, OuterSpeed, MaxTime, Contact, ContactX, ContactY, ContactSpeed, ContactHeading, NearDistance, FarDistance, Resolved, PieceSize}
use Rattle.bhv_reader.specs.Blocks.{after_known, BehaviorBlock, with_common, with_found, with_parameter, with_sides}
use Rattle.bhv_reader.specs.Places.{behavior_block}
use Rattle.bhv_file.specs.Table.{common_name, common_named, common_parameters, is_called, is_called_common, parameter_names, parameter_of, parameters_of}

-- what a byte passes, its letter in lower case passes and the other way round, where letters of both cases pass
folded_byte : (test : ℕ → Bool) → ((byte : ℕ) → is_alphabetic byte ≡ true → test byte ≡ true) → (byte : ℕ) → test (to_ascii_lowercase byte) ≡ test byte
folded_byte test letters byte = at (nat_lt byte 65) (nat_lt byte 91) refl refl
  where
    at : (low high : Bool) → nat_lt byte 65 ≡ low → nat_lt byte 91 ≡ high → test (cond low byte (cond high (byte + 32) byte)) ≡ test byte
    at true high l h = refl
    at false false l h = refl
    at false true l h =
        let from : 65 ≤ byte = ltb-false byte 65 l in
        let to : byte < 91 = ltb-true byte 91 h in
        let capital : is_alphabetic byte ≡ true = ap (λ b. b || is_between 97 122 byte) (and_from (nat_le 65 byte) (nat_le byte 90) (le-leb 65 byte from) (le-leb byte 90 (omega (arith, to)))) in
        let small : is_alphabetic (byte + 32) ≡ true =
        ap (λ b. is_between 65 90 (byte + 32) || b) (and_from (nat_le 97 (byte + 32)) (nat_le (byte + 32) 122) (le-leb 97 (byte + 32) (omega (arith, from))) (le-leb (byte + 32) 122 (omega (arith, to))))
        ∙ or-true (is_between 65 90 (byte + 32)) in
        letters (byte + 32) small ∙ sym (letters byte capital)

begin_letter : (byte : ℕ) → is_alphabetic byte ≡ true → begins_name byte ≡ true
begin_letter byte letter = ap (λ b. b || byte == 95) letter

name_letter : (byte : ℕ) → is_alphabetic byte ≡ true → is_name_byte byte ≡ true
name_letter byte letter = ap (λ b. b || is_digit byte || byte == 95 || byte == 45 || byte == 46) letter

folded_bytes : (bytes : List ℕ) → list_all is_name_byte (str_to_ascii_lowercase bytes) ≡ list_all is_name_byte bytes
folded_bytes [] = refl
folded_bytes (byte ∷ bytes) =
    ap (λ b. b && list_all is_name_byte (str_to_ascii_lowercase bytes)) (folded_byte is_name_byte name_letter byte)
    ∙ ap (λ b. is_name_byte byte && b) (folded_bytes bytes)

-- bytes are a name where they are one in lower case
folded_name : (bytes : List ℕ) → is_name (str_to_ascii_lowercase bytes) ≡ is_name bytes
folded_name [] = refl
folded_name (byte ∷ bytes) =
    ap (λ b. b && list_all is_name_byte (str_to_ascii_lowercase (byte ∷ bytes)) && nat_le (length (str_to_ascii_lowercase (byte ∷ bytes))) 64) (folded_byte begins_name begin_letter byte)
    ∙ ap (λ b. begins_name byte && b && nat_le (length (str_to_ascii_lowercase (byte ∷ bytes))) 64) (folded_bytes (byte ∷ bytes))
    ∙ ap (λ n. begins_name byte && list_all is_name_byte (byte ∷ bytes) && nat_le n 64) (length-map (byte ∷ bytes) to_ascii_lowercase)

-- the common parameter of a name in lower case
abbrev common_in_lower_case : List ℕ → Option CommonParameter
common_in_lower_case bytes = find (λ parameter. bytes_eq bytes (str_to_ascii_lowercase (common_name parameter))) common_parameters

-- a name, and no common parameter's
abbrev is_own_name : List ℕ → Bool
is_own_name name = is_name name && is_none (common_named name)

in_lower_case : (one other : List ℕ) → str_eq_ignore_ascii_case one other ≡ true → str_to_ascii_lowercase one ≡ str_to_ascii_lowercase other
in_lower_case one other same = (bytes_eq-Decides (str_to_ascii_lowercase one) (str_to_ascii_lowercase other)).0 same

-- bytes are a name where those are one that differ in the case of letters alone
same_name : (one other : List ℕ) → str_eq_ignore_ascii_case one other ≡ true → is_name one ≡ is_name other
same_name one other same = sym (folded_name one) ∙ ap is_name (in_lower_case one other same) ∙ folded_name other

same_own_name : (one other : List ℕ) → str_eq_ignore_ascii_case one other ≡ true → is_own_name one ≡ is_own_name other
same_own_name one other same =
    ap (λ b. b && is_none (common_named one)) (same_name one other same)
    ∙ ap (λ found. is_name other && is_none found) (ap common_in_lower_case (in_lower_case one other same))

called_own : (name : List ℕ) (words : List (List ℕ)) → list_any (str_eq_ignore_ascii_case name) words ≡ true → list_all is_own_name words ≡ true → is_own_name name ≡ true
called_own name [] called own = absurd cc
called_own name (word ∷ words) called own =
    let all = and_parts (is_own_name word) (list_all is_own_name words) own in
    at all.0 (λ later. called_own name words later all.1) (str_eq_ignore_ascii_case name word) refl called
  where
    at : is_own_name word ≡ true → (list_any (str_eq_ignore_ascii_case name) words ≡ true → is_own_name name ≡ true) → (b : Bool) → str_eq_ignore_ascii_case name word ≡ b → (b || list_any (str_eq_ignore_ascii_case name) words) ≡ true → is_own_name name ≡ true
    at own later true same any = same_own_name name word same ∙ own
    at own later false same any = later any

own_names : (parameter : Parameter) → list_all is_own_name (parameter_names parameter) ≡ true
own_names OfHeading = refl
own_names OfSpeed = refl
own_names OfDepth = refl
own_names PeakWidth = refl
own_names BaseWidth = refl
own_names SummitDelta = refl
own_names OfMaxDepth = refl
own_names Points = refl
own_names CaptureRadius = refl
own_names SlipRadius = refl
own_names Order = refl
own_names Repeat = refl
own_names Polygon = refl
own_names Clockwise = refl
own_names StationPoint = refl
own_names CenterActivate = refl
own_names InnerRadius = refl
own_names OuterRadius = refl
own_names OuterSpeed = refl
own_names MaxTime = refl
own_names Contact = refl
own_names ContactX = refl
own_names ContactY = refl
own_names ContactSpeed = refl
own_names ContactHeading = refl
own_names NearDistance = refl
own_names FarDistance = refl
own_names Resolved = refl
own_names PieceSize = refl

common_names : (parameter : CommonParameter) → is_name (common_name parameter) ≡ true
common_names Name = refl
common_names Weight = refl
common_names Condition = refl
common_names RunFlag = refl
common_names IdleFlag = refl
common_names ActiveFlag = refl
common_names InactiveFlag = refl
common_names EndFlag = refl
common_names Updates = refl
common_names Duration = refl
common_names IdleDecay = refl
common_names Perpetual = refl
common_names Templating = refl

-- what is found passes the test
found_passes : {A : Type 0} (test : A → Bool) (all : List A) (x : A) → Some x ≡ find test all → test x ≡ true
found_passes test [] x found = absurd cc
found_passes test (first ∷ more) x found = at (found_passes test more x) (test first) refl found
  where
    at : (Some x ≡ find test more → test x ≡ true) → (b : Bool) → test first ≡ b → Some x ≡ cond b (Some first) (find test more) → test x ≡ true
    at later true passes same = let one : x ≡ first = cc in ap test one ∙ passes
    at later false fails found = later found

none_found : (found : Option CommonParameter) → is_none found ≡ true → found ≡ None
none_found None e = refl
none_found (Some parameter) e = absurd cc

-- a line that gives a parameter of the behaviour's type
pub own_line : (block : BehaviorBlock) (line : ℕ) (sides : Sides) (parameter : Parameter) → Some parameter ≡ parameter_of block.behavior.spec.shape sides.name → with_sides block line (Some sides) ≡ and_then (λ behavior. Ok (record block { behavior = behavior })) (with_parameter block.behavior sides.value parameter)
own_line block line sides parameter found =
    let called = found_passes (λ one. is_called one sides.name) (parameters_of block.behavior.spec.shape) parameter found in
    let parts = and_parts (is_name sides.name) (is_none (common_named sides.name)) (called_own sides.name (parameter_names parameter) called (own_names parameter)) in
    let blocks = block.file.blocks in
    let own = parameter_of block.behavior.spec.shape sides.name in
    ap (λ b. cond b (after_known block line sides.name (with_found blocks block.behavior sides.value (common_named sides.name) own)) (Err B1)) parts.0
    ∙ ap (λ common. after_known block line sides.name (with_found blocks block.behavior sides.value common own)) (none_found (common_named sides.name) parts.1)
    ∙ ap (λ one. after_known block line sides.name (with_found blocks block.behavior sides.value None one)) (sym found)

-- a line that gives a common parameter
pub common_line : (block : BehaviorBlock) (line : ℕ) (sides : Sides) (parameter : CommonParameter) → Some parameter ≡ common_named sides.name → with_sides block line (Some sides) ≡ and_then (λ behavior. Ok (record block { behavior = behavior })) (with_common block.file.blocks block.behavior sides.value parameter)
common_line block line sides parameter found =
    let called = found_passes (is_called_common sides.name) common_parameters parameter found in
    let name : is_name sides.name ≡ true = same_name sides.name (common_name parameter) called ∙ common_names parameter in
    let own = parameter_of block.behavior.spec.shape sides.name in
    ap (λ b. cond b (after_known block line sides.name (with_found block.file.blocks block.behavior sides.value (common_named sides.name) own)) (Err B1)) name
    ∙ ap (λ one. after_known block line sides.name (with_found block.file.blocks block.behavior sides.value one own)) (sym found)

-- what a line makes of a behaviour, and why it is refused, where only the behaviour is another
pub line_read : {A : Type 0} (whole : Result BehaviorBlock Cause) (part : Result UnclosedBehavior Cause) (file : BhvFile) (after : UnclosedBehavior) (result : Result A LineFault) → whole ≡ and_then (λ behavior. Ok (behavior_block file behavior)) part → IfOk result (λ _. part ≡ Ok after) → IfOk result (λ _. whole ≡ Ok (behavior_block file after))
line_read whole part file after (Ok x) is read = is ∙ ap (and_then (λ behavior. Ok (behavior_block file behavior))) read
line_read whole part file after (Err fault) is read = tt

pub line_refused : {A : Type 0} (whole : Result BehaviorBlock Cause) (part : Result UnclosedBehavior Cause) (file : BhvFile) (result : Result A LineFault) → whole ≡ and_then (λ behavior. Ok (behavior_block file behavior)) part → IfErr result (λ fault. IsLineFault fault part) → IfErr result (λ fault. IsLineFault fault whole)
line_refused whole part file (Ok x) is refused = tt
line_refused whole part file (Err (Refused cause)) is refused = is ∙ ap (and_then (λ behavior. Ok (behavior_block file behavior))) refused
line_refused whole part file (Err NoMemory) is refused = tt
