-- Which bytes name no behaviour file.
use Rattle.std.proofs.Common.{◌≡◌, ◌<◌, ℕ, Bool, true, false, ◌&&◌, nat_le, nat_lt, List, length, Some, refl}
use Rattle.std.specs.Prelude.{Err, is_none}
use Rattle.std.proofs.lemmas.Bool.{lt-leb}
use Rattle.moos_post.specs.Words.{control_place, is_text}
use Rattle.moos_text.specs.declared.cause.Cause.TheVariants.{M1}
use Rattle.mission_reader.specs.declared.settings.Settings.{Settings}
use Rattle.mission_reader.specs.Missions.{with_behaviors}

and_false : (b : Bool) → (b && false) ≡ false
and_false true = refl
and_false false = refl

-- a text is neither too long nor of bad bytes
too_long : (name : List ℕ) → 4096 < length name → is_text name ≡ false
too_long name long = rw (lt-leb (length name) 4096 long) refl

bad_byte : (name : List ℕ) (place : ℕ) → control_place name ≡ Some place → is_text name ≡ false
bad_byte name place bad = rw bad (and_false (nat_le (length name) 4096))

-- what is no text is refused
no_name : (settings : Settings) (name : List ℕ) → is_text name ≡ false → with_behaviors settings name ≡ Err M1
no_name settings name bad = rw (bad, and_false (is_none settings.behaviors && nat_lt 0 (length name))) refl

pub long_refused : (settings : Settings) (name : List ℕ) → 4096 < length name → with_behaviors settings name ≡ Err M1
long_refused settings name long = no_name settings name (too_long name long)

pub bad_refused : (settings : Settings) (name : List ℕ) (place : ℕ) → control_place name ≡ Some place → with_behaviors settings name ≡ Err M1
bad_refused settings name place bad = no_name settings name (bad_byte name place bad)
