-- What a reader of a file answers if it doesn't give the file's value.
use Rattle.std.specs.Prelude.{◌≡◌, ℕ, Result, Ok, Err}
use Rattle.moos_text.specs.declared.cause.Cause.{Cause}
use Rattle.moos_text.specs.declared.cause.LineFault.{LineFault}
use Rattle.moos_text.specs.declared.cause.LineFault.TheVariants.{Refused, NoMemory as OutOfMemory}
use Rattle.moos_text.specs.declared.cause.ReadFault.{ReadFault}
use Rattle.moos_text.specs.declared.cause.ReadFault.TheVariants.{At, NoMemory}

-- a refusal that a reader gives is the first one of the file; want of memory says nothing of it
abbrev pub IsFirst : {A : Type 0} → ReadFault → Result A ReadFault → Type 0
IsFirst (At line cause) read = read ≡ Err (At line cause)
IsFirst NoMemory read = Unit {0}

-- a refusal of one line is the one that the line has; want of memory says nothing of it
abbrev pub IsLineFault : {A : Type 0} → LineFault → Result A Cause → Type 0
IsLineFault (Refused cause) read = read ≡ Err cause
IsLineFault OutOfMemory read = Unit {0}

-- the refusal of the line with this number, as that of the file
abbrev pub fault_at : ℕ → LineFault → ReadFault
fault_at line (Refused cause) = At line cause
fault_at line OutOfMemory = NoMemory

-- what is made of a good value, or the refusal; if one call is in another, the text reads from its last line up
abbrev pub and_then : {A B E : Type 0} → (A → Result B E) → Result A E → Result B E
and_then next (Ok value) = next value
and_then next (Err fault) = Err fault

-- what comes of a line, or its refusal as that of the file
abbrev pub at_line : {A : Type 0} → ℕ → Result A Cause → Result A ReadFault
at_line line (Ok value) = Ok value
at_line line (Err cause) = Err (At line cause)
