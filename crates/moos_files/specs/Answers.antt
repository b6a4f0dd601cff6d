-- What the system's answers come to: that of a write to the standard output, and that of a read of a file.
use Rattle.std.specs.Prelude.{ℕ, ◌==◌, nat_le, if◌then◌else◌, Result, Ok, Err}
use Rattle.std.specs.IoError.{error_kind}
use Rattle.std.specs.declared.io.Error.{Error}
use Rattle.std.specs.declared.io.ErrorKind.{ErrorKind}
use Rattle.std.specs.declared.io.ErrorKind.TheVariants.{OutOfMemory}
use Rattle.moos_files.specs.declared.folder.LoadFault.{LoadFault}
use Rattle.moos_files.specs.declared.folder.LoadFault.TheVariants.{Failed as LoadFailed, NoMemory}
use Rattle.moos_io.specs.declared.sink.Failed.{Failed}
use Rattle.moos_io.specs.Faults.{Faring}

-- a put took what the write took, and failed if that is nothing
abbrev pub put_of_write : Result ℕ Error → Result ℕ Failed
put_of_write (Ok count) = if count == 0 then Err (record {}) else Ok count
put_of_write (Err error) = Err (record {})

-- want of memory is told from every other fault of the system
abbrev pub fault_of_kind : ErrorKind → LoadFault
fault_of_kind OutOfMemory = NoMemory
fault_of_kind _ = LoadFailed

-- a load is good if all was read and is at most `most` bytes
abbrev pub load_of_read : ℕ → Result ℕ Error → Result (Unit {0}) LoadFault
load_of_read most (Ok count) = if nat_le count most then Ok tt else Err LoadFailed
load_of_read most (Err error) = Err (fault_of_kind (error_kind error))

-- how the standard output fares: it takes nothing for sure
abbrev pub unsure_faring : ℕ → Faring
unsure_faring count = record { faults = count; firm = 0 }
