-- The root's children.
use Rattle.std.proofs.Common.{[]}
use Rattle.std.specs.Prelude.{pos}
use Rattle.ivp_pool.specs.declared.root.Child.{Child}

-- what an index past the end reads
abbrev pub blank_child : Child
blank_child = record { node = record { depth = 0; area = record { low = []; high = [] }; base = pos 0; slope = [] }; place = 0; bound = record { sum = 0; index = 0 } }
