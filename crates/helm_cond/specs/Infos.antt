-- What an `Info` knows.
use Rattle.std.specs.Prelude.{bytes_eq}
use Rattle.std.specs.HashMap.{get_by}
use Rattle.helm_cond.specs.declared.info.Info.{Info}
use Rattle.helm_cond.specs.Learnt.{Knowledge}

-- the latest value of each variable that was learnt, or nothing
abbrev pub knowledge_of : Info → Knowledge
knowledge_of info var = get_by (λ key. bytes_eq var key.items) info.table
