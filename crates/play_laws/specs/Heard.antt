-- Which variables a client asks for, and which entries it may hear.
use Rattle.std.specs.Prelude.{ℕ, Bool, List, []}
use Rattle.std.specs.List.{flat_map, list_any}
use Rattle.moos_client.specs.Calls.{entries_of}
use Rattle.moos_post.specs.declared.entry.Call.{Call}
use Rattle.moos_post.specs.declared.entry.Call.TheVariants.{Register, Unregister, Post as Posts, Fetch}
use Rattle.moos_post.specs.declared.entry.Entry.{Entry}
use Rattle.moos_post.specs.declared.registration.Reg.{Reg}
use Rattle.moos_post.specs.History.{History, posts_of_entry}
use Rattle.moos_post.specs.Patterns.{matches}

-- the registrations that a call makes
abbrev pub registered_by : Call → List Reg
registered_by (Register regs) = regs
registered_by (Unregister var source) = []
registered_by (Posts batch) = []
registered_by Fetch = []

-- all registrations that a client makes in a history, withdrawn or not
abbrev pub registered_in : ℕ → History → List Reg
registered_in client history = flat_map (λ entry. registered_by entry.call) (entries_of client history)

-- whether one of these registrations asks for the variable, of whatever source
abbrev pub ask_for : List Reg → List ℕ → Bool
ask_for regs var = list_any (λ reg. matches reg.var var) regs

-- whether the entry posts a variable that one of these registrations asks for
abbrev pub ask_of : List Reg → Entry → Bool
ask_of regs entry = list_any (λ post. ask_for regs post.var) (posts_of_entry entry)
