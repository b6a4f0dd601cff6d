use Rattle.turn_lock.proofs.lock_table.part.Given as goal

abbrev pub ghosts-part_picked : goal.ghosts-part_picked
ghosts-part_picked g a = record { picked = a._number }
