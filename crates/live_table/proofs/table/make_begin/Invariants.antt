use Rattle.live_table.proofs.table.make_begin.Given as goal

-- the line that is led
abbrev pub ghosts-make_begin_as : goal.ghosts-make_begin_as
ghosts-make_begin_as a = record { line = a.line }
