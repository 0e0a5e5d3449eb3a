use Rattle.hz_desk.proofs.passes.Passes.make.Given as goal

-- the ledger that the blank stands for
abbrev pub ghosts-make_counted : goal.ghosts-make_counted
ghosts-make_counted a = record { name = a.ledger.name; parts = a.ledger.parts }
