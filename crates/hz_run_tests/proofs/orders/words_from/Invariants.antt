use Rattle.hz_run_tests.proofs.orders.words_from.Given as goal

-- the ledger that the blank stands for
abbrev pub ghosts-make_passes : goal.ghosts-make_passes
ghosts-make_passes a = record { name = a.ledger.name; parts = a.ledger.parts }
