use Rattle.tm_strat.proofs.spelling.spelled_block.Goals as goal

pub returns-in_ok-made-in-Move-clause-fits : goal.returns-in_ok-made-in-Move-clause-fits
returns-in_ok-made-in-Move-clause-fits c = λ tests count at later. c.in_ok-made-in-Move.ensures.fits count at
