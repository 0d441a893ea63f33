use Rattle.tm_strat_drafts.proofs.Renewing.{fits_test}
use Rattle.tm_strat_drafts.proofs.Rooting.{test_drafts}
use Rattle.tm_strat_drafts.proofs.goals.again.Goals as goal

pub join-requires-clause-test : goal.join-requires-clause-test
join-requires-clause-test g c =
    (fits_test _ _ c.in-Test.test c.in-Test.first c.in-Test.second c.args.block c.in-Test.is c.requires.fits).0

pub join-requires-clause-first : goal.join-requires-clause-first
join-requires-clause-first g c =
    (fits_test _ _ c.in-Test.test c.in-Test.first c.in-Test.second c.args.block c.in-Test.is c.requires.fits).1

pub join-requires-clause-second : goal.join-requires-clause-second
join-requires-clause-second g c =
    (fits_test _ _ c.in-Test.test c.in-Test.first c.in-Test.second c.args.block c.in-Test.is c.requires.fits).2

pub returns-in_ok-at-in-Test-clause-drafts : goal.returns-in_ok-at-in-Test-clause-drafts
returns-in_ok-at-in-Test-clause-drafts g c =
    test_drafts c.in-Test.test c.in-Test.first c.in-Test.second c.args.block c.in-Test.is c.requires.fits
    c.in_ok-at-in-Test.ensures.makes
