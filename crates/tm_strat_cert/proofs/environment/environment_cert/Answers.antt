use Rattle.std.proofs.Common.{List, length, sym, subst}
use Rattle.tm_numbering.proofs.Growth.{numbered_none}
use Rattle.tm_sem.specs.Certificates.{MeetsEnvironment}
use Rattle.tm_solve.specs.declared.iterates.LevelSet.{LevelSet}
use Rattle.tm_solve.specs.Iterates.{Each, KnowsLevel}
use Rattle.tm_solve_exact.specs.Exact.{exact_ids}
use Rattle.tm_strat_cert.specs.Inner.Placed.{LevelsPlaced}
use Rattle.tm_strat_cert.proofs.Fits.{environment_fits}
use Rattle.tm_strat_cert.proofs.Told.{levels_told}
use Rattle.tm_strat_cert.proofs.environment.environment_cert.Goals as goal

pub place_levels-levels-requires-clause-known : goal.place_levels-levels-requires-clause-known
place_levels-levels-requires-clause-known c =
    subst (Each (KnowsLevel (exact_ids c.args.game.now))) (sym c.as_slice-levels.ensures.value) c.requires.known.levels

pub place_levels-levels-requires-clause-numbered : goal.place_levels-levels-requires-clause-numbered
place_levels-levels-requires-clause-numbered c =
    numbered_none c.args.game.now.diagrams.table (length c.args.game.now.order) c.new-kept.result.keys
    c.new-nodes.result.items c.new-kept.ensures.empty c.new-nodes.ensures.items

pub returns-clause-sets : goal.returns-clause-sets
returns-clause-sets c d of =
    levels_told c.args.game.now d of c.in-Ok-order_of.ensures.reduced c.in-Ok-order_of.ensures.rises
    c.place_levels-levels.new.kept.keys
    c.place_levels-levels.new.nodes.items c.in-Ok.ensures.numbered c.args.iterates.now c.in-Ok-order_of.given.items
    c.in-Ok.given.items c.in-Ok-order_of.ensures.order
    (subst (λ (xs : List LevelSet). LevelsPlaced c.place_levels-levels.new.kept.keys xs c.in-Ok.given.items)
    c.as_slice-levels.ensures.value c.in-Ok.ensures.part)

pub returns-clause-fits : goal.returns-clause-fits
returns-clause-fits c d of shape =
    environment_fits c.args.game.now d of c.in-Ok-order_of.ensures.places c.in-Ok-order_of.ensures.reduced
    c.in-Ok-order_of.ensures.rises
    c.place_levels-levels.new.kept.keys c.place_levels-levels.new.nodes.items c.in-Ok.ensures.numbered
    c.args.iterates.now c.in-Ok-order_of.given.items c.in-Ok.given.items c.in-Ok-order_of.ensures.order
    (subst (λ (xs : List LevelSet). LevelsPlaced c.place_levels-levels.new.kept.keys xs c.in-Ok.given.items)
    c.as_slice-levels.ensures.value c.in-Ok.ensures.part)
    shape

pub returns-clause-meets : goal.returns-clause-meets
returns-clause-meets c d of =
    let same = returns-clause-sets c d of in
    (subst (MeetsEnvironment d) same, subst (MeetsEnvironment d) (sym same))
