use Rattle.std.proofs.Common.{Global, List, Vec, length, map, sym, subst}
use Rattle.tm_cert.specs.declared.cert.Rank.{Rank}
use Rattle.tm_numbering.proofs.Growth.{numbered_none}
use Rattle.tm_numbering.proofs.Pairs.{maps_same}
use Rattle.tm_sem.specs.Certificates.{MeetsMoveForm}
use Rattle.tm_solve.specs.declared.iterates.Ranking.{Ranking}
use Rattle.tm_solve.specs.Iterates.{Each, KnowsRanks}
use Rattle.tm_solve_exact.specs.Exact.{exact_ids}
use Rattle.tm_strat_cert.specs.Inner.Placed.{GoalsPlaced, RanksPlaced}
use Rattle.tm_strat_cert.proofs.Fits.{driver_fits}
use Rattle.tm_strat_cert.proofs.Later.{set_later}
use Rattle.tm_strat_cert.proofs.Told.{driver_told}
use Rattle.tm_strat_cert.proofs.driver.driver_cert.Goals as goal

pub place-region-requires-clause-set : goal.place-region-requires-clause-set
place-region-requires-clause-set c = c.requires.known.region

pub place-region-requires-clause-numbered : goal.place-region-requires-clause-numbered
place-region-requires-clause-numbered c =
    numbered_none c.args.game.now.diagrams.table (length c.args.game.now.order) c.new-kept.result.keys
    c.new-nodes.result.items c.new-kept.ensures.empty c.new-nodes.ensures.items

pub place_goals-goals-requires-clause-known : goal.place_goals-goals-requires-clause-known
place_goals-goals-requires-clause-known c =
    subst (Each (λ (r : Ranking). KnowsRanks (exact_ids c.args.game.now) r.sets.items))
    (sym c.as_slice-ranks.ensures.value) c.requires.known.ranks

pub returns-clause-ranks : goal.returns-clause-ranks
returns-clause-ranks c =
    maps_same (λ (r : Ranking). length r.sets.items) (λ (ranks : List Rank). length ranks)
    (λ (r : Ranking) (ranks : List Rank). RanksPlaced c.place_goals-goals.new.kept.keys r.sets.items ranks)
    c.args.iterates.now.ranks.items (map (λ (v : Vec Rank Global). v.items) c.in-Ok-goals.given.items)
    (λ r ranks placed. placed.count)
    (subst (λ (xs : List Ranking). GoalsPlaced c.place_goals-goals.new.kept.keys xs
    (map (λ (v : Vec Rank Global). v.items) c.in-Ok-goals.given.items)) c.as_slice-ranks.ensures.value
    c.in-Ok-goals.ensures.part)

pub returns-clause-sets : goal.returns-clause-sets
returns-clause-sets c d of =
    driver_told c.args.game.now d of c.in-Ok-order_of.ensures.reduced c.in-Ok-order_of.ensures.rises
    c.place_goals-goals.new.kept.keys
    c.place_goals-goals.new.nodes.items c.in-Ok-goals.ensures.numbered c.args.iterates.now c.in-Ok-order_of.given.items
    c.in-Ok.given (map (λ (v : Vec Rank Global). v.items) c.in-Ok-goals.given.items) c.in-Ok-order_of.ensures.order
    (set_later c.place-region.new.kept.keys c.place_goals-goals.new.kept.keys c.in-Ok-goals.ensures.stay
    c.args.iterates.now.region c.in-Ok.given c.in-Ok.ensures.part)
    (subst (λ (xs : List Ranking). GoalsPlaced c.place_goals-goals.new.kept.keys xs
    (map (λ (v : Vec Rank Global). v.items) c.in-Ok-goals.given.items)) c.as_slice-ranks.ensures.value
    c.in-Ok-goals.ensures.part)

pub returns-clause-fits : goal.returns-clause-fits
returns-clause-fits c d of count waits =
    driver_fits c.args.game.now d of c.in-Ok-order_of.ensures.places c.in-Ok-order_of.ensures.reduced
    c.in-Ok-order_of.ensures.rises
    c.place_goals-goals.new.kept.keys c.place_goals-goals.new.nodes.items c.in-Ok-goals.ensures.numbered
    c.args.iterates.now c.in-Ok-order_of.given.items c.in-Ok.given
    (map (λ (v : Vec Rank Global). v.items) c.in-Ok-goals.given.items)
    c.in-Ok-order_of.ensures.order
    (set_later c.place-region.new.kept.keys c.place_goals-goals.new.kept.keys c.in-Ok-goals.ensures.stay
    c.args.iterates.now.region c.in-Ok.given c.in-Ok.ensures.part)
    (subst (λ (xs : List Ranking). GoalsPlaced c.place_goals-goals.new.kept.keys xs
    (map (λ (v : Vec Rank Global). v.items) c.in-Ok-goals.given.items)) c.as_slice-ranks.ensures.value
    c.in-Ok-goals.ensures.part)
    waits count

pub returns-clause-meets : goal.returns-clause-meets
returns-clause-meets c d of =
    let same = returns-clause-sets c d of in
    (subst (MeetsMoveForm d) same, subst (MeetsMoveForm d) (sym same))
