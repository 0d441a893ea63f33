use Rattle.std.proofs.Common.{length, sym, ap, subst}
use Rattle.std.proofs.lemmas.Result.{IfOk-weaker}
use Rattle.std.specs.Prelude.{MatchOption}
use Rattle.tm_abs.specs.Split.{IsCut, PartsAreOne}
use Rattle.tm_flat.specs.Flat.{FlatTerms}
use Rattle.tm_flat_pool.specs.Predicates.{pool}
use Rattle.tm_game_pool.specs.Separating.{predicates_at}
use Rattle.tm_refine.proofs.PoolKeeps.{has_pooled, keeps, keeps_then, pooled_of}
use Rattle.tm_refine.proofs.PoolParts.{cut_told}
use Rattle.tm_refine.proofs.parts.split.Goals as goal
use Rattle.tm_solve.specs.Sets.{StateSet}

pub split-found-requires-clause-pool : goal.split-found-requires-clause-pool
split-found-requires-clause-pool c = has_pooled c.cells_of.new.game c.cells_of.ensures.kept.can

pub split-found-requires-clause-set : goal.split-found-requires-clause-set
split-found-requires-clause-set c = (c.cells_of.ensures.kept.follows.extends.known c.args.set c.requires.set).set

pub returns-clause-split : goal.returns-clause-split
returns-clause-split c =
    let g = c.args.game.now in
    let h = c.cells_of.new.game in
    let kept = c.cells_of.ensures.kept in
    let extends = kept.follows.extends in
    IfOk-weaker c.split-found.result _ _
    (λ o found d can.
    let can_now = extends.of d can in
    let predicates = predicates_at (pool d) c.args.tracked.now in
    subst (λ (set : StateSet). MatchOption o (PartsAreOne d predicates set) (λ p. IsCut d predicates set p.0 p.1))
    (extends.same c.args.set c.requires.set)
    (cut_told d h can_now c.in_ok-cells.cells.tracked.items c.args.tracked.now (length g.flat.pool)
    (ap (λ (f : FlatTerms). length f.pool) (sym kept.grows.flat)) c.in_ok-cells.ensures.tracked c.args.set o
    (found d (pooled_of d h can_now)))) c.split-found.ensures.split

pub returns-clause-kept : goal.returns-clause-kept
returns-clause-kept c =
    let kept = c.cells_of.ensures.kept in
    keeps_then c.args.game.now c.cells_of.new.game c.split-found.new.game kept
    (keeps c.cells_of.new.game c.split-found.new.game kept.can c.split-found.ensures.grows c.tell.ensures)
