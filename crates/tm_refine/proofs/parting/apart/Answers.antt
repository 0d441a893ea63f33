use Rattle.std.proofs.Common.{length, sym, ap}
use Rattle.std.proofs.lemmas.Result.{IfOk-weaker}
use Rattle.tm_flat.specs.Flat.{FlatTerms}
use Rattle.tm_refine.proofs.PoolKeeps.{keeps, keeps_then}
use Rattle.tm_refine.proofs.PoolParts.{apart_told}
use Rattle.tm_refine.proofs.parting.apart.Goals as goal

pub returns-clause-apart : goal.returns-clause-apart
returns-clause-apart c =
    let g = c.args.game.now in
    let h = c.cells_of.new.game in
    let kept = c.cells_of.ensures.kept in
    IfOk-weaker c.first_cut-found.result _ _
    (λ o found d can.
    let can_now = kept.follows.extends.of d can in
    apart_told d h can_now c.in_ok-cells.cells.tracked.items c.args.tracked.now (length g.flat.pool)
    (ap (λ (f : FlatTerms). length f.pool) (sym kept.grows.flat)) c.in_ok-cells.ensures.tracked o
    (found d can_now)) c.first_cut-found.ensures.apart

pub returns-clause-kept : goal.returns-clause-kept
returns-clause-kept c =
    let kept = c.cells_of.ensures.kept in
    keeps_then c.args.game.now c.cells_of.new.game c.first_cut-found.new.game kept
    (keeps c.cells_of.new.game c.first_cut-found.new.game kept.can c.first_cut-found.ensures.grows c.tell.ensures)
