use Rattle.std.proofs.Common.{◌++◌, ◌∷◌, [], subst}
use Rattle.std.proofs.Math.Logic.{∥∥₁_elim}
use Rattle.std.proofs.Props.{props}
use Rattle.std.proofs.lemmas.Result.{IfOk-weaker}
use Rattle.tm_abs.proofs.Narrows.{narrow_with, narrow_without, narrowed_same, none_met, some_met}
use Rattle.tm_abs.proofs.ValidParts.{pooled_kept}
use Rattle.tm_abs.specs.Tracked.{tracked_of}
use Rattle.tm_dd.specs.declared.node.TheConstants.{FALSE}
use Rattle.tm_dd.specs.Reduced.{IsReduced}
use Rattle.tm_ddops.proofs.Facts.{ids_apart, same_ids}
use Rattle.tm_ddops.specs.Manager.{Diagrams}
use Rattle.tm_game.proofs.Growing.{grows_then, known_kept}
use Rattle.tm_abs.proofs.split.narrow.Goals as goal

pub predicate-requires : goal.predicate-requires
predicate-requires c = record {
  number = c.requires.number;
  pool = ∥∥₁_elim c.requires.narrowed (squash₁)
      (λ it. ∣ (it.0, pooled_kept it.0 it.1 c.args.game.now it.5 it.4) ∣₁);
}

pub and-requires : goal.and-requires
and-requires c =
    let g = c.args.game.now in
    record {
      f = ∥∥₁_elim c.requires.narrowed (hlevel props)
          (λ it.
          known_kept g c.predicate.new.game c.predicate.ensures.grows c.args.found.sought it.6.1.sought_is.known);
      g = ∥∥₁_elim c.requires.narrowed (hlevel props)
          (λ it. (c.in_ok-holds.ensures.predicate it.0 (pooled_kept it.0 it.1 g it.5 it.4)).known);
    }

pub narrow_to-requires : goal.narrow_to-requires
narrow_to-requires c =
    let g = c.args.game.now in
    let h = c.predicate.new.game in
    let l = c.and.new.self in
    let hl = c.and.ensures.grows in
    record {
      cell = ∥∥₁_elim c.requires.narrowed (hlevel props)
          (λ it.
          known_kept g l (grows_then g h l c.predicate.ensures.grows hl) c.args.found.cell it.6.1.cell_is.known);
      holds = ∥∥₁_elim c.requires.narrowed (hlevel props)
          (λ it.
          known_kept h l hl c.in_ok-holds.holds
          (c.in_ok-holds.ensures.predicate it.0 (pooled_kept it.0 it.1 g it.5 it.4)).known);
    }

pub narrow_off-requires : goal.narrow_off-requires
narrow_off-requires c =
    let g = c.args.game.now in
    let h = c.predicate.new.game in
    let l = c.and.new.self in
    let hl = c.and.ensures.grows in
    record {
      cell = ∥∥₁_elim c.requires.narrowed (hlevel props)
          (λ it.
          known_kept g l (grows_then g h l c.predicate.ensures.grows hl) c.args.found.cell it.6.1.cell_is.known);
      holds = ∥∥₁_elim c.requires.narrowed (hlevel props)
          (λ it.
          known_kept h l hl c.in_ok-holds.holds
          (c.in_ok-holds.ensures.predicate it.0 (pooled_kept it.0 it.1 g it.5 it.4)).known);
    }

pub returns-in_err-met-clause-grows : goal.returns-in_err-met-clause-grows
returns-in_err-met-clause-grows c =
    grows_then c.args.game.now c.predicate.new.game c.and.new.self c.predicate.ensures.grows c.and.ensures.grows

pub returns-then-eq-clause-grows : goal.returns-then-eq-clause-grows
returns-then-eq-clause-grows c =
    grows_then c.args.game.now c.and.new.self c.narrow_off.new.game
    (grows_then c.args.game.now c.predicate.new.game c.and.new.self c.predicate.ensures.grows c.and.ensures.grows)
    c.narrow_off.ensures.grows

pub returns-else-eq-clause-grows : goal.returns-else-eq-clause-grows
returns-else-eq-clause-grows c =
    grows_then c.args.game.now c.and.new.self c.narrow_to.new.game
    (grows_then c.args.game.now c.predicate.new.game c.and.new.self c.predicate.ensures.grows c.and.ensures.grows)
    c.narrow_to.ensures.grows

pub returns-else-eq-clause-narrowed : goal.returns-else-eq-clause-narrowed
returns-else-eq-clause-narrowed c =
    IfOk-weaker c.narrow_to.result _ _
    (λ n made d first set before pooled fg is.
    let g = c.args.game.now in
    let h = c.predicate.new.game in
    let k = c.and.new.self in
    let l = c.narrow_to.new.game in
    let met = c.in_ok-met.met in
    let found = c.args.found in
    let gh = c.predicate.ensures.grows in
    let hk = c.and.ensures.grows in
    let order = c.in_ok-holds.ensures.order in
    let holds = c.in_ok-holds.holds in
    let its = c.in_ok-holds.ensures.predicate d (pooled_kept d first g fg pooled) in
    let some = some_met d first g h k pooled fg gh hk order set before is.0 found.cell found.sought is.1 c.args.number
    holds its met c.in_ok-met.ensures.answer
    (subst (λ (m : Diagrams). IsReduced m.table) c.manager.ensures c.store-store.ensures.manager.reduced)
    (ids_apart met FALSE c.if-eq.ensures) in (
      some.0,
      narrowed_same d first l.diagrams.table set (before ++ tracked_of d (c.args.number ∷ [])) some.0 n.cell met
          n.sought made.0
          (narrow_with d first g h k pooled fg gh hk order set before is.0 found.cell found.sought is.1 c.args.number
          holds its met c.in_ok-met.ensures.answer l c.narrow_to.ensures.grows n.cell some.0 (some.1, some.2) made.1),
    ))
    c.narrow_to.ensures.narrowed

pub returns-then-eq-clause-narrowed : goal.returns-then-eq-clause-narrowed
returns-then-eq-clause-narrowed c =
    IfOk-weaker c.narrow_off.result _ _
    (λ n made d first set before pooled fg is.
    let g = c.args.game.now in
    let h = c.predicate.new.game in
    let k = c.and.new.self in
    let l = c.narrow_off.new.game in
    let met = c.in_ok-met.met in
    let found = c.args.found in
    let gh = c.predicate.ensures.grows in
    let hk = c.and.ensures.grows in
    let order = c.in_ok-holds.ensures.order in
    let holds = c.in_ok-holds.holds in
    let its = c.in_ok-holds.ensures.predicate d (pooled_kept d first g fg pooled) in
    let none = none_met d first g h k pooled fg gh hk order set before is.0 found.cell found.sought is.1 c.args.number
    holds its met c.in_ok-met.ensures.answer (same_ids met FALSE c.if-eq.ensures) in (
      is.0,
      narrowed_same d first l.diagrams.table set (before ++ tracked_of d (c.args.number ∷ [])) is.0 n.cell found.sought
          n.sought made.0
          (narrow_without d first g h k pooled fg gh hk order set before is.0 found.cell found.sought is.1
          c.args.number holds its met c.in_ok-met.ensures.answer l c.narrow_off.ensures.grows n.cell none made.1),
    ))
    c.narrow_off.ensures.narrowed
