use Rattle.std.proofs.Common.{◌&&◌, refl, subst}
use Rattle.std.proofs.Math.Logic.{∥∥₁_elim}
use Rattle.std.proofs.Props.{props}
use Rattle.tm_abs.proofs.Splits.{none_left, none_split, off_set, some_left, whole_narrowed}
use Rattle.tm_abs.proofs.ValidParts.{in_pool_kept}
use Rattle.tm_dd.specs.declared.node.NodeId.{NodeId}
use Rattle.tm_dd.specs.declared.node.TheConstants.{FALSE}
use Rattle.tm_dd.specs.Reduced.{IsReduced}
use Rattle.tm_dd.specs.Table.{means}
use Rattle.tm_ddops.specs.Manager.{Diagrams, IsFunction}
use Rattle.tm_ddops.proofs.Facts.{ids_apart, same_ids}
use Rattle.tm_game.proofs.Growing.{grows_none, grows_then, known_kept}
use Rattle.tm_game.specs.Game.{IsStates}
use Rattle.tm_abs.proofs.cells.Cells.split.Goals as goal

pub and-requires : goal.and-requires
and-requires c = record {
  f = ∥∥₁_elim c.requires.pool (hlevel props) (λ x. (c.in_ok-upper.ensures.part x.0 x.1).known);
  g = c.complement.ensures.known c.upper.new.game.diagrams.table
      (known_kept c.args.game.now c.upper.new.game c.upper.ensures.grows c.args.c c.requires.set.known);
}

pub returns-in_err-cut-clause-grows : goal.returns-in_err-cut-clause-grows
returns-in_err-cut-clause-grows c =
    grows_then c.args.game.now c.upper.new.game c.and.new.self c.upper.ensures.grows c.and.ensures.grows

pub returns-then-eq-clause-grows : goal.returns-then-eq-clause-grows
returns-then-eq-clause-grows c =
    grows_then c.args.game.now c.upper.new.game c.and.new.self c.upper.ensures.grows c.and.ensures.grows

pub returns-then-eq-clause-split : goal.returns-then-eq-clause-split
returns-then-eq-clause-split c = λ d pooled.
    let g = c.args.game.now in
    let h = c.upper.new.game in
    let k = c.and.new.self in
    let upper = c.in_ok-upper.upper in
    let cut = c.in_ok-cut.cut in
    let numbers = c.args.self.now.tracked.items in
    let gh = c.upper.ensures.grows in
    let hk = c.and.ensures.grows in
    let order = c.order-order.ensures.places in
    let is = subst (λ (x : NodeId). IsFunction k.diagrams.table cut
    (λ v. means k.diagrams.table upper v && means k.diagrams.table x v)) c.complement.ensures.value
    c.in_ok-cut.ensures.answer in
    let part = c.in_ok-upper.ensures.part d pooled in
    none_split d g h k k gh hk (grows_none k) pooled order numbers c.args.c upper cut c.requires.set part is
    (none_left d g h k k gh hk (grows_none k) pooled order numbers c.args.c upper cut c.requires.set part is
    (same_ids cut FALSE c.if-eq.ensures))

pub pair_with-requires : goal.pair_with-requires
pair_with-requires c =
    let g = c.args.game.now in
    let h = c.upper.new.game in
    let k = c.and.new.self in
    let upper = c.in_ok-upper.upper in
    let cut = c.in_ok-cut.cut in
    let numbers = c.args.self.now.tracked.items in
    let gh = c.upper.ensures.grows in
    let hk = c.and.ensures.grows in
    let order = c.order-order.ensures.places in
    let is = subst (λ (x : NodeId). IsFunction k.diagrams.table cut
    (λ v. means k.diagrams.table upper v && means k.diagrams.table x v)) c.complement.ensures.value
    c.in_ok-cut.ensures.answer in
    let gk = grows_then g h k gh hk in
    record {
      tracked = in_pool_kept g k gk numbers numbers refl c.requires.cells.in_pool;
      cut = ∥∥₁_elim c.requires.pool (squash₁)
          (λ x.
          let d = x.0 in
          let pooled = x.1 in
          let part = c.in_ok-upper.ensures.part d pooled in
          let valid = subst (λ (id : NodeId). IsStates d g.order g.diagrams.table (λ s. Unit {0}) id)
          c.valid-valid.ensures.value (c.valid-valid.ensures.states d pooled.of) in
          let some = some_left d g h k k gh hk (grows_none k) pooled order numbers c.args.c upper cut
          c.requires.set part is
          (subst (λ (m : Diagrams). IsReduced m.table) c.manager.ensures c.store-store.ensures.manager.reduced)
          (ids_apart cut FALSE c.if-eq.ensures) in
          ∣ (
            d,
            g,
            pooled,
            gk,
            c.requires.set,
            off_set d g h k k gh hk (grows_none k) pooled order numbers c.args.c upper cut c.requires.set part is,
            (
              some.0,
              whole_narrowed d g h k k gh hk (grows_none k) pooled order numbers c.args.c upper cut c.requires.set part
                  is some.0 (some.1, some.2) valid,
            ),
          ) ∣₁);
    }

pub returns-in_err-pair-clause-grows : goal.returns-in_err-pair-clause-grows
returns-in_err-pair-clause-grows c =
    grows_then c.args.game.now c.and.new.self c.pair_with.new.game
    (grows_then c.args.game.now c.upper.new.game c.and.new.self c.upper.ensures.grows c.and.ensures.grows)
    c.pair_with.ensures.grows

pub returns-clause-grows : goal.returns-clause-grows
returns-clause-grows c =
    grows_then c.args.game.now c.and.new.self c.pair_with.new.game
    (grows_then c.args.game.now c.upper.new.game c.and.new.self c.upper.ensures.grows c.and.ensures.grows)
    c.pair_with.ensures.grows

pub returns-clause-split : goal.returns-clause-split
returns-clause-split c = λ d pooled.
    let g = c.args.game.now in
    let h = c.upper.new.game in
    let k = c.and.new.self in
    let upper = c.in_ok-upper.upper in
    let cut = c.in_ok-cut.cut in
    let numbers = c.args.self.now.tracked.items in
    let gh = c.upper.ensures.grows in
    let hk = c.and.ensures.grows in
    let order = c.order-order.ensures.places in
    let is = subst (λ (x : NodeId). IsFunction k.diagrams.table cut
    (λ v. means k.diagrams.table upper v && means k.diagrams.table x v)) c.complement.ensures.value
    c.in_ok-cut.ensures.answer in
    let part = c.in_ok-upper.ensures.part d pooled in
    let valid = subst (λ (id : NodeId). IsStates d g.order g.diagrams.table (λ s. Unit {0}) id)
    c.valid-valid.ensures.value (c.valid-valid.ensures.states d pooled.of) in
    let some = some_left d g h k k gh hk (grows_none k) pooled order numbers c.args.c upper cut c.requires.set part is
    (subst (λ (m : Diagrams). IsReduced m.table) c.manager.ensures c.store-store.ensures.manager.reduced)
    (ids_apart cut FALSE c.if-eq.ensures) in
    c.in_ok-pair.ensures.pair d g pooled (grows_then g h k gh hk) c.requires.set
    (off_set d g h k k gh hk (grows_none k) pooled order numbers c.args.c upper cut c.requires.set part is) (
      some.0,
      whole_narrowed d g h k k gh hk (grows_none k) pooled order numbers c.args.c upper cut c.requires.set part
          is some.0 (some.1, some.2) valid,
    )
