use Rattle.std.proofs.Common.{◌&&◌, IfOk, subst}
use Rattle.std.proofs.Math.Logic.{∥∥₁_elim}
use Rattle.std.proofs.Props.{props}
use Rattle.tm_dd.specs.declared.node.NodeId.{NodeId}
use Rattle.tm_dd.specs.Table.{means}
use Rattle.tm_ddops.specs.Manager.{IsFunction}
use Rattle.tm_game.specs.Game.{IsStates}
use Rattle.tm_abs.proofs.cells.valid_part.Goals as goal

pub and-requires : goal.and-requires
and-requires c = record {
  f = ∥∥₁_elim c.requires.pool (hlevel props) (λ x. (c.valid-valid.ensures.states x.0 x.1.of).known);
  g = c.requires.set.known;
}

pub returns-clause-valid : goal.returns-clause-valid
returns-clause-valid c = λ d of.
    let g = c.args.game.now in
    subst (λ (id : NodeId). IsStates d g.order g.diagrams.table (λ s. Unit {0}) id) c.valid-valid.ensures.value
    (c.valid-valid.ensures.states d of)

pub returns-clause-part : goal.returns-clause-part
returns-clause-part c =
    let u = c.and.new.self.diagrams.table in
    subst (λ (valid : NodeId). IfOk c.and.result
    (λ id. IsFunction u id (λ v. means u valid v && means u c.args.set v))) c.valid-valid.ensures.value
    c.and.ensures.answer
