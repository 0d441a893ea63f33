use Rattle.std.proofs.Common.{◌≡◌, ℕ, ◌+◌, length, sym, subst, arith}
use Rattle.std.proofs.lemmas.List.{length-map}
use Rattle.tm_dd.specs.Table.{means}
use Rattle.tm_flat.specs.Flat.{flat_terms, step_terms}
use Rattle.tm_game_bits.specs.Diagrams.{IsSetOf, game_of}
use Rattle.tm_game.specs.declared.moves.MoveShape.TheVariants as shapes
use Rattle.tm_game.specs.Game.{GameData, IsOf, IsSet, in_set}
use Rattle.tm_game.specs.Inner.Good.{HasGoodLeaveBelow}
use Rattle.tm_game.specs.Moves.{AreMoves}
use Rattle.tm_game.proofs.DriverMoves.{leave_moves_told, driver_long}
use Rattle.tm_game.proofs.Extending.{extended_only, grows_from}
use Rattle.tm_game.proofs.game.Game.leave_moves.Goals as goal
use Rattle.tm_syntax.specs.Design.{DesignTree}

pub good_leaves-requires-clause-game : goal.good_leaves-requires-clause-game
good_leaves-requires-clause-game c = c.self.invariant.steps.known

pub good_leaves-requires-clause-set : goal.good_leaves-requires-clause-set
good_leaves-requires-clause-set c = (subst (λ (g : GameData). IsSet g c.args.set) (sym c.self.view_is) c.requires).known

pub invariant_of-self : goal.invariant_of-self
invariant_of-self c = extended_only c.self.inside c.good_leaves.new.dd c.self.invariant c.good_leaves.ensures.extends

pub invariant_of-self-2 : goal.invariant_of-self-2
invariant_of-self-2 c = extended_only c.self.inside c.good_leaves.new.dd c.self.invariant c.good_leaves.ensures.extends

pub returns-in_err-moves-clause-grows : goal.returns-in_err-moves-clause-grows
returns-in_err-moves-clause-grows c =
    grows_from c.self.inside _ c.self.view_is c.good_leaves.new.dd c.self.inside.recent c.good_leaves.ensures.extends

pub returns-clause-grows : goal.returns-clause-grows
returns-clause-grows c =
    grows_from c.self.inside _ c.self.view_is c.good_leaves.new.dd c.self.inside.recent c.good_leaves.ensures.extends

pub returns-clause-answer : goal.returns-clause-answer
returns-clause-answer c =
    let count : c.len-first.result ≡ length (flat_terms c.self.inside.flat).tasks =
    omega (arith, length-map c.self.inside.flat.tasks.items step_terms, c.self.inside.flat.tasks.ok.0) in
    subst (λ (g : GameData). (d : DesignTree) → IsOf d g → AreMoves d g.order c.good_leaves.new.dd.table
    (shapes.Leave c.args.process) (in_set d g c.args.set) c.in_ok-moves.moves) c.self.view_is
    (λ d of.
    leave_moves_told c.self.inside c.self.invariant d of c.args.set
    (subst (λ (g : GameData). IsSet g c.args.set) (sym c.self.view_is) c.requires).reads c.good_leaves.new.dd.table
    c.in_ok-moves.moves c.args.process
    (subst (λ (n : ℕ). IsSetOf c.good_leaves.new.dd.table
    (HasGoodLeaveBelow (game_of c.self.inside.dd.table c.self.inside.made.steps)
    (means c.self.inside.dd.table c.args.set) c.self.inside.made.movers.items (n + 1) c.args.process
    (length c.self.inside.made.movers.items)) c.in_ok-moves.moves) count c.in_ok-moves.ensures.answer))

pub good_leaves-requires-clause-steps : goal.good_leaves-requires-clause-steps
good_leaves-requires-clause-steps c =
    omega (
      arith,
      driver_long c.self.inside c.self.invariant,
      length-map c.self.inside.flat.tasks.items step_terms,
      c.self.inside.flat.tasks.ok.0,
    )
