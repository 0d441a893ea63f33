use Rattle.std.proofs.Common.{◌≡◌, ◌⊎◌, true, subst}
use Rattle.tm_dd.specs.Table.{means}
use Rattle.tm_dd.proofs.CallerLaws.{Extends-refl, Extends-trans}
use Rattle.tm_game_bits.specs.Diagrams.{IsSetOf, game_of}
use Rattle.tm_game_bits.specs.Functions.{GameFunctions}
use Rattle.tm_game_bits.proofs.Extended.{KnowsGame-Extends, game_of-Extends}
use Rattle.tm_game.specs.Inner.Permitted.{IsPermittedLeave}
use Rattle.tm_game.proofs.PermittedMoves.{leaves_more, leaves_none}
use Rattle.tm_game.proofs.permitted.permitted_leaves.Goals as goal

pub loop-index-init : goal.loop-index-init
loop-index-init c = record {
  extends = Extends-refl c.args.dd.now.table;
  set = leaves_none c.args.dd.now.table (game_of c.args.dd.now.table c.args.made.now.steps)
      c.args.made.now.movers.items c.args.first c.args.process;
}

pub permitted_leave-requires-clause-game : goal.permitted_leave-requires-clause-game
permitted_leave-requires-clause-game c = KnowsGame-Extends _ _ c.loop-index.invariant.extends _ c.requires.game

pub permitted_leave-requires-clause-other : goal.permitted_leave-requires-clause-other
permitted_leave-requires-clause-other c = c.loop-index.invariant.set.known

pub returns-in_err-permitted-clause-extends : goal.returns-in_err-permitted-clause-extends
returns-in_err-permitted-clause-extends c =
    Extends-trans _ _ _ c.loop-index.invariant.extends c.permitted_leave.ensures.extends

pub loop-index-preserved : goal.loop-index-preserved
loop-index-preserved c =
    let game = game_of-Extends c.args.dd.now.table c.loop-index.dd.table c.loop-index.invariant.extends
    c.args.made.now.steps c.requires.game in
    let is = subst (λ (g : GameFunctions). IsSetOf c.permitted_leave.new.dd.table (λ v.
    (means c.loop-index.dd.table c.loop-index.permitted v ≡ true)
    ⊎ IsPermittedLeave g c.args.made.now.movers.items c.args.first c.args.process c.loop-index.index v)
    c.in_ok-permitted.permitted) game c.in_ok-permitted.ensures.answer in
    record {
      extends = Extends-trans _ _ _ c.loop-index.invariant.extends c.permitted_leave.ensures.extends;
      set = leaves_more c.loop-index.dd.table c.permitted_leave.new.dd.table
          (game_of c.args.dd.now.table c.args.made.now.steps) c.args.made.now.movers.items c.args.first c.args.process
          c.loop-index.index c.loop-index.permitted c.in_ok-permitted.permitted c.loop-index.invariant.set is;
    }
