use Rattle.std.proofs.Common.{◌≡◌, ◌⊎◌, true, subst}
use Rattle.tm_dd.specs.Table.{means}
use Rattle.tm_dd.proofs.CallerLaws.{Extends-refl, Extends-trans}
use Rattle.tm_game_bits.specs.Diagrams.{IsSetOf, game_of}
use Rattle.tm_game_bits.specs.Functions.{Function, GameFunctions}
use Rattle.tm_game_bits.proofs.Extended.{KnowsGame-Extends, Knows-Extends, game_of-Extends, means-Extends}
use Rattle.tm_game.specs.Inner.Good.{IsGoodLeave}
use Rattle.tm_game.proofs.GoodMoves.{leaves_more, leaves_none}
use Rattle.tm_game.proofs.moves.good_leaves.Goals as goal

pub loop-index-init : goal.loop-index-init
loop-index-init c = record {
  extends = Extends-refl c.args.dd.now.table;
  set = leaves_none c.args.dd.now.table (game_of c.args.dd.now.table c.args.made.now.steps)
      (means c.args.dd.now.table c.args.set) c.args.made.now.movers.items c.args.first c.args.process;
}

pub good_leave-requires-clause-game : goal.good_leave-requires-clause-game
good_leave-requires-clause-game c = KnowsGame-Extends _ _ c.loop-index.invariant.extends _ c.requires.game

pub good_leave-requires-clause-set : goal.good_leave-requires-clause-set
good_leave-requires-clause-set c = Knows-Extends _ _ c.loop-index.invariant.extends _ c.requires.set

pub good_leave-requires-clause-other : goal.good_leave-requires-clause-other
good_leave-requires-clause-other c = c.loop-index.invariant.set.known

pub returns-in_err-good-clause-extends : goal.returns-in_err-good-clause-extends
returns-in_err-good-clause-extends c =
    Extends-trans _ _ _ c.loop-index.invariant.extends c.good_leave.ensures.extends

pub loop-index-preserved : goal.loop-index-preserved
loop-index-preserved c =
    let game = game_of-Extends c.args.dd.now.table c.loop-index.dd.table c.loop-index.invariant.extends
    c.args.made.now.steps c.requires.game in
    let within = means-Extends c.args.dd.now.table c.loop-index.dd.table c.loop-index.invariant.extends c.args.set
    c.requires.set in
    let is = subst (λ (w : Function). IsSetOf c.good_leave.new.dd.table (λ v.
    (means c.loop-index.dd.table c.loop-index.good v ≡ true)
    ⊎ IsGoodLeave (game_of c.args.dd.now.table c.args.made.now.steps) w c.args.made.now.movers.items c.args.first
    c.args.process c.loop-index.index v) c.in_ok-good.good) within
    (subst (λ (g : GameFunctions). IsSetOf c.good_leave.new.dd.table (λ v.
    (means c.loop-index.dd.table c.loop-index.good v ≡ true)
    ⊎ IsGoodLeave g (means c.loop-index.dd.table c.args.set) c.args.made.now.movers.items c.args.first
    c.args.process c.loop-index.index v) c.in_ok-good.good) game c.in_ok-good.ensures.answer) in
    record {
      extends = Extends-trans _ _ _ c.loop-index.invariant.extends c.good_leave.ensures.extends;
      set = leaves_more c.loop-index.dd.table c.good_leave.new.dd.table
          (game_of c.args.dd.now.table c.args.made.now.steps) (means c.args.dd.now.table c.args.set)
          c.args.made.now.movers.items c.args.first c.args.process c.loop-index.index c.loop-index.good
          c.in_ok-good.good c.loop-index.invariant.set is;
    }
