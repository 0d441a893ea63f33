use Rattle.std.proofs.Common.{sym, subst}
use Rattle.tm_game.specs.Game.{GameData}
use Rattle.tm_strat_drafts.specs.Growth.{Carried}
use Rattle.tm_strat.proofs.making.make_drafts.Goals as goal

pub returns : goal.returns
returns c = record {
  good = c.in-Ok.ensures.good;
  grows = subst (λ (g : GameData). Carried c.args.choosing.game g) (sym c.game_of-game.ensures)
      c.drafted_blocks.ensures.grows;
  later = c.in-Ok.ensures.later;
}
