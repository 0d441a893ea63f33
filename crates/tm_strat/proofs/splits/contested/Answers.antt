use Rattle.std.proofs.Common.{sym, subst}
use Rattle.tm_game.specs.Game.{GameData, Grows}
use Rattle.tm_strat.proofs.splits.contested.Goals as goal
use Rattle.tm_strat.proofs.splits.contested.Goals.{else-sharing-test, then-sharing-test+in_ok-share+then-eq}

pub returns : goal.returns
returns c = λ base b.
    c.rest-2.ensures.grows base
    (elim c.sharing-test.branch [
      | else-sharing-test w ↦
          subst (λ (g : GameData). Grows base g) (sym w.game-is) (c.sharing.invariant base b)
      | then-sharing-test+in_ok-share+then-eq w ↦
          subst (λ (g : GameData). Grows base g) (sym w.game-is)
          (w.largest.ensures base (c.sharing.invariant base b))
    ])
