use Rattle.std.proofs.Common.{ℕ, List, subst}
use Rattle.std.specs.Prelude.{All}
use Rattle.tm_dd.specs.declared.node.NodeId.{NodeId}
use Rattle.tm_dd.specs.Table.{Knows, means}
use Rattle.tm_ddops.specs.Manager.{IsFunction}
use Rattle.tm_ddops.specs.Operation.{substituted}
use Rattle.tm_strat.proofs.Carrying.{grown}
use Rattle.tm_strat.proofs.Serving as serving
use Rattle.tm_strat.proofs.reading.served.Goals as goal

pub returns-clause-served : goal.returns-clause-served
returns-clause-served c = λ d zones targets shapes b one.
    serving.served d c.args.game.now c.placed.new.game c.both.new.game
    (grown c.args.game.now c.placed.new.game c.placed.ensures.grows)
    (grown c.placed.new.game c.both.new.game c.both.ensures.grows) zones targets shapes b c.args.good c.args.one.now one
    c.in_ok-there.there c.in_ok-fitting.fitting
    (subst (λ (l : List (ℕ × NodeId)). Knows c.args.game.now.diagrams.table c.args.good →
    All (λ (p : ℕ × NodeId). Knows c.args.game.now.diagrams.table p.1) l →
    IsFunction c.placed.new.game.diagrams.table c.in_ok-there.there
    (λ v. means c.placed.new.game.diagrams.table c.args.good
    (substituted c.placed.new.game.diagrams.table l v))) c.deref.ensures.value c.in_ok-there.ensures.answer)
    c.in_ok-fitting.ensures.answer

pub returns-in_err-fitting-clause-grows : goal.returns-in_err-fitting-clause-grows
returns-in_err-fitting-clause-grows c = λ base b. c.both.ensures.grows base (c.placed.ensures.grows base b)

pub returns-clause-grows : goal.returns-clause-grows
returns-clause-grows c = λ base b. c.both.ensures.grows base (c.placed.ensures.grows base b)
