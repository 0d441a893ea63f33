use Rattle.std.proofs.Common.{sym, subst, arith}
use Rattle.tm_judge.proofs.Numbers.{few_conditions}
use Rattle.tm_refine.specs.Pooled.{CanDecide}
use Rattle.tm_syntax.specs.Design.View.{design_tree}
use Rattle.tm_syntax.proofs.Limits as limits
use Rattle.tm_synth.proofs.Games.{can_decide, game_decided}
use Rattle.tm_synth.proofs.synthesis.decided.Goals as goal

pub new-requires-clause-goals : goal.new-requires-clause-goals
new-requires-clause-goals c =
    omega (arith, c.in-Ok.ensures.goals, limits.few_goals (design_tree c.args.design.now) c.requires.sound)

pub new-requires-clause-fairs : goal.new-requires-clause-fairs
new-requires-clause-fairs c =
    omega (arith, c.in-Ok.ensures.fairs, few_conditions (design_tree c.args.design.now) c.requires.sound)

pub new-requires-2 : goal.new-requires-2
new-requires-2 c =
    let d = design_tree c.args.design.now in
    record {
      can = (
        d,
        can_decide d c.args.order.now c.in-Ok.game c.new.result.game c.new.ensures.game c.in-Ok.ensures
            (c.new.ensures.exact d c.in-Ok.ensures.of) c.requires.regular c.requires.sound.numbered,
      );
    }

pub decide-requires : goal.decide-requires
decide-requires c =
    let d = design_tree c.args.design.now in
    record {
      of = (
        d,
        subst (CanDecide d) (sym c.new-2.ensures.game)
            (can_decide d c.args.order.now c.in-Ok.game c.new.result.game c.new.ensures.game c.in-Ok.ensures
            (c.new.ensures.exact d c.in-Ok.ensures.of) c.requires.regular c.requires.sound.numbered),
      );
    }

pub returns-in-Ok-decide : goal.returns-in-Ok-decide
returns-in-Ok-decide c =
    let d = design_tree c.args.design.now in
    let made = c.new.ensures.exact d c.in-Ok.ensures.of in
    let before = subst (CanDecide d) (sym c.new-2.ensures.game)
    (can_decide d c.args.order.now c.in-Ok.game c.new.result.game c.new.ensures.game c.in-Ok.ensures made
    c.requires.regular c.requires.sound.numbered) in
    game_decided d c.args.budget c.args.order.now c.in-Ok.game c.new.result.game
    c.decide.new.sided.arena.exact.game c.game_of.result c.in-Ok-decide.decision c.new.ensures.game c.in-Ok.ensures
    made (c.decide.ensures.designs d before) (c.in-Ok-decide.ensures.decided d before) c.in-Ok-decide.ensures.within
    c.in-Ok-decide.ensures.known
    c.game_of.ensures
