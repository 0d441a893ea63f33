use Rattle.std.proofs.Common.{◌∙◌}
use Rattle.tm_strat.proofs.Carrying.{grown}
use Rattle.tm_strat.proofs.Made.{move_made, served_of}
use Rattle.tm_strat.proofs.making.goal_move.Goals as goal

pub returns-clause-made : goal.returns-clause-made
returns-clause-made c = λ d region ranks j shapes blocks is good given.
    let to_h = grown c.args.game.now c.candidate_states.new.game c.candidate_states.ensures.grows in
    move_made d c.args.game.now c.candidate_states.new.game is to_h region ranks j shapes blocks c.args.good.now _ good
    (c.in_ok-pairs.ensures.items ∙ c.deref-2.ensures.value) Rattle.std.proofs.Common.refl
    (served_of d c.args.game.now c.candidate_states.new.game region ranks j shapes blocks c.args.good.now good is
    c.args.given.now given c.deref.result.now c.deref.ensures.value c.in_ok-candidates.candidates.items
    (c.in_ok-candidates.ensures.served d good.zones good.targets shapes blocks))
