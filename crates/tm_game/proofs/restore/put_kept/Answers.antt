use Rattle.std.proofs.Common.{ℕ, ◌+◌, ◌++◌, List, length, sym, ap, ◌∙◌, subst}
use Rattle.tm_dd.specs.declared.node.NodeId.{NodeId}
use Rattle.tm_ddops.specs.Copied.{MeanTheSame}
use Rattle.tm_game.specs.Inner.Restored.{StandAt}
use Rattle.tm_game.proofs.Restoring.{kept_put, stands_left, stands_right, stands_third}
use Rattle.tm_game.proofs.restore.put_kept.Goals as goal

pub returns : goal.returns
returns c = λ s t olds same stand.
    let third = stands_third olds c.args.at c.args.kept.now.initial c.args.kept.now.turn
    (c.args.kept.now.goals.items ++ c.args.kept.now.fairs.items) stand in
    let goals_stand = stands_left olds (c.args.at + 2) c.args.kept.now.goals.items c.args.kept.now.fairs.items third in
    let fairs_stand = stands_right olds (c.args.at + 2) c.args.kept.now.goals.items c.args.kept.now.fairs.items third in
    kept_put s t olds c.args.ids.now same c.args.at c.args.kept.now stand (record { 0 = 0 }) c.put_ids-behind.new.own
    c.put_ids.new.own
    (subst (λ (xs : List NodeId). MeanTheSame s xs t c.put_ids-behind.new.own) c.deref_mut.ensures.value
    (c.put_ids-behind.ensures.same s t olds same
    (subst (StandAt olds (c.args.at + 2)) (sym c.deref_mut.ensures.value) goals_stand)))
    (subst (λ (xs : List NodeId). MeanTheSame s xs t c.put_ids.new.own) c.deref_mut-2.ensures.value
    (c.put_ids.ensures.same s t olds same
    (subst (λ (n : ℕ). StandAt olds n c.deref_mut-2.result.now)
    (sym (c.put_ids-behind.ensures.at
    ∙ ap (λ (xs : List NodeId). c.args.at + 2 + length xs) c.deref_mut.ensures.value))
    (subst (StandAt olds (c.args.at + 2 + length c.args.kept.now.goals.items)) (sym c.deref_mut-2.ensures.value)
    fairs_stand))))
