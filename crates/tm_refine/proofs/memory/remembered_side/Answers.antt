use Rattle.std.proofs.lemmas.Result.{IfOk-weaker}
use Rattle.tm_refine.proofs.Memories.{part_before}
use Rattle.tm_refine.proofs.PoolKeeps.{keeps_then}
use Rattle.tm_refine.proofs.memory.remembered_side.Goals as goal

pub part-requires : goal.part-requires
part-requires c =
    let kept = c.turn_to.ensures.kept in
    record {
      can = kept.can;
      set = kept.follows.extends.known c.args.set c.requires.set;
      over = (c.args.tracked.now, c.args.upper, c.in_ok-turn_to.ensures.over);
      remembers = c.turn_to.ensures.remembers;
    }

pub returns-clause-value : goal.returns-clause-value
returns-clause-value c =
    IfOk-weaker c.part.result _ _
    (λ id told.
    part_before c.args.game.now c.turn_to.new.game c.turn_to.ensures.kept c.part.new.game c.args.tracked.now
    c.args.upper c.args.set id c.requires.set (told c.args.tracked.now c.args.upper c.in_ok-turn_to.ensures.over))
    c.part.ensures.value

pub returns-clause-kept : goal.returns-clause-kept
returns-clause-kept c =
    keeps_then c.args.game.now c.turn_to.new.game c.part.new.game c.turn_to.ensures.kept c.part.ensures.kept
