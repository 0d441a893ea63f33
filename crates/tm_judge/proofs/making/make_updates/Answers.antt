use Rattle.tm_judge.proofs.Startable.{can_start}
use Rattle.tm_judge.proofs.making.make_updates.Goals as goal

pub returns : goal.returns
returns c = record {
  start = can_start c.args.design.now c.requires.sound c.requires.of_text
      (c.sound_designs_of_texts_are_markable.ensures c.args.design.now c.requires.sound c.requires.of_text)
      _ c.in_ok-flat.flat c.in_ok-flat.ensures.flat c.in_ok-flat.ensures.pool;
  predicates = c.in_ok-flat.ensures.pool;
  first = c.in_ok-flat.ensures.first;
}
