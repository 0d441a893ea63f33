use Rattle.tm_inst.proofs.design.counted_parts.Goals as goal

pub with_few_atoms-requires-clause-order : goal.with_few_atoms-requires-clause-order
with_few_atoms-requires-clause-order c = record {
  order = c.args.calls.now;
  ordered = c.requires.ordered;
  covers = c.requires.covers;
  short = c.requires.short;
}
