use Rattle.std.proofs.Common.{refl}
use Rattle.tm_syntax.specs.Design.View.{design_tree}
use Rattle.tm_cir.specs.View.{trees_of}
use Rattle.tm_play.proofs.Putting.{cut_whole}
use Rattle.tm_commands.proofs.Halting.{halted_part}
use Rattle.tm_commands.proofs.commands.run.play_inputs.Goals as goal

pub end_of-requires-clause-halted : goal.end_of-requires-clause-halted
end_of-requires-clause-halted g c = (
  trees_of c.args.inputs.now.blocks,
  c.args.inputs.now.script,
  c.in-Ok.ensures.halted.0,
  c.in-Ok.ensures.halted.1,
)

pub returns-in-Ok-end_of-clause-ended : goal.returns-in-Ok-end_of-clause-ended
returns-in-Ok-end_of-clause-ended g c = (
  c.in-Ok-end_of.end,
  c.in-Ok.ensures.halted.0,
  refl,
  c.in-Ok-end_of.ensures (trees_of c.args.inputs.now.blocks) c.args.inputs.now.script c.in-Ok.ensures.halted.0
      c.in-Ok.ensures.halted.1,
  c.in-Ok.ensures.halted.2,
)

pub returns-in-Err-clause-cut : goal.returns-in-Err-clause-cut
returns-in-Err-clause-cut g c = (
  c.in-Ok.ensures.halted.0,
  halted_part (design_tree c.args.inputs.now.design) (trees_of c.args.inputs.now.blocks) c.args.inputs.now.script
      c.in-Ok.ensures.halted.0 c.in-Ok.halt c.in-Ok.ensures.halted.1,
  λ told. cut_whole (g.O.Sink.written c.args.out.now) (g.O.Sink.written c.play_script.new.out)
      c.in-Ok.ensures.halted.0 (c.in-Ok.ensures.halted.2 told),
)
