use Rattle.std.proofs.Common.{rules}
use Rattle.tm_syntax.specs.Design.View.{design_tree}
use Rattle.tm_states.proofs.StateLaws.{sized}
use Rattle.test_text.proofs.states.begun.Goals as goal

pub first_state-requires : goal.first_state-requires
first_state-requires c = record {
  text = search rules;
  sized = sized (design_tree c.args.design.now) c.requires.fitting c.requires.numbered;
}
