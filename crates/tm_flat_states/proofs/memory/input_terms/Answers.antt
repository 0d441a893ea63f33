use Rattle.tm_flat_states.proofs.StatedTerms.{more_inputs}
use Rattle.tm_flat_states.proofs.memory.input_terms.Goals as goal

pub loop-index-preserved : goal.loop-index-preserved
loop-index-preserved c =
    more_inputs c.args.terms.now c.loop-index.terms c.mk.new.self c.loop-index.index c.loop-index.ids.items
    c.push.new.self.items c.in_ok-id.id c.loop-index.invariant c.in_ok-id.ensures.earlier c.in_ok-id.ensures.sound
    c.in_ok-id.ensures.term c.in_ok-push.ensures.items
