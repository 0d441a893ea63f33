use Rattle.tm_syntax.specs.Design.View.{design_tree}
use Rattle.tm_flat_states.proofs.TaskParameters.{more_narrow, more_widths}
use Rattle.tm_flat_states.proofs.marker.Marker.parameters.Goals as goal

pub loop-number-preserved : goal.loop-number-preserved
loop-number-preserved c = record {
  widths = more_widths (design_tree c.args.self.now.design.now) c.loop-number.number c.loop-number.all.items
      c.push.new.self.items c.in_ok-widths.widths c.loop-number.invariant.widths c.in_ok-widths.ensures.widths
      c.in_ok-push.ensures.items;
  narrow = more_narrow c.loop-number.all.items c.push.new.self.items c.in_ok-widths.widths
      c.loop-number.invariant.narrow
      c.in_ok-widths.ensures.narrow c.in_ok-push.ensures.items;
}
