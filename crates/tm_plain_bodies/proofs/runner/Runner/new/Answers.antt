use Rattle.std.proofs.Common.{◌∙◌}
use Rattle.tm_plain_bodies.proofs.runner.Runner.new.Goals as goal

pub invariant_of-result : goal.invariant_of-result
invariant_of-result c = (
  c.requires.text,
  c.in_ok-cells.ensures ∙ (λ i. record {
    spec = c.args.design.now.spec;
    instances = c.as_slice.ensures.value i;
    vars = c.as_slice-2.ensures.value i;
  }),
  c.new-sites.ensures ∙ (λ i. record { spec = c.requires.text i; instances = c.as_slice-3.ensures.value i }),
  record {
    sound = c.requires.sound;
    read = c.requires.read;
    ordered = c.requires.ordered;
    covers = c.requires.covers;
    short = c.requires.short;
  },
)
