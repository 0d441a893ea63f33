use Rattle.std.proofs.Common.{sym, ◌∙◌}
use Rattle.tm_ddops.specs.Parts.{same_parts}
use Rattle.tm_ddops.proofs.plans.are_parts.Goals as goal

pub returns : goal.returns
returns c h = same_parts c.args.one.now c.args.other.now (sym c.eq.ensures ∙ h)
