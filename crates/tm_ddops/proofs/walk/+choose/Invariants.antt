use Rattle.std.proofs.Common.{◌-◌}
use Rattle.tm_ddops.specs.Choice.{choice_depth}
use Rattle.tm_ddops.proofs.walk.+choose.Given as goal

abbrev pub decreases-choose : goal.decreases-choose
decreases-choose g l = l.store.now.levels - choice_depth l.store.now l.choice
