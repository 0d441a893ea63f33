use Rattle.std.proofs.Common.{◌+◌, ◌-◌, ◌*◌}
use Rattle.tm_struct_parse.proofs.action.+reading.Given as goal

abbrev pub decreases-branches : goal.decreases-branches
decreases-branches l = (128 - l.open_ifs) * 4 + 4

abbrev pub decreases-block : goal.decreases-block
decreases-block l = (128 - l.open_ifs) * 4 + 3

abbrev pub decreases-action : goal.decreases-action
decreases-action l = (128 - l.open_ifs) * 4 + 2

abbrev pub decreases-test : goal.decreases-test
decreases-test l = (128 - l.open_ifs) * 4 + 1
