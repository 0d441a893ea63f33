use Rattle.std.proofs.Common.{◌≡◌, ◌+◌, ◌*◌, take}
use Rattle.std.specs.List.{flat_map}
use Rattle.std.specs.Option.{option_copied}
use Rattle.tm_limits.proofs.LongNames.{stmt_names}
use Rattle.tm_limits.specs.LongNames.{first_long}
use Rattle.tm_limits.proofs.names.bodies.+names.Given as goal

abbrev pub invariant-row_long-loop-stmt : goal.invariant-row_long-loop-stmt
invariant-row_long-loop-stmt l =
    option_copied l.first
    ≡ first_long (flat_map (stmt_names l.sought) (take l.stmt-index l.stmts))

abbrev pub invariant-blocks_long-loop-block : goal.invariant-blocks_long-loop-block
invariant-blocks_long-loop-block l =
    option_copied l.first
    ≡ first_long (flat_map (λ b. flat_map (stmt_names l.sought) b.items) (take l.block-index l.blocks))

abbrev pub decreases-inner_long : goal.decreases-inner_long
decreases-inner_long l = 3 * goal.size-inner_long l

abbrev pub decreases-row_long : goal.decreases-row_long
decreases-row_long l = 3 * goal.size-row_long l + 1

abbrev pub decreases-blocks_long : goal.decreases-blocks_long
decreases-blocks_long l = 3 * goal.size-blocks_long l + 2
