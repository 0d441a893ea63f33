use Rattle.std.proofs.Common.{take}
use Rattle.tm_sem.specs.StateBits.{downwards}
use Rattle.tm_flat_pool.specs.Inner.Bits.{PushesBits}
use Rattle.tm_flat_pool.proofs.bits.push_each.Given as goal

abbrev pub invariant-loop-passed : goal.invariant-loop-passed
invariant-loop-passed l =
    PushesBits l.index (take l.passed (downwards l.width)) l.fn.terms l.terms l.fn.ids.items l.ids.items
