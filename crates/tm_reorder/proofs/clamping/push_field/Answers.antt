use Rattle.std.proofs.Common.{length, refl}
use Rattle.std.proofs.lemmas.Result.{IfOk-weaker}
use Rattle.tm_reorder.specs.Inner.Clamped.{IsWithin, by_place}
use Rattle.tm_reorder.proofs.ClampedBits.{pushed_such}
use Rattle.tm_reorder.proofs.clamping.push_field.Goals as goal

pub returns-then-whole-clause-pushed : goal.returns-then-whole-clause-pushed
returns-then-whole-clause-pushed c =
    IfOk-weaker c.push_levels.result _ _
    (λ done are. pushed_such c.args.dd.now.table c.push_levels.new.dd.table c.args.levels.now c.args.field.width
    c.args.field.width
    (λ v. IsWithin c.args.field (by_place c.args.levels.now v) (length c.args.bits.now.items)) c.args.bits.now.items
    c.push_levels.new.bits.items refl are)
    c.push_levels.ensures.pushed
