use Rattle.std.proofs.Common.{true, false, refl, sym}
use Rattle.tm_ddops.proofs.Choices.{cofactor-constant}
use Rattle.tm_ddops.proofs.choice.cofactors.Goals as goal

pub returns-then-is_constant-clause-low : goal.returns-then-is_constant-clause-low
returns-then-is_constant-clause-low c =
    sym (cofactor-constant c.args.store.now c.requires.reduced c.args.f c.args.level false
    (c.if-is_constant.ensures.0 refl) c.requires.below)

pub returns-then-is_constant-clause-high : goal.returns-then-is_constant-clause-high
returns-then-is_constant-clause-high c =
    sym (cofactor-constant c.args.store.now c.requires.reduced c.args.f c.args.level true
    (c.if-is_constant.ensures.0 refl) c.requires.below)
