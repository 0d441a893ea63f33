use Rattle.std.proofs.Common.{◌+◌, ap, ◌∙◌}
use Rattle.std.specs.Prelude.{Bool, if◌then◌else◌}
use Rattle.tm_flat_moves.proofs.rests.mover_number.Goals as goal

pub returns : goal.returns
returns c = λ d p are.
    c.number_of.ensures
    ∙ ap (λ (b : Bool). if b then 1 else 2 + c.args.process) (c.is_magic-magic.ensures d p are)
