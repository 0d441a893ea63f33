use Rattle.std.proofs.Common.{None, Some, sym, ap, ◌∙◌}
use Rattle.std.specs.Prelude.{if◌then◌else◌}
use Rattle.tm_flat_states.proofs.actors.magic_truth.Goals as goal

pub returns-then-is_magic : goal.returns-then-is_magic
returns-then-is_magic c = λ d p are.
    ap (λ b. if b then Some c.args.always else None) (sym c.if-is_magic.true ∙ c.is_magic.ensures d p are)

pub returns : goal.returns
returns c = λ d p are.
    ap (λ b. if b then Some c.args.always else None) (sym c.if-is_magic.false ∙ c.is_magic.ensures d p are)
