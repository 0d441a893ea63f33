use Rattle.std.proofs.Common.{◌≡◌, Some, None, sym, ◌∙◌}
use Rattle.tm_flat_moves.proofs.Lists.{get_within}
use Rattle.tm_flat_moves.proofs.mover.Mover.variable.Goals as goal

pub returns : goal.returns
returns c = sym c.variable.ensures ∙ c.in-Some.is

pub unreachable-requires : goal.unreachable-requires
unreachable-requires c =
    let here = get_within c.args.memory.now.values c.args.number c.requires in
    let both : None ≡ Some here.0 = sym c.in-None.is ∙ c.variable.ensures ∙ here.1 in
    cc
