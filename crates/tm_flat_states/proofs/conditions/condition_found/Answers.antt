use Rattle.std.proofs.Common.{◌≡◌, None, Some, sym, ◌∙◌}
use Rattle.tm_flat_states.specs.Markable.{outside_of}
use Rattle.tm_flat_states.proofs.StatedTerms.{one_found}
use Rattle.tm_flat_states.proofs.conditions.condition_found.Goals as goal

pub condition_by-requires : goal.condition_by-requires
condition_by-requires c = (
  c.requires.0,
  c.requires.1,
  one_found c.args.found.now c.in-Some.reader (outside_of c.requires.0 c.requires.1) c.in-Some.is c.requires.2,
  c.requires.3,
  c.requires.4,
  c.requires.5,
)

pub unreachable-requires : goal.unreachable-requires
unreachable-requires c =
    let both : None ≡ Some (outside_of c.requires.0 c.requires.1) = sym c.in-None.is ∙ c.requires.2 in cc

pub returns : goal.returns
returns c = λ d n found has.
    c.in_ok-id-in-Some.ensures d n
    (one_found c.args.found.now c.in-Some.reader (outside_of d n) c.in-Some.is found) has
