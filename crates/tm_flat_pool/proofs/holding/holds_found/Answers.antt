use Rattle.std.proofs.Common.{◌≡◌, None, Some, sym, ◌∙◌}
use Rattle.tm_flat_states.proofs.StatedTerms.{one_found}
use Rattle.tm_flat_pool.specs.Inner.Holding.{body_of}
use Rattle.tm_flat_pool.proofs.holding.holds_found.Goals as goal

pub holds_by-requires : goal.holds_by-requires
holds_by-requires c = (
  c.requires.0,
  c.requires.1,
  one_found c.args.found.now c.in-Some.reader (body_of c.requires.0 c.requires.1) c.in-Some.is c.requires.2,
  c.requires.3,
  c.requires.4,
  c.requires.5,
)

pub unreachable-requires : goal.unreachable-requires
unreachable-requires c =
    let both : None ≡ Some (body_of c.requires.0 c.requires.1) = sym c.in-None.is ∙ c.requires.2 in cc

pub returns : goal.returns
returns c = λ d at found has.
    c.in_ok-id-in-Some.ensures d at
    (one_found c.args.found.now c.in-Some.reader (body_of d at) c.in-Some.is found) has
