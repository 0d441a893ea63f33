use Rattle.std.proofs.Common.{◌+◌, length}
use Rattle.std.specs.Prelude.{slice_index}
use Rattle.tm_syntax.specs.Design.Locations.{is_magic_at}
use Rattle.tm_syntax.specs.Design.View.{design_tree}
use Rattle.tm_flat_exprs.proofs.Later.{or_made, truth_along}
use Rattle.tm_flat_states.proofs.marker.Marker.or_at_magic.Goals as goal

pub either-requires-clause-first : goal.either-requires-clause-first
either-requires-clause-first c =
    truth_along c.args.terms.now c.stands_at_magic.new.terms c.args.before c.in_ok-here.ensures.grown c.requires.before

pub returns : goal.returns
returns c =
    let d = c.args.self.now.design.now in
    or_made c.args.terms.now c.stands_at_magic.new.terms c.either.new.terms c.args.before c.in_ok-here.here
    c.in_ok-id.id
    (λ u v. is_magic_at (design_tree d) c.args.process (slice_index v (length d.vars.items + c.args.process)))
    c.in_ok-here.ensures c.in_ok-id.ensures
