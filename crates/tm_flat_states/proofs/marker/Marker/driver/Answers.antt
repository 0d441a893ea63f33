use Rattle.std.proofs.Common.{◌+◌, length, refl}
use Rattle.std.specs.Prelude.{slice_index}
use Rattle.std.specs.List.{list_any, range_with_len}
use Rattle.tm_syntax.specs.Design.Locations.{is_magic_at}
use Rattle.tm_syntax.specs.Design.View.{design_tree}
use Rattle.tm_flat_states.proofs.ActorTerms.{driver_told}
use Rattle.tm_flat_states.proofs.marker.Marker.driver.Goals as goal

pub returns : goal.returns
returns c =
    let d = design_tree c.args.self.now.design.now in
    driver_told c.args.terms.now c.turn.new.terms c.moved_or_idle.new.terms d 1 c.in_ok-turn.turn c.in_ok-id.id
    (λ u v. list_any (λ p. is_magic_at d p (slice_index v (length d.vars + p))) (range_with_len 0 (length d.processes)))
    c.in_ok-turn.ensures c.in_ok-id.ensures c.requires.markable.small c.requires.inputs refl (λ u v. refl)
