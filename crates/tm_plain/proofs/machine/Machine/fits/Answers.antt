use Rattle.std.proofs.Common.{sym, subst}
use Rattle.tm_syntax.specs.Design.View.{design_tree}
use Rattle.tm_states.specs.States.{HaveLocations}
use Rattle.tm_states.proofs.StateLaws.{sized}
use Rattle.tm_plain.proofs.Along.{have_locations}
use Rattle.tm_plain.proofs.machine.Machine.fits.Goals as goal

pub fits-requires : goal.fits-requires
fits-requires c =
    let m = c.self.inside in
    let sound = c.self.invariant.1.sound in
    record {
      text = c.self.invariant.3;
      sized = sized (design_tree m.design.now) sound.fitting sound.numbered;
      locations = subst (HaveLocations (design_tree m.design.now)) (sym c.as_slice.ensures.value)
          (have_locations m.design.now m.locations.items c.self.invariant.2);
    }
