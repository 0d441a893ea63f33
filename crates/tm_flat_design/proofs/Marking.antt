-- What the tables of a design are asked for so that the terms can be made of what it says of states.
use Rattle.std.proofs.Common.{◌≡◌, List, length, sym, subst}
use Rattle.tm_syntax.specs.declared.design.Design.{Design}
use Rattle.tm_syntax.specs.Design.View.{design_tree}
use Rattle.tm_syntax.specs.Faults.{IsOfText, IsSound}
use Rattle.tm_locations.specs.declared.table.Locations.{Locations}
use Rattle.tm_states.specs.States.{HaveLocations}
use Rattle.tm_plain.specs.Machine.{AreLocated, IsRunnable}
use Rattle.tm_plain.proofs.Along.{have_locations}
use Rattle.tm_flat_states.specs.Markable.{IsMarkable}
use Rattle.tm_flat_states.specs.declared.marker.Marker.{Marker}

-- a marker of the tables of a design has the locations of its processes
pub located_by : (m : Marker) (d : Design) (all : List Locations) → m.design.now ≡ d → m.locations.now ≡ all →
    AreLocated d (length d.processes.items) all → HaveLocations (design_tree m.design.now) m.locations.now
located_by m d all design locations located =
    subst (λ (k : Design). HaveLocations (design_tree k) m.locations.now) (sym design)
    (subst (HaveLocations (design_tree d)) (sym locations) (have_locations d all located))

-- so is what is said of sound designs of texts
pub markable_by : ((d : Design) → IsSound (design_tree d) → IsOfText (design_tree d).spec → IsMarkable d) →
    (m : Marker) (d : Design) → m.design.now ≡ d → IsRunnable d → IsMarkable m.design.now
markable_by law m d design runnable = subst IsMarkable (sym design) (law d runnable.sound runnable.read)
