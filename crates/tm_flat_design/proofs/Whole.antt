-- A design with its tables may be made guarded updates.
use Rattle.std.proofs.Common.{◌≡◌, List, length, sym, subst}
use Rattle.tm_syntax.specs.declared.design.Design.{Design}
use Rattle.tm_syntax.specs.Design.View.{design_tree}
use Rattle.tm_syntax.specs.Faults.{IsOfText, IsSound}
use Rattle.tm_locations.specs.declared.table.Locations.{Locations}
use Rattle.tm_plain.specs.Machine.{AreLocated, IsRunnable}
use Rattle.tm_flat_states.specs.Markable.{IsMarkable}
use Rattle.tm_flat_design.specs.Making.{MayUpdate}
use Rattle.tm_flat_design.specs.declared.updater.Updater.{Updater}

-- an updater of the tables of a design
pub may_update : ((d : Design) → IsSound (design_tree d) → IsOfText (design_tree d).spec → IsMarkable d) →
    (u : Updater) (d : Design) (all : List Locations) → u.design.now ≡ d → u.locations.now ≡ all → IsRunnable d →
    AreLocated d (length d.processes.items) all → MayUpdate u
may_update law u d all design locations runnable located = record {
  runnable = subst IsRunnable (sym design) runnable;
  located = subst (λ (k : Design). AreLocated k (length k.processes.items) u.locations.now) (sym design)
      (subst (AreLocated d (length d.processes.items)) (sym locations) located);
  few = (subst IsMarkable (sym design) (law d runnable.sound runnable.read)).few;
}
