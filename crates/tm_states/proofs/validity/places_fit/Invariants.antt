-- The locations and tables go along where those that are left do.
use Rattle.std.proofs.Common.{◌≤◌, drop}
use Rattle.std.specs.List.{AllZip}
use Rattle.tm_locations.specs.declared.table.Locations.{Locations}
use Rattle.tm_states.specs.States.{end_of}
use Rattle.tm_states.proofs.validity.places_fit.Given as goal

abbrev pub invariant-loop-process : goal.invariant-loop-process
invariant-loop-process l = record {
  whole : AllZip (λ (t : Locations) k. k ≤ end_of t) (drop l.process l.locations) (drop l.process l.places) →
      AllZip (λ (t : Locations) k. k ≤ end_of t) l.locations l.places;
  left : AllZip (λ (t : Locations) k. k ≤ end_of t) l.locations l.places →
      AllZip (λ (t : Locations) k. k ≤ end_of t) (drop l.process l.locations) (drop l.process l.places);
}
