-- Sets of states and the cells of predicates.
use Rattle.std.proofs.Common.{◌≡◌, Bool, List, ◌++◌, [], ◌∷◌, refl, sym, ◌∙◌}
use Rattle.std.proofs.lemmas.List.Elements.{All-nil, All-cons, All-head, All-tail}
use Rattle.tm_syntax.specs.Design.{DesignTree}
use Rattle.tm_sem.specs.State.{StateData}
use Rattle.tm_sem.specs.Certificates.{DriverSets, IsIn, Level, MeetsEnvironment, MeetsMoveForm}
use Rattle.tm_flat_pool.specs.Cells.{AreDriverUnions, AreLevelUnions, IsInLower, IsInUpper, IsUnion, SameCell, Undecided}
use Rattle.tm_flat_pool.specs.Predicates.{Predicate, predicate_holds}

-- a state is in its own cell
same_cell-self : (d : DesignTree) (predicates : List Predicate) (s : StateData) → SameCell d predicates s s
same_cell-self d [] s = All-nil (λ q. predicate_holds d s q ≡ predicate_holds d s q)
same_cell-self d (p ∷ predicates) s =
    All-cons (λ q. predicate_holds d s q ≡ predicate_holds d s q) p predicates refl (same_cell-self d predicates s)

pub lower_lies_within : (d : DesignTree) (predicates : List Predicate) (set : StateData → Bool) (s : StateData) →
    IsInLower d predicates set s → IsIn d set s
lower_lies_within d predicates set s lower =
    (lower.valid, lower.within s lower.valid (same_cell-self d predicates s))

pub within_lies_upper : (d : DesignTree) (predicates : List Predicate) (set : StateData → Bool) (s : StateData) →
    IsIn d set s → IsInUpper d predicates set s
within_lies_upper d predicates set s (valid, here) = record {
  valid = valid;
  meets = (s, valid, same_cell-self d predicates s, here);
}

pub upper_is_lower : (d : DesignTree) (predicates : List Predicate) (set : StateData → Bool) (s : StateData) →
    IsUnion d predicates set → IsInUpper d predicates set s → IsInLower d predicates set s
upper_is_lower d predicates set s union upper =
    let (t, valid, same, here) = upper.meets in
    record {
      valid = upper.valid;
      within = λ u is_state alike.
          sym (union s u upper.valid is_state alike) ∙ (union s t upper.valid valid same ∙ here);
    }

pub cells_are_parted : (d : DesignTree) (predicates more : List Predicate) (s t : StateData) →
    SameCell d (predicates ++ more) s t → SameCell d predicates s t
cells_are_parted d [] more s t alike = All-nil (λ q. predicate_holds d s q ≡ predicate_holds d t q)
cells_are_parted d (p ∷ predicates) more s t alike =
    All-cons (λ q. predicate_holds d s q ≡ predicate_holds d t q) p predicates
    (All-head (λ q. predicate_holds d s q ≡ predicate_holds d t q) p (predicates ++ more) alike)
    (cells_are_parted d predicates more s t
    (All-tail (λ q. predicate_holds d s q ≡ predicate_holds d t q) p (predicates ++ more) alike))

pub unions_are_unions : (d : DesignTree) (predicates more : List Predicate) (set : StateData → Bool) →
    IsUnion d predicates set → IsUnion d (predicates ++ more) set
unions_are_unions d predicates more set union s t first second alike =
    union s t first second (cells_are_parted d predicates more s t alike)

pub driver_decides : (d : DesignTree) (predicates : List Predicate) (c : DriverSets) →
    AreDriverUnions d predicates c → MeetsMoveForm d c → ¬ Undecided d predicates
driver_decides d predicates c unions meets undecided = undecided.driver c unions meets

pub environment_decides : (d : DesignTree) (predicates : List Predicate) (levels : List Level) →
    AreLevelUnions d predicates levels → MeetsEnvironment d levels → ¬ Undecided d predicates
environment_decides d predicates levels unions meets undecided = undecided.environment levels unions meets
