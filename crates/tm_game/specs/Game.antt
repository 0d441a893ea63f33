-- The symbolic game of a design, as contracts see it.
use Rattle.std.specs.Prelude.{◌≡◌, ℕ, ◌<◌, true, List, length, slice_index_or}
use Rattle.tm_game_bits.specs.AssignedStates.{coding_of, state_of}
use Rattle.tm_game_bits.specs.Coding.{IsIn}
use Rattle.tm_dd.specs.declared.node.NodeId.{NodeId}
use Rattle.tm_dd.specs.Reduced.{Extends}
use Rattle.tm_dd.specs.Table.{Table, Knows, means}
use Rattle.tm_ddops.specs.Manager.{Diagrams}
use Rattle.tm_flat.specs.BitStep.{HasRoom}
use Rattle.tm_flat.specs.Flat.{FlatTerms}
use Rattle.tm_flat.specs.Inputs.{AreSmall}
use Rattle.tm_flat.specs.IsFlat.{IsFlat}
use Rattle.tm_game_bits.specs.Diagrams.{IsSetOf}
use Rattle.tm_game_bits.specs.States.{ReadsState}
use Rattle.tm_sem.specs.Fairness.{IsFair}
use Rattle.tm_sem.specs.Play.{goal_holds}
use Rattle.tm_sem.specs.State.{StateData}
use Rattle.tm_sem.specs.Step.{IsState}
use Rattle.tm_syntax.specs.Design.{DesignTree, IsDesign}
use Rattle.tm_term.specs.Table.{Table as Terms}
use Rattle.tm_term.specs.Value as terms

-- the guarded updates, the terms with their table, the order of the levels of a state, the diagrams, and the ids that
-- the game keeps
pub record GameData : Type 0 where
  pub flat : FlatTerms
  pub terms : Terms
  pub order : List ℕ
  pub diagrams : Diagrams
  pub goals : List NodeId
  pub fairs : List NodeId
  pub initial : NodeId
  pub valid : NodeId
  pub turn : NodeId

-- a design whose guarded updates a game has: what `flatten` answered, of a design that fits into the bits that there
-- are
pub record IsOf (d : DesignTree) (g : GameData) : Type 0 where
  pub flat : IsFlat g.terms d g.flat
  pub room : HasRoom d
  pub small : AreSmall d
  pub design : IsDesign d

-- a known id that reads the levels of a state alone
pub record IsSet (g : GameData) (id : NodeId) : Type 0 where
  pub known : Knows g.diagrams.table id
  pub reads : ReadsState (length g.order) (means g.diagrams.table id)

-- an id is a set of states: true exactly at the bits of its states, and false at all bits that are no valid state
abbrev pub IsStates : DesignTree → List ℕ → Table → (StateData → Type 0) → NodeId → Type 0
IsStates d order s IsSuch id =
    IsSetOf s (λ v. IsState d (state_of d order v) × IsSuch (state_of d order v)) id

-- each id of goals is the set of the states at which that goal holds
abbrev pub AreGoals : DesignTree → GameData → Type 0
AreGoals d g =
    (j : ℕ) (e : NodeId) → j < length g.goals →
    IsStates d g.order g.diagrams.table (λ s. goal_holds d s j ≡ true) (slice_index_or g.goals j e)

-- each id of fairness conditions is the set of the states at which that condition holds
abbrev pub AreFairs : DesignTree → GameData → Type 0
AreFairs d g =
    (i : ℕ) (e : NodeId) → i < length g.fairs →
    IsStates d g.order g.diagrams.table (λ s. IsFair d s i) (slice_index_or g.fairs i e)

-- the states of an id, as a test
abbrev pub in_set : DesignTree → GameData → NodeId → StateData → Type 0
in_set d g a = IsIn (coding_of d g.order) (means g.diagrams.table a)

-- what every call but `copy_roots` leaves: each id of a term or a diagram means what it meant, and all else is the same
pub record Grows (old new : GameData) : Type 0 where
  pub flat : new.flat ≡ old.flat
  pub terms : terms.Extends old.terms new.terms
  pub order : new.order ≡ old.order
  pub diagrams : Extends old.diagrams.table new.diagrams.table
  pub goals : new.goals ≡ old.goals
  pub fairs : new.fairs ≡ old.fairs
  pub initial : new.initial ≡ old.initial
  pub valid : new.valid ≡ old.valid
  pub turn : new.turn ≡ old.turn
