-- What is left of a game as it was where it has grown.
use Rattle.std.proofs.Common.{◌≡◌, ℕ, List, length, refl, sym, ◌∙◌, subst}
use Rattle.tm_game_bits.specs.AssignedStates.{state_of}
use Rattle.tm_dd.specs.declared.node.NodeId.{NodeId}
use Rattle.tm_dd.specs.Table.{Knows, means}
use Rattle.tm_dd.proofs.CallerLaws.{Extends-refl, Extends-trans}
use Rattle.tm_flat.specs.Flat.{FlatTerms}
use Rattle.tm_flat.specs.IsFlat.{IsFlat}
use Rattle.tm_flat.proofs.Growth.{flat_kept}
use Rattle.tm_game_bits.proofs.Extended.{IsSetOf-Extends, Knows-Extends, means-Extends}
use Rattle.tm_game_bits.specs.States.{ReadsState}
use Rattle.tm_game.specs.Game.{GameData, Grows, IsOf, IsSet, IsStates}
use Rattle.tm_game.specs.Start.{state_bits_in}
use Rattle.tm_game.proofs.Extending.{terms-same}
use Rattle.tm_game_bits.specs.Order.{IsOrder}
use Rattle.tm_sem.specs.State.{StateData}
use Rattle.tm_sem.specs.Step.{IsState}
use Rattle.tm_syntax.specs.Design.{DesignTree}
use Rattle.tm_term.proofs.Valued.{Extends-trans as terms-trans}

pub grows_none : (g : GameData) → Grows g g
grows_none g = record {
  flat = refl;
  terms = terms-same g.terms;
  order = refl;
  diagrams = Extends-refl g.diagrams.table;
  goals = refl;
  fairs = refl;
  initial = refl;
  valid = refl;
  turn = refl;
}

pub grows_then : (g h k : GameData) → Grows g h → Grows h k → Grows g k
grows_then g h k a b = record {
  flat = b.flat ∙ a.flat;
  terms = terms-trans g.terms h.terms k.terms a.terms b.terms;
  order = b.order ∙ a.order;
  diagrams = Extends-trans g.diagrams.table h.diagrams.table k.diagrams.table a.diagrams b.diagrams;
  goals = b.goals ∙ a.goals;
  fairs = b.fairs ∙ a.fairs;
  initial = b.initial ∙ a.initial;
  valid = b.valid ∙ a.valid;
  turn = b.turn ∙ a.turn;
}

module _ (g h : GameData) (grows : Grows g h) where
  -- it is a game of the same designs, in the same order
  pub of_kept : (d : DesignTree) → IsOf d g → IsOf d h
  of_kept d of = record {
    flat = subst (λ (f : FlatTerms). IsFlat h.terms d f) (sym grows.flat)
        (flat_kept g.terms h.terms grows.terms d g.flat of.flat);
    room = of.room;
    small = of.small;
    design = of.design;
  }

  pub order_kept : IsOrder (state_bits_in g.flat) g.order → IsOrder (state_bits_in h.flat) h.order
  order_kept is =
      subst (λ (o : List ℕ). IsOrder (state_bits_in h.flat) o) (sym grows.order)
      (subst (λ (f : FlatTerms). IsOrder (state_bits_in f) g.order) (sym grows.flat) is)

  -- an id is known, and means what it meant
  pub known_kept : (id : NodeId) → Knows g.diagrams.table id → Knows h.diagrams.table id
  known_kept id known = Knows-Extends g.diagrams.table h.diagrams.table grows.diagrams id known

  pub means_kept : (id : NodeId) → Knows g.diagrams.table id → means h.diagrams.table id ≡ means g.diagrams.table id
  means_kept id known = means-Extends g.diagrams.table h.diagrams.table grows.diagrams id known

  -- a set stays one
  pub set_kept : (id : NodeId) → IsSet g id → IsSet h id
  set_kept id set = record {
    known = known_kept id set.known;
    reads = subst (λ (o : List ℕ). ReadsState (length o) (means h.diagrams.table id)) (sym grows.order)
        (subst (ReadsState (length g.order)) (sym (means_kept id set.known)) set.reads);
  }

  -- a set of states stays that set
  pub states_kept : (d : DesignTree) (IsSuch : StateData → Type 0) (id : NodeId) →
      IsStates d g.order g.diagrams.table IsSuch id → IsStates d h.order h.diagrams.table IsSuch id
  states_kept d IsSuch id set =
      subst (λ (o : List ℕ). IsStates d o h.diagrams.table IsSuch id) (sym grows.order)
      (IsSetOf-Extends g.diagrams.table h.diagrams.table grows.diagrams
      (λ v. IsState d (state_of d g.order v) × IsSuch (state_of d g.order v)) id set)
