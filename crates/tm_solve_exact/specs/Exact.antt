-- The step operator of a game as solving asks for it: sets of states are diagrams of the game's.
use Rattle.std.specs.Prelude.{◌≡◌, ◌⊎◌, ℕ, zero, suc, Bool, true, false, ◌&&◌, List, [], ◌∷◌, ◌++◌, length, slice_index_or, if◌then◌else◌}
use Rattle.std.proofs.Common.{inl, inr, refl}
use Rattle.tm_game_bits.specs.Coding.{Coding}
use Rattle.tm_dd.specs.declared.node.NodeId.{NodeId}
use Rattle.tm_dd.specs.declared.node.TheConstants.{FALSE, TRUE}
use Rattle.tm_dd.specs.Table.{assignment, means}
use Rattle.tm_flat.specs.IsFlat.{IsFlat}
use Rattle.tm_game_bits.specs.Functions.{Assignment, Function, GameFunctions, outside}
use Rattle.tm_game_bits.proofs.Either.{forced_or_stays}
use Rattle.tm_game_bits.proofs.Leading.{true_or_false}
use Rattle.tm_game.specs.Game.{AreFairs, AreGoals, GameData, IsOf, IsSet, IsStates}
use Rattle.tm_game.specs.Start.{state_bits_in}
use Rattle.tm_game_bits.specs.Order.{IsOrder}
use Rattle.tm_sem.specs.Fairness.{conditions}
use Rattle.tm_sem.specs.State.{StateData}
use Rattle.tm_solve.specs.Game.{Game}
use Rattle.tm_solve.specs.Ids.{Ids, Side}
use Rattle.tm_solve.specs.Operator.{Operator, game_of}
use Rattle.tm_solve.specs.Sets.{StateSet}
use Rattle.tm_syntax.specs.Design.{DesignTree}
use Rattle.tm_term.specs.Table.{IsSound, Table}
use Rattle.tm_term.specs.Value.{Extends}
use Rattle.tm_solve_exact.specs.Bits.{functions_in}
use Rattle.tm_solve_exact.specs.Coding.{coding_in}

-- ---- states
-- a list of what a function gives for all lists of so many truth values
abbrev pub for_values : ℕ → (List Bool → List StateData) → List StateData
for_values zero at = at []
for_values (suc n) at = for_values n (λ bits. at (true ∷ bits)) ++ for_values n (λ bits. at (false ∷ bits))

-- the states that values of levels tell where a set is true
abbrev pub states_of : Coding → Function → List StateData
states_of c valid =
    for_values c.count (λ bits. if valid (assignment bits) then c.state_of (assignment bits) ∷ [] else [])

-- the first values of levels as a list
abbrev pub first_values : ℕ → Assignment → List Bool
first_values zero v = []
first_values (suc n) v = v 0 ∷ first_values n (λ level. v (suc level))

-- a set of states as one of values of levels: false where these tell no valid state
abbrev pub bit_set : Coding → Function → StateSet → Function
bit_set c valid a v =
    let bits = assignment (first_values c.count v) in valid bits && a (c.state_of bits)

-- whether a choice fell on the second
abbrev pub is_second : {A B : Type 0} → A ⊎ B → Bool
is_second (inl a) = false
is_second (inr b) = true

-- whether the driver stays in all that a set leaves out
abbrev pub stays_where : (g : GameFunctions) (into : Function) (v : Assignment) →
    (g.valid v ≡ true) ⊎ (g.valid v ≡ false) → Bool
stays_where g into v (inl valid) = is_second (forced_or_stays (outside into) into (λ w. refl) g v valid)
stays_where g into v (inr not_so) = false

-- whether values tell a valid state, and the driver stays there in all that a set leaves out
abbrev pub stays_out : GameFunctions → Function → Assignment → Bool
stays_out g into v = stays_where g into v (true_or_false (g.valid v))

-- ---- the game
-- the coding of a game
abbrev pub coding : GameData → Coding
coding g = coding_in g.flat g.order

-- a game over bits
abbrev pub functions : GameData → GameFunctions
functions g = functions_in g.terms g.flat g.order

-- the valid states of a game
abbrev pub valid_set : GameData → Function
valid_set g = means g.diagrams.table g.valid

-- the states of an id
abbrev pub set_of : GameData → NodeId → StateSet
set_of g id s = means g.diagrams.table id ((coding g).assignment_of s)

-- where goals and fairness conditions hold, and where the driver can stay in a set; a goal that is not there holds
abbrev pub exact_operator : GameData → Operator
exact_operator g = record {
  goal = λ j. set_of g (slice_index_or g.goals j TRUE);
  fair = λ i. set_of g (slice_index_or g.fairs i FALSE);
  stay = λ a s.
      stays_out (functions g) (outside (bit_set (coding g) (valid_set g) a)) ((coding g).assignment_of s);
}

-- the game that is solved
abbrev pub exact_game : GameData → Game
exact_game g =
    game_of (states_of (coding g) (valid_set g)) (length g.goals) (length g.fairs) (exact_operator g)

-- an id is a set of valid states
pub record IsStateSet (g : GameData) (id : NodeId) : Type 0 where
  pub set : IsSet g id
  pub valid : (v : Assignment) → means g.diagrams.table id v ≡ true → valid_set g v ≡ true

-- ---- designs
-- the sets of goals, fairness conditions and valid states that a game keeps are those of a design
pub record KeepsSets (d : DesignTree) (g : GameData) : Type 0 where
  pub goals : AreGoals d g
  pub fairs : AreFairs d g
  pub valid : IsStates d g.order g.diagrams.table (λ s. Unit {0}) g.valid

-- a game is that of a design: its levels follow an order of the bits of the design's states, and it has a set for each
-- goal and each fairness condition
pub record IsOrderedOf (d : DesignTree) (g : GameData) : Type 0 where
  pub of : IsOf d g
  pub order : IsOrder (state_bits_in g.flat) g.order
  pub goals : length g.goals ≡ length d.goals
  pub fairs : length g.fairs ≡ length (conditions d)

-- the terms of the design's guarded updates stand in a sound table, which may have grown
pub record HasSoundTerms (d : DesignTree) (g : GameData) : Type 0 where
  pub base : Table
  pub sound : IsSound base
  pub extends : Extends base g.terms
  pub flat : IsFlat base d g.flat

-- a game is that of a design, of sound terms, and keeps the design's sets
pub record IsExactOf (d : DesignTree) (g : GameData) : Type 0 where
  pub ordered : IsOrderedOf d g
  pub terms : HasSoundTerms d g
  pub sets : KeepsSets d g

-- a game is that of some design
abbrev pub HasDesign : GameData → Type 0
HasDesign g = ∥ ((d : DesignTree) × IsExactOf d g) ∥₁

-- the side of the exact operator, whose parts are the sets themselves
abbrev pub exact_side : Game → Side
exact_side game = record { tracked = []; upper = false; game = game }

-- the ids that are known, all of which are kept, their sets, the designs of the game, and the side
abbrev pub exact_ids : GameData → Ids
exact_ids g = record {
  knows = IsStateSet g;
  kept = IsStateSet g;
  means = set_of g;
  of = λ d. IsExactOf d g;
  side = exact_side (exact_game g);
}
