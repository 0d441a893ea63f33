-- Sets of states that are told one after the other, while a game grows.
use Rattle.std.proofs.Common.{◌≡◌, ℕ, Bool, ◌&&◌, ◌||◌, not, List, ap, ◌∙◌, subst}
use Rattle.std.proofs.Math.Logic.{∥∥₁_elim}
use Rattle.std.proofs.Props.{props}
use Rattle.tm_dd.specs.declared.node.NodeId.{NodeId}
use Rattle.tm_game.specs.Game.{GameData, Grows}
use Rattle.tm_game.proofs.Growing.{grows_then}
use Rattle.tm_sem.specs.State.{StateData}
use Rattle.tm_solve.specs.Game.{Game}
use Rattle.tm_solve.specs.Ids.{Follows, Ids, Is}
use Rattle.tm_solve.specs.Operator.{part_of}
use Rattle.tm_solve.specs.Sets.{IsAmong, StateSet}
use Rattle.tm_solve.proofs.Following.{is_at, is_kept}
use Rattle.tm_solve_exact.specs.Exact.{HasDesign, IsStateSet, exact_game, exact_ids, exact_operator, set_of}
use Rattle.tm_solve_exact.proofs.Growing.{same_coding, same_fair, same_goal, same_told, stay_told}

bool_prop : (a b : Bool) → IsProp (a ≡ b)
bool_prop a b = hlevel props

-- an id of a set is one of each set that agrees with it, over an equal list of states
pub changed : (n m : List StateData) (ids : Ids) (id : NodeId) (a b : StateSet) → m ≡ n → Is m ids id a →
    ((s : StateData) → IsAmong s n → a s ≡ b s) → Is n ids id b
changed n m ids id a b same is each =
    let here = subst (λ (q : List StateData). Is q ids id a) same is in
    record {
      known = here.known;
      means = record { same = λ s among. here.means.same s among ∙ each s among };
    }

module _ (g h : GameData) (of : HasDesign g) (grows : Grows g h) where
  pub goal_same : (j : ℕ) (s : StateData) → (exact_operator h).goal j s ≡ (exact_operator g).goal j s
  goal_same j s =
      ∥∥₁_elim of (bool_prop _ _)
      (λ x. λ i. same_goal x.0 g x.1 h grows j i ((same_coding x.0 g x.1 h grows i).assignment_of s))

  pub fair_same : (j : ℕ) (s : StateData) → (exact_operator h).fair j s ≡ (exact_operator g).fair j s
  fair_same j s =
      ∥∥₁_elim of (bool_prop _ _)
      (λ x. λ i. same_fair x.0 g x.1 h grows j i ((same_coding x.0 g x.1 h grows i).assignment_of s))

  pub stay_same : (a : StateSet) (s : StateData) → (exact_operator h).stay a s ≡ (exact_operator g).stay a s
  stay_same a s = ∥∥₁_elim of (bool_prop _ _) (λ x. stay_told x.0 g x.1 h grows (same_told x.0 g x.1 h grows) a s)

-- the step operator, from its parts
module _ (g h k l m n : GameData) (of : HasDesign g) (first : Grows g h) (second : Grows h k)
    (one : Follows (exact_game g) (exact_ids g) (exact_game h) (exact_ids h))
    (two : Follows (exact_game h) (exact_ids h) (exact_game k) (exact_ids k))
    (three : Follows (exact_game k) (exact_ids k) (exact_game l) (exact_ids l))
    (four : Follows (exact_game l) (exact_ids l) (exact_game m) (exact_ids m)) (z y x : NodeId) (goal fair : ℕ)
    (in_z : IsStateSet g z) (in_y : IsStateSet g y) (waits reaches near some id : NodeId)
    (waits_is : Is (exact_game g).states (exact_ids h) waits
    (λ s. not ((exact_operator g).fair fair s) && (exact_operator g).stay (set_of g x) s))
    (reaches_is : Is (exact_game h).states (exact_ids k) reaches
    (λ s. (exact_operator h).goal goal s && (exact_operator h).stay (set_of h z) s))
    (near_is : Is (exact_game k).states (exact_ids l) near ((exact_operator k).stay (set_of k y)))
    (some_is : Is (exact_game l).states (exact_ids m) some (λ s. set_of l reaches s || set_of l near s))
    (all_is : Is (exact_game m).states (exact_ids n) id (λ s. set_of m some s || set_of m waits s)) where
  waited : (s : StateData) → IsAmong s (exact_game g).states → set_of m waits s
      ≡ (not ((exact_operator g).fair fair s) && (exact_operator g).stay (set_of g x) s)
  waited = (is_kept four.extends (is_kept three.extends (is_kept two.extends waits_is))).means.same

  reached : (s : StateData) → IsAmong s (exact_game g).states → set_of l reaches s
      ≡ ((exact_operator g).goal goal s && (exact_operator g).stay (set_of g z) s)
  reached s among =
      let goal_is = goal_same g h of first goal s in
      let stay_is = ap (λ a. (exact_operator h).stay a s) (one.extends.same z in_z)
      ∙ stay_same g h of first (set_of g z) s in
      (is_kept three.extends (is_at one.game reaches_is)).means.same s among
      ∙ (λ i. goal_is i && stay_is i)

  neared : (s : StateData) → IsAmong s (exact_game g).states →
      set_of l near s ≡ (exact_operator g).stay (set_of g y) s
  neared s among =
      (is_at (two.game ∙ one.game) near_is).means.same s among
      ∙ ap (λ a. (exact_operator k).stay a s)
      (two.extends.same y (one.extends.known y in_y) ∙ one.extends.same y in_y)
      ∙ stay_same g k of (grows_then g h k first second) (set_of g y) s

  pub part_told : Is (exact_game g).states (exact_ids n) id
      (part_of (exact_operator g) (set_of g z) (set_of g y) (set_of g x) goal fair)
  part_told =
      changed (exact_game g).states (exact_game m).states (exact_ids n) id
      (λ s. set_of m some s || set_of m waits s)
      (part_of (exact_operator g) (set_of g z) (set_of g y) (set_of g x) goal fair)
      (ap (λ (q : Game). q.states) (four.game ∙ three.game ∙ two.game ∙ one.game)) all_is
      (λ s among.
      let some_here = (is_at (three.game ∙ two.game ∙ one.game) some_is).means.same s among in
      let reached_here = reached s among in
      let neared_here = neared s among in
      let waited_here = waited s among in
      let both : set_of m some s
      ≡ (((exact_operator g).goal goal s && (exact_operator g).stay (set_of g z) s)
      || (exact_operator g).stay (set_of g y) s) =
      some_here ∙ (λ i. reached_here i || neared_here i) in
      λ i. both i || waited_here i)
