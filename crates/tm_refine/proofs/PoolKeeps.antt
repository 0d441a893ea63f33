-- What a call leaves of a game with its pool.
use Rattle.std.proofs.Common.{◌≡◌, ◌⊎◌, inl, inr, ℕ, ◌<◌, ◌≤◌, List, Option, Some, None, length, sym, ap, ◌∙◌, subst, arith}
use Rattle.std.proofs.Math.Logic.{∥∥₁_elim}
use Rattle.std.proofs.Props.{props}
use Rattle.std.specs.Prelude.{⊤}
use Rattle.tm_abs.specs.Tracked.{HasPooled, IsPooled}
use Rattle.tm_dd.specs.declared.node.NodeId.{NodeId}
use Rattle.tm_dd.specs.Reduced.{IsReduced}
use Rattle.tm_flat.specs.Flat.{FlatTerms, flat_terms}
use Rattle.tm_flat.specs.declared.flat.Flat.{Flat}
use Rattle.tm_game.specs.Game.{GameData, Grows}
use Rattle.tm_game.proofs.Growing.{grows_none, grows_then}
use Rattle.tm_game_pool.proofs.Claims.{first_within}
use Rattle.tm_game_pool.proofs.Pooled.{pool_grown}
use Rattle.tm_refine.specs.declared.pooled.Pooled.{Pooled}
use Rattle.tm_refine.specs.Memory.{Remembers}
use Rattle.tm_refine.specs.Pooled.{CanBeDecided, CanDecide, Keeps, pool_ids, tests_of}
use Rattle.tm_refine.specs.PoolTests.{pool_long, tests_kept}
use Rattle.tm_refine.proofs.Memories.{memory_kept}
use Rattle.tm_sem.specs.State.{StateData}
use Rattle.tm_solve.specs.Ids.{Follows, Is}
use Rattle.tm_solve.specs.Sets.{StateSet}
use Rattle.tm_solve.proofs.Following.{follows_then}
use Rattle.tm_solve_exact.specs.Exact.{HasDesign, IsStateSet, exact_game, exact_ids}
use Rattle.tm_solve_exact.proofs.Growing.{kept_exact}
use Rattle.tm_solve_exact.proofs.Truncated.{follows_any}
use Rattle.tm_syntax.specs.Design.{DesignTree}

pub design_of : (g : GameData) → CanBeDecided g → HasDesign g
design_of g can = ∥∥₁_elim can (squash₁) (λ x. ∣ (x.0, x.1.solve.exact) ∣₁)

pub pooled_of : (d : DesignTree) (g : GameData) → CanDecide d g → IsPooled d g
pooled_of d g can = record { of = can.solve.exact.ordered.of; pool = can.pool }

pub has_pooled : (g : GameData) → CanBeDecided g → HasPooled g
has_pooled g can = ∥∥₁_elim can (squash₁) (λ x. ∣ (x.0, pooled_of x.0 g x.1) ∣₁)

-- a game that has grown can be decided
pub decide_grown : (d : DesignTree) (g h : GameData) → Grows g h → CanDecide d g → CanDecide d h
decide_grown d g h grows can = record {
  solve = record {
    exact = kept_exact d g can.solve.exact h grows;
    steady = can.solve.steady;
    some_goal = subst (λ (ids : List NodeId). 0 < length ids) (sym grows.goals) can.solve.some_goal;
  };
  initial = can.initial;
  pool = pool_grown d g h grows can.pool;
}

pub can_grown : (g h : GameData) → Grows g h → CanBeDecided g → CanBeDecided h
can_grown g h grows can = ∥∥₁_elim can (squash₁) (λ x. ∣ (x.0, decide_grown x.0 g h grows x.1) ∣₁)

module _ (g h : GameData) (grows : Grows g h) (f : Follows (exact_game g) (exact_ids g) (exact_game h) (exact_ids h))
  where
    pool_follows : Follows (exact_game g) (pool_ids g) (exact_game h) (pool_ids h)
    pool_follows = record {
      game = f.game;
      extends = record {
        known = f.extends.known;
        same = f.extends.same;
        kept = f.extends.kept;
        of = λ d can. decide_grown d g h grows can;
        side = f.extends.side;
      };
      exact = record { equal = f.exact.equal };
    }

    tests_prop : IsProp (tests_of h ≡ tests_of g)
    tests_prop = hlevel props

    pub keeps_by : CanBeDecided g → Keeps g h
    keeps_by can = record {
      follows = pool_follows;
      tests = ∥∥₁_elim can tests_prop (λ x. tests_kept x.0 g h grows x.1.pool);
      can = can_grown g h grows can;
      of = design_of h (can_grown g h grows can);
      grows = grows;
    }

pub keeps : (g h : GameData) → CanBeDecided g → Grows g h → IsReduced h.diagrams.table → Keeps g h
keeps g h can grows reduced = keeps_by g h grows (follows_any g h (design_of g can) grows reduced) can

pub keeps_none : (g : GameData) → CanBeDecided g → IsReduced g.diagrams.table → Keeps g g
keeps_none g can reduced = keeps g g can (grows_none g) reduced

pub keeps_then : (g h k : GameData) → Keeps g h → Keeps h k → Keeps g k
keeps_then g h k a b = record {
  follows = follows_then a.follows b.follows;
  tests = b.tests ∙ a.tests;
  can = b.can;
  of = b.of;
  grows = grows_then g h k a.grows b.grows;
}

-- what is said of the ids of the exact operator is said of these
pub is_pooled : (n : List StateData) (h : GameData) (id : NodeId) (set : StateSet) → Is n (exact_ids h) id set →
    Is n (pool_ids h) id set
is_pooled n h id set is = record { known = is.known; means = is.means }

-- the first predicates are of the pool
first_within_pool : (g : GameData) → CanBeDecided g → g.flat.first ≤ length g.flat.pool
first_within_pool g can =
    ∥∥₁_elim can (hlevel props)
    (λ x. omega (arith, first_within x.0, x.1.pool.first, pool_long x.0 g x.1.pool))

pub first_fits : (g : GameData) → CanBeDecided g → (f : Flat) → flat_terms f ≡ g.flat →
    f.first ≤ length g.flat.pool
first_fits g can f same =
    subst (λ (n : ℕ). n ≤ length g.flat.pool) (sym (ap (λ (t : FlatTerms). t.first) same)) (first_within_pool g can)

-- ---- the set that was cut first
abbrev pub HintKnown : GameData → Option NodeId → Type 0
HintKnown g hint = ∥ ((id : NodeId) → hint ≡ Some id → IsStateSet g id) ∥₁

pub hint_kept : (g h : GameData) (hint : Option NodeId) → Keeps g h → HintKnown g hint → HintKnown h hint
hint_kept g h hint kept known =
    ∥∥₁_elim known (squash₁) (λ each. ∣ (λ id e. kept.follows.extends.known id (each id e)) ∣₁)

pub hint_none : (g : GameData) → HintKnown g None
hint_none g = ∣ (λ id e. absurd (cc)) ∣₁

pub hint_noted : (g h : GameData) (hint noted : Option NodeId) (set : NodeId) → Keeps g h → HintKnown g hint →
    IsStateSet g set → ((id : NodeId) → noted ≡ Some id → (hint ≡ Some id) ⊎ (set ≡ id)) → HintKnown h noted
hint_noted g h hint noted set kept known here which =
    ∥∥₁_elim known (squash₁) (λ each. ∣ (λ id e. kept.follows.extends.known id (by each id (which id e))) ∣₁)
  where
    by : ((id : NodeId) → hint ≡ Some id → IsStateSet g id) → (id : NodeId) → (hint ≡ Some id) ⊎ (set ≡ id) →
        IsStateSet g id
    by each id (inl e) = each id e
    by each id (inr e) = subst (λ (x : NodeId). IsStateSet g x) e here

-- ---- the facts of a game that is decided, after a call
module _ (p : Pooled) (h : GameData) (kept : Keeps p.exact.game h) where
  goals_kept : p.exact.goals ≡ length h.goals
  goals_kept = p.exact.goal_count ∙ ap (λ (ids : List NodeId). length ids) (sym kept.grows.goals)

  fairs_kept : p.exact.fairs ≡ length h.fairs
  fairs_kept = p.exact.fair_count ∙ ap (λ (ids : List NodeId). length ids) (sym kept.grows.fairs)

  -- these facts, with a hint
  abbrev pub Facts : Option NodeId → Type 0
  Facts hint =
      (HasDesign h × ((p.exact.goals ≡ length h.goals) × ((p.exact.fairs ≡ length h.fairs) × ⊤)))
      × (CanBeDecided h × (HintKnown h hint × (Remembers h p.memory × ⊤)))

  pub facts_with : (hint : Option NodeId) → HintKnown h hint → Facts hint
  facts_with hint known = (
    (kept.of, (goals_kept, (fairs_kept, tt))),
    (kept.can, (known, (memory_kept p.exact.game h kept p.memory p.remembers, tt))),
  )

  pub facts_kept : Facts p.hint
  facts_kept = facts_with p.hint (hint_kept p.exact.game h p.hint kept p.hint_known)
