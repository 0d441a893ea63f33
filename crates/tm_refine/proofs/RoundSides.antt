-- What a solution of a side says of a design.
use Rattle.std.proofs.Common.{◌≡◌, ℕ, Result, Ok, Err, Option, Some, None, Bool, true, false, List, map, refl, sym, ap, ◌∙◌, subst}
use Rattle.tm_dd.specs.declared.node.NodeId.{NodeId}
use Rattle.tm_solve.specs.declared.iterates.Iterates.{Iterates}
use Rattle.tm_solve.specs.declared.iterates.Ranking.{Ranking}
use Rattle.tm_solve.specs.declared.iterates.RankSet.{RankSet}
use Rattle.tm_solve.specs.declared.iterates.LevelSet.{LevelSet}
use Rattle.tm_solve.specs.declared.iterates.Chain.{Chain}
use Rattle.tm_syntax.specs.Design.{DesignTree}
use Rattle.tm_sem.specs.Certificates.{DriverSets, RankedSet, Level, MeetsEnvironment, MeetsMoveForm}
use Rattle.tm_flat_pool.specs.Predicates.{Predicate}
use Rattle.tm_flat_pool.specs.Cells.{AreDriverUnions, AreLevelUnions, IsUnion}
use Rattle.tm_solve.specs.Sets.{StateSet}
use Rattle.tm_solve.specs.Game.{Game}
use Rattle.tm_solve.specs.Operator.{Operator}
use Rattle.tm_solve.specs.Exact.{IsGameOf}
use Rattle.tm_solve.specs.Fixpoints.{Holds, InRegion}
use Rattle.tm_solve.specs.Ids.{Ids, Extends, Side, Stay}
use Rattle.tm_solve.specs.Iterates.{KnowsAll, KnowsChain, KnowsLevel, KnowsRanks, driver_sets, levels_of, ranked_sets}
use Rattle.tm_solve.specs.Levels.{LevelsFit}
use Rattle.tm_solve.specs.Ranks.{RanksFit}
use Rattle.tm_refine.specs.Parts.{TellCells, lower_game, upper_game}
use Rattle.tm_refine.specs.PartLaws.{lower_below, upper_above}
use Rattle.std.specs.Prelude.{IfOk, MatchOption}
use Rattle.tm_game_pool.specs.Separating.{predicates_at}
use Rattle.tm_refine.specs.Solved.{IsLowerOf, IsOut, IsUpperOf}
use Rattle.tm_refine.specs.Sided.{side_game, side_ids}
use Rattle.tm_solve.proofs.Items.{each_kept}
use Rattle.tm_solve.proofs.LevelCertificates.{meets_environment}
use Rattle.tm_solve.proofs.RankCertificates.{meets_move_form}
use Rattle.tm_solve.proofs.Siding.{levels_fit_below, ranks_fit_above}
use Rattle.tm_refine.proofs.Undeciding.{no_driver}
use Rattle.tm_solve.proofs.Views.{levels_known, levels_stay, rankings_known, rankings_stay}
use Rattle.tm_refine.proofs.EnvironmentTakes.{environment_takes}
use Rattle.tm_refine.proofs.Uniting.{driver_unions, is_union, level_unions}

module _ (d : DesignTree) (op : Operator) (g g' : Game) (exact : IsGameOf d op g) (op' : Operator)
    (exact' : IsGameOf d op' g') (predicates : List Predicate) (ps ps' : List StateSet)
    (cells : TellCells d predicates ps) (cells' : TellCells d predicates ps') (upper : Bool) (tracked : List ℕ)
    (ids : Ids) (it : Iterates) (known : KnowsAll (side_ids upper tracked ps' g' ids) it) where
  each_union : (id : NodeId) → (side_ids upper tracked ps' g' ids).knows id → IsUnion d predicates (ids.means id)
  each_union id k = is_union exact' predicates ps' cells' (ids.means id) k.1

  pub lower_of : Holds g.states (ids.means it.region) (InRegion (side_game false ps g)) →
      RanksFit (side_game false ps g) (driver_sets ids it) → IsLowerOf d predicates (driver_sets ids it)
  lower_of region ranks = record {
    meets = meets_move_form (driver_sets ids it) exact
        (ranks_fit_above (lower_game ps g) g.part (driver_sets ids it) (lower_below ps g) ranks);
    unions = driver_unions d predicates (side_ids upper tracked ps' g' ids) it known each_union;
    none = λ out. no_driver exact predicates ps cells (ids.means it.region) region out;
  }

  pub upper_of : Holds g.states (ids.means it.region) (InRegion (side_game true ps g)) →
      LevelsFit (side_game true ps g) (ids.means it.region) (levels_of ids it) →
      IsUpperOf d predicates (ids.means it.region) (levels_of ids it)
  upper_of region levels = record {
    meets = meets_environment (ids.means it.region) (levels_of ids it) exact
        (levels_fit_below (upper_game ps g) g.part (ids.means it.region) (levels_of ids it) (upper_above ps g) levels);
    unions = level_unions d predicates (side_ids upper tracked ps' g' ids) it known each_union;
    none = λ all others unions meets.
        let s = meets.e1.0 in
        let among = exact.all s meets.e1.2.0 in
        environment_takes exact predicates ps cells others meets unions s among meets.e1.2.1
        (region.only s among (all s meets.e1.1).1);
  }

-- ids that are known to a side are known to the game
module _ (upper : Bool) (tracked : List ℕ) (ps : List StateSet) (g : Game) (ids : Ids) where
  chain_first : (c : Chain) → KnowsChain (side_ids upper tracked ps g ids) c → KnowsChain ids c
  chain_first c k =
      each_kept (side_ids upper tracked ps g ids).knows ids.knows (λ id h. h.0) c.sets.items k

  ranks_first : (r : Ranking) → KnowsRanks (side_ids upper tracked ps g ids) r.sets.items → KnowsRanks ids r.sets.items
  ranks_first r k =
      each_kept (λ (x : RankSet). (side_ids upper tracked ps g ids).knows x.set) (λ (x : RankSet). ids.knows x.set)
      (λ x h. h.0) r.sets.items k

  level_first : (l : LevelSet) → KnowsLevel (side_ids upper tracked ps g ids) l → KnowsLevel ids l
  level_first l k =
      (k.0.0, each_kept (KnowsChain (side_ids upper tracked ps g ids)) (KnowsChain ids) chain_first l.chains.items k.1)

  pub knows_first : (it : Iterates) → KnowsAll (side_ids upper tracked ps g ids) it → KnowsAll ids it
  knows_first it k = record {
    region = k.region.0;
    ranks = each_kept (λ (r : Ranking). KnowsRanks (side_ids upper tracked ps g ids) r.sets.items)
        (λ (r : Ranking). KnowsRanks ids r.sets.items) ranks_first it.ranks.items k.ranks;
    levels = each_kept (KnowsLevel (side_ids upper tracked ps g ids)) (KnowsLevel ids) level_first it.levels.items
        k.levels;
  }

-- of an answer that is there, what three facts give
pub if_three : {X Y : Type 0} (r : Result X Y) (P Q R S : X → Type 0) → ((x : X) → P x → Q x → R x → S x) →
    IfOk r P → IfOk r Q → IfOk r R → IfOk r S
if_three (Ok x) P Q R S f p q s = f x p q s
if_three (Err e) P Q R S f p q s = tt

-- tests of the predicates that are tracked still
pub cells_there : (d : DesignTree) (all : List Predicate) (ks js : List ℕ) (ps : List StateSet) → ks ≡ js →
    TellCells d (predicates_at all ks) ps → TellCells d (predicates_at all js) ps
cells_there d all ks js ps same cells =
    subst (λ (l : List ℕ). TellCells d (predicates_at all l) ps) same cells

pub same_tracked : (a b : Side) → a ≡ b → a.tracked ≡ b.tracked
same_tracked a b e = ap (λ (s : Side). s.tracked) e

pub same_upper : (a b : Side) → a ≡ b → a.upper ≡ b.upper
same_upper a b e = ap (λ (s : Side). s.upper) e

pub same_game : (a b : Side) → a ≡ b → a.game ≡ b.game
same_game a b e = ap (λ (s : Side). s.game) e

-- all that the game knows stays over a call of a side
pub stay_beside : (upper upper' : Bool) (ks ks' : List ℕ) (ps ps' : List StateSet) (g g' : Game) (a b : Ids) →
    Extends (side_ids upper ks ps g a) (side_ids upper' ks' ps' g' b) → Stay a b
stay_beside upper upper' ks ks' ps ps' g g' a b e = record {
  known = λ id known. (e.kept id known).0;
  same = λ id known. (e.kept id known).1;
  of = e.of;
}

-- ---- a round
-- the sets of a solution stay
pub driver_sets_stay : (a b : Ids) (it : Iterates) → Extends a b → KnowsAll a it →
    driver_sets b it ≡ driver_sets a it
driver_sets_stay a b it e k =
    ap (λ (m : StateSet). let x : DriverSets = record { region = m; goals = map (ranked_sets b) it.ranks.items } in x)
    (e.same it.region k.region)
    ∙ ap (λ (l : List (List RankedSet)). let x : DriverSets = record { region = a.means it.region; goals = l } in x)
    (rankings_stay e it.ranks.items k.ranks)

pub levels_of_stay : (a b : Ids) (it : Iterates) → Extends a b → KnowsAll a it → levels_of b it ≡ levels_of a it
levels_of_stay a b it e k = levels_stay e it.levels.items k.levels

module _ (d : DesignTree) (predicates : List Predicate) where
  pub driver_turn : (a b : Ids) (it : Iterates) → Extends a b → KnowsAll a it →
      IsLowerOf d predicates (driver_sets a it) → IsOut d (a.means it.region) false →
      MeetsMoveForm d (driver_sets b it) × AreDriverUnions d predicates (driver_sets b it)
  driver_turn a b it e k low out =
      subst (λ (c : DriverSets). MeetsMoveForm d c × AreDriverUnions d predicates c) (sym (driver_sets_stay a b it e k))
      (low.meets out, low.unions)

  pub environment_turn : (a b : Ids) (it : Iterates) → Extends a b → KnowsAll a it →
      IsUpperOf d predicates (a.means it.region) (levels_of a it) → IsOut d (a.means it.region) true →
      MeetsEnvironment d (levels_of b it) × AreLevelUnions d predicates (levels_of b it)
  environment_turn a b it e k up out =
      subst (λ (ls : List Level). MeetsEnvironment d ls × AreLevelUnions d predicates ls)
      (sym (levels_of_stay a b it e k)) (up.meets out, up.unions)

-- ---- from call to call
pub out_is : (d : DesignTree) (a : StateSet) (b b' : Bool) → b ≡ b' → IsOut d a b → IsOut d a b'
out_is d a b b' e out = subst (λ (x : Bool). IsOut d a x) e out

pub all_kept : (a b : Ids) (it : Iterates) → Extends a b → KnowsAll a it → KnowsAll b it
all_kept a b it e k = record {
  region = e.known it.region k.region;
  ranks = rankings_known e it.ranks.items k.ranks;
  levels = levels_known e it.levels.items k.levels;
}

pub of_none : {X : Type 0} (o : Option X) (P : Type 0) (Q : X → Type 0) → MatchOption o P Q →
    ((x : X) → o ≡ Some x → ⊥) → P
of_none None P Q m none = m
of_none (Some x) P Q m none = absurd (none x refl)

pub of_some : {X : Type 0} (o : Option X) (P : Type 0) (Q : X → Type 0) (x : X) → MatchOption o P Q → o ≡ Some x → Q x
of_some o P Q x m e = subst (λ (p : Option _). MatchOption p P Q) e m
