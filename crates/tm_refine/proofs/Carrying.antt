-- What is carried from a solution of the upper side that failed to one over more cells.
use Rattle.std.proofs.Common.{◌≡◌, ℕ, ◌+◌, ◌<◌, ◌≤◌, Bool, true, false, not, Option, None, Some, List, [], ◌++◌, length, map, take, refl, sym, ap, ◌∙◌, subst, arith}
use Rattle.std.proofs.lemmas.List.{take-append-le}
use Rattle.std.specs.List.{range_with_len}
use Rattle.tm_dd.specs.declared.node.NodeId.{NodeId}
use Rattle.tm_refine.specs.declared.trace.Added.{Added}
use Rattle.tm_solve.specs.declared.iterates.Iterates.{Iterates}
use Rattle.tm_solve.specs.declared.iterates.LevelSet.{LevelSet}
use Rattle.tm_solve.specs.declared.iterates.Ranking.{Ranking}
use Rattle.tm_syntax.specs.Design.{DesignTree}
use Rattle.tm_sem.specs.State.{StateData}
use Rattle.tm_sem.specs.Step.{IsInitial}
use Rattle.tm_sem.specs.Certificates.{DriverSets, IsIn, Level, MeetsEnvironment}
use Rattle.tm_flat_pool.specs.Predicates.{Predicate, pool}
use Rattle.tm_flat_pool.specs.Cells.{AreLevelUnions, IsUnion}
use Rattle.tm_game_pool.specs.Separating.{predicates_at}
use Rattle.tm_refine.specs.Carried.{AreCarried, CarriesOn, IsCarried, own_tests, union_ids}
use Rattle.tm_refine.specs.Parts.{IsUnionOf, TellCells, alike, upper_game}
use Rattle.tm_refine.specs.PartLaws.{upper_above}
use Rattle.tm_refine.specs.Reasons.{tracked_by}
use Rattle.tm_refine.specs.Searching.{IsSearching, NoneOf, Refines, tracked_at}
use Rattle.tm_refine.specs.Sided.{side_game, side_ids}
use Rattle.tm_refine.specs.Solved.{IsLowerOf, IsOut, IsUpperOf}
use Rattle.tm_solve.specs.Begun.{IsBegun, IsCopy}
use Rattle.tm_solve.specs.Exact.{IsGameOf, LeavesOut}
use Rattle.tm_solve.specs.Fixpoints.{Holds, InRegion}
use Rattle.tm_solve.specs.Game.{Game}
use Rattle.tm_solve.specs.Ids.{Extends, Ids, Is, Stay}
use Rattle.tm_solve.specs.Iterates.{Each, KnowsAll, KnowsLevel, KnowsRanks, level_of, levels_of}
use Rattle.tm_solve.specs.Levels.{LevelsFit}
use Rattle.tm_solve.specs.Operator.{Operator}
use Rattle.tm_solve.specs.Sets.{StateSet, IsAmong, count, everywhere}
use Rattle.tm_solve.proofs.Copies.{copy_begun}
use Rattle.tm_solve.proofs.LevelCertificates.{meets_environment}
use Rattle.tm_solve.proofs.Siding.{levels_fit_below}
use Rattle.tm_refine.proofs.EnvironmentTakes.{environment_takes}
use Rattle.tm_refine.proofs.HandDown.{refines_prefix, union_up}
use Rattle.tm_refine.proofs.NarrowSteps.{at_all}
use Rattle.tm_refine.proofs.OneSide.{own_cells}
use Rattle.tm_refine.proofs.RoundSides.{all_kept, levels_of_stay}
use Rattle.tm_refine.proofs.Starts.{upper_less, upper_start}
use Rattle.tm_refine.proofs.Uniting.{is_union, level_unions}

-- ---- over more tests, and other ids of the same sets
-- ids without a side
abbrev bare : Game → Ids → Ids
bare g i = record {
  knows = i.knows;
  kept = i.knows;
  means = i.means;
  of = λ d. Unit {0};
  side = record { tracked = []; upper = true; game = g };
}

module _ (ps qs : List StateSet) (g : Game)
    (finer : (s t : StateData) → IsAmong s g.states → IsAmong t g.states → alike qs s t ≡ true → alike ps s t ≡ true)
    (a b : Ids) (to : (id : NodeId) → a.knows id → b.knows id × (b.means id ≡ a.means id)) (it : Iterates) where
  bare_extends : Extends (bare g a) (bare g b)
  bare_extends = record {
    known = λ id known. (to id known).0;
    same = λ id known. (to id known).1;
    kept = to;
    of = λ d is. tt;
    side = refl;
  }

  bare_known : KnowsAll a it → KnowsAll (bare g a) it
  bare_known k = record { region = k.region; ranks = k.ranks; levels = k.levels }

  all_there : KnowsAll a it → KnowsAll b it
  all_there k =
      let all : KnowsAll (bare g b) it = all_kept (bare g a) (bare g b) it bare_extends (bare_known k) in
      record { region = all.region; ranks = all.ranks; levels = all.levels }

  levels_there : KnowsAll a it → levels_of b it ≡ levels_of a it
  levels_there k = levels_of_stay (bare g a) (bare g b) it bare_extends (bare_known k)

  begun_over : IsBegun (upper_game ps g) a it → IsBegun (upper_game qs g) b it
  begun_over is =
      let same : b.means it.region ≡ a.means it.region = (to it.region is.known.region).1 in
      record {
        known = all_there is.known;
        above = λ s among here.
            subst (λ (m : StateSet). m s ≡ true) (sym same) (is.above s among (upper_start ps qs g finer s here));
        levels = subst (λ (m : StateSet). LevelsFit (upper_game qs g) m (levels_of b it)) (sym same)
            (subst (λ (ls : List Level). LevelsFit (upper_game qs g) (a.means it.region) ls)
            (sym (levels_there is.known))
            (levels_fit_below (upper_game ps g) (upper_game qs g).part (a.means it.region) (levels_of a it)
            (upper_less ps qs g finer) is.levels));
      }

not_both : (b : Bool) → b ≡ true → not b ≡ true → ⊥
not_both true e f = cc
not_both false e f = cc

-- tests are as fine as themselves
one_test : (ps : List StateSet) (g : Game) (s t : StateData) → IsAmong s g.states → IsAmong t g.states →
    alike ps s t ≡ true → alike ps s t ≡ true
one_test ps g s t in_s in_t like = like

-- ---- from call to call
pub carried_stay : (d : DesignTree) (predicates : List Predicate) (g : Game) (a b : Ids) (it : Iterates) → Stay a b →
    IsCarried d predicates g a it → IsCarried d predicates g b it
carried_stay d predicates g a b it stay =
    begun_over (own_tests d predicates) (own_tests d predicates) g (one_test (own_tests d predicates) g)
    (union_ids d predicates a) (union_ids d predicates b) (λ id known. (
      (
        stay.known id known.0,
        subst (λ (m : StateSet). IsUnion d predicates m) (sym (stay.same id known.0)) known.1,
      ),
      stay.same id known.0,
    )) it

pub carried_at : (d : DesignTree) (predicates : List Predicate) (g h : Game) (a : Ids) (it : Iterates) → h ≡ g →
    IsCarried d predicates g a it → IsCarried d predicates h a it
carried_at d predicates g h a it same is =
    subst (λ (q : Game). IsCarried d predicates q a it) (sym same) is

pub carried_copy : (d : DesignTree) (predicates : List Predicate) (g : Game) (a : Ids) (it copy : Iterates) →
    IsCopy it copy → IsCarried d predicates g a it → IsCarried d predicates g a copy
carried_copy d predicates g a it copy is =
    copy_begun (union_ids d predicates a) it copy is (upper_game (own_tests d predicates) g)

-- ---- cells of a design
module _ {d : DesignTree} {op : Operator} {g : Game} (exact : IsGameOf d op g) where
  -- over finer cells
  pub carried_finer : (finer coarser : List Predicate) → Refines d finer coarser → (a : Ids) (it : Iterates) →
      IsCarried d coarser g a it → IsCarried d finer g a it
  carried_finer finer coarser refines a it =
      begun_over (own_tests d coarser) (own_tests d finer) g
      (λ s t in_s in_t like.
      let valid_s = exact.listed s in_s in
      let valid_t = exact.listed t in_t in
      (own_cells d coarser).told s t valid_s valid_t
      (refines s t valid_s valid_t ((own_cells d finer).cell s t valid_s valid_t like)))
      (union_ids d coarser a) (union_ids d finer a)
      (λ id known. ((known.0, union_up finer coarser refines (a.means id) known.1), refl)) it

  -- where no state is lost
  pub carried_first : (predicates : List Predicate) (a : Ids) (it : Iterates) → Is g.states a it.region everywhere →
      it.ranks.items ≡ [] → it.levels.items ≡ [] → IsCarried d predicates g a it
  carried_first predicates a it is no_ranks no_levels = record {
    known = record {
      region = (
        is.known,
        λ s t valid_s valid_t cell.
            is.means.same s (exact.all s valid_s) ∙ sym (is.means.same t (exact.all t valid_t)),
      );
      ranks = subst (λ (l : List Ranking).
          Each (λ (r : Ranking). KnowsRanks (union_ids d predicates a) r.sets.items) l) (sym no_ranks) tt;
      levels = subst (λ (l : List LevelSet). Each (KnowsLevel (union_ids d predicates a)) l) (sym no_levels) tt;
    };
    above = λ s among here. is.means.same s among;
    levels = subst (λ (l : List LevelSet).
        LevelsFit (upper_game (own_tests d predicates) g) (a.means it.region) (map (level_of a) l)) (sym no_levels)
        (record {
          levels = tt;
          last = record { same = λ s among. ap not (sym (is.means.same s among)) };
        });
  }

  -- to a side over tests of the cells, and back from it
  module _ (predicates : List Predicate) (ps : List StateSet) (cells : TellCells d predicates ps) (ks : List ℕ)
      (a : Ids) (it : Iterates) where
    own_finer : (s t : StateData) → IsAmong s g.states → IsAmong t g.states → alike ps s t ≡ true →
        alike (own_tests d predicates) s t ≡ true
    own_finer s t in_s in_t like =
        let valid_s = exact.listed s in_s in
        let valid_t = exact.listed t in_t in
        (own_cells d predicates).told s t valid_s valid_t (cells.cell s t valid_s valid_t like)

    own_coarser : (s t : StateData) → IsAmong s g.states → IsAmong t g.states →
        alike (own_tests d predicates) s t ≡ true → alike ps s t ≡ true
    own_coarser s t in_s in_t like =
        let valid_s = exact.listed s in_s in
        let valid_t = exact.listed t in_t in
        cells.told s t valid_s valid_t ((own_cells d predicates).cell s t valid_s valid_t like)

    pub to_side : IsCarried d predicates g a it → IsBegun (side_game true ps g) (side_ids true ks ps g a) it
    to_side =
        begun_over (own_tests d predicates) ps g own_finer (union_ids d predicates a) (side_ids true ks ps g a)
        (λ id known. (
          (
            known.0,
            record {
              same = λ s t in_s in_t like.
                  known.1 s t (exact.listed s in_s) (exact.listed t in_t)
                  (cells.cell s t (exact.listed s in_s) (exact.listed t in_t) like);
            },
          ),
          refl,
        )) it

    -- the side may have been left with other tests of the cells
    pub from_side : (ps' : List StateSet) → TellCells d predicates ps' → (upper : Bool) →
        IsBegun (side_game true ps g) (side_ids upper ks ps' g a) it → IsCarried d predicates g a it
    from_side ps' cells' upper =
        begun_over ps (own_tests d predicates) g own_coarser (side_ids upper ks ps' g a) (union_ids d predicates a)
        (λ id known. ((known.0, is_union exact predicates ps' cells' (a.means id) known.1), refl)) it

  -- ---- what the levels so far say of a design
  module _ (predicates : List Predicate) (a : Ids) (it : Iterates) (is : IsCarried d predicates g a it) where
    so_far : (((s : StateData) → IsInitial d s → IsIn d (a.means it.region) s) → (others : List Level) →
        AreLevelUnions d predicates others → ¬ MeetsEnvironment d others) →
        IsUpperOf d predicates (a.means it.region) (levels_of a it)
    so_far none = record {
      meets = meets_environment (a.means it.region) (levels_of a it) exact
          (levels_fit_below (upper_game (own_tests d predicates) g) g.part (a.means it.region) (levels_of a it)
          (upper_above (own_tests d predicates) g) is.levels);
      unions = level_unions d predicates (union_ids d predicates a) it is.known (λ id known. known.1);
      none = none;
    }

    -- an initial state is lost
    pub upper_lost : LeavesOut d (a.means it.region) → IsUpperOf d predicates (a.means it.region) (levels_of a it)
    upper_lost out =
        so_far (λ all others unions meets. not_both (a.means it.region out.0) (all out.0 out.1).1 out.2.1)

    -- no more states are
    pub upper_open : (ps : List StateSet) → TellCells d predicates ps →
        Holds g.states (a.means it.region) (InRegion (side_game true ps g)) →
        IsUpperOf d predicates (a.means it.region) (levels_of a it)
    upper_open ps cells region = so_far (λ all others unions meets.
        let s = meets.e1.0 in
        let among = exact.all s meets.e1.2.0 in
        environment_takes exact predicates ps cells others meets unions s among meets.e1.2.1
        (region.only s among (all s meets.e1.1).1))

-- ---- over prefixes of the additions
module _ {d : DesignTree} {op : Operator} {g : Game} (exact : IsGameOf d op g) (first : ℕ) (a : Ids) (it : Iterates)
  where
    -- from a prefix on
    prefix_on : (added : List Added) (k low : ℕ) → k ≤ low → IsCarried d (tracked_at d first added k) g a it →
        AreCarried d first added g a low it
    prefix_on added k low less is = record {
      each = λ m from.
          carried_finer exact (tracked_at d first added m) (tracked_at d first added k)
          (refines_prefix d first added k m (omega arith)) a it is;
    }

    pub carried_prefix : (added : List Added) (numbers : List ℕ) (k : ℕ) →
        numbers ≡ tracked_by (range_with_len 0 first) (take k added) →
        IsCarried d (predicates_at (pool d) numbers) g a it → AreCarried d first added g a (k + 1) it
    carried_prefix added numbers k are is =
        prefix_on added k (k + 1) (omega arith)
        (subst (λ (l : List ℕ). IsCarried d (predicates_at (pool d) l) g a it) are is)

    -- over all additions, and then over more
    pub carried_longer : (tracked : List ℕ) (added longer : List Added) → IsSearching d first tracked added →
        ((more : List Added) × (longer ≡ added ++ more)) → IsCarried d (predicates_at (pool d) tracked) g a it →
        AreCarried d first longer g a (length added + 1) it
    carried_longer tracked added longer s more is =
        subst (λ (l : List Added). AreCarried d first l g a (length added + 1) it) (sym more.1)
        (prefix_on (added ++ more.0) (length added) (length added + 1) (omega arith)
        (subst (λ (l : List Added). IsCarried d (predicates_at (pool d) (tracked_by (range_with_len 0 first) l)) g a it)
        (sym (take-append-le (length added) added more.0 (omega arith)))
        (subst (λ (l : List Predicate). IsCarried d l g a it) (at_all d first tracked added s) is)))

    pub carried_all : (tracked : List ℕ) (added : List Added) (count : ℕ) → IsSearching d first tracked added →
        count ≤ length added → AreCarried d first added g a count it →
        IsCarried d (predicates_at (pool d) tracked) g a it
    carried_all tracked added count s within are =
        subst (λ (l : List Predicate). IsCarried d l g a it) (sym (at_all d first tracked added s))
        (are.each (length added) within)

-- ---- one round of a side, whose game and tests are those of the moment
module _ {d : DesignTree} {op : Operator} {g : Game} (exact : IsGameOf d op g) (predicates : List Predicate)
    (ps : List StateSet) (cells : TellCells d predicates ps) (upper : Bool) (side : upper ≡ true) (h : Game)
    (game : h ≡ g) where
  pub begun_here : (ks : List ℕ) (a : Ids) (it : Iterates) → IsCarried d predicates g a it →
      IsBegun (side_game upper ps h) (side_ids upper ks ps h a) it
  begun_here ks a it is =
      subst (λ (q : Game). IsBegun (side_game upper ps q) (side_ids upper ks ps q a) it) (sym game)
      (subst (λ (v : Bool). IsBegun (side_game v ps g) (side_ids v ks ps g a) it) (sym side)
      (to_side exact predicates ps cells ks a it is))

  pub carried_here : (ps' : List StateSet) → TellCells d predicates ps' → (upper' : Bool) (ks : List ℕ) (k : Game) →
      k ≡ g → (a : Ids) (it : Iterates) → IsBegun (side_game upper ps h) (side_ids upper' ks ps' k a) it →
      IsCarried d predicates g a it
  carried_here ps' cells' upper' ks k game' a it begun =
      from_side exact predicates ps cells ks a it ps' cells' upper'
      (subst (λ (v : Bool). IsBegun (side_game v ps g) (side_ids upper' ks ps' g a) it) side
      (subst (λ (q : Game). IsBegun (side_game upper ps q) (side_ids upper' ks ps' g a) it) game
      (subst (λ (q : Game). IsBegun (side_game upper ps h) (side_ids upper' ks ps' q a) it) game' begun)))

  pub open_here : (a : Ids) (it : Iterates) → IsCarried d predicates g a it →
      Holds h.states (a.means it.region) (InRegion (side_game upper ps h)) →
      IsUpperOf d predicates (a.means it.region) (levels_of a it)
  open_here a it is holds =
      upper_open exact predicates a it is ps cells
      (subst (λ (v : Bool). Holds g.states (a.means it.region) (InRegion (side_game v ps g))) side
      (subst (λ (q : Game). Holds q.states (a.means it.region) (InRegion (side_game upper ps q))) game holds))

-- an initial state was found lost
pub lost_here : {d : DesignTree} {op : Operator} {g : Game} → IsGameOf d op g → (predicates : List Predicate)
    (a b : Ids) (it : Iterates) → Stay a b → IsCarried d predicates g a it → LeavesOut d (a.means it.region) →
    IsUpperOf d predicates (b.means it.region) (levels_of b it)
lost_here {d = d} {g = g} exact predicates a b it stay is out =
    upper_lost exact predicates b it (carried_stay d predicates g a b it stay is)
    (subst (λ (m : StateSet). LeavesOut d m) (sym (stay.same it.region is.known.region.0)) out)

-- the ids of iterates that are carried are known to the game
pub carried_known : (d : DesignTree) (predicates : List Predicate) (g : Game) (a : Ids) (it : Iterates) →
    IsCarried d predicates g a it → KnowsAll a it
carried_known d predicates g a it is =
    all_there [] [] g (one_test [] g) (union_ids d predicates a) a (λ id known. (known.0, refl)) it is.known

-- ---- after a solution of a side
module _ (d : DesignTree) (predicates : List Predicate) (g : Game) (a b : Ids) (far far' : Iterates)
    (o : Option Iterates) (on : CarriesOn d predicates g a b far far' o) where
  pub carried_none : ((it : Iterates) → o ≡ Some it → ⊥) → IsCarried d predicates g a far →
      IsCarried d predicates g b far'
  carried_none none = at o on none
    where
      at : (p : Option Iterates) → CarriesOn d predicates g a b far far' p → ((it : Iterates) → p ≡ Some it → ⊥) →
          IsCarried d predicates g a far → IsCarried d predicates g b far'
      at None onward gone = onward
      at (Some it) onward gone = absurd (gone it refl)

  pub carried_some : (it : Iterates) → o ≡ Some it → (others : List Predicate) → IsCarried d others g a far →
      IsCarried d others g b far'
  carried_some it is =
      let onward : CarriesOn d predicates g a b far far' (Some it) =
      subst (λ (p : Option Iterates). CarriesOn d predicates g a b far far' p) is on in
      onward

  pub carried_nothing : o ≡ None → IsCarried d predicates g a far → IsCarried d predicates g b far'
  carried_nothing is =
      let onward : CarriesOn d predicates g a b far far' None =
      subst (λ (p : Option Iterates). CarriesOn d predicates g a b far far' p) is on in
      onward

-- ---- a prefix that was tried
module _ {d : DesignTree} {op : Operator} {g : Game} (exact : IsGameOf d op g) (h : Game) (game : h ≡ g) (first : ℕ)
    (added : List Added) (numbers : List ℕ) (k : ℕ)
    (are : numbers ≡ tracked_by (range_with_len 0 first) (take k added)) (a : Ids) (low : ℕ) (far : Iterates)
    (begun : AreCarried d first added g a low far) where
  -- over its cells a solution may go on
  pub carried_try : low ≤ k → IsCarried d (predicates_at (pool d) numbers) h a far
  carried_try from =
      subst (λ (l : List ℕ). IsCarried d (predicates_at (pool d) l) h a far) (sym are)
      (carried_at d (tracked_at d first added k) g h a far game (begun.each k from))

  module _ (b : Ids) (far' : Iterates) (o : Option Iterates)
      (on : CarriesOn d (predicates_at (pool d) numbers) h a b far far' o) where
    pub carried_failed : o ≡ None → low ≤ k → AreCarried d first added g b (k + 1) far'
    carried_failed is from =
        carried_prefix exact first b far' added numbers k are
        (carried_at d (predicates_at (pool d) numbers) h g b far' (sym game)
        (carried_nothing d (predicates_at (pool d) numbers) h a b far far' o on is (carried_try from)))

    pub carried_won : (it : Iterates) → o ≡ Some it → AreCarried d first added g b low far'
    carried_won it is = record {
      each = λ m from.
          carried_at d (tracked_at d first added m) h g b far' (sym game)
          (carried_some d (predicates_at (pool d) numbers) h a b far far' o on it is (tracked_at d first added m)
          (carried_at d (tracked_at d first added m) g h a far game (begun.each m from)));
    }

-- there are fewer states, said of the game of the start
pub falls_here : (g h : Game) → h ≡ g → (now before there : StateSet) → there ≡ before →
    count h.states now < count h.states there → count g.states now < count g.states before
falls_here g h game now before there same less =
    subst (λ (q : Game). count q.states now < count q.states before) game
    (subst (λ (m : StateSet). count h.states now < count h.states m) same less)

-- ---- a side that fails
module _ (d : DesignTree) (predicates : List Predicate) where
  pub none_upper : (region : StateSet) (levels : List Level) (upper : Bool) → upper ≡ true →
      IsUpperOf d predicates region levels → IsOut d region false → NoneOf d predicates upper
  none_upper region levels upper is up all =
      subst (λ (v : Bool). NoneOf d predicates v) (sym is) (up.none all)

  pub none_lower : (c : DriverSets) (upper : Bool) → upper ≡ false → IsLowerOf d predicates c →
      IsOut d c.region true → NoneOf d predicates upper
  none_lower c upper is low out =
      subst (λ (v : Bool). NoneOf d predicates v) (sym is) (low.none out)
