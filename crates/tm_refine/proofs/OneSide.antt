-- The exact region tells which side has certificates, over any cells.
use Rattle.std.proofs.Common.{◌≡◌, ℕ, Bool, true, false, not, List, [], ◌∷◌, map, refl, ap}
use Rattle.std.proofs.lemmas.List.Elements.{All-nil, All-cons, All-head, All-tail}
use Rattle.tm_solve.specs.declared.iterates.Iterates.{Iterates}
use Rattle.tm_syntax.specs.Design.{DesignTree}
use Rattle.tm_sem.specs.State.{StateData}
use Rattle.tm_sem.specs.Certificates.{DriverSets, Level, MeetsEnvironment, MeetsMoveForm}
use Rattle.tm_flat_pool.specs.Predicates.{Predicate, predicate_holds}
use Rattle.tm_flat_pool.specs.Cells.{AreDriverUnions, AreLevelUnions, IsUnion, SameCell}
use Rattle.tm_solve.specs.Sets.{StateSet}
use Rattle.tm_solve.specs.Game.{Game}
use Rattle.tm_solve.specs.Operator.{Operator}
use Rattle.tm_solve.specs.Exact.{IsGameOf, LeavesOut}
use Rattle.tm_solve.specs.Fixpoints.{Holds, InReach, InRegion}
use Rattle.tm_solve.specs.Ids.{Ids}
use Rattle.tm_solve.specs.Iterates.{driver_sets, levels_of}
use Rattle.tm_solve.specs.Levels.{LevelsFit}
use Rattle.tm_solve.specs.Ranks.{RanksFit}
use Rattle.tm_solve.specs.Sides.{IsBelow, with_part}
use Rattle.tm_refine.specs.Carried.{own_tests}
use Rattle.tm_refine.specs.Parts.{TellCells, agree, alike, lower_game, upper_game}
use Rattle.tm_refine.specs.PartLaws.{agree_is, is_agree, lower_below, upper_above}
use Rattle.tm_game_pool.specs.Separating.{Separates}
use Rattle.tm_refine.specs.Solved.{IsOut}
use Rattle.tm_refine.specs.Searching.{HasOwn, IsNamed, NoneOf}
use Rattle.tm_solve.proofs.Joins.{and_left, and_right, and_both}
use Rattle.tm_solve.proofs.LevelCertificates.{meets_environment}
use Rattle.tm_solve.proofs.RankCertificates.{meets_move_form}
use Rattle.tm_refine.proofs.DriverKeeps.{driver_keeps}
use Rattle.tm_refine.proofs.EnvironmentTakes.{environment_takes}

-- a higher operator has a greater region
module _ (g : Game) (low high : StateSet → StateSet → StateSet → ℕ → ℕ → StateSet)
    (below : IsBelow g.states low high) where
  reach_up : (z : StateSet) (j : ℕ) (s : StateData) → InReach (with_part g low) z j s → InReach (with_part g high) z j s
  reach_up z j s r = record {
    every = λ f closed. r.every f (λ t in_t some. closed t in_t (
      some.0,
      some.1,
      record {
        set = some.2.set;
        holds = λ u in_u here. below.below z f some.2.set j some.0 u in_u (some.2.holds u in_u here);
        here = some.2.here;
      },
    ));
  }

  pub region_up : (s : StateData) → InRegion (with_part g low) s → InRegion (with_part g high) s
  region_up s r = record {
    set = r.set;
    holds = λ t in_t here j less. reach_up r.set j t (r.holds t in_t here j less);
    here = r.here;
  }

-- ---- the predicates' own tests
module _ (d : DesignTree) (s t : StateData) where
  abbrev Same : Predicate → Type 0
  Same p = predicate_holds d s p ≡ predicate_holds d t p

  own_cell : (ps : List Predicate) → alike (own_tests d ps) s t ≡ true → SameCell d ps s t
  own_cell [] e = All-nil Same
  own_cell (p ∷ ps) e =
      All-cons Same p ps
      (agree_is (predicate_holds d s p) (predicate_holds d t p)
      (and_left (agree (predicate_holds d s p) (predicate_holds d t p)) (alike (own_tests d ps) s t) e))
      (own_cell ps (and_right (agree (predicate_holds d s p) (predicate_holds d t p)) (alike (own_tests d ps) s t) e))

  own_told : (ps : List Predicate) → SameCell d ps s t → alike (own_tests d ps) s t ≡ true
  own_told [] c = refl
  own_told (p ∷ ps) c =
      and_both (agree (predicate_holds d s p) (predicate_holds d t p)) (alike (own_tests d ps) s t)
      (is_agree (predicate_holds d s p) (predicate_holds d t p) (All-head Same p ps c))
      (own_told ps (All-tail Same p ps c))

pub own_cells : (d : DesignTree) (ps : List Predicate) → TellCells d ps (own_tests d ps)
own_cells d ps = record {
  cell = λ s t valid_s valid_t e. own_cell d s t ps e;
  told = λ s t valid_s valid_t c. own_told d s t ps c;
}

-- ---- where predicates tell all states apart each set is a union of cells
module _ (d : DesignTree) (ps : List Predicate) (separates : Separates d ps) where
  any_union : (set : StateSet) → IsUnion d ps set
  any_union set s t valid_s valid_t cell = ap set (separates s t valid_s valid_t cell)

  pub any_driver : (c : DriverSets) → AreDriverUnions d ps c
  any_driver c = record {
    region = any_union c.region;
    ranks = λ goal k ranked r are got. any_union r.set;
  }

  pub any_levels : (levels : List Level) → AreLevelUnions d ps levels
  any_levels levels = record {
    sets = λ k l got. any_union l.set;
    chains = λ k i x l chain set got got_chain got_set. any_union set;
  }

  -- a side with a certificate has one over such cells
  pub none_no_more : (upper : Bool) → NoneOf d ps upper → HasOwn d upper → ⊥
  none_no_more true none own = none own.0 (any_levels own.0) own.1
  none_no_more false none own = none own.0 (any_driver own.0) own.1

not_both : (a : Bool) → a ≡ true → not a ≡ true → ⊥
not_both true e f = cc
not_both false e f = cc

-- ---- the exact region names the side
module _ {d : DesignTree} {op : Operator} {g : Game} (exact : IsGameOf d op g) (ps : List Predicate)
    (separates : Separates d ps) (region : StateSet) (holds : Holds g.states region (InRegion g)) where
  pub no_driver_at_all : LeavesOut d region → (c : DriverSets) → ¬ MeetsMoveForm d c
  no_driver_at_all out c meets =
      let here = meets.c1 out.0 out.1 in
      let among = exact.all out.0 here.0 in
      not_both (region out.0)
      (holds.all out.0 among (region_up g (lower_game (own_tests d ps) g).part g.part (lower_below (own_tests d ps) g)
      out.0 (driver_keeps exact ps (own_tests d ps) (own_cells d ps) c meets (any_driver d ps separates c) out.0 among
      here.1))) out.2.1

  pub no_environment_at_all : IsOut d region false → (levels : List Level) → ¬ MeetsEnvironment d levels
  no_environment_at_all all levels meets =
      let s = meets.e1.0 in
      let among = exact.all s meets.e1.2.0 in
      environment_takes exact ps (own_tests d ps) (own_cells d ps) levels meets (any_levels d ps separates levels) s
      among meets.e1.2.1
      (region_up g g.part (upper_game (own_tests d ps) g).part (upper_above (own_tests d ps) g) s
      (holds.only s among (all s meets.e1.1).1))

module _ {d : DesignTree} {op : Operator} {g : Game} (exact : IsGameOf d op g) (ps : List Predicate)
    (separates : Separates d ps) (ids : Ids) (it : Iterates)
    (holds : Holds g.states (ids.means it.region) (InRegion g)) where
  pub named : (upper : Bool) → IsOut d (ids.means it.region) upper → RanksFit g (driver_sets ids it) →
      LevelsFit g (ids.means it.region) (levels_of ids it) → IsNamed d upper
  named true out ranks levels = record {
    other = no_driver_at_all exact ps separates (ids.means it.region) holds out;
    own = (levels_of ids it, meets_environment (ids.means it.region) (levels_of ids it) exact levels out);
  }
  named false all ranks levels = record {
    other = no_environment_at_all exact ps separates (ids.means it.region) holds all;
    own = (driver_sets ids it, meets_move_form (driver_sets ids it) exact ranks all);
  }
