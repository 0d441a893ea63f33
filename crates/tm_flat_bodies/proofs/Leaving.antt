-- Runs that stop at a location, and tasks that are called.
use Rattle.std.proofs.Common.{◌≡◌, ℕ, false, zero, suc, ◌-◌, ◌<◌, None, Some, List, ◌++◌, length, sym, ap, ◌∙◌, subst, arith}
use Rattle.std.specs.Prelude.{MatchOption}
use Rattle.std.specs.Option.{option_and_then}
use Rattle.std.proofs.lemmas.Option.{none-some}
use Rattle.tm_base.specs.declared.place.Place.{Place}
use Rattle.tm_syntax.specs.declared.tree.Ident.{Ident}
use Rattle.tm_syntax.specs.declared.tree.TaskDef.{TaskDef}
use Rattle.tm_syntax.specs.Design.{DesignTree}
use Rattle.tm_syntax.specs.Design.Cells.{Called, called, task_called}
use Rattle.tm_syntax.specs.Design.Locations.{location_number}
use Rattle.tm_syntax.specs.Design.Scope.{Scope, Site, site}
use Rattle.tm_syntax.specs.Design.Work.{call_place}
use Rattle.tm_scope.specs.Cells.{CellTables, HasCells, scope_of}
use Rattle.tm_scope.specs.declared.cells.site_body.SiteBody.{SiteBody}
use Rattle.tm_scope.specs.declared.context.BodyName.{BodyName}
use Rattle.tm_scope.specs.declared.context.BodyName.TheVariants.{Process, Task, Outside}
use Rattle.tm_sem.specs.Run.{stopped}
use Rattle.tm_locations.specs.Locations.{AreLocations}
use Rattle.tm_design.specs.Parameters.{called_by}
use Rattle.tm_design.proofs.Contexts.{some_cells, some_design}
use Rattle.tm_flat.specs.Fitting.{BodyFits, CallFits}
use Rattle.tm_flat.specs.Inputs.{room}
use Rattle.tm_flat_stmts.specs.Flows.{FlowTerms, Stops}
use Rattle.tm_flat_stmts.proofs.Leaving.{leaves_stop}
use Rattle.tm_flat_stmts.proofs.Pieces.{stops_there}
use Rattle.tm_flat_bodies.specs.declared.called.CalledTask.{CalledTask}
use Rattle.tm_flat_bodies.specs.declared.course.Course.{Course}
use Rattle.tm_flat_bodies.specs.declared.stand.Stand.{Stand}
use Rattle.tm_design.specs.Callees.{IsCallee}
use Rattle.tm_flat_bodies.specs.Inner.Passing.{CallWalks, IsCalled}
use Rattle.tm_flat_bodies.specs.Walks.{AreWalkable, IsStand, IsStanding, IsTrailOf, LeadsAt, WalkTables}
use Rattle.tm_flat_bodies.proofs.TrailNumbers.{number_within}

-- ---- runs that stop
module _ (w : WalkTables) (f : Stand) (at : Place) (number : ℕ)
    (told : (d : DesignTree) (p : ℕ) → AreLocations w.locations d p → (calls : List Place) →
    IsTrailOf w.locations f.trail calls → number ≡ location_number d p at calls) where
  pub stop_leads : (from now : Course) (flow : FlowTerms) → IsStanding w from flow →
      Stops from.terms now.terms number flow from.ends now.ends →
      LeadsAt w f (λ r trail k v. stopped at trail) (λ r k. None) (λ r k i. false) from now flow None
  stop_leads from now flow standing stops d p has are trail is = record {
    goes =
        stops_there w.tables (λ at calls. Some (location_number d p at calls)) at trail number from.terms now.terms flow
        from.ends now.ends (ap Some (sym (told d p are trail is))) standing.stands standing.ended stops;
    leaves = λ i none. leaves_stop i from.terms now.terms number flow from.ends now.ends stops;
  }

  pub stop_within : AreWalkable w → IsStand w f → (from : Course) (flow : FlowTerms) → IsStanding w from flow →
      number < length from.ends.stops
  stop_within walkable stand from flow standing =
      let same = told walkable.design walkable.process walkable.are stand.calls stand.trail in
      let below = number_within w.locations walkable.design walkable.process walkable.are at stand.calls in
      let long = standing.count in
      omega (arith, same, below, long)

-- ---- tasks that are called
-- a path that leads to a task calls something
pub calls_something : (x : CellTables) (from at : SiteBody) (names : List Ident) (task : TaskDef) →
    IsCallee x from names at task → ((d : DesignTree) → HasCells x d → called d (scope_of from) names ≡ None) → ⊥
calls_something x from at names task is none =
    let runs = is.runs (some_design x) (some_cells x) in
    none-some runs.called (sym (none (some_design x) (some_cells x)) ∙ runs.is)

-- a task that is called stands in an instance
homeless : (d : DesignTree) (n : ℕ) (b : BodyName) (c : Called) → called_by d n b ≡ Some c → site d n ≡ None → ⊥
homeless d n (Process k) c there nowhere = none-some c there
homeless d n (Task k) c there nowhere =
    none-some c (sym (ap (option_and_then (λ (s : Site). task_called d s k)) nowhere) ∙ there)
homeless d n Outside c there nowhere = none-some c there

pub has_home : (x : CellTables) (from at : SiteBody) (names : List Ident) (task : TaskDef) →
    IsCallee x from names at task → site (some_design x) at.instance ≡ None → ⊥
has_home x from at names task is nowhere =
    let runs = is.runs (some_design x) (some_cells x) in
    homeless (some_design x) at.instance at.body runs.called runs.by nowhere

-- where calls fit, they may nest deeper
deeper : (n : ℕ) (d : DesignTree) (scope : Scope) (names : List Ident) (k : ℕ) (c : Called) →
    called d scope names ≡ Some c → CallFits (BodyFits room n d) d scope names k → n ≡ suc (n - 1)
deeper zero d scope names k c is fits =
    let never : ⊥ = subst (λ o. MatchOption o (Unit {0}) (λ c. BodyFits room zero d c k)) is fits in absurd never
deeper (suc m) d scope names k c is fits = omega arith

pub is_deeper : (w : WalkTables) (f : Stand) (names : List Ident) → AreWalkable w → CallWalks w f names →
    f.depth ≡ suc (f.depth - 1)
is_deeper w f names walkable walks =
    let has : HasCells f.reader.tables walkable.design =
    subst (λ (x : CellTables). HasCells x walkable.design) (sym walks.stand.tables) walkable.cells in
    let runs = walks.is.runs walkable.design has in
    deeper f.depth walkable.design (scope_of f.reader.at) names walks.from runs.called runs.is
    (walks.fits walkable.design walkable.process walkable.cells walkable.are)

pub is_called : (w : WalkTables) (f : Stand) (names : List Ident) → AreWalkable w → CallWalks w f names →
    (k : CalledTask) → IsCallee w.tables f.reader.at names k.stand.reader.at k.task.now →
    k.stand.reader.tables ≡ w.tables → k.stand.depth ≡ f.depth - 1 →
    ((calls : List Place) → IsTrailOf w.locations f.trail calls →
    IsTrailOf w.locations k.stand.trail (call_place names ++ calls)) → IsCalled w f names k
is_called w f names walkable walks k callee tables depth trail = record {
  callee = callee;
  tables = tables;
  depth = is_deeper w f names walkable walks ∙ ap suc (sym depth);
  trail = trail;
}
