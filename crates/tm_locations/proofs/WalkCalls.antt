-- The steps of a walk of locations at calls.
use Rattle.std.proofs.Common.{◌≡◌, ℕ, suc, ◌≤◌, Bool, false, Option, None, Some, List, [], ◌++◌, refl, sym, ap, ◌∙◌}
use Rattle.std.proofs.lemmas.Option.{none-some, same_Some}
use Rattle.std.specs.Option.{option_map, option_map_or}
use Rattle.tm_base.specs.declared.place.Place.{Place}
use Rattle.tm_syntax.specs.declared.tree.Ident.{Ident}
use Rattle.tm_syntax.specs.Tree.{BodyTree, TaskTree, TemplateTree, row_of}
use Rattle.tm_syntax.specs.Scopes.Pauses.{call_depth, body_pauses}
use Rattle.tm_syntax.specs.Design.{DesignTree}
use Rattle.tm_syntax.specs.Design.Cells.{Called, called}
use Rattle.tm_syntax.specs.Design.Locations.{row_locations, body_locations}
use Rattle.tm_syntax.specs.Design.Scope.{Scope, Site, site}
use Rattle.tm_syntax.specs.Design.Work.{WorkItem, call_place}
use Rattle.tm_locations.specs.Locations.{LeadsByText}
use Rattle.tm_scope.specs.Marks.{pauses_at}
use Rattle.tm_scope.specs.Members.{task_at}
use Rattle.tm_locations.specs.Inner.Walks.{call_locations, seen}
use Rattle.tm_syntax.specs.declared.member.Member.{Member}
use Rattle.tm_locations.proofs.QuietBodies.{locals-quiet, quiet_bodies}

-- what is seen of a called body
abbrev pub told : Called → Scope × BodyTree
told k = seen k.scope k.body

module _ (d : DesignTree) (scope : Scope) (names : List Ident) where
  -- nothing is called
  pub uncalled : None ≡ option_map told (called d scope names) → (depth : ℕ) (trail : List Place)
      (items : List WorkItem) → call_locations depth d scope trail names items ≡ []
  uncalled none depth trail items = by (called d scope names) none
    where
      by : (o : Option Called) → None ≡ option_map told o →
          option_map_or (λ (k : Called). body_locations depth d k.scope (call_place names ++ trail) k.body items) o []
          ≡ []
      by None e = refl
      by (Some k) e = absurd (none-some (told k) e)

  -- no more calls may nest
  pub too-deep : (trail : List Place) (items : List WorkItem) → call_locations 0 d scope trail names items ≡ []
  too-deep trail items = by (called d scope names)
    where
      by : (o : Option Called) →
          option_map_or (λ (k : Called). body_locations 0 d k.scope (call_place names ++ trail) k.body items) o [] ≡ []
      by None = refl
      by (Some k) = refl

  module _ (inner : Scope) (body : BodyTree) (is : Some (inner, body) ≡ option_map told (called d scope names)) where
    -- the locations of what is called are those of its body
    called-locations : (depth : ℕ) (trail : List Place) (items : List WorkItem) →
        call_locations depth d scope trail names items
        ≡ body_locations depth d inner (call_place names ++ trail) body items
    called-locations depth trail items = by (called d scope names) is
      where
        by : (o : Option Called) → Some (inner, body) ≡ option_map told o →
            option_map_or (λ (k : Called). body_locations depth d k.scope (call_place names ++ trail) k.body items) o []
            ≡ body_locations depth d inner (call_place names ++ trail) body items
        by None e = absurd (none-some (inner, body) (sym e))
        by (Some k) e =
            ap (λ (p : Scope × BodyTree). body_locations depth d p.0 (call_place names ++ trail) p.1 items)
            (sym (same_Some (inner, body) (told k) e))

    -- what is called does not pause
    pub quiet-called : LeadsByText d → (depth : ℕ) → depth ≤ call_depth d.spec → (s : Site) →
        site d inner.instance ≡ Some s → body_pauses (call_depth d.spec) d.spec s.template body ≡ false →
        (trail : List Place) (items : List WorkItem) → call_locations depth d scope trail names items ≡ []
    quiet-called by_text depth deep s there quiet trail items =
        called-locations depth trail items
        ∙ quiet_bodies d by_text depth (call_depth d.spec) deep inner s there (call_place names ++ trail) body items
        quiet

    -- what is called is walked
    pub entered : (depth n : ℕ) → depth ≡ suc n → (trail : List Place) (items : List WorkItem) →
        call_locations depth d scope trail names items
        ≡ row_locations (call_locations n d inner (call_place names ++ trail)) inner (call_place names ++ trail)
        (row_of body.stmts) items
    entered depth n is_suc trail items =
        called-locations depth trail items
        ∙ ap (λ k. body_locations k d inner (call_place names ++ trail) body items) is_suc
        ∙ locals-quiet (call_locations n d inner (call_place names ++ trail)) inner (call_place names ++ trail)
        body.locals body.stmts items

-- a task that is not among those that may pause does not
pub unmarked : (d : DesignTree) (m : Member) (t : TemplateTree) (k : TaskTree) (marked : Bool) →
    marked ≡ pauses_at d.spec m → marked ≡ false → task_at d.spec m ≡ Some (t, k) →
    body_pauses (call_depth d.spec) d.spec t k.body ≡ false
unmarked d m t k marked tells off is =
    sym (ap (λ o. option_map_or (λ (p : TemplateTree × TaskTree).
    body_pauses (call_depth d.spec) d.spec p.0 p.1.body) o false) is)
    ∙ sym tells ∙ off
