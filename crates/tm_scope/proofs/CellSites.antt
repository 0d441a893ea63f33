-- The site of a body of an instance, and what its tables say of it.
use Rattle.std.proofs.Common.{◌≡◌, ℕ, Bool, false, Option, None, Some, List, [], ◌∷◌, slice_get, refl, sym, ap, ◌∙◌, subst}
use Rattle.std.specs.Option.{option_map, option_and_then, option_map_or}
use Rattle.tm_syntax.specs.declared.design.Instance.{Instance}
use Rattle.tm_syntax.specs.declared.tree.Ident.{Ident}
use Rattle.tm_syntax.specs.declared.tree.Template.{Template}
use Rattle.tm_syntax.specs.Tree.View.{spec_tree, template_tree}
use Rattle.tm_syntax.specs.Scopes.Context.{Frame, frame_of, slot_of}
use Rattle.tm_syntax.specs.Design.{DesignTree, instance_node}
use Rattle.tm_syntax.specs.Design.Scope.{Site, site, site_along, context}
use Rattle.tm_scope.specs.Cells.{CellTables, HasCells, frame_in, scope_of, slot_in, slots_in}
use Rattle.tm_scope.specs.Context.{BodyPlace, body_name, context_of}
use Rattle.tm_scope.specs.Inner.CellScopes.{IsCellScope, frame_name}
use Rattle.tm_scope.specs.Instances.{InstanceTables, bare_design}
use Rattle.tm_scope.specs.Inner.Slots.{slot_number}
use Rattle.tm_scope.specs.Inner.Tables.{BodySlots}
use Rattle.tm_scope.specs.Members.{numbered_slot, body_slots}
use Rattle.tm_scope.proofs.BodySlots.{slot_of-body}
use Rattle.tm_scope.specs.declared.cells.site_body.SiteBody.{SiteBody}
use Rattle.tm_scope.specs.declared.members.SlotNumber.{SlotNumber}
use Rattle.tm_scope.proofs.SiteSteps.{no_instance, no_template, onward, same_site, same_site_along, site-read}

-- the instances of the tables of cells
abbrev pub instances_of : CellTables → InstanceTables
instances_of x = record { spec = x.spec; instances = x.instances }

-- the site of a number, in a design with these tables
module _ (x : CellTables) (d : DesignTree) (has : HasCells x d) where
  site-bare : (n : ℕ) → site d n ≡ site (bare_design (instances_of x)) n
  site-bare n = same_site d (bare_design (instances_of x)) has.text has.instances n

  pub site-absent : (n : ℕ) → slice_get x.instances n ≡ None → site d n ≡ None
  site-absent n absent = site-bare n ∙ no_instance (instances_of x) n absent

  module _ (n : ℕ) (i : Instance) (there : slice_get x.instances n ≡ Some i) where
    pub site-without : slice_get x.spec.templates.items i.template ≡ None → site d n ≡ None
    site-without absent = site-bare n ∙ no_template (instances_of x) n i there absent

    pub site-here : (t : Template) → slice_get x.spec.templates.items i.template ≡ Some t →
        site d n ≡ Some (record { number = n; node = instance_node i; template = template_tree t })
    site-here t at = site-bare n ∙ site-read (instances_of x) n i there t at

  -- where a path leads, by the instances alone
  pub along-bare : (n : ℕ) (path : List Ident) →
      option_and_then (λ s. site_along d s path) (site d n)
      ≡ option_and_then (λ s. site_along (bare_design (instances_of x)) s path) (site (bare_design (instances_of x)) n)
  along-bare n path =
      onward d (bare_design (instances_of x)) has.text has.instances path
      (λ at. same_site_along d (bare_design (instances_of x)) has.text has.instances at path) (site d n)
      ∙ ap (option_and_then (λ s. site_along (bare_design (instances_of x)) s path)) (site-bare n)

  site-number : (r : Option ℕ) → option_and_then (site (bare_design (instances_of x))) r ≡ option_and_then (site d) r
  site-number None = refl
  site-number (Some n) = sym (site-bare n)

  -- the instance in which a path ends is that of the number to which the tables lead
  pub along-number : (n : ℕ) (path : List Ident) (r : Option ℕ) (t : InstanceTables) → t ≡ instances_of x →
      option_and_then (site (bare_design t)) r
      ≡ option_and_then (λ s. site_along (bare_design t) s path) (site (bare_design t) n) →
      option_and_then (λ s. site_along d s path) (site d n) ≡ option_and_then (site d) r
  along-number n path r t is leads =
      along-bare n path
      ∙ sym (subst (λ t. option_and_then (site (bare_design t)) r
      ≡ option_and_then (λ s. site_along (bare_design t) s path) (site (bare_design t) n)) is leads)
      ∙ site-number r

-- a body of an instance
module _ (x : CellTables) (at : SiteBody) (node : Instance) (place : BodyPlace) (name : List ℕ) (kept : Bool)
    (is : IsCellScope x at node place name kept) where
  -- the slots of the body
  pub slots-absent : slice_get x.spec.templates.items node.template ≡ None → slots_in x at ≡ None
  slots-absent absent =
      ap (option_and_then (λ (i : Instance). option_and_then (λ t. body_slots t at.body)
      (slice_get x.spec.templates.items i.template))) is.is_there
      ∙ ap (option_and_then (λ t. body_slots t at.body)) absent

  pub slots-read : (t : Template) → slice_get x.spec.templates.items node.template ≡ Some t →
      (o : Option BodySlots) → o ≡ body_slots t at.body → slots_in x at ≡ o
  slots-read t there o read =
      ap (option_and_then (λ (i : Instance). option_and_then (λ t. body_slots t at.body)
      (slice_get x.spec.templates.items i.template))) is.is_there
      ∙ ap (option_and_then (λ t. body_slots t at.body)) there
      ∙ sym read

  pub slots-place : slots_in x at ≡ body_slots place.template place.body
  slots-place =
      slots-read place.template is.of_template (body_slots place.template at.body) refl
      ∙ ap (body_slots place.template) (sym is.of_body)

  -- what the tables find of a name
  pub numbered-slot : (name : List ℕ) (o : Option BodySlots) →
      option_and_then (λ slot. option_and_then (λ body. numbered_slot body slot) o)
      (option_and_then (λ body. slot_number body name) o)
      ≡ option_and_then (λ body. option_and_then (numbered_slot body) (slot_number body name)) o
  numbered-slot name None = refl
  numbered-slot name (Some body) = refl

  -- the site of the body
  abbrev pub own_site : Site
  own_site = record { number = at.instance; node = instance_node node; template = template_tree place.template }

  module _ (d : DesignTree) (has : HasCells x d) where
    pub site-own : site d at.instance ≡ Some own_site
    site-own = site-here x d has at.instance node is.is_there place.template is.of_template

    pub context-own : context d (scope_of at) ≡ Some (context_of place)
    context-own =
        ap (option_map (λ (s : Site). record { spec = d.spec; template = s.template; body = body_name at.body }))
        site-own
        ∙ (λ i. Some (record {
          spec = (has.text ∙ ap spec_tree (sym is.of_text)) i;
          template = template_tree place.template;
          body = body_name (sym is.of_body i);
        }))

    pub slot-own : (path : List Ident) (name : Ident) (slot : Option SlotNumber) → path ≡ name ∷ [] →
        slot ≡ option_and_then (λ body. slot_number body name.text) (slots_in x at) →
        option_and_then (slot_in x at) slot ≡ option_and_then (λ c. slot_of c path) (context d (scope_of at))
    slot-own path name slot one found =
        ap (option_and_then (slot_in x at)) found
        ∙ numbered-slot name.text (slots_in x at)
        ∙ ap (option_and_then (λ body. option_and_then (numbered_slot body) (slot_number body name.text))) slots-place
        ∙ sym (ap (option_and_then (λ c. slot_of c path)) context-own
        ∙ ap (slot_of (context_of place)) one
        ∙ slot_of-body place.spec place.template place.body name)

    pub frame-own : frame_in d at
        ≡ frame_of (spec_tree x.spec) (template_tree place.template) (body_name at.body)
    frame-own =
        ap (option_and_then (λ (s : Site). frame_of d.spec s.template (body_name at.body))) site-own
        ∙ ap (λ spec. frame_of spec (template_tree place.template) (body_name at.body)) has.text

    pub kept-own : kept ≡ option_map_or (λ (f : Frame). f.kept) (frame_in d at) false
    kept-own = is.is_kept ∙ sym (ap (λ o. option_map_or (λ (f : Frame). f.kept) o false) frame-own)

    pub name-own : name ≡ frame_name d at
    name-own = is.is_name ∙ sym (ap (λ o. option_map_or (λ (f : Frame). f.name) o []) frame-own)
