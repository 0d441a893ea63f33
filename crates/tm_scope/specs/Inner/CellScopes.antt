-- What the tables of cells say.
use Rattle.std.specs.Prelude.{◌≡◌, ℕ, Bool, false, Some, List, [], slice_get}
use Rattle.std.specs.Option.{option_map_or}
use Rattle.tm_syntax.specs.declared.design.Instance.{Instance}
use Rattle.tm_syntax.specs.declared.design.Var.{Var}
use Rattle.tm_syntax.specs.declared.tree.Spec.{Spec}
use Rattle.tm_syntax.specs.Tree.View.{spec_tree, template_tree}
use Rattle.tm_syntax.specs.Scopes.Context.{Frame, frame_of}
use Rattle.tm_syntax.specs.Design.{DesignTree}
use Rattle.tm_scope.specs.Cells.{ArePausing, CellTables, frame_in}
use Rattle.tm_scope.specs.Context.{BodyPlace, body_name}
use Rattle.tm_scope.specs.Instances.{InstanceTables}
use Rattle.tm_scope.specs.declared.cells.site_body.SiteBody.{SiteBody}
use Rattle.tm_syntax.specs.declared.member.Member.{Member}

-- the tables of a text, of its instances, of the state variables, and the tasks that may pause belong together
pub record AreCellTables (x : CellTables) (text : Spec) (sites : InstanceTables) (vars : List Var)
    (pausing : List Member) : Type 0
  where
    pub of_text : text ≡ x.spec
    pub of_instances : sites ≡ record { spec = x.spec; instances = x.instances }
    pub of_vars : vars ≡ x.vars
    pub are_pausing : ArePausing (spec_tree x.spec) pausing

-- a body of an instance, with the tables of its template, its name, and whether its parameters and locals are kept
pub record IsCellScope (x : CellTables) (at : SiteBody) (node : Instance) (place : BodyPlace) (name : List ℕ)
    (kept : Bool) : Type 0
  where
    pub is_there : slice_get x.instances at.instance ≡ Some node
    pub of_template : slice_get x.spec.templates.items node.template ≡ Some place.template
    pub of_text : place.spec ≡ x.spec
    pub of_body : place.body ≡ at.body
    pub is_name : name ≡ option_map_or (λ (f : Frame). f.name)
        (frame_of (spec_tree x.spec) (template_tree place.template) (body_name at.body)) []
    pub is_kept : kept ≡ option_map_or (λ (f : Frame). f.kept)
        (frame_of (spec_tree x.spec) (template_tree place.template) (body_name at.body)) false

-- the name of a body of an instance, empty where there is no body
abbrev pub frame_name : DesignTree → SiteBody → List ℕ
frame_name d at = option_map_or (λ (f : Frame). f.name) (frame_in d at) []
