-- Where the text of a body stands, and the types of its expressions.
use Rattle.std.proofs.Common.{◌≡◌, ℕ, Option, None, Some, List, [], map, refl, ap, ◌∙◌, subst, slice_get}
use Rattle.std.specs.Prelude.{unwrap_or}
use Rattle.std.specs.Option.{option_map, option_and_then}
use Rattle.tm_syntax.specs.declared.tree.Ident.{Ident}
use Rattle.tm_syntax.specs.declared.design.Instance.{Instance}
use Rattle.tm_syntax.specs.declared.tree.BinaryOperator.{BinaryOperator}
use Rattle.tm_syntax.specs.declared.design.Ty.{Ty}
use Rattle.tm_syntax.specs.declared.design.Ty.TheVariants as types
use Rattle.tm_syntax.specs.declared.tree.Template.{Template}
use Rattle.tm_syntax.specs.Tree.{ExprTree}
use Rattle.tm_syntax.specs.Tree.View.{spec_tree, template_tree}
use Rattle.tm_syntax.specs.Scopes.Context.{Context}
use Rattle.tm_syntax.specs.Scopes.Types.{either_type, own_type, valued_in, array_length}
use Rattle.tm_syntax.specs.Design.{DesignTree, instance_node}
use Rattle.tm_syntax.specs.Design.Scope.{Site, site, context, type_in, length_in, index_type, operand_type}
use Rattle.tm_scope.specs.Cells.{CellTables, HasCells, ScopedCells, scope_of}
use Rattle.tm_scope.specs.Context.{body_name}
use Rattle.tm_scope.proofs.CellSites.{site-absent, site-without, site-here}
use Rattle.tm_typing.proofs.Valuing.{valued}
use Rattle.tm_design.specs.Typed.{context_at, HasTypeAt}

-- a design of these tables
abbrev pub some_design : CellTables → DesignTree
some_design x = record {
  spec = spec_tree x.spec;
  instances = map instance_node x.instances;
  vars = x.vars;
  processes = [];
  tasks = [];
  goals = [];
  fairs = [];
}

pub some_cells : (x : CellTables) → HasCells x (some_design x)
some_cells x = record { text = refl; instances = refl; vars = refl }

abbrev pub of_site : DesignTree → ScopedCells → Site → Context
of_site d s t = record { spec = d.spec; template = t.template; body = body_name s.at.body }

abbrev of_template : ScopedCells → Template → Context
of_template s t = record { spec = spec_tree s.tables.spec; template = template_tree t; body = body_name s.at.body }

abbrev of_instance : ScopedCells → Instance → Option Context
of_instance s i = option_map (of_template s) (slice_get s.tables.spec.templates.items i.template)

module _ (s : ScopedCells) (d : DesignTree) (has : HasCells s.tables d) where
  by_template : (i : Instance) (o : Option Template) → slice_get s.tables.instances s.at.instance ≡ Some i →
      slice_get s.tables.spec.templates.items i.template ≡ o →
      option_map (of_site d s) (site d s.at.instance) ≡ option_map (of_template s) o
  by_template i None there none =
      ap (option_map (of_site d s)) (site-without s.tables d has s.at.instance i there none)
  by_template i (Some t) there here =
      ap (option_map (of_site d s)) (site-here s.tables d has s.at.instance i there t here)
      ∙ (λ j. Some (record { spec = has.text j; template = template_tree t; body = body_name s.at.body }))

  by_instance : (o : Option Instance) → slice_get s.tables.instances s.at.instance ≡ o →
      context d (scope_of s.at) ≡ option_and_then (of_instance s) o
  by_instance None none = ap (option_map (of_site d s)) (site-absent s.tables d has s.at.instance none)
  by_instance (Some i) there = by_template i (slice_get s.tables.spec.templates.items i.template) there refl

-- the context of a body in a design with these tables
pub context_here : (s : ScopedCells) (d : DesignTree) → HasCells s.tables d → context d (scope_of s.at) ≡ context_at s
context_here s d has = by_instance s d has (slice_get s.tables.instances s.at.instance) refl

module _ (s : ScopedCells) (c : Context) (stands : context_at s ≡ Some c) (d : DesignTree) (has : HasCells s.tables d)
  where
    pub context_is : context d (scope_of s.at) ≡ Some c
    context_is = context_here s d has ∙ stands

    -- an own type by the context
    pub type_is : (e : ExprTree) → type_in d (scope_of s.at) e ≡ own_type c e
    type_is e = ap (option_and_then (λ c. own_type c e)) context_is

    -- the length of an array by the context
    pub length_is : (names : List Ident) → length_in d (scope_of s.at) names ≡ array_length c names
    length_is names = ap (option_and_then (λ c. array_length c names)) context_is

-- an expression is valued in its type
pub valued_here : (s : ScopedCells) (ty : Ty) (e : ExprTree) → HasTypeAt s ty e → (d : DesignTree) →
    HasCells s.tables d → valued_in ty (type_in d (scope_of s.at) e) ≡ ty
valued_here s ty e h d has = ap (valued_in ty) (type_is s h.context h.stands d has e) ∙ valued h.typed

-- two that are valued in a type are joined in it
pub joined_in : (ty : Ty) (first second : Option Ty) → valued_in ty first ≡ ty → valued_in ty second ≡ ty →
    valued_in ty (either_type first second) ≡ ty
joined_in ty None second a b = b
joined_in ty (Some s) second a b = a

-- the length that tables find of an array, 0 where there is none
pub length_by_tables : (s v : ScopedCells) → s ≡ v → (found : Option ℕ) (names : List Ident) →
    ((d : DesignTree) → HasCells s.tables d → found ≡ length_in d (scope_of s.at) names) →
    (c : Context) → context_at v ≡ Some c → unwrap_or found 0 ≡ unwrap_or (array_length c names) 0
length_by_tables s v same found names tells c stands =
    ap (λ o. unwrap_or o 0) (tells (some_design s.tables) (some_cells s.tables)
    ∙ length_is s c (ap context_at same ∙ stands) (some_design s.tables) (some_cells s.tables) names)

-- what is found of types by one view of a body is so by another one
pub valued_told : (s v : ScopedCells) → s ≡ v → (asked : Ty) (e : ExprTree) (ty : Ty) →
    ((d : DesignTree) → HasCells s.tables d → ty ≡ valued_in asked (type_in d (scope_of s.at) e)) →
    (d : DesignTree) → HasCells v.tables d → ty ≡ valued_in asked (type_in d (scope_of v.at) e)
valued_told s v same asked e ty told =
    subst (λ (w : ScopedCells). (d : DesignTree) → HasCells w.tables d →
    ty ≡ valued_in asked (type_in d (scope_of w.at) e)) same told

pub index_told : (s v : ScopedCells) → s ≡ v → (e : ExprTree) (ty : Ty) →
    ((d : DesignTree) → HasCells s.tables d → ty ≡ index_type d (scope_of s.at) e) →
    (d : DesignTree) → HasCells v.tables d → ty ≡ index_type d (scope_of v.at) e
index_told s v same e ty told = valued_told s v same (types.Uint 64) e ty told

pub operand_told : (s v : ScopedCells) → s ≡ v → (op : BinaryOperator) (asked : Ty) (a b : ExprTree) (ty : Ty) →
    ((d : DesignTree) → HasCells s.tables d → ty ≡ operand_type d (scope_of s.at) op asked a b) →
    (d : DesignTree) → HasCells v.tables d → ty ≡ operand_type d (scope_of v.at) op asked a b
operand_told s v same op asked a b ty told =
    subst (λ (w : ScopedCells). (d : DesignTree) → HasCells w.tables d →
    ty ≡ operand_type d (scope_of w.at) op asked a b) same told
