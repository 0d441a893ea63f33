-- What the parts of a text are as plain data.
use Rattle.std.specs.Prelude.{◌≡◌, List, ◌++◌, map}
use Rattle.std.specs.Borrow.{Bor}
use Rattle.std.specs.List.{flat_map}
use Rattle.std.specs.Option.{option_map, option_to_list}
use Rattle.tm_syntax.specs.declared.tree.Body.{Body}
use Rattle.tm_syntax.specs.declared.tree.Spec.{Spec}
use Rattle.tm_syntax.specs.declared.tree.Template.{Template}
use Rattle.tm_syntax.specs.Tree.{NamedTree, SpecTree, TemplateTree}
use Rattle.tm_syntax.specs.Tree.View.{body_tree, spec_tree, template_tree}
use Rattle.tm_syntax.specs.Scopes.Context.{Context, outside}
use Rattle.tm_syntax.specs.Scopes.Parts as text
use Rattle.tm_syntax.specs.Scopes.Parts.{BodyAt, ExprAt}
use Rattle.tm_scope.specs.Context.{BodyPlace, context_of}
use Rattle.tm_scope.specs.declared.context.BodyName.TheVariants.{Outside}
use Rattle.tm_names.specs.Asked.{asked_of}
use Rattle.tm_names.specs.declared.parts.asked.Asked.{Asked}
use Rattle.tm_types.specs.declared.parts.DividedText.{DividedText}
use Rattle.tm_types.specs.declared.parts.TextHead.{TextHead}
use Rattle.tm_types.specs.declared.parts.TextPart.{TextPart}

-- an expression, where it stands
abbrev pub placed : Context → text.Asked → ExprAt
placed c a = record { context = c; asked = a }

-- an expression of the code at a site
abbrev pub expr_at : BodyPlace → Asked → ExprAt
expr_at at a = placed (context_of at) (asked_of a)

-- the body that a part is, if it is one
abbrev pub bodies_of : TextPart → List BodyAt
bodies_of p =
    option_to_list (option_map (λ (b : Bor Body). record { context = context_of p.site; body = body_tree b.now })
    p.body)

-- the expressions of a part
abbrev pub exprs_of : TextPart → List ExprAt
exprs_of p = map (expr_at p.site) p.exprs.items

-- parts hold these bodies and these expressions
pub record Hold (parts : List TextPart) (bs : List BodyAt) (es : List ExprAt) : Type 0 where
  pub bodies : flat_map bodies_of parts ≡ bs
  pub exprs : flat_map exprs_of parts ≡ es

-- parts hold these bodies and expressions behind those that they held
abbrev pub HoldMore : List TextPart → List TextPart → List BodyAt → List ExprAt → Type 0
HoldMore old new bodies exprs = Hold new (flat_map bodies_of old ++ bodies) (flat_map exprs_of old ++ exprs)

-- the parts of a text
abbrev pub AreTextParts : SpecTree → List TextPart → Type 0
AreTextParts spec parts = Hold parts (text.bodies spec) (text.exprs spec)

-- the expressions of a body
abbrev pub exprs_of_body : BodyAt → List ExprAt
exprs_of_body b = map (placed b.context) (text.body_exprs b)

-- goals and fairness conditions, with the type that is asked for
abbrev pub conditions_of : List NamedTree → List text.Asked
conditions_of ns = map (λ (n : NamedTree). text.condition n.expr) ns

-- what stands outside of the bodies of a template
abbrev pub outside_of : SpecTree → TemplateTree → Context
outside_of spec t = record { spec = spec; template = t; body = outside }

-- the goals and fairness conditions of a template
abbrev pub outside_exprs : SpecTree → TemplateTree → List ExprAt
outside_exprs spec t = map (λ (n : NamedTree). placed (outside_of spec t) (text.condition n.expr)) (t.goals ++ t.fairs)

-- a template, and where its declarations stand
pub record PlacedTemplate : Type 0 where
  pub place : BodyPlace
  pub template : Template

-- what a head is as such
abbrev pub head_at : TextHead → PlacedTemplate
head_at h = record { place = h.site; template = h.template.now }

-- a template of a specification, outside of its bodies
abbrev pub head_in : Spec → Template → PlacedTemplate
head_in spec t = record { place = record { spec = spec; template = t; body = Outside }; template = t }

-- the heads of the templates of a specification
abbrev pub AreTextHeads : Spec → List TextHead → Type 0
AreTextHeads spec heads = map head_at heads ≡ map (head_in spec) spec.templates.items

-- a head stands in its own template
abbrev pub IsOwnHead : TextHead → Type 0
IsOwnHead h = h.site.template ≡ h.template.now

-- what is found in the head of a template of a text
abbrev pub in_head : {X : Type 0} → (SpecTree → TemplateTree → List X) → TextHead → List X
in_head found h = found (spec_tree h.site.spec) (template_tree h.template.now)

-- a text is divided: these are its names, the heads of its templates, and its parts
pub record IsDivided (spec : Spec) (text : DividedText) : Type 0 where
  pub names : text.names.now ≡ spec
  pub heads : AreTextHeads spec text.heads.items
  pub parts : AreTextParts (spec_tree spec) text.parts.items
