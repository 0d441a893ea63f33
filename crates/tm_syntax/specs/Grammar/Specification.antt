-- The grammar of a whole specification.
use Rattle.std.specs.Prelude.{ℕ, ◌+◌, Option, Some, None, List, [], ◌∷◌, ◌++◌}
use Rattle.std.specs.List.{filter_map}
use Rattle.tm_syntax.specs.declared.token.Token.{Token}
use Rattle.tm_syntax.specs.declared.token.TokenKind.TheVariants as token
use Rattle.tm_syntax.specs.declared.token.Word.TheVariants as word
use Rattle.tm_syntax.specs.declared.token.Sign.TheVariants as sign
use Rattle.tm_syntax.specs.declared.tree.Ident.{Ident}
use Rattle.tm_syntax.specs.declared.tree.Port.{Port}
use Rattle.tm_syntax.specs.Tree.{InstanceTree, VarTree, NamedTree, ProcessTree, TaskTree, EnumTree, TemplateTree, SpecTree}
use Rattle.tm_syntax.specs.Grammar.Parts.{Has, IsName, AreEach, AreParted, MayBeEnclosed}
use Rattle.tm_syntax.specs.Grammar.Declarations.{IsInstance, IsVar, IsNamed, IsProcess, IsTask}

-- one declaration of a template
pub data DeclTree : Type 0 where
  an_instance : InstanceTree → DeclTree
  a_variable : VarTree → DeclTree
  a_goal : NamedTree → DeclTree
  a_fairness : NamedTree → DeclTree
  a_process : ProcessTree → DeclTree
  a_task : TaskTree → DeclTree

-- the instance that a declaration makes, if it makes one
abbrev pub instance_of : DeclTree → Option InstanceTree
instance_of (an_instance d) = Some d
instance_of _ = None

-- the variable that a declaration makes, if it makes one
abbrev pub variable_of : DeclTree → Option VarTree
variable_of (a_variable d) = Some d
variable_of _ = None

-- the goal that a declaration makes, if it makes one
abbrev pub goal_of : DeclTree → Option NamedTree
goal_of (a_goal d) = Some d
goal_of _ = None

-- the fairness condition that a declaration makes, if it makes one
abbrev pub fairness_of : DeclTree → Option NamedTree
fairness_of (a_fairness d) = Some d
fairness_of _ = None

-- the process that a declaration makes, if it makes one
abbrev pub process_of : DeclTree → Option ProcessTree
process_of (a_process d) = Some d
process_of _ = None

-- the task or procedure that a declaration makes, if it makes one
abbrev pub task_of : DeclTree → Option TaskTree
task_of (a_task d) = Some d
task_of _ = None

-- a template of these declarations: those of each kind in text order
abbrev pub template_of : Ident → List Port → List DeclTree → TemplateTree
template_of name ports decls = record {
  name = name;
  ports = ports;
  instances = filter_map instance_of decls;
  vars = filter_map variable_of decls;
  goals = filter_map goal_of decls;
  fairs = filter_map fairness_of decls;
  processes = filter_map process_of decls;
  tasks = filter_map task_of decls;
}

-- decl
pub data IsDecl (text : List ℕ) (May : List Token → ℕ → Type 0) (depth : ℕ) :
    DeclTree → List Token → List Token → Type 0 where
  decl_instance : {d : InstanceTree} {a b : List Token} → IsInstance text May depth d a b →
      IsDecl text May depth (an_instance d) a b
  decl_variable : {d : VarTree} {a b : List Token} → IsVar text d a b → IsDecl text May depth (a_variable d) a b
  decl_goal : {d : NamedTree} {a b c : List Token} → Has (token.Word word.Goal) a b → IsNamed text May depth d b c →
      IsDecl text May depth (a_goal d) a c
  decl_fair : {d : NamedTree} {a b c : List Token} → Has (token.Word word.Fair) a b → IsNamed text May depth d b c →
      IsDecl text May depth (a_fairness d) a c
  decl_process : {d : ProcessTree} {a b : List Token} → IsProcess text May depth d a b →
      IsDecl text May depth (a_process d) a b
  decl_task : {d : TaskTree} {a b : List Token} → IsTask text May depth d a b → IsDecl text May depth (a_task d) a b

-- port = NAME NAME
pub data IsPort (text : List ℕ) : Port → List Token → List Token → Type 0 where
  port : {template name : Ident} {a b c : List Token} → IsName text template a b → IsName text name b c →
      IsPort text (record { template = template; name = name }) a c

-- "template" NAME [ "(" port { "," port } ")" ] { decl } "endtemplate"
pub data IsTemplate (text : List ℕ) (May : List Token → ℕ → Type 0) (depth : ℕ) :
    TemplateTree → List Token → List Token → Type 0 where
  template : {name : Ident} {ports : List Port} {decls : List DeclTree} {a b c d e f : List Token} →
      Has (token.Word word.Template) a b → IsName text name b c → MayBeEnclosed May depth (IsPort text) ports c d →
      AreEach (IsDecl text May depth) decls d e → Has (token.Word word.EndTemplate) e f →
      IsTemplate text May depth (template_of name ports decls) a f

-- "typedef" "enum" "{" NAME { "," NAME } "}" NAME ";"
pub data IsEnum (text : List ℕ) (May : List Token → ℕ → Type 0) (depth : ℕ) :
    EnumTree → List Token → List Token → Type 0 where
  enum : {name : Ident} {constants : List Ident} {a b c d e f g h : List Token} →
      Has (token.Word word.Typedef) a b → Has (token.Word word.Enum) b c → Has (token.Sign sign.OpenBrace) c d →
      May c (depth + 1) → AreParted sign.Comma (IsName text) constants d e →
      Has (token.Sign sign.CloseBrace) e f → IsName text name f g →
      Has (token.Sign sign.Semicolon) g h →
      IsEnum text May depth (record { name = name; constants = constants }) a h

-- an item of a specification
pub data ItemTree : Type 0 where
  an_enum : EnumTree → ItemTree
  a_template : TemplateTree → ItemTree

-- the enum that an item is, if it is one
abbrev pub enum_of : ItemTree → Option EnumTree
enum_of (an_enum d) = Some d
enum_of _ = None

-- the template that an item is, if it is one
abbrev pub template_in : ItemTree → Option TemplateTree
template_in (a_template t) = Some t
template_in _ = None

-- item
pub data IsItem (text : List ℕ) (May : List Token → ℕ → Type 0) (depth : ℕ) :
    ItemTree → List Token → List Token → Type 0 where
  item_enum : {d : EnumTree} {a b : List Token} → IsEnum text May depth d a b → IsItem text May depth (an_enum d) a b
  item_template : {t : TemplateTree} {a b : List Token} → IsTemplate text May depth t a b →
      IsItem text May depth (a_template t) a b

-- a specification of these items: its enums and its templates, each in text order
abbrev pub spec_of : List ItemTree → SpecTree
spec_of items = record { enums = filter_map enum_of items; templates = filter_map template_in items }

-- spec = item { item }, before which no level is open
pub data IsSpec (text : List ℕ) (May : List Token → ℕ → Type 0) : SpecTree → List Token → List Token → Type 0 where
  spec : {items : List ItemTree} {last : ItemTree} {a b c : List Token} →
      AreEach (IsItem text May 0) items a b → IsItem text May 0 last b c →
      IsSpec text May (spec_of (items ++ last ∷ [])) a c
