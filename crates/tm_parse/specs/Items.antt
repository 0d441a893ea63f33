-- Declarations and items, from the left to the right.
use Rattle.std.specs.Prelude.{◌≡◌, ℕ, Bool, true, false, Option, Some, None, List, [], ◌++◌}
use Rattle.std.specs.List.{filter_map}
use Rattle.tm_syntax.specs.declared.token.Token.{Token}
use Rattle.tm_syntax.specs.declared.token.TokenKind.{TokenKind}
use Rattle.tm_syntax.specs.declared.token.TokenKind.TheVariants as token
use Rattle.tm_syntax.specs.declared.token.Word.TheVariants as word
use Rattle.tm_syntax.specs.declared.tree.Ident.{Ident}
use Rattle.tm_syntax.specs.declared.tree.Param.{Param}
use Rattle.tm_syntax.specs.declared.tree.Port.{Port}
use Rattle.tm_syntax.specs.declared.tree.TypeName.{TypeName}
use Rattle.tm_syntax.specs.declared.tree.TaskKind.{TaskKind}
use Rattle.tm_syntax.specs.declared.tree.TaskKind.TheVariants as kind
use Rattle.tm_syntax.specs.Tree.{BodyTree, InstanceTree, VarTree, NamedTree, ProcessTree, TaskTree, EnumTree, TemplateTree, SpecTree}
use Rattle.tm_syntax.specs.Tree.View.{instance_tree, var_tree, named_tree, process_tree, task_tree, enum_tree, template_tree}
use Rattle.tm_syntax.specs.Grammar.Parts.{Has, IsName, AreEach, MayBeEnclosed}
use Rattle.tm_syntax.specs.Grammar.Statements.{IsType}
use Rattle.tm_syntax.specs.Grammar.Declarations.{IsInstance, IsVar, IsNamed, IsProcess, IsParam}
use Rattle.tm_syntax.specs.Grammar.Specification.{DeclTree, an_instance, a_variable, a_goal, a_fairness, a_process, a_task, instance_of, variable_of, goal_of, fairness_of, process_of, task_of, IsPort, IsTemplate, IsEnum, ItemTree, an_enum, a_template, enum_of, template_in, IsItem, IsSpec}
use Rattle.tm_parse.specs.Reading.{Reach, IsBound}
use Rattle.tm_parse.specs.Commands.{InArguments, ABraced, AnAnswering}
use Rattle.tm_parse.specs.declared.specification.DeclSort.{DeclSort}
use Rattle.tm_parse.specs.declared.specification.DeclSort.TheVariants as sort
use Rattle.tm_parse.specs.declared.specification.Declaration.{Declaration}
use Rattle.tm_parse.specs.declared.specification.Declaration.TheVariants as declared
use Rattle.tm_parse.specs.declared.specification.ItemDef.{ItemDef}
use Rattle.tm_parse.specs.declared.specification.ItemDef.TheVariants as item

-- a goal's or a fairness condition's name and expression
abbrev pub ANamed : List ℕ → ℕ → Reach → NamedTree → List Token → List Token → Type 0
ANamed text depth reach d a b = IsNamed text (IsBound reach) depth d a b

-- forms with commas between them, in parentheses, or nothing
abbrev pub InParentheses : ℕ → {X : Type 0} → (Reach → X → List Token → List Token → Type 0) → Reach → List X →
    List Token → List Token → Type 0
InParentheses depth {X} Is reach xs a b = MayBeEnclosed (IsBound reach) depth (Is reach) xs a b

-- the declaration of an instance, as a form
abbrev pub AnInstance : List ℕ → ℕ → Reach → InstanceTree → List Token → List Token → Type 0
AnInstance text depth reach d a b = IsInstance text (IsBound reach) depth d a b

-- the declaration of a process, as a form
abbrev pub AProcess : List ℕ → ℕ → Reach → ProcessTree → List Token → List Token → Type 0
AProcess text depth reach d a b = IsProcess text (IsBound reach) depth d a b

-- `lazy`, or nothing
pub data IsLaziness : Bool → List Token → List Token → Type 0 where
  not_lazy : {a : List Token} → IsLaziness false a a
  lazily : {a b : List Token} → Has (token.Word word.Lazy) a b → IsLaziness true a b

-- `task`, and whether the driver may call it
pub data IsTaskKind : TaskKind → List Token → List Token → Type 0 where
  controllable : {a b c : List Token} → Has (token.Word word.Task) a b → Has (token.Word word.Controllable) b c →
      IsTaskKind kind.Controllable a c
  uncontrollable : {a b c : List Token} → Has (token.Word word.Task) a b → Has (token.Word word.Uncontrollable) b c →
      IsTaskKind kind.Uncontrollable a c

-- a result's type, or `void`
pub data IsResult (text : List ℕ) : Option TypeName → List Token → List Token → Type 0 where
  result_void : {a b : List Token} → Has (token.Word word.Void) a b → IsResult text None a b
  result_type : {ty : TypeName} {a b : List Token} → IsType text ty a b → IsResult text (Some ty) a b

-- `procedure`, and the type of its result
pub data IsProcedureKind (text : List ℕ) : TaskKind → List Token → List Token → Type 0 where
  procedure_kind : {ty : Option TypeName} {a b c : List Token} → Has (token.Word word.Procedure) a b →
      IsResult text ty b c → IsProcedureKind text (kind.Procedure ty) a c

-- a name, and parameters in their parentheses
pub record IsHeading (text : List ℕ) (depth : ℕ) (reach : Reach) (heading : Ident × List Param)
    (tokens rest : List Token) : Type 0 where
  pub between : List Token
  pub name : IsName text heading.0 tokens between
  pub params : InArguments depth (λ _. IsParam text) reach heading.1 between rest

-- a task: its kind, its heading and its body
pub data IsControlled (text : List ℕ) (depth : ℕ) (reach : Reach) : TaskTree → List Token → List Token → Type 0 where
  controlled : {k : TaskKind} {heading : Ident × List Param} {body : BodyTree} {a b c d : List Token} →
      IsTaskKind k a b → IsHeading text depth reach heading b c → ABraced text depth reach body c d →
      IsControlled text depth reach (record { kind = k; name = heading.0; params = heading.1; body = body }) a d

-- a procedure: its kind, its heading and its body
pub data IsProcedure (text : List ℕ) (depth : ℕ) (reach : Reach) : TaskTree → List Token → List Token → Type 0 where
  procedure : {k : TaskKind} {heading : Ident × List Param} {body : BodyTree} {a b c d : List Token} →
      IsProcedureKind text k a b → IsHeading text depth reach heading b c → AnAnswering text depth reach body c d →
      IsProcedure text depth reach (record { kind = k; name = heading.0; params = heading.1; body = body }) a d

-- a declaration of a sort
pub data IsDeclared (text : List ℕ) (reach : Reach) : DeclSort → DeclTree → List Token → List Token → Type 0 where
  is_instance : {d : InstanceTree} {a b : List Token} → AnInstance text 0 reach d a b →
      IsDeclared text reach sort.Instance (an_instance d) a b
  is_variable : {d : VarTree} {a b : List Token} → IsVar text d a b →
      IsDeclared text reach sort.Variable (a_variable d) a b
  is_goal : {d : NamedTree} {a b c : List Token} → Has (token.Word word.Goal) a b → ANamed text 0 reach d b c →
      IsDeclared text reach sort.Goal (a_goal d) a c
  is_fairness : {d : NamedTree} {a b c : List Token} → Has (token.Word word.Fair) a b → ANamed text 0 reach d b c →
      IsDeclared text reach sort.Fairness (a_fairness d) a c
  is_process : {d : ProcessTree} {a b : List Token} → AProcess text 0 reach d a b →
      IsDeclared text reach sort.Process (a_process d) a b
  is_task : {d : TaskTree} {a b : List Token} → IsControlled text 0 reach d a b →
      IsDeclared text reach sort.Task (a_task d) a b
  is_procedure : {d : TaskTree} {a b : List Token} → IsProcedure text 0 reach d a b →
      IsDeclared text reach sort.Procedure (a_task d) a b

-- a declaration of a sort, as a form
abbrev pub ADeclOf : List ℕ → DeclSort → Reach → DeclTree → List Token → List Token → Type 0
ADeclOf text k reach d a b = IsDeclared text reach k d a b

-- some declaration
pub record ADecl (text : List ℕ) (reach : Reach) (d : DeclTree) (tokens rest : List Token) : Type 0 where
  pub sort : DeclSort
  pub is : IsDeclared text reach sort d tokens rest

-- the declaration that begins with a token
abbrev pub decl_of_kind : TokenKind → Option DeclSort
decl_of_kind token.Name = Some sort.Variable
decl_of_kind (token.Word word.Bool) = Some sort.Variable
decl_of_kind (token.Word word.Uint) = Some sort.Variable
decl_of_kind (token.Word word.Instance) = Some sort.Instance
decl_of_kind (token.Word word.Goal) = Some sort.Goal
decl_of_kind (token.Word word.Fair) = Some sort.Fairness
decl_of_kind (token.Word word.Lazy) = Some sort.Process
decl_of_kind (token.Word word.Process) = Some sort.Process
decl_of_kind (token.Word word.Task) = Some sort.Task
decl_of_kind (token.Word word.Procedure) = Some sort.Procedure
decl_of_kind _ = None

-- the sort of the declaration that a token begins, if there is one
abbrev pub decl_sort : Option TokenKind → Option DeclSort
decl_sort None = None
decl_sort (Some kind) = decl_of_kind kind

-- a token goes on with declarations
abbrev pub GoesDecls : Option TokenKind → Type 0
GoesDecls kind = (k : DeclSort) × (decl_sort kind ≡ Some k)

-- what a declaration that was read is as plain data
abbrev pub decl_tree : Declaration → DeclTree
decl_tree (declared.Instance d) = an_instance (instance_tree d)
decl_tree (declared.Variable d) = a_variable (var_tree d)
decl_tree (declared.Goal d) = a_goal (named_tree d)
decl_tree (declared.Fairness d) = a_fairness (named_tree d)
decl_tree (declared.Process d) = a_process (process_tree d)
decl_tree (declared.Task d) = a_task (task_tree d)

-- a template that declares these too, each behind those of its kind
abbrev pub with_decls : TemplateTree → List DeclTree → TemplateTree
with_decls t decls = record {
  name = t.name;
  ports = t.ports;
  instances = t.instances ++ filter_map instance_of decls;
  vars = t.vars ++ filter_map variable_of decls;
  goals = t.goals ++ filter_map goal_of decls;
  fairs = t.fairs ++ filter_map fairness_of decls;
  processes = t.processes ++ filter_map process_of decls;
  tasks = t.tasks ++ filter_map task_of decls;
}

-- declarations, added to a template
pub data IsExtended (text : List ℕ) (t : TemplateTree) (reach : Reach) : TemplateTree → List Token → List Token →
    Type 0 where
  extends : {decls : List DeclTree} {a b : List Token} → AreEach (ADecl text reach) decls a b →
      IsExtended text t reach (with_decls t decls) a b

-- a template that declares nothing
abbrev pub bare : Ident → List Port → TemplateTree
bare name ports = record {
  name = name;
  ports = ports;
  instances = [];
  vars = [];
  goals = [];
  fairs = [];
  processes = [];
  tasks = [];
}

-- `template`, its name and its ports
pub data IsHead (text : List ℕ) (reach : Reach) : TemplateTree → List Token → List Token → Type 0 where
  head : {name : Ident} {ports : List Port} {a b c d : List Token} → Has (token.Word word.Template) a b →
      IsName text name b c → InParentheses 0 (λ _. IsPort text) reach ports c d →
      IsHead text reach (bare name ports) a d

-- a template, as a form
abbrev pub ATemplate : List ℕ → Reach → TemplateTree → List Token → List Token → Type 0
ATemplate text reach t a b = IsTemplate text (IsBound reach) 0 t a b

-- an enum, as a form
abbrev pub AnEnum : List ℕ → Reach → EnumTree → List Token → List Token → Type 0
AnEnum text reach d a b = IsEnum text (IsBound reach) 0 d a b

-- an item of a specification, as a form
abbrev pub AnItem : List ℕ → Reach → ItemTree → List Token → List Token → Type 0
AnItem text reach d a b = IsItem text (IsBound reach) 0 d a b

-- what an item that was read is as plain data
abbrev pub item_tree : ItemDef → ItemTree
item_tree (item.Enum d) = an_enum (enum_tree d)
item_tree (item.Template t) = a_template (template_tree t)

-- a specification that has these items too, each behind those of its kind
abbrev pub with_items : SpecTree → List ItemTree → SpecTree
with_items s items = record {
  enums = s.enums ++ filter_map enum_of items;
  templates = s.templates ++ filter_map template_in items;
}

-- a specification
abbrev pub ASpec : List ℕ → Reach → SpecTree → List Token → List Token → Type 0
ASpec text reach t a b = IsSpec text (IsBound reach) t a b

-- any token goes on with a specification
abbrev pub GoesOnAtAll : Option TokenKind → Type 0
GoesOnAtAll kind = (k : TokenKind) × (kind ≡ Some k)
