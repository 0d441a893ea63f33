-- What is derived within the limit was read: declarations, items and specifications; so a text has one tree at most.
use Rattle.std.proofs.Common.{◌≡◌, ℕ, Option, Some, None, List, [], ◌∷◌, ◌++◌, refl, sym, ap, ◌∙◌, subst}
use Rattle.tm_syntax.specs.declared.token.Token.{Token}
use Rattle.tm_syntax.specs.declared.token.TokenKind.{TokenKind}
use Rattle.tm_syntax.specs.declared.token.TokenKind.TheVariants as token
use Rattle.tm_syntax.specs.declared.token.Word.TheVariants as word
use Rattle.tm_syntax.specs.declared.token.Sign.TheVariants as sign
use Rattle.tm_syntax.specs.declared.tree.Num.{Num}
use Rattle.tm_syntax.specs.declared.tree.TypeName.{TypeName}
use Rattle.tm_syntax.specs.declared.tree.Param.{Param}
use Rattle.tm_syntax.specs.declared.tree.Port.{Port}
use Rattle.tm_syntax.specs.Tree.{ExprTree, VarTree, NamedTree, TemplateTree, SpecTree}
use Rattle.tm_syntax.specs.Grammar.Parts.{Has, AreEach, each_none, each_more, IsOptional, optional_none, optional_some, arguments_none, arguments_some, enclosed, enclosed_none, enclosed_some}
use Rattle.tm_syntax.specs.Grammar.Statements.{IsType, type_bool, type_uint, type_name}
use Rattle.tm_syntax.specs.Grammar.Declarations.{IsLiteral, literal_number, literal_true, literal_false, literal_name, IsLength, size_of, IsInitial, initial, IsParam, param, instance, IsVar, variable, named, process_fair, process_lazy, task_of, task_controllable, task_uncontrollable, procedure_typed, procedure_void}
use Rattle.tm_syntax.specs.Grammar.Specification.{DeclTree, IsDecl, decl_instance, decl_variable, decl_goal, decl_fair, decl_process, decl_task, IsPort, port, template, enum, ItemTree, item_enum, item_template, IsSpec, spec}
use Rattle.tm_syntax.specs.Grammar.Faults.{IsTree}
use Rattle.tm_parse.specs.declared.specification.DeclSort.{DeclSort}
use Rattle.tm_parse.specs.declared.specification.DeclSort.TheVariants as sort
use Rattle.tm_parse.specs.Reading.{Reach, IsBound, first_kind, Takes, Nothing}
use Rattle.tm_parse.specs.Commands.{GoesAt, InArguments}
use Rattle.tm_parse.specs.Items.{ANamed, InParentheses, ADecl, ADeclOf, decl_sort, GoesDecls, ATemplate, AnItem, ASpec, GoesOnAtAll}
use Rattle.tm_parse.proofs.Arguments.{other_kind, Listed, row_begins, taken_empty, taken_filled, taken_list, taken_no_list}
use Rattle.tm_parse.proofs.DeclSorts.{sorted_is, decls_apart, taken_instance_decl, taken_variable_decl, taken_process_decl, taken_task_decl, taken_procedure_decl, taken_goal_decl, taken_fairness_decl}
use Rattle.tm_parse.proofs.Derived.{near, derived_mark, derived_has, derived_opening, derived_name, derived_number, derived_names, derived_type, derived_parted}
use Rattle.tm_parse.proofs.DerivedStmts.{whole_read, no_goes_semicolon, braced_read, answering_read}
use Rattle.tm_parse.proofs.FirstFault.{nothing_behind}
use Rattle.tm_parse.proofs.Instances.{taken_named, names_listed, taken_instance}
use Rattle.tm_parse.proofs.Lists.{first_view, so_far_all}
use Rattle.tm_parse.proofs.Literals.{taken_literal_number, taken_literal_true, taken_literal_false, taken_literal_name, taken_no_length, taken_length, taken_no_initial, taken_initial, taken_variable}
use Rattle.tm_parse.proofs.Names.{name_has, number_has}
use Rattle.tm_parse.proofs.Ports.{taken_port, ports_listed, enum_so_far, taken_enum, taken_enum_item, taken_template_item}
use Rattle.tm_parse.proofs.Rows.{Each, none_here, one_here, each_view, RowSoFar, EndsBy, row_start, row_begun, row_more, each_grows}
use Rattle.tm_parse.proofs.Taking.{takes_so}
use Rattle.tm_parse.proofs.Tasks.{taken_lazy, taken_not_lazy, taken_process, taken_param, params_listed, taken_heading, taken_controllable, taken_uncontrollable, taken_void, taken_result, taken_procedure_kind, taken_task, taken_procedure}
use Rattle.tm_parse.proofs.Templates.{taken_extended, taken_template, taken_head}
use Rattle.tm_parse.proofs.Terminals.{mark_kind, has_kind}
use Rattle.tm_parse.proofs.Wholes.{SomeItems, some_items, items_grow, items_apart, begun, taken_spec}

-- forms in parentheses
arguments_read : {X : Type 0} {Is : Reach → X → List Token → List Token → Type 0} {Goes : Option TokenKind → Type 0}
    {xs : List X} {a b : List Token} (depth : ℕ) → Listed Is Goes →
    ((x : X) (c d : List Token) → Is near x c d → ¬ Goes (first_kind d) → Takes Is Goes x c d) →
    InArguments depth Is near xs a b → Takes (InArguments depth Is) Nothing xs a b
arguments_read depth listed each (arguments_none o w m) =
    taken_empty listed (has_kind m) (derived_opening depth o w) (derived_has m)
arguments_read {Is} {Goes} depth listed each (arguments_some (enclosed o w are m)) =
    taken_filled listed (row_begins {reach = near} listed (first_view are)) (derived_opening depth o w)
    (so_far_all (λ kind. let kinds = other_kind (has_kind m) kind in cc)
    (derived_parted {Is = Is} listed.comma each (λ goes. listed.close (subst Goes (has_kind m) goes)) are))
    (derived_has m)

list_read : {X : Type 0} {Is : Reach → X → List Token → List Token → Type 0} {Goes : Option TokenKind → Type 0}
    {xs : List X} {a b : List Token} (depth : ℕ) → Listed Is Goes →
    ((x : X) (c d : List Token) → Is near x c d → ¬ Goes (first_kind d) → Takes Is Goes x c d) →
    ¬ (first_kind b ≡ Some (token.Sign sign.OpenParenthesis)) → InParentheses depth Is near xs a b →
    Takes (InParentheses depth Is) (GoesAt (token.Sign sign.OpenParenthesis)) xs a b
list_read {b} depth listed each stop enclosed_none = taken_no_list b stop
list_read {Is} {Goes} {a} depth listed each stop (enclosed_some (enclosed o w are m)) =
    taken_list a listed (has_kind o) (derived_opening depth o w)
    (so_far_all (λ kind. let kinds = other_kind (has_kind m) kind in cc)
    (derived_parted {Is = Is} listed.comma each (λ goes. listed.close (subst Goes (has_kind m) goes)) are))
    (derived_has m)

-- literals and variables
literal_read : {text : List ℕ} {e : ExprTree} {a b : List Token} → IsLiteral text e a b →
    Takes (λ _. IsLiteral text) Nothing e a b
literal_read (literal_number n) = taken_literal_number (has_kind (number_has n)) (derived_number n)
literal_read (literal_true m) = taken_literal_true (mark_kind m) (derived_mark m)
literal_read (literal_false m) = taken_literal_false (mark_kind m) (derived_mark m)
literal_read {a} (literal_name n) =
    taken_literal_name a
    (record {
      no_number = λ kind. let kinds = other_kind (has_kind (name_has n)) kind in cc;
      no_true = λ kind. let kinds = other_kind (has_kind (name_has n)) kind in cc;
      no_false = λ kind. let kinds = other_kind (has_kind (name_has n)) kind in cc;
    }) refl (derived_name n)

length_read : {text : List ℕ} {n : Option Num} {a b : List Token} →
    ¬ (first_kind b ≡ Some (token.Sign sign.OpenBracket)) →
    IsOptional (IsLength text) n a b →
    Takes (λ _. IsOptional (IsLength text)) (GoesAt (token.Sign sign.OpenBracket)) n a b
length_read {text} {b} stop optional_none = taken_no_length text b stop
length_read stop (optional_some (size_of o n c)) =
    taken_length (has_kind o) (derived_has o) (derived_number n) (derived_has c)

initial_read : {text : List ℕ} {e : Option ExprTree} {a b : List Token} →
    ¬ (first_kind b ≡ Some (token.Sign sign.Assign)) →
    IsOptional (IsInitial text) e a b →
    Takes (λ _. IsOptional (IsInitial text)) (GoesAt (token.Sign sign.Assign)) e a b
initial_read {text} {b} stop optional_none = taken_no_initial text b stop
initial_read stop (optional_some (initial m l)) = taken_initial (has_kind m) (derived_has m) (literal_read l)

initial_opens : {text : List ℕ} {e : Option ExprTree} {a b c : List Token} → IsOptional (IsInitial text) e a b →
    Has (token.Sign sign.Semicolon) b c → ¬ (first_kind a ≡ Some (token.Sign sign.OpenBracket))
initial_opens optional_none m kind = let kinds = other_kind (has_kind m) kind in cc
initial_opens (optional_some (initial n l)) m kind = let kinds = other_kind (has_kind n) kind in cc

variable_read : {text : List ℕ} {d : VarTree} {a b : List Token} → IsVar text d a b →
    Takes (λ _. IsVar text) Nothing d a b
variable_read (variable ty n size init s) =
    taken_variable (derived_type ty) (derived_name n) (length_read (initial_opens init s) size)
    (initial_read (λ kind. let kinds = other_kind (has_kind s) kind in cc) init) (derived_has s)

named_read : {text : List ℕ} {depth : ℕ} {d : NamedTree} {a b : List Token} → ANamed text depth near d a b →
    Takes (ANamed text depth) Nothing d a b
named_read (named n m is s) =
    taken_named (derived_name n) (derived_has m) (whole_read no_goes_semicolon is s) (derived_has s)

-- parameters and ports
param_read : {text : List ℕ} (p : Param) (a b : List Token) → IsParam text p a b → ¬ Nothing (first_kind b) →
    Takes (λ _. IsParam text) Nothing p a b
param_read p a b (param ty n) stop = taken_param (derived_type ty) (derived_name n)

port_read : {text : List ℕ} (p : Port) (a b : List Token) → IsPort text p a b → ¬ Nothing (first_kind b) →
    Takes (λ _. IsPort text) Nothing p a b
port_read p a b (port k n) stop = taken_port (derived_name k) (derived_name n)

-- a declaration was read, by its first token
record DeclRead (text : List ℕ) (d : DeclTree) (tokens rest : List Token) : Type 0 where
  kind : DeclSort
  begins : decl_sort (first_kind tokens) ≡ Some kind
  is : Takes (ADeclOf text kind) Nothing d tokens rest

type_begins : {text : List ℕ} {ty : TypeName} {a b : List Token} → IsType text ty a b →
    decl_sort (first_kind a) ≡ Some sort.Variable
type_begins (type_bool m) = ap decl_sort (mark_kind m)
type_begins (type_uint m l n g) = ap decl_sort (mark_kind m)
type_begins (type_name n) = ap decl_sort (has_kind (name_has n))

not_void : {text : List ℕ} {ty : TypeName} {a b : List Token} → IsType text ty a b →
    ¬ (first_kind a ≡ Some (token.Word word.Void))
not_void (type_bool m) kind = let kinds = other_kind (mark_kind m) kind in cc
not_void (type_uint m l n g) kind = let kinds = other_kind (mark_kind m) kind in cc
not_void (type_name n) kind = let kinds = other_kind (has_kind (name_has n)) kind in cc

decl_read : {text : List ℕ} {d : DeclTree} {a b : List Token} → IsDecl text (IsBound near) 0 d a b → DeclRead text d a b
decl_read {text} (decl_instance (instance m t n ps s)) = record {
  kind = sort.Instance;
  begins = ap decl_sort (has_kind m);
  is = taken_instance_decl refl (taken_instance (derived_has m) (derived_name t) (derived_name n)
      (list_read 0 (names_listed text) (λ x c d is stop. derived_name is)
      (λ kind. let kinds = other_kind (has_kind s) kind in cc) ps) (derived_has s));
}
decl_read (decl_variable (variable ty n size init s)) = record {
  kind = sort.Variable;
  begins = type_begins ty;
  is = taken_variable_decl refl (variable_read (variable ty n size init s));
}
decl_read (decl_goal m d) = record {
  kind = sort.Goal;
  begins = ap decl_sort (has_kind m);
  is = taken_goal_decl refl (derived_has m) (named_read d);
}
decl_read (decl_fair m d) = record {
  kind = sort.Fairness;
  begins = ap decl_sort (has_kind m);
  is = taken_fairness_decl refl (derived_has m) (named_read d);
}
decl_read {a} (decl_process (process_fair m n i)) = record {
  kind = sort.Process;
  begins = ap decl_sort (has_kind m);
  is = taken_process_decl refl (taken_process
      (taken_not_lazy a (λ kind. let kinds = other_kind (has_kind m) kind in cc)) (derived_has m) (derived_name n)
      (braced_read i));
}
decl_read (decl_process (process_lazy l m n i)) = record {
  kind = sort.Process;
  begins = ap decl_sort (has_kind l);
  is = taken_process_decl refl (taken_process (taken_lazy (has_kind l) (derived_has l)) (derived_has m)
      (derived_name n) (braced_read i));
}
decl_read {text} (decl_task (task_controllable m c (task_of n ps i))) = record {
  kind = sort.Task;
  begins = ap decl_sort (has_kind m);
  is = taken_task_decl refl (taken_task (taken_controllable (derived_has m) (has_kind c) (derived_has c))
      (taken_heading (derived_name n) (arguments_read 0 (params_listed text) param_read ps)) (braced_read i));
}
decl_read {text} (decl_task (task_uncontrollable m c (task_of n ps i))) = record {
  kind = sort.Task;
  begins = ap decl_sort (has_kind m);
  is = taken_task_decl refl (taken_task (taken_uncontrollable (derived_has m)
      (λ kind. let kinds = other_kind (has_kind c) kind in cc) (derived_has c))
      (taken_heading (derived_name n) (arguments_read 0 (params_listed text) param_read ps)) (braced_read i));
}
decl_read {text} (decl_task (procedure_typed {b} m ty (task_of n ps i))) = record {
  kind = sort.Procedure;
  begins = ap decl_sort (has_kind m);
  is = taken_procedure_decl refl (taken_procedure (taken_procedure_kind (derived_has m)
      (taken_result b (not_void ty) (derived_type ty)))
      (taken_heading (derived_name n) (arguments_read 0 (params_listed text) param_read ps)) (answering_read i));
}
decl_read {text} (decl_task (procedure_void m v (task_of n ps i))) = record {
  kind = sort.Procedure;
  begins = ap decl_sort (has_kind m);
  is = taken_procedure_decl refl (taken_procedure (taken_procedure_kind (derived_has m)
      (taken_void (has_kind v) (derived_has v)))
      (taken_heading (derived_name n) (arguments_read 0 (params_listed text) param_read ps)) (answering_read i));
}

-- templates
decls_read : {text : List ℕ} {ds : List DeclTree} {a b : List Token} → AreEach (IsDecl text (IsBound near) 0) ds a b →
    RowSoFar (λ reach. AreEach (ADecl text reach)) (ADecl text) (EndsBy GoesDecls) ds a b
decls_read each_none = row_start (λ reach b. each_none) (λ reach xs b c h. h)
decls_read {text} (each_more {b} front last) =
    let r = decl_read last in
    row_more each_grows (decls_apart text) (decls_read front) (takes_so {tree = λ d. d} (sorted_is b r.begins) r.is)

decls_open : {text : List ℕ} {ds : List DeclTree} {a b c : List Token} → Each (IsDecl text (IsBound near) 0) ds a b →
    Has (token.Word word.EndTemplate) b c → ¬ (first_kind a ≡ Some (token.Sign sign.OpenParenthesis))
decls_open none_here m kind = let kinds = other_kind (has_kind m) kind in cc
decls_open (one_here is others) m kind =
    let r = decl_read is in
    let none : None ≡ Some r.kind = ap decl_sort (sym kind) ∙ r.begins in
    cc

template_read : {text : List ℕ} {t : TemplateTree} {a b : List Token} → ATemplate text near t a b →
    Takes (ATemplate text) Nothing t a b
template_read {text} (template {decls} m n ps ds e) =
    taken_template
    (taken_head (derived_has m) (derived_name n)
    (list_read 0 (ports_listed text) port_read (decls_open (each_view ds) e) ps))
    (taken_extended (ap decl_sort (has_kind e)) (record { decls = decls; tree = refl; row = decls_read ds }))
    (derived_has e)

-- items
item_read : {text : List ℕ} {d : ItemTree} {a b : List Token} → AnItem text near d a b →
    Takes (AnItem text) Nothing d a b
item_read {a} (item_enum (enum m n o w are c name s)) =
    taken_enum_item a (has_kind m)
    (taken_enum (enum_so_far (derived_has m) (derived_has n) (derived_opening 0 o w))
    (derived_names (λ kind. let kinds = other_kind (has_kind c) kind in cc) are) (derived_has c) (derived_name name)
    (derived_has s))
item_read {a} (item_template (template m n ps ds e)) =
    taken_template_item a (λ kind. let kinds = other_kind (has_kind m) kind in cc)
    (template_read (template m n ps ds e))

items_read : {text : List ℕ} {xs : List ItemTree} {x : ItemTree} {a b c : List Token} →
    AreEach (AnItem text near) xs a b → AnItem text near x b c →
    RowSoFar (SomeItems text) (AnItem text) (EndsBy GoesOnAtAll) (xs ++ x ∷ []) a c
items_read {x} each_none last =
    row_begun {head = λ d. d ∷ []} {y = x} (item_read last) (λ reach z c e is. some_items each_none is)
    (λ reach zs c e h. begun h)
items_read {text} (each_more front next) last =
    row_more (items_grow text) (items_apart text) (items_read front next) (item_read last)

spec_read : {text : List ℕ} {t : SpecTree} {a : List Token} → IsTree text a t → Takes (ASpec text) GoesOnAtAll t a []
spec_read (spec {items} {last} are is) =
    taken_spec refl (record { items = items ++ last ∷ []; tree = refl; row = items_read are is })

-- a text has one tree at most
pub one_tree : {text : List ℕ} {tokens : List Token} {one other : SpecTree} → IsTree text tokens one →
    IsTree text tokens other → one ≡ other
one_tree {text} {other} is also =
    let r = spec_read is in
    sym (r.sole near other [] [] refl nothing_behind
    (subst (λ l. IsSpec text (IsBound near) other l []) r.whole also)).0
