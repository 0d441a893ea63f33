-- What is spelled where tokens may stand so deep is spelled where those of this many last tokens may stand deeper. And
-- a form leaves no more tokens than it begins with.
use Rattle.std.proofs.Common.{◌≡◌, ℕ, ◌≤◌, List, ◌∷◌, length, Option, ap, arith}
use Rattle.tm_syntax.specs.declared.token.Token.{Token}
use Rattle.tm_syntax.specs.declared.token.Sign.{Sign}
use Rattle.tm_syntax.specs.declared.tree.Ident.{Ident}
use Rattle.tm_syntax.specs.declared.tree.TaskKind.{TaskKind}
use Rattle.tm_syntax.specs.declared.tree.TypeName.{TypeName}
use Rattle.tm_syntax.specs.Tree.{ExprTree, ValueTree, StmtTree, StmtRow, LocalTree, VarTree, BodyTree, NamedTree, ProcessTree, TaskTree, InstanceTree, EnumTree, TemplateTree, SpecTree}
use Rattle.tm_syntax.specs.Grammar.Parts.{IsName, IsPath, AreEach, each_none, each_more, AreParted, parted_one, parted_more, IsOptional, optional_none, optional_some, AreEnclosed, enclosed, MayBeEnclosed, enclosed_none, enclosed_some, AreArguments, arguments_none, arguments_some}
use Rattle.tm_syntax.specs.Grammar.Expressions.{IsExpr, expr_conditional, expr_binary, expr_shift, expr_unary, expr_number, expr_true, expr_false, expr_path, expr_element, expr_group, expr_cast}
use Rattle.tm_syntax.specs.Grammar.Statements.{IsWholeExpr, IsType, type_bool, type_uint, type_name, IsPlace, place_path, place_element, IsValue, value_star, value_call, value_expr, IsCondition, condition, IsStmt, stmt_assign, stmt_call, stmt_if, stmt_while, stmt_forever, stmt_choice, stmt_assert, stmt_assume, stmt_pause, stmt_wait, stmt_magic, IsIf, if_alone, if_else, if_else_if, IsBlock, block, AreStmts, stmts_none, stmts_more, AreAlternatives, alternatives_one, alternatives_more, IsLocal, local, IsBody, body, IsReturn, return, IsBraced, braced, IsAnswering, answering}
use Rattle.tm_syntax.specs.Grammar.Declarations.{IsLiteral, literal_number, literal_true, literal_false, literal_name, IsLength, size_of, IsInitial, initial, IsParam, param, IsVar, variable, IsInstance, instance, IsNamed, named, IsProcess, process_fair, process_lazy, IsTaskOf, task_of, IsTask, task_controllable, task_uncontrollable, procedure_typed, procedure_void}
use Rattle.tm_syntax.specs.Grammar.Specification.{IsPort, port, DeclTree, IsDecl, decl_instance, decl_variable, decl_goal, decl_fair, decl_process, decl_task, IsTemplate, template, IsEnum, enum, ItemTree, IsItem, item_enum, item_template, IsSpec, spec}

-- of so many last tokens one predicate on depths allows what another does
abbrev pub Allows : ℕ → (List Token → ℕ → Type 0) → (List Token → ℕ → Type 0) → Type 0
Allows size May Might = (a : List Token) (n : ℕ) → length a ≤ size → May a n → Might a n

-- what is left behind a token is shorter
left : {size : ℕ} {t : Token} {a b : List Token} → a ≡ t ∷ b → length a ≤ size → length b ≤ size
left whole fits = let same = ap length whole in omega arith

-- forms of one sort become forms of another, and leave no more tokens
abbrev Turns : ℕ → {X : Type 0} → (X → List Token → List Token → Type 0) → (X → List Token → List Token → Type 0) →
    Type 0
Turns size {X} Is Or = (x : X) (c d : List Token) → length c ≤ size → Is x c d → Or x c d × (length d ≤ size)

each_map : {size : ℕ} {X : Type 0} {Is Or : X → List Token → List Token → Type 0} {xs : List X} {a b : List Token} →
    Turns size Is Or → length a ≤ size → AreEach Is xs a b → AreEach Or xs a b × (length b ≤ size)
each_map f le each_none = (each_none, le)
each_map f le (each_more front last) =
    let one = each_map f le front in
    let two = f _ _ _ one.1 last in
    (each_more one.0 two.0, two.1)

parted_map : {size : ℕ} {X : Type 0} {by : Sign} {Is Or : X → List Token → List Token → Type 0} {xs : List X}
    {a b : List Token} → Turns size Is Or → length a ≤ size → AreParted by Is xs a b →
    AreParted by Or xs a b × (length b ≤ size)
parted_map f le (parted_one is) = let one = f _ _ _ le is in (parted_one one.0, one.1)
parted_map f le (parted_more front m last) =
    let one = parted_map f le front in
    let two = f _ _ _ (left m.whole one.1) last in
    (parted_more one.0 m two.0, two.1)

optional_map : {size : ℕ} {X : Type 0} {Is Or : X → List Token → List Token → Type 0} {x : Option X}
    {a b : List Token} →
    Turns size Is Or → length a ≤ size → IsOptional Is x a b → IsOptional Or x a b × (length b ≤ size)
optional_map f le optional_none = (optional_none, le)
optional_map f le (optional_some is) = let one = f _ _ _ le is in (optional_some one.0, one.1)

enclosed_map : {size : ℕ} {May Might : List Token → ℕ → Type 0} {depth : ℕ} {X : Type 0}
    {Is Or : X → List Token → List Token → Type 0} {xs : List X} {a b : List Token} → Allows size May Might →
    Turns size Is Or → length a ≤ size → AreEnclosed May depth Is xs a b →
    AreEnclosed Might depth Or xs a b × (length b ≤ size)
enclosed_map w f le (enclosed o h is c) =
    let one = parted_map f (left o.whole le) is in
    (enclosed o (w _ _ le h) one.0 c, left c.whole one.1)

may_be_map : {size : ℕ} {May Might : List Token → ℕ → Type 0} {depth : ℕ} {X : Type 0}
    {Is : X → List Token → List Token → Type 0} {xs : List X} {a b : List Token} → Allows size May Might →
    Turns size Is Is → length a ≤ size → MayBeEnclosed May depth Is xs a b →
    MayBeEnclosed Might depth Is xs a b × (length b ≤ size)
may_be_map w f le enclosed_none = (enclosed_none, le)
may_be_map w f le (enclosed_some is) = let one = enclosed_map w f le is in (enclosed_some one.0, one.1)

arguments_map : {size : ℕ} {May Might : List Token → ℕ → Type 0} {depth : ℕ} {X : Type 0}
    {Is Or : X → List Token → List Token → Type 0} {xs : List X} {a b : List Token} → Allows size May Might →
    Turns size Is Or → length a ≤ size → AreArguments May depth Is xs a b →
    AreArguments Might depth Or xs a b × (length b ≤ size)
arguments_map w f le (arguments_none o h c) = (arguments_none o (w _ _ le h) c, left c.whole (left o.whole le))
arguments_map w f le (arguments_some is) = let one = enclosed_map w f le is in (arguments_some one.0, one.1)

name_turns : {size : ℕ} {text : List ℕ} → Turns size (IsName text) (IsName text)
name_turns x c d le h = (h, left h.whole le)

path_left : {size : ℕ} {text : List ℕ} {names : List Ident} {a b : List Token} → length a ≤ size →
    IsPath text names a b → length b ≤ size
path_left le p = (parted_map name_turns le p).1

type_left : {size : ℕ} {text : List ℕ} {t : TypeName} {a b : List Token} → length a ≤ size → IsType text t a b →
    length b ≤ size
type_left le (type_bool m) = left m.whole le
type_left le (type_uint m l n g) = left g.whole (left n.whole (left l.whole (left m.whole le)))
type_left le (type_name n) = left n.whole le

param_turns : {size : ℕ} {text : List ℕ} → Turns size (IsParam text) (IsParam text)
param_turns x c d le (param t n) = (param t n, left n.whole (type_left le t))

port_turns : {size : ℕ} {text : List ℕ} → Turns size (IsPort text) (IsPort text)
port_turns x c d le (port t n) = (port t n, left n.whole (left t.whole le))

literal_left : {size : ℕ} {text : List ℕ} {e : ExprTree} {a b : List Token} → length a ≤ size → IsLiteral text e a b →
    length b ≤ size
literal_left le (literal_number n) = left n.whole le
literal_left le (literal_true m) = left m.whole le
literal_left le (literal_false m) = left m.whole le
literal_left le (literal_name n) = left n.whole le

length_turns : {size : ℕ} {text : List ℕ} → Turns size (IsLength text) (IsLength text)
length_turns x c d le (size_of o n e) = (size_of o n e, left e.whole (left n.whole (left o.whole le)))

initial_turns : {size : ℕ} {text : List ℕ} → Turns size (IsInitial text) (IsInitial text)
initial_turns x c d le (initial m l) = (initial m l, literal_left (left m.whole le) l)

variable_left : {size : ℕ} {text : List ℕ} {v : VarTree} {a b : List Token} → length a ≤ size → IsVar text v a b →
    length b ≤ size
variable_left le (variable t n s i c) =
    left c.whole (optional_map initial_turns (optional_map length_turns (left n.whole (type_left le t)) s).1 i).1

pub loosen_expr : {size : ℕ} {text : List ℕ} {May Might : List Token → ℕ → Type 0} {bound depth : ℕ} {e : ExprTree}
    {a b : List Token} →
    Allows size May Might → length a ≤ size →
    IsExpr text May bound depth e a b → IsExpr text Might bound depth e a b × (length b ≤ size)
loosen_expr w le (expr_conditional p0 p1 p2 p3 p4 p5 p6) =
    let q1 = loosen_expr w le p1 in
    let l2 = left p2.whole q1.1 in
    let q4 = loosen_expr w l2 p4 in
    let l5 = left p5.whole q4.1 in
    let q6 = loosen_expr w l5 p6 in
    (expr_conditional p0 q1.0 p2 (w _ _ q1.1 p3) q4.0 p5 q6.0, q6.1)
loosen_expr w le (expr_binary p0 p1 p2 p3 p4) =
    let q1 = loosen_expr w le p1 in
    let l2 = left p2.whole q1.1 in
    let q4 = loosen_expr w l2 p4 in
    (expr_binary p0 q1.0 p2 (w _ _ q1.1 p3) q4.0, q4.1)
loosen_expr w le (expr_shift p0 p1 p2 p3 p4) =
    let q1 = loosen_expr w le p1 in
    let l2 = left p2.whole q1.1 in
    let l4 = left p4.whole l2 in
    (expr_shift p0 q1.0 p2 (w _ _ q1.1 p3) p4, l4)
loosen_expr w le (expr_unary p0 p1 p2) =
    let l0 = left p0.whole le in
    let q2 = loosen_expr w l0 p2 in
    (expr_unary p0 (w _ _ le p1) q2.0, q2.1)
loosen_expr w le (expr_number p0) =
    let l0 = left p0.whole le in
    (expr_number p0, l0)
loosen_expr w le (expr_true p0) =
    let l0 = left p0.whole le in
    (expr_true p0, l0)
loosen_expr w le (expr_false p0) =
    let l0 = left p0.whole le in
    (expr_false p0, l0)
loosen_expr w le (expr_path p0) =
    let l0 = path_left le p0 in
    (expr_path p0, l0)
loosen_expr w le (expr_element p0 p1 p2 p3 p4) =
    let l0 = path_left le p0 in
    let l1 = left p1.whole l0 in
    let q3 = loosen_expr w l1 p3 in
    let l4 = left p4.whole q3.1 in
    (expr_element p0 p1 (w _ _ l0 p2) q3.0 p4, l4)
loosen_expr w le (expr_group p0 p1 p2 p3) =
    let l0 = left p0.whole le in
    let q2 = loosen_expr w l0 p2 in
    let l3 = left p3.whole q2.1 in
    (expr_group p0 (w _ _ le p1) q2.0 p3, l3)
loosen_expr w le (expr_cast p0 p1 p2 p3 p4 p5 p6 p7) =
    let l0 = left p0.whole le in
    let l1 = left p1.whole l0 in
    let l2 = left p2.whole l1 in
    let l3 = left p3.whole l2 in
    let l4 = left p4.whole l3 in
    let q6 = loosen_expr w l4 p6 in
    let l7 = left p7.whole q6.1 in
    (expr_cast p0 p1 p2 p3 p4 (w _ _ l3 p5) q6.0 p7, l7)

expr_turns : {size : ℕ} {text : List ℕ} {May Might : List Token → ℕ → Type 0} {depth : ℕ} → Allows size May Might →
    Turns size (IsWholeExpr text May depth) (IsWholeExpr text Might depth)
expr_turns w x c d le h = loosen_expr w le h

loosen_place : {size : ℕ} {text : List ℕ} {May Might : List Token → ℕ → Type 0} {depth : ℕ} {names : List Ident}
    {index : Option ExprTree} {a b : List Token} →
    Allows size May Might → length a ≤ size →
    IsPlace text May depth names index a b → IsPlace text Might depth names index a b × (length b ≤ size)
loosen_place w le (place_path p0) =
    let l0 = path_left le p0 in
    (place_path p0, l0)
loosen_place w le (place_element p0 p1 p2 p3 p4) =
    let l0 = path_left le p0 in
    let l1 = left p1.whole l0 in
    let q3 = loosen_expr w l1 p3 in
    let l4 = left p4.whole q3.1 in
    (place_element p0 p1 (w _ _ l0 p2) q3.0 p4, l4)

loosen_value : {size : ℕ} {text : List ℕ} {May Might : List Token → ℕ → Type 0} {depth : ℕ} {v : ValueTree}
    {a b : List Token} →
    Allows size May Might → length a ≤ size →
    IsValue text May depth v a b → IsValue text Might depth v a b × (length b ≤ size)
loosen_value w le (value_star p0) =
    let l0 = left p0.whole le in
    (value_star p0, l0)
loosen_value w le (value_call p0 p1) =
    let l0 = path_left le p0 in
    let q1 = arguments_map w (expr_turns w) l0 p1 in
    (value_call p0 q1.0, q1.1)
loosen_value w le (value_expr p0) =
    let q0 = loosen_expr w le p0 in
    (value_expr q0.0, q0.1)

loosen_condition : {size : ℕ} {text : List ℕ} {May Might : List Token → ℕ → Type 0} {depth : ℕ} {e : ExprTree}
    {a b : List Token} →
    Allows size May Might → length a ≤ size →
    IsCondition text May depth e a b → IsCondition text Might depth e a b × (length b ≤ size)
loosen_condition w le (condition p0 p1 p2 p3) =
    let l0 = left p0.whole le in
    let q2 = loosen_expr w l0 p2 in
    let l3 = left p3.whole q2.1 in
    (condition p0 (w _ _ le p1) q2.0 p3, l3)

mutual
  pub loosen_stmt : {size : ℕ} {text : List ℕ} {May Might : List Token → ℕ → Type 0} → Allows size May Might →
      {depth : ℕ} {s : StmtTree} {a b : List Token} → length a ≤ size →
      IsStmt text May depth s a b → IsStmt text Might depth s a b × (length b ≤ size)
  loosen_stmt w le (stmt_assign p0 p1 p2 p3) =
      let q0 = loosen_place w le p0 in
      let l1 = left p1.whole q0.1 in
      let q2 = loosen_value w l1 p2 in
      let l3 = left p3.whole q2.1 in
      (stmt_assign q0.0 p1 q2.0 p3, l3)
  loosen_stmt w le (stmt_call p0 p1 p2) =
      let l0 = path_left le p0 in
      let q1 = arguments_map w (expr_turns w) l0 p1 in
      let l2 = left p2.whole q1.1 in
      (stmt_call p0 q1.0 p2, l2)
  loosen_stmt w le (stmt_if p0) =
      let q0 = loosen_if w le p0 in
      (stmt_if q0.0, q0.1)
  loosen_stmt w le (stmt_while p0 p1 p2) =
      let l0 = left p0.whole le in
      let q1 = loosen_condition w l0 p1 in
      let q2 = loosen_block w q1.1 p2 in
      (stmt_while p0 q1.0 q2.0, q2.1)
  loosen_stmt w le (stmt_forever p0 p1) =
      let l0 = left p0.whole le in
      let q1 = loosen_block w l0 p1 in
      (stmt_forever p0 q1.0, q1.1)
  loosen_stmt w le (stmt_choice p0 p1 p2 p3) =
      let l0 = left p0.whole le in
      let q1 = loosen_alternatives w l0 p1 in
      let l2 = left p2.whole q1.1 in
      let q3 = loosen_block w l2 p3 in
      (stmt_choice p0 q1.0 p2 q3.0, q3.1)
  loosen_stmt w le (stmt_assert p0 p1 p2) =
      let l0 = left p0.whole le in
      let q1 = loosen_condition w l0 p1 in
      let l2 = left p2.whole q1.1 in
      (stmt_assert p0 q1.0 p2, l2)
  loosen_stmt w le (stmt_assume p0 p1 p2) =
      let l0 = left p0.whole le in
      let q1 = loosen_condition w l0 p1 in
      let l2 = left p2.whole q1.1 in
      (stmt_assume p0 q1.0 p2, l2)
  loosen_stmt w le (stmt_pause p0 p1) =
      let l0 = left p0.whole le in
      let l1 = left p1.whole l0 in
      (stmt_pause p0 p1, l1)
  loosen_stmt w le (stmt_wait p0 p1 p2) =
      let l0 = left p0.whole le in
      let q1 = loosen_condition w l0 p1 in
      let l2 = left p2.whole q1.1 in
      (stmt_wait p0 q1.0 p2, l2)
  loosen_stmt w le (stmt_magic p0 p1) =
      let l0 = left p0.whole le in
      let l1 = left p1.whole l0 in
      (stmt_magic p0 p1, l1)

  loosen_if : {size : ℕ} {text : List ℕ} {May Might : List Token → ℕ → Type 0} → Allows size May Might →
      {depth : ℕ} {s : StmtTree} {a b : List Token} → length a ≤ size →
      IsIf text May depth s a b → IsIf text Might depth s a b × (length b ≤ size)
  loosen_if w le (if_alone p0 p1 p2) =
      let l0 = left p0.whole le in
      let q1 = loosen_condition w l0 p1 in
      let q2 = loosen_block w q1.1 p2 in
      (if_alone p0 q1.0 q2.0, q2.1)
  loosen_if w le (if_else p0 p1 p2 p3 p4) =
      let l0 = left p0.whole le in
      let q1 = loosen_condition w l0 p1 in
      let q2 = loosen_block w q1.1 p2 in
      let l3 = left p3.whole q2.1 in
      let q4 = loosen_block w l3 p4 in
      (if_else p0 q1.0 q2.0 p3 q4.0, q4.1)
  loosen_if w le (if_else_if p0 p1 p2 p3 p4 p5) =
      let l0 = left p0.whole le in
      let q1 = loosen_condition w l0 p1 in
      let q2 = loosen_block w q1.1 p2 in
      let l3 = left p3.whole q2.1 in
      let q5 = loosen_if w l3 p5 in
      (if_else_if p0 q1.0 q2.0 p3 (w _ _ l3 p4) q5.0, q5.1)

  loosen_block : {size : ℕ} {text : List ℕ} {May Might : List Token → ℕ → Type 0} → Allows size May Might →
      {depth : ℕ} {ss : List StmtTree} {a b : List Token} → length a ≤ size →
      IsBlock text May depth ss a b → IsBlock text Might depth ss a b × (length b ≤ size)
  loosen_block w le (block p0 p1 p2 p3) =
      let l0 = left p0.whole le in
      let q2 = loosen_stmts w l0 p2 in
      let l3 = left p3.whole q2.1 in
      (block p0 (w _ _ le p1) q2.0 p3, l3)

  loosen_stmts : {size : ℕ} {text : List ℕ} {May Might : List Token → ℕ → Type 0} → Allows size May Might →
      {depth : ℕ} {ss : List StmtTree} {a b : List Token} → length a ≤ size →
      AreStmts text May depth ss a b → AreStmts text Might depth ss a b × (length b ≤ size)
  loosen_stmts w le stmts_none =
      (stmts_none, le)
  loosen_stmts w le (stmts_more p0 p1) =
      let q0 = loosen_stmts w le p0 in
      let q1 = loosen_stmt w q0.1 p1 in
      (stmts_more q0.0 q1.0, q1.1)

  loosen_alternatives : {size : ℕ} {text : List ℕ} {May Might : List Token → ℕ → Type 0} → Allows size May Might →
      {depth : ℕ} {bs : List StmtRow} {a b : List Token} → length a ≤ size →
      AreAlternatives text May depth bs a b → AreAlternatives text Might depth bs a b × (length b ≤ size)
  loosen_alternatives w le (alternatives_one p0) =
      let q0 = loosen_block w le p0 in
      (alternatives_one q0.0, q0.1)
  loosen_alternatives w le (alternatives_more p0 p1 p2) =
      let q0 = loosen_alternatives w le p0 in
      let l1 = left p1.whole q0.1 in
      let q2 = loosen_block w l1 p2 in
      (alternatives_more q0.0 p1 q2.0, q2.1)

loosen_local : {size : ℕ} {text : List ℕ} {May Might : List Token → ℕ → Type 0} {depth : ℕ} {d : LocalTree}
    {a b : List Token} →
    Allows size May Might → length a ≤ size →
    IsLocal text May depth d a b → IsLocal text Might depth d a b × (length b ≤ size)
loosen_local w le (local p0 p1 p2 p3 p4) =
    let l0 = type_left le p0 in
    let l1 = left p1.whole l0 in
    let l2 = left p2.whole l1 in
    let q3 = loosen_value w l2 p3 in
    let l4 = left p4.whole q3.1 in
    (local p0 p1 p2 q3.0 p4, l4)

loosen_body : {size : ℕ} {text : List ℕ} {May Might : List Token → ℕ → Type 0} {depth : ℕ} {ls : List LocalTree}
    {ss : List StmtTree} {a b : List Token} →
    Allows size May Might → length a ≤ size →
    IsBody text May depth ls ss a b → IsBody text Might depth ls ss a b × (length b ≤ size)
loosen_body w le (body p0 p1) =
    let q0 = each_map (λ x c d k h. loosen_local w k h) le p0 in
    let q1 = loosen_stmts w q0.1 p1 in
    (body q0.0 q1.0, q1.1)

loosen_braced : {size : ℕ} {text : List ℕ} {May Might : List Token → ℕ → Type 0} {depth : ℕ} {d : BodyTree}
    {a b : List Token} →
    Allows size May Might → length a ≤ size →
    IsBraced text May depth d a b → IsBraced text Might depth d a b × (length b ≤ size)
loosen_braced w le (braced p0 p1 p2 p3) =
    let l0 = left p0.whole le in
    let q2 = loosen_body w l0 p2 in
    let l3 = left p3.whole q2.1 in
    (braced p0 (w _ _ le p1) q2.0 p3, l3)

loosen_return : {size : ℕ} {text : List ℕ} {May Might : List Token → ℕ → Type 0} {depth : ℕ} {e : ExprTree}
    {a b : List Token} →
    Allows size May Might → length a ≤ size →
    IsReturn text May depth e a b → IsReturn text Might depth e a b × (length b ≤ size)
loosen_return w le (return p0 p1 p2) =
    let l0 = left p0.whole le in
    let q1 = loosen_expr w l0 p1 in
    let l2 = left p2.whole q1.1 in
    (return p0 q1.0 p2, l2)

loosen_answering : {size : ℕ} {text : List ℕ} {May Might : List Token → ℕ → Type 0} {depth : ℕ} {d : BodyTree}
    {a b : List Token} →
    Allows size May Might → length a ≤ size →
    IsAnswering text May depth d a b → IsAnswering text Might depth d a b × (length b ≤ size)
loosen_answering w le (answering p0 p1 p2 p3 p4) =
    let l0 = left p0.whole le in
    let q2 = loosen_body w l0 p2 in
    let q3 = optional_map (λ x c d k h. loosen_return w k h) q2.1 p3 in
    let l4 = left p4.whole q3.1 in
    (answering p0 (w _ _ le p1) q2.0 q3.0 p4, l4)

loosen_instance : {size : ℕ} {text : List ℕ} {May Might : List Token → ℕ → Type 0} {depth : ℕ} {d : InstanceTree}
    {a b : List Token} →
    Allows size May Might → length a ≤ size →
    IsInstance text May depth d a b → IsInstance text Might depth d a b × (length b ≤ size)
loosen_instance w le (instance p0 p1 p2 p3 p4) =
    let l0 = left p0.whole le in
    let l1 = left p1.whole l0 in
    let l2 = left p2.whole l1 in
    let q3 = may_be_map w name_turns l2 p3 in
    let l4 = left p4.whole q3.1 in
    (instance p0 p1 p2 q3.0 p4, l4)

loosen_named : {size : ℕ} {text : List ℕ} {May Might : List Token → ℕ → Type 0} {depth : ℕ} {d : NamedTree}
    {a b : List Token} →
    Allows size May Might → length a ≤ size →
    IsNamed text May depth d a b → IsNamed text Might depth d a b × (length b ≤ size)
loosen_named w le (named p0 p1 p2 p3) =
    let l0 = left p0.whole le in
    let l1 = left p1.whole l0 in
    let q2 = loosen_expr w l1 p2 in
    let l3 = left p3.whole q2.1 in
    (named p0 p1 q2.0 p3, l3)

loosen_process : {size : ℕ} {text : List ℕ} {May Might : List Token → ℕ → Type 0} {depth : ℕ} {d : ProcessTree}
    {a b : List Token} →
    Allows size May Might → length a ≤ size →
    IsProcess text May depth d a b → IsProcess text Might depth d a b × (length b ≤ size)
loosen_process w le (process_fair p0 p1 p2) =
    let l0 = left p0.whole le in
    let l1 = left p1.whole l0 in
    let q2 = loosen_braced w l1 p2 in
    (process_fair p0 p1 q2.0, q2.1)
loosen_process w le (process_lazy p0 p1 p2 p3) =
    let l0 = left p0.whole le in
    let l1 = left p1.whole l0 in
    let l2 = left p2.whole l1 in
    let q3 = loosen_braced w l2 p3 in
    (process_lazy p0 p1 p2 q3.0, q3.1)

loosen_task_of : {size : ℕ} {text : List ℕ} {May Might : List Token → ℕ → Type 0} {depth : ℕ}
    {Is Or : BodyTree → List Token → List Token → Type 0} {k : TaskKind} {d : TaskTree} {a b : List Token} →
    Allows size May Might → Turns size Is Or → length a ≤ size →
    IsTaskOf text May depth Is k d a b → IsTaskOf text Might depth Or k d a b × (length b ≤ size)
loosen_task_of w f le (task_of n ps b) =
    let one = arguments_map w param_turns (left n.whole le) ps in
    let two = f _ _ _ one.1 b in
    (task_of n one.0 two.0, two.1)

loosen_task : {size : ℕ} {text : List ℕ} {May Might : List Token → ℕ → Type 0} {depth : ℕ} {d : TaskTree}
    {a b : List Token} →
    Allows size May Might → length a ≤ size →
    IsTask text May depth d a b → IsTask text Might depth d a b × (length b ≤ size)
loosen_task w le (task_controllable p0 p1 p2) =
    let l0 = left p0.whole le in
    let l1 = left p1.whole l0 in
    let q2 = loosen_task_of w (λ x c d k h. loosen_braced w k h) l1 p2 in
    (task_controllable p0 p1 q2.0, q2.1)
loosen_task w le (task_uncontrollable p0 p1 p2) =
    let l0 = left p0.whole le in
    let l1 = left p1.whole l0 in
    let q2 = loosen_task_of w (λ x c d k h. loosen_braced w k h) l1 p2 in
    (task_uncontrollable p0 p1 q2.0, q2.1)
loosen_task w le (procedure_typed p0 p1 p2) =
    let l0 = left p0.whole le in
    let l1 = type_left l0 p1 in
    let q2 = loosen_task_of w (λ x c d k h. loosen_answering w k h) l1 p2 in
    (procedure_typed p0 p1 q2.0, q2.1)
loosen_task w le (procedure_void p0 p1 p2) =
    let l0 = left p0.whole le in
    let l1 = left p1.whole l0 in
    let q2 = loosen_task_of w (λ x c d k h. loosen_answering w k h) l1 p2 in
    (procedure_void p0 p1 q2.0, q2.1)

loosen_decl : {size : ℕ} {text : List ℕ} {May Might : List Token → ℕ → Type 0} {depth : ℕ} {d : DeclTree}
    {a b : List Token} →
    Allows size May Might → length a ≤ size →
    IsDecl text May depth d a b → IsDecl text Might depth d a b × (length b ≤ size)
loosen_decl w le (decl_instance p0) =
    let q0 = loosen_instance w le p0 in
    (decl_instance q0.0, q0.1)
loosen_decl w le (decl_variable p0) =
    let l0 = variable_left le p0 in
    (decl_variable p0, l0)
loosen_decl w le (decl_goal p0 p1) =
    let l0 = left p0.whole le in
    let q1 = loosen_named w l0 p1 in
    (decl_goal p0 q1.0, q1.1)
loosen_decl w le (decl_fair p0 p1) =
    let l0 = left p0.whole le in
    let q1 = loosen_named w l0 p1 in
    (decl_fair p0 q1.0, q1.1)
loosen_decl w le (decl_process p0) =
    let q0 = loosen_process w le p0 in
    (decl_process q0.0, q0.1)
loosen_decl w le (decl_task p0) =
    let q0 = loosen_task w le p0 in
    (decl_task q0.0, q0.1)

loosen_template : {size : ℕ} {text : List ℕ} {May Might : List Token → ℕ → Type 0} {depth : ℕ} {t : TemplateTree}
    {a b : List Token} →
    Allows size May Might → length a ≤ size →
    IsTemplate text May depth t a b → IsTemplate text Might depth t a b × (length b ≤ size)
loosen_template w le (template p0 p1 p2 p3 p4) =
    let l0 = left p0.whole le in
    let l1 = left p1.whole l0 in
    let q2 = may_be_map w port_turns l1 p2 in
    let q3 = each_map (λ x c d k h. loosen_decl w k h) q2.1 p3 in
    let l4 = left p4.whole q3.1 in
    (template p0 p1 q2.0 q3.0 p4, l4)

loosen_enum : {size : ℕ} {text : List ℕ} {May Might : List Token → ℕ → Type 0} {depth : ℕ} {d : EnumTree}
    {a b : List Token} →
    Allows size May Might → length a ≤ size →
    IsEnum text May depth d a b → IsEnum text Might depth d a b × (length b ≤ size)
loosen_enum w le (enum p0 p1 p2 p3 p4 p5 p6 p7) =
    let l0 = left p0.whole le in
    let l1 = left p1.whole l0 in
    let l2 = left p2.whole l1 in
    let q4 = parted_map name_turns l2 p4 in
    let l5 = left p5.whole q4.1 in
    let l6 = left p6.whole l5 in
    let l7 = left p7.whole l6 in
    (enum p0 p1 p2 (w _ _ l1 p3) q4.0 p5 p6 p7, l7)

loosen_item : {size : ℕ} {text : List ℕ} {May Might : List Token → ℕ → Type 0} {depth : ℕ} {d : ItemTree}
    {a b : List Token} →
    Allows size May Might → length a ≤ size →
    IsItem text May depth d a b → IsItem text Might depth d a b × (length b ≤ size)
loosen_item w le (item_enum p0) =
    let q0 = loosen_enum w le p0 in
    (item_enum q0.0, q0.1)
loosen_item w le (item_template p0) =
    let q0 = loosen_template w le p0 in
    (item_template q0.0, q0.1)

-- a specification is one where its tokens may stand deeper
pub loosen_spec : {size : ℕ} {text : List ℕ} {May Might : List Token → ℕ → Type 0} {t : SpecTree} {a b : List Token} →
    Allows size May Might → length a ≤ size →
    IsSpec text May t a b → IsSpec text Might t a b × (length b ≤ size)
loosen_spec w le (spec p0 p1) =
    let q0 = each_map (λ x c d k h. loosen_item w k h) le p0 in
    let q1 = loosen_item w q0.1 p1 in
    (spec q0.0 q1.0, q1.1)
