-- The names that a text declares are words: by the grammar, each form at a time. Where a form begins with tokens that
-- stand in the text, it leaves such tokens.
use Rattle.std.proofs.Common.{◌≡◌, ℕ, ◌+◌, ◌^◌, ◌<◌, Bool, true, false, Option, None, Some, List, [], ◌∷◌, ◌++◌, refl, sym, subst, cond, arith}
use Rattle.std.specs.Prelude.{slice_range, unwrap_or, IfSome, nat_lt}
use Rattle.std.specs.List.{AllByRecursion}
use Rattle.std.proofs.lemmas.Bool.Decides.{nat_tests}
use Rattle.std.proofs.lemmas.List.Elements.{recursion_from_All}
use Rattle.tm_base.specs.declared.place.Place.{Place}
use Rattle.tm_syntax.specs.declared.token.Token.{Token}
use Rattle.tm_syntax.specs.declared.token.TokenKind.{TokenKind}
use Rattle.tm_syntax.specs.declared.token.Sign.{Sign}
use Rattle.tm_syntax.specs.declared.tree.Ident.{Ident}
use Rattle.tm_syntax.specs.declared.tree.Num.{Num}
use Rattle.tm_syntax.specs.declared.tree.Param.{Param}
use Rattle.tm_syntax.specs.declared.tree.Port.{Port}
use Rattle.tm_syntax.specs.declared.tree.TaskKind.{TaskKind}
use Rattle.tm_syntax.specs.declared.tree.TypeName.{TypeName}
use Rattle.tm_syntax.specs.Tokens.{IsWordLike, IsPiece, StandsIn}
use Rattle.tm_syntax.specs.Tree.{ExprTree, ValueTree, StmtTree, StmtRow, LocalTree, BodyTree, VarTree, NamedTree, ProcessTree, TaskTree, InstanceTree, EnumTree, TemplateTree, SpecTree}
use Rattle.tm_syntax.specs.Scopes.Names.{number_of}
use Rattle.tm_syntax.specs.Grammar.Parts.{Has, IsMark, IsName, IsNumber, below_limit, written_number, AreEach, each_none, each_more, AreParted, parted_one, parted_more, IsOptional, optional_none, optional_some, AreEnclosed, enclosed, MayBeEnclosed, enclosed_none, enclosed_some, AreArguments, arguments_none, arguments_some, IsPath}
use Rattle.tm_syntax.specs.Grammar.Expressions.{IsExpr, expr_conditional, expr_binary, expr_shift, expr_unary, expr_number, expr_true, expr_false, expr_path, expr_element, expr_group, expr_cast}
use Rattle.tm_syntax.specs.Grammar.Statements.{IsWholeExpr, IsType, type_bool, type_uint, type_name, IsPlace, place_path, place_element, AreArgs, IsValue, value_star, value_call, value_expr, IsCondition, condition, IsStmt, stmt_assign, stmt_call, stmt_if, stmt_while, stmt_forever, stmt_choice, stmt_assert, stmt_assume, stmt_pause, stmt_wait, stmt_magic, IsIf, if_alone, if_else, if_else_if, IsBlock, block, AreStmts, stmts_none, stmts_more, AreAlternatives, alternatives_one, alternatives_more, IsLocal, local, IsBody, body, IsReturn, return, IsBraced, braced, IsAnswering, answering}
use Rattle.tm_syntax.specs.Grammar.Declarations.{IsLiteral, literal_number, literal_true, literal_false, literal_name, IsLength, size_of, IsInitial, initial, IsParam, param, IsInstance, instance, IsVar, variable, IsNamed, named, IsProcess, process_fair, process_lazy, IsTaskOf, task_of, IsTask, task_controllable, task_uncontrollable, procedure_typed, procedure_void}
use Rattle.tm_syntax.specs.Grammar.Specification.{DeclTree, instance_of, variable_of, goal_of, fairness_of, process_of, task_of as task_in, IsDecl, decl_instance, decl_variable, decl_goal, decl_fair, decl_process, decl_task, IsPort, port, IsTemplate, template, IsEnum, enum, ItemTree, enum_of, template_in, IsItem, item_enum, item_template, IsSpec, spec}
use Rattle.tm_syntax.specs.Grammar.Faults.{IsWithin}
use Rattle.tm_syntax.specs.Faults.{IsOfText}
use Rattle.tm_syntax.proofs.TokenSpans.{tokens_stand}
use Rattle.tm_typing.proofs.Listed.{holds_in, all_join, filter_map_holds}

-- a name that is a word
abbrev pub IsWord : Ident → Type 0
IsWord name = IsWordLike name.text

-- a length, if there is one, is a number of 64 bits
abbrev pub IsShort : Option Num → Type 0
IsShort size = IfSome size (λ n. number_of n < 2 ^ 64)

-- the names of locals are words
abbrev pub LocalWords : BodyTree → Type 0
LocalWords b = AllByRecursion (λ (l : LocalTree). IsWord l.name) b.locals

-- so is the name of a variable, and its length is a number of 64 bits
pub record VarWords (v : VarTree) : Type 0 where
  pub name : IsWord v.name
  pub size : IsShort v.size

-- so are the names of a process and its locals
pub record ProcessWords (p : ProcessTree) : Type 0 where
  pub name : IsWord p.name
  pub locals : LocalWords p.body

-- so are those of a task, its parameters and its locals
pub record TaskWords (k : TaskTree) : Type 0 where
  pub name : IsWord k.name
  pub params : AllByRecursion (λ (p : Param). IsWord p.name) k.params
  pub locals : LocalWords k.body

-- so are those that a template declares
pub record TemplateWords (t : TemplateTree) : Type 0 where
  pub instances : AllByRecursion (λ (i : InstanceTree). IsWord i.name) t.instances
  pub vars : AllByRecursion VarWords t.vars
  pub goals : AllByRecursion (λ (n : NamedTree). IsWord n.name) t.goals
  pub fairs : AllByRecursion (λ (n : NamedTree). IsWord n.name) t.fairs
  pub processes : AllByRecursion ProcessWords t.processes
  pub tasks : AllByRecursion TaskWords t.tasks

-- so are those of one declaration, whatever it is
pub record DeclWords (d : DeclTree) : Type 0 where
  pub instances : IfSome (instance_of d) (λ (i : InstanceTree). IsWord i.name)
  pub vars : IfSome (variable_of d) VarWords
  pub goals : IfSome (goal_of d) (λ (n : NamedTree). IsWord n.name)
  pub fairs : IfSome (fairness_of d) (λ (n : NamedTree). IsWord n.name)
  pub processes : IfSome (process_of d) ProcessWords
  pub tasks : IfSome (task_in d) TaskWords

-- so are the constants of an enum
abbrev pub EnumWords : EnumTree → Type 0
EnumWords e = AllByRecursion IsWord e.constants

-- so are those of an item, whichever it is
record ItemWords (i : ItemTree) : Type 0 where
  template : IfSome (template_in i) TemplateWords
  enum : IfSome (enum_of i) EnumWords

-- so are those of a text
record SpecWords (x : SpecTree) : Type 0 where
  templates : AllByRecursion TemplateWords x.templates
  enums : AllByRecursion EnumWords x.enums

-- a number that is read is one of 64 bits
limited : (n : ℕ) → unwrap_or (below_limit n) 0 < 2 ^ 64
limited n = by (nat_lt n (2 ^ 64)) refl
  where
    by : (b : Bool) → nat_lt n (2 ^ 64) ≡ b → unwrap_or (cond b (Some n) None) 0 < 2 ^ 64
    by true e = grind (arith, nat_tests)
    by false e = omega arith

-- tokens that stand in a text
abbrev Stand : List ℕ → List Token → Type 0
Stand text tokens = AllByRecursion (StandsIn text) tokens

module _ (text : List ℕ) (May : List Token → ℕ → Type 0) where
  has_left : {kind : TokenKind} {a b : List Token} → Has kind a b → Stand text a → Stand text b
  has_left h s = (subst (Stand text) h.whole s).1

  mark_left : {kind : TokenKind} {at : Place} {a b : List Token} → IsMark kind at a b → Stand text a → Stand text b
  mark_left h s = (subst (Stand text) h.whole s).1

  number_left : {n : Num} {a b : List Token} → IsNumber text n a b → Stand text a → Stand text b
  number_left h s = (subst (Stand text) h.whole s).1

  -- a name is a word
  name_words : (name : Ident) (a b : List Token) → IsName text name a b → Stand text a → IsWord name × Stand text b
  name_words name a b h s =
      let all = subst (Stand text) h.whole s in
      let piece = subst (λ (k : TokenKind). IsPiece (Some k) (slice_range text h.first.start h.first.end)) h.is all.0.is
      in (subst IsWordLike (sym h.bytes) piece.0, all.1)

  -- a list of forms leaves what the last of them does
  each_words : {X : Type 0} (P : X → Type 0) (Is : X → List Token → List Token → Type 0) →
      ((x : X) (a b : List Token) → Is x a b → Stand text a → P x × Stand text b) → (xs : List X) (a b : List Token) →
      AreEach Is xs a b → Stand text a → AllByRecursion P xs × Stand text b
  each_words P Is each _ a b each_none s = (tt, s)
  each_words P Is each _ a b (each_more {xs = xs} {x = x} {a = p} {b = q} {c = r} more one) s =
      let front = each_words P Is each xs p q more s in
      let last = each x q r one front.1 in
      (all_join P xs (x ∷ []) front.0 (last.0, tt), last.1)

  parted_words : {X : Type 0} (P : X → Type 0) (by : Sign) (Is : X → List Token → List Token → Type 0) →
      ((x : X) (a b : List Token) → Is x a b → Stand text a → P x × Stand text b) → (xs : List X) (a b : List Token) →
      AreParted by Is xs a b → Stand text a → AllByRecursion P xs × Stand text b
  parted_words P by Is each _ a b (parted_one {x = x} {a = p} {b = q} one) s =
      let only = each x p q one s in ((only.0, tt), only.1)
  parted_words P by Is each _ a b (parted_more {xs = xs} {x = x} {a = p} {b = q} {c = r} {d = u} more sign one) s =
      let front = parted_words P by Is each xs p q more s in
      let last = each x r u one (has_left sign front.1) in
      (all_join P xs (x ∷ []) front.0 (last.0, tt), last.1)

  enclosed_words : {X : Type 0} (P : X → Type 0) (depth : ℕ) (Is : X → List Token → List Token → Type 0) →
      ((x : X) (a b : List Token) → Is x a b → Stand text a → P x × Stand text b) → (xs : List X) (a b : List Token) →
      AreEnclosed May depth Is xs a b → Stand text a → AllByRecursion P xs × Stand text b
  enclosed_words P depth Is each _ a b (enclosed {xs = xs} {b = p} {c = q} left _ parts right) s =
      let all = parted_words P _ Is each xs p q parts (has_left left s) in (all.0, has_left right all.1)

  may_be_words : {X : Type 0} (P : X → Type 0) (depth : ℕ) (Is : X → List Token → List Token → Type 0) →
      ((x : X) (a b : List Token) → Is x a b → Stand text a → P x × Stand text b) → (xs : List X) (a b : List Token) →
      MayBeEnclosed May depth Is xs a b → Stand text a → AllByRecursion P xs × Stand text b
  may_be_words P depth Is each _ a b enclosed_none s = (tt, s)
  may_be_words P depth Is each xs a b (enclosed_some h) s = enclosed_words P depth Is each xs a b h s

  arguments_words : {X : Type 0} (P : X → Type 0) (depth : ℕ) (Is : X → List Token → List Token → Type 0) →
      ((x : X) (a b : List Token) → Is x a b → Stand text a → P x × Stand text b) → (xs : List X) (a b : List Token) →
      AreArguments May depth Is xs a b → Stand text a → AllByRecursion P xs × Stand text b
  arguments_words P depth Is each _ a b (arguments_none left _ right) s = (tt, has_left right (has_left left s))
  arguments_words P depth Is each xs a b (arguments_some h) s = enclosed_words P depth Is each xs a b h s

  path_left : {names : List Ident} {a b : List Token} → IsPath text names a b → Stand text a → Stand text b
  path_left {names} {a} {b} h s = (parted_words IsWord _ (IsName text) name_words names a b h s).1

  expr_left : {bound depth : ℕ} {e : ExprTree} {a b : List Token} → IsExpr text May bound depth e a b →
      Stand text a → Stand text b
  expr_left (expr_conditional _ x question _ y colon z) s =
      expr_left z (has_left colon (expr_left y (mark_left question (expr_left x s))))
  expr_left (expr_binary _ x sign _ y) s = expr_left y (mark_left sign (expr_left x s))
  expr_left (expr_shift _ x sign _ n) s = number_left n (mark_left sign (expr_left x s))
  expr_left (expr_unary sign _ x) s = expr_left x (mark_left sign s)
  expr_left (expr_number n) s = number_left n s
  expr_left (expr_true word) s = mark_left word s
  expr_left (expr_false word) s = mark_left word s
  expr_left (expr_path p) s = path_left p s
  expr_left (expr_element p left _ x right) s = has_left right (expr_left x (has_left left (path_left p s)))
  expr_left (expr_group left _ x right) s = has_left right (expr_left x (mark_left left s))
  expr_left (expr_cast word less n greater left _ x right) s =
      has_left right (expr_left x (has_left left (has_left greater (number_left n (has_left less (mark_left word s))))))

  type_left : {ty : TypeName} {a b : List Token} → IsType text ty a b → Stand text a → Stand text b
  type_left (type_bool word) s = mark_left word s
  type_left (type_uint word less n greater) s = has_left greater (number_left n (has_left less (mark_left word s)))
  type_left (type_name {name = name} {a = p} {b = q} h) s = (name_words name p q h s).1

  args_left : {depth : ℕ} {es : List ExprTree} {a b : List Token} → AreArgs text May depth es a b → Stand text a →
      Stand text b
  args_left {depth} {es} {a} {b} h s =
      (arguments_words (λ _. Unit {0}) depth (IsWholeExpr text May (depth + 1)) (λ e p q x left. (tt, expr_left x left))
      es a b h s).1

  place_left : {depth : ℕ} {names : List Ident} {index : Option ExprTree} {a b : List Token} →
      IsPlace text May depth names index a b → Stand text a → Stand text b
  place_left (place_path p) s = path_left p s
  place_left (place_element p left _ x right) s = has_left right (expr_left x (has_left left (path_left p s)))

  value_left : {depth : ℕ} {v : ValueTree} {a b : List Token} → IsValue text May depth v a b → Stand text a →
      Stand text b
  value_left (value_star sign) s = mark_left sign s
  value_left (value_call p es) s = args_left es (path_left p s)
  value_left (value_expr x) s = expr_left x s

  condition_left : {depth : ℕ} {e : ExprTree} {a b : List Token} → IsCondition text May depth e a b → Stand text a →
      Stand text b
  condition_left (condition left _ x right) s = has_left right (expr_left x (has_left left s))

  mutual
    stmt_left : {depth : ℕ} {t : StmtTree} {a b : List Token} → IsStmt text May depth t a b → Stand text a →
        Stand text b
    stmt_left (stmt_assign p sign v end) s = has_left end (value_left v (has_left sign (place_left p s)))
    stmt_left (stmt_call p es end) s = has_left end (args_left es (path_left p s))
    stmt_left (stmt_if x) s = if_left x s
    stmt_left (stmt_while word c x) s = block_left x (condition_left c (mark_left word s))
    stmt_left (stmt_forever word x) s = block_left x (mark_left word s)
    stmt_left (stmt_choice word xs sep x) s = block_left x (has_left sep (alternatives_left xs (mark_left word s)))
    stmt_left (stmt_assert word c end) s = has_left end (condition_left c (mark_left word s))
    stmt_left (stmt_assume word c end) s = has_left end (condition_left c (mark_left word s))
    stmt_left (stmt_pause word end) s = has_left end (mark_left word s)
    stmt_left (stmt_wait word c end) s = has_left end (condition_left c (mark_left word s))
    stmt_left (stmt_magic sign end) s = has_left end (mark_left sign s)

    if_left : {depth : ℕ} {t : StmtTree} {a b : List Token} → IsIf text May depth t a b → Stand text a → Stand text b
    if_left (if_alone word c x) s = block_left x (condition_left c (has_left word s))
    if_left (if_else word c x other y) s =
        block_left y (has_left other (block_left x (condition_left c (has_left word s))))
    if_left (if_else_if word c x other _ y) s =
        if_left y (has_left other (block_left x (condition_left c (has_left word s))))

    block_left : {depth : ℕ} {ts : List StmtTree} {a b : List Token} → IsBlock text May depth ts a b → Stand text a →
        Stand text b
    block_left (block left _ xs right) s = has_left right (stmts_left xs (has_left left s))

    stmts_left : {depth : ℕ} {ts : List StmtTree} {a b : List Token} → AreStmts text May depth ts a b → Stand text a →
        Stand text b
    stmts_left stmts_none s = s
    stmts_left (stmts_more xs x) s = stmt_left x (stmts_left xs s)

    alternatives_left : {depth : ℕ} {bs : List StmtRow} {a b : List Token} → AreAlternatives text May depth bs a b →
        Stand text a → Stand text b
    alternatives_left (alternatives_one x) s = block_left x s
    alternatives_left (alternatives_more xs sep x) s = block_left x (has_left sep (alternatives_left xs s))

  local_words : (depth : ℕ) (l : LocalTree) (a b : List Token) → IsLocal text May depth l a b → Stand text a →
      IsWord l.name × Stand text b
  local_words depth _ a b (local {name = name} {b = p} {c = q} ty n sign v end) s =
      let word = name_words name p q n (type_left ty s) in
      (word.0, has_left end (value_left v (has_left sign word.1)))

  body_words : (depth : ℕ) (ls : List LocalTree) (ts : List StmtTree) (a b : List Token) →
      IsBody text May depth ls ts a b → Stand text a →
      AllByRecursion (λ (l : LocalTree). IsWord l.name) ls × Stand text b
  body_words depth _ _ a b (body {locals = ls} {a = p} {b = q} xs ys) s =
      let all = each_words (λ (l : LocalTree). IsWord l.name) (IsLocal text May depth) (local_words depth) ls p q xs s
      in
      (all.0, stmts_left ys all.1)

  braced_words : (depth : ℕ) (x : BodyTree) (a b : List Token) → IsBraced text May depth x a b → Stand text a →
      LocalWords x × Stand text b
  braced_words depth _ a b (braced {locals = ls} {stmts = ts} {b = p} {c = q} left _ h right) s =
      let all = body_words (depth + 1) ls ts p q h (has_left left s) in (all.0, has_left right all.1)

  answer_left : {depth : ℕ} {o : Option ExprTree} {a b : List Token} → IsOptional (IsReturn text May depth) o a b →
      Stand text a → Stand text b
  answer_left optional_none s = s
  answer_left (optional_some (return word x end)) s = has_left end (expr_left x (has_left word s))

  answering_words : (depth : ℕ) (x : BodyTree) (a b : List Token) → IsAnswering text May depth x a b → Stand text a →
      LocalWords x × Stand text b
  answering_words depth _ a b (answering {locals = ls} {stmts = ts} {b = p} {c = q} left _ h answer right) s =
      let all = body_words (depth + 1) ls ts p q h (has_left left s) in
      (all.0, has_left right (answer_left answer all.1))

  literal_left : {e : ExprTree} {a b : List Token} → IsLiteral text e a b → Stand text a → Stand text b
  literal_left (literal_number n) s = number_left n s
  literal_left (literal_true word) s = mark_left word s
  literal_left (literal_false word) s = mark_left word s
  literal_left (literal_name {name = name} {a = p} {b = q} h) s = (name_words name p q h s).1

  initial_left : {o : Option ExprTree} {a b : List Token} → IsOptional (IsInitial text) o a b → Stand text a →
      Stand text b
  initial_left optional_none s = s
  initial_left (optional_some (initial sign x)) s = literal_left x (has_left sign s)

  length_words : (o : Option Num) (a b : List Token) → IsOptional (IsLength text) o a b → Stand text a →
      IsShort o × Stand text b
  length_words _ a b optional_none s = (tt, s)
  length_words _ a b (optional_some (size_of {n = n} left h right)) s = (
    subst (λ (v : Option ℕ). unwrap_or v 0 < 2 ^ 64) (sym h.value)
        (limited (written_number (slice_range text h.first.start h.first.end))),
    has_left right (number_left h (has_left left s)),
  )

  param_words : (x : Param) (a b : List Token) → IsParam text x a b → Stand text a → IsWord x.name × Stand text b
  param_words _ a b (param {name = name} {b = p} {c = q} ty n) s = name_words name p q n (type_left ty s)

  instance_words : (depth : ℕ) (i : InstanceTree) (a b : List Token) → IsInstance text May depth i a b →
      Stand text a → IsWord i.name × Stand text b
  instance_words depth _ a b
      (instance {template = t} {name = name} {args = args} {b = p} {c = q} {d = r} {e = u} word of n xs end) s =
      let found = name_words name q r n (name_words t p q of (has_left word s)).1 in
      (found.0, has_left end (may_be_words IsWord depth (IsName text) name_words args r u xs found.1).1)

  var_words : (v : VarTree) (a b : List Token) → IsVar text v a b → Stand text a → VarWords v × Stand text b
  var_words _ a b (variable {name = name} {size = size} {b = p} {c = q} {d = r} ty n sized init end) s =
      let found = name_words name p q n (type_left ty s) in
      let short = length_words size q r sized found.1 in
      (record { name = found.0; size = short.0 }, has_left end (initial_left init short.1))

  named_words : (depth : ℕ) (x : NamedTree) (a b : List Token) → IsNamed text May depth x a b → Stand text a →
      IsWord x.name × Stand text b
  named_words depth _ a b (named {name = name} {a = p} {b = q} n sign x end) s =
      let found = name_words name p q n s in (found.0, has_left end (expr_left x (has_left sign found.1)))

  process_words : (depth : ℕ) (x : ProcessTree) (a b : List Token) → IsProcess text May depth x a b → Stand text a →
      ProcessWords x × Stand text b
  process_words depth _ a b (process_fair {name = name} {body = bo} {b = p} {c = q} {d = r} word n h) s =
      let found = name_words name p q n (has_left word s) in
      let locals = braced_words depth bo q r h found.1 in
      (record { name = found.0; locals = locals.0 }, locals.1)
  process_words depth _ a b (process_lazy {name = name} {body = bo} {c = p} {d = q} {e = r} lazy word n h) s =
      let found = name_words name p q n (has_left word (has_left lazy s)) in
      let locals = braced_words depth bo q r h found.1 in
      (record { name = found.0; locals = locals.0 }, locals.1)

  task_of_words : (depth : ℕ) (Is : BodyTree → List Token → List Token → Type 0) →
      ((x : BodyTree) (a b : List Token) → Is x a b → Stand text a → LocalWords x × Stand text b) → (kind : TaskKind)
      (k : TaskTree) (a b : List Token) → IsTaskOf text May depth Is kind k a b → Stand text a →
      TaskWords k × Stand text b
  task_of_words depth Is each kind _ a b
      (task_of {name = name} {params = ps} {body = bo} {a = p} {b = q} {c = r} {d = u} n xs h) s =
      let found = name_words name p q n s in
      let params = arguments_words (λ (x : Param). IsWord x.name) depth (IsParam text) param_words ps q r xs found.1 in
      let locals = each bo r u h params.1 in
      (record { name = found.0; params = params.0; locals = locals.0 }, locals.1)

  task_words : (depth : ℕ) (k : TaskTree) (a b : List Token) → IsTask text May depth k a b → Stand text a →
      TaskWords k × Stand text b
  task_words depth k a b (task_controllable {c = p} {d = q} word sort h) s =
      task_of_words depth (IsBraced text May depth) (braced_words depth) _ k p q h (has_left sort (has_left word s))
  task_words depth k a b (task_uncontrollable {c = p} {d = q} word sort h) s =
      task_of_words depth (IsBraced text May depth) (braced_words depth) _ k p q h (has_left sort (has_left word s))
  task_words depth k a b (procedure_typed {c = p} {d = q} word ty h) s =
      task_of_words depth (IsAnswering text May depth) (answering_words depth) _ k p q h
      (type_left ty (has_left word s))
  task_words depth k a b (procedure_void {c = p} {d = q} word sort h) s =
      task_of_words depth (IsAnswering text May depth) (answering_words depth) _ k p q h
      (has_left sort (has_left word s))

  decl_words : (depth : ℕ) (d : DeclTree) (a b : List Token) → IsDecl text May depth d a b → Stand text a →
      DeclWords d × Stand text b
  decl_words depth _ a b (decl_instance {d = i} {a = p} {b = q} h) s =
      let found = instance_words depth i p q h s in
      (record { instances = found.0; vars = tt; goals = tt; fairs = tt; processes = tt; tasks = tt }, found.1)
  decl_words depth _ a b (decl_variable {d = v} {a = p} {b = q} h) s =
      let found = var_words v p q h s in
      (record { instances = tt; vars = found.0; goals = tt; fairs = tt; processes = tt; tasks = tt }, found.1)
  decl_words depth _ a b (decl_goal {d = n} {b = p} {c = q} word h) s =
      let found = named_words depth n p q h (has_left word s) in
      (record { instances = tt; vars = tt; goals = found.0; fairs = tt; processes = tt; tasks = tt }, found.1)
  decl_words depth _ a b (decl_fair {d = n} {b = p} {c = q} word h) s =
      let found = named_words depth n p q h (has_left word s) in
      (record { instances = tt; vars = tt; goals = tt; fairs = found.0; processes = tt; tasks = tt }, found.1)
  decl_words depth _ a b (decl_process {d = x} {a = p} {b = q} h) s =
      let found = process_words depth x p q h s in
      (record { instances = tt; vars = tt; goals = tt; fairs = tt; processes = found.0; tasks = tt }, found.1)
  decl_words depth _ a b (decl_task {d = k} {a = p} {b = q} h) s =
      let found = task_words depth k p q h s in
      (record { instances = tt; vars = tt; goals = tt; fairs = tt; processes = tt; tasks = found.0 }, found.1)

  port_words : (x : Port) (a b : List Token) → IsPort text x a b → Stand text a → IsWord x.name × Stand text b
  port_words _ a b (port {template = t} {name = name} {a = p} {b = q} {c = r} of n) s =
      name_words name q r n (name_words t p q of s).1

  template_words : (depth : ℕ) (t : TemplateTree) (a b : List Token) → IsTemplate text May depth t a b →
      Stand text a → TemplateWords t × Stand text b
  template_words depth _ a b
      (template {name = name} {ports = ps} {decls = ds} {b = p} {c = q} {d = r} {e = u} word n xs ys end) s =
      let found = name_words name p q n (has_left word s) in
      let ports = may_be_words (λ (x : Port). IsWord x.name) depth (IsPort text) port_words ps q r xs found.1 in
      let all = each_words DeclWords (IsDecl text May depth) (decl_words depth) ds r u ys ports.1 in (
        record {
          instances = filter_map_holds (λ (i : InstanceTree). IsWord i.name) instance_of ds
              (λ d i. (holds_in DeclWords ds all.0 i).instances);
          vars = filter_map_holds VarWords variable_of ds (λ d i. (holds_in DeclWords ds all.0 i).vars);
          goals = filter_map_holds (λ (n : NamedTree). IsWord n.name) goal_of ds
              (λ d i. (holds_in DeclWords ds all.0 i).goals);
          fairs = filter_map_holds (λ (n : NamedTree). IsWord n.name) fairness_of ds
              (λ d i. (holds_in DeclWords ds all.0 i).fairs);
          processes = filter_map_holds ProcessWords process_of ds (λ d i. (holds_in DeclWords ds all.0 i).processes);
          tasks = filter_map_holds TaskWords task_in ds (λ d i. (holds_in DeclWords ds all.0 i).tasks);
        },
        has_left end all.1,
      )

  enum_words : (e : EnumTree) (a b : List Token) → IsEnum text May 0 e a b → Stand text a → EnumWords e × Stand text b
  enum_words _ a b
      (enum {name = name} {constants = cs} {d = p} {e = q} {f = r} {g = u} word sort left _ xs right n end) s =
      let all = parted_words IsWord _ (IsName text) name_words cs p q xs
      (has_left left (has_left sort (has_left word s))) in
      (all.0, has_left end (name_words name r u n (has_left right all.1)).1)

  item_words : (i : ItemTree) (a b : List Token) → IsItem text May 0 i a b → Stand text a → ItemWords i × Stand text b
  item_words _ a b (item_enum {d = e} {a = p} {b = q} h) s =
      let found = enum_words e p q h s in (record { template = tt; enum = found.0 }, found.1)
  item_words _ a b (item_template {t = t} {a = p} {b = q} h) s =
      let found = template_words 0 t p q h s in (record { template = found.0; enum = tt }, found.1)

  -- the templates and enums of a text
  spec_words : (x : SpecTree) (a b : List Token) → IsSpec text May x a b → Stand text a → SpecWords x
  spec_words _ a b (spec {items = is} {last = i} {a = p} {b = q} {c = r} xs x) s =
      let front = each_words ItemWords (IsItem text May 0) item_words is p q xs s in
      let all = all_join ItemWords is (i ∷ []) front.0 ((item_words i q r x front.1).0, tt) in
      record {
        templates = filter_map_holds TemplateWords template_in (is ++ i ∷ [])
            (λ y j. (holds_in ItemWords (is ++ i ∷ []) all j).template);
        enums = filter_map_holds EnumWords enum_of (is ++ i ∷ [])
            (λ y j. (holds_in ItemWords (is ++ i ∷ []) all j).enum);
      }

-- the names that a text declares are words
whole_words : (x : SpecTree) → IsOfText x → SpecWords x
whole_words x of =
    spec_words of.text (IsWithin 0) x of.tokens [] of.is_tree
    (recursion_from_All (StandsIn of.text) of.tokens (tokens_stand of.text of.tokens of.are_tokens))

-- those of its templates
pub text_words : (x : SpecTree) → IsOfText x → AllByRecursion TemplateWords x.templates
text_words x of = (whole_words x of).templates

-- and its constants
pub constant_words : (x : SpecTree) → IsOfText x → AllByRecursion EnumWords x.enums
constant_words x of = (whole_words x of).enums
