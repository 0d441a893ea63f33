-- The lists of a text are no longer than the text: by the grammar, each form at a time. Each form leaves no more tokens
-- than it begins with, and each declaration takes one at least.
use Rattle.std.proofs.Common.{ℕ, ◌+◌, ◌<◌, ◌≤◌, Option, None, Some, List, [], ◌∷◌, ◌++◌, length, length-append, ap, ◌∙◌, arith}
use Rattle.std.specs.List.{AllByRecursion, filter_map, cons_option}
use Rattle.std.specs.Option.{option_to_list}
use Rattle.std.specs.Prelude.{IfSome}
use Rattle.tm_base.specs.declared.place.Place.{Place}
use Rattle.tm_syntax.specs.declared.token.Token.{Token}
use Rattle.tm_syntax.specs.declared.token.TokenKind.{TokenKind}
use Rattle.tm_syntax.specs.declared.token.Sign.{Sign}
use Rattle.tm_syntax.specs.declared.tree.Ident.{Ident}
use Rattle.tm_syntax.specs.declared.tree.Num.{Num}
use Rattle.tm_syntax.specs.declared.tree.Param.{Param}
use Rattle.tm_syntax.specs.declared.tree.Port.{Port}
use Rattle.tm_syntax.specs.declared.tree.TaskKind.{TaskKind}
use Rattle.tm_syntax.specs.declared.tree.TypeName.{TypeName}
use Rattle.tm_syntax.specs.Limits.{specification_limit}
use Rattle.tm_syntax.specs.Tokens.{Piece, bytes_of, ArePieces, token_behind, tokens_behind, AreTokens}
use Rattle.tm_syntax.specs.Tree.{ExprTree, ValueTree, StmtTree, StmtRow, LocalTree, BodyTree, VarTree, NamedTree, ProcessTree, TaskTree, InstanceTree, EnumTree, TemplateTree, SpecTree}
use Rattle.tm_syntax.specs.Grammar.Parts.{Has, IsMark, IsName, IsNumber, AreEach, each_none, each_more, AreParted, parted_one, parted_more, IsOptional, optional_none, optional_some, AreEnclosed, enclosed, MayBeEnclosed, enclosed_none, enclosed_some, AreArguments, arguments_none, arguments_some, IsPath}
use Rattle.tm_syntax.specs.Grammar.Expressions.{IsExpr, expr_conditional, expr_binary, expr_shift, expr_unary, expr_number, expr_true, expr_false, expr_path, expr_element, expr_group, expr_cast}
use Rattle.tm_syntax.specs.Grammar.Statements.{IsWholeExpr, IsType, type_bool, type_uint, type_name, IsPlace, place_path, place_element, AreArgs, IsValue, value_star, value_call, value_expr, IsCondition, condition, IsStmt, stmt_assign, stmt_call, stmt_if, stmt_while, stmt_forever, stmt_choice, stmt_assert, stmt_assume, stmt_pause, stmt_wait, stmt_magic, IsIf, if_alone, if_else, if_else_if, IsBlock, block, AreStmts, stmts_none, stmts_more, AreAlternatives, alternatives_one, alternatives_more, IsLocal, local, IsBody, body, IsReturn, return, IsBraced, braced, IsAnswering, answering}
use Rattle.tm_syntax.specs.Grammar.Declarations.{IsLiteral, literal_number, literal_true, literal_false, literal_name, IsLength, size_of, IsInitial, initial, IsParam, param, IsInstance, instance, IsVar, variable, IsNamed, named, IsProcess, process_fair, process_lazy, IsTaskOf, task_of, IsTask, task_controllable, task_uncontrollable, procedure_typed, procedure_void}
use Rattle.tm_syntax.specs.Grammar.Specification.{DeclTree, goal_of, fairness_of, process_of, task_of as task_in, IsDecl, decl_instance, decl_variable, decl_goal, decl_fair, decl_process, decl_task, IsPort, port, IsTemplate, template, IsEnum, enum, ItemTree, template_in, IsItem, item_enum, item_template, IsSpec, spec}
use Rattle.tm_syntax.specs.Grammar.Faults.{IsWithin}
use Rattle.tm_syntax.proofs.Tokens.{piece_nonempty}
use Rattle.tm_typing.proofs.Listed.{holds_in, all_join, filter_map_holds}
use Rattle.tm_inst.specs.ShortTexts.{IsOfShortText}

-- so many tokens at most
abbrev Within : ℕ → List Token → Type 0
Within n tokens = length tokens ≤ n

-- the lists of a template that are numbered have so many members at most
pub record HasFew (n : ℕ) (t : TemplateTree) : Type 0 where
  pub goals : length t.goals ≤ n
  pub fairs : length t.fairs ≤ n
  pub processes : length t.processes ≤ n
  pub tasks : length t.tasks ≤ n

-- so do those of an item, if it is a template
abbrev ItemFew : ℕ → ItemTree → Type 0
ItemFew n i = IfSome (template_in i) (HasFew n)

-- what is picked out of a list is no more than the list
picked : {A B : Type 0} (h : A → Option B) (xs : List A) → length (filter_map h xs) ≤ length xs
picked h [] = omega arith
picked {A} {B} h (x ∷ xs) = by (h x) (picked h xs)
  where
    by : (o : Option B) → length (filter_map h xs) ≤ length xs →
        length (cons_option o (filter_map h xs)) ≤ length (x ∷ xs)
    by None rest = omega arith
    by (Some y) rest = omega arith

module _ (text : List ℕ) (May : List Token → ℕ → Type 0) where
  -- a token is one token
  has_one : {kind : TokenKind} {a b : List Token} → Has kind a b → length b < length a
  has_one h = let size = ap length h.whole in omega (arith, size)

  mark_one : {kind : TokenKind} {at : Place} {a b : List Token} → IsMark kind at a b → length b < length a
  mark_one h = let size = ap length h.whole in omega (arith, size)

  name_one : {name : Ident} {a b : List Token} → IsName text name a b → length b < length a
  name_one h = let size = ap length h.whole in omega (arith, size)

  number_one : {n : Num} {a b : List Token} → IsNumber text n a b → length b < length a
  number_one h = let size = ap length h.whole in omega (arith, size)

  -- ---- what forms leave

  module _ (n : ℕ) where
    has_left : {kind : TokenKind} {a b : List Token} → Has kind a b → Within n a → Within n b
    has_left h s = let less = has_one h in omega arith

    mark_left : {kind : TokenKind} {at : Place} {a b : List Token} → IsMark kind at a b → Within n a → Within n b
    mark_left h s = let less = mark_one h in omega arith

    name_left : (name : Ident) (a b : List Token) → IsName text name a b → Within n a → Within n b
    name_left name a b h s = let less = name_one h in omega arith

    number_left : {m : Num} {a b : List Token} → IsNumber text m a b → Within n a → Within n b
    number_left h s = let less = number_one h in omega arith

    each_left : {X : Type 0} (Is : X → List Token → List Token → Type 0) →
        ((x : X) (a b : List Token) → Is x a b → Within n a → Within n b) → {xs : List X} {a b : List Token} →
        AreEach Is xs a b → Within n a → Within n b
    each_left Is each each_none s = s
    each_left Is each (each_more {x = x} {b = q} {c = r} more one) s = each x q r one (each_left Is each more s)

    parted_left : {X : Type 0} (by : Sign) (Is : X → List Token → List Token → Type 0) →
        ((x : X) (a b : List Token) → Is x a b → Within n a → Within n b) → {xs : List X} {a b : List Token} →
        AreParted by Is xs a b → Within n a → Within n b
    parted_left by Is each (parted_one {x = x} {a = p} {b = q} one) s = each x p q one s
    parted_left by Is each (parted_more {x = x} {c = r} {d = u} more sign one) s =
        each x r u one (has_left sign (parted_left by Is each more s))

    enclosed_left : {X : Type 0} (depth : ℕ) (Is : X → List Token → List Token → Type 0) →
        ((x : X) (a b : List Token) → Is x a b → Within n a → Within n b) → {xs : List X} {a b : List Token} →
        AreEnclosed May depth Is xs a b → Within n a → Within n b
    enclosed_left depth Is each (enclosed left _ parts right) s =
        has_left right (parted_left _ Is each parts (has_left left s))

    may_be_left : {X : Type 0} (depth : ℕ) (Is : X → List Token → List Token → Type 0) →
        ((x : X) (a b : List Token) → Is x a b → Within n a → Within n b) → {xs : List X} {a b : List Token} →
        MayBeEnclosed May depth Is xs a b → Within n a → Within n b
    may_be_left depth Is each enclosed_none s = s
    may_be_left depth Is each (enclosed_some h) s = enclosed_left depth Is each h s

    arguments_left : {X : Type 0} (depth : ℕ) (Is : X → List Token → List Token → Type 0) →
        ((x : X) (a b : List Token) → Is x a b → Within n a → Within n b) → {xs : List X} {a b : List Token} →
        AreArguments May depth Is xs a b → Within n a → Within n b
    arguments_left depth Is each (arguments_none left _ right) s = has_left right (has_left left s)
    arguments_left depth Is each (arguments_some h) s = enclosed_left depth Is each h s

    path_left : {names : List Ident} {a b : List Token} → IsPath text names a b → Within n a → Within n b
    path_left h s = parted_left _ (IsName text) name_left h s

    expr_left : {bound depth : ℕ} {e : ExprTree} {a b : List Token} → IsExpr text May bound depth e a b →
        Within n a → Within n b
    expr_left (expr_conditional _ x question _ y colon z) s =
        expr_left z (has_left colon (expr_left y (mark_left question (expr_left x s))))
    expr_left (expr_binary _ x sign _ y) s = expr_left y (mark_left sign (expr_left x s))
    expr_left (expr_shift _ x sign _ m) s = number_left m (mark_left sign (expr_left x s))
    expr_left (expr_unary sign _ x) s = expr_left x (mark_left sign s)
    expr_left (expr_number m) s = number_left m s
    expr_left (expr_true word) s = mark_left word s
    expr_left (expr_false word) s = mark_left word s
    expr_left (expr_path p) s = path_left p s
    expr_left (expr_element p left _ x right) s = has_left right (expr_left x (has_left left (path_left p s)))
    expr_left (expr_group left _ x right) s = has_left right (expr_left x (mark_left left s))
    expr_left (expr_cast word less m greater left _ x right) s =
        has_left right (expr_left x (has_left left (has_left greater
        (number_left m (has_left less (mark_left word s))))))

    type_left : {ty : TypeName} {a b : List Token} → IsType text ty a b → Within n a → Within n b
    type_left (type_bool word) s = mark_left word s
    type_left (type_uint word less m greater) s = has_left greater (number_left m (has_left less (mark_left word s)))
    type_left (type_name {name = name} {a = p} {b = q} h) s = name_left name p q h s

    args_left : {depth : ℕ} {es : List ExprTree} {a b : List Token} → AreArgs text May depth es a b → Within n a →
        Within n b
    args_left {depth} h s =
        arguments_left depth (IsWholeExpr text May (depth + 1)) (λ e p q x left. expr_left x left) h s

    place_left : {depth : ℕ} {names : List Ident} {index : Option ExprTree} {a b : List Token} →
        IsPlace text May depth names index a b → Within n a → Within n b
    place_left (place_path p) s = path_left p s
    place_left (place_element p left _ x right) s = has_left right (expr_left x (has_left left (path_left p s)))

    value_left : {depth : ℕ} {v : ValueTree} {a b : List Token} → IsValue text May depth v a b → Within n a →
        Within n b
    value_left (value_star sign) s = mark_left sign s
    value_left (value_call p es) s = args_left es (path_left p s)
    value_left (value_expr x) s = expr_left x s

    condition_left : {depth : ℕ} {e : ExprTree} {a b : List Token} → IsCondition text May depth e a b →
        Within n a → Within n b
    condition_left (condition left _ x right) s = has_left right (expr_left x (has_left left s))

    mutual
      stmt_left : {depth : ℕ} {t : StmtTree} {a b : List Token} → IsStmt text May depth t a b → Within n a →
          Within n b
      stmt_left (stmt_assign p sign v end) s = has_left end (value_left v (has_left sign (place_left p s)))
      stmt_left (stmt_call p es end) s = has_left end (args_left es (path_left p s))
      stmt_left (stmt_if x) s = if_left x s
      stmt_left (stmt_while word c x) s = block_left x (condition_left c (mark_left word s))
      stmt_left (stmt_forever word x) s = block_left x (mark_left word s)
      stmt_left (stmt_choice word xs sep x) s = block_left x (has_left sep (alternatives_left xs (mark_left word s)))
      stmt_left (stmt_assert word c end) s = has_left end (condition_left c (mark_left word s))
      stmt_left (stmt_assume word c end) s = has_left end (condition_left c (mark_left word s))
      stmt_left (stmt_pause word end) s = has_left end (mark_left word s)
      stmt_left (stmt_wait word c end) s = has_left end (condition_left c (mark_left word s))
      stmt_left (stmt_magic sign end) s = has_left end (mark_left sign s)

      if_left : {depth : ℕ} {t : StmtTree} {a b : List Token} → IsIf text May depth t a b → Within n a → Within n b
      if_left (if_alone word c x) s = block_left x (condition_left c (has_left word s))
      if_left (if_else word c x other y) s =
          block_left y (has_left other (block_left x (condition_left c (has_left word s))))
      if_left (if_else_if word c x other _ y) s =
          if_left y (has_left other (block_left x (condition_left c (has_left word s))))

      block_left : {depth : ℕ} {ts : List StmtTree} {a b : List Token} → IsBlock text May depth ts a b →
          Within n a → Within n b
      block_left (block left _ xs right) s = has_left right (stmts_left xs (has_left left s))

      stmts_left : {depth : ℕ} {ts : List StmtTree} {a b : List Token} → AreStmts text May depth ts a b →
          Within n a → Within n b
      stmts_left stmts_none s = s
      stmts_left (stmts_more xs x) s = stmt_left x (stmts_left xs s)

      alternatives_left : {depth : ℕ} {bs : List StmtRow} {a b : List Token} →
          AreAlternatives text May depth bs a b → Within n a → Within n b
      alternatives_left (alternatives_one x) s = block_left x s
      alternatives_left (alternatives_more xs sep x) s = block_left x (has_left sep (alternatives_left xs s))

    local_left : {depth : ℕ} (l : LocalTree) (a b : List Token) → IsLocal text May depth l a b → Within n a →
        Within n b
    local_left _ a b (local {name = name} {b = p} {c = q} ty m sign v end) s =
        has_left end (value_left v (has_left sign (name_left name p q m (type_left ty s))))

    body_left : {depth : ℕ} {ls : List LocalTree} {ts : List StmtTree} {a b : List Token} →
        IsBody text May depth ls ts a b → Within n a → Within n b
    body_left {depth} (body xs ys) s = stmts_left ys (each_left (IsLocal text May depth) local_left xs s)

    braced_left : {depth : ℕ} (x : BodyTree) (a b : List Token) → IsBraced text May depth x a b → Within n a →
        Within n b
    braced_left _ a b (braced left _ h right) s = has_left right (body_left h (has_left left s))

    answer_left : {depth : ℕ} {o : Option ExprTree} {a b : List Token} → IsOptional (IsReturn text May depth) o a b →
        Within n a → Within n b
    answer_left optional_none s = s
    answer_left (optional_some (return word x end)) s = has_left end (expr_left x (has_left word s))

    answering_left : {depth : ℕ} (x : BodyTree) (a b : List Token) → IsAnswering text May depth x a b →
        Within n a → Within n b
    answering_left _ a b (answering left _ h answer right) s =
        has_left right (answer_left answer (body_left h (has_left left s)))

    literal_left : {e : ExprTree} {a b : List Token} → IsLiteral text e a b → Within n a → Within n b
    literal_left (literal_number m) s = number_left m s
    literal_left (literal_true word) s = mark_left word s
    literal_left (literal_false word) s = mark_left word s
    literal_left (literal_name {name = name} {a = p} {b = q} h) s = name_left name p q h s

    initial_left : {o : Option ExprTree} {a b : List Token} → IsOptional (IsInitial text) o a b → Within n a →
        Within n b
    initial_left optional_none s = s
    initial_left (optional_some (initial sign x)) s = literal_left x (has_left sign s)

    length_left : {o : Option Num} {a b : List Token} → IsOptional (IsLength text) o a b → Within n a → Within n b
    length_left optional_none s = s
    length_left (optional_some (size_of left h right)) s = has_left right (number_left h (has_left left s))

    param_left : (x : Param) (a b : List Token) → IsParam text x a b → Within n a → Within n b
    param_left _ a b (param {name = name} {b = p} {c = q} ty m) s = name_left name p q m (type_left ty s)

    port_left : (x : Port) (a b : List Token) → IsPort text x a b → Within n a → Within n b
    port_left _ a b (port {template = t} {name = name} {a = p} {b = q} {c = r} of m) s =
        name_left name q r m (name_left t p q of s)

    named_left : {depth : ℕ} {x : NamedTree} {a b : List Token} → IsNamed text May depth x a b → Within n a →
        Within n b
    named_left (named {name = name} {a = p} {b = q} m sign x end) s =
        has_left end (expr_left x (has_left sign (name_left name p q m s)))

    task_of_left : {depth : ℕ} (Is : BodyTree → List Token → List Token → Type 0) →
        ((x : BodyTree) (a b : List Token) → Is x a b → Within n a → Within n b) → {kind : TaskKind}
        {k : TaskTree} {a b : List Token} → IsTaskOf text May depth Is kind k a b → Within n a → Within n b
    task_of_left {depth} Is each
        (task_of {name = name} {body = bo} {a = p} {b = q} {c = r} {d = u} m xs h) s =
        each bo r u h (arguments_left depth (IsParam text) param_left xs (name_left name p q m s))

  -- ---- what takes a token

  -- what follows a token leaves fewer than there were with it
  after_has : {kind : TokenKind} {a b : List Token} (c : List Token) → Has kind a b → Within (length b) c →
      length c < length a
  after_has c h left = let one = has_one h in omega arith

  type_taken : {ty : TypeName} {a b : List Token} → IsType text ty a b → length b < length a
  type_taken (type_bool word) = mark_one word
  type_taken (type_uint {b = p} word less m greater) =
      let one = mark_one word in
      let left = has_left (length p) greater (number_left (length p) m (has_left (length p) less (omega arith))) in
      omega arith
  type_taken (type_name h) = name_one h

  instance_taken : {depth : ℕ} {i : InstanceTree} {a b : List Token} → IsInstance text May depth i a b →
      length b < length a
  instance_taken {depth} (instance {template = t} {name = name} {b = p} {c = q} {d = r} {f = v} word of m xs end) =
      let n = length p in
      after_has v word (has_left n end (may_be_left n depth (IsName text) (name_left n) xs
      (name_left n name q r m (name_left n t p q of (omega arith)))))

  var_taken : {v : VarTree} {a b : List Token} → IsVar text v a b → length b < length a
  var_taken (variable {name = name} {b = p} {c = q} ty m sized init end) =
      let n = length p in
      let one = type_taken ty in
      let left = has_left n end (initial_left n init (length_left n sized (name_left n name p q m (omega arith)))) in
      omega arith

  process_taken : {depth : ℕ} {x : ProcessTree} {a b : List Token} → IsProcess text May depth x a b →
      length b < length a
  process_taken (process_fair {name = name} {body = bo} {b = p} {c = q} {d = r} word m h) =
      let n = length p in after_has r word (braced_left n bo q r h (name_left n name p q m (omega arith)))
  process_taken (process_lazy {name = name} {body = bo} {b = o} {c = p} {d = q} {e = r} lazy word m h) =
      let n = length o in
      after_has r lazy (braced_left n bo q r h (name_left n name p q m (has_left n word (omega arith))))

  task_taken : {depth : ℕ} {k : TaskTree} {a b : List Token} → IsTask text May depth k a b → length b < length a
  task_taken {depth} (task_controllable {b = p} {d = r} word sort h) =
      let n = length p in
      after_has r word (task_of_left n (IsBraced text May depth) (braced_left n) h (has_left n sort (omega arith)))
  task_taken {depth} (task_uncontrollable {b = p} {d = r} word sort h) =
      let n = length p in
      after_has r word (task_of_left n (IsBraced text May depth) (braced_left n) h (has_left n sort (omega arith)))
  task_taken {depth} (procedure_typed {b = p} {d = r} word ty h) =
      let n = length p in
      after_has r word (task_of_left n (IsAnswering text May depth) (answering_left n) h (type_left n ty (omega arith)))
  task_taken {depth} (procedure_void {b = p} {d = r} word sort h) =
      let n = length p in
      let left = has_left n sort (omega arith) in
      after_has r word (task_of_left n (IsAnswering text May depth) (answering_left n) h left)

  decl_taken : {depth : ℕ} (d : DeclTree) (a b : List Token) → IsDecl text May depth d a b → length b < length a
  decl_taken _ a b (decl_instance h) = instance_taken h
  decl_taken _ a b (decl_variable h) = var_taken h
  decl_taken _ a b (decl_goal {b = p} {c = q} word h) = after_has q word (named_left (length p) h (omega arith))
  decl_taken _ a b (decl_fair {b = p} {c = q} word h) = after_has q word (named_left (length p) h (omega arith))
  decl_taken _ a b (decl_process h) = process_taken h
  decl_taken _ a b (decl_task h) = task_taken h

  -- forms that take a token each are as many as the tokens that they take, at most
  each_taken : {X : Type 0} (Is : X → List Token → List Token → Type 0) →
      ((x : X) (a b : List Token) → Is x a b → length b < length a) → (xs : List X) (a b : List Token) →
      AreEach Is xs a b → length xs + length b ≤ length a
  each_taken Is each _ a b each_none = omega arith
  each_taken Is each _ a b (each_more {xs = xs} {x = x} {a = p} {b = q} {c = r} more one) =
      let front = each_taken Is each xs p q more in
      let last = each x q r one in
      omega (arith, length-append xs (x ∷ []))

  -- a template takes a token, and what it lists is no more than the tokens
  template_taken : {depth : ℕ} {t : TemplateTree} {a b : List Token} → IsTemplate text May depth t a b →
      HasFew (length a) t × (length b < length a)
  template_taken {depth}
      (template {name = name} {decls = ds} {b = p} {c = q} {d = r} {e = u} word m xs ys end) =
      let n = length p in
      let one = has_one word in
      let ports = may_be_left n depth (IsPort text) (port_left n) xs (name_left n name p q m (omega arith)) in
      let all = each_taken (IsDecl text May depth) decl_taken ds r u ys in
      let last = has_one end in
      let goals = picked goal_of ds in
      let fairs = picked fairness_of ds in
      let processes = picked process_of ds in
      let tasks = picked task_in ds in
      (record { goals = omega arith; fairs = omega arith; processes = omega arith; tasks = omega arith }, omega arith)

  enum_taken : {e : EnumTree} {a b : List Token} → IsEnum text May 0 e a b → length b < length a
  enum_taken (enum {name = name} {b = o} {d = p} {f = r} {g = u} {h = v} word sort left _ xs right m end) =
      let n = length o in
      after_has v word (has_left n end (name_left n name r u m (has_left n right (parted_left n _ (IsName text)
      (name_left n) xs (has_left n left (has_left n sort (omega arith)))))))

  item_taken : (i : ItemTree) (a b : List Token) → IsItem text May 0 i a b → length b < length a
  item_taken _ a b (item_enum h) = enum_taken h
  item_taken _ a b (item_template h) = (template_taken h).1

  more_few : (m n : ℕ) (t : TemplateTree) → m ≤ n → HasFew m t → HasFew n t
  more_few m n t below few = record {
    goals = (let h = few.goals in omega arith);
    fairs = (let h = few.fairs in omega arith);
    processes = (let h = few.processes in omega arith);
    tasks = (let h = few.tasks in omega arith);
  }

  item_few : (n : ℕ) (i : ItemTree) (a b : List Token) → IsItem text May 0 i a b → Within n a → ItemFew n i
  item_few n _ a b (item_enum h) s = tt
  item_few n _ a b (item_template {t = t} {a = p} h) s = more_few (length p) n t s (template_taken h).0

  items_few : (n : ℕ) (xs : List ItemTree) (a b : List Token) → AreEach (IsItem text May 0) xs a b → Within n a →
      AllByRecursion (ItemFew n) xs
  items_few n _ a b each_none s = tt
  items_few n _ a b (each_more {xs = xs} {x = x} {a = p} {b = q} {c = r} more one) s =
      let all = each_taken (IsItem text May 0) item_taken xs p q more in
      all_join (ItemFew n) xs (x ∷ []) (items_few n xs p q more s) (item_few n x q r one (omega arith), tt)

  -- the templates of a text are no more than its tokens, and what each lists is not either
  spec_few : (n : ℕ) (x : SpecTree) (a b : List Token) → IsSpec text May x a b → Within n a →
      (length x.templates ≤ n) × AllByRecursion (HasFew n) x.templates
  spec_few n _ a b (spec {items = is} {last = i} {a = p} {b = q} {c = r} xs x) s =
      let all = each_taken (IsItem text May 0) item_taken is p q xs in
      let last = item_taken i q r x in
      let size = length-append is (i ∷ []) in
      let few = picked template_in (is ++ i ∷ []) in (
        omega arith,
        filter_map_holds (HasFew n) template_in (is ++ i ∷ [])
            (λ y j. holds_in (ItemFew n) (is ++ i ∷ []) (all_join (ItemFew n) is (i ∷ []) (items_few n is p q xs s)
            (item_few n i q r x (omega arith), tt)) j),
      )

-- ---- tokens and bytes

no_more_than_one : (front : List ℕ) (p : Piece) (kind : Option TokenKind) →
    length (option_to_list (token_behind front (record p { kind = kind }))) ≤ 1
no_more_than_one front p None = omega arith
no_more_than_one front p (Some kind) = omega arith

no_more : (front : List ℕ) (ps : List Piece) (rest : List ℕ) → ArePieces ps rest →
    length (tokens_behind front ps) ≤ length (bytes_of ps)
no_more front [] rest each = omega arith
no_more front (p ∷ ps) rest each =
    let one = no_more_than_one front p p.kind in
    let some = piece_nonempty p.kind p.bytes each.0 in
    let more = no_more (front ++ p.bytes) ps rest each.2 in
    omega (
      arith,
      length-append (option_to_list (token_behind front p)) (tokens_behind (front ++ p.bytes) ps),
      length-append p.bytes (bytes_of ps),
    )

-- there are no more tokens than bytes
few_tokens : (text : List ℕ) (tokens : List Token) → AreTokens text tokens → length tokens ≤ length text
few_tokens text tokens h =
    let more = no_more [] h.pieces [] h.split.each in
    let all = ap length h.are in
    let whole = ap length h.split.whole ∙ length-append (bytes_of h.pieces) [] in
    omega arith

-- the lists of a short text are short
pub short_lists : (x : SpecTree) → IsOfShortText x →
    (length x.templates ≤ specification_limit) × AllByRecursion (HasFew specification_limit) x.templates
short_lists x of =
    let tokens = few_tokens of.text of.tokens of.are_tokens in
    let bytes = of.short in
    spec_few of.text (IsWithin 0) specification_limit x of.tokens [] of.is_tree (omega arith)
