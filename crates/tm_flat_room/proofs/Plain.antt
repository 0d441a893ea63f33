-- A text without the word `assume` assumes nothing: by the grammar, each form at a time. Where a form begins with
-- tokens among which the word does not stand, it leaves such tokens.
use Rattle.std.proofs.Common.{◌≡◌, ℕ, ◌+◌, Bool, true, false, Option, None, List, [], ◌∷◌, ◌++◌, refl, sym, ap, subst, ◌||◌, ◌∙◌, map}
use Rattle.std.specs.Prelude.{IfSome}
use Rattle.std.specs.List.{AllByRecursion, flat_map, enumerate_from}
use Rattle.tm_base.specs.declared.place.Place.{Place}
use Rattle.tm_syntax.specs.declared.token.Token.{Token}
use Rattle.tm_syntax.specs.declared.token.TokenKind.{TokenKind}
use Rattle.tm_syntax.specs.declared.token.TokenKind.TheVariants as token
use Rattle.tm_syntax.specs.declared.token.Sign.{Sign}
use Rattle.tm_syntax.specs.declared.token.Word.TheVariants as word
use Rattle.tm_syntax.specs.declared.tree.Ident.{Ident}
use Rattle.tm_syntax.specs.declared.tree.Num.{Num}
use Rattle.tm_syntax.specs.declared.tree.Param.{Param}
use Rattle.tm_syntax.specs.declared.tree.Port.{Port}
use Rattle.tm_syntax.specs.declared.tree.TaskKind.{TaskKind}
use Rattle.tm_syntax.specs.declared.tree.TypeName.{TypeName}
use Rattle.tm_syntax.specs.Tree.{ExprTree, ValueTree, StmtTree, assign, choose, StmtRow, row_of, alternatives_of, LocalTree, BodyTree, VarTree, NamedTree, ProcessTree, TaskTree, InstanceTree, EnumTree, TemplateTree, SpecTree}
use Rattle.tm_syntax.specs.Scopes.Parts.{inner_stmts, row_stmts, block_stmts, all_stmts, stmts_in, BodyAt, template_bodies, process_body_at, task_body_at}
use Rattle.tm_syntax.specs.Grammar.Parts.{Has, IsMark, IsName, IsNumber, AreEach, each_none, each_more, AreParted, parted_one, parted_more, IsOptional, optional_none, optional_some, AreEnclosed, enclosed, MayBeEnclosed, enclosed_none, enclosed_some, AreArguments, arguments_none, arguments_some, IsPath}
use Rattle.tm_syntax.specs.Grammar.Expressions.{IsExpr, expr_conditional, expr_binary, expr_shift, expr_unary, expr_number, expr_true, expr_false, expr_path, expr_element, expr_group, expr_cast}
use Rattle.tm_syntax.specs.Grammar.Statements.{IsWholeExpr, IsType, type_bool, type_uint, type_name, IsPlace, place_path, place_element, AreArgs, IsValue, value_star, value_call, value_expr, IsCondition, condition, IsStmt, stmt_assign, stmt_call, stmt_if, stmt_while, stmt_forever, stmt_choice, stmt_assert, stmt_assume, stmt_pause, stmt_wait, stmt_magic, IsIf, if_alone, if_else, if_else_if, IsBlock, block, AreStmts, stmts_none, stmts_more, AreAlternatives, alternatives_one, alternatives_more, IsLocal, local, IsBody, body, IsReturn, return, IsBraced, braced, IsAnswering, answering}
use Rattle.tm_syntax.specs.Grammar.Declarations.{IsLiteral, literal_number, literal_true, literal_false, literal_name, IsLength, size_of, IsInitial, initial, IsParam, param, IsInstance, instance, IsVar, variable, IsNamed, named, IsProcess, process_fair, process_lazy, IsTaskOf, task_of, IsTask, task_controllable, task_uncontrollable, procedure_typed, procedure_void}
use Rattle.tm_syntax.specs.Grammar.Specification.{DeclTree, process_of, task_of as task_in, IsDecl, decl_instance, decl_variable, decl_goal, decl_fair, decl_process, decl_task, IsPort, port, IsTemplate, template, IsEnum, enum, ItemTree, template_in, IsItem, item_enum, item_template, IsSpec, spec}
use Rattle.tm_syntax.specs.Grammar.Faults.{IsWithin, IsTree}
use Rattle.tm_typing.proofs.Listed.{holds_in, all_join, filter_map_holds}
use Rattle.tm_flat_room.specs.Assuming.{assumes, has_assume, may_block, AssumesNothing}

-- tokens among which the word `assume` does not stand
abbrev pub Plain : List Token → Type 0
Plain tokens = AllByRecursion (λ (t : Token). assumes t.kind ≡ false) tokens

-- statements of which none may block
abbrev pub Free : List StmtTree → Type 0
Free ss = AllByRecursion (λ s. may_block s ≡ false) ss

either_false : (a b : Bool) → (a || b) ≡ false → (a ≡ false) × (b ≡ false)
either_false false b e = (refl, e)
either_false true b e = cc

plain_tokens : (tokens : List Token) → has_assume tokens ≡ false → Plain tokens
plain_tokens [] none = tt
plain_tokens (t ∷ ts) none =
    let both = either_false (assumes t.kind) (has_assume ts) none in (both.0, plain_tokens ts both.1)

-- statements with those within them, as a row has them
pub row_is : (ss : List StmtTree) → row_stmts (row_of ss) ≡ all_stmts ss
row_is [] = refl
row_is (s ∷ ss) = ap (λ (l : List StmtTree). s ∷ inner_stmts s ++ l) (row_is ss)

free_row : (ss : List StmtTree) → Free (all_stmts ss) → Free (row_stmts (row_of ss))
free_row ss free = subst Free (sym (row_is ss)) free

free_join : (xs ys : List StmtTree) → Free xs → Free ys → Free (xs ++ ys)
free_join xs ys a b = all_join (λ s. may_block s ≡ false) xs ys a b

free_flat : (ss ts : List StmtTree) → Free (all_stmts ss) → Free (all_stmts ts) → Free (all_stmts (ss ++ ts))
free_flat [] ts a b = b
free_flat (s ∷ ss) ts a b =
    let front = free_split (s ∷ inner_stmts s) (all_stmts ss) a in
    free_join (s ∷ inner_stmts s) (all_stmts (ss ++ ts)) front.0 (free_flat ss ts front.1 b)
  where
    free_split : (xs ys : List StmtTree) → Free (xs ++ ys) → Free xs × Free ys
    free_split [] ys all = (tt, all)
    free_split (x ∷ xs) ys all = let rest = free_split xs ys all.1 in ((all.0, rest.0), rest.1)

-- the statements of alternatives
free_blocks : (rows : List StmtRow) → AllByRecursion (λ r. Free (row_stmts r)) rows →
    Free (block_stmts (alternatives_of rows))
free_blocks [] all = tt
free_blocks (r ∷ rows) all = free_join (row_stmts r) (block_stmts (alternatives_of rows)) all.0 (free_blocks rows all.1)

-- a choice of something does not block
some_alternative : (at : Place) (rows : List StmtRow) (r : StmtRow) →
    may_block (choose at (alternatives_of (rows ++ r ∷ []))) ≡ false
some_alternative at [] r = refl
some_alternative at (x ∷ rows) r = refl

-- the statements of a process or a task
abbrev pub FreeBody : BodyTree → Type 0
FreeBody b = Free (stmts_in b)

free_locals : (ls : List LocalTree) →
    Free (all_stmts (map (λ (l : LocalTree). assign (l.name ∷ []) None l.value) ls))
free_locals [] = tt
free_locals (l ∷ ls) = (refl, free_locals ls)

-- of a template
pub record FreeTemplate (t : TemplateTree) : Type 0 where
  pub processes : AllByRecursion (λ (p : ProcessTree). FreeBody p.body) t.processes
  pub tasks : AllByRecursion (λ (k : TaskTree). FreeBody k.body) t.tasks

-- of a declaration
pub record FreeDecl (d : DeclTree) : Type 0 where
  pub processes : IfSome (process_of d) (λ (p : ProcessTree). FreeBody p.body)
  pub tasks : IfSome (task_in d) (λ (k : TaskTree). FreeBody k.body)

module _ (text : List ℕ) (May : List Token → ℕ → Type 0) where
  has_left : {kind : TokenKind} {a b : List Token} → Has kind a b → Plain a → Plain b
  has_left h s = (subst Plain h.whole s).1

  mark_left : {kind : TokenKind} {at : Place} {a b : List Token} → IsMark kind at a b → Plain a → Plain b
  mark_left h s = (subst Plain h.whole s).1

  -- the word does not stand in front of them
  no_assume : {at : Place} {a b : List Token} → IsMark (token.Word word.Assume) at a b → Plain a → ⊥
  no_assume h s =
      let all = subst Plain h.whole s in
      let is : true ≡ false = ap assumes (sym h.is) ∙ all.0 in
      cc

  number_left : {n : Num} {a b : List Token} → IsNumber text n a b → Plain a → Plain b
  number_left h s = (subst Plain h.whole s).1

  name_left : (name : Ident) (a b : List Token) → IsName text name a b → Plain a → Unit {0} × Plain b
  name_left name a b h s = (tt, (subst Plain h.whole s).1)

  -- a list of forms leaves what the last of them does
  each_left : {X : Type 0} (P : X → Type 0) (Is : X → List Token → List Token → Type 0) →
      ((x : X) (a b : List Token) → Is x a b → Plain a → P x × Plain b) → (xs : List X) (a b : List Token) →
      AreEach Is xs a b → Plain a → AllByRecursion P xs × Plain b
  each_left P Is each _ a b each_none s = (tt, s)
  each_left P Is each _ a b (each_more {xs = xs} {x = x} {a = p} {b = q} {c = r} more one) s =
      let front = each_left P Is each xs p q more s in
      let last = each x q r one front.1 in
      (all_join P xs (x ∷ []) front.0 (last.0, tt), last.1)

  parted_left : {X : Type 0} (by : Sign) (Is : X → List Token → List Token → Type 0) →
      ((x : X) (a b : List Token) → Is x a b → Plain a → Unit {0} × Plain b) → (xs : List X) (a b : List Token) →
      AreParted by Is xs a b → Plain a → Plain b
  parted_left by Is each _ a b (parted_one {x = x} {a = p} {b = q} one) s = (each x p q one s).1
  parted_left by Is each _ a b (parted_more {xs = xs} {x = x} {a = p} {b = q} {c = r} {d = u} more sign one) s =
      (each x r u one (has_left sign (parted_left by Is each xs p q more s))).1

  enclosed_left : {X : Type 0} (depth : ℕ) (Is : X → List Token → List Token → Type 0) →
      ((x : X) (a b : List Token) → Is x a b → Plain a → Unit {0} × Plain b) → (xs : List X) (a b : List Token) →
      AreEnclosed May depth Is xs a b → Plain a → Plain b
  enclosed_left depth Is each _ a b (enclosed {xs = xs} {b = p} {c = q} left _ parts right) s =
      has_left right (parted_left _ Is each xs p q parts (has_left left s))

  may_be_left : {X : Type 0} (depth : ℕ) (Is : X → List Token → List Token → Type 0) →
      ((x : X) (a b : List Token) → Is x a b → Plain a → Unit {0} × Plain b) → (xs : List X) (a b : List Token) →
      MayBeEnclosed May depth Is xs a b → Plain a → Plain b
  may_be_left depth Is each _ a b enclosed_none s = s
  may_be_left depth Is each xs a b (enclosed_some h) s = enclosed_left depth Is each xs a b h s

  arguments_left : {X : Type 0} (depth : ℕ) (Is : X → List Token → List Token → Type 0) →
      ((x : X) (a b : List Token) → Is x a b → Plain a → Unit {0} × Plain b) → (xs : List X) (a b : List Token) →
      AreArguments May depth Is xs a b → Plain a → Plain b
  arguments_left depth Is each _ a b (arguments_none left _ right) s = has_left right (has_left left s)
  arguments_left depth Is each xs a b (arguments_some h) s = enclosed_left depth Is each xs a b h s

  path_left : {names : List Ident} {a b : List Token} → IsPath text names a b → Plain a → Plain b
  path_left {names} {a} {b} h s = parted_left _ (IsName text) name_left names a b h s

  expr_left : {bound depth : ℕ} {e : ExprTree} {a b : List Token} → IsExpr text May bound depth e a b →
      Plain a → Plain b
  expr_left (expr_conditional _ x question _ y colon z) s =
      expr_left z (has_left colon (expr_left y (mark_left question (expr_left x s))))
  expr_left (expr_binary _ x sign _ y) s = expr_left y (mark_left sign (expr_left x s))
  expr_left (expr_shift _ x sign _ n) s = number_left n (mark_left sign (expr_left x s))
  expr_left (expr_unary sign _ x) s = expr_left x (mark_left sign s)
  expr_left (expr_number n) s = number_left n s
  expr_left (expr_true word) s = mark_left word s
  expr_left (expr_false word) s = mark_left word s
  expr_left (expr_path p) s = path_left p s
  expr_left (expr_element p left _ x right) s = has_left right (expr_left x (has_left left (path_left p s)))
  expr_left (expr_group left _ x right) s = has_left right (expr_left x (mark_left left s))
  expr_left (expr_cast word less n greater left _ x right) s =
      has_left right (expr_left x (has_left left (has_left greater (number_left n (has_left less (mark_left word s))))))

  type_left : {ty : TypeName} {a b : List Token} → IsType text ty a b → Plain a → Plain b
  type_left (type_bool word) s = mark_left word s
  type_left (type_uint word less n greater) s = has_left greater (number_left n (has_left less (mark_left word s)))
  type_left (type_name {name = name} {a = p} {b = q} h) s = (name_left name p q h s).1

  args_left : {depth : ℕ} {es : List ExprTree} {a b : List Token} → AreArgs text May depth es a b → Plain a → Plain b
  args_left {depth} {es} {a} {b} h s =
      arguments_left depth (IsWholeExpr text May (depth + 1)) (λ e p q x left. (tt, expr_left x left)) es a b h s

  place_left : {depth : ℕ} {names : List Ident} {index : Option ExprTree} {a b : List Token} →
      IsPlace text May depth names index a b → Plain a → Plain b
  place_left (place_path p) s = path_left p s
  place_left (place_element p left _ x right) s = has_left right (expr_left x (has_left left (path_left p s)))

  value_left : {depth : ℕ} {v : ValueTree} {a b : List Token} → IsValue text May depth v a b → Plain a → Plain b
  value_left (value_star sign) s = mark_left sign s
  value_left (value_call p es) s = args_left es (path_left p s)
  value_left (value_expr x) s = expr_left x s

  condition_left : {depth : ℕ} {e : ExprTree} {a b : List Token} → IsCondition text May depth e a b → Plain a → Plain b
  condition_left (condition left _ x right) s = has_left right (expr_left x (has_left left s))

  mutual
    stmt_free : {depth : ℕ} {t : StmtTree} {a b : List Token} → IsStmt text May depth t a b → Plain a →
        Free (t ∷ inner_stmts t) × Plain b
    stmt_free (stmt_assign p sign v end) s =
        ((refl, tt), has_left end (value_left v (has_left sign (place_left p s))))
    stmt_free (stmt_call p es end) s = ((refl, tt), has_left end (args_left es (path_left p s)))
    stmt_free (stmt_if x) s = if_free x s
    stmt_free (stmt_while {body = ts} word c x) s =
        let inside = block_free x (condition_left c (mark_left word s)) in ((refl, free_row ts inside.0), inside.1)
    stmt_free (stmt_forever {body = ts} word x) s =
        let inside = block_free x (mark_left word s) in ((refl, free_row ts inside.0), inside.1)
    stmt_free (stmt_choice {at = at} {blocks = rows} {last = ts} word xs sep x) s =
        let front = alternatives_free xs (mark_left word s) in
        let last = block_free x (has_left sep front.1) in (
          (
            some_alternative at rows (row_of ts),
            free_blocks (rows ++ row_of ts ∷ [])
                (all_join (λ r. Free (row_stmts r)) rows (row_of ts ∷ []) front.0 (free_row ts last.0, tt)),
          ),
          last.1,
        )
    stmt_free (stmt_assert word c end) s = ((refl, tt), has_left end (condition_left c (mark_left word s)))
    stmt_free (stmt_assume word c end) s = absurd (no_assume word s)
    stmt_free (stmt_pause word end) s = ((refl, tt), has_left end (mark_left word s))
    stmt_free (stmt_wait word c end) s = ((refl, tt), has_left end (condition_left c (mark_left word s)))
    stmt_free (stmt_magic sign end) s = ((refl, tt), has_left end (mark_left sign s))

    if_free : {depth : ℕ} {t : StmtTree} {a b : List Token} → IsIf text May depth t a b → Plain a →
        Free (t ∷ inner_stmts t) × Plain b
    if_free (if_alone {yes_block = ts} word c x) s =
        let inside = block_free x (condition_left c (has_left word s)) in
        ((refl, free_join (row_stmts (row_of ts)) [] (free_row ts inside.0) tt), inside.1)
    if_free (if_else {yes_block = ts} {no_block = us} word c x other y) s =
        let first = block_free x (condition_left c (has_left word s)) in
        let second = block_free y (has_left other first.1) in (
          (
            refl,
            free_join (row_stmts (row_of ts)) (row_stmts (row_of us)) (free_row ts first.0) (free_row us second.0),
          ),
          second.1,
        )
    if_free (if_else_if {yes_block = ts} {s = t} word c x other _ y) s =
        let first = block_free x (condition_left c (has_left word s)) in
        let second = if_free y (has_left other first.1) in (
          (
            refl,
            free_join (row_stmts (row_of ts)) ((t ∷ inner_stmts t) ++ []) (free_row ts first.0)
                (free_join (t ∷ inner_stmts t) [] second.0 tt),
          ),
          second.1,
        )

    block_free : {depth : ℕ} {ts : List StmtTree} {a b : List Token} → IsBlock text May depth ts a b → Plain a →
        Free (all_stmts ts) × Plain b
    block_free (block left _ xs right) s =
        let inside = stmts_free xs (has_left left s) in (inside.0, has_left right inside.1)

    stmts_free : {depth : ℕ} {ts : List StmtTree} {a b : List Token} → AreStmts text May depth ts a b → Plain a →
        Free (all_stmts ts) × Plain b
    stmts_free stmts_none s = (tt, s)
    stmts_free (stmts_more {ss = ss} {s = t} xs x) s =
        let front = stmts_free xs s in
        let last = stmt_free x front.1 in
        (free_flat ss (t ∷ []) front.0 (free_join (t ∷ inner_stmts t) [] last.0 tt), last.1)

    alternatives_free : {depth : ℕ} {bs : List StmtRow} {a b : List Token} → AreAlternatives text May depth bs a b →
        Plain a → AllByRecursion (λ r. Free (row_stmts r)) bs × Plain b
    alternatives_free (alternatives_one {body = ts} x) s =
        let inside = block_free x s in ((free_row ts inside.0, tt), inside.1)
    alternatives_free (alternatives_more {blocks = rows} {body = ts} xs sep x) s =
        let front = alternatives_free xs s in
        let last = block_free x (has_left sep front.1) in
        (all_join (λ r. Free (row_stmts r)) rows (row_of ts ∷ []) front.0 (free_row ts last.0, tt), last.1)

  local_left : (depth : ℕ) (l : LocalTree) (a b : List Token) → IsLocal text May depth l a b → Plain a →
      Unit {0} × Plain b
  local_left depth _ a b (local {name = name} {b = p} {c = q} ty n sign v end) s =
      (tt, has_left end (value_left v (has_left sign (name_left name p q n (type_left ty s)).1)))

  body_free : (depth : ℕ) (ls : List LocalTree) (ts : List StmtTree) (answer : Option ExprTree) (a b : List Token) →
      IsBody text May depth ls ts a b → Plain a →
      FreeBody (record { locals = ls; stmts = ts; answer = answer }) × Plain b
  body_free depth _ _ answer a b (body {locals = ls} {stmts = ts} {a = p} {b = q} xs ys) s =
      let front = each_left (λ _. Unit {0}) (IsLocal text May depth) (local_left depth) ls p q xs s in
      let inside = stmts_free ys front.1 in (
        free_flat (map (λ (l : LocalTree). assign (l.name ∷ []) None l.value) ls) ts (free_locals ls) inside.0,
        inside.1,
      )

  braced_free : (depth : ℕ) (x : BodyTree) (a b : List Token) → IsBraced text May depth x a b → Plain a →
      FreeBody x × Plain b
  braced_free depth _ a b (braced {locals = ls} {stmts = ts} {b = p} {c = q} left _ h right) s =
      let all = body_free (depth + 1) ls ts None p q h (has_left left s) in (all.0, has_left right all.1)

  answer_left : {depth : ℕ} {o : Option ExprTree} {a b : List Token} → IsOptional (IsReturn text May depth) o a b →
      Plain a → Plain b
  answer_left optional_none s = s
  answer_left (optional_some (return word x end)) s = has_left end (expr_left x (has_left word s))

  answering_free : (depth : ℕ) (x : BodyTree) (a b : List Token) → IsAnswering text May depth x a b → Plain a →
      FreeBody x × Plain b
  answering_free depth _ a b
      (answering {locals = ls} {stmts = ts} {answer = o} {b = p} {c = q} left _ h answer right) s =
      let all = body_free (depth + 1) ls ts o p q h (has_left left s) in
      (all.0, has_left right (answer_left answer all.1))

  literal_left : {e : ExprTree} {a b : List Token} → IsLiteral text e a b → Plain a → Plain b
  literal_left (literal_number n) s = number_left n s
  literal_left (literal_true word) s = mark_left word s
  literal_left (literal_false word) s = mark_left word s
  literal_left (literal_name {name = name} {a = p} {b = q} h) s = (name_left name p q h s).1

  initial_left : {o : Option ExprTree} {a b : List Token} → IsOptional (IsInitial text) o a b → Plain a → Plain b
  initial_left optional_none s = s
  initial_left (optional_some (initial sign x)) s = literal_left x (has_left sign s)

  length_left : {o : Option Num} {a b : List Token} → IsOptional (IsLength text) o a b → Plain a → Plain b
  length_left optional_none s = s
  length_left (optional_some (size_of left h right)) s = has_left right (number_left h (has_left left s))

  param_left : (x : Param) (a b : List Token) → IsParam text x a b → Plain a → Unit {0} × Plain b
  param_left _ a b (param {name = name} {b = p} {c = q} ty n) s = (tt, (name_left name p q n (type_left ty s)).1)

  instance_left : {depth : ℕ} {i : InstanceTree} {a b : List Token} → IsInstance text May depth i a b → Plain a →
      Plain b
  instance_left {depth}
      (instance {template = t} {name = name} {args = args} {b = p} {c = q} {d = r} {e = u} word of n xs end) s =
      let found = (name_left name q r n (name_left t p q of (has_left word s)).1).1 in
      has_left end (may_be_left depth (IsName text) name_left args r u xs found)

  var_left : {v : VarTree} {a b : List Token} → IsVar text v a b → Plain a → Plain b
  var_left (variable {name = name} {b = p} {c = q} ty n sized init end) s =
      has_left end (initial_left init (length_left sized (name_left name p q n (type_left ty s)).1))

  named_left : {depth : ℕ} {x : NamedTree} {a b : List Token} → IsNamed text May depth x a b → Plain a → Plain b
  named_left (named {name = name} {a = p} {b = q} n sign x end) s =
      has_left end (expr_left x (has_left sign (name_left name p q n s).1))

  process_free : (depth : ℕ) (x : ProcessTree) (a b : List Token) → IsProcess text May depth x a b → Plain a →
      FreeBody x.body × Plain b
  process_free depth _ a b (process_fair {name = name} {body = bo} {b = p} {c = q} {d = r} word n h) s =
      braced_free depth bo q r h (name_left name p q n (has_left word s)).1
  process_free depth _ a b (process_lazy {name = name} {body = bo} {c = p} {d = q} {e = r} lazy word n h) s =
      braced_free depth bo q r h (name_left name p q n (has_left word (has_left lazy s))).1

  task_of_free : (depth : ℕ) (Is : BodyTree → List Token → List Token → Type 0) →
      ((x : BodyTree) (a b : List Token) → Is x a b → Plain a → FreeBody x × Plain b) → (kind : TaskKind)
      (k : TaskTree) (a b : List Token) → IsTaskOf text May depth Is kind k a b → Plain a → FreeBody k.body × Plain b
  task_of_free depth Is each kind _ a b
      (task_of {name = name} {params = ps} {body = bo} {a = p} {b = q} {c = r} {d = u} n xs h) s =
      each bo r u h (arguments_left depth (IsParam text) param_left ps q r xs (name_left name p q n s).1)

  task_free : (depth : ℕ) (k : TaskTree) (a b : List Token) → IsTask text May depth k a b → Plain a →
      FreeBody k.body × Plain b
  task_free depth k a b (task_controllable {c = p} {d = q} word sort h) s =
      task_of_free depth (IsBraced text May depth) (braced_free depth) _ k p q h (has_left sort (has_left word s))
  task_free depth k a b (task_uncontrollable {c = p} {d = q} word sort h) s =
      task_of_free depth (IsBraced text May depth) (braced_free depth) _ k p q h (has_left sort (has_left word s))
  task_free depth k a b (procedure_typed {c = p} {d = q} word ty h) s =
      task_of_free depth (IsAnswering text May depth) (answering_free depth) _ k p q h
      (type_left ty (has_left word s))
  task_free depth k a b (procedure_void {c = p} {d = q} word sort h) s =
      task_of_free depth (IsAnswering text May depth) (answering_free depth) _ k p q h
      (has_left sort (has_left word s))

  decl_free : (depth : ℕ) (d : DeclTree) (a b : List Token) → IsDecl text May depth d a b → Plain a →
      FreeDecl d × Plain b
  decl_free depth _ a b (decl_instance h) s = (record { processes = tt; tasks = tt }, instance_left h s)
  decl_free depth _ a b (decl_variable h) s = (record { processes = tt; tasks = tt }, var_left h s)
  decl_free depth _ a b (decl_goal word h) s =
      (record { processes = tt; tasks = tt }, named_left h (has_left word s))
  decl_free depth _ a b (decl_fair word h) s =
      (record { processes = tt; tasks = tt }, named_left h (has_left word s))
  decl_free depth _ a b (decl_process {d = x} {a = p} {b = q} h) s =
      let found = process_free depth x p q h s in (record { processes = found.0; tasks = tt }, found.1)
  decl_free depth _ a b (decl_task {d = k} {a = p} {b = q} h) s =
      let found = task_free depth k p q h s in (record { processes = tt; tasks = found.0 }, found.1)

  port_left : (x : Port) (a b : List Token) → IsPort text x a b → Plain a → Unit {0} × Plain b
  port_left _ a b (port {template = t} {name = name} {a = p} {b = q} {c = r} of n) s =
      name_left name q r n (name_left t p q of s).1

  template_free : (depth : ℕ) (t : TemplateTree) (a b : List Token) → IsTemplate text May depth t a b → Plain a →
      FreeTemplate t × Plain b
  template_free depth _ a b
      (template {name = name} {ports = ps} {decls = ds} {b = p} {c = q} {d = r} {e = u} word n xs ys end) s =
      let ports = may_be_left depth (IsPort text) port_left ps q r xs (name_left name p q n (has_left word s)).1 in
      let all = each_left FreeDecl (IsDecl text May depth) (decl_free depth) ds r u ys ports in (
        record {
          processes = filter_map_holds (λ (p : ProcessTree). FreeBody p.body) process_of ds
              (λ d i. (holds_in FreeDecl ds all.0 i).processes);
          tasks = filter_map_holds (λ (k : TaskTree). FreeBody k.body) task_in ds
              (λ d i. (holds_in FreeDecl ds all.0 i).tasks);
        },
        has_left end all.1,
      )

  enum_left : {e : EnumTree} {a b : List Token} → IsEnum text May 0 e a b → Plain a → Plain b
  enum_left
      (enum {name = name} {constants = cs} {d = p} {e = q} {f = r} {g = u} word sort left _ xs right n end) s =
      let all = parted_left _ (IsName text) name_left cs p q xs (has_left left (has_left sort (has_left word s))) in
      has_left end (name_left name r u n (has_left right all)).1

  item_free : (i : ItemTree) (a b : List Token) → IsItem text May 0 i a b → Plain a →
      IfSome (template_in i) FreeTemplate × Plain b
  item_free _ a b (item_enum h) s = (tt, enum_left h s)
  item_free _ a b (item_template {t = t} {a = p} {b = q} h) s = template_free 0 t p q h s

  -- the templates of a text
  spec_free : (x : SpecTree) (a b : List Token) → IsSpec text May x a b → Plain a →
      AllByRecursion FreeTemplate x.templates
  spec_free _ a b (spec {items = is} {last = i} {a = p} {b = q} {c = r} xs x) s =
      let front = each_left (λ i. IfSome (template_in i) FreeTemplate) (IsItem text May 0) item_free is p q xs s in
      let all = all_join (λ i. IfSome (template_in i) FreeTemplate) is (i ∷ []) front.0
      ((item_free i q r x front.1).0, tt) in
      filter_map_holds FreeTemplate template_in (is ++ i ∷ [])
      (λ y j. holds_in (λ i. IfSome (template_in i) FreeTemplate) (is ++ i ∷ []) all j)

-- the bodies of templates
abbrev pub FreeAt : BodyAt → Type 0
FreeAt b = FreeBody b.body

free_processes : (x : SpecTree) (t : TemplateTree) (n : ℕ) (ps : List ProcessTree) →
    AllByRecursion (λ (p : ProcessTree). FreeBody p.body) ps →
    AllByRecursion FreeAt (map (process_body_at x t) (enumerate_from n ps))
free_processes x t n [] all = tt
free_processes x t n (p ∷ ps) all = (all.0, free_processes x t (n + 1) ps all.1)

free_tasks : (x : SpecTree) (t : TemplateTree) (n : ℕ) (ks : List TaskTree) →
    AllByRecursion (λ (k : TaskTree). FreeBody k.body) ks →
    AllByRecursion FreeAt (map (task_body_at x t) (enumerate_from n ks))
free_tasks x t n [] all = tt
free_tasks x t n (k ∷ ks) all = (all.0, free_tasks x t (n + 1) ks all.1)

free_templates : (x : SpecTree) (ts : List TemplateTree) → AllByRecursion FreeTemplate ts →
    AllByRecursion FreeAt (flat_map (template_bodies x) ts)
free_templates x [] all = tt
free_templates x (t ∷ ts) all =
    all_join FreeAt (template_bodies x t) (flat_map (template_bodies x) ts)
    (all_join FreeAt (map (process_body_at x t) (enumerate_from 0 t.processes))
    (map (task_body_at x t) (enumerate_from 0 t.tasks))
    (free_processes x t 0 t.processes all.0.processes) (free_tasks x t 0 t.tasks all.0.tasks))
    (free_templates x ts all.1)

-- a text without the word assumes nothing
pub plain_tree : (text : List ℕ) (tokens : List Token) (x : SpecTree) → IsTree text tokens x →
    has_assume tokens ≡ false → AssumesNothing x
plain_tree text tokens x is none =
    free_templates x x.templates (spec_free text (IsWithin 0) x tokens [] is (plain_tokens tokens none))
