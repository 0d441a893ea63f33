-- The paths of a text have names: by the grammar, each form at a time.
use Rattle.std.proofs.Common.{◌≡◌, ◌≢◌, ℕ, ◌+◌, Option, List, [], ◌∷◌, ◌++◌, refl, sym, ap, subst, map}
use Rattle.std.specs.Option.{option_to_list}
use Rattle.std.proofs.lemmas.Grind.{flat_map-append}
use Rattle.std.specs.List.{AllByRecursion}
use Rattle.tm_syntax.specs.declared.token.Token.{Token}
use Rattle.tm_syntax.specs.declared.token.Sign.{Sign}
use Rattle.tm_syntax.specs.declared.tree.Ident.{Ident}
use Rattle.tm_syntax.specs.Tree.{ExprTree, element, ValueTree, star, result, plain, StmtTree, assign, invoke, branch, repeat, forever, choose, assert, assume, pause, wait, magic, StmtRow, nothing, then, row_of, alternatives_of}
use Rattle.tm_syntax.specs.Scopes.Parts.{value_calls, own_calls, bare_targets, inner_stmts, row_stmts, block_stmts, all_stmts}
use Rattle.tm_syntax.specs.Faults.Names.{expr_paths}
use Rattle.tm_syntax.specs.Grammar.Parts.{AreEach, each_none, each_more, AreParted, parted_one, parted_more, enclosed, arguments_none, arguments_some, IsPath}
use Rattle.tm_syntax.specs.Grammar.Expressions.{IsExpr, expr_conditional, expr_binary, expr_shift, expr_unary, expr_number, expr_true, expr_false, expr_path, expr_element, expr_group, expr_cast}
use Rattle.tm_syntax.specs.Grammar.Statements.{IsWholeExpr, IsPlace, place_path, place_element, AreArgs, IsValue, value_star, value_call, value_expr, IsCondition, condition, IsStmt, stmt_assign, stmt_call, stmt_if, stmt_while, stmt_forever, stmt_choice, stmt_assert, stmt_assume, stmt_pause, stmt_wait, stmt_magic, IsIf, if_alone, if_else, if_else_if, IsBlock, block, AreStmts, stmts_none, stmts_more, AreAlternatives, alternatives_one, alternatives_more}
use Rattle.tm_typing.proofs.Listed.{all_join}

-- each path of an expression has a name
abbrev pub HasNames : ExprTree → Type 0
HasNames e = AllByRecursion (λ (names : List Ident). names ≢ []) (expr_paths e)

-- a row that grows to the right has a first item
grown : {A : Type 0} (xs : List A) (x : A) → xs ++ x ∷ [] ≢ []
grown [] x e = absurd cc
grown (y ∷ xs) x e = absurd cc

-- a path has a name
path_named : (text : List ℕ) (names : List Ident) (a b : List Token) → IsPath text names a b → names ≢ []
path_named text _ a b (parted_one {x = x} _) e = absurd cc
path_named text _ a b (parted_more {xs = xs} {x = x} _ _ _) e = grown xs x e

-- an expression's paths have names
pub expr_named : (text : List ℕ) (May : List Token → ℕ → Type 0) (bound depth : ℕ) (e : ExprTree)
    (a b : List Token) → IsExpr text May bound depth e a b → HasNames e
expr_named text May bound depth _ a b
    (expr_conditional {e = e} {f = f} {g = g} {a = p} {b = q} {c = r} {d = s} {h = t} {i = u} _ x _ _ y _ z) =
    all_join (λ (names : List Ident). names ≢ []) (expr_paths e ++ expr_paths f) (expr_paths g)
    (all_join (λ (names : List Ident). names ≢ []) (expr_paths e) (expr_paths f)
    (expr_named text May 1 depth e p q x) (expr_named text May 0 (depth + 1) f r s y))
    (expr_named text May 0 (depth + 1) g t u z)
expr_named text May bound depth _ a b
    (expr_binary {op = op} {e = e} {f = f} {a = p} {b = q} {c = r} {d = s} _ x _ _ y) =
    all_join (λ (names : List Ident). names ≢ []) (expr_paths e) (expr_paths f)
    (expr_named text May _ depth e p q x) (expr_named text May _ depth f r s y)
expr_named text May bound depth _ a b (expr_shift {e = e} {a = p} {b = q} _ x _ _ _) =
    expr_named text May 8 depth e p q x
expr_named text May bound depth _ a b (expr_unary {e = e} {b = p} {c = q} _ _ x) =
    expr_named text May 10 (depth + 1) e p q x
expr_named text May bound depth _ a b (expr_number _) = tt
expr_named text May bound depth _ a b (expr_true _) = tt
expr_named text May bound depth _ a b (expr_false _) = tt
expr_named text May bound depth _ a b (expr_path {names = names} {a = p} {b = q} x) = (path_named text names p q x, tt)
expr_named text May bound depth _ a b
    (expr_element {names = names} {e = e} {a = p} {b = q} {c = r} {d = s} x _ _ y _) =
    (path_named text names p q x, expr_named text May 0 (depth + 1) e r s y)
expr_named text May bound depth _ a b (expr_group {e = e} {b = p} {c = q} _ _ x _) =
    expr_named text May 0 (depth + 1) e p q x
expr_named text May bound depth _ a b (expr_cast {e = e} {g = p} {h = q} _ _ _ _ _ _ x _) =
    expr_named text May 0 (depth + 1) e p q x

-- what holds of each form holds of all
parted_all : {X : Type 0} (P : X → Type 0) (by : Sign) (Is : X → List Token → List Token → Type 0) →
    ((x : X) (a b : List Token) → Is x a b → P x) → (xs : List X) (a b : List Token) → AreParted by Is xs a b →
    AllByRecursion P xs
parted_all P by Is each _ a b (parted_one {x = x} {a = p} {b = q} one) = (each x p q one, tt)
parted_all P by Is each _ a b (parted_more {xs = xs} {x = x} {a = p} {b = q} {c = r} {d = s} more _ one) =
    all_join P xs (x ∷ []) (parted_all P by Is each xs p q more) (each x r s one, tt)

pub each_all : {X : Type 0} (P : X → Type 0) (Is : X → List Token → List Token → Type 0) →
    ((x : X) (a b : List Token) → Is x a b → P x) → (xs : List X) (a b : List Token) → AreEach Is xs a b →
    AllByRecursion P xs
each_all P Is each _ a b each_none = tt
each_all P Is each _ a b (each_more {xs = xs} {x = x} {a = p} {b = q} {c = r} more one) =
    all_join P xs (x ∷ []) (each_all P Is each xs p q more) (each x q r one, tt)

module _ (text : List ℕ) (May : List Token → ℕ → Type 0) where
  whole_named : (depth : ℕ) (e : ExprTree) (a b : List Token) → IsWholeExpr text May depth e a b → HasNames e
  whole_named depth e a b x = expr_named text May 0 depth e a b x

  args_named : (depth : ℕ) (es : List ExprTree) (a b : List Token) → AreArgs text May depth es a b →
      AllByRecursion HasNames es
  args_named depth _ a b (arguments_none _ _ _) = tt
  args_named depth es a b (arguments_some (enclosed {b = p} {c = q} _ _ x _)) =
      parted_all HasNames _ (IsWholeExpr text May (depth + 1)) (whole_named (depth + 1)) es p q x

  condition_named : (depth : ℕ) (e : ExprTree) (a b : List Token) → IsCondition text May depth e a b → HasNames e
  condition_named depth e a b (condition {b = p} {c = q} _ _ x _) = whole_named (depth + 1) e p q x

-- the expressions of a value
abbrev pub value_parts : ValueTree → List ExprTree
value_parts (star _) = []
value_parts (result _ es) = es
value_parts (plain e) = e ∷ []

-- the expressions of a statement itself, its target's element among them
abbrev pub stmt_parts : StmtTree → List ExprTree
stmt_parts (assign names index v) = map (element names) (option_to_list index) ++ value_parts v
stmt_parts (invoke _ es) = es
stmt_parts (branch e _ _) = e ∷ []
stmt_parts (repeat _ e _) = e ∷ []
stmt_parts (forever _ _) = []
stmt_parts (choose _ _) = []
stmt_parts (assert _ e) = e ∷ []
stmt_parts (assume _ e) = e ∷ []
stmt_parts (pause _) = []
stmt_parts (wait _ e) = e ∷ []
stmt_parts (magic _) = []

-- each of some paths has a name
abbrev pub AreNamed : List (List Ident) → Type 0
AreNamed paths = AllByRecursion (λ (names : List Ident). names ≢ []) paths

-- the paths of a statement's own expressions have names, and so have its target and its call
pub record StmtNamed (s : StmtTree) : Type 0 where
  pub parts : AllByRecursion HasNames (stmt_parts s)
  pub target : AreNamed (bare_targets s)
  pub call : AreNamed (own_calls s)

-- so have those of the statements within some
abbrev pub RowNamed : List StmtTree → Type 0
RowNamed ss = AllByRecursion StmtNamed (all_stmts ss)

row_is : (ss : List StmtTree) → row_stmts (row_of ss) ≡ all_stmts ss
row_is [] = refl
row_is (s ∷ ss) = ap (λ xs. s ∷ inner_stmts s ++ xs) (row_is ss)

of_row : (ss : List StmtTree) → RowNamed ss → AllByRecursion StmtNamed (row_stmts (row_of ss))
of_row ss all = subst (AllByRecursion StmtNamed) (sym (row_is ss)) all

blocks_named : (bs : List StmtRow) → AllByRecursion (λ (b : StmtRow). AllByRecursion StmtNamed (row_stmts b)) bs →
    AllByRecursion StmtNamed (block_stmts (alternatives_of bs))
blocks_named [] all = tt
blocks_named (b ∷ bs) all =
    all_join StmtNamed (row_stmts b) (block_stmts (alternatives_of bs)) all.0 (blocks_named bs all.1)

pub value_named : (text : List ℕ) (May : List Token → ℕ → Type 0) (depth : ℕ) (v : ValueTree) (a b : List Token) →
    IsValue text May depth v a b → AllByRecursion HasNames (value_parts v)
value_named text May depth _ a b (value_star _) = tt
value_named text May depth _ a b (value_call {es = es} {b = p} {c = q} _ x) = args_named text May depth es p q x
value_named text May depth _ a b (value_expr {e = e} {a = p} {b = q} x) = (whole_named text May depth e p q x, tt)

place_named : (text : List ℕ) (May : List Token → ℕ → Type 0) (depth : ℕ) (names : List Ident)
    (index : Option ExprTree) (a b : List Token) → IsPlace text May depth names index a b →
    AllByRecursion HasNames (map (element names) (option_to_list index))
place_named text May depth _ _ a b (place_path _) = tt
place_named text May depth _ _ a b (place_element {names = names} {e = e} {a = p} {b = q} {c = r} {d = s} x _ _ y _) =
    ((path_named text names p q x, whole_named text May (depth + 1) e r s y), tt)

target_named : (text : List ℕ) (May : List Token → ℕ → Type 0) (depth : ℕ) (names : List Ident)
    (index : Option ExprTree) (v : ValueTree) (a b : List Token) → IsPlace text May depth names index a b →
    AreNamed (bare_targets (assign names index v))
target_named text May depth _ _ v a b (place_path {names = names} {a = p} {b = q} x) =
    (path_named text names p q x, tt)
target_named text May depth _ _ v a b (place_element _ _ _ _ _) = tt

pub call_named : (text : List ℕ) (May : List Token → ℕ → Type 0) (depth : ℕ) (v : ValueTree) (a b : List Token) →
    IsValue text May depth v a b → AreNamed (value_calls v)
call_named text May depth _ a b (value_star _) = tt
call_named text May depth _ a b (value_call {names = names} {a = p} {b = q} x _) = (path_named text names p q x, tt)
call_named text May depth _ a b (value_expr _) = tt

mutual
  stmt_named : (text : List ℕ) (May : List Token → ℕ → Type 0) (depth : ℕ) (s : StmtTree) (a b : List Token) →
      IsStmt text May depth s a b → AllByRecursion StmtNamed (s ∷ inner_stmts s)
  stmt_named text May depth _ a b
      (stmt_assign {names = names} {index = index} {v = v} {a = p} {b = q} {c = r} {d = t} x _ y _) = (
        record {
          parts = all_join HasNames (map (element names) (option_to_list index)) (value_parts v)
              (place_named text May depth names index p q x) (value_named text May depth v r t y);
          target = target_named text May depth names index v p q x;
          call = call_named text May depth v r t y;
        },
        tt,
      )
  stmt_named text May depth _ a b (stmt_call {names = names} {es = es} {a = o} {b = p} {c = q} z x _) = (
    record {
      parts = args_named text May depth es p q x;
      target = tt;
      call = (path_named text names o p z, tt);
    },
    tt,
  )
  stmt_named text May depth s a b (stmt_if x) = if_named text May depth s a b x
  stmt_named text May depth _ a b (stmt_while {e = e} {body = ss} {b = p} {c = q} {d = r} _ x y) = (
    record { parts = (condition_named text May depth e p q x, tt); target = tt; call = tt },
    of_row ss (block_named text May depth ss q r y),
  )
  stmt_named text May depth _ a b (stmt_forever {body = ss} {b = p} {c = q} _ y) =
      (record { parts = tt; target = tt; call = tt }, of_row ss (block_named text May depth ss p q y))
  stmt_named text May depth _ a b
      (stmt_choice {blocks = bs} {last = ss} {b = p} {c = q} {d = r} {e = t} _ x _ y) = (
        record { parts = tt; target = tt; call = tt },
        blocks_named (bs ++ row_of ss ∷ [])
            (all_join (λ (b : StmtRow). AllByRecursion StmtNamed (row_stmts b)) bs (row_of ss ∷ [])
            (alternatives_named text May depth bs p q x) (of_row ss (block_named text May depth ss r t y), tt)),
      )
  stmt_named text May depth _ a b (stmt_assert {e = e} {b = p} {c = q} _ x _) =
      (record { parts = (condition_named text May depth e p q x, tt); target = tt; call = tt }, tt)
  stmt_named text May depth _ a b (stmt_assume {e = e} {b = p} {c = q} _ x _) =
      (record { parts = (condition_named text May depth e p q x, tt); target = tt; call = tt }, tt)
  stmt_named text May depth _ a b (stmt_pause _ _) = (record { parts = tt; target = tt; call = tt }, tt)
  stmt_named text May depth _ a b (stmt_wait {e = e} {b = p} {c = q} _ x _) =
      (record { parts = (condition_named text May depth e p q x, tt); target = tt; call = tt }, tt)
  stmt_named text May depth _ a b (stmt_magic _ _) = (record { parts = tt; target = tt; call = tt }, tt)

  if_named : (text : List ℕ) (May : List Token → ℕ → Type 0) (depth : ℕ) (s : StmtTree) (a b : List Token) →
      IsIf text May depth s a b → AllByRecursion StmtNamed (s ∷ inner_stmts s)
  if_named text May depth _ a b (if_alone {e = e} {yes_block = ss} {b = p} {c = q} {d = r} _ x y) = (
    record { parts = (condition_named text May depth e p q x, tt); target = tt; call = tt },
    all_join StmtNamed (row_stmts (row_of ss)) [] (of_row ss (block_named text May depth ss q r y)) tt,
  )
  if_named text May depth _ a b
      (if_else {e = e} {yes_block = ss} {no_block = ts} {b = p} {c = q} {d = r} {f = u} {g = v} _ x y _ z) = (
        record { parts = (condition_named text May depth e p q x, tt); target = tt; call = tt },
        all_join StmtNamed (row_stmts (row_of ss)) (row_stmts (row_of ts))
            (of_row ss (block_named text May depth ss q r y)) (of_row ts (block_named text May depth ts u v z)),
      )
  if_named text May depth _ a b
      (if_else_if {e = e} {yes_block = ss} {s = s} {b = p} {c = q} {d = r} {f = u} {g = v} _ x y _ _ z) = (
        record { parts = (condition_named text May depth e p q x, tt); target = tt; call = tt },
        all_join StmtNamed (row_stmts (row_of ss)) (row_stmts (then s nothing))
            (of_row ss (block_named text May depth ss q r y))
            (of_row (s ∷ []) (all_join StmtNamed (s ∷ inner_stmts s) [] (if_named text May (depth + 1) s u v z) tt)),
      )

  block_named : (text : List ℕ) (May : List Token → ℕ → Type 0) (depth : ℕ) (ss : List StmtTree) (a b : List Token) →
      IsBlock text May depth ss a b → RowNamed ss
  block_named text May depth ss a b (block {b = p} {c = q} _ _ x _) = rows_named text May (depth + 1) ss p q x

  pub rows_named : (text : List ℕ) (May : List Token → ℕ → Type 0) (depth : ℕ) (ss : List StmtTree) (a b : List Token) →
      AreStmts text May depth ss a b → RowNamed ss
  rows_named text May depth _ a b stmts_none = tt
  rows_named text May depth _ a b (stmts_more {ss = ss} {s = s} {a = p} {b = q} {c = r} x y) =
      subst (AllByRecursion StmtNamed) (sym (flat_map-append (λ s. s ∷ inner_stmts s) ss (s ∷ [])))
      (all_join StmtNamed (all_stmts ss) ((s ∷ inner_stmts s) ++ []) (rows_named text May depth ss p q x)
      (all_join StmtNamed (s ∷ inner_stmts s) [] (stmt_named text May depth s q r y) tt))

  alternatives_named : (text : List ℕ) (May : List Token → ℕ → Type 0) (depth : ℕ) (bs : List StmtRow)
      (a b : List Token) → AreAlternatives text May depth bs a b →
      AllByRecursion (λ (b : StmtRow). AllByRecursion StmtNamed (row_stmts b)) bs
  alternatives_named text May depth _ a b (alternatives_one {body = ss} {a = p} {b = q} x) =
      (of_row ss (block_named text May depth ss p q x), tt)
  alternatives_named text May depth _ a b
      (alternatives_more {blocks = bs} {body = ss} {a = p} {b = q} {c = r} {d = s} x _ y) =
      all_join (λ (b : StmtRow). AllByRecursion StmtNamed (row_stmts b)) bs (row_of ss ∷ [])
      (alternatives_named text May depth bs p q x) (of_row ss (block_named text May depth ss r s y), tt)
