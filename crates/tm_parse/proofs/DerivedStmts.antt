-- What is derived within the limit was read: values, statements and bodies.
use Rattle.std.proofs.Common.{◌≡◌, ℕ, ◌+◌, inl, inr, Bool, true, false, Option, Some, None, List, [], ◌∷◌, ◌++◌, refl, ap, ◌∙◌, subst}
use Rattle.tm_syntax.specs.declared.token.Token.{Token}
use Rattle.tm_syntax.specs.declared.token.TokenKind.{TokenKind}
use Rattle.tm_syntax.specs.declared.token.TokenKind.TheVariants as token
use Rattle.tm_syntax.specs.declared.token.Word.TheVariants as word
use Rattle.tm_syntax.specs.declared.token.Sign.TheVariants as sign
use Rattle.tm_syntax.specs.declared.tree.Ident.{Ident}
use Rattle.tm_syntax.specs.Tree.{ExprTree, ValueTree, plain, StmtTree, assign, StmtRow, row_of, LocalTree, BodyTree}
use Rattle.tm_syntax.specs.Grammar.Parts.{Has, IsPath, AreEach, each_none, each_more, optional_none, optional_some, arguments_none, arguments_some, enclosed}
use Rattle.tm_syntax.specs.Grammar.Statements.{IsPlace, place_path, place_element, value_star, value_call, value_expr, condition, IsStmt, stmt_assign, stmt_call, stmt_if, stmt_while, stmt_forever, stmt_choice, stmt_assert, stmt_assume, stmt_pause, stmt_wait, stmt_magic, IsIf, if_alone, if_else, if_else_if, IsBlock, block, AreStmts, stmts_none, stmts_more, AreAlternatives, alternatives_one, alternatives_more, local, body, return, braced, answering}
use Rattle.tm_parse.specs.declared.statements.StmtSort.{StmtSort}
use Rattle.tm_parse.specs.declared.statements.StmtSort.TheVariants as sort
use Rattle.tm_parse.specs.declared.statements.FlatSort.TheVariants as flat
use Rattle.tm_parse.specs.Reading.{Reach, IsBound, first_of, first_kind, Takes, Nothing}
use Rattle.tm_parse.specs.Operands.{AnExpr, GoesExpr}
use Rattle.tm_parse.specs.Commands.{GoesAt, AreArgs, AValue, GoesValue, ACondition, ABlock, AnIfFrom, IsOrBlock, stmt_sort, AStmtOf, GoesStmt, SomeStmts, ALocal, GoesBody, AreBody, ABraced, AnAnswering, begins_local}
use Rattle.tm_parse.proofs.Arguments.{other_kind, row_begins, taken_empty, taken_filled}
use Rattle.tm_parse.proofs.Blocks.{taken_block, taken_or, ChoiceSoFar, choice_begun, choice_more, choice_all, taken_if, taken_if_from, taken_no_else, taken_else, taken_else_block, taken_else_if, taken_while, taken_forever, taken_choice}
use Rattle.tm_parse.proofs.Braces.{close_body, return_body, taken_no_answer, taken_answer, taken_braced, taken_answering}
use Rattle.tm_parse.proofs.Choices.{of_whole, from_parts}
use Rattle.tm_parse.proofs.Commands.{taken_short, taken_condition, taken_test, taken_no_index, taken_index, taken_call_stmt, taken_place_stmt, taken_path_stmt, assert_is, assume_is, wait_is, pause_is, magic_is, taken_flat}
use Rattle.tm_parse.proofs.Derived.{near, derived_mark, derived_has, derived_opening, derived_name, derived_path, derived_type, derived_parted}
use Rattle.tm_parse.proofs.DerivedExprs.{expr_read}
use Rattle.tm_parse.proofs.Enclosed.{taken_enclosed}
use Rattle.tm_parse.proofs.Goes.{no_goes, no_goes_parenthesis, no_goes_bracket}
use Rattle.tm_parse.proofs.Lists.{first_view, so_far_all}
use Rattle.tm_parse.proofs.Locals.{LocalsSoFar, locals_begun, locals_more, taken_local, taken_body, stmts_local}
use Rattle.tm_parse.proofs.Primaries.{operand_of, path_kind, place_parts}
use Rattle.tm_parse.proofs.Rows.{each_view}
use Rattle.tm_parse.proofs.Sorts.{StmtsSoFar, stmts_begun, stmts_next, stmts_all, stmts_each, no_goes_stmt}
use Rattle.tm_parse.proofs.Taking.{same_kind}
use Rattle.tm_parse.proofs.Terminals.{mark_kind, has_kind}
use Rattle.tm_parse.proofs.Values.{expr_begins, named_operand, listed_exprs, args_kind, place_opens, taken_star, taken_named, taken_call}

-- a whole expression in front of a sign that goes on with none
pub whole_read : {text : List ℕ} {depth : ℕ} {e : ExprTree} {k : TokenKind} {a b c : List Token} →
    ¬ GoesExpr 0 (Some k) → AnExpr text 0 depth near e a b → Has k b c → Takes (AnExpr text 0 depth) (GoesExpr 0) e a b
whole_read none is m = (expr_read is).whole (λ goes. none (subst (GoesExpr 0) (has_kind m) goes))

pub no_goes_semicolon : ¬ GoesExpr 0 (Some (token.Sign sign.Semicolon))
no_goes_semicolon = no_goes 0 sign.Semicolon refl (λ e. cc) (λ e. cc) (λ loose e. cc)

-- arguments
args_read : {text : List ℕ} {depth : ℕ} {es : List ExprTree} {a b : List Token} → AreArgs text depth near es a b →
    Takes (AreArgs text depth) Nothing es a b
args_read {text} {depth} (arguments_none o w m) =
    taken_empty (listed_exprs text (depth + 1)) (has_kind m) (derived_opening depth o w) (derived_has m)
args_read {text} {depth} (arguments_some (enclosed o w are m)) =
    let listed = listed_exprs text (depth + 1) in
    taken_filled listed (row_begins {reach = near} listed (first_view are)) (derived_opening depth o w)
    (so_far_all (λ kind. let kinds = other_kind (has_kind m) kind in cc)
    (derived_parted {Is = AnExpr text 0 (depth + 1)} listed.comma (λ x c d is stop. (expr_read is).whole stop)
    (λ goes. no_goes_parenthesis 0 (subst (GoesExpr 0) (has_kind m) goes)) are))
    (derived_has m)

-- an expression is a value, where no parenthesis stands behind it
plain_read : {text : List ℕ} {depth : ℕ} {e : ExprTree} {a c : List Token} → ¬ GoesValue (first_kind c) →
    Takes (AnExpr text 0 depth) (GoesExpr 0) e a c → Takes (AValue text depth) GoesValue (plain e) a c
plain_read {text} {depth} {e} {a} {c} stop r = record {
  front = r.front;
  whole = r.whole;
  is = λ reach behind. value_expr (r.is reach behind);
  sole = λ reach v other after same ended is. go reach v other after same ended is;
}
  where
    called : (reach : Reach) (names : List Ident) (es : List ExprTree) (other between after : List Token) →
        first_of other ≡ first_of c → IsPath text names (r.front ++ other) between →
        AreArgs text depth reach es between after → ⊥
    called reach names es other between after same p are =
        let read = derived_path (λ kind. let kinds = other_kind (args_kind reach are) kind in cc) p in
        let w = of_whole {reach = reach} (r.is reach other) in
        let o = named_operand (operand_of w.1.first) (path_kind p) in
        let none : ¬ GoesValue (first_kind other) = λ goes. stop (subst GoesValue (same_kind other c same) goes) in
        let one = read.sole reach o.0 between o.1.between refl
        (place_parts reach o.0 w.0.0 o.1.between w.1.between o.1.second
        (from_parts reach w.0.0 w.0.1 w.1.between other w.1.second (λ goes. none (inr goes))))
        (subst (λ l. IsPath text o.0 l o.1.between) read.whole o.1.first) in
        place_opens o.1.second w.1.second (λ kind. none (inl kind))
        (ap first_kind one.1 ∙ args_kind reach are)

    go : (reach : Reach) (v : ValueTree) (other after : List Token) → first_of other ≡ first_of c →
        ¬ GoesValue (first_kind after) → AValue text depth reach v (r.front ++ other) after →
        (v ≡ plain e) × (after ≡ other)
    go reach v other after same ended (value_star m) =
        absurd (expr_begins reach sign.Star (λ e. cc) (λ e. cc) (λ e. cc) (r.is reach other) (mark_kind m))
    go reach v other after same ended (value_call p are) = absurd (called reach _ _ other _ after same p are)
    go reach v other after same ended (value_expr is) =
        let one = r.sole reach _ other after same (λ goes. ended (inr goes)) is in
        (ap plain one.0, one.1)

pub value_read : {text : List ℕ} {depth : ℕ} {v : ValueTree} {k : TokenKind} {a b c : List Token} →
    ¬ GoesValue (Some k) →
    AValue text depth near v a b → Has k b c → Takes (AValue text depth) GoesValue v a b
value_read none (value_star m) n = taken_star (mark_kind m) (derived_mark m)
value_read none (value_call {names} p es) n =
    taken_named (path_kind p) (derived_path (λ kind. let kinds = other_kind (args_kind near es) kind in cc) p)
    (taken_call names (args_kind near es) (args_read es))
value_read none (value_expr is) n =
    let stop : ¬ GoesValue (first_kind _) = λ goes. none (subst GoesValue (has_kind n) goes) in
    plain_read stop ((expr_read is).whole (λ goes. stop (inr goes)))

no_value_semicolon : ¬ GoesValue (Some (token.Sign sign.Semicolon))
no_value_semicolon (inl e) = cc
no_value_semicolon (inr goes) = no_goes_semicolon goes

condition_read : {text : List ℕ} {depth : ℕ} {e : ExprTree} {a b : List Token} → ACondition text depth near e a b →
    Takes (ACondition text depth) Nothing e a b
condition_read {depth} (condition o w is m) =
    taken_condition (taken_enclosed (no_goes_parenthesis 0) (derived_opening depth o w)
    (whole_read (no_goes_parenthesis 0) is m) (derived_has m))

-- an assignment
place_read : {text : List ℕ} {depth : ℕ} {names : List Ident} {index : Option ExprTree} {v : ValueTree}
    {a b c d e : List Token} → IsPlace text (IsBound near) depth names index a b → Has (token.Sign sign.Assign) b c →
    AValue text depth near v c d → Has (token.Sign sign.Semicolon) d e →
    Takes (AStmtOf text depth sort.Path) GoesStmt (assign names index v) a e
place_read {text} {depth} {names} (place_path {b} p) m v n =
    taken_path_stmt (derived_path (λ kind. let kinds = other_kind (has_kind m) kind in cc) p)
    (taken_place_stmt names b (λ kind. let kinds = other_kind (has_kind m) kind in cc)
    (taken_no_index text depth b (λ kind. let kinds = other_kind (has_kind m) kind in cc)) (derived_has m)
    (value_read no_value_semicolon v n) (derived_has n))
place_read {text} {depth} {names} (place_element {b} p o w is c) m v n =
    taken_path_stmt (derived_path (λ kind. let kinds = other_kind (has_kind o) kind in cc) p)
    (taken_place_stmt names b (λ kind. let kinds = other_kind (has_kind o) kind in cc)
    (taken_index b (has_kind o)
    (taken_enclosed (no_goes_bracket 0) (derived_opening depth o w) (whole_read (no_goes_bracket 0) is c)
    (derived_has c))) (derived_has m) (value_read no_value_semicolon v n) (derived_has n))

-- a statement was read, by its first token
pub record StmtRead (text : List ℕ) (depth : ℕ) (s : StmtTree) (tokens rest : List Token) : Type 0 where
  pub kind : StmtSort
  pub begins : stmt_sort (first_kind tokens) ≡ Some kind
  pub is : Takes (AStmtOf text depth kind) GoesStmt s tokens rest

-- what stands behind the word `if` was read
record IfRead (text : List ℕ) (depth : ℕ) (s : StmtTree) (tokens rest : List Token) : Type 0 where
  behind : List Token
  begins : Has (token.Word word.If) tokens behind
  is : Takes (AnIfFrom text depth) (GoesAt (token.Word word.Else)) s behind rest

-- one block was read, or more with `or` between them
data BlocksRead (text : List ℕ) (depth : ℕ) : List StmtRow → List Token → List Token → Type 0 where
  read_one : {inner : List StmtTree} {a b : List Token} → Takes (ABlock text depth) Nothing inner a b →
      BlocksRead text depth (row_of inner ∷ []) a b
  read_more : {rows : List StmtRow} {a b : List Token} → ChoiceSoFar text depth rows a b →
      BlocksRead text depth rows a b

blocks_next : {text : List ℕ} {depth : ℕ} {rows : List StmtRow} {row : StmtRow} {a b c : List Token} →
    BlocksRead text depth rows a b → Takes (IsOrBlock text depth) Nothing row b c →
    ChoiceSoFar text depth (rows ++ row ∷ []) a c
blocks_next (read_one r) s = choice_begun r s
blocks_next (read_more p) s = choice_more p s

brace_kind : {text : List ℕ} {depth : ℕ} {inner : List StmtTree} {a b : List Token} →
    IsBlock text (IsBound near) depth inner a b → first_kind a ≡ Some (token.Sign sign.OpenBrace)
brace_kind (block o w are m) = has_kind o

no_goes_brace : {a b : List Token} → Has (token.Sign sign.CloseBrace) a b → ¬ GoesStmt (first_kind a)
no_goes_brace m (inl e) = let kinds = other_kind (has_kind m) e in cc
no_goes_brace m (inr e) = let kinds = other_kind (has_kind m) e in cc

path_so : {text : List ℕ} {depth : ℕ} {names : List Ident} {index : Option ExprTree} {s : StmtTree}
    {a b c : List Token} →
    IsPlace text (IsBound near) depth names index a b → Takes (AStmtOf text depth sort.Path) GoesStmt s a c →
    StmtRead text depth s a c
path_so (place_path p) r = record { kind = sort.Path; begins = ap stmt_sort (path_kind p); is = r }
path_so (place_element p o w is c) r = record { kind = sort.Path; begins = ap stmt_sort (path_kind p); is = r }

mutual
  stmt_read : {text : List ℕ} {depth : ℕ} {s : StmtTree} {a b : List Token} →
      IsStmt text (IsBound near) depth s a b → ¬ GoesStmt (first_kind b) → StmtRead text depth s a b
  stmt_read (stmt_assign p m v n) stop = path_so p (place_read p m v n)
  stmt_read (stmt_call {names} p es m) stop = record {
    kind = sort.Path;
    begins = ap stmt_sort (path_kind p);
    is = taken_path_stmt (derived_path (λ kind. let kinds = other_kind (args_kind near es) kind in cc) p)
        (taken_call_stmt names (args_kind near es) (args_read es) (derived_has m));
  }
  stmt_read (stmt_if h) stop =
      let v = if_read h (λ e. stop (inl e)) in
      record { kind = sort.If; begins = ap stmt_sort (has_kind v.begins); is = taken_if (derived_has v.begins) v.is }
  stmt_read (stmt_while m is inner) stop = record {
    kind = sort.While;
    begins = ap stmt_sort (mark_kind m);
    is = taken_while (derived_mark m) (condition_read is) (block_read inner);
  }
  stmt_read (stmt_forever m inner) stop = record {
    kind = sort.Forever;
    begins = ap stmt_sort (mark_kind m);
    is = taken_forever (derived_mark m) (block_read inner);
  }
  stmt_read (stmt_choice m are n last) stop = record {
    kind = sort.Choice;
    begins = ap stmt_sort (mark_kind m);
    is = taken_choice (derived_mark m)
        (choice_all (λ e. stop (inr e)) (blocks_next (blocks_read are) (taken_or (derived_has n) (block_read last))));
  }
  stmt_read (stmt_assert {a} m is n) stop = record {
    kind = sort.Flat flat.Assert;
    begins = ap stmt_sort (mark_kind m);
    is = taken_flat (assert_is a) (taken_test (derived_mark m) (condition_read is) (derived_has n));
  }
  stmt_read (stmt_assume {a} m is n) stop = record {
    kind = sort.Flat flat.Assume;
    begins = ap stmt_sort (mark_kind m);
    is = taken_flat (assume_is a) (taken_test (derived_mark m) (condition_read is) (derived_has n));
  }
  stmt_read (stmt_pause {a} m n) stop = record {
    kind = sort.Flat flat.Pause;
    begins = ap stmt_sort (mark_kind m);
    is = taken_flat (pause_is a) (taken_short (derived_mark m) (derived_has n));
  }
  stmt_read (stmt_wait {a} m is n) stop = record {
    kind = sort.Flat flat.Wait;
    begins = ap stmt_sort (mark_kind m);
    is = taken_flat (wait_is a) (taken_test (derived_mark m) (condition_read is) (derived_has n));
  }
  stmt_read (stmt_magic {a} m n) stop = record {
    kind = sort.Flat flat.Magic;
    begins = ap stmt_sort (mark_kind m);
    is = taken_flat (magic_is a) (taken_short (derived_mark m) (derived_has n));
  }

  if_read : {text : List ℕ} {depth : ℕ} {s : StmtTree} {a b : List Token} → IsIf text (IsBound near) depth s a b →
      ¬ GoesAt (token.Word word.Else) (first_kind b) → IfRead text depth s a b
  if_read (if_alone {d} m is inner) stop = record {
    behind = _;
    begins = m;
    is = taken_if_from (condition_read is) (block_read inner) (taken_no_else d stop);
  }
  if_read (if_else {f} m is inner n other) stop = record {
    behind = _;
    begins = m;
    is = taken_if_from (condition_read is) (block_read inner)
        (taken_else (has_kind n) (derived_has n)
        (taken_else_block f (λ kind. let kinds = other_kind (brace_kind other) kind in cc) (block_read other)));
  }
  if_read (if_else_if {depth} m is inner n w other) stop =
      let v = if_read other stop in
      record {
        behind = _;
        begins = m;
        is = taken_if_from (condition_read is) (block_read inner)
            (taken_else (has_kind n) (derived_has n)
            (taken_else_if (has_kind v.begins) (derived_opening depth v.begins w) v.is));
      }

  block_read : {text : List ℕ} {depth : ℕ} {inner : List StmtTree} {a b : List Token} →
      IsBlock text (IsBound near) depth inner a b → Takes (ABlock text depth) Nothing inner a b
  block_read (block {depth} o w are m) =
      taken_block (derived_opening depth o w)
      (stmts_all (ap stmt_sort (has_kind m)) (stmts_read are (no_goes_brace m))) (derived_has m)

  pub stmts_read : {text : List ℕ} {depth : ℕ} {ss : List StmtTree} {a b : List Token} →
      AreStmts text (IsBound near) depth ss a b → ¬ GoesStmt (first_kind b) → StmtsSoFar text depth ss a b
  stmts_read stmts_none stop = stmts_begun
  stmts_read (stmts_more front last) stop =
      let r = stmt_read last stop in
      stmts_next r.kind r.begins (stmts_read front (no_goes_stmt r.begins)) r.is

  blocks_read : {text : List ℕ} {depth : ℕ} {rows : List StmtRow} {a b : List Token} →
      AreAlternatives text (IsBound near) depth rows a b → BlocksRead text depth rows a b
  blocks_read (alternatives_one is) = read_one (block_read is)
  blocks_read (alternatives_more front n is) =
      read_more (blocks_next (blocks_read front) (taken_or (derived_has n) (block_read is)))

-- bodies
local_read : {text : List ℕ} {depth : ℕ} {d : LocalTree} {a b : List Token} → ALocal text depth near d a b →
    Takes (ALocal text depth) Nothing d a b
local_read (local ty name m v n) =
    taken_local (derived_type ty) (derived_name name) (derived_has m) (value_read no_value_semicolon v n)
    (derived_has n)

locals_read : {text : List ℕ} {depth : ℕ} {ds : List LocalTree} {a b : List Token} →
    AreEach (ALocal text depth near) ds a b → LocalsSoFar text depth ds a b
locals_read each_none = locals_begun
locals_read (each_more front last) = locals_more (locals_read front) (local_read last)

not_true : (b : Bool) → ¬ (b ≡ true) → b ≡ false
not_true true none = absurd (none refl)
not_true false none = refl

body_read : {text : List ℕ} {depth : ℕ} {ds : List LocalTree} {ss : List StmtTree} {a b c : List Token} →
    ¬ GoesBody (first_kind c) → stmt_sort (first_kind c) ≡ None → ¬ GoesStmt (first_kind c) →
    AreEach (ALocal text depth near) ds a b → SomeStmts text depth near ss b c →
    Takes (AreBody text depth) GoesBody (ds, ss) a c
body_read {b} stop ended none locals are =
    taken_body (not_true (begins_local b) (stmts_local near (each_view (stmts_each near are)) stop)) ended
    (locals_read locals) (stmts_all ended (stmts_read are none))

pub braced_read : {text : List ℕ} {depth : ℕ} {t : BodyTree} {a b : List Token} → ABraced text depth near t a b →
    Takes (ABraced text depth) Nothing t a b
braced_read {depth} (braced {c} {d} o w (body locals are) m) =
    taken_braced (derived_opening depth o w)
    (body_read (close_body {X = Unit {0}} near tt tt c d m (λ none. none)) (ap stmt_sort (has_kind m))
    (no_goes_brace m) locals are)
    (derived_has m)

pub answering_read : {text : List ℕ} {depth : ℕ} {t : BodyTree} {a b : List Token} → AnAnswering text depth near t a b →
    Takes (AnAnswering text depth) Nothing t a b
answering_read {text} {depth} (answering {c} {d} {e} o w (body locals are) optional_none m) =
    taken_answering (derived_opening depth o w)
    (body_read (close_body {X = Unit {0}} near tt tt d e m (λ none. none)) (ap stmt_sort (has_kind m))
    (no_goes_brace m) locals are)
    (taken_no_answer text (depth + 1) d (λ kind. let kinds = other_kind (has_kind m) kind in cc)) (derived_has m)
answering_read {text} {depth} (answering o w (body locals are) (optional_some (return n is s)) m) =
    taken_answering (derived_opening depth o w)
    (body_read (return_body (has_kind n)) (ap stmt_sort (has_kind n))
    (λ goes. return_body (has_kind n) (inr (inr goes)))
    locals are)
    (taken_answer (has_kind n) (derived_has n) (whole_read no_goes_semicolon is s) (derived_has s)) (derived_has m)
