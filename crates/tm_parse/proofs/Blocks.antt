-- Statements that hold others.
use Rattle.std.proofs.Common.{◌≡◌, ℕ, ◌+◌, inl, inr, Option, Some, None, List, [], ◌∷◌, ◌++◌, refl, sym, ap, ◌∙◌}
use Rattle.tm_base.specs.declared.place.Place.{Place}
use Rattle.tm_syntax.specs.declared.token.Token.{Token}
use Rattle.tm_syntax.specs.declared.token.TokenKind.{TokenKind}
use Rattle.tm_syntax.specs.declared.token.TokenKind.TheVariants as token
use Rattle.tm_syntax.specs.declared.token.Word.TheVariants as word
use Rattle.tm_syntax.specs.declared.token.Sign.TheVariants as sign
use Rattle.tm_syntax.specs.Tree.{ExprTree, StmtTree, branch, repeat, forever, choose, StmtRow, nothing, then, row_of, alternatives_of}
use Rattle.tm_syntax.specs.Grammar.Parts.{IsMark, AreEach, each_none, each_more}
use Rattle.tm_syntax.specs.Grammar.Statements.{block, stmts_none}
use Rattle.tm_parse.specs.declared.stop.Stop.{Stop}
use Rattle.tm_parse.specs.declared.statements.StmtSort.TheVariants as sort
use Rattle.tm_parse.specs.Reading.{Reach, first_of, first_kind, IsRefused, Takes, AnyOf, Nothing, TheMark, IsOpening}
use Rattle.tm_parse.specs.Commands.{GoesAt, ACondition, ABlock, from_test, else_none, else_some, from_block, from_if, AnIfFrom, AnElse, AnElseFrom, IsOrBlock, or_block, IsChoice, choices, stmt_sort, is_if, is_while, is_forever, is_choice, AStmtOf, GoesStmt, SomeStmts, GoesStmts}
use Rattle.tm_parse.proofs.Arguments.{wider, wider_blocked, other_kind, opening_word, word_so}
use Rattle.tm_parse.proofs.Commands.{condition_word}
use Rattle.tm_parse.proofs.Primaries.{looser, looser_blocked}
use Rattle.tm_parse.proofs.Rows.{Grows, RowSoFar, Begun, row_begun, row_more, row_all, row_blocked, Apart, EndsBy}
use Rattle.tm_parse.proofs.Taking.{Both, Same, AnyWord, same_kind, takes_both, takes_then, takes_so, at_first, at_second, blocked_first, blocked_second, blocked_so, both_word, refused_so, refused_in}
use Rattle.tm_parse.proofs.Terminals.{mark_kind, mark_has, has_kind, has_mark, mark_word, without_place, with_place}

-- "{", statements, "}"
abbrev BlockParts : List ℕ → ℕ → Reach → Place × (List StmtTree × Unit {0}) → List Token → List Token → Type 0
BlockParts text depth = Both (IsOpening (token.Sign sign.OpenBrace) depth)
    (λ _. Both (SomeStmts text (depth + 1)) (λ _. TheMark (token.Sign sign.CloseBrace)))

block_is : {text : List ℕ} {depth : ℕ} (a : List Token) →
    Same (BlockParts text depth) (ABlock text depth) Nothing (λ t. t.1.0) a
block_is {text} {depth} a = record {
  to = λ reach t b c h. block (mark_has h.first.mark) h.first.within h.second.first h.second.second;
  from = λ reach body b c same stop h. from reach body b c h;
}
  where
    from : (reach : Reach) (body : List StmtTree) (b c : List Token) → ABlock text depth reach body b c →
        (t : Place × (List StmtTree × Unit {0})) × BlockParts text depth reach t b c × (body ≡ t.1.0)
    from reach body b c (block o w are m) = (
      (_, (_, tt)),
      record {
        between = _;
        first = record { mark = (has_mark o).1; within = w };
        second = record { between = _; first = are; second = m };
      },
      refl,
    )

-- a token that neither begins a statement nor goes on with one
pub brace_parts : {X : Type 0} (reach : Reach) (x : X) (y : Unit {0}) (a b : List Token) →
    TheMark (token.Sign sign.CloseBrace) reach y a b → ¬ Nothing (first_kind b) → ¬ GoesStmts (first_kind a)
brace_parts reach x y a b m stop (inl begins) =
    let none : None ≡ Some begins.0 = ap stmt_sort (sym (has_kind m)) ∙ begins.1 in cc
brace_parts reach x y a b m stop (inr (inl other)) = let kinds = other_kind (has_kind m) other in cc
brace_parts reach x y a b m stop (inr (inr other)) = let kinds = other_kind (has_kind m) other in cc

pub stmts_word : {X : Type 0} (text : List ℕ) (depth : ℕ) → AnyWord {X = X} (λ x. SomeStmts text depth)
stmts_word text depth = record { word = []; spells = λ x size behind fits. ([], stmts_none) }

pub block_word : {X : Type 0} (text : List ℕ) (depth : ℕ) → AnyWord {X = X} (λ x. ABlock text depth)
block_word text depth =
    word_so (λ w t. t.1.0) (λ w reach t a b h. (block_is a).to reach t a b h)
    (both_word (opening_word (token.Sign sign.OpenBrace) depth)
    (both_word (stmts_word text (depth + 1)) (mark_word (token.Sign sign.CloseBrace))))

pub taken_block : {text : List ℕ} {depth : ℕ} {p q : Place} {body : List StmtTree} {a b c d : List Token} →
    Takes (IsOpening (token.Sign sign.OpenBrace) depth) Nothing p a b →
    Takes (SomeStmts text (depth + 1)) GoesStmts body b c →
    Takes (λ _. IsMark (token.Sign sign.CloseBrace)) Nothing q c d → Takes (ABlock text depth) Nothing body a d
taken_block o r m = takes_so (block_is _) (takes_then o (takes_both r brace_parts (without_place m)))

pub no_block_opening : (text : List ℕ) (depth : ℕ) (a : List Token) (e : Stop) →
    IsRefused (AnyOf (IsOpening (token.Sign sign.OpenBrace) depth)) Nothing a e →
    IsRefused (AnyOf (ABlock text depth)) Nothing a e
no_block_opening text depth a e h =
    refused_in (block_is a) (λ deep here blocked. at_first blocked
    (both_word (stmts_word text (depth + 1)) (mark_word (token.Sign sign.CloseBrace)))) e h

pub no_block_stmts : (text : List ℕ) {depth : ℕ} {p : Place} {a b : List Token} →
    Takes (IsOpening (token.Sign sign.OpenBrace) depth) Nothing p a b → (e : Stop) →
    IsRefused (AnyOf (SomeStmts text (depth + 1))) GoesStmts b e → IsRefused (AnyOf (ABlock text depth)) Nothing a e
no_block_stmts text o e h =
    refused_in (block_is _) (λ deep here blocked. at_second o
    (blocked_first blocked (mark_word (token.Sign sign.CloseBrace)) brace_parts)) e h

pub no_block_closing : {text : List ℕ} {depth : ℕ} {p : Place} {body : List StmtTree} {a b c : List Token} →
    Takes (IsOpening (token.Sign sign.OpenBrace) depth) Nothing p a b →
    Takes (SomeStmts text (depth + 1)) GoesStmts body b c → (e : Stop) →
    IsRefused (AnyOf (TheMark (token.Sign sign.CloseBrace))) Nothing c e →
    IsRefused (AnyOf (ABlock text depth)) Nothing a e
no_block_closing o r e h =
    refused_in (block_is _) (λ deep here blocked. at_second o (blocked_second r brace_parts blocked)) e h

-- `or` and a block
abbrev OrParts : List ℕ → ℕ → Reach → Unit {0} × List StmtTree → List Token → List Token → Type 0
OrParts text depth = Both (TheMark (token.Word word.Or)) (λ _. ABlock text depth)

or_is : {text : List ℕ} {depth : ℕ} (a : List Token) →
    Same (OrParts text depth) (IsOrBlock text depth) Nothing (λ t. row_of t.1) a
or_is {text} {depth} a = record {
  to = λ reach t b c h. or_block h.first h.second;
  from = λ reach row b c same stop h. from reach row b c h;
}
  where
    from : (reach : Reach) (row : StmtRow) (b c : List Token) → IsOrBlock text depth reach row b c →
        (t : Unit {0} × List StmtTree) × OrParts text depth reach t b c × (row ≡ row_of t.1)
    from reach row b c (or_block m is) = ((tt, _), record { between = _; first = m; second = is }, refl)

pub taken_or : {text : List ℕ} {depth : ℕ} {p : Place} {body : List StmtTree} {a b c : List Token} →
    Takes (λ _. IsMark (token.Word word.Or)) Nothing p a b → Takes (ABlock text depth) Nothing body b c →
    Takes (IsOrBlock text depth) Nothing (row_of body) a c
taken_or m r = takes_so (or_is _) (takes_then (without_place m) r)

pub no_or_word : (text : List ℕ) (depth : ℕ) (a : List Token) (e : Stop) →
    IsRefused (AnyOf (TheMark (token.Word word.Or))) Nothing a e → IsRefused (AnyOf (IsOrBlock text depth)) Nothing a e
no_or_word text depth a e h =
    refused_in (or_is a) (λ deep here blocked. at_first blocked (block_word text depth)) e h

pub no_or_block : (text : List ℕ) (depth : ℕ) {p : Place} {a b : List Token} →
    Takes (λ _. IsMark (token.Word word.Or)) Nothing p a b → (e : Stop) →
    IsRefused (AnyOf (ABlock text depth)) Nothing b e → IsRefused (AnyOf (IsOrBlock text depth)) Nothing a e
no_or_block text depth m e h =
    refused_in (or_is _) (λ deep here blocked. at_second (without_place m) blocked) e h

-- the first two blocks of a choice
abbrev pub TwoBlocks : List ℕ → ℕ → Reach → List StmtTree × StmtRow → List Token → List Token → Type 0
TwoBlocks text depth = Both (ABlock text depth) (λ _. IsOrBlock text depth)

abbrev pub two_rows : List StmtTree × StmtRow → List StmtRow
two_rows t = row_of t.0 ∷ t.1 ∷ []

choice_from : {text : List ℕ} {depth : ℕ} (reach : Reach) (rows : List StmtRow) (a b : List Token) →
    IsChoice text depth reach rows a b → Begun (TwoBlocks text depth) (IsOrBlock text depth) two_rows reach rows a b
choice_from reach rows a b (choices {body} {second} {others} is or are) = record {
  tree = (body, second);
  between = _;
  first = record { between = _; first = is; second = or };
  leads = record { others = others; whole = refl; are = are };
}

choice_grown : {text : List ℕ} {depth : ℕ} (reach : Reach) (rows : List StmtRow) (row : StmtRow) (a b c : List Token) →
    IsChoice text depth reach rows a b → IsOrBlock text depth reach row b c →
    IsChoice text depth reach (rows ++ row ∷ []) a c
choice_grown reach rows row a b c (choices is or are) last = choices is or (each_more are last)

pub choice_grows : {text : List ℕ} {depth : ℕ} → Grows (IsChoice text depth) (IsOrBlock text depth)
choice_grows = record { more = λ reach rows row a b c is last. choice_grown reach rows row a b c is last }

or_kind : {text : List ℕ} {depth : ℕ} {reach : Reach} {row : StmtRow} {a b : List Token} →
    IsOrBlock text depth reach row a b → first_kind a ≡ Some (token.Word word.Or)
or_kind (or_block m is) = has_kind m

pub or_apart : {text : List ℕ} {depth : ℕ} →
    Apart (IsOrBlock text depth) Nothing (EndsBy (GoesAt (token.Word word.Or)))
or_apart = record {
  begins = λ reach x a b is none. none;
  ends = λ reach x a b is ended. ended (or_kind is);
  last = λ a ended none. none;
}

-- the blocks of a choice that were read so far
abbrev pub ChoiceSoFar : List ℕ → ℕ → List StmtRow → List Token → List Token → Type 0
ChoiceSoFar text depth =
    RowSoFar (IsChoice text depth) (IsOrBlock text depth) (EndsBy (GoesAt (token.Word word.Or)))

pub choice_begun : {text : List ℕ} {depth : ℕ} {body : List StmtTree} {row : StmtRow} {a b c : List Token} →
    Takes (ABlock text depth) Nothing body a b → Takes (IsOrBlock text depth) Nothing row b c →
    ChoiceSoFar text depth (row_of body ∷ row ∷ []) a c
choice_begun {text} {depth} {body} {row} r s =
    row_begun {head = two_rows} {y = (body, row)} (takes_then r s)
    (λ reach t c d h. choices h.first h.second each_none) choice_from

pub choice_all : {text : List ℕ} {depth : ℕ} {rows : List StmtRow} {a b : List Token} →
    ¬ (first_kind b ≡ Some (token.Word word.Or)) → ChoiceSoFar text depth rows a b →
    Takes (IsChoice text depth) (GoesAt (token.Word word.Or)) rows a b
choice_all {b} none p = row_all (λ reach x d e same is. none (sym (same_kind d b same) ∙ or_kind is)) p

-- a choice whose first block is refused, and one whose second is
choice_is : {text : List ℕ} {depth : ℕ} (a : List Token) →
    Same (Both (ABlock text depth) (λ _. Both (IsOrBlock text depth) (λ _ reach. AreEach (IsOrBlock text depth reach))))
    (IsChoice text depth) (GoesAt (token.Word word.Or)) (λ t. row_of t.0 ∷ t.1.0 ∷ t.1.1) a
choice_is {text} {depth} a = record {
  to = λ reach t b c h. choices h.first h.second.first h.second.second;
  from = λ reach rows b c same stop h. from reach rows b c h;
}
  where
    from : (reach : Reach) (rows : List StmtRow) (b c : List Token) → IsChoice text depth reach rows b c →
        (t : List StmtTree × (StmtRow × List StmtRow))
        × Both (ABlock text depth) (λ _. Both (IsOrBlock text depth) (λ _ reach. AreEach (IsOrBlock text depth reach)))
        reach t b c
        × (rows ≡ row_of t.0 ∷ t.1.0 ∷ t.1.1)
    from reach rows b c (choices is or are) = (
      (_, (_, _)),
      record { between = _; first = is; second = record { between = _; first = or; second = are } },
      refl,
    )

or_word : {X : Type 0} (text : List ℕ) (depth : ℕ) → AnyWord {X = X} (λ x. IsOrBlock text depth)
or_word text depth =
    word_so (λ w t. row_of t.1) (λ w reach t a b h. or_block h.first h.second)
    (both_word (mark_word (token.Word word.Or)) (block_word text depth))

ors_word : {X : Type 0} (text : List ℕ) (depth : ℕ) → AnyWord {X = X} (λ x reach. AreEach (IsOrBlock text depth reach))
ors_word text depth = record { word = []; spells = λ x size behind fits. ([], each_none) }

pub choice_word : {X : Type 0} (text : List ℕ) (depth : ℕ) → AnyWord {X = X} (λ x. IsChoice text depth)
choice_word text depth =
    word_so (λ w t. row_of t.0 ∷ t.1.0 ∷ t.1.1) (λ w reach t a b h. (choice_is a).to reach t a b h)
    (both_word (block_word text depth) (both_word (or_word text depth) (ors_word text depth)))

pub no_choice_first : (text : List ℕ) (depth : ℕ) (a : List Token) (e : Stop) →
    IsRefused (AnyOf (ABlock text depth)) Nothing a e →
    IsRefused (AnyOf (IsChoice text depth)) (GoesAt (token.Word word.Or)) a e
no_choice_first text depth a e h =
    refused_in (choice_is a) (λ deep here blocked. at_first blocked
    (both_word (or_word text depth) (ors_word text depth))) e h

pub no_choice_second : {text : List ℕ} {depth : ℕ} {body : List StmtTree} {a b : List Token} →
    Takes (ABlock text depth) Nothing body a b → (e : Stop) → IsRefused (AnyOf (IsOrBlock text depth)) Nothing b e →
    IsRefused (AnyOf (IsChoice text depth)) (GoesAt (token.Word word.Or)) a e
no_choice_second {text} {depth} r e h =
    refused_in (choice_is _) (λ deep here blocked. at_second r (at_first blocked (ors_word text depth)))
    e h

pub no_choice_next : {text : List ℕ} {depth : ℕ} {rows : List StmtRow} {a b : List Token} →
    first_kind b ≡ Some (token.Word word.Or) → ChoiceSoFar text depth rows a b → (e : Stop) →
    IsRefused (AnyOf (IsOrBlock text depth)) Nothing b e →
    IsRefused (AnyOf (IsChoice text depth)) (GoesAt (token.Word word.Or)) a e
no_choice_next kind p e h =
    refused_so (λ deep here blocked. row_blocked choice_grows or_apart kind p blocked) e h

pub choice_more : {text : List ℕ} {depth : ℕ} {rows : List StmtRow} {row : StmtRow} {a b c : List Token} →
    ChoiceSoFar text depth rows a b →
    Takes (IsOrBlock text depth) Nothing row b c → ChoiceSoFar text depth (rows ++ row ∷ []) a c
choice_more p r = row_more choice_grows or_apart p r

-- the word `if` and what stands behind it, as a statement
abbrev IfParts : List ℕ → ℕ → Reach → Unit {0} × StmtTree → List Token → List Token → Type 0
IfParts text depth = Both (TheMark (token.Word word.If)) (λ _. AnIfFrom text depth)

if_is : {text : List ℕ} {depth : ℕ} (a : List Token) →
    Same (IfParts text depth) (AStmtOf text depth sort.If) (GoesAt (token.Word word.Else)) (λ t. t.1) a
if_is {text} {depth} a = record {
  to = λ reach t b c h. is_if h.first h.second;
  from = λ reach s b c same stop h. from reach s b c h;
}
  where
    from : (reach : Reach) (s : StmtTree) (b c : List Token) → AStmtOf text depth sort.If reach s b c →
        (t : Unit {0} × StmtTree) × IfParts text depth reach t b c × (s ≡ t.1)
    from reach s b c (is_if m h) = ((tt, _), record { between = _; first = m; second = h }, refl)

-- a condition, a block, and what stands behind an `else`
abbrev IfFromParts : List ℕ → ℕ → Reach → ExprTree × (List StmtTree × StmtRow) → List Token → List Token → Type 0
IfFromParts text depth = Both (ACondition text depth) (λ _. Both (ABlock text depth) (λ _. AnElse text depth))

if_from_is : {text : List ℕ} {depth : ℕ} (a : List Token) →
    Same (IfFromParts text depth) (AnIfFrom text depth) (GoesAt (token.Word word.Else))
    (λ t. branch t.0 (row_of t.1.0) t.1.1) a
if_from_is {text} {depth} a = record {
  to = λ reach t b c h. from_test h.first h.second.first h.second.second;
  from = λ reach s b c same stop h. from reach s b c h;
}
  where
    from : (reach : Reach) (s : StmtTree) (b c : List Token) → AnIfFrom text depth reach s b c →
        (t : ExprTree × (List StmtTree × StmtRow)) × IfFromParts text depth reach t b c
        × (s ≡ branch t.0 (row_of t.1.0) t.1.1)
    from reach s b c (from_test is body other) = (
      (_, (_, _)),
      record { between = _; first = is; second = record { between = _; first = body; second = other } },
      refl,
    )

else_word : {X : Type 0} (text : List ℕ) (depth : ℕ) → AnyWord {X = X} (λ x. AnElse text depth)
else_word text depth = record { word = []; spells = λ x size behind fits. (nothing, else_none) }

pub if_from_word : {X : Type 0} (text : List ℕ) (depth : ℕ) → AnyWord {X = X} (λ x. AnIfFrom text depth)
if_from_word text depth =
    word_so (λ w t. branch t.0 (row_of t.1.0) t.1.1) (λ w reach t a b h. (if_from_is a).to reach t a b h)
    (both_word (condition_word text depth) (both_word (block_word text depth) (else_word text depth)))

else_stmt : (kind : Option TokenKind) → GoesAt (token.Word word.Else) kind → GoesStmt kind
else_stmt kind e = inl e

or_stmt : (kind : Option TokenKind) → GoesAt (token.Word word.Or) kind → GoesStmt kind
or_stmt kind e = inr e

pub taken_if : {text : List ℕ} {depth : ℕ} {p : Place} {s : StmtTree} {a b c : List Token} →
    Takes (λ _. IsMark (token.Word word.If)) Nothing p a b →
    Takes (AnIfFrom text depth) (GoesAt (token.Word word.Else)) s b c →
    Takes (AStmtOf text depth sort.If) GoesStmt s a c
taken_if m r = wider else_stmt (takes_so (if_is _) (takes_then (without_place m) r))

pub no_if_word : (text : List ℕ) (depth : ℕ) (a : List Token) (e : Stop) →
    IsRefused (AnyOf (TheMark (token.Word word.If))) Nothing a e →
    IsRefused (AnyOf (AStmtOf text depth sort.If)) GoesStmt a e
no_if_word text depth a e h =
    refused_so (λ deep here blocked. wider_blocked else_stmt
    (blocked_so (if_is a) (at_first blocked (if_from_word text depth)))) e h

pub no_if_from : (text : List ℕ) (depth : ℕ) {p : Place} {a b : List Token} →
    Takes (λ _. IsMark (token.Word word.If)) Nothing p a b → (e : Stop) →
    IsRefused (AnyOf (AnIfFrom text depth)) (GoesAt (token.Word word.Else)) b e →
    IsRefused (AnyOf (AStmtOf text depth sort.If)) GoesStmt a e
no_if_from text depth m e h =
    refused_so (λ deep here blocked. wider_blocked else_stmt
    (blocked_so (if_is _) (at_second (without_place m) blocked))) e h

pub taken_if_from : {text : List ℕ} {depth : ℕ} {test : ExprTree} {body : List StmtTree} {other : StmtRow}
    {a b c d : List Token} → Takes (ACondition text depth) Nothing test a b →
    Takes (ABlock text depth) Nothing body b c →
    Takes (AnElse text depth) (GoesAt (token.Word word.Else)) other c d →
    Takes (AnIfFrom text depth) (GoesAt (token.Word word.Else)) (branch test (row_of body) other) a d
taken_if_from r s t = takes_so (if_from_is _) (takes_then r (takes_then s t))

pub no_if_condition : (text : List ℕ) (depth : ℕ) (a : List Token) (e : Stop) →
    IsRefused (AnyOf (ACondition text depth)) Nothing a e →
    IsRefused (AnyOf (AnIfFrom text depth)) (GoesAt (token.Word word.Else)) a e
no_if_condition text depth a e h =
    refused_in (if_from_is a) (λ deep here blocked. at_first blocked
    (both_word (block_word text depth) (else_word text depth))) e h

pub no_if_block : {text : List ℕ} {depth : ℕ} {test : ExprTree} {a b : List Token} →
    Takes (ACondition text depth) Nothing test a b → (e : Stop) → IsRefused (AnyOf (ABlock text depth)) Nothing b e →
    IsRefused (AnyOf (AnIfFrom text depth)) (GoesAt (token.Word word.Else)) a e
no_if_block {text} {depth} r e h =
    refused_in (if_from_is _) (λ deep here blocked. at_second r (at_first blocked (else_word text depth))) e h

pub no_if_else : {text : List ℕ} {depth : ℕ} {test : ExprTree} {body : List StmtTree} {a b c : List Token} →
    Takes (ACondition text depth) Nothing test a b → Takes (ABlock text depth) Nothing body b c → (e : Stop) →
    IsRefused (AnyOf (AnElse text depth)) (GoesAt (token.Word word.Else)) c e →
    IsRefused (AnyOf (AnIfFrom text depth)) (GoesAt (token.Word word.Else)) a e
no_if_else r s e h =
    refused_in (if_from_is _) (λ deep here blocked. at_second r (at_second s blocked)) e h

-- no `else`
pub taken_no_else : {text : List ℕ} {depth : ℕ} (a : List Token) → ¬ (first_kind a ≡ Some (token.Word word.Else)) →
    Takes (AnElse text depth) (GoesAt (token.Word word.Else)) nothing a a
taken_no_else {text} {depth} a none = record {
  front = [];
  whole = refl;
  is = λ reach behind. else_none;
  sole = λ reach row other after same stop is. go reach row other after same is;
}
  where
    go : (reach : Reach) (row : StmtRow) (other after : List Token) → first_of other ≡ first_of a →
        AnElse text depth reach row other after → (row ≡ nothing) × (after ≡ other)
    go reach row other after same else_none = (refl, refl)
    go reach row other after same (else_some m h) = absurd (none (sym (same_kind other a same) ∙ has_kind m))

-- `else`, and what stands behind it
abbrev ElseParts : List ℕ → ℕ → Reach → Unit {0} × StmtRow → List Token → List Token → Type 0
ElseParts text depth = Both (TheMark (token.Word word.Else)) (λ _. AnElseFrom text depth)

else_is : {text : List ℕ} {depth : ℕ} (a : List Token) → first_kind a ≡ Some (token.Word word.Else) →
    Same (ElseParts text depth) (AnElse text depth) (GoesAt (token.Word word.Else)) (λ t. t.1) a
else_is {text} {depth} a kind = record {
  to = λ reach t b c h. else_some h.first h.second;
  from = λ reach row b c same stop h. from reach row b c same stop h;
}
  where
    from : (reach : Reach) (row : StmtRow) (b c : List Token) → first_of b ≡ first_of a →
        ¬ GoesAt (token.Word word.Else) (first_kind c) → AnElse text depth reach row b c →
        (t : Unit {0} × StmtRow) × ElseParts text depth reach t b c × (row ≡ t.1)
    from reach row b c same stop else_none = absurd (stop (same_kind b a same ∙ kind))
    from reach row b c same stop (else_some m h) = ((tt, _), record { between = _; first = m; second = h }, refl)

pub taken_else : {text : List ℕ} {depth : ℕ} {p : Place} {row : StmtRow} {a b c : List Token} →
    first_kind a ≡ Some (token.Word word.Else) → Takes (λ _. IsMark (token.Word word.Else)) Nothing p a b →
    Takes (AnElseFrom text depth) (GoesAt (token.Word word.Else)) row b c →
    Takes (AnElse text depth) (GoesAt (token.Word word.Else)) row a c
taken_else kind m r = takes_so (else_is _ kind) (takes_then (without_place m) r)

pub no_else : (text : List ℕ) (depth : ℕ) {p : Place} {a b : List Token} →
    first_kind a ≡ Some (token.Word word.Else) → Takes (λ _. IsMark (token.Word word.Else)) Nothing p a b → (e : Stop) →
    IsRefused (AnyOf (AnElseFrom text depth)) (GoesAt (token.Word word.Else)) b e →
    IsRefused (AnyOf (AnElse text depth)) (GoesAt (token.Word word.Else)) a e
no_else text depth kind m e h =
    refused_in (else_is _ kind) (λ deep here blocked. at_second (without_place m) blocked) e h

block_kind : {text : List ℕ} {depth : ℕ} (reach : Reach) {body : List StmtTree} {a b : List Token} →
    ABlock text depth reach body a b → first_kind a ≡ Some (token.Sign sign.OpenBrace)
block_kind reach (block o w are m) = has_kind o

-- a block behind an `else`
else_block_is : {text : List ℕ} {depth : ℕ} (a : List Token) → ¬ (first_kind a ≡ Some (token.Word word.If)) →
    Same (ABlock text depth) (AnElseFrom text depth) (GoesAt (token.Word word.Else)) row_of a
else_block_is {text} {depth} a none = record {
  to = λ reach body b c h. from_block h;
  from = λ reach row b c same stop h. from reach row b c same h;
}
  where
    from : (reach : Reach) (row : StmtRow) (b c : List Token) → first_of b ≡ first_of a →
        AnElseFrom text depth reach row b c →
        (body : List StmtTree) × ABlock text depth reach body b c × (row ≡ row_of body)
    from reach row b c same (from_block is) = (_, is, refl)
    from reach row b c same (from_if o h) = absurd (none (sym (same_kind b a same) ∙ mark_kind o.mark))

pub taken_else_block : {text : List ℕ} {depth : ℕ} {body : List StmtTree} (a : List Token) {b : List Token} →
    ¬ (first_kind a ≡ Some (token.Word word.If)) → Takes (ABlock text depth) Nothing body a b →
    Takes (AnElseFrom text depth) (GoesAt (token.Word word.Else)) (row_of body) a b
taken_else_block a none r = takes_so (else_block_is a none) (looser r)

pub no_else_block : (text : List ℕ) (depth : ℕ) (a : List Token) → ¬ (first_kind a ≡ Some (token.Word word.If)) →
    (e : Stop) → IsRefused (AnyOf (ABlock text depth)) Nothing a e →
    IsRefused (AnyOf (AnElseFrom text depth)) (GoesAt (token.Word word.Else)) a e
no_else_block text depth a none e h =
    refused_in (else_block_is a none) (λ deep here blocked. looser_blocked blocked) e h

-- an `if` behind an `else`
abbrev ElseIfParts : List ℕ → ℕ → Reach → Place × StmtTree → List Token → List Token → Type 0
ElseIfParts text depth = Both (IsOpening (token.Word word.If) depth) (λ _. AnIfFrom text (depth + 1))

else_if_is : {text : List ℕ} {depth : ℕ} (a : List Token) → first_kind a ≡ Some (token.Word word.If) →
    Same (ElseIfParts text depth) (AnElseFrom text depth) (GoesAt (token.Word word.Else)) (λ t. then t.1 nothing) a
else_if_is {text} {depth} a kind = record {
  to = λ reach t b c h. from_if h.first h.second;
  from = λ reach row b c same stop h. from reach row b c (same_kind b a same ∙ kind) h;
}
  where
    from : (reach : Reach) (row : StmtRow) (b c : List Token) → first_kind b ≡ Some (token.Word word.If) →
        AnElseFrom text depth reach row b c →
        (t : Place × StmtTree) × ElseIfParts text depth reach t b c × (row ≡ then t.1 nothing)
    from reach row b c kind (from_block is) = absurd (let kinds = other_kind (block_kind reach is) kind in cc)
    from reach row b c kind (from_if o h) = ((_, _), record { between = _; first = o; second = h }, refl)

pub taken_else_if : {text : List ℕ} {depth : ℕ} {p : Place} {s : StmtTree} {a b c : List Token} →
    first_kind a ≡ Some (token.Word word.If) → Takes (IsOpening (token.Word word.If) depth) Nothing p a b →
    Takes (AnIfFrom text (depth + 1)) (GoesAt (token.Word word.Else)) s b c →
    Takes (AnElseFrom text depth) (GoesAt (token.Word word.Else)) (then s nothing) a c
taken_else_if kind o r = takes_so (else_if_is _ kind) (takes_then o r)

pub no_else_if : (text : List ℕ) (depth : ℕ) (a : List Token) → first_kind a ≡ Some (token.Word word.If) → (e : Stop) →
    IsRefused (AnyOf (IsOpening (token.Word word.If) depth)) Nothing a e →
    IsRefused (AnyOf (AnElseFrom text depth)) (GoesAt (token.Word word.Else)) a e
no_else_if text depth a kind e h =
    refused_in (else_if_is a kind) (λ deep here blocked. at_first blocked (if_from_word text (depth + 1))) e h

pub no_else_if_from : (text : List ℕ) {depth : ℕ} {p : Place} {a b : List Token} →
    first_kind a ≡ Some (token.Word word.If) → Takes (IsOpening (token.Word word.If) depth) Nothing p a b → (e : Stop) →
    IsRefused (AnyOf (AnIfFrom text (depth + 1))) (GoesAt (token.Word word.Else)) b e →
    IsRefused (AnyOf (AnElseFrom text depth)) (GoesAt (token.Word word.Else)) a e
no_else_if_from text kind o e h =
    refused_in (else_if_is _ kind) (λ deep here blocked. at_second o blocked) e h

-- "while", a condition, a block
abbrev WhileParts : List ℕ → ℕ → Reach → Place × (ExprTree × List StmtTree) → List Token → List Token → Type 0
WhileParts text depth = Both (λ _. IsMark (token.Word word.While))
    (λ _. Both (ACondition text depth) (λ _. ABlock text depth))

while_is : {text : List ℕ} {depth : ℕ} (a : List Token) →
    Same (WhileParts text depth) (AStmtOf text depth sort.While) Nothing (λ t. repeat t.0 t.1.0 (row_of t.1.1)) a
while_is {text} {depth} a = record {
  to = λ reach t b c h. is_while h.first h.second.first h.second.second;
  from = λ reach s b c same stop h. from reach s b c h;
}
  where
    from : (reach : Reach) (s : StmtTree) (b c : List Token) → AStmtOf text depth sort.While reach s b c →
        (t : Place × (ExprTree × List StmtTree)) × WhileParts text depth reach t b c
        × (s ≡ repeat t.0 t.1.0 (row_of t.1.1))
    from reach s b c (is_while m is body) = (
      (_, (_, _)),
      record { between = _; first = m; second = record { between = _; first = is; second = body } },
      refl,
    )

pub taken_while : {text : List ℕ} {depth : ℕ} {p : Place} {test : ExprTree} {body : List StmtTree}
    {a b c d : List Token} → Takes (λ _. IsMark (token.Word word.While)) Nothing p a b →
    Takes (ACondition text depth) Nothing test b c → Takes (ABlock text depth) Nothing body c d →
    Takes (AStmtOf text depth sort.While) GoesStmt (repeat p test (row_of body)) a d
taken_while m r s = looser (takes_so (while_is _) (takes_then m (takes_then r s)))

pub no_while_word : (text : List ℕ) (depth : ℕ) (a : List Token) (e : Stop) →
    IsRefused (AnyOf (TheMark (token.Word word.While))) Nothing a e →
    IsRefused (AnyOf (AStmtOf text depth sort.While)) GoesStmt a e
no_while_word text depth a e h =
    refused_so (λ deep here blocked. looser_blocked (blocked_so (while_is a) (at_first (with_place blocked)
    (both_word (condition_word text depth) (block_word text depth))))) e h

pub no_while_condition : (text : List ℕ) (depth : ℕ) {p : Place} {a b : List Token} →
    Takes (λ _. IsMark (token.Word word.While)) Nothing p a b → (e : Stop) →
    IsRefused (AnyOf (ACondition text depth)) Nothing b e →
    IsRefused (AnyOf (AStmtOf text depth sort.While)) GoesStmt a e
no_while_condition text depth m e h =
    refused_so (λ deep here blocked. looser_blocked (blocked_so (while_is _) (at_second m
    (at_first blocked (block_word text depth))))) e h

pub no_while_block : {text : List ℕ} {depth : ℕ} {p : Place} {test : ExprTree} {a b c : List Token} →
    Takes (λ _. IsMark (token.Word word.While)) Nothing p a b → Takes (ACondition text depth) Nothing test b c →
    (e : Stop) → IsRefused (AnyOf (ABlock text depth)) Nothing c e →
    IsRefused (AnyOf (AStmtOf text depth sort.While)) GoesStmt a e
no_while_block m r e h =
    refused_so (λ deep here blocked. looser_blocked (blocked_so (while_is _) (at_second m (at_second r blocked)))) e h

-- "forever", a block
abbrev ForeverParts : List ℕ → ℕ → Reach → Place × List StmtTree → List Token → List Token → Type 0
ForeverParts text depth = Both (λ _. IsMark (token.Word word.Forever)) (λ _. ABlock text depth)

forever_is : {text : List ℕ} {depth : ℕ} (a : List Token) →
    Same (ForeverParts text depth) (AStmtOf text depth sort.Forever) Nothing (λ t. forever t.0 (row_of t.1)) a
forever_is {text} {depth} a = record {
  to = λ reach t b c h. is_forever h.first h.second;
  from = λ reach s b c same stop h. from reach s b c h;
}
  where
    from : (reach : Reach) (s : StmtTree) (b c : List Token) → AStmtOf text depth sort.Forever reach s b c →
        (t : Place × List StmtTree) × ForeverParts text depth reach t b c × (s ≡ forever t.0 (row_of t.1))
    from reach s b c (is_forever m body) = ((_, _), record { between = _; first = m; second = body }, refl)

pub taken_forever : {text : List ℕ} {depth : ℕ} {p : Place} {body : List StmtTree} {a b c : List Token} →
    Takes (λ _. IsMark (token.Word word.Forever)) Nothing p a b → Takes (ABlock text depth) Nothing body b c →
    Takes (AStmtOf text depth sort.Forever) GoesStmt (forever p (row_of body)) a c
taken_forever m r = looser (takes_so (forever_is _) (takes_then m r))

pub no_forever_word : (text : List ℕ) (depth : ℕ) (a : List Token) (e : Stop) →
    IsRefused (AnyOf (TheMark (token.Word word.Forever))) Nothing a e →
    IsRefused (AnyOf (AStmtOf text depth sort.Forever)) GoesStmt a e
no_forever_word text depth a e h =
    refused_so (λ deep here blocked. looser_blocked (blocked_so (forever_is a) (at_first (with_place blocked)
    (block_word text depth)))) e h

pub no_forever_block : (text : List ℕ) (depth : ℕ) {p : Place} {a b : List Token} →
    Takes (λ _. IsMark (token.Word word.Forever)) Nothing p a b → (e : Stop) →
    IsRefused (AnyOf (ABlock text depth)) Nothing b e → IsRefused (AnyOf (AStmtOf text depth sort.Forever)) GoesStmt a e
no_forever_block text depth m e h =
    refused_so (λ deep here blocked. looser_blocked (blocked_so (forever_is _) (at_second m blocked))) e h

-- "choice", its blocks
abbrev ChoiceStmtParts : List ℕ → ℕ → Reach → Place × List StmtRow → List Token → List Token → Type 0
ChoiceStmtParts text depth = Both (λ _. IsMark (token.Word word.Choice)) (λ _. IsChoice text depth)

choice_stmt_is : {text : List ℕ} {depth : ℕ} (a : List Token) →
    Same (ChoiceStmtParts text depth) (AStmtOf text depth sort.Choice) (GoesAt (token.Word word.Or))
    (λ t. choose t.0 (alternatives_of t.1)) a
choice_stmt_is {text} {depth} a = record {
  to = λ reach t b c h. is_choice h.first h.second;
  from = λ reach s b c same stop h. from reach s b c h;
}
  where
    from : (reach : Reach) (s : StmtTree) (b c : List Token) → AStmtOf text depth sort.Choice reach s b c →
        (t : Place × List StmtRow) × ChoiceStmtParts text depth reach t b c × (s ≡ choose t.0 (alternatives_of t.1))
    from reach s b c (is_choice m are) = ((_, _), record { between = _; first = m; second = are }, refl)

pub taken_choice : {text : List ℕ} {depth : ℕ} {p : Place} {rows : List StmtRow} {a b c : List Token} →
    Takes (λ _. IsMark (token.Word word.Choice)) Nothing p a b →
    Takes (IsChoice text depth) (GoesAt (token.Word word.Or)) rows b c →
    Takes (AStmtOf text depth sort.Choice) GoesStmt (choose p (alternatives_of rows)) a c
taken_choice m r = wider or_stmt (takes_so (choice_stmt_is _) (takes_then m r))

pub no_choice_word : (text : List ℕ) (depth : ℕ) (a : List Token) (e : Stop) →
    IsRefused (AnyOf (TheMark (token.Word word.Choice))) Nothing a e →
    IsRefused (AnyOf (AStmtOf text depth sort.Choice)) GoesStmt a e
no_choice_word text depth a e h =
    refused_so (λ deep here blocked. wider_blocked or_stmt (blocked_so (choice_stmt_is a)
    (at_first (with_place blocked) (choice_word text depth)))) e h

pub no_choice_blocks : (text : List ℕ) (depth : ℕ) {p : Place} {a b : List Token} →
    Takes (λ _. IsMark (token.Word word.Choice)) Nothing p a b → (e : Stop) →
    IsRefused (AnyOf (IsChoice text depth)) (GoesAt (token.Word word.Or)) b e →
    IsRefused (AnyOf (AStmtOf text depth sort.Choice)) GoesStmt a e
no_choice_blocks text depth m e h =
    refused_so (λ deep here blocked. wider_blocked or_stmt (blocked_so (choice_stmt_is _) (at_second m blocked))) e h
