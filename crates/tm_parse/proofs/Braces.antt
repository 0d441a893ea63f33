-- What a procedure returns, and bodies in braces.
use Rattle.std.proofs.Common.{◌≡◌, ℕ, ◌+◌, inl, inr, Option, Some, None, List, [], refl, sym, ap, ◌∙◌, subst}
use Rattle.tm_base.specs.declared.place.Place.{Place}
use Rattle.tm_syntax.specs.declared.token.Token.{Token}
use Rattle.tm_syntax.specs.declared.token.TokenKind.{TokenKind}
use Rattle.tm_syntax.specs.declared.token.TokenKind.TheVariants as token
use Rattle.tm_syntax.specs.declared.token.Word.TheVariants as word
use Rattle.tm_syntax.specs.declared.token.Sign.TheVariants as sign
use Rattle.tm_parse.specs.declared.stop.Stop.{Stop}
use Rattle.tm_parse.proofs.Arguments.{other_kind, BeginsAt, taken_absent, present_is}
use Rattle.tm_parse.proofs.Primaries.{looser, looser_blocked}
use Rattle.tm_parse.proofs.Taking.{Both, Same, AnyWord, takes_both, takes_then, takes_so, at_first, at_second, blocked_first, blocked_second, both_word, refused_in}
use Rattle.tm_parse.proofs.Terminals.{mark_has, has_kind, has_mark, mark_word, without_place}
use Rattle.tm_syntax.specs.Tree.{ExprTree, StmtTree, LocalTree, BodyTree}
use Rattle.tm_syntax.specs.Grammar.Parts.{Has, IsMark, optional_none, optional_some, each_none}
use Rattle.tm_syntax.specs.Grammar.Statements.{stmts_none, body, IsReturn, return, braced, answering}
use Rattle.tm_parse.specs.Reading.{Reach, IsBound, first_kind, IsRefused, Takes, AnyOf, Nothing, TheMark, IsOpening}
use Rattle.tm_parse.specs.Operands.{AnExpr, GoesExpr}
use Rattle.tm_parse.specs.Commands.{GoesAt, stmt_sort, GoesBody, AreBody, AnAnswer, ABraced, AnAnswering}
use Rattle.tm_parse.proofs.Blocks.{brace_parts}
use Rattle.tm_parse.proofs.Goes.{no_goes}

-- ";" goes on with no expression
pub semicolon_expr : {X : Type 0} (reach : Reach) (x : X) (y : Unit {0}) (a b : List Token) →
    TheMark (token.Sign sign.Semicolon) reach y a b → ¬ Nothing (first_kind b) → ¬ GoesExpr 0 (first_kind a)
semicolon_expr reach x y a b m stop goes =
    no_goes 0 sign.Semicolon refl (λ e. cc) (λ e. cc) (λ loose e. cc) (subst (GoesExpr 0) (has_kind m) goes)

-- "return", an expression, ";"
abbrev AReturn : List ℕ → ℕ → Reach → ExprTree → List Token → List Token → Type 0
AReturn text depth reach e a b = IsReturn text (IsBound reach) depth e a b

abbrev ReturnParts : List ℕ → ℕ → Reach → Unit {0} × (ExprTree × Unit {0}) → List Token → List Token → Type 0
ReturnParts text depth =
    Both (TheMark (token.Word word.Return)) (λ _. Both (AnExpr text 0 depth)
    (λ _. TheMark (token.Sign sign.Semicolon)))

return_is : {text : List ℕ} {depth : ℕ} (a : List Token) →
    Same (ReturnParts text depth) (AReturn text depth) Nothing (λ t. t.1.0) a
return_is {text} {depth} a = record {
  to = λ reach t b c h. return h.first h.second.first h.second.second;
  from = λ reach y b c same stop h. from reach y b c h;
}
  where
    from : (reach : Reach) (y : ExprTree) (b c : List Token) → AReturn text depth reach y b c →
        (t : Unit {0} × (ExprTree × Unit {0})) × ReturnParts text depth reach t b c × (y ≡ t.1.0)
    from reach y b c (return m is n) = (
      (tt, (_, tt)),
      record { between = _; first = m; second = record { between = _; first = is; second = n } },
      refl,
    )

taken_return : {text : List ℕ} {depth : ℕ} {p q : Place} {e : ExprTree} {a b c d : List Token} →
    Takes (λ _. IsMark (token.Word word.Return)) Nothing p a b →
    Takes (AnExpr text 0 depth) (GoesExpr 0) e b c →
    Takes (λ _. IsMark (token.Sign sign.Semicolon)) Nothing q c d →
    Takes (AReturn text depth) Nothing e a d
taken_return begins answer ends =
    takes_so (return_is _) (takes_then (without_place begins) (takes_both answer semicolon_expr (without_place ends)))

no_return_expr : (text : List ℕ) (depth : ℕ) {p : Place} {a b : List Token} →
    Takes (λ _. IsMark (token.Word word.Return)) Nothing p a b → (e : Stop) →
    IsRefused (AnyOf (AnExpr text 0 depth)) (GoesExpr 0) b e → IsRefused (AnyOf (AReturn text depth)) Nothing a e
no_return_expr text depth begins e h =
    refused_in (return_is _) (λ deep here blocked. at_second (without_place begins)
    (blocked_first blocked (mark_word (token.Sign sign.Semicolon)) semicolon_expr)) e h

no_return_end : (text : List ℕ) (depth : ℕ) {p : Place} {x : ExprTree} {a b c : List Token} →
    Takes (λ _. IsMark (token.Word word.Return)) Nothing p a b → Takes (AnExpr text 0 depth) (GoesExpr 0) x b c →
    (e : Stop) → IsRefused (AnyOf (TheMark (token.Sign sign.Semicolon))) Nothing c e →
    IsRefused (AnyOf (AReturn text depth)) Nothing a e
no_return_end text depth begins answer e h =
    refused_in (return_is _) (λ deep here blocked. at_second (without_place begins)
    (blocked_second answer semicolon_expr blocked)) e h

return_begins : (text : List ℕ) (depth : ℕ) → BeginsAt (AReturn text depth) (token.Word word.Return)
return_begins text depth = record { kind = λ reach e a b h. kind reach e a b h }
  where
    kind : (reach : Reach) (e : ExprTree) (a b : List Token) → AReturn text depth reach e a b →
        first_kind a ≡ Some (token.Word word.Return)
    kind reach e a b (return m is n) = has_kind m

pub taken_no_answer : (text : List ℕ) (depth : ℕ) (a : List Token) → ¬ (first_kind a ≡ Some (token.Word word.Return)) →
    Takes (AnAnswer text depth) (GoesAt (token.Word word.Return)) None a a
taken_no_answer text depth a none = taken_absent a (return_begins text depth) none

pub taken_answer : {text : List ℕ} {depth : ℕ} {p q : Place} {e : ExprTree} {a b c d : List Token} →
    first_kind a ≡ Some (token.Word word.Return) → Takes (λ _. IsMark (token.Word word.Return)) Nothing p a b →
    Takes (AnExpr text 0 depth) (GoesExpr 0) e b c → Takes (λ _. IsMark (token.Sign sign.Semicolon)) Nothing q c d →
    Takes (AnAnswer text depth) (GoesAt (token.Word word.Return)) (Some e) a d
taken_answer kind m r n = takes_so (present_is _ kind) (looser (taken_return m r n))

pub no_answer_expr : (text : List ℕ) (depth : ℕ) {p : Place} {a b : List Token} →
    first_kind a ≡ Some (token.Word word.Return) → Takes (λ _. IsMark (token.Word word.Return)) Nothing p a b →
    (e : Stop) → IsRefused (AnyOf (AnExpr text 0 depth)) (GoesExpr 0) b e →
    IsRefused (AnyOf (AnAnswer text depth)) (GoesAt (token.Word word.Return)) a e
no_answer_expr text depth kind m e h =
    refused_in (present_is _ kind) (λ deep here blocked. looser_blocked blocked) e
    (no_return_expr text depth m e h)

pub no_answer_end : (text : List ℕ) (depth : ℕ) {p : Place} {x : ExprTree} {a b c : List Token} →
    first_kind a ≡ Some (token.Word word.Return) → Takes (λ _. IsMark (token.Word word.Return)) Nothing p a b →
    Takes (AnExpr text 0 depth) (GoesExpr 0) x b c → (e : Stop) →
    IsRefused (AnyOf (TheMark (token.Sign sign.Semicolon))) Nothing c e →
    IsRefused (AnyOf (AnAnswer text depth)) (GoesAt (token.Word word.Return)) a e
no_answer_end text depth kind m r e h =
    refused_in (present_is _ kind) (λ deep here blocked. looser_blocked blocked) e
    (no_return_end text depth m r e h)

-- what closes a body goes on with none
pub close_body : {X : Type 0} (reach : Reach) (x : X) (y : Unit {0}) (a b : List Token) →
    TheMark (token.Sign sign.CloseBrace) reach y a b → ¬ Nothing (first_kind b) → ¬ GoesBody (first_kind a)
close_body reach x y a b m stop (inl (inl begins)) = let kinds = other_kind (has_kind m) begins in cc
close_body reach x y a b m stop (inl (inr begins)) = let kinds = other_kind (has_kind m) begins in cc
close_body reach x y a b m stop (inr goes) = brace_parts reach x y a b m stop goes

pub close_answer : {X : Type 0} (reach : Reach) (x : X) (y : Unit {0}) (a b : List Token) →
    TheMark (token.Sign sign.CloseBrace) reach y a b → ¬ Nothing (first_kind b) →
    ¬ GoesAt (token.Word word.Return) (first_kind a)
close_answer reach x y a b m stop begins = let kinds = other_kind (has_kind m) begins in cc

pub return_body : {kind : Option TokenKind} → kind ≡ Some (token.Word word.Return) → ¬ GoesBody kind
return_body kind (inl (inl begins)) = let kinds = other_kind kind begins in cc
return_body kind (inl (inr begins)) = let kinds = other_kind kind begins in cc
return_body kind (inr (inl begins)) = let none : None ≡ Some begins.0 = ap stmt_sort (sym kind) ∙ begins.1 in cc
return_body kind (inr (inr (inl other))) = let kinds = other_kind kind other in cc
return_body kind (inr (inr (inr other))) = let kinds = other_kind kind other in cc

answer_body : {text : List ℕ} {depth : ℕ} {X : Type 0} (reach : Reach) (x : X) (y : Option ExprTree × Unit {0})
    (a b : List Token) → Both (AnAnswer text depth) (λ _. TheMark (token.Sign sign.CloseBrace)) reach y a b →
    ¬ Nothing (first_kind b) → ¬ GoesBody (first_kind a)
answer_body {text} {depth} reach x y a b h stop goes = go y.0 a h.between h.first h.second goes
  where
    go : (answer : Option ExprTree) (a c : List Token) → AnAnswer text depth reach answer a c →
        Has (token.Sign sign.CloseBrace) c b → ¬ GoesBody (first_kind a)
    go answer a c optional_none m goes = close_body reach x tt a b m stop goes
    go answer a c (optional_some (return m is n)) o goes = return_body (has_kind m) goes

pub body_word : {X : Type 0} (text : List ℕ) (depth : ℕ) → AnyWord {X = X} (λ x. AreBody text depth)
body_word text depth = record {
  word = [];
  spells = λ x size behind fits.
      (([], []), record { between = behind; locals = each_none; stmts = stmts_none });
}

answer_word : {X : Type 0} (text : List ℕ) (depth : ℕ) → AnyWord {X = X} (λ x. AnAnswer text depth)
answer_word text depth = record { word = []; spells = λ x size behind fits. (None, optional_none) }

-- "{", declarations and statements, "}"
abbrev BracedParts : List ℕ → ℕ → Reach → Place × ((List LocalTree × List StmtTree) × Unit {0}) → List Token →
    List Token → Type 0
BracedParts text depth =
    Both (IsOpening (token.Sign sign.OpenBrace) depth) (λ _. Both (AreBody text (depth + 1))
    (λ _. TheMark (token.Sign sign.CloseBrace)))

braced_is : {text : List ℕ} {depth : ℕ} (a : List Token) →
    Same (BracedParts text depth) (ABraced text depth) Nothing
    (λ t. record { locals = t.1.0.0; stmts = t.1.0.1; answer = None }) a
braced_is {text} {depth} a = record {
  to = λ reach t b c h. braced (mark_has h.first.mark) h.first.within
      (body h.second.first.locals h.second.first.stmts) h.second.second;
  from = λ reach y b c same stop h. from reach y b c h;
}
  where
    from : (reach : Reach) (y : BodyTree) (b c : List Token) → ABraced text depth reach y b c →
        (t : Place × ((List LocalTree × List StmtTree) × Unit {0})) × BracedParts text depth reach t b c ×
        (y ≡ record { locals = t.1.0.0; stmts = t.1.0.1; answer = None })
    from reach y b c (braced {locals} {stmts} o w (body ls ss) m) = (
      (_, ((locals, stmts), tt)),
      record {
        between = _;
        first = record { mark = (has_mark o).1; within = w };
        second = record { between = _; first = record { between = _; locals = ls; stmts = ss }; second = m };
      },
      refl,
    )

pub taken_braced : {text : List ℕ} {depth : ℕ} {p q : Place} {inner : List LocalTree × List StmtTree}
    {a b c d : List Token} →
    Takes (IsOpening (token.Sign sign.OpenBrace) depth) Nothing p a b →
    Takes (AreBody text (depth + 1)) GoesBody inner b c →
    Takes (λ _. IsMark (token.Sign sign.CloseBrace)) Nothing q c d →
    Takes (ABraced text depth) Nothing (record { locals = inner.0; stmts = inner.1; answer = None }) a d
taken_braced opens read closes =
    takes_so (braced_is _) (takes_then opens (takes_both read close_body (without_place closes)))

pub no_braced_opening : (text : List ℕ) (depth : ℕ) (a : List Token) (e : Stop) →
    IsRefused (AnyOf (IsOpening (token.Sign sign.OpenBrace) depth)) Nothing a e →
    IsRefused (AnyOf (ABraced text depth)) Nothing a e
no_braced_opening text depth a e h =
    refused_in (braced_is a) (λ deep here blocked. at_first blocked
    (both_word (body_word text (depth + 1)) (mark_word (token.Sign sign.CloseBrace)))) e h

pub no_braced_body : (text : List ℕ) (depth : ℕ) {p : Place} {a b : List Token} →
    Takes (IsOpening (token.Sign sign.OpenBrace) depth) Nothing p a b → (e : Stop) →
    IsRefused (AnyOf (AreBody text (depth + 1))) GoesBody b e → IsRefused (AnyOf (ABraced text depth)) Nothing a e
no_braced_body text depth opens e h =
    refused_in (braced_is _) (λ deep here blocked. at_second opens
    (blocked_first blocked (mark_word (token.Sign sign.CloseBrace)) close_body)) e h

pub no_braced_closing : (text : List ℕ) (depth : ℕ) {p : Place} {inner : List LocalTree × List StmtTree}
    {a b c : List Token} → Takes (IsOpening (token.Sign sign.OpenBrace) depth) Nothing p a b →
    Takes (AreBody text (depth + 1)) GoesBody inner b c → (e : Stop) →
    IsRefused (AnyOf (TheMark (token.Sign sign.CloseBrace))) Nothing c e →
    IsRefused (AnyOf (ABraced text depth)) Nothing a e
no_braced_closing text depth opens read e h =
    refused_in (braced_is _) (λ deep here blocked. at_second opens (blocked_second read close_body blocked)) e h

-- "{", declarations and statements, what is returned, "}"
abbrev AnsweringParts : List ℕ → ℕ → Reach → Place × ((List LocalTree × List StmtTree) ×
    (Option ExprTree × Unit {0})) → List Token → List Token → Type 0
AnsweringParts text depth =
    Both (IsOpening (token.Sign sign.OpenBrace) depth) (λ _. Both (AreBody text (depth + 1))
    (λ _. Both (AnAnswer text (depth + 1)) (λ _. TheMark (token.Sign sign.CloseBrace))))

answering_is : {text : List ℕ} {depth : ℕ} (a : List Token) →
    Same (AnsweringParts text depth) (AnAnswering text depth) Nothing
    (λ t. record { locals = t.1.0.0; stmts = t.1.0.1; answer = t.1.1.0 }) a
answering_is {text} {depth} a = record {
  to = λ reach t b c h. answering (mark_has h.first.mark) h.first.within
      (body h.second.first.locals h.second.first.stmts) h.second.second.first h.second.second.second;
  from = λ reach y b c same stop h. from reach y b c h;
}
  where
    from : (reach : Reach) (y : BodyTree) (b c : List Token) → AnAnswering text depth reach y b c →
        (t : Place × ((List LocalTree × List StmtTree) × (Option ExprTree × Unit {0}))) × AnsweringParts text depth
        reach t b c × (y ≡ record { locals = t.1.0.0; stmts = t.1.0.1; answer = t.1.1.0 })
    from reach y b c (answering {locals} {stmts} {answer} o w (body ls ss) r m) = (
      (_, ((locals, stmts), (answer, tt))),
      record {
        between = _;
        first = record { mark = (has_mark o).1; within = w };
        second = record {
          between = _;
          first = record { between = _; locals = ls; stmts = ss };
          second = record { between = _; first = r; second = m };
        };
      },
      refl,
    )

pub taken_answering : {text : List ℕ} {depth : ℕ} {p q : Place} {inner : List LocalTree × List StmtTree}
    {answer : Option ExprTree} {a b c d f : List Token} →
    Takes (IsOpening (token.Sign sign.OpenBrace) depth) Nothing p a b →
    Takes (AreBody text (depth + 1)) GoesBody inner b c →
    Takes (AnAnswer text (depth + 1)) (GoesAt (token.Word word.Return)) answer c d →
    Takes (λ _. IsMark (token.Sign sign.CloseBrace)) Nothing q d f →
    Takes (AnAnswering text depth) Nothing (record { locals = inner.0; stmts = inner.1; answer = answer }) a f
taken_answering opens read returns closes =
    takes_so (answering_is _) (takes_then opens (takes_both read answer_body
    (takes_both returns close_answer (without_place closes))))

pub no_answering_opening : (text : List ℕ) (depth : ℕ) (a : List Token) (e : Stop) →
    IsRefused (AnyOf (IsOpening (token.Sign sign.OpenBrace) depth)) Nothing a e →
    IsRefused (AnyOf (AnAnswering text depth)) Nothing a e
no_answering_opening text depth a e h =
    refused_in (answering_is a) (λ deep here blocked. at_first blocked (both_word (body_word text (depth + 1))
    (both_word (answer_word text (depth + 1)) (mark_word (token.Sign sign.CloseBrace))))) e h

pub no_answering_body : (text : List ℕ) (depth : ℕ) {p : Place} {a b : List Token} →
    Takes (IsOpening (token.Sign sign.OpenBrace) depth) Nothing p a b → (e : Stop) →
    IsRefused (AnyOf (AreBody text (depth + 1))) GoesBody b e → IsRefused (AnyOf (AnAnswering text depth)) Nothing a e
no_answering_body text depth opens e h =
    refused_in (answering_is _) (λ deep here blocked. at_second opens (blocked_first blocked
    (both_word (answer_word text (depth + 1)) (mark_word (token.Sign sign.CloseBrace))) answer_body)) e h

pub no_answering_answer : (text : List ℕ) (depth : ℕ) {p : Place} {inner : List LocalTree × List StmtTree}
    {a b c : List Token} → Takes (IsOpening (token.Sign sign.OpenBrace) depth) Nothing p a b →
    Takes (AreBody text (depth + 1)) GoesBody inner b c → (e : Stop) →
    IsRefused (AnyOf (AnAnswer text (depth + 1))) (GoesAt (token.Word word.Return)) c e →
    IsRefused (AnyOf (AnAnswering text depth)) Nothing a e
no_answering_answer text depth opens read e h =
    refused_in (answering_is _) (λ deep here blocked. at_second opens (blocked_second read answer_body
    (blocked_first blocked (mark_word (token.Sign sign.CloseBrace)) close_answer))) e h

pub no_answering_closing : (text : List ℕ) (depth : ℕ) {p : Place} {inner : List LocalTree × List StmtTree}
    {answer : Option ExprTree} {a b c d : List Token} →
    Takes (IsOpening (token.Sign sign.OpenBrace) depth) Nothing p a b →
    Takes (AreBody text (depth + 1)) GoesBody inner b c →
    Takes (AnAnswer text (depth + 1)) (GoesAt (token.Word word.Return)) answer c d → (e : Stop) →
    IsRefused (AnyOf (TheMark (token.Sign sign.CloseBrace))) Nothing d e →
    IsRefused (AnyOf (AnAnswering text depth)) Nothing a e
no_answering_closing text depth opens read returns e h =
    refused_in (answering_is _) (λ deep here blocked. at_second opens (blocked_second read answer_body
    (blocked_second returns close_answer blocked))) e h
