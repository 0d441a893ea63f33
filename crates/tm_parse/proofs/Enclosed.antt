-- Expressions between two signs, and conditional expressions.
use Rattle.std.proofs.Common.{◌≡◌, ℕ, ◌+◌, Some, List, refl, subst}
use Rattle.tm_base.specs.declared.place.Place.{Place}
use Rattle.tm_syntax.specs.declared.token.Token.{Token}
use Rattle.tm_syntax.specs.declared.token.TokenKind.TheVariants as token
use Rattle.tm_syntax.specs.declared.token.Sign.{Sign}
use Rattle.tm_syntax.specs.Tree.{ExprTree, number}
use Rattle.tm_syntax.specs.Grammar.Parts.{IsMark}
use Rattle.tm_syntax.specs.Grammar.Expressions.{expr_number}
use Rattle.tm_parse.specs.declared.stop.Stop.{Stop}
use Rattle.tm_parse.specs.Reading.{Reach, first_kind, IsRefused, Takes, AnyOf, Nothing, TheMark, IsOpening}
use Rattle.tm_parse.specs.Operands.{AnExpr, GoesExpr, IsEnclosed, encloses}
use Rattle.tm_parse.proofs.Names.{number_word}
use Rattle.tm_parse.proofs.Taking.{Both, Same, AnyWord, takes_both, takes_then, takes_so, at_first, at_second, blocked_first, blocked_second, both_word, refused_in}
use Rattle.tm_parse.proofs.Terminals.{has_kind, mark_word, without_place}

-- an expression is spelled by a number
pub expr_word : {X : Type 0} (text : List ℕ) (bound depth : ℕ) → AnyWord {X = X} (λ x. AnExpr text bound depth)
expr_word text bound depth =
    let w = number_word text in
    record {
      word = w.word;
      spells = λ x size behind fits.
          let n = w.spells x size behind fits in (number n.0, expr_number n.1);
    }

-- the sign that opens, an expression, the sign that closes
abbrev EnclosedParts : List ℕ → Sign → Sign → ℕ → Reach → Place × (ExprTree × Unit {0}) → List Token → List Token →
    Type 0
EnclosedParts text opening closing depth = Both (IsOpening (token.Sign opening) depth)
    (λ _. Both (AnExpr text 0 (depth + 1)) (λ _. TheMark (token.Sign closing)))

enclosed_is : {text : List ℕ} {opening closing : Sign} {depth : ℕ} (a : List Token) →
    Same (EnclosedParts text opening closing depth) (IsEnclosed text opening closing depth) Nothing (λ t. t.1.0) a
enclosed_is {text} {opening} {closing} {depth} a = record {
  to = λ reach t b c h. encloses h.first h.second.first h.second.second;
  from = λ reach e b c same stop h. from reach e b c h;
}
  where
    from : (reach : Reach) (e : ExprTree) (b c : List Token) → IsEnclosed text opening closing depth reach e b c →
        (t : Place × (ExprTree × Unit {0})) × EnclosedParts text opening closing depth reach t b c × (e ≡ t.1.0)
    from reach e b c (encloses o is m) = (
      (_, (e, tt)),
      record { between = _; first = o; second = record { between = _; first = is; second = m } },
      refl,
    )

-- a mark stands behind an expression
pub mark_parts : {X : Type 0} {bound : ℕ} (s : Sign) → ¬ GoesExpr bound (Some (token.Sign s)) → (reach : Reach) (x : X)
    (y : Unit {0}) (a b : List Token) → TheMark (token.Sign s) reach y a b → ¬ Nothing (first_kind b) →
    ¬ GoesExpr bound (first_kind a)
mark_parts {bound} s none reach x y a b m stop goes = none (subst (GoesExpr bound) (has_kind m) goes)

pub taken_enclosed : {text : List ℕ} {opening closing : Sign} {depth : ℕ} {p q : Place} {e : ExprTree}
    {a b c d : List Token} → ¬ GoesExpr 0 (Some (token.Sign closing)) →
    Takes (IsOpening (token.Sign opening) depth) Nothing p a b → Takes (AnExpr text 0 (depth + 1)) (GoesExpr 0) e b c →
    Takes (λ _. IsMark (token.Sign closing)) Nothing q c d → Takes (IsEnclosed text opening closing depth) Nothing e a d
taken_enclosed {closing} closes o r m =
    takes_so (enclosed_is _) (takes_then o (takes_both r (mark_parts closing closes) (without_place m)))

pub no_enclosed_opening : (text : List ℕ) (opening closing : Sign) (depth : ℕ) (a : List Token) (e : Stop) →
    IsRefused (AnyOf (IsOpening (token.Sign opening) depth)) Nothing a e →
    IsRefused (AnyOf (IsEnclosed text opening closing depth)) Nothing a e
no_enclosed_opening text opening closing depth a e h =
    refused_in (enclosed_is a) (λ deep here blocked. at_first blocked
    (both_word (expr_word text 0 (depth + 1)) (mark_word (token.Sign closing)))) e h

pub no_enclosed_expr : (text : List ℕ) {opening : Sign} (closing : Sign) {depth : ℕ} {p : Place} {a b : List Token} →
    ¬ GoesExpr 0 (Some (token.Sign closing)) → Takes (IsOpening (token.Sign opening) depth) Nothing p a b → (e : Stop) →
    IsRefused (AnyOf (AnExpr text 0 (depth + 1))) (GoesExpr 0) b e →
    IsRefused (AnyOf (IsEnclosed text opening closing depth)) Nothing a e
no_enclosed_expr text closing closes o e h =
    refused_in (enclosed_is _) (λ deep here blocked. at_second o
    (blocked_first blocked (mark_word (token.Sign closing)) (mark_parts closing closes))) e h

pub no_enclosed_closing : {text : List ℕ} {opening closing : Sign} {depth : ℕ} {p : Place} {x : ExprTree}
    {a b c : List Token} → ¬ GoesExpr 0 (Some (token.Sign closing)) →
    Takes (IsOpening (token.Sign opening) depth) Nothing p a b → Takes (AnExpr text 0 (depth + 1)) (GoesExpr 0) x b c →
    (e : Stop) → IsRefused (AnyOf (TheMark (token.Sign closing))) Nothing c e →
    IsRefused (AnyOf (IsEnclosed text opening closing depth)) Nothing a e
no_enclosed_closing {closing} closes o r e h =
    refused_in (enclosed_is _) (λ deep here blocked. at_second o
    (blocked_second r (mark_parts closing closes) blocked)) e h
