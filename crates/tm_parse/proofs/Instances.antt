-- Named conditions, and instances.
use Rattle.std.proofs.Common.{◌≡◌, ℕ, Some, List, [], refl}
use Rattle.tm_base.specs.declared.place.Place.{Place}
use Rattle.tm_syntax.specs.declared.token.Token.{Token}
use Rattle.tm_syntax.specs.declared.token.TokenKind.TheVariants as token
use Rattle.tm_syntax.specs.declared.token.Word.TheVariants as word
use Rattle.tm_syntax.specs.declared.token.Sign.TheVariants as sign
use Rattle.tm_syntax.specs.declared.tree.Ident.{Ident}
use Rattle.tm_syntax.specs.Tree.{ExprTree, NamedTree, InstanceTree}
use Rattle.tm_syntax.specs.Grammar.Parts.{IsMark, IsName, enclosed_none}
use Rattle.tm_syntax.specs.Grammar.Declarations.{named, instance}
use Rattle.tm_parse.specs.declared.stop.Stop.{Stop}
use Rattle.tm_parse.specs.Reading.{Reach, first_kind, IsRefused, Takes, AnyOf, Nothing, TheMark}
use Rattle.tm_parse.specs.Operands.{AnExpr, GoesExpr}
use Rattle.tm_parse.specs.Commands.{GoesAt}
use Rattle.tm_parse.specs.Items.{ANamed, InParentheses, AnInstance}
use Rattle.tm_parse.proofs.Arguments.{word_so, other_kind, Listed}
use Rattle.tm_parse.proofs.Enclosed.{expr_word, mark_parts}
use Rattle.tm_parse.proofs.Goes.{no_goes}
use Rattle.tm_parse.proofs.Names.{name_has, name_word}
use Rattle.tm_parse.proofs.Taking.{Both, Same, AnyWord, takes_both, takes_then, takes_so, at_first, at_second, blocked_first, blocked_second, both_word, refused_in}
use Rattle.tm_parse.proofs.Terminals.{has_kind, mark_word, without_place}

no_goes_semicolon : ¬ GoesExpr 0 (Some (token.Sign sign.Semicolon))
no_goes_semicolon = no_goes 0 sign.Semicolon refl (λ e. cc) (λ e. cc) (λ loose e. cc)

-- NAME "=" expr ";"
abbrev NamedParts : List ℕ → ℕ → Reach → Ident × (Unit {0} × (ExprTree × Unit {0})) → List Token → List Token → Type 0
NamedParts text depth = Both (λ _. IsName text) (λ _. Both (TheMark (token.Sign sign.Assign))
    (λ _. Both (AnExpr text 0 depth) (λ _. TheMark (token.Sign sign.Semicolon))))

named_is : {text : List ℕ} {depth : ℕ} (a : List Token) →
    Same (NamedParts text depth) (ANamed text depth) Nothing (λ t. record { name = t.0; expr = t.1.1.0 }) a
named_is {text} {depth} a = record {
  to = λ reach t b c h. named h.first h.second.first h.second.second.first h.second.second.second;
  from = λ reach d b c same stop h. from reach d b c h;
}
  where
    from : (reach : Reach) (d : NamedTree) (b c : List Token) → ANamed text depth reach d b c →
        (t : Ident × (Unit {0} × (ExprTree × Unit {0}))) × NamedParts text depth reach t b c
        × (d ≡ record { name = t.0; expr = t.1.1.0 })
    from reach d b c (named n m is o) = (
      (_, (tt, (_, tt))),
      record {
        between = _;
        first = n;
        second = record { between = _; first = m; second = record { between = _; first = is; second = o } };
      },
      refl,
    )

condition_word : {X : Type 0} (text : List ℕ) (depth : ℕ) →
    AnyWord {X = X} (λ x. Both (AnExpr text 0 depth) (λ _. TheMark (token.Sign sign.Semicolon)))
condition_word text depth = both_word (expr_word text 0 depth) (mark_word (token.Sign sign.Semicolon))

pub taken_named : {text : List ℕ} {depth : ℕ} {name : Ident} {e : ExprTree} {p q : Place} {a b c d f : List Token} →
    Takes (λ _. IsName text) Nothing name a b → Takes (λ _. IsMark (token.Sign sign.Assign)) Nothing p b c →
    Takes (AnExpr text 0 depth) (GoesExpr 0) e c d → Takes (λ _. IsMark (token.Sign sign.Semicolon)) Nothing q d f →
    Takes (ANamed text depth) Nothing (record { name = name; expr = e }) a f
taken_named n m r o =
    takes_so (named_is _) (takes_then n (takes_then (without_place m)
    (takes_both r (mark_parts sign.Semicolon no_goes_semicolon) (without_place o))))

pub no_named_name : (text : List ℕ) (depth : ℕ) (a : List Token) (e : Stop) →
    IsRefused (AnyOf (λ _. IsName text)) Nothing a e → IsRefused (AnyOf (ANamed text depth)) Nothing a e
no_named_name text depth a e h =
    refused_in (named_is a) (λ deep here blocked. at_first blocked
    (both_word (mark_word (token.Sign sign.Assign)) (condition_word text depth))) e h

pub no_named_sign : (text : List ℕ) (depth : ℕ) {name : Ident} {a b : List Token} →
    Takes (λ _. IsName text) Nothing name a b → (e : Stop) →
    IsRefused (AnyOf (TheMark (token.Sign sign.Assign))) Nothing b e → IsRefused (AnyOf (ANamed text depth)) Nothing a e
no_named_sign text depth n e h =
    refused_in (named_is _) (λ deep here blocked. at_second n
    (at_first blocked (condition_word text depth))) e h

pub no_named_expr : {text : List ℕ} (depth : ℕ) {name : Ident} {p : Place} {a b c : List Token} →
    Takes (λ _. IsName text) Nothing name a b → Takes (λ _. IsMark (token.Sign sign.Assign)) Nothing p b c →
    (e : Stop) → IsRefused (AnyOf (AnExpr text 0 depth)) (GoesExpr 0) c e →
    IsRefused (AnyOf (ANamed text depth)) Nothing a e
no_named_expr depth n m e h =
    refused_in (named_is _) (λ deep here blocked. at_second n (at_second (without_place m)
    (blocked_first blocked (mark_word (token.Sign sign.Semicolon)) (mark_parts sign.Semicolon no_goes_semicolon))))
    e h

pub no_named_end : {text : List ℕ} {depth : ℕ} {name : Ident} {x : ExprTree} {p : Place} {a b c d : List Token} →
    Takes (λ _. IsName text) Nothing name a b → Takes (λ _. IsMark (token.Sign sign.Assign)) Nothing p b c →
    Takes (AnExpr text 0 depth) (GoesExpr 0) x c d → (e : Stop) →
    IsRefused (AnyOf (TheMark (token.Sign sign.Semicolon))) Nothing d e →
    IsRefused (AnyOf (ANamed text depth)) Nothing a e
no_named_end n m r e h =
    refused_in (named_is _) (λ deep here blocked. at_second n (at_second (without_place m)
    (blocked_second r (mark_parts sign.Semicolon no_goes_semicolon) blocked))) e h

-- names may stand in a list in parentheses
pub names_listed : (text : List ℕ) → Listed (λ _. IsName text) Nothing
names_listed text = record {
  comma = λ none. none;
  close = λ none. none;
  begins = λ reach x a b is kind. let e = other_kind (has_kind (name_has is)) kind in cc;
  word = name_word text;
}

-- "instance" NAME NAME [ "(" NAME { "," NAME } ")" ] ";"
abbrev PortsParts : List ℕ → ℕ → Reach → List Ident × Unit {0} → List Token → List Token → Type 0
PortsParts text depth =
    Both (InParentheses depth (λ _. IsName text)) (λ _. TheMark (token.Sign sign.Semicolon))

abbrev InstanceParts : List ℕ → ℕ → Reach → Unit {0} × (Ident × (Ident × (List Ident × Unit {0}))) → List Token →
    List Token → Type 0
InstanceParts text depth = Both (TheMark (token.Word word.Instance))
    (λ _. Both (λ _. IsName text) (λ _. Both (λ _. IsName text) (λ _. PortsParts text depth)))

instance_is : {text : List ℕ} {depth : ℕ} (a : List Token) →
    Same (InstanceParts text depth) (AnInstance text depth) Nothing
    (λ t. record { template = t.1.0; name = t.1.1.0; args = t.1.1.1.0 }) a
instance_is {text} {depth} a = record {
  to = λ reach t b c h.
      instance h.first h.second.first h.second.second.first h.second.second.second.first
      h.second.second.second.second;
  from = λ reach d b c same stop h. from reach d b c h;
}
  where
    from : (reach : Reach) (d : InstanceTree) (b c : List Token) → AnInstance text depth reach d b c →
        (t : Unit {0} × (Ident × (Ident × (List Ident × Unit {0})))) × InstanceParts text depth reach t b c
        × (d ≡ record { template = t.1.0; name = t.1.1.0; args = t.1.1.1.0 })
    from reach d b c (instance m k n are o) = (
      (tt, (_, (_, (_, tt)))),
      record {
        between = _;
        first = m;
        second = record {
          between = _;
          first = k;
          second = record { between = _; first = n; second = record { between = _; first = are; second = o } };
        };
      },
      refl,
    )

ports_parts : (reach : Reach) (x : List Ident) (y : Unit {0}) (a b : List Token) →
    TheMark (token.Sign sign.Semicolon) reach y a b → ¬ Nothing (first_kind b) →
    ¬ GoesAt (token.Sign sign.OpenParenthesis) (first_kind a)
ports_parts reach x y a b m stop at = let kinds = other_kind (has_kind m) at in cc

ports_word : {X : Type 0} (text : List ℕ) (depth : ℕ) → AnyWord {X = X} (λ x. PortsParts text depth)
ports_word text depth = record {
  word = (mark_word {X = Unit {0}} (token.Sign sign.Semicolon)).word;
  spells = λ x size behind fits.
      let m = (mark_word {X = Unit {0}} (token.Sign sign.Semicolon)).spells tt size behind fits in
      (([], tt), record { between = _; first = enclosed_none; second = m.1 });
}

pub taken_instance : {text : List ℕ} {depth : ℕ} {template name : Ident} {args : List Ident} {p q : Place}
    {a b c d e f : List Token} → Takes (λ _. IsMark (token.Word word.Instance)) Nothing p a b →
    Takes (λ _. IsName text) Nothing template b c → Takes (λ _. IsName text) Nothing name c d →
    Takes (InParentheses depth (λ _. IsName text)) (GoesAt (token.Sign sign.OpenParenthesis)) args d e →
    Takes (λ _. IsMark (token.Sign sign.Semicolon)) Nothing q e f →
    Takes (AnInstance text depth) Nothing (record { template = template; name = name; args = args }) a f
taken_instance m k n r o =
    takes_so (instance_is _) (takes_then (without_place m) (takes_then k (takes_then n
    (takes_both r ports_parts (without_place o)))))

pub no_instance_word : (text : List ℕ) (depth : ℕ) (a : List Token) (e : Stop) →
    IsRefused (AnyOf (TheMark (token.Word word.Instance))) Nothing a e →
    IsRefused (AnyOf (AnInstance text depth)) Nothing a e
no_instance_word text depth a e h =
    refused_in (instance_is a) (λ deep here blocked. at_first blocked
    (both_word (name_word text) (both_word (name_word text) (ports_word text depth)))) e h

pub no_instance_template : (text : List ℕ) (depth : ℕ) {p : Place} {a b : List Token} →
    Takes (λ _. IsMark (token.Word word.Instance)) Nothing p a b → (e : Stop) →
    IsRefused (AnyOf (λ _. IsName text)) Nothing b e → IsRefused (AnyOf (AnInstance text depth)) Nothing a e
no_instance_template text depth m e h =
    refused_in (instance_is _) (λ deep here blocked. at_second (without_place m)
    (at_first blocked (both_word (name_word text) (ports_word text depth)))) e h

pub no_instance_name : (text : List ℕ) (depth : ℕ) {p : Place} {template : Ident} {a b c : List Token} →
    Takes (λ _. IsMark (token.Word word.Instance)) Nothing p a b → Takes (λ _. IsName text) Nothing template b c →
    (e : Stop) → IsRefused (AnyOf (λ _. IsName text)) Nothing c e →
    IsRefused (AnyOf (AnInstance text depth)) Nothing a e
no_instance_name text depth m k e h =
    refused_in (instance_is _) (λ deep here blocked. at_second (without_place m) (at_second k
    (at_first blocked (ports_word text depth)))) e h

pub no_instance_ports : {text : List ℕ} (depth : ℕ) {p : Place} {template name : Ident} {a b c d : List Token} →
    Takes (λ _. IsMark (token.Word word.Instance)) Nothing p a b → Takes (λ _. IsName text) Nothing template b c →
    Takes (λ _. IsName text) Nothing name c d → (e : Stop) →
    IsRefused (AnyOf (InParentheses depth (λ _. IsName text))) (GoesAt (token.Sign sign.OpenParenthesis)) d e →
    IsRefused (AnyOf (AnInstance text depth)) Nothing a e
no_instance_ports depth m k n e h =
    refused_in (instance_is _) (λ deep here blocked. at_second (without_place m) (at_second k (at_second n
    (blocked_first blocked (mark_word (token.Sign sign.Semicolon)) ports_parts)))) e h

pub no_instance_end : {text : List ℕ} {depth : ℕ} {p : Place} {template name : Ident} {args : List Ident}
    {a b c d f : List Token} → Takes (λ _. IsMark (token.Word word.Instance)) Nothing p a b →
    Takes (λ _. IsName text) Nothing template b c → Takes (λ _. IsName text) Nothing name c d →
    Takes (InParentheses depth (λ _. IsName text)) (GoesAt (token.Sign sign.OpenParenthesis)) args d f → (e : Stop) →
    IsRefused (AnyOf (TheMark (token.Sign sign.Semicolon))) Nothing f e →
    IsRefused (AnyOf (AnInstance text depth)) Nothing a e
no_instance_end m k n r e h =
    refused_in (instance_is _) (λ deep here blocked. at_second (without_place m) (at_second k (at_second n
    (blocked_second r ports_parts blocked)))) e h

pub named_word : {X : Type 0} (text : List ℕ) (depth : ℕ) → AnyWord {X = X} (λ x. ANamed text depth)
named_word text depth =
    word_so (λ w t. record { name = t.0; expr = t.1.1.0 }) (λ w reach t a b h. (named_is a).to reach t a b h)
    (both_word (name_word text) (both_word (mark_word (token.Sign sign.Assign)) (condition_word text depth)))
