-- Ports, enums and items.
use Rattle.std.proofs.Common.{◌≡◌, ℕ, inl, inr, Some, List, [], ◌∷◌, refl, sym, ◌∙◌}
use Rattle.tm_base.specs.declared.place.Place.{Place}
use Rattle.tm_syntax.specs.declared.token.Token.{Token}
use Rattle.tm_syntax.specs.declared.token.TokenKind.{TokenKind}
use Rattle.tm_syntax.specs.declared.token.TokenKind.TheVariants as token
use Rattle.tm_syntax.specs.declared.token.Word.TheVariants as word
use Rattle.tm_syntax.specs.declared.token.Sign.TheVariants as sign
use Rattle.tm_syntax.specs.declared.tree.Ident.{Ident}
use Rattle.tm_syntax.specs.declared.tree.Port.{Port}
use Rattle.tm_syntax.specs.Tree.{EnumTree, TemplateTree}
use Rattle.tm_syntax.specs.Grammar.Parts.{Has, IsMark, IsName, AreParted, parted_one}
use Rattle.tm_syntax.specs.Grammar.Specification.{IsPort, port, template, enum, ItemTree, an_enum, a_template, item_enum, item_template}
use Rattle.tm_parse.specs.declared.stop.Stop.{Stop}
use Rattle.tm_parse.specs.Reading.{Reach, first_of, first_kind, IsRefused, Takes, AnyOf, Nothing, TheMark, IsOpening, GoesOn}
use Rattle.tm_parse.specs.Items.{ATemplate, AnEnum, AnItem}
use Rattle.tm_parse.proofs.Arguments.{opening_word, word_so, other_kind, Listed}
use Rattle.tm_parse.proofs.Names.{name_has, name_word}
use Rattle.tm_parse.proofs.Taking.{Both, Same, AnyWord, same_kind, takes_both, takes_then, takes_so, at_first, at_second, blocked_first, blocked_second, both_word, refused_in}
use Rattle.tm_parse.proofs.Terminals.{clash, mark_has, has_kind, has_mark, mark_word, without_place}

-- NAME NAME
abbrev PortParts : List ℕ → Reach → Ident × Ident → List Token → List Token → Type 0
PortParts text = Both (λ _. IsName text) (λ _ _. IsName text)

port_is : {text : List ℕ} (a : List Token) →
    Same (PortParts text) (λ _. IsPort text) Nothing (λ t. record { template = t.0; name = t.1 }) a
port_is {text} a = record {
  to = λ reach t b c h. port h.first h.second;
  from = λ reach x b c same stop h. from reach x b c h;
}
  where
    from : (reach : Reach) (x : Port) (b c : List Token) → IsPort text x b c →
        (t : Ident × Ident) × PortParts text reach t b c × (x ≡ record { template = t.0; name = t.1 })
    from reach x b c (port k n) = ((_, _), record { between = _; first = k; second = n }, refl)

pub taken_port : {text : List ℕ} {kind name : Ident} {a b c : List Token} → Takes (λ _. IsName text) Nothing kind a b →
    Takes (λ _. IsName text) Nothing name b c →
    Takes (λ _. IsPort text) Nothing (record { template = kind; name = name }) a c
taken_port k n = takes_so (port_is _) (takes_then k n)

pub no_port_template : (text : List ℕ) (a : List Token) (e : Stop) → IsRefused (AnyOf (λ _. IsName text)) Nothing a e →
    IsRefused (AnyOf (λ _. IsPort text)) Nothing a e
no_port_template text a e h =
    refused_in (port_is a) (λ deep here blocked. at_first blocked (name_word text)) e h

pub no_port_name : (text : List ℕ) {kind : Ident} {a b : List Token} → Takes (λ _. IsName text) Nothing kind a b →
    (e : Stop) → IsRefused (AnyOf (λ _. IsName text)) Nothing b e → IsRefused (AnyOf (λ _. IsPort text)) Nothing a e
no_port_name text k e h = refused_in (port_is _) (λ deep here blocked. at_second k blocked) e h

port_opens : {text : List ℕ} {x : Port} {a b : List Token} → IsPort text x a b →
    ¬ (first_kind a ≡ Some (token.Sign sign.CloseParenthesis))
port_opens (port k n) first = let kinds = other_kind (has_kind (name_has k)) first in cc

-- ports may stand in a list in parentheses
pub ports_listed : (text : List ℕ) → Listed (λ _. IsPort text) Nothing
ports_listed text = record {
  comma = λ none. none;
  close = λ none. none;
  begins = λ reach x a b is. port_opens is;
  word = word_so {Or = λ w _. IsPort text} (λ w t. record { template = t.0; name = t.1 })
      (λ w reach t a b h. port h.first h.second) (both_word (name_word text) (name_word text));
}

-- "typedef" "enum" "{" NAME { "," NAME } "}" NAME ";"
abbrev EnumEnd : List ℕ → Reach → Unit {0} × (Ident × Unit {0}) → List Token → List Token → Type 0
EnumEnd text = Both (TheMark (token.Sign sign.CloseBrace))
    (λ _. Both (λ _. IsName text) (λ _. TheMark (token.Sign sign.Semicolon)))

abbrev EnumBody : List ℕ → Reach → List Ident × (Unit {0} × (Ident × Unit {0})) → List Token → List Token → Type 0
EnumBody text = Both (λ _. AreParted sign.Comma (IsName text)) (λ _. EnumEnd text)

abbrev EnumParts : List ℕ → Reach →
    Unit {0} × (Unit {0} × (Place × (List Ident × (Unit {0} × (Ident × Unit {0}))))) → List Token → List Token → Type 0
EnumParts text = Both (TheMark (token.Word word.Typedef)) (λ _. Both (TheMark (token.Word word.Enum))
    (λ _. Both (IsOpening (token.Sign sign.OpenBrace) 0) (λ _. EnumBody text)))

enum_to : {text : List ℕ} {reach : Reach} {names : List Ident} {name : Ident} {p : Place}
    {a b c d e f g h : List Token} → Has (token.Word word.Typedef) a b → Has (token.Word word.Enum) b c →
    IsOpening (token.Sign sign.OpenBrace) 0 reach p c d → AreParted sign.Comma (IsName text) names d e →
    Has (token.Sign sign.CloseBrace) e f → IsName text name f g → Has (token.Sign sign.Semicolon) g h →
    AnEnum text reach (record { name = name; constants = names }) a h
enum_to m n o are c k s = enum m n (mark_has o.mark) o.within are c k s

enum_is : {text : List ℕ} (a : List Token) →
    Same (EnumParts text) (AnEnum text) Nothing
    (λ t. record { name = t.1.1.1.1.1.0; constants = t.1.1.1.0 }) a
enum_is {text} a = record {
  to = λ reach t b c h.
      let body = h.second.second.second in
      enum_to h.first h.second.first h.second.second.first body.first body.second.first body.second.second.first
      body.second.second.second;
  from = λ reach d b c same stop h. from reach d b c h;
}
  where
    from : (reach : Reach) (d : EnumTree) (b c : List Token) → AnEnum text reach d b c →
        (t : Unit {0} × (Unit {0} × (Place × (List Ident × (Unit {0} × (Ident × Unit {0}))))))
        × EnumParts text reach t b c × (d ≡ record { name = t.1.1.1.1.1.0; constants = t.1.1.1.0 })
    from reach d b c (enum m n o w are e k s) =
        let at = has_mark o in (
          (tt, (tt, (at.0, (_, (tt, (_, tt)))))),
          record {
            between = _;
            first = m;
            second = record {
              between = _;
              first = n;
              second = record {
                between = _;
                first = record { mark = at.1; within = w };
                second = record {
                  between = _;
                  first = are;
                  second = record { between = _; first = e; second = record { between = _; first = k; second = s } };
                };
              };
            };
          },
          refl,
        )

names_parts : {text : List ℕ} (reach : Reach) (x : List Ident) (y : Unit {0} × (Ident × Unit {0})) (a b : List Token) →
    EnumEnd text reach y a b → ¬ Nothing (first_kind b) → ¬ GoesOn sign.Comma Nothing (first_kind a)
names_parts reach x y a b h stop (inl comma) = let kinds = other_kind (has_kind h.first) comma in cc
names_parts reach x y a b h stop (inr none) = none

end_word : {X : Type 0} (text : List ℕ) → AnyWord {X = X} (λ x. EnumEnd text)
end_word text = both_word (mark_word (token.Sign sign.CloseBrace))
    (both_word (name_word text) (mark_word (token.Sign sign.Semicolon)))

body_word : {X : Type 0} (text : List ℕ) → AnyWord {X = X} (λ x. EnumBody text)
body_word text = both_word
    (word_so {Or = λ w _. AreParted sign.Comma (IsName text)} (λ w n. n ∷ []) (λ w reach n a b is. parted_one is)
    (name_word text))
    (end_word text)

-- what was read of an enum: the brace that opens is behind these tokens
pub record EnumSoFar (text : List ℕ) (a c : List Token) : Type 0 where
  pub at : Place
  pub between : List Token
  pub there : List Token
  pub first_word : Takes (TheMark (token.Word word.Typedef)) Nothing tt a between
  pub second_word : Takes (TheMark (token.Word word.Enum)) Nothing tt between there
  pub brace : Takes (IsOpening (token.Sign sign.OpenBrace) 0) Nothing at there c

pub enum_so_far : {text : List ℕ} {p q r : Place} {a b c d : List Token} →
    Takes (λ _. IsMark (token.Word word.Typedef)) Nothing p a b →
    Takes (λ _. IsMark (token.Word word.Enum)) Nothing q b c →
    Takes (IsOpening (token.Sign sign.OpenBrace) 0) Nothing r c d → EnumSoFar text a d
enum_so_far m n o = record {
  at = _;
  between = _;
  there = _;
  first_word = without_place m;
  second_word = without_place n;
  brace = o;
}

pub taken_enum : {text : List ℕ} {names : List Ident} {name : Ident} {p q : Place} {a b c d e f : List Token} →
    EnumSoFar text a b → Takes (λ _. AreParted sign.Comma (IsName text)) (GoesOn sign.Comma Nothing) names b c →
    Takes (λ _. IsMark (token.Sign sign.CloseBrace)) Nothing p c d → Takes (λ _. IsName text) Nothing name d e →
    Takes (λ _. IsMark (token.Sign sign.Semicolon)) Nothing q e f →
    Takes (AnEnum text) Nothing (record { name = name; constants = names }) a f
taken_enum h r m k s =
    takes_so (enum_is _) (takes_then h.first_word (takes_then h.second_word (takes_then h.brace
    (takes_both r names_parts (takes_then (without_place m) (takes_then k (without_place s)))))))

pub no_enum_word : (text : List ℕ) (a : List Token) (e : Stop) →
    IsRefused (AnyOf (TheMark (token.Word word.Typedef))) Nothing a e → IsRefused (AnyOf (AnEnum text)) Nothing a e
no_enum_word text a e h =
    refused_in (enum_is a) (λ deep here blocked. at_first blocked
    (both_word (mark_word (token.Word word.Enum))
    (both_word (opening_word (token.Sign sign.OpenBrace) 0) (body_word text)))) e h

pub no_enum_second : (text : List ℕ) {p : Place} {a b : List Token} →
    Takes (λ _. IsMark (token.Word word.Typedef)) Nothing p a b → (e : Stop) →
    IsRefused (AnyOf (TheMark (token.Word word.Enum))) Nothing b e → IsRefused (AnyOf (AnEnum text)) Nothing a e
no_enum_second text m e h =
    refused_in (enum_is _) (λ deep here blocked. at_second (without_place m) (at_first blocked
    (both_word (opening_word (token.Sign sign.OpenBrace) 0) (body_word text)))) e h

pub no_enum_brace : (text : List ℕ) {p q : Place} {a b c : List Token} →
    Takes (λ _. IsMark (token.Word word.Typedef)) Nothing p a b →
    Takes (λ _. IsMark (token.Word word.Enum)) Nothing q b c → (e : Stop) →
    IsRefused (AnyOf (IsOpening (token.Sign sign.OpenBrace) 0)) Nothing c e →
    IsRefused (AnyOf (AnEnum text)) Nothing a e
no_enum_brace text m n e h =
    refused_in (enum_is _) (λ deep here blocked. at_second (without_place m)
    (at_second (without_place n) (at_first blocked (body_word text)))) e h

pub no_enum_names : {text : List ℕ} {a b : List Token} → EnumSoFar text a b → (e : Stop) →
    IsRefused (AnyOf (λ _. AreParted sign.Comma (IsName text))) (GoesOn sign.Comma Nothing) b e →
    IsRefused (AnyOf (AnEnum text)) Nothing a e
no_enum_names {text} s e h =
    refused_in (enum_is _) (λ deep here blocked. at_second s.first_word (at_second s.second_word
    (at_second s.brace
    (blocked_first blocked (end_word text) names_parts)))) e h

pub no_enum_closing : {text : List ℕ} {names : List Ident} {a b c : List Token} → EnumSoFar text a b →
    Takes (λ _. AreParted sign.Comma (IsName text)) (GoesOn sign.Comma Nothing) names b c → (e : Stop) →
    IsRefused (AnyOf (TheMark (token.Sign sign.CloseBrace))) Nothing c e → IsRefused (AnyOf (AnEnum text)) Nothing a e
no_enum_closing {text} s r e h =
    refused_in (enum_is _) (λ deep here blocked. at_second s.first_word (at_second s.second_word
    (at_second s.brace
    (blocked_second r names_parts (at_first blocked
    (both_word (name_word text) (mark_word (token.Sign sign.Semicolon)))))))) e h

pub no_enum_name : {text : List ℕ} {names : List Ident} {p : Place} {a b c d : List Token} → EnumSoFar text a b →
    Takes (λ _. AreParted sign.Comma (IsName text)) (GoesOn sign.Comma Nothing) names b c →
    Takes (λ _. IsMark (token.Sign sign.CloseBrace)) Nothing p c d → (e : Stop) →
    IsRefused (AnyOf (λ _. IsName text)) Nothing d e → IsRefused (AnyOf (AnEnum text)) Nothing a e
no_enum_name s r m e h =
    refused_in (enum_is _) (λ deep here blocked. at_second s.first_word (at_second s.second_word
    (at_second s.brace
    (blocked_second r names_parts (at_second (without_place m)
    (at_first blocked (mark_word (token.Sign sign.Semicolon))))))))
    e h

pub no_enum_end : {text : List ℕ} {names : List Ident} {name : Ident} {p : Place} {a b c d f : List Token} →
    EnumSoFar text a b → Takes (λ _. AreParted sign.Comma (IsName text)) (GoesOn sign.Comma Nothing) names b c →
    Takes (λ _. IsMark (token.Sign sign.CloseBrace)) Nothing p c d → Takes (λ _. IsName text) Nothing name d f →
    (e : Stop) → IsRefused (AnyOf (TheMark (token.Sign sign.Semicolon))) Nothing f e →
    IsRefused (AnyOf (AnEnum text)) Nothing a e
no_enum_end s r m k e h =
    refused_in (enum_is _) (λ deep here blocked. at_second s.first_word (at_second s.second_word
    (at_second s.brace
    (blocked_second r names_parts (at_second (without_place m) (at_second k blocked)))))) e h

-- items by their first tokens
enum_item_is : {text : List ℕ} (a : List Token) → first_kind a ≡ Some (token.Word word.Typedef) →
    Same (AnEnum text) (AnItem text) Nothing an_enum a
enum_item_is {text} a first = record {
  to = λ reach d b c is. item_enum is;
  from = λ reach d b c same stop h. from reach d b c same h;
}
  where
    from : (reach : Reach) (d : ItemTree) (b c : List Token) → first_of b ≡ first_of a → AnItem text reach d b c →
        (x : EnumTree) × AnEnum text reach x b c × (d ≡ an_enum x)
    from reach d b c same (item_enum is) = (_, is, refl)
    from reach d b c same (item_template (template m n r are o)) =
        absurd (let k = clash a b same first (has_kind m) in cc)

template_item_is : {text : List ℕ} (a : List Token) → ¬ (first_kind a ≡ Some (token.Word word.Typedef)) →
    Same (ATemplate text) (AnItem text) Nothing a_template a
template_item_is {text} a none = record {
  to = λ reach d b c is. item_template is;
  from = λ reach d b c same stop h. from reach d b c same h;
}
  where
    from : (reach : Reach) (d : ItemTree) (b c : List Token) → first_of b ≡ first_of a → AnItem text reach d b c →
        (x : TemplateTree) × ATemplate text reach x b c × (d ≡ a_template x)
    from reach d b c same (item_template is) = (_, is, refl)
    from reach d b c same (item_enum (enum m n o w are e k s)) =
        absurd (none (sym (same_kind b a same) ∙ has_kind m))

pub taken_enum_item : {text : List ℕ} {d : EnumTree} (a : List Token) {b : List Token} →
    first_kind a ≡ Some (token.Word word.Typedef) → Takes (AnEnum text) Nothing d a b →
    Takes (AnItem text) Nothing (an_enum d) a b
taken_enum_item a first r = takes_so (enum_item_is a first) r

pub no_enum_item : (text : List ℕ) (a : List Token) → first_kind a ≡ Some (token.Word word.Typedef) → (e : Stop) →
    IsRefused (AnyOf (AnEnum text)) Nothing a e → IsRefused (AnyOf (AnItem text)) Nothing a e
no_enum_item text a first e h = refused_in (enum_item_is a first) (λ deep here blocked. blocked) e h

pub taken_template_item : {text : List ℕ} {d : TemplateTree} (a : List Token) {b : List Token} →
    ¬ (first_kind a ≡ Some (token.Word word.Typedef)) → Takes (ATemplate text) Nothing d a b →
    Takes (AnItem text) Nothing (a_template d) a b
taken_template_item a none r = takes_so (template_item_is a none) r

pub no_template_item : (text : List ℕ) (a : List Token) → ¬ (first_kind a ≡ Some (token.Word word.Typedef)) →
    (e : Stop) → IsRefused (AnyOf (ATemplate text)) Nothing a e → IsRefused (AnyOf (AnItem text)) Nothing a e
no_template_item text a none e h = refused_in (template_item_is a none) (λ deep here blocked. blocked) e h

-- an item begins with a token
pub item_opens : (reach : Reach) {text : List ℕ} {d : ItemTree} {a b : List Token} → AnItem text reach d a b →
    (k : TokenKind) × (first_kind a ≡ Some k)
item_opens reach (item_enum (enum m n o w are e k s)) = (_, has_kind m)
item_opens reach (item_template (template m n r are o)) = (_, has_kind m)
