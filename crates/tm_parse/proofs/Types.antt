-- Widths and types.
use Rattle.std.proofs.Common.{◌≡◌, ℕ, Some, List, ◌++◌, refl, sym, ◌∙◌}
use Rattle.tm_base.specs.declared.place.Place.{Place}
use Rattle.tm_syntax.specs.declared.token.Token.{Token}
use Rattle.tm_syntax.specs.declared.token.TokenKind.TheVariants as token
use Rattle.tm_syntax.specs.declared.token.Word.TheVariants as word
use Rattle.tm_syntax.specs.declared.token.Sign.TheVariants as sign
use Rattle.tm_syntax.specs.declared.tree.Ident.{Ident}
use Rattle.tm_syntax.specs.declared.tree.Num.{Num}
use Rattle.tm_syntax.specs.declared.tree.TypeName.{TypeName}
use Rattle.tm_syntax.specs.declared.tree.TypeName.TheVariants as written
use Rattle.tm_syntax.specs.Grammar.Parts.{IsMark, IsName, IsNumber}
use Rattle.tm_syntax.specs.Grammar.Statements.{IsType, type_bool, type_uint, type_name}
use Rattle.tm_parse.specs.Reading.{Reach, all_but, first_of, first_kind, IsRefused, Takes, AnyOf, Nothing, TheMark}
use Rattle.tm_parse.specs.Width.{IsWidth, width}
use Rattle.tm_parse.specs.declared.stop.Stop.{Stop}
use Rattle.tm_parse.proofs.Names.{name_has, number_word}
use Rattle.tm_parse.proofs.Taking.{Both, Same, AnyWord, same_kind, takes_then, takes_so, at_first, at_second, both_word, refused_in}
use Rattle.tm_parse.proofs.Terminals.{clash, mark_kind, has_kind, mark_word, without_place}

-- "<", NUMBER, ">"
abbrev WidthParts : List ℕ → Reach → Unit {0} × (Num × Unit {0}) → List Token → List Token → Type 0
WidthParts text = Both (TheMark (token.Sign sign.Less))
    (λ _. Both (λ _. IsNumber text) (λ _. TheMark (token.Sign sign.Greater)))

width_is : {text : List ℕ} (a : List Token) → Same (WidthParts text) (λ _. IsWidth text) Nothing (λ t. t.1.0) a
width_is {text} a = record {
  to = λ reach t b c h. width h.first h.second.first h.second.second;
  from = λ reach n b c same stop h. from reach n b c h;
}
  where
    from : (reach : Reach) (n : Num) (b c : List Token) → IsWidth text n b c →
        (t : Unit {0} × (Num × Unit {0})) × WidthParts text reach t b c × (n ≡ t.1.0)
    from reach n b c (width m is o) = (
      (tt, (n, tt)),
      record { between = _; first = m; second = record { between = _; first = is; second = o } },
      refl,
    )

pub taken_width : {text : List ℕ} {n : Num} {p q : Place} {a b c d : List Token} →
    Takes (λ _. IsMark (token.Sign sign.Less)) Nothing p a b → Takes (λ _. IsNumber text) Nothing n b c →
    Takes (λ _. IsMark (token.Sign sign.Greater)) Nothing q c d → Takes (λ _. IsWidth text) Nothing n a d
taken_width m r o =
    takes_so (width_is _) (takes_then (without_place m) (takes_then r (without_place o)))

pub no_width_less : (text : List ℕ) (a : List Token) (e : Stop) →
    IsRefused (AnyOf (TheMark (token.Sign sign.Less))) Nothing a e → IsRefused (AnyOf (λ _. IsWidth text)) Nothing a e
no_width_less text a e h =
    refused_in (width_is a) (λ deep here blocked. at_first blocked
    (both_word (number_word text) (mark_word (token.Sign sign.Greater)))) e h

pub no_width_number : (text : List ℕ) {p : Place} {a b : List Token} →
    Takes (λ _. IsMark (token.Sign sign.Less)) Nothing p a b → (e : Stop) →
    IsRefused (AnyOf (λ _. IsNumber text)) Nothing b e → IsRefused (AnyOf (λ _. IsWidth text)) Nothing a e
no_width_number text m e h =
    refused_in (width_is _) (λ deep here blocked. at_second (without_place m)
    (at_first blocked (mark_word (token.Sign sign.Greater)))) e h

pub no_width_greater : {text : List ℕ} {p : Place} {n : Num} {a b c : List Token} →
    Takes (λ _. IsMark (token.Sign sign.Less)) Nothing p a b → Takes (λ _. IsNumber text) Nothing n b c → (e : Stop) →
    IsRefused (AnyOf (TheMark (token.Sign sign.Greater))) Nothing c e →
    IsRefused (AnyOf (λ _. IsWidth text)) Nothing a e
no_width_greater m r e h =
    refused_in (width_is _) (λ deep here blocked. at_second (without_place m) (at_second r blocked)) e h

-- "bool"
bool_is : {text : List ℕ} (a : List Token) → first_kind a ≡ Some (token.Word word.Bool) →
    Same (λ _. IsMark (token.Word word.Bool)) (λ _. IsType text) Nothing written.Bool a
bool_is {text} a kind = record {
  to = λ reach p b c m. type_bool m;
  from = λ reach t b c same stop h. from t b c same h;
}
  where
    from : (t : TypeName) (b c : List Token) → first_of b ≡ first_of a → IsType text t b c →
        (p : Place) × IsMark (token.Word word.Bool) p b c × (t ≡ written.Bool p)
    from t b c same (type_bool m) = (_, m, refl)
    from t b c same (type_uint m l is g) = absurd (let e = clash a b same kind (mark_kind m) in cc)
    from t b c same (type_name n) = absurd (let e = clash a b same kind (has_kind (name_has n)) in cc)

pub taken_bool : {text : List ℕ} {p : Place} {a b : List Token} → first_kind a ≡ Some (token.Word word.Bool) →
    Takes (λ _. IsMark (token.Word word.Bool)) Nothing p a b → Takes (λ _. IsType text) Nothing (written.Bool p) a b
taken_bool kind m = takes_so (bool_is _ kind) m

-- "uint" and a width
abbrev UintParts : List ℕ → Reach → Place × Num → List Token → List Token → Type 0
UintParts text = Both (λ _. IsMark (token.Word word.Uint)) (λ _ _. IsWidth text)

uint_is : {text : List ℕ} (a : List Token) → first_kind a ≡ Some (token.Word word.Uint) →
    Same (UintParts text) (λ _. IsType text) Nothing (λ t. written.Uint t.0 t.1) a
uint_is {text} a kind = record {
  to = λ reach t b c h. to h.first h.second;
  from = λ reach t b c same stop h. from reach t b c same h;
}
  where
    to : {p : Place} {n : Num} {b c d : List Token} → IsMark (token.Word word.Uint) p b c → IsWidth text n c d →
        IsType text (written.Uint p n) b d
    to m (width l is g) = type_uint m l is g

    from : (reach : Reach) (t : TypeName) (b c : List Token) → first_of b ≡ first_of a → IsType text t b c →
        (u : Place × Num) × UintParts text reach u b c × (t ≡ written.Uint u.0 u.1)
    from reach t b c same (type_uint m l is g) =
        ((_, _), record { between = _; first = m; second = width l is g }, refl)
    from reach t b c same (type_bool m) = absurd (let e = clash a b same kind (mark_kind m) in cc)
    from reach t b c same (type_name n) = absurd (let e = clash a b same kind (has_kind (name_has n)) in cc)

pub taken_uint : {text : List ℕ} {p : Place} {n : Num} {a b c : List Token} →
    first_kind a ≡ Some (token.Word word.Uint) → Takes (λ _. IsMark (token.Word word.Uint)) Nothing p a b →
    Takes (λ _. IsWidth text) Nothing n b c → Takes (λ _. IsType text) Nothing (written.Uint p n) a c
taken_uint kind m r = takes_so (uint_is _ kind) (takes_then m r)

pub no_uint : (text : List ℕ) {p : Place} {a b : List Token} → first_kind a ≡ Some (token.Word word.Uint) →
    Takes (λ _. IsMark (token.Word word.Uint)) Nothing p a b → (e : Stop) →
    IsRefused (AnyOf (λ _. IsWidth text)) Nothing b e → IsRefused (AnyOf (λ _. IsType text)) Nothing a e
no_uint text kind m e h =
    refused_in (uint_is _ kind) (λ deep here blocked. at_second m blocked) e h

-- NAME
type_name_is : {text : List ℕ} (a : List Token) → ¬ (first_kind a ≡ Some (token.Word word.Bool)) →
    ¬ (first_kind a ≡ Some (token.Word word.Uint)) → Same (λ _. IsName text) (λ _. IsType text) Nothing written.Enum a
type_name_is {text} a no_bool no_width = record {
  to = λ reach n b c is. type_name is;
  from = λ reach t b c same stop h. from t b c same h;
}
  where
    from : (t : TypeName) (b c : List Token) → first_of b ≡ first_of a → IsType text t b c →
        (n : Ident) × IsName text n b c × (t ≡ written.Enum n)
    from t b c same (type_name n) = (_, n, refl)
    from t b c same (type_bool m) = absurd (no_bool (sym (same_kind b a same) ∙ mark_kind m))
    from t b c same (type_uint m l is g) = absurd (no_width (sym (same_kind b a same) ∙ mark_kind m))

pub taken_type_name : {text : List ℕ} {n : Ident} (a : List Token) {b : List Token} →
    ¬ (first_kind a ≡ Some (token.Word word.Bool)) → ¬ (first_kind a ≡ Some (token.Word word.Uint)) →
    Takes (λ _. IsName text) Nothing n a b → Takes (λ _. IsType text) Nothing (written.Enum n) a b
taken_type_name a no_bool no_width r = takes_so (type_name_is a no_bool no_width) r

pub no_type_name : (text : List ℕ) (a : List Token) → ¬ (first_kind a ≡ Some (token.Word word.Bool)) →
    ¬ (first_kind a ≡ Some (token.Word word.Uint)) → (e : Stop) →
    IsRefused (AnyOf (λ _. IsName text)) Nothing a e → IsRefused (AnyOf (λ _. IsType text)) Nothing a e
no_type_name text a no_bool no_width e h =
    refused_in (type_name_is a no_bool no_width) (λ deep here blocked. blocked) e h

pub width_word : {X : Type 0} (text : List ℕ) → AnyWord {X = X} (λ x _. IsWidth text)
width_word {X} text =
    let w = both_word {W = X} {Is = λ x. TheMark (token.Sign sign.Less)} (mark_word (token.Sign sign.Less))
    (both_word (number_word text) (mark_word (token.Sign sign.Greater))) in
    record {
      word = w.word;
      spells = λ x size behind fits. let h = w.spells x size behind fits in (
        h.0.1.0,
        (width_is {text = text} (w.word ++ behind)).to (all_but size) h.0 (w.word ++ behind) behind h.1,
      );
    }
