-- Literals, and the variables that have them.
use Rattle.std.proofs.Common.{◌≡◌, ◌≢◌, ℕ, true, false, Option, Some, None, List, [], ◌∷◌, refl, sym, ◌∙◌, subst}
use Rattle.tm_base.specs.declared.place.Place.{Place}
use Rattle.tm_syntax.specs.declared.token.Token.{Token}
use Rattle.tm_syntax.specs.declared.token.TokenKind.{TokenKind}
use Rattle.tm_syntax.specs.declared.token.TokenKind.TheVariants as token
use Rattle.tm_syntax.specs.declared.token.Word.TheVariants as word
use Rattle.tm_syntax.specs.declared.token.Sign.TheVariants as sign
use Rattle.tm_syntax.specs.declared.tree.Ident.{Ident}
use Rattle.tm_syntax.specs.declared.tree.Num.{Num}
use Rattle.tm_syntax.specs.declared.tree.TypeName.{TypeName}
use Rattle.tm_syntax.specs.Tree.{ExprTree, truth, number, path, VarTree}
use Rattle.tm_syntax.specs.Grammar.Parts.{Has, IsMark, IsName, IsNumber, IsOptional, optional_none, optional_some}
use Rattle.tm_syntax.specs.Grammar.Statements.{IsType}
use Rattle.tm_syntax.specs.Grammar.Declarations.{IsLiteral, literal_number, literal_true, literal_false, literal_name, IsLength, size_of, IsInitial, initial, IsVar, variable}
use Rattle.tm_parse.specs.declared.stop.Stop.{Stop}
use Rattle.tm_parse.specs.Reading.{Reach, first_of, first_kind, IsRefused, Takes, AnyOf, Nothing, TheMark}
use Rattle.tm_parse.specs.Commands.{GoesAt}
use Rattle.tm_parse.proofs.Arguments.{other_kind, BeginsAt, taken_absent, present_is}
use Rattle.tm_parse.proofs.Names.{name_has, number_has, name_word, number_word}
use Rattle.tm_parse.proofs.Primaries.{looser, looser_blocked}
use Rattle.tm_parse.proofs.Taking.{Both, Same, AnyWord, same_kind, takes_both, takes_then, takes_so, at_first, at_second, blocked_first, blocked_second, blocked_so, both_word, refused_in}
use Rattle.tm_parse.proofs.Terminals.{clash, mark_kind, has_kind, mark_word, without_place}

-- NUMBER
number_is : {text : List ℕ} (a : List Token) → first_kind a ≡ Some token.Number →
    Same (λ _. IsNumber text) (λ _. IsLiteral text) Nothing number a
number_is {text} a kind = record {
  to = λ reach n b c is. literal_number is;
  from = λ reach e b c same stop h. from e b c same h;
}
  where
    from : (e : ExprTree) (b c : List Token) → first_of b ≡ first_of a → IsLiteral text e b c →
        (n : Num) × IsNumber text n b c × (e ≡ number n)
    from e b c same (literal_number is) = (_, is, refl)
    from e b c same (literal_true m) = absurd (let k = clash a b same kind (mark_kind m) in cc)
    from e b c same (literal_false m) = absurd (let k = clash a b same kind (mark_kind m) in cc)
    from e b c same (literal_name is) = absurd (let k = clash a b same kind (has_kind (name_has is)) in cc)

pub taken_literal_number : {text : List ℕ} {n : Num} {a b : List Token} → first_kind a ≡ Some token.Number →
    Takes (λ _. IsNumber text) Nothing n a b → Takes (λ _. IsLiteral text) Nothing (number n) a b
taken_literal_number kind r = takes_so (number_is _ kind) r

pub no_literal_number : (text : List ℕ) (a : List Token) → first_kind a ≡ Some token.Number → (e : Stop) →
    IsRefused (AnyOf (λ _. IsNumber text)) Nothing a e → IsRefused (AnyOf (λ _. IsLiteral text)) Nothing a e
no_literal_number text a kind e h = refused_in (number_is a kind) (λ deep here blocked. blocked) e h

-- "true" and "false"
true_is : {text : List ℕ} (a : List Token) → first_kind a ≡ Some (token.Word word.True) →
    Same (λ _. IsMark (token.Word word.True)) (λ _. IsLiteral text) Nothing (λ p. truth p true) a
true_is {text} a kind = record {
  to = λ reach p b c m. literal_true m;
  from = λ reach e b c same stop h. from e b c same h;
}
  where
    from : (e : ExprTree) (b c : List Token) → first_of b ≡ first_of a → IsLiteral text e b c →
        (p : Place) × IsMark (token.Word word.True) p b c × (e ≡ truth p true)
    from e b c same (literal_true m) = (_, m, refl)
    from e b c same (literal_number is) = absurd (let k = clash a b same kind (has_kind (number_has is)) in cc)
    from e b c same (literal_false m) = absurd (let k = clash a b same kind (mark_kind m) in cc)
    from e b c same (literal_name is) = absurd (let k = clash a b same kind (has_kind (name_has is)) in cc)

pub taken_literal_true : {text : List ℕ} {p : Place} {a b : List Token} → first_kind a ≡ Some (token.Word word.True) →
    Takes (λ _. IsMark (token.Word word.True)) Nothing p a b → Takes (λ _. IsLiteral text) Nothing (truth p true) a b
taken_literal_true kind m = takes_so (true_is _ kind) m

false_is : {text : List ℕ} (a : List Token) → first_kind a ≡ Some (token.Word word.False) →
    Same (λ _. IsMark (token.Word word.False)) (λ _. IsLiteral text) Nothing (λ p. truth p false) a
false_is {text} a kind = record {
  to = λ reach p b c m. literal_false m;
  from = λ reach e b c same stop h. from e b c same h;
}
  where
    from : (e : ExprTree) (b c : List Token) → first_of b ≡ first_of a → IsLiteral text e b c →
        (p : Place) × IsMark (token.Word word.False) p b c × (e ≡ truth p false)
    from e b c same (literal_false m) = (_, m, refl)
    from e b c same (literal_number is) = absurd (let k = clash a b same kind (has_kind (number_has is)) in cc)
    from e b c same (literal_true m) = absurd (let k = clash a b same kind (mark_kind m) in cc)
    from e b c same (literal_name is) = absurd (let k = clash a b same kind (has_kind (name_has is)) in cc)

pub taken_literal_false : {text : List ℕ} {p : Place} {a b : List Token} →
    first_kind a ≡ Some (token.Word word.False) → Takes (λ _. IsMark (token.Word word.False)) Nothing p a b →
    Takes (λ _. IsLiteral text) Nothing (truth p false) a b
taken_literal_false kind m = takes_so (false_is _ kind) m

-- no literal but a constant's name stands here
pub record IsNoLiteral (a : List Token) : Type 0 where
  pub no_number : ¬ (first_kind a ≡ Some token.Number)
  pub no_true : ¬ (first_kind a ≡ Some (token.Word word.True))
  pub no_false : ¬ (first_kind a ≡ Some (token.Word word.False))

name_is : {text : List ℕ} (a : List Token) → IsNoLiteral a →
    Same (λ _. IsName text) (λ _. IsLiteral text) Nothing (λ n. path (n ∷ [])) a
name_is {text} a none = record {
  to = λ reach n b c is. literal_name is;
  from = λ reach e b c same stop h. from e b c same h;
}
  where
    from : (e : ExprTree) (b c : List Token) → first_of b ≡ first_of a → IsLiteral text e b c →
        (n : Ident) × IsName text n b c × (e ≡ path (n ∷ []))
    from e b c same (literal_name is) = (_, is, refl)
    from e b c same (literal_number is) =
        absurd (none.no_number (sym (same_kind b a same) ∙ has_kind (number_has is)))
    from e b c same (literal_true m) = absurd (none.no_true (sym (same_kind b a same) ∙ mark_kind m))
    from e b c same (literal_false m) = absurd (none.no_false (sym (same_kind b a same) ∙ mark_kind m))

pub taken_literal_name : {text : List ℕ} {n : Ident} {e : ExprTree} (a : List Token) {b : List Token} →
    IsNoLiteral a → e ≡ path (n ∷ []) → Takes (λ _. IsName text) Nothing n a b →
    Takes (λ _. IsLiteral text) Nothing e a b
taken_literal_name {text} a {b} none is r =
    subst (λ (t : ExprTree). Takes (λ _. IsLiteral text) Nothing t a b) (sym is) (takes_so (name_is a none) r)

pub no_literal_name : (text : List ℕ) (a : List Token) → IsNoLiteral a → (e : Stop) →
    IsRefused (AnyOf (λ _. IsName text)) Nothing a e → IsRefused (AnyOf (λ _. IsLiteral text)) Nothing a e
no_literal_name text a none e h = refused_in (name_is a none) (λ deep here blocked. blocked) e h

pub literal_word : {X : Type 0} (text : List ℕ) → AnyWord {X = X} (λ x _. IsLiteral text)
literal_word text =
    let w = number_word text in
    record {
      word = w.word;
      spells = λ x size behind fits. let n = w.spells x size behind fits in (number n.0, literal_number n.1);
    }

-- "[", NUMBER, "]"
abbrev LengthParts : List ℕ → Reach → Unit {0} × (Num × Unit {0}) → List Token → List Token → Type 0
LengthParts text = Both (TheMark (token.Sign sign.OpenBracket))
    (λ _. Both (λ _. IsNumber text) (λ _. TheMark (token.Sign sign.CloseBracket)))

length_is : {text : List ℕ} (a : List Token) → Same (LengthParts text) (λ _. IsLength text) Nothing (λ t. t.1.0) a
length_is {text} a = record {
  to = λ reach t b c h. size_of h.first h.second.first h.second.second;
  from = λ reach n b c same stop h. from reach n b c h;
}
  where
    from : (reach : Reach) (n : Num) (b c : List Token) → IsLength text n b c →
        (t : Unit {0} × (Num × Unit {0})) × LengthParts text reach t b c × (n ≡ t.1.0)
    from reach n b c (size_of m is o) = (
      (tt, (n, tt)),
      record { between = _; first = m; second = record { between = _; first = is; second = o } },
      refl,
    )

length_begins : (text : List ℕ) → BeginsAt (λ _. IsLength text) (token.Sign sign.OpenBracket)
length_begins text = record { kind = λ reach n a b h. kind n a b h }
  where
    kind : (n : Num) (a b : List Token) → IsLength text n a b → first_kind a ≡ Some (token.Sign sign.OpenBracket)
    kind n a b (size_of m is o) = has_kind m

pub taken_no_length : (text : List ℕ) (a : List Token) → ¬ (first_kind a ≡ Some (token.Sign sign.OpenBracket)) →
    Takes (λ _. IsOptional (IsLength text)) (GoesAt (token.Sign sign.OpenBracket)) None a a
taken_no_length text a none = taken_absent a (length_begins text) none

pub taken_length : {text : List ℕ} {p q : Place} {n : Num} {a b c d : List Token} →
    first_kind a ≡ Some (token.Sign sign.OpenBracket) →
    Takes (λ _. IsMark (token.Sign sign.OpenBracket)) Nothing p a b →
    Takes (λ _. IsNumber text) Nothing n b c → Takes (λ _. IsMark (token.Sign sign.CloseBracket)) Nothing q c d →
    Takes (λ _. IsOptional (IsLength text)) (GoesAt (token.Sign sign.OpenBracket)) (Some n) a d
taken_length kind m r o =
    takes_so (present_is _ kind)
    (looser (takes_so (length_is _) (takes_then (without_place m) (takes_then r (without_place o)))))

pub no_length_number : (text : List ℕ) {p : Place} {a b : List Token} →
    first_kind a ≡ Some (token.Sign sign.OpenBracket) →
    Takes (λ _. IsMark (token.Sign sign.OpenBracket)) Nothing p a b →
    (e : Stop) → IsRefused (AnyOf (λ _. IsNumber text)) Nothing b e →
    IsRefused (AnyOf (λ _. IsOptional (IsLength text))) (GoesAt (token.Sign sign.OpenBracket)) a e
no_length_number text kind m e h =
    refused_in (present_is _ kind) (λ deep here blocked. looser_blocked (blocked_so (length_is _)
    (at_second (without_place m) (at_first blocked (mark_word (token.Sign sign.CloseBracket)))))) e h

pub no_length_closing : {text : List ℕ} {p : Place} {n : Num} {a b c : List Token} →
    first_kind a ≡ Some (token.Sign sign.OpenBracket) →
    Takes (λ _. IsMark (token.Sign sign.OpenBracket)) Nothing p a b →
    Takes (λ _. IsNumber text) Nothing n b c → (e : Stop) →
    IsRefused (AnyOf (TheMark (token.Sign sign.CloseBracket))) Nothing c e →
    IsRefused (AnyOf (λ _. IsOptional (IsLength text))) (GoesAt (token.Sign sign.OpenBracket)) a e
no_length_closing kind m r e h =
    refused_in (present_is _ kind) (λ deep here blocked. looser_blocked (blocked_so (length_is _)
    (at_second (without_place m) (at_second r blocked)))) e h

-- "=" and a literal
abbrev InitialParts : List ℕ → Reach → Unit {0} × ExprTree → List Token → List Token → Type 0
InitialParts text = Both (TheMark (token.Sign sign.Assign)) (λ _ _. IsLiteral text)

initial_is : {text : List ℕ} (a : List Token) → Same (InitialParts text) (λ _. IsInitial text) Nothing (λ t. t.1) a
initial_is {text} a = record {
  to = λ reach t b c h. initial h.first h.second;
  from = λ reach e b c same stop h. from reach e b c h;
}
  where
    from : (reach : Reach) (e : ExprTree) (b c : List Token) → IsInitial text e b c →
        (t : Unit {0} × ExprTree) × InitialParts text reach t b c × (e ≡ t.1)
    from reach e b c (initial m is) = ((tt, e), record { between = _; first = m; second = is }, refl)

initial_begins : (text : List ℕ) → BeginsAt (λ _. IsInitial text) (token.Sign sign.Assign)
initial_begins text = record { kind = λ reach e a b h. kind e a b h }
  where
    kind : (e : ExprTree) (a b : List Token) → IsInitial text e a b → first_kind a ≡ Some (token.Sign sign.Assign)
    kind e a b (initial m is) = has_kind m

pub taken_no_initial : (text : List ℕ) (a : List Token) → ¬ (first_kind a ≡ Some (token.Sign sign.Assign)) →
    Takes (λ _. IsOptional (IsInitial text)) (GoesAt (token.Sign sign.Assign)) None a a
taken_no_initial text a none = taken_absent a (initial_begins text) none

pub taken_initial : {text : List ℕ} {p : Place} {e : ExprTree} {a b c : List Token} →
    first_kind a ≡ Some (token.Sign sign.Assign) → Takes (λ _. IsMark (token.Sign sign.Assign)) Nothing p a b →
    Takes (λ _. IsLiteral text) Nothing e b c →
    Takes (λ _. IsOptional (IsInitial text)) (GoesAt (token.Sign sign.Assign)) (Some e) a c
taken_initial kind m r =
    takes_so (present_is _ kind) (looser (takes_so (initial_is _) (takes_then (without_place m) r)))

pub no_initial : (text : List ℕ) {p : Place} {a b : List Token} → first_kind a ≡ Some (token.Sign sign.Assign) →
    Takes (λ _. IsMark (token.Sign sign.Assign)) Nothing p a b → (e : Stop) →
    IsRefused (AnyOf (λ _. IsLiteral text)) Nothing b e →
    IsRefused (AnyOf (λ _. IsOptional (IsInitial text))) (GoesAt (token.Sign sign.Assign)) a e
no_initial text kind m e h =
    refused_in (present_is _ kind) (λ deep here blocked. looser_blocked (blocked_so (initial_is _)
    (at_second (without_place m) blocked))) e h

-- a type, a name, a length and a literal, where they stand here, and ";"
abbrev EndParts : List ℕ → Reach → Option ExprTree × Unit {0} → List Token → List Token → Type 0
EndParts text = Both (λ _. IsOptional (IsInitial text)) (λ _. TheMark (token.Sign sign.Semicolon))

abbrev VarParts : List ℕ → Reach → TypeName × (Ident × (Option Num × (Option ExprTree × Unit {0}))) → List Token →
    List Token → Type 0
VarParts text = Both (λ _. IsType text) (λ _. Both (λ _. IsName text)
    (λ _. Both (λ _. IsOptional (IsLength text)) (λ _. EndParts text)))

var_is : {text : List ℕ} (a : List Token) →
    Same (VarParts text) (λ _. IsVar text) Nothing
    (λ t. record { ty = t.0; name = t.1.0; size = t.1.1.0; init = t.1.1.1.0 }) a
var_is {text} a = record {
  to = λ reach t b c h.
      variable h.first h.second.first h.second.second.first h.second.second.second.first
      h.second.second.second.second;
  from = λ reach d b c same stop h. from reach d b c h;
}
  where
    from : (reach : Reach) (d : VarTree) (b c : List Token) → IsVar text d b c →
        (t : TypeName × (Ident × (Option Num × (Option ExprTree × Unit {0})))) × VarParts text reach t b c
        × (d ≡ record { ty = t.0; name = t.1.0; size = t.1.1.0; init = t.1.1.1.0 })
    from reach d b c (variable ty n l i m) = (
      (_, (_, (_, (_, tt)))),
      record {
        between = _;
        first = ty;
        second = record {
          between = _;
          first = n;
          second = record { between = _; first = l; second = record { between = _; first = i; second = m } };
        };
      },
      refl,
    )

-- with what a variable ends that begins behind its length
end_opens : {text : List ℕ} {init : Option ExprTree} {a b c : List Token} (k : TokenKind) →
    token.Sign sign.Assign ≢ k → token.Sign sign.Semicolon ≢ k → IsOptional (IsInitial text) init a b →
    Has (token.Sign sign.Semicolon) b c → ¬ (first_kind a ≡ Some k)
end_opens k assigns ends optional_none m kind = let kinds = other_kind (has_kind m) kind in ends (cc)
end_opens k assigns ends (optional_some (initial n is)) m kind =
    let kinds = other_kind (has_kind n) kind in assigns (cc)

length_parts : {text : List ℕ} (reach : Reach) (x : Option Num) (y : Option ExprTree × Unit {0}) (a b : List Token) →
    EndParts text reach y a b → ¬ Nothing (first_kind b) → ¬ GoesAt (token.Sign sign.OpenBracket) (first_kind a)
length_parts reach x y a b h stop at =
    end_opens (token.Sign sign.OpenBracket) (λ e. cc) (λ e. cc) h.first h.second at

initial_parts : (reach : Reach) (x : Option ExprTree) (y : Unit {0}) (a b : List Token) →
    TheMark (token.Sign sign.Semicolon) reach y a b → ¬ Nothing (first_kind b) →
    ¬ GoesAt (token.Sign sign.Assign) (first_kind a)
initial_parts reach x y a b m stop at = let kinds = other_kind (has_kind m) at in cc

end_word : {X : Type 0} (text : List ℕ) → AnyWord {X = X} (λ x. EndParts text)
end_word text = record {
  word = (mark_word {X = Unit {0}} (token.Sign sign.Semicolon)).word;
  spells = λ x size behind fits.
      let m = (mark_word {X = Unit {0}} (token.Sign sign.Semicolon)).spells tt size behind fits in
      ((None, tt), record { between = _; first = optional_none; second = m.1 });
}

length_word : {X : Type 0} (text : List ℕ) →
    AnyWord {X = X} (λ x. Both (λ _. IsOptional (IsLength text)) (λ _. EndParts text))
length_word text = record {
  word = (end_word {X = Unit {0}} text).word;
  spells = λ x size behind fits.
      let m = (end_word {X = Unit {0}} text).spells tt size behind fits in
      ((None, m.0), record { between = _; first = optional_none; second = m.1 });
}

pub taken_variable : {text : List ℕ} {ty : TypeName} {name : Ident} {size : Option Num} {init : Option ExprTree}
    {q : Place} {a b c d e f : List Token} → Takes (λ _. IsType text) Nothing ty a b →
    Takes (λ _. IsName text) Nothing name b c →
    Takes (λ _. IsOptional (IsLength text)) (GoesAt (token.Sign sign.OpenBracket)) size c d →
    Takes (λ _. IsOptional (IsInitial text)) (GoesAt (token.Sign sign.Assign)) init d e →
    Takes (λ _. IsMark (token.Sign sign.Semicolon)) Nothing q e f →
    Takes (λ _. IsVar text) Nothing (record { ty = ty; name = name; size = size; init = init }) a f
taken_variable r n l i m =
    takes_so (var_is _) (takes_then r (takes_then n
    (takes_both l length_parts (takes_both i initial_parts (without_place m)))))

pub no_variable_type : (text : List ℕ) (a : List Token) (e : Stop) → IsRefused (AnyOf (λ _. IsType text)) Nothing a e →
    IsRefused (AnyOf (λ _. IsVar text)) Nothing a e
no_variable_type text a e h =
    refused_in (var_is a) (λ deep here blocked. at_first blocked
    (both_word (name_word text) (length_word text))) e h

pub no_variable_name : (text : List ℕ) {ty : TypeName} {a b : List Token} → Takes (λ _. IsType text) Nothing ty a b →
    (e : Stop) → IsRefused (AnyOf (λ _. IsName text)) Nothing b e → IsRefused (AnyOf (λ _. IsVar text)) Nothing a e
no_variable_name text r e h =
    refused_in (var_is _) (λ deep here blocked. at_second r (at_first blocked (length_word text))) e h

pub no_variable_length : (text : List ℕ) {ty : TypeName} {name : Ident} {a b c : List Token} →
    Takes (λ _. IsType text) Nothing ty a b → Takes (λ _. IsName text) Nothing name b c → (e : Stop) →
    IsRefused (AnyOf (λ _. IsOptional (IsLength text))) (GoesAt (token.Sign sign.OpenBracket)) c e →
    IsRefused (AnyOf (λ _. IsVar text)) Nothing a e
no_variable_length text r n e h =
    refused_in (var_is _) (λ deep here blocked. at_second r (at_second n
    (blocked_first blocked (end_word text) length_parts))) e h

pub no_variable_initial : {text : List ℕ} {ty : TypeName} {name : Ident} {size : Option Num} {a b c d : List Token} →
    Takes (λ _. IsType text) Nothing ty a b → Takes (λ _. IsName text) Nothing name b c →
    Takes (λ _. IsOptional (IsLength text)) (GoesAt (token.Sign sign.OpenBracket)) size c d → (e : Stop) →
    IsRefused (AnyOf (λ _. IsOptional (IsInitial text))) (GoesAt (token.Sign sign.Assign)) d e →
    IsRefused (AnyOf (λ _. IsVar text)) Nothing a e
no_variable_initial r n l e h =
    refused_in (var_is _) (λ deep here blocked. at_second r (at_second n
    (blocked_second l length_parts
    (blocked_first blocked (mark_word (token.Sign sign.Semicolon)) initial_parts)))) e h

pub no_variable_end : {text : List ℕ} {ty : TypeName} {name : Ident} {size : Option Num} {init : Option ExprTree}
    {a b c d x : List Token} → Takes (λ _. IsType text) Nothing ty a b → Takes (λ _. IsName text) Nothing name b c →
    Takes (λ _. IsOptional (IsLength text)) (GoesAt (token.Sign sign.OpenBracket)) size c d →
    Takes (λ _. IsOptional (IsInitial text)) (GoesAt (token.Sign sign.Assign)) init d x → (e : Stop) →
    IsRefused (AnyOf (TheMark (token.Sign sign.Semicolon))) Nothing x e →
    IsRefused (AnyOf (λ _. IsVar text)) Nothing a e
no_variable_end r n l i e h =
    refused_in (var_is _) (λ deep here blocked. at_second r (at_second n
    (blocked_second l length_parts (blocked_second i initial_parts blocked)))) e h
