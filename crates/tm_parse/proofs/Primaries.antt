-- Operands: prefixed forms and primaries.
use Rattle.std.proofs.Common.{◌≡◌, ◌≢◌, ℕ, ◌+◌, inl, inr, append_assoc, length-append, Bool, false, true, Option, Some, None, List, [], ◌∷◌, ◌++◌, length, refl, sym, ap, ◌∙◌, subst, arith}
use Rattle.tm_base.specs.declared.place.Place.{Place}
use Rattle.tm_syntax.specs.declared.token.Token.{Token}
use Rattle.tm_syntax.specs.declared.token.TokenKind.{TokenKind}
use Rattle.tm_syntax.specs.declared.token.TokenKind.TheVariants as token
use Rattle.tm_syntax.specs.declared.token.Word.TheVariants as word
use Rattle.tm_syntax.specs.declared.token.Sign.{Sign}
use Rattle.tm_syntax.specs.declared.token.Sign.TheVariants as sign
use Rattle.tm_syntax.specs.declared.tree.Ident.{Ident}
use Rattle.tm_syntax.specs.declared.tree.Num.{Num}
use Rattle.tm_syntax.specs.declared.tree.UnaryOperator.{UnaryOperator}
use Rattle.tm_syntax.specs.declared.tree.UnaryOperator.TheVariants as unary_operator
use Rattle.tm_syntax.specs.Tree.{ExprTree, truth, number, path, group, unary, cast, element}
use Rattle.tm_syntax.specs.Grammar.Parts.{Has, IsMark, IsName, IsNumber, IsPath}
use Rattle.tm_syntax.specs.Grammar.Expressions.{unary_sign, expr_conditional, expr_binary, expr_shift, expr_unary, expr_number, expr_true, expr_false, expr_path, expr_element, expr_group, expr_cast}
use Rattle.tm_parse.specs.declared.stop.Stop.{Stop}
use Rattle.tm_parse.specs.Reading.{Reach, all_but, IsBound, first_of, first_kind, IsBlocked, IsRefused, Takes, AnyOf, Nothing, TheMark, IsOpening, GoesOn}
use Rattle.tm_parse.specs.Width.{IsWidth, width}
use Rattle.tm_parse.specs.declared.operators.Primary.{Primary}
use Rattle.tm_parse.specs.declared.operators.Primary.TheVariants as primary
use Rattle.tm_parse.specs.Operands.{AnExpr, GoesExpr, goes_dot, goes_bracket, primary_of, primary_at, IsEnclosed, encloses, IsPlaceFrom, from_path, from_element}
use Rattle.tm_parse.proofs.Enclosed.{expr_word}
use Rattle.tm_parse.proofs.Goes.{no_goes_parenthesis}
use Rattle.tm_parse.proofs.Lists.{First, alone, before, first_view}
use Rattle.tm_parse.proofs.Names.{name_has, number_has}
use Rattle.tm_parse.proofs.Spine.{strength_most}
use Rattle.tm_parse.proofs.Taking.{Both, Same, AnyWord, same_kind, takes_both, takes_then, takes_so, at_first, at_second, blocked_first, blocked_second, both_word, refused_in}
use Rattle.tm_parse.proofs.Terminals.{mark_kind, mark_has, has_kind, mark_word, without_place, with_place}
use Rattle.tm_parse.proofs.Types.{width_word}

-- an operand by its first token
pub data Operand (text : List ℕ) (depth : ℕ) (reach : Reach) : ExprTree → List Token → List Token → Type 0 where
  is_unary : {op : UnaryOperator} {p : Place} {e : ExprTree} {a b c : List Token} →
      IsOpening (token.Sign (unary_sign op)) depth reach p a b → AnExpr text 10 (depth + 1) reach e b c →
      Operand text depth reach (unary p op e) a c
  is_number : {n : Num} {a b : List Token} → IsNumber text n a b → Operand text depth reach (number n) a b
  is_true : {p : Place} {a b : List Token} → IsMark (token.Word word.True) p a b →
      Operand text depth reach (truth p true) a b
  is_false : {p : Place} {a b : List Token} → IsMark (token.Word word.False) p a b →
      Operand text depth reach (truth p false) a b
  is_place : {names : List Ident} {e : ExprTree} {a b c : List Token} → IsPath text names a b →
      IsPlaceFrom text names depth reach e b c → Operand text depth reach e a c
  is_group : {p : Place} {e : ExprTree} {a b c d : List Token} →
      IsOpening (token.Sign sign.OpenParenthesis) depth reach p a b → AnExpr text 0 (depth + 1) reach e b c →
      Has (token.Sign sign.CloseParenthesis) c d → Operand text depth reach (group p e) a d
  is_cast : {p : Place} {n : Num} {e : ExprTree} {a b c d : List Token} → IsMark (token.Word word.Uint) p a b →
      IsWidth text n b c → IsEnclosed text sign.OpenParenthesis sign.CloseParenthesis depth reach e c d →
      Operand text depth reach (cast p n e) a d

mark_of : {k : TokenKind} {a b : List Token} → Has k a b → (p : Place) × IsMark k p a b
mark_of m = (m.first.place, record { first = m.first; whole = m.whole; is = m.is; here = refl })

opening_of : {k : TokenKind} {depth : ℕ} {reach : Reach} {a b : List Token} → Has k a b → IsBound reach a (depth + 1) →
    (p : Place) × IsOpening k depth reach p a b
opening_of m w = let at = mark_of m in (at.0, record { mark = at.1; within = w })

enclosed_of : {text : List ℕ} {o c : Sign} {depth : ℕ} {reach : Reach} {e : ExprTree} {a b d f : List Token} →
    Has (token.Sign o) a b → IsBound reach a (depth + 1) → AnExpr text 0 (depth + 1) reach e b d →
    Has (token.Sign c) d f → IsEnclosed text o c depth reach e a f
enclosed_of m w is n = encloses (opening_of m w).1 is n

pub operand_of : {text : List ℕ} {depth : ℕ} {reach : Reach} {e : ExprTree} {a b : List Token} →
    AnExpr text 10 depth reach e a b →
    Operand text depth reach e a b
operand_of (expr_conditional loosest e m w f o g) = absurd (omega arith)
operand_of (expr_binary {op} s e m w f) = absurd (omega (arith, strength_most op))
operand_of (expr_shift s e m w n) = absurd (omega arith)
operand_of (expr_unary m w e) = is_unary (record { mark = m; within = w }) e
operand_of (expr_number n) = is_number n
operand_of (expr_true m) = is_true m
operand_of (expr_false m) = is_false m
operand_of (expr_path p) = is_place p from_path
operand_of (expr_element p o w e c) = is_place p (from_element (enclosed_of o w e c))
operand_of (expr_group m w e c) = is_group (record { mark = m; within = w }) e c
operand_of (expr_cast m l n g o w e c) = is_cast m (width l n g) (enclosed_of o w e c)

-- a path begins with a name
row_kind : {text : List ℕ} {names : List Ident} {a b : List Token} → First sign.Dot (IsName text) names a b →
    first_kind a ≡ Some token.Name
row_kind (alone n) = has_kind (name_has n)
row_kind (before n m others) = has_kind (name_has n)

pub path_kind : {text : List ℕ} {names : List Ident} {a b : List Token} → IsPath text names a b →
    first_kind a ≡ Some token.Name
path_kind p = row_kind (first_view p)

-- with what ends with a token of its own, no token goes on
pub looser : {X : Type 0} {Is : Reach → X → List Token → List Token → Type 0} {Stops : Option TokenKind → Type 0}
    {x : X}
    {a b : List Token} → Takes Is Nothing x a b → Takes Is Stops x a b
looser r = record {
  front = r.front;
  whole = r.whole;
  is = r.is;
  sole = λ reach y other after same stop is. r.sole reach y other after same (λ none. none) is;
}

pub looser_blocked : {Is : Reach → List Token → List Token → Type 0} {Stops : Option TokenKind → Type 0} {deep : Bool}
    {a here : List Token} → IsBlocked Is Nothing deep a here → IsBlocked Is Stops deep a here
looser_blocked h = record {
  front = h.front;
  whole = h.whole;
  more = h.more;
  completes = h.completes;
  goes_on = h.goes_on;
  stuck = λ reach other rest same within stop is. h.stuck reach other rest same within (λ none. none) is;
}

-- the primary that an operand is, if it has no prefix
abbrev pub sort_of : {text : List ℕ} {depth : ℕ} {reach : Reach} {e : ExprTree} {a b : List Token} →
    Operand text depth reach e a b → Option Primary
sort_of (is_unary o e) = None
sort_of (is_number n) = Some primary.Number
sort_of (is_true m) = Some primary.True
sort_of (is_false m) = Some primary.False
sort_of (is_place p f) = Some primary.Place
sort_of (is_group o e c) = Some primary.Group
sort_of (is_cast m w e) = Some primary.Cast

-- the primary that begins here, by the first kind
pub primary_kind : (a : List Token) (k : TokenKind) → first_kind a ≡ Some k → primary_at a ≡ primary_of k
primary_kind [] k e = absurd (cc)
primary_kind (t ∷ a) k e = let same : t.kind ≡ k = let whole : Some t.kind ≡ Some k = e in cc in ap primary_of same

unary_sort : (op : UnaryOperator) → primary_of (token.Sign (unary_sign op)) ≡ None
unary_sort unary_operator.Complement = refl
unary_sort unary_operator.Not = refl

pub sorted : {text : List ℕ} {depth : ℕ} {reach : Reach} {e : ExprTree} {a b : List Token}
    (h : Operand text depth reach e a b) →
    primary_at a ≡ sort_of h
sorted {a} (is_unary {op} o e) = primary_kind a (token.Sign (unary_sign op)) (mark_kind o.mark) ∙ unary_sort op
sorted {a} (is_number n) = primary_kind a token.Number (has_kind (number_has n))
sorted {a} (is_true m) = primary_kind a (token.Word word.True) (mark_kind m)
sorted {a} (is_false m) = primary_kind a (token.Word word.False) (mark_kind m)
sorted {a} (is_place p f) = primary_kind a token.Name (path_kind p)
sorted {a} (is_group o e c) = primary_kind a (token.Sign sign.OpenParenthesis) (mark_kind o.mark)
sorted {a} (is_cast m w e) = primary_kind a (token.Word word.Uint) (mark_kind m)

same_primary : (a b : List Token) → first_of b ≡ first_of a → primary_at b ≡ primary_at a
same_primary [] [] e = refl
same_primary (t ∷ a) [] e = absurd (cc)
same_primary [] (u ∷ b) e = absurd (cc)
same_primary (t ∷ a) (u ∷ b) e = let same : u ≡ t = cc in ap (λ (v : Token). primary_of v.kind) same

-- the sort of an operand that begins with the same token as these
begun : {text : List ℕ} {depth : ℕ} {reach : Reach} {e : ExprTree} (a b : List Token) {c : List Token} (k : Primary)
    (h : Operand text depth reach e b c) → first_of b ≡ first_of a → primary_at a ≡ Some k → Some k ≡ sort_of h
begun a b k h same is = sym is ∙ sym (same_primary a b same) ∙ sorted h

-- NUMBER
number_is : {text : List ℕ} {depth : ℕ} (a : List Token) → primary_at a ≡ Some primary.Number →
    Same (λ _. IsNumber text) (AnExpr text 10 depth) (GoesExpr 10) number a
number_is {text} {depth} a sort = record {
  to = λ reach n b c is. expr_number is;
  from = λ reach e b c same stop is. from reach e b c (operand_of is)
      (begun a b primary.Number (operand_of is) same sort);
}
  where
    from : (reach : Reach) (e : ExprTree) (b c : List Token) (h : Operand text depth reach e b c) →
        Some primary.Number ≡ sort_of h → (n : Num) × IsNumber text n b c × (e ≡ number n)
    from reach e b c (is_number n) s = (_, n, refl)
    from reach e b c h s = absurd (cc)

pub taken_number_expr : {text : List ℕ} {depth : ℕ} {n : Num} (a : List Token) {b : List Token} →
    primary_at a ≡ Some primary.Number → Takes (λ _. IsNumber text) Nothing n a b →
    Takes (AnExpr text 10 depth) (GoesExpr 10) (number n) a b
taken_number_expr a sort r = takes_so (number_is a sort) (looser r)

-- "true" and "false"
true_is : {text : List ℕ} {depth : ℕ} (a : List Token) → primary_at a ≡ Some primary.True →
    Same (λ _. IsMark (token.Word word.True)) (AnExpr text 10 depth) (GoesExpr 10) (λ p. truth p true) a
true_is {text} {depth} a sort = record {
  to = λ reach p b c m. expr_true m;
  from = λ reach e b c same stop is. from reach e b c (operand_of is)
      (begun a b primary.True (operand_of is) same sort);
}
  where
    from : (reach : Reach) (e : ExprTree) (b c : List Token) (h : Operand text depth reach e b c) →
        Some primary.True ≡ sort_of h → (p : Place) × IsMark (token.Word word.True) p b c × (e ≡ truth p true)
    from reach e b c (is_true m) s = (_, m, refl)
    from reach e b c h s = absurd (cc)

false_is : {text : List ℕ} {depth : ℕ} (a : List Token) → primary_at a ≡ Some primary.False →
    Same (λ _. IsMark (token.Word word.False)) (AnExpr text 10 depth) (GoesExpr 10) (λ p. truth p false) a
false_is {text} {depth} a sort = record {
  to = λ reach p b c m. expr_false m;
  from = λ reach e b c same stop is. from reach e b c (operand_of is)
      (begun a b primary.False (operand_of is) same sort);
}
  where
    from : (reach : Reach) (e : ExprTree) (b c : List Token) (h : Operand text depth reach e b c) →
        Some primary.False ≡ sort_of h → (p : Place) × IsMark (token.Word word.False) p b c × (e ≡ truth p false)
    from reach e b c (is_false m) s = (_, m, refl)
    from reach e b c h s = absurd (cc)

-- "(" expr ")"
abbrev GroupParts : List ℕ → ℕ → Reach → Place × (ExprTree × Unit {0}) → List Token → List Token → Type 0
GroupParts text depth = Both (IsOpening (token.Sign sign.OpenParenthesis) depth)
    (λ _. Both (AnExpr text 0 (depth + 1)) (λ _. TheMark (token.Sign sign.CloseParenthesis)))

group_is : {text : List ℕ} {depth : ℕ} (a : List Token) → primary_at a ≡ Some primary.Group →
    Same (GroupParts text depth) (AnExpr text 10 depth) (GoesExpr 10) (λ t. group t.0 t.1.0) a
group_is {text} {depth} a sort = record {
  to = λ reach t b c h. expr_group h.first.mark h.first.within h.second.first h.second.second;
  from = λ reach e b c same stop is. from reach e b c (operand_of is)
      (begun a b primary.Group (operand_of is) same sort);
}
  where
    from : (reach : Reach) (e : ExprTree) (b c : List Token) (h : Operand text depth reach e b c) →
        Some primary.Group ≡ sort_of h →
        (t : Place × (ExprTree × Unit {0})) × GroupParts text depth reach t b c × (e ≡ group t.0 t.1.0)
    from reach e b c (is_group o is m) s = (
      (_, (_, tt)),
      record { between = _; first = o; second = record { between = _; first = is; second = m } },
      refl,
    )
    from reach e b c h s = absurd (cc)

-- "uint", a width and an expression in parentheses
abbrev CastParts : List ℕ → ℕ → Reach → Place × (Num × ExprTree) → List Token → List Token → Type 0
CastParts text depth = Both (λ _. IsMark (token.Word word.Uint))
    (λ _. Both (λ _. IsWidth text) (λ _. IsEnclosed text sign.OpenParenthesis sign.CloseParenthesis depth))

cast_of : {text : List ℕ} {depth : ℕ} {reach : Reach} {p : Place} {n : Num} {e : ExprTree} {a b c d : List Token} →
    IsMark (token.Word word.Uint) p a b → IsWidth text n b c →
    IsEnclosed text sign.OpenParenthesis sign.CloseParenthesis depth reach e c d →
    AnExpr text 10 depth reach (cast p n e) a d
cast_of m (width l n g) (encloses o is c) = expr_cast m l n g (mark_has o.mark) o.within is c

cast_is : {text : List ℕ} {depth : ℕ} (a : List Token) → primary_at a ≡ Some primary.Cast →
    Same (CastParts text depth) (AnExpr text 10 depth) (GoesExpr 10) (λ t. cast t.0 t.1.0 t.1.1) a
cast_is {text} {depth} a sort = record {
  to = λ reach t b c h. cast_of h.first h.second.first h.second.second;
  from = λ reach e b c same stop is. from reach e b c (operand_of is)
      (begun a b primary.Cast (operand_of is) same sort);
}
  where
    from : (reach : Reach) (e : ExprTree) (b c : List Token) (h : Operand text depth reach e b c) →
        Some primary.Cast ≡ sort_of h →
        (t : Place × (Num × ExprTree)) × CastParts text depth reach t b c × (e ≡ cast t.0 t.1.0 t.1.1)
    from reach e b c (is_cast m w is) s = (
      (_, (_, _)),
      record { between = _; first = m; second = record { between = _; first = w; second = is } },
      refl,
    )
    from reach e b c h s = absurd (cc)

-- a path, and an index behind it
abbrev pub PlaceParts : List ℕ → ℕ → Reach → List Ident × ExprTree → List Token → List Token → Type 0
PlaceParts text depth = Both (λ _. IsPath text) (λ names. IsPlaceFrom text names depth)

pub place_of : {text : List ℕ} {depth : ℕ} {reach : Reach} {names : List Ident} {e : ExprTree} {a b c : List Token} →
    IsPath text names a b → IsPlaceFrom text names depth reach e b c → AnExpr text 10 depth reach e a c
place_of p from_path = expr_path p
place_of p (from_element (encloses o is c)) = expr_element p (mark_has o.mark) o.within is c

pub place_is : {text : List ℕ} {depth : ℕ} (a : List Token) → primary_at a ≡ Some primary.Place →
    Same (PlaceParts text depth) (AnExpr text 10 depth) (GoesExpr 10) (λ t. t.1) a
place_is {text} {depth} a sort = record {
  to = λ reach t b c h. place_of h.first h.second;
  from = λ reach e b c same stop is. from reach e b c (operand_of is)
      (begun a b primary.Place (operand_of is) same sort);
}
  where
    from : (reach : Reach) (e : ExprTree) (b c : List Token) (h : Operand text depth reach e b c) →
        Some primary.Place ≡ sort_of h → (t : List Ident × ExprTree) × PlaceParts text depth reach t b c × (e ≡ t.1)
    from reach e b c (is_place p f) s = ((_, _), record { between = _; first = p; second = f }, refl)
    from reach e b c h s = absurd (cc)

-- a prefix operator and an operand
abbrev UnaryParts : List ℕ → UnaryOperator → ℕ → Reach → Place × ExprTree → List Token → List Token → Type 0
UnaryParts text op depth = Both (IsOpening (token.Sign (unary_sign op)) depth) (λ _. AnExpr text 10 (depth + 1))

unary-injective : (op other : UnaryOperator) → unary_sign op ≡ unary_sign other → op ≡ other
unary-injective unary_operator.Complement unary_operator.Complement e = refl
unary-injective unary_operator.Not unary_operator.Not e = refl
unary-injective unary_operator.Complement unary_operator.Not e = absurd (cc)
unary-injective unary_operator.Not unary_operator.Complement e = absurd (cc)

unary_is : {text : List ℕ} {depth : ℕ} (op : UnaryOperator) (a : List Token) →
    first_kind a ≡ Some (token.Sign (unary_sign op)) →
    Same (UnaryParts text op depth) (AnExpr text 10 depth) (GoesExpr 10) (λ t. unary t.0 op t.1) a
unary_is {text} {depth} op a kind = record {
  to = λ reach t b c h. expr_unary h.first.mark h.first.within h.second;
  from = λ reach e b c same stop is.
      from reach e b c same (operand_of is)
      (sym (unary_sort op) ∙ sym (primary_kind a (token.Sign (unary_sign op)) kind) ∙ sym (same_primary a b same)
      ∙ sorted (operand_of is));
}
  where
    one : {j k : TokenKind} → Some j ≡ Some k → j ≡ k
    one e = cc

    signs : {r s : Sign} → token.Sign r ≡ token.Sign s → r ≡ s
    signs e = cc

    from : (reach : Reach) (e : ExprTree) (b c : List Token) → first_of b ≡ first_of a →
        (h : Operand text depth reach e b c) →
        None ≡ sort_of h → (t : Place × ExprTree) × UnaryParts text op depth reach t b c × (e ≡ unary t.0 op t.1)
    from reach e b c same (is_unary {op = other} {p} {e = f} {b = d} o is) s =
        let kinds = one (sym (mark_kind o.mark) ∙ same_kind b a same ∙ kind) in
        let ops : other ≡ op = unary-injective other op (signs kinds) in (
          (p, f),
          record {
            between = d;
            first = subst (λ u. IsOpening (token.Sign (unary_sign u)) depth reach p b d) ops o;
            second = is;
          },
          ap (λ u. unary p u f) ops,
        )
    from reach e b c same h s = absurd (cc)

pub no_number_expr : (text : List ℕ) (depth : ℕ) (a : List Token) → primary_at a ≡ Some primary.Number → (e : Stop) →
    IsRefused (AnyOf (λ _. IsNumber text)) Nothing a e → IsRefused (AnyOf (AnExpr text 10 depth)) (GoesExpr 10) a e
no_number_expr text depth a sort e h =
    refused_in (number_is a sort) (λ deep here blocked. looser_blocked blocked) e h

pub taken_true : {text : List ℕ} {depth : ℕ} {p : Place} (a : List Token) {b : List Token} →
    primary_at a ≡ Some primary.True → Takes (λ _. IsMark (token.Word word.True)) Nothing p a b →
    Takes (AnExpr text 10 depth) (GoesExpr 10) (truth p true) a b
taken_true a sort m = takes_so (true_is a sort) (looser m)

pub no_true : (text : List ℕ) (depth : ℕ) (a : List Token) → primary_at a ≡ Some primary.True → (e : Stop) →
    IsRefused (AnyOf (TheMark (token.Word word.True))) Nothing a e →
    IsRefused (AnyOf (AnExpr text 10 depth)) (GoesExpr 10) a e
no_true text depth a sort e h =
    refused_in (true_is a sort) (λ deep here blocked. looser_blocked (with_place blocked)) e h

pub taken_false : {text : List ℕ} {depth : ℕ} {p : Place} (a : List Token) {b : List Token} →
    primary_at a ≡ Some primary.False → Takes (λ _. IsMark (token.Word word.False)) Nothing p a b →
    Takes (AnExpr text 10 depth) (GoesExpr 10) (truth p false) a b
taken_false a sort m = takes_so (false_is a sort) (looser m)

pub no_false : (text : List ℕ) (depth : ℕ) (a : List Token) → primary_at a ≡ Some primary.False → (e : Stop) →
    IsRefused (AnyOf (TheMark (token.Word word.False))) Nothing a e →
    IsRefused (AnyOf (AnExpr text 10 depth)) (GoesExpr 10) a e
no_false text depth a sort e h =
    refused_in (false_is a sort) (λ deep here blocked. looser_blocked (with_place blocked)) e h

parenthesis_parts : (reach : Reach) (x : ExprTree) (y : Unit {0}) (a b : List Token) →
    TheMark (token.Sign sign.CloseParenthesis) reach y a b → ¬ GoesExpr 10 (first_kind b) → ¬ GoesExpr 0 (first_kind a)
parenthesis_parts reach x y a b m stop goes = no_goes_parenthesis 0 (subst (GoesExpr 0) (has_kind m) goes)

pub taken_group : {text : List ℕ} {depth : ℕ} {p q : Place} {e : ExprTree} (a : List Token) {b c d : List Token} →
    primary_at a ≡ Some primary.Group → Takes (IsOpening (token.Sign sign.OpenParenthesis) depth) Nothing p a b →
    Takes (AnExpr text 0 (depth + 1)) (GoesExpr 0) e b c →
    Takes (λ _. IsMark (token.Sign sign.CloseParenthesis)) Nothing q c d →
    Takes (AnExpr text 10 depth) (GoesExpr 10) (group p e) a d
taken_group {text} {depth} a sort o r m =
    takes_so (group_is a sort)
    (takes_then o (takes_both r parenthesis_parts (looser (without_place m))))

pub no_group_opening : (text : List ℕ) (depth : ℕ) (a : List Token) → primary_at a ≡ Some primary.Group → (e : Stop) →
    IsRefused (AnyOf (IsOpening (token.Sign sign.OpenParenthesis) depth)) Nothing a e →
    IsRefused (AnyOf (AnExpr text 10 depth)) (GoesExpr 10) a e
no_group_opening text depth a sort e h =
    refused_in (group_is a sort) (λ deep here blocked. at_first blocked
    (both_word (expr_word text 0 (depth + 1)) (mark_word (token.Sign sign.CloseParenthesis)))) e h

pub no_group_expr : (text : List ℕ) {depth : ℕ} {p : Place} (a : List Token) {b : List Token} →
    primary_at a ≡ Some primary.Group → Takes (IsOpening (token.Sign sign.OpenParenthesis) depth) Nothing p a b →
    (e : Stop) → IsRefused (AnyOf (AnExpr text 0 (depth + 1))) (GoesExpr 0) b e →
    IsRefused (AnyOf (AnExpr text 10 depth)) (GoesExpr 10) a e
no_group_expr text {depth} a sort o e h =
    refused_in (group_is a sort) (λ deep here blocked. at_second o
    (blocked_first blocked (mark_word (token.Sign sign.CloseParenthesis)) parenthesis_parts)) e h

pub no_group_closing : {text : List ℕ} {depth : ℕ} {p : Place} {x : ExprTree} (a : List Token) {b c : List Token} →
    primary_at a ≡ Some primary.Group → Takes (IsOpening (token.Sign sign.OpenParenthesis) depth) Nothing p a b →
    Takes (AnExpr text 0 (depth + 1)) (GoesExpr 0) x b c → (e : Stop) →
    IsRefused (AnyOf (TheMark (token.Sign sign.CloseParenthesis))) Nothing c e →
    IsRefused (AnyOf (AnExpr text 10 depth)) (GoesExpr 10) a e
no_group_closing {text} {depth} a sort o r e h =
    refused_in (group_is a sort) (λ deep here blocked. at_second o
    (blocked_second r parenthesis_parts (looser_blocked blocked))) e h

pub enclosed_word : {X : Type 0} (text : List ℕ) (opening closing : Sign) (depth : ℕ) →
    AnyWord {X = X} (λ x. IsEnclosed text opening closing depth)
enclosed_word text opening closing depth =
    let o = mark_word {X = Unit {0}} (token.Sign opening) in
    let i = expr_word {X = Unit {0}} text 0 (depth + 1) in
    let c = mark_word {X = Unit {0}} (token.Sign closing) in
    record {
      word = o.word ++ (i.word ++ c.word);
      spells = λ x size behind fits.
          let split : (o.word ++ (i.word ++ c.word)) ++ behind ≡ o.word ++ (i.word ++ (c.word ++ behind)) =
          append_assoc o.word (i.word ++ c.word) behind ∙ ap (λ l. o.word ++ l) (append_assoc i.word c.word behind) in
          let sizes = ap length split in
          let one = o.spells tt size (i.word ++ (c.word ++ behind)) (omega arith) in
          let two = i.spells tt size (c.word ++ behind)
          (omega (arith, length-append o.word (i.word ++ (c.word ++ behind)))) in
          let three = c.spells tt size behind
          (omega (
            arith,
            length-append o.word (i.word ++ (c.word ++ behind)),
            length-append i.word (c.word ++ behind),
          )) in (
            two.0,
            subst (λ l. IsEnclosed text opening closing depth (all_but size) two.0 l behind) (sym split)
                (encloses (opening_of one.1 (λ inside. absurd (omega arith))).1 two.1 three.1),
          );
    }

pub taken_cast : {text : List ℕ} {depth : ℕ} {p : Place} {n : Num} {e : ExprTree} (a : List Token)
    {b c d : List Token} → primary_at a ≡ Some primary.Cast → Takes (λ _. IsMark (token.Word word.Uint)) Nothing p a b →
    Takes (λ _. IsWidth text) Nothing n b c →
    Takes (IsEnclosed text sign.OpenParenthesis sign.CloseParenthesis depth) Nothing e c d →
    Takes (AnExpr text 10 depth) (GoesExpr 10) (cast p n e) a d
taken_cast a sort m w r = takes_so (cast_is a sort) (takes_then m (takes_then w (looser r)))

pub no_cast_uint : (text : List ℕ) (depth : ℕ) (a : List Token) → primary_at a ≡ Some primary.Cast → (e : Stop) →
    IsRefused (AnyOf (TheMark (token.Word word.Uint))) Nothing a e →
    IsRefused (AnyOf (AnExpr text 10 depth)) (GoesExpr 10) a e
no_cast_uint text depth a sort e h =
    refused_in (cast_is a sort) (λ deep here blocked. at_first (with_place blocked)
    (both_word (width_word text) (enclosed_word text sign.OpenParenthesis sign.CloseParenthesis depth))) e h

pub no_cast_width : (text : List ℕ) (depth : ℕ) {p : Place} (a : List Token) {b : List Token} →
    primary_at a ≡ Some primary.Cast → Takes (λ _. IsMark (token.Word word.Uint)) Nothing p a b → (e : Stop) →
    IsRefused (AnyOf (λ _. IsWidth text)) Nothing b e → IsRefused (AnyOf (AnExpr text 10 depth)) (GoesExpr 10) a e
no_cast_width text depth a sort m e h =
    refused_in (cast_is a sort) (λ deep here blocked. at_second m
    (at_first blocked (enclosed_word text sign.OpenParenthesis sign.CloseParenthesis depth))) e h

pub no_cast_expr : {text : List ℕ} (depth : ℕ) {p : Place} {n : Num} (a : List Token) {b c : List Token} →
    primary_at a ≡ Some primary.Cast → Takes (λ _. IsMark (token.Word word.Uint)) Nothing p a b →
    Takes (λ _. IsWidth text) Nothing n b c → (e : Stop) →
    IsRefused (AnyOf (IsEnclosed text sign.OpenParenthesis sign.CloseParenthesis depth)) Nothing c e →
    IsRefused (AnyOf (AnExpr text 10 depth)) (GoesExpr 10) a e
no_cast_expr depth a sort m w e h =
    refused_in (cast_is a sort) (λ deep here blocked. at_second m (at_second w (looser_blocked blocked))) e
    h

-- what stands behind a path does not go on with it
pub place_parts : {text : List ℕ} {depth : ℕ} (reach : Reach) (x : List Ident) (y : ExprTree) (a b : List Token) →
    IsPlaceFrom text x depth reach y a b → ¬ GoesExpr 10 (first_kind b) → ¬ GoesOn sign.Dot Nothing (first_kind a)
place_parts reach x y a b from_path stop (inl dot) = stop (goes_dot dot)
place_parts reach x y a b from_path stop (inr none) = none
place_parts reach x y a b (from_element (encloses o is c)) stop (inl dot) =
    let kinds : Some (token.Sign sign.OpenBracket) ≡ Some (token.Sign sign.Dot) = sym (mark_kind o.mark) ∙ dot in
    cc
place_parts reach x y a b (from_element (encloses o is c)) stop (inr none) = none

pub taken_place : {text : List ℕ} {depth : ℕ} {names : List Ident} {e : ExprTree} (a : List Token) {b c : List Token} →
    primary_at a ≡ Some primary.Place → Takes (λ _. IsPath text) (GoesOn sign.Dot Nothing) names a b →
    Takes (IsPlaceFrom text names depth) (GoesExpr 10) e b c → Takes (AnExpr text 10 depth) (GoesExpr 10) e a c
taken_place a sort r s = takes_so (place_is a sort) (takes_both r place_parts s)

pub place_word : (text : List ℕ) (depth : ℕ) → AnyWord (λ (names : List Ident). IsPlaceFrom text names depth)
place_word text depth = record { word = []; spells = λ names size behind fits. (path names, from_path) }

pub no_place_path : (text : List ℕ) (depth : ℕ) (a : List Token) → primary_at a ≡ Some primary.Place → (e : Stop) →
    IsRefused (AnyOf (λ _. IsPath text)) (GoesOn sign.Dot Nothing) a e →
    IsRefused (AnyOf (AnExpr text 10 depth)) (GoesExpr 10) a e
no_place_path text depth a sort e h =
    refused_in (place_is a sort) (λ deep here blocked. blocked_first blocked (place_word text depth) place_parts) e h

pub no_place_from : {text : List ℕ} (depth : ℕ) {names : List Ident} (a : List Token) {b : List Token} →
    primary_at a ≡ Some primary.Place → Takes (λ _. IsPath text) (GoesOn sign.Dot Nothing) names a b → (e : Stop) →
    IsRefused (AnyOf (IsPlaceFrom text names depth)) (GoesExpr 10) b e →
    IsRefused (AnyOf (AnExpr text 10 depth)) (GoesExpr 10) a e
no_place_from depth a sort r e h =
    refused_in (place_is a sort) (λ deep here blocked. blocked_second r place_parts blocked) e h

pub taken_unary : {text : List ℕ} {depth : ℕ} {p : Place} {e : ExprTree} (op : UnaryOperator) (k : TokenKind)
    (a : List Token) {b c : List Token} → k ≡ token.Sign (unary_sign op) → first_kind a ≡ Some k →
    Takes (IsOpening k depth) Nothing p a b → Takes (AnExpr text 10 (depth + 1)) (GoesExpr 10) e b c →
    Takes (AnExpr text 10 depth) (GoesExpr 10) (unary p op e) a c
taken_unary {depth} {p} op k a {b} is kind o r =
    takes_so (unary_is op a (kind ∙ ap Some is))
    (takes_then (subst (λ l. Takes (IsOpening l depth) Nothing p a b) is o) r)

pub no_unary_opening : (text : List ℕ) (depth : ℕ) (op : UnaryOperator) (k : TokenKind) (a : List Token) →
    k ≡ token.Sign (unary_sign op) → first_kind a ≡ Some k → (e : Stop) →
    IsRefused (AnyOf (IsOpening k depth)) Nothing a e → IsRefused (AnyOf (AnExpr text 10 depth)) (GoesExpr 10) a e
no_unary_opening text depth op k a is kind e h =
    refused_in (unary_is op a (kind ∙ ap Some is)) (λ deep here blocked. at_first blocked
    (expr_word text 10 (depth + 1))) e (subst (λ l. IsRefused (AnyOf (IsOpening l depth)) Nothing a e) is h)

pub no_unary_operand : (text : List ℕ) {depth : ℕ} {p : Place} (op : UnaryOperator) (k : TokenKind) (a : List Token)
    {b : List Token} → k ≡ token.Sign (unary_sign op) → first_kind a ≡ Some k →
    Takes (IsOpening k depth) Nothing p a b →
    (e : Stop) → IsRefused (AnyOf (AnExpr text 10 (depth + 1))) (GoesExpr 10) b e →
    IsRefused (AnyOf (AnExpr text 10 depth)) (GoesExpr 10) a e
no_unary_operand text {depth} {p} op k a {b} is kind o e h =
    refused_in (unary_is op a (kind ∙ ap Some is)) (λ deep here blocked.
    at_second (subst (λ l. Takes (IsOpening l depth) Nothing p a b) is o) blocked) e h

-- no operand begins here
pub no_operand : (text : List ℕ) (depth : ℕ) (a : List Token) → primary_at a ≡ None →
    ((op : UnaryOperator) → first_kind a ≢ Some (token.Sign (unary_sign op))) →
    IsBlocked (AnyOf (AnExpr text 10 depth)) (GoesExpr 10) false a a
no_operand text depth a sort none = record {
  front = [];
  whole = refl;
  more = (expr_word {X = Unit {0}} text 10 depth).word;
  completes = λ behind.
      let word = (expr_word {X = Unit {0}} text 10 depth).word in
      (expr_word {X = Unit {0}} text 10 depth).spells tt (length (word ++ behind)) behind (omega arith);
  goes_on = λ deep. absurd (let never : false ≡ true = deep in cc);
  stuck = λ reach other rest same within stop is.
      go other (operand_of is.1) same (sym sort ∙ sym (same_primary a other same) ∙ sorted (operand_of is.1));
}
  where
    go : {reach : Reach} {e : ExprTree} {c : List Token} (b : List Token) (h : Operand text depth reach e b c) →
        first_of b ≡ first_of a → None ≡ sort_of h → ⊥
    go b (is_unary {op} o e) same s = none op (sym (same_kind b a same) ∙ mark_kind o.mark)
    go b h same s = cc

pub taken_path_alone : {text : List ℕ} {depth : ℕ} {names : List Ident} (a : List Token) →
    ¬ (first_kind a ≡ Some (token.Sign sign.OpenBracket)) →
    Takes (IsPlaceFrom text names depth) (GoesExpr 10) (path names) a a
taken_path_alone {text} {depth} {names} a none = record {
  front = [];
  whole = refl;
  is = λ reach behind. from_path;
  sole = λ reach e other after same stop h. go reach e other after same h;
}
  where
    go : (reach : Reach) (e : ExprTree) (other after : List Token) → first_of other ≡ first_of a →
        IsPlaceFrom text names depth reach e other after → (e ≡ path names) × (after ≡ other)
    go reach e other after same from_path = (refl, refl)
    go reach e other after same (from_element (encloses o is c)) =
        absurd (none (sym (same_kind other a same) ∙ mark_kind o.mark))

element_is : {text : List ℕ} {depth : ℕ} (names : List Ident) (a : List Token) →
    first_kind a ≡ Some (token.Sign sign.OpenBracket) →
    Same (IsEnclosed text sign.OpenBracket sign.CloseBracket depth) (IsPlaceFrom text names depth) (GoesExpr 10)
    (element names) a
element_is {text} {depth} names a kind = record {
  to = λ reach e b c h. from_element h;
  from = λ reach e b c same stop h. from reach e b c same stop h;
}
  where
    from : (reach : Reach) (e : ExprTree) (b c : List Token) → first_of b ≡ first_of a → ¬ GoesExpr 10 (first_kind c) →
        IsPlaceFrom text names depth reach e b c →
        (i : ExprTree) × IsEnclosed text sign.OpenBracket sign.CloseBracket depth reach i b c × (e ≡ element names i)
    from reach e b c same stop from_path = absurd (stop (goes_bracket (same_kind b a same ∙ kind)))
    from reach e b c same stop (from_element h) = (_, h, refl)

pub taken_element : {text : List ℕ} {depth : ℕ} {e : ExprTree} (names : List Ident) (a : List Token) {b : List Token} →
    first_kind a ≡ Some (token.Sign sign.OpenBracket) →
    Takes (IsEnclosed text sign.OpenBracket sign.CloseBracket depth) Nothing e a b →
    Takes (IsPlaceFrom text names depth) (GoesExpr 10) (element names e) a b
taken_element names a kind r = takes_so (element_is names a kind) (looser r)

pub no_element : (text : List ℕ) (depth : ℕ) (names : List Ident) (a : List Token) →
    first_kind a ≡ Some (token.Sign sign.OpenBracket) → (e : Stop) →
    IsRefused (AnyOf (IsEnclosed text sign.OpenBracket sign.CloseBracket depth)) Nothing a e →
    IsRefused (AnyOf (IsPlaceFrom text names depth)) (GoesExpr 10) a e
no_element text depth names a kind e h =
    refused_in (element_is names a kind) (λ deep here blocked. looser_blocked blocked) e h
