-- Forms that may stand here, by their first tokens, and forms in parentheses.
use Rattle.std.proofs.Common.{◌≡◌, ℕ, ◌+◌, inl, inr, Bool, Option, Some, None, List, [], ◌∷◌, refl, sym, ◌∙◌, subst, arith}
use Rattle.tm_base.specs.declared.place.Place.{Place}
use Rattle.tm_syntax.specs.declared.token.Token.{Token}
use Rattle.tm_syntax.specs.declared.token.TokenKind.{TokenKind}
use Rattle.tm_syntax.specs.declared.token.TokenKind.TheVariants as token
use Rattle.tm_syntax.specs.declared.token.Sign.TheVariants as sign
use Rattle.tm_syntax.specs.Grammar.Parts.{Has, IsMark, IsOptional, optional_none, optional_some, AreParted, parted_one, enclosed, enclosed_none, enclosed_some, arguments_none, arguments_some}
use Rattle.tm_parse.specs.declared.stop.Stop.{Stop}
use Rattle.tm_parse.specs.Reading.{Reach, IsBound, first_of, first_kind, IsBlocked, IsRefused, Takes, AnyOf, Nothing, TheMark, IsOpening, GoesOn}
use Rattle.tm_parse.specs.Commands.{GoesAt, InArguments}
use Rattle.tm_parse.specs.Items.{InParentheses}
use Rattle.tm_parse.proofs.Lists.{First, alone, before, first_view}
use Rattle.tm_parse.proofs.Primaries.{looser, looser_blocked}
use Rattle.tm_parse.proofs.Taking.{Both, Same, AnyWord, same_kind, takes_both, takes_then, takes_so, at_first, at_second, blocked_first, blocked_second, blocked_so, both_word, refused_in}
use Rattle.tm_parse.proofs.Terminals.{mark_has, has_kind, has_mark, mark_word, without_place, token_of, token_kind}

-- what goes on with more is the same form
pub wider : {X : Type 0} {Is : Reach → X → List Token → List Token → Type 0} {Goes Stops : Option TokenKind → Type 0}
    {x : X} {a b : List Token} → ((kind : Option TokenKind) → Goes kind → Stops kind) → Takes Is Goes x a b →
    Takes Is Stops x a b
wider more r = record {
  front = r.front;
  whole = r.whole;
  is = r.is;
  sole = λ reach y other after same stop is. r.sole reach y other after same (λ goes. stop (more _ goes)) is;
}

pub wider_blocked : {Is : Reach → List Token → List Token → Type 0} {Goes Stops : Option TokenKind → Type 0}
    {deep : Bool} {a here : List Token} → ((kind : Option TokenKind) → Goes kind → Stops kind) →
    IsBlocked Is Goes deep a here → IsBlocked Is Stops deep a here
wider_blocked more h = record {
  front = h.front;
  whole = h.whole;
  more = h.more;
  completes = h.completes;
  goes_on = h.goes_on;
  stuck = λ reach other rest same within stop is. h.stuck reach other rest same within (λ goes. stop (more _ goes)) is;
}

-- a token that opens a level
pub opening_word : {X : Type 0} (k : TokenKind) (depth : ℕ) → AnyWord {X = X} (λ x. IsOpening k depth)
opening_word k depth = record {
  word = token_of k ∷ [];
  spells = λ x size behind fits.
      let m = has_mark {k = k} (record { first = token_of k; whole = refl; is = token_kind k }) in
      (m.0, record { mark = m.1; within = λ inside. absurd (omega arith) });
}

-- the tokens of a form that another one is
pub word_so : {W X Y : Type 0} {Is : W → Reach → X → List Token → List Token → Type 0}
    {Or : W → Reach → Y → List Token → List Token → Type 0} (tree : W → X → Y) →
    ((w : W) (reach : Reach) (x : X) (a b : List Token) → Is w reach x a b → Or w reach (tree w x) a b) → AnyWord Is →
    AnyWord Or
word_so tree to v = record {
  word = v.word;
  spells = λ w size behind fits. let one = v.spells w size behind fits in (tree w one.0, to w _ _ _ _ one.1);
}

-- a kind of a first token is no other
pub other_kind : {k l : TokenKind} {kind : Option TokenKind} → kind ≡ Some k → kind ≡ Some l → Some k ≡ Some l
other_kind one other = sym one ∙ other

-- forms that begin with a token of this kind
pub record BeginsAt {X : Type 0} (Is : Reach → X → List Token → List Token → Type 0) (k : TokenKind) : Type 0 where
  pub kind : (reach : Reach) (x : X) (a b : List Token) → Is reach x a b → first_kind a ≡ Some k

-- none of them stands here
pub taken_absent : {X : Type 0} {Is : Reach → X → List Token → List Token → Type 0} {k : TokenKind} (a : List Token) →
    BeginsAt Is k → ¬ (first_kind a ≡ Some k) → Takes (λ reach. IsOptional (Is reach)) (GoesAt k) None a a
taken_absent {X} {Is} {k} a at none = record {
  front = [];
  whole = refl;
  is = λ reach behind. optional_none;
  sole = λ reach y other after same stop is. go reach y other after same is;
}
  where
    go : (reach : Reach) (y : Option X) (other after : List Token) → first_of other ≡ first_of a →
        IsOptional (Is reach) y other after → (y ≡ None) × (after ≡ other)
    go reach y other after same optional_none = (refl, refl)
    go reach y other after same (optional_some is) =
        absurd (none (sym (same_kind other a same) ∙ at.kind reach _ other after is))

-- one of them stands here
pub present_is : {X : Type 0} {Is : Reach → X → List Token → List Token → Type 0} {k : TokenKind} (a : List Token) →
    first_kind a ≡ Some k → Same Is (λ reach. IsOptional (Is reach)) (GoesAt k) Some a
present_is {X} {Is} {k} a kind = record {
  to = λ reach x b c is. optional_some is;
  from = λ reach y b c same stop is. from reach y b c same stop is;
}
  where
    from : (reach : Reach) (y : Option X) (b c : List Token) → first_of b ≡ first_of a → ¬ GoesAt k (first_kind c) →
        IsOptional (Is reach) y b c → (x : X) × Is reach x b c × (y ≡ Some x)
    from reach y b c same stop optional_none = absurd (stop (same_kind b a same ∙ kind))
    from reach y b c same stop (optional_some is) = (_, is, refl)

-- forms that may stand in a list in parentheses
pub record Listed {X : Type 0} (Is : Reach → X → List Token → List Token → Type 0) (Goes : Option TokenKind → Type 0) :
    Type 0 where
  pub comma : ¬ Goes (Some (token.Sign sign.Comma))
  pub close : ¬ Goes (Some (token.Sign sign.CloseParenthesis))
  pub begins : (reach : Reach) (x : X) (a b : List Token) → Is reach x a b →
      ¬ (first_kind a ≡ Some (token.Sign sign.CloseParenthesis))
  pub word : AnyWord {X = Unit {0}} (λ x. Is)

-- the sign that closes goes on with no list
close_parts : {X : Type 0} {Is : Reach → X → List Token → List Token → Type 0} {Goes : Option TokenKind → Type 0} →
    Listed Is Goes → (reach : Reach) (xs : List X) (y : Unit {0}) (a b : List Token) →
    TheMark (token.Sign sign.CloseParenthesis) reach y a b → ¬ Nothing (first_kind b) →
    ¬ GoesOn sign.Comma Goes (first_kind a)
close_parts listed reach xs y a b m stop (inl comma) = let e = other_kind (has_kind m) comma in cc
close_parts {Goes} listed reach xs y a b m stop (inr goes) = listed.close (subst Goes (has_kind m) goes)

-- a list and the sign that closes, or the sign alone
pub data IsClosed {X : Type 0} (Is : X → List Token → List Token → Type 0) : List X → List Token → List Token →
    Type 0 where
  closed_none : {a b : List Token} → Has (token.Sign sign.CloseParenthesis) a b → IsClosed Is [] a b
  closed_some : {xs : List X} {a b c : List Token} → AreParted sign.Comma Is xs a b →
      Has (token.Sign sign.CloseParenthesis) b c → IsClosed Is xs a c

abbrev pub ArgumentsParts : ℕ → {X : Type 0} → (Reach → X → List Token → List Token → Type 0) → Reach →
    Place × List X → List Token → List Token → Type 0
ArgumentsParts depth {X} Is =
    Both (IsOpening (token.Sign sign.OpenParenthesis) depth) (λ p reach. IsClosed (Is reach))

opening_at : {k : TokenKind} {depth : ℕ} {reach : Reach} {a b : List Token} → Has k a b → IsBound reach a (depth + 1) →
    (p : Place) × IsOpening k depth reach p a b
opening_at m w = let at = has_mark m in (at.0, record { mark = at.1; within = w })

arguments_to : {X : Type 0} (Is : Reach → X → List Token → List Token → Type 0) {depth : ℕ} {p : Place} (reach : Reach)
    (xs : List X) (a b c : List Token) → IsOpening (token.Sign sign.OpenParenthesis) depth reach p a b →
    IsClosed (Is reach) xs b c → InArguments depth Is reach xs a c
arguments_to Is reach xs a b c o (closed_none m) = arguments_none (mark_has o.mark) o.within m
arguments_to Is reach xs a b c o (closed_some are m) = arguments_some (enclosed (mark_has o.mark) o.within are m)

pub arguments_is : {X : Type 0} {Is : Reach → X → List Token → List Token → Type 0} {depth : ℕ} (a : List Token) →
    Same (ArgumentsParts depth Is) (InArguments depth Is) Nothing (λ t. t.1) a
arguments_is {X} {Is} {depth} a = record {
  to = λ reach t b c h. arguments_to Is reach t.1 b h.between c h.first h.second;
  from = λ reach xs b c same stop h. from reach xs b c h;
}
  where
    from : (reach : Reach) (xs : List X) (b c : List Token) → InArguments depth Is reach xs b c →
        (t : Place × List X) × ArgumentsParts depth Is reach t b c × (xs ≡ t.1)
    from reach xs b c (arguments_none o w m) =
        let at = opening_at {depth = depth} {reach = reach} o w in
        ((at.0, []), record { between = _; first = at.1; second = closed_none m }, refl)
    from reach xs b c (arguments_some (enclosed o w are m)) =
        let at = opening_at {depth = depth} {reach = reach} o w in
        ((at.0, xs), record { between = _; first = at.1; second = closed_some are m }, refl)

-- no list begins with the sign that closes
pub row_begins : {X : Type 0} {Is : Reach → X → List Token → List Token → Type 0} {Goes : Option TokenKind → Type 0}
    {reach : Reach} {xs : List X} {a b : List Token} → Listed Is Goes → First sign.Comma (Is reach) xs a b →
    ¬ (first_kind a ≡ Some (token.Sign sign.CloseParenthesis))
row_begins listed (alone is) = listed.begins _ _ _ _ is
row_begins listed (before is m others) = listed.begins _ _ _ _ is

-- the sign alone
empty_is : {X : Type 0} {Is : Reach → X → List Token → List Token → Type 0} {Goes : Option TokenKind → Type 0}
    (a : List Token) → Listed Is Goes → first_kind a ≡ Some (token.Sign sign.CloseParenthesis) →
    Same (TheMark (token.Sign sign.CloseParenthesis)) (λ reach. IsClosed (Is reach)) Nothing (λ u. []) a
empty_is {X} {Is} a listed kind = record {
  to = λ reach u b c m. closed_none m;
  from = λ reach xs b c same stop h. from reach xs b c same h;
}
  where
    from : (reach : Reach) (xs : List X) (b c : List Token) → first_of b ≡ first_of a → IsClosed (Is reach) xs b c →
        (u : Unit {0}) × TheMark (token.Sign sign.CloseParenthesis) reach u b c × (xs ≡ [])
    from reach xs b c same (closed_none m) = (tt, m, refl)
    from reach xs b c same (closed_some are m) =
        absurd (row_begins listed (first_view are) (same_kind b a same ∙ kind))

-- a list and the sign
abbrev FilledParts : {X : Type 0} → (Reach → X → List Token → List Token → Type 0) → Reach → List X × Unit {0} →
    List Token → List Token → Type 0
FilledParts {X} Is = Both (λ reach. AreParted sign.Comma (Is reach)) (λ xs. TheMark (token.Sign sign.CloseParenthesis))

filled_is : {X : Type 0} {Is : Reach → X → List Token → List Token → Type 0} (a : List Token) →
    ¬ (first_kind a ≡ Some (token.Sign sign.CloseParenthesis)) →
    Same (FilledParts Is) (λ reach. IsClosed (Is reach)) Nothing (λ t. t.0) a
filled_is {X} {Is} a none = record {
  to = λ reach t b c h. closed_some h.first h.second;
  from = λ reach xs b c same stop h. from reach xs b c same h;
}
  where
    from : (reach : Reach) (xs : List X) (b c : List Token) → first_of b ≡ first_of a → IsClosed (Is reach) xs b c →
        (t : List X × Unit {0}) × FilledParts Is reach t b c × (xs ≡ t.0)
    from reach xs b c same (closed_none m) = absurd (none (sym (same_kind b a same) ∙ has_kind m))
    from reach xs b c same (closed_some are m) =
        ((_, tt), record { between = _; first = are; second = m }, refl)

close_word : {X Y : Type 0} (Is : Reach → X → List Token → List Token → Type 0) →
    AnyWord {X = Y} (λ y reach. IsClosed (Is reach))
close_word Is =
    word_so (λ w x. []) (λ w reach x a b m. closed_none m) (mark_word (token.Sign sign.CloseParenthesis))

pub taken_empty : {X : Type 0} {Is : Reach → X → List Token → List Token → Type 0} {Goes : Option TokenKind → Type 0}
    {depth : ℕ} {p q : Place} {a b c : List Token} → Listed Is Goes →
    first_kind b ≡ Some (token.Sign sign.CloseParenthesis) →
    Takes (IsOpening (token.Sign sign.OpenParenthesis) depth) Nothing p a b →
    Takes (λ _. IsMark (token.Sign sign.CloseParenthesis)) Nothing q b c → Takes (InArguments depth Is) Nothing [] a c
taken_empty {b} listed kind o m =
    takes_so (arguments_is _) (takes_then o (takes_so (empty_is b listed kind) (without_place m)))

pub taken_filled : {X : Type 0} {Is : Reach → X → List Token → List Token → Type 0} {Goes : Option TokenKind → Type 0}
    {depth : ℕ} {p q : Place} {xs : List X} {a b c d : List Token} → Listed Is Goes →
    ¬ (first_kind b ≡ Some (token.Sign sign.CloseParenthesis)) →
    Takes (IsOpening (token.Sign sign.OpenParenthesis) depth) Nothing p a b →
    Takes (λ reach. AreParted sign.Comma (Is reach)) (GoesOn sign.Comma Goes) xs b c →
    Takes (λ _. IsMark (token.Sign sign.CloseParenthesis)) Nothing q c d → Takes (InArguments depth Is) Nothing xs a d
taken_filled {b} listed none o r m =
    takes_so (arguments_is _)
    (takes_then o (takes_so (filled_is b none) (takes_both r (close_parts listed) (without_place m))))

pub no_arguments_opening : {X : Type 0} (Is : Reach → X → List Token → List Token → Type 0) (depth : ℕ)
    (a : List Token) (e : Stop) → IsRefused (AnyOf (IsOpening (token.Sign sign.OpenParenthesis) depth)) Nothing a e →
    IsRefused (AnyOf (InArguments depth Is)) Nothing a e
no_arguments_opening Is depth a e h =
    refused_in (arguments_is a) (λ deep here blocked. at_first blocked (close_word Is)) e h

pub no_arguments_list : {X : Type 0} {Is : Reach → X → List Token → List Token → Type 0}
    {Goes : Option TokenKind → Type 0} {depth : ℕ} {p : Place} {a b : List Token} → Listed Is Goes →
    ¬ (first_kind b ≡ Some (token.Sign sign.CloseParenthesis)) →
    Takes (IsOpening (token.Sign sign.OpenParenthesis) depth) Nothing p a b → (e : Stop) →
    IsRefused (AnyOf (λ reach. AreParted sign.Comma (Is reach))) (GoesOn sign.Comma Goes) b e →
    IsRefused (AnyOf (InArguments depth Is)) Nothing a e
no_arguments_list {b} listed none o e h =
    refused_in (arguments_is _) (λ deep here blocked. at_second o (blocked_so (filled_is b none)
    (blocked_first blocked (mark_word (token.Sign sign.CloseParenthesis)) (close_parts listed)))) e h

pub no_arguments_closing : {X : Type 0} {Is : Reach → X → List Token → List Token → Type 0}
    {Goes : Option TokenKind → Type 0} {depth : ℕ} {p : Place} {xs : List X} {a b c : List Token} → Listed Is Goes →
    ¬ (first_kind b ≡ Some (token.Sign sign.CloseParenthesis)) →
    Takes (IsOpening (token.Sign sign.OpenParenthesis) depth) Nothing p a b →
    Takes (λ reach. AreParted sign.Comma (Is reach)) (GoesOn sign.Comma Goes) xs b c → (e : Stop) →
    IsRefused (AnyOf (TheMark (token.Sign sign.CloseParenthesis))) Nothing c e →
    IsRefused (AnyOf (InArguments depth Is)) Nothing a e
no_arguments_closing {b} listed none o r e h =
    refused_in (arguments_is _) (λ deep here blocked. at_second o (blocked_so (filled_is b none)
    (blocked_second r (close_parts listed) blocked))) e h

pub arguments_word : {X Y : Type 0} (Is : Reach → X → List Token → List Token → Type 0) (depth : ℕ) →
    AnyWord {X = Y} (λ y. InArguments depth Is)
arguments_word Is depth =
    word_so (λ w t. t.1) (λ w reach t a b h. (arguments_is a).to reach t a b h)
    (both_word (opening_word (token.Sign sign.OpenParenthesis) depth) (close_word Is))

-- a list in parentheses
abbrev EnclosedParts : ℕ → {X : Type 0} → (Reach → X → List Token → List Token → Type 0) → Reach →
    Place × (List X × Unit {0}) → List Token → List Token → Type 0
EnclosedParts depth {X} Is = Both (IsOpening (token.Sign sign.OpenParenthesis) depth) (λ _. FilledParts Is)

list_is : {X : Type 0} {Is : Reach → X → List Token → List Token → Type 0} {depth : ℕ} (a : List Token) →
    first_kind a ≡ Some (token.Sign sign.OpenParenthesis) →
    Same (EnclosedParts depth Is) (InParentheses depth Is) (GoesAt (token.Sign sign.OpenParenthesis)) (λ t. t.1.0) a
list_is {X} {Is} {depth} a kind = record {
  to = λ reach t b c h.
      enclosed_some (enclosed (mark_has h.first.mark) h.first.within h.second.first h.second.second);
  from = λ reach xs b c same stop h. from reach xs b c same stop h;
}
  where
    from : (reach : Reach) (xs : List X) (b c : List Token) → first_of b ≡ first_of a →
        ¬ GoesAt (token.Sign sign.OpenParenthesis) (first_kind c) → InParentheses depth Is reach xs b c →
        (t : Place × (List X × Unit {0})) × EnclosedParts depth Is reach t b c × (xs ≡ t.1.0)
    from reach xs b c same stop enclosed_none = absurd (stop (same_kind b a same ∙ kind))
    from reach xs b c same stop (enclosed_some (enclosed o w are m)) =
        let at = opening_at {depth = depth} {reach = reach} o w in (
          (at.0, (xs, tt)),
          record { between = _; first = at.1; second = record { between = _; first = are; second = m } },
          refl,
        )

parted_word : {X Y : Type 0} {Is : Reach → X → List Token → List Token → Type 0} {Goes : Option TokenKind → Type 0} →
    Listed Is Goes → AnyWord {X = Y} (λ y reach. AreParted sign.Comma (Is reach))
parted_word listed = record {
  word = listed.word.word;
  spells = λ y size behind fits.
      let one = listed.word.spells tt size behind fits in (one.0 ∷ [], parted_one one.1);
}

pub taken_list : {X : Type 0} {Is : Reach → X → List Token → List Token → Type 0} {Goes : Option TokenKind → Type 0}
    {depth : ℕ} {p q : Place} {xs : List X} (a : List Token) {b c d : List Token} → Listed Is Goes →
    first_kind a ≡ Some (token.Sign sign.OpenParenthesis) →
    Takes (IsOpening (token.Sign sign.OpenParenthesis) depth) Nothing p a b →
    Takes (λ reach. AreParted sign.Comma (Is reach)) (GoesOn sign.Comma Goes) xs b c →
    Takes (λ _. IsMark (token.Sign sign.CloseParenthesis)) Nothing q c d →
    Takes (InParentheses depth Is) (GoesAt (token.Sign sign.OpenParenthesis)) xs a d
taken_list a listed kind o r m =
    takes_so (list_is a kind) (looser (takes_then o (takes_both r (close_parts listed) (without_place m))))

pub no_list_opening : {X : Type 0} {Is : Reach → X → List Token → List Token → Type 0}
    {Goes : Option TokenKind → Type 0} (depth : ℕ) (a : List Token) → Listed Is Goes →
    first_kind a ≡ Some (token.Sign sign.OpenParenthesis) → (e : Stop) →
    IsRefused (AnyOf (IsOpening (token.Sign sign.OpenParenthesis) depth)) Nothing a e →
    IsRefused (AnyOf (InParentheses depth Is)) (GoesAt (token.Sign sign.OpenParenthesis)) a e
no_list_opening depth a listed kind e h =
    refused_in (list_is a kind) (λ deep here blocked. looser_blocked (at_first blocked
    (both_word (parted_word listed) (mark_word (token.Sign sign.CloseParenthesis))))) e h

pub no_list_list : {X : Type 0} {Is : Reach → X → List Token → List Token → Type 0}
    {Goes : Option TokenKind → Type 0} {depth : ℕ} {p : Place} (a : List Token) {b : List Token} → Listed Is Goes →
    first_kind a ≡ Some (token.Sign sign.OpenParenthesis) →
    Takes (IsOpening (token.Sign sign.OpenParenthesis) depth) Nothing p a b → (e : Stop) →
    IsRefused (AnyOf (λ reach. AreParted sign.Comma (Is reach))) (GoesOn sign.Comma Goes) b e →
    IsRefused (AnyOf (InParentheses depth Is)) (GoesAt (token.Sign sign.OpenParenthesis)) a e
no_list_list a listed kind o e h =
    refused_in (list_is a kind) (λ deep here blocked. looser_blocked (at_second o
    (blocked_first blocked (mark_word (token.Sign sign.CloseParenthesis)) (close_parts listed)))) e h

pub no_list_closing : {X : Type 0} {Is : Reach → X → List Token → List Token → Type 0}
    {Goes : Option TokenKind → Type 0} {depth : ℕ} {p : Place} {xs : List X} (a : List Token) {b c : List Token} →
    Listed Is Goes → first_kind a ≡ Some (token.Sign sign.OpenParenthesis) →
    Takes (IsOpening (token.Sign sign.OpenParenthesis) depth) Nothing p a b →
    Takes (λ reach. AreParted sign.Comma (Is reach)) (GoesOn sign.Comma Goes) xs b c → (e : Stop) →
    IsRefused (AnyOf (TheMark (token.Sign sign.CloseParenthesis))) Nothing c e →
    IsRefused (AnyOf (InParentheses depth Is)) (GoesAt (token.Sign sign.OpenParenthesis)) a e
no_list_closing a listed kind o r e h =
    refused_in (list_is a kind) (λ deep here blocked. looser_blocked (at_second o
    (blocked_second r (close_parts listed) blocked))) e h

-- no list stands here
pub taken_no_list : {X : Type 0} {Is : Reach → X → List Token → List Token → Type 0} {depth : ℕ} (a : List Token) →
    ¬ (first_kind a ≡ Some (token.Sign sign.OpenParenthesis)) →
    Takes (InParentheses depth Is) (GoesAt (token.Sign sign.OpenParenthesis)) [] a a
taken_no_list {X} {Is} {depth} a none = record {
  front = [];
  whole = refl;
  is = λ reach behind. enclosed_none;
  sole = λ reach xs other after same stop is. go reach xs other after same is;
}
  where
    go : (reach : Reach) (xs : List X) (other after : List Token) → first_of other ≡ first_of a →
        InParentheses depth Is reach xs other after → (xs ≡ []) × (after ≡ other)
    go reach xs other after same enclosed_none = (refl, refl)
    go reach xs other after same (enclosed_some (enclosed o w are m)) =
        absurd (none (sym (same_kind other a same) ∙ has_kind o))
