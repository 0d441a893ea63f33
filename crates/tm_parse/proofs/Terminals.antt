-- Signs and words, and the levels that they open.
use Rattle.std.proofs.Common.{◌≡◌, ℕ, ◌+◌, ◌<◌, ◌≤◌, Bool, true, false, Some, List, [], ◌∷◌, refl, sym, ap, ◌∙◌, arith}
use Rattle.tm_base.specs.declared.place.Place.{Place}
use Rattle.tm_syntax.specs.declared.token.Token.{Token}
use Rattle.tm_syntax.specs.declared.token.TokenKind.{TokenKind}
use Rattle.tm_syntax.specs.Grammar.Parts.{Has, IsMark}
use Rattle.tm_parse.specs.Reading.{first_of, first_kind, Takes, IsBlocked, AnyOf, Nothing, TheMark, IsOpening}
use Rattle.tm_parse.proofs.Taking.{same_kind, AnyWord, low_bound}

-- a token of a kind
pub token_of : TokenKind → Token
token_of kind = record { kind = kind; start = 0; end = 0; place = record { line = 1; column = 1 } }

pub token_kind : (k : TokenKind) → (token_of k).kind ≡ k
unfolding token_of
token_kind k = refl

pub has_kind : {k : TokenKind} {a b : List Token} → Has k a b → first_kind a ≡ Some k
has_kind h = ap first_kind h.whole ∙ ap Some h.is

pub mark_has : {k : TokenKind} {p : Place} {a b : List Token} → IsMark k p a b → Has k a b
mark_has m = record { first = m.first; whole = m.whole; is = m.is }

pub has_mark : {k : TokenKind} {a b : List Token} → Has k a b → (p : Place) × IsMark k p a b
has_mark m = (m.first.place, record { first = m.first; whole = m.whole; is = m.is; here = refl })

pub mark_kind : {k : TokenKind} {p : Place} {a b : List Token} → IsMark k p a b → first_kind a ≡ Some k
mark_kind m = has_kind (mark_has m)

-- two kinds of one first token are the same
pub clash : {k l : TokenKind} (a b : List Token) → first_of b ≡ first_of a → first_kind a ≡ Some k →
    first_kind b ≡ Some l → k ≡ l
clash {k} {l} a b same one other =
    let kinds : Some k ≡ Some l = sym one ∙ sym (same_kind b a same) ∙ other in
    cc

-- one token is a form, wherever it is the first
the_mark : (k : TokenKind) (behind : List Token) → Has k (token_of k ∷ behind) behind
the_mark k behind = record { first = token_of k; whole = refl; is = token_kind k }

pub mark_word : {X : Type 0} (k : TokenKind) → AnyWord {X = X} (λ x. TheMark k)
mark_word k = record { word = token_of k ∷ []; spells = λ x size behind fits. (tt, the_mark k behind) }

pub at_word : {X : Type 0} (k : TokenKind) → AnyWord {X = X} (λ x _. IsMark k)
at_word k = record { word = token_of k ∷ []; spells = λ x size behind fits. has_mark (the_mark k behind) }

pub mark_rest : {k l : TokenKind} {a b c d : List Token} → Has k a b → Has l c d → a ≡ c → b ≡ d
mark_rest {b} {d} m n e = let whole : m.first ∷ b ≡ n.first ∷ d = sym m.whole ∙ e ∙ n.whole in cc

pub mark_place : {k l : TokenKind} {p q : Place} {a b c d : List Token} → IsMark k p a b → IsMark l q c d → a ≡ c →
    p ≡ q
mark_place {b} {d} m n e =
    let whole : m.first ∷ b ≡ n.first ∷ d = sym m.whole ∙ e ∙ n.whole in
    let first : m.first ≡ n.first = cc in
    sym m.here ∙ ap (λ (t : Token). t.place) first ∙ n.here

pub taken_mark : {k : TokenKind} (t : Token) {a b : List Token} → a ≡ t ∷ b → t.kind ≡ k →
    Takes (λ _. IsMark k) Nothing t.place a b
taken_mark {k} t whole is = record {
  front = t ∷ [];
  whole = whole;
  is = λ reach behind. mark behind;
  sole = λ reach p other after same stop m.
      (mark_place m (mark other) refl, mark_rest (mark_has m) (mark_has (mark other)) refl);
}
  where
    mark : (behind : List Token) → IsMark k t.place (t ∷ behind) behind
    mark behind = record { first = t; whole = refl; is = is; here = refl }

-- of a mark nothing may stay in the tree
pub without_place : {k : TokenKind} {p : Place} {a b : List Token} → Takes (λ _. IsMark k) Nothing p a b →
    Takes (TheMark k) Nothing tt a b
without_place r = record {
  front = r.front;
  whole = r.whole;
  is = λ reach behind. mark_has (r.is reach behind);
  sole = λ reach nothing other after same stop m.
      (refl, mark_rest m (mark_has (r.is reach other)) refl);
}

pub no_mark : (k : TokenKind) (a : List Token) → ¬ (first_kind a ≡ Some k) →
    IsBlocked (AnyOf (TheMark k)) Nothing false a a
no_mark k a none = record {
  front = [];
  whole = refl;
  more = token_of k ∷ [];
  completes = λ behind. (tt, the_mark k behind);
  goes_on = λ deep. absurd (let never : false ≡ true = deep in cc);
  stuck = λ reach other rest same within stop h. none (sym (same_kind other a same) ∙ has_kind h.1);
}

-- a mark that is refused, where its place stays in the tree
pub with_place : {k : TokenKind} {deep : Bool} {a here : List Token} →
    IsBlocked (AnyOf (TheMark k)) Nothing deep a here →
    IsBlocked (AnyOf (λ _. IsMark k)) Nothing deep a here
with_place h = record {
  front = h.front;
  whole = h.whole;
  more = h.more;
  completes = λ behind. has_mark (h.completes behind).1;
  goes_on = h.goes_on;
  stuck = λ reach other rest same within stop m. h.stuck reach other rest same within stop (tt, mark_has m.1);
}

-- a token that opens a level too many
pub no_level : (k : TokenKind) (a : List Token) (depth : ℕ) → first_kind a ≡ Some k → 128 ≤ depth →
    IsBlocked (AnyOf (IsOpening k depth)) Nothing true a a
no_level k [] depth none deep = absurd (cc)
no_level k (t ∷ a) depth kind deep =
    let is : t.kind ≡ k = let same : Some t.kind ≡ Some k = kind in cc in
    record {
      front = [];
      whole = refl;
      more = t ∷ [];
      completes = λ behind. (
        t.place,
        record {
          mark = record { first = t; whole = refl; is = is; here = refl };
          within = λ inside. absurd (omega arith);
        },
      );
      goes_on = λ deep. (t, [], a, refl, refl);
      stuck = λ reach other rest same within stop h.
          let above : depth + 1 ≤ 128 = within refl (depth + 1) h.1.within in
          omega arith;
    }

-- a token of another kind opens no level
pub no_opening : (k : TokenKind) (a : List Token) (depth : ℕ) → ¬ (first_kind a ≡ Some k) →
    IsBlocked (AnyOf (IsOpening k depth)) Nothing false a a
no_opening k a depth none = record {
  front = [];
  whole = refl;
  more = token_of k ∷ [];
  completes = λ behind.
      let m = has_mark (the_mark k behind) in
      (m.0, record { mark = m.1; within = λ inside. absurd (omega arith) });
  goes_on = λ deep. absurd (let never : false ≡ true = deep in cc);
  stuck = λ reach other rest same within stop h. none (sym (same_kind other a same) ∙ mark_kind h.1.mark);
}

pub taken_opening : {k : TokenKind} {p : Place} {a b : List Token} (depth : ℕ) → Takes (λ _. IsMark k) Nothing p a b →
    depth < 128 → Takes (IsOpening k depth) Nothing p a b
taken_opening depth r below = record {
  front = r.front;
  whole = r.whole;
  is = λ reach behind. record { mark = r.is reach behind; within = low_bound reach _ (depth + 1) (omega arith) };
  sole = λ reach q other after same stop is. r.sole reach q other after same stop is.mark;
}
