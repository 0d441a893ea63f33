-- Names and numbers.
use Rattle.std.proofs.Common.{◌≡◌, ℕ, false, Some, List, [], ◌∷◌, slice_range, refl, sym, ap, ◌∙◌}
use Rattle.tm_syntax.specs.declared.token.Token.{Token}
use Rattle.tm_syntax.specs.declared.token.TokenKind.TheVariants as token
use Rattle.tm_syntax.specs.declared.tree.Ident.{Ident}
use Rattle.tm_syntax.specs.declared.tree.Num.{Num}
use Rattle.tm_syntax.specs.Grammar.Parts.{Has, IsName, IsNumber, below_limit, written_number}
use Rattle.tm_parse.specs.Reading.{first_kind, Takes, IsBlocked, AnyOf, Nothing}
use Rattle.tm_parse.proofs.Taking.{AnyWord}
use Rattle.tm_parse.proofs.Terminals.{no_mark, mark_word}

pub has_name : {text : List ℕ} {a b : List Token} → Has token.Name a b → (n : Ident) × IsName text n a b
has_name {text} h = (
  record { text = slice_range text h.first.start h.first.end; place = h.first.place },
  record { first = h.first; whole = h.whole; is = h.is; here = refl; bytes = refl },
)

pub name_has : {text : List ℕ} {n : Ident} {a b : List Token} → IsName text n a b → Has token.Name a b
name_has h = record { first = h.first; whole = h.whole; is = h.is }

pub no_name : (text : List ℕ) (a : List Token) → ¬ (first_kind a ≡ Some token.Name) →
    IsBlocked (AnyOf (λ _. IsName text)) Nothing false a a
no_name text a none =
    let h = no_mark token.Name a none in
    record {
      front = h.front;
      whole = h.whole;
      more = h.more;
      completes = λ behind. has_name (h.completes behind).1;
      goes_on = h.goes_on;
      stuck = λ reach other rest same within stop is. h.stuck reach other rest same within stop (tt, name_has is.1);
    }

pub name_word : {X : Type 0} (text : List ℕ) → AnyWord {X = X} (λ x _. IsName text)
name_word text =
    let w = mark_word token.Name in
    record { word = w.word; spells = λ x size behind fits. has_name (w.spells x size behind fits).1 }

one_name : {text : List ℕ} {m n : Ident} {a b c d : List Token} → IsName text m a b → IsName text n c d → a ≡ c →
    (m ≡ n) × (b ≡ d)
one_name {text} {m} {n} {b} {d} h i e =
    let whole : h.first ∷ b ≡ i.first ∷ d = sym h.whole ∙ e ∙ i.whole in
    let first : h.first ≡ i.first = cc in
    let texts : m.text ≡ n.text = h.bytes ∙ ap (λ (t : Token). slice_range text t.start t.end) first ∙ sym i.bytes in
    let places : m.place ≡ n.place = sym h.here ∙ ap (λ (t : Token). t.place) first ∙ i.here in
    ((λ j. record { text = texts j; place = places j }), cc)

pub taken_name : {text : List ℕ} {n : Ident} (t : Token) {a b : List Token} → a ≡ t ∷ b → t.kind ≡ token.Name →
    t.place ≡ n.place → n.text ≡ slice_range text t.start t.end → Takes (λ _. IsName text) Nothing n a b
taken_name {text} {n} t whole is here bytes = record {
  front = t ∷ [];
  whole = whole;
  is = λ reach behind. name behind;
  sole = λ reach m other after same stop is. one_name is (name other) refl;
}
  where
    name : (behind : List Token) → IsName text n (t ∷ behind) behind
    name behind = record { first = t; whole = refl; is = is; here = here; bytes = bytes }

pub has_number : {text : List ℕ} {a b : List Token} → Has token.Number a b → (n : Num) × IsNumber text n a b
has_number {text} h = (
  record { value = below_limit (written_number (slice_range text h.first.start h.first.end)); place = h.first.place },
  record { first = h.first; whole = h.whole; is = h.is; here = refl; value = refl },
)

pub number_has : {text : List ℕ} {n : Num} {a b : List Token} → IsNumber text n a b → Has token.Number a b
number_has h = record { first = h.first; whole = h.whole; is = h.is }

pub no_number : (text : List ℕ) (a : List Token) → ¬ (first_kind a ≡ Some token.Number) →
    IsBlocked (AnyOf (λ _. IsNumber text)) Nothing false a a
no_number text a none =
    let h = no_mark token.Number a none in
    record {
      front = h.front;
      whole = h.whole;
      more = h.more;
      completes = λ behind. has_number (h.completes behind).1;
      goes_on = h.goes_on;
      stuck = λ reach other rest same within stop is. h.stuck reach other rest same within stop (tt, number_has is.1);
    }

pub number_word : {X : Type 0} (text : List ℕ) → AnyWord {X = X} (λ x _. IsNumber text)
number_word text =
    let w = mark_word token.Number in
    record { word = w.word; spells = λ x size behind fits. has_number (w.spells x size behind fits).1 }

one_number : {text : List ℕ} {m n : Num} {a b c d : List Token} → IsNumber text m a b → IsNumber text n c d → a ≡ c →
    (m ≡ n) × (b ≡ d)
one_number {text} {m} {n} {b} {d} h i e =
    let whole : h.first ∷ b ≡ i.first ∷ d = sym h.whole ∙ e ∙ i.whole in
    let first : h.first ≡ i.first = cc in
    let values : m.value ≡ n.value =
    h.value ∙ ap (λ (t : Token). below_limit (written_number (slice_range text t.start t.end))) first ∙ sym i.value in
    let places : m.place ≡ n.place = sym h.here ∙ ap (λ (t : Token). t.place) first ∙ i.here in
    ((λ j. record { value = values j; place = places j }), cc)

pub taken_number : {text : List ℕ} {n : Num} (t : Token) {a b : List Token} → a ≡ t ∷ b → t.kind ≡ token.Number →
    t.place ≡ n.place → n.value ≡ below_limit (written_number (slice_range text t.start t.end)) →
    Takes (λ _. IsNumber text) Nothing n a b
taken_number {text} {n} t whole is here value = record {
  front = t ∷ [];
  whole = whole;
  is = λ reach behind. number behind;
  sole = λ reach m other after same stop is. one_number is (number other) refl;
}
  where
    number : (behind : List Token) → IsNumber text n (t ∷ behind) behind
    number behind = record { first = t; whole = refl; is = is; here = here; value = value }
