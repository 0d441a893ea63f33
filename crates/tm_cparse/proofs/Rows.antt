-- Rows of tokens: each step of the reader leaves what is left of the row, and each refusal is right.
use Rattle.std.proofs.Common.{◌≡◌, ℕ, ◌+◌, List, [], ◌∷◌, ◌++◌, length, get_or, drop, refl, sym, ap, ◌∙◌, subst, append_assoc, add-one, drop-cons, ◌<◌, arith}
use Rattle.std.specs.Borrow.{Bor}
use Rattle.std.proofs.lemmas.List.{append-nil}
use Rattle.tm_cir.specs.Text.Token.{Token, label, constant}
use Rattle.tm_cparse.specs.declared.row.Slot.{Slot}
use Rattle.tm_cparse.specs.declared.row.Slot.TheVariants as slots
use Rattle.tm_cparse.specs.declared.spot.Spot.{Spot}
use Rattle.tm_cparse.specs.declared.spot.Stop.{Stop}
use Rattle.tm_cparse.specs.declared.spot.Stop.TheVariants.{Unexpected, Memory}
use Rattle.tm_cparse.specs.View.{token_tree, tokens_of}
use Rattle.tm_cparse.specs.Inner.Reading.{first_of, IsBlocked, IsRefused, Moves}
use Rattle.tm_cparse.specs.Inner.Rows.{IsRow, IsSlot, IsNoSlot, IsRowLeft}
use Rattle.tm_cparse.proofs.Moves.{moves_one, blocked_here}

-- some tokens that are a row
abbrev pub word_of : List Slot → List Token
word_of [] = []
word_of (slots.Given t ∷ ss) = token_tree t ∷ word_of ss
word_of (slots.Label ∷ ss) = label 0 ∷ word_of ss
word_of (slots.Constant ∷ ss) = constant 0 ∷ word_of ss

abbrev pub numbers_of : List Slot → List ℕ
numbers_of [] = []
numbers_of (slots.Given t ∷ ss) = numbers_of ss
numbers_of (slots.Label ∷ ss) = 0 ∷ numbers_of ss
numbers_of (slots.Constant ∷ ss) = 0 ∷ numbers_of ss

pub spells : (ss : List Slot) (behind : List Token) → IsRow ss (numbers_of ss) (word_of ss ++ behind) behind
spells [] behind = (refl, refl)
spells (slots.Given t ∷ ss) behind = (word_of ss ++ behind, refl, spells ss behind)
spells (slots.Label ∷ ss) behind = (0, numbers_of ss, word_of ss ++ behind, refl, refl, spells ss behind)
spells (slots.Constant ∷ ss) behind = (0, numbers_of ss, word_of ss ++ behind, refl, refl, spells ss behind)

same_tail : {t u : Token} {a b : List Token} → t ∷ a ≡ u ∷ b → a ≡ b
same_tail e = cc

same_label : {n m : ℕ} {a b : List Token} → label n ∷ a ≡ label m ∷ b → m ≡ n
same_label e = cc

same_constant : {n m : ℕ} {a b : List Token} → constant n ∷ a ≡ constant m ∷ b → m ≡ n
same_constant e = cc

-- a number behind the others
put_behind : (old new others ms all : List ℕ) (n m : ℕ) → new ≡ old ++ n ∷ [] → others ≡ m ∷ ms → m ≡ n →
    all ≡ old ++ others → all ≡ new ++ ms
put_behind old new others ms all n m put first same is =
    is ∙ ap (λ (l : List ℕ). old ++ l) (first ∙ ap (λ (k : ℕ). k ∷ ms) same)
    ∙ sym (append_assoc old (n ∷ []) ms) ∙ ap (λ (l : List ℕ). l ++ ms) (sym put)

taken_behind : (old new others all : List ℕ) (n : ℕ) → new ≡ old ++ n ∷ [] → all ≡ new ++ others →
    all ≡ old ++ n ∷ others
taken_behind old new others all n put is =
    is ∙ ap (λ (l : List ℕ). l ++ others) put ∙ append_assoc old (n ∷ []) others

-- a token of a row was read
pub moves_slot : (slot : Slot) (ss : List Slot) (old new : List ℕ) (ts rest : List Token) →
    IsSlot slot old new ts rest → Moves (IsRowLeft (slot ∷ ss) old) (IsRowLeft ss new) ts rest
moves_slot (slots.Given t) ss old new ts rest slot =
    subst (λ (l : List Token). Moves (IsRowLeft (slots.Given t ∷ ss) old) (IsRowLeft ss new) l rest) (sym slot.1)
    (moves_one (token_tree t) rest
    (λ all other after first left.
    record {
      others = left.others;
      whole = left.whole ∙ ap (λ (l : List ℕ). l ++ left.others) (sym slot.0);
      is = subst (λ (l : List Token). IsRow ss left.others l after) (sym (same_tail left.is.1)) left.is.2;
    })
    (λ all other after left.
    record {
      others = left.others;
      whole = left.whole ∙ ap (λ (l : List ℕ). l ++ left.others) slot.0;
      is = (other, refl, left.is);
    }))
moves_slot slots.Label ss old new ts rest slot =
    subst (λ (l : List Token). Moves (IsRowLeft (slots.Label ∷ ss) old) (IsRowLeft ss new) l rest) (sym slot.2)
    (moves_one (label slot.0) rest
    (λ all other after first left.
    record {
      others = left.is.1;
      whole = put_behind old new left.others left.is.1 all slot.0 left.is.0 slot.1 left.is.3 (same_label left.is.4)
          left.whole;
      is = subst (λ (l : List Token). IsRow ss left.is.1 l after) (sym (same_tail left.is.4)) left.is.5;
    })
    (λ all other after left.
    record {
      others = slot.0 ∷ left.others;
      whole = taken_behind old new left.others all slot.0 slot.1 left.whole;
      is = (slot.0, left.others, other, refl, refl, left.is);
    }))
moves_slot slots.Constant ss old new ts rest slot =
    subst (λ (l : List Token). Moves (IsRowLeft (slots.Constant ∷ ss) old) (IsRowLeft ss new) l rest) (sym slot.2)
    (moves_one (constant slot.0) rest
    (λ all other after first left.
    record {
      others = left.is.1;
      whole = put_behind old new left.others left.is.1 all slot.0 left.is.0 slot.1 left.is.3 (same_constant left.is.4)
          left.whole;
      is = subst (λ (l : List Token). IsRow ss left.is.1 l after) (sym (same_tail left.is.4)) left.is.5;
    })
    (λ all other after left.
    record {
      others = slot.0 ∷ left.others;
      whole = taken_behind old new left.others all slot.0 slot.1 left.whole;
      is = (slot.0, left.others, other, refl, refl, left.is);
    }))

-- a row is what is left of it where nothing was read
pub row_begins : (ss : List Slot) (ts : List Token) → Moves (IsRow ss) (IsRowLeft ss []) ts ts
row_begins ss ts = record {
  front = [];
  whole = refl;
  to = λ all other after first is. record { others = all; whole = refl; is = is };
  from = λ all other after left.
      subst (λ (l : List ℕ). IsRow ss l other after) (sym left.whole) left.is;
}

-- all of a row was read
pub row_ends : (ss : List Slot) (ns : List ℕ) (ts rest : List Token) → Moves (IsRow ss) (IsRowLeft [] ns) ts rest →
    IsRow ss ns ts rest
row_ends ss ns ts rest m =
    subst (λ (l : List Token). IsRow ss ns l rest) (sym m.whole)
    (m.from ns rest rest (record { others = []; whole = sym (append-nil ns); is = (refl, refl) }))

-- no token of a row stands in front
no_first : (slot : Slot) (ss : List Slot) (spots : List Spot) (here : Bor (List Spot)) →
    IsNoSlot slot spots (Unexpected here) → (all : List ℕ) (other rest : List Token) →
    first_of other ≡ first_of (tokens_of spots) → ¬ IsRow (slot ∷ ss) all other rest
no_first (slots.Given t) ss spots here none all other rest first is = none.1 (sym first ∙ ap first_of is.1)
no_first slots.Label ss spots here none all other rest first is = none.1 is.0 (sym first ∙ ap first_of is.4)
no_first slots.Constant ss spots here none all other rest first is = none.1 is.0 (sym first ∙ ap first_of is.4)

stays_there : (slot : Slot) (spots : List Spot) (here : Bor (List Spot)) → IsNoSlot slot spots (Unexpected here) →
    here.now ≡ spots
stays_there (slots.Given t) spots here none = none.0
stays_there slots.Label spots here none = none.0
stays_there slots.Constant spots here none = none.0

pub no_slot : (slot : Slot) (ss : List Slot) (old : List ℕ) (spots : List Spot) (e : Stop) → IsNoSlot slot spots e →
    IsRefused (IsRowLeft (slot ∷ ss) old) (tokens_of spots) e
no_slot slot ss old spots (Unexpected here) none =
    subst (λ (l : List Spot). IsBlocked (IsRowLeft (slot ∷ ss) old) (tokens_of spots) (tokens_of l))
    (sym (stays_there slot spots here none))
    (blocked_here (word_of (slot ∷ ss))
    (λ behind. (
      old ++ numbers_of (slot ∷ ss),
      record { others = numbers_of (slot ∷ ss); whole = refl; is = spells (slot ∷ ss) behind },
    ))
    (λ all other rest first left. no_first slot ss spots here none left.others other rest first left.is))
no_slot slot ss old spots Memory none = tt

-- the tokens of a row with these numbers
abbrev pub row_text : List Slot → List ℕ → List Token
row_text [] ns = []
row_text (slots.Given t ∷ ss) ns = token_tree t ∷ row_text ss ns
row_text (slots.Label ∷ ss) ns = label (get_or ns 0 0) ∷ row_text ss (drop 1 ns)
row_text (slots.Constant ∷ ss) ns = constant (get_or ns 0 0) ∷ row_text ss (drop 1 ns)

-- how many numbers a row has
abbrev pub row_count : List Slot → ℕ
row_count [] = 0
row_count (slots.Given t ∷ ss) = row_count ss
row_count (slots.Label ∷ ss) = 1 + row_count ss
row_count (slots.Constant ∷ ss) = 1 + row_count ss

pub row_spelled : (ss : List Slot) (ns : List ℕ) (ts rest : List Token) → IsRow ss ns ts rest →
    ts ≡ row_text ss ns ++ rest
row_spelled [] ns ts rest is = is.1
row_spelled (slots.Given t ∷ ss) ns ts rest is =
    is.1 ∙ ap (λ (l : List Token). token_tree t ∷ l) (row_spelled ss ns is.0 rest is.2)
row_spelled (slots.Label ∷ ss) ns ts rest is =
    is.4
    ∙ ap (λ (l : List Token). label is.0 ∷ l) (row_spelled ss is.1 is.2 rest is.5)
    ∙ ap (λ (l : List ℕ). label (get_or l 0 0) ∷ (row_text ss (drop 1 l) ++ rest)) (sym is.3)
row_spelled (slots.Constant ∷ ss) ns ts rest is =
    is.4
    ∙ ap (λ (l : List Token). constant is.0 ∷ l) (row_spelled ss is.1 is.2 rest is.5)
    ∙ ap (λ (l : List ℕ). constant (get_or l 0 0) ∷ (row_text ss (drop 1 l) ++ rest)) (sym is.3)

pub row_counted : (ss : List Slot) (ns : List ℕ) (ts rest : List Token) → IsRow ss ns ts rest → length ns ≡ row_count ss
row_counted [] ns ts rest is = ap length is.0
row_counted (slots.Given t ∷ ss) ns ts rest is = row_counted ss ns is.0 rest is.2
row_counted (slots.Label ∷ ss) ns ts rest is =
    let others = row_counted ss is.1 is.2 rest is.5 in omega (arith, ap length is.3)
row_counted (slots.Constant ∷ ss) ns ts rest is =
    let others = row_counted ss is.1 is.2 rest is.5 in omega (arith, ap length is.3)

-- a row whose numbers give a tree
pub record IsOfRow {X : Type 0} (ss : List Slot) (build : List ℕ → X) (x : X) (tokens rest : List Token) : Type 0 where
  pub numbers : List ℕ
  pub row : IsRow ss numbers tokens rest
  pub whole : x ≡ build numbers

pub refused_row : {X : Type 0} (ss : List Slot) (build : List ℕ → X) (tokens : List Token) (e : Stop) →
    IsRefused (IsRow ss) tokens e → IsRefused (IsOfRow ss build) tokens e
refused_row ss build tokens (Unexpected here) h = record {
  front = h.front;
  whole = h.whole;
  more = h.more;
  completes = λ behind.
      let one = h.completes behind in
      (build one.0, record { numbers = one.0; row = one.1; whole = refl });
  stuck = λ x other rest first is. h.stuck is.numbers other rest first is.row;
}
refused_row ss build tokens Memory h = tt

-- the next token of a row
pub moves_next : (ss : List Slot) (i : ℕ) (slot : Slot) (old new : List ℕ) (ts rest : List Token) →
    drop i ss ≡ slot ∷ drop (i + 1) ss → IsSlot slot old new ts rest →
    Moves (IsRowLeft (drop i ss) old) (IsRowLeft (drop (i + 1) ss) new) ts rest
moves_next ss i slot old new ts rest next is =
    subst (λ (l : List Slot). Moves (IsRowLeft l old) (IsRowLeft (drop (i + 1) ss) new) ts rest) (sym next)
    (moves_slot slot (drop (i + 1) ss) old new ts rest is)

pub no_next : (ss : List Slot) (i : ℕ) (slot : Slot) (old : List ℕ) (spots : List Spot) (e : Stop) →
    drop i ss ≡ slot ∷ drop (i + 1) ss → IsNoSlot slot spots e →
    IsRefused (IsRowLeft (drop i ss) old) (tokens_of spots) e
no_next ss i slot old spots e next is =
    subst (λ (l : List Slot). IsRefused (IsRowLeft l old) (tokens_of spots) e) (sym next)
    (no_slot slot (drop (i + 1) ss) old spots e is)

pub row_read : (ss : List Slot) (i : ℕ) (ns : List ℕ) (ts rest : List Token) → drop i ss ≡ [] →
    Moves (IsRow ss) (IsRowLeft (drop i ss) ns) ts rest → IsRow ss ns ts rest
row_read ss i ns ts rest done m =
    row_ends ss ns ts rest (subst (λ (l : List Slot). Moves (IsRow ss) (IsRowLeft l ns) ts rest) done m)

pub next_of : (ss : List Slot) (i : ℕ) (d : Slot) → i < length ss → drop i ss ≡ get_or ss i d ∷ drop (i + 1) ss
next_of ss i d within = rw (add-one, drop-cons ss i d)
