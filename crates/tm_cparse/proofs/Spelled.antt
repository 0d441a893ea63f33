-- What a design's tokens are spelled as, and the other way round.
use Rattle.std.proofs.Common.{◌≡◌, ℕ, zero, suc, ◌^◌, ◌<◌, ◌≤◌, true, false, Option, None, Some, option_map, List, [], ◌∷◌, ◌++◌, map, length, codes, slice_get, All, refl, sym, ap, ◌∙◌, subst, length-append, arith}
use Rattle.std.specs.Prelude.{slice_index}
use Rattle.std.specs.Fmt.{decimal}
use Rattle.std.specs.Str.Parse.{digits_value}
use Rattle.std.proofs.lemmas.Fmt.{decimal_is_IsNumeral, decimal_digit, first_decimal}
use Rattle.std.proofs.lemmas.Bool.Decides.{nat_tests}
use Rattle.std.proofs.lemmas.Option.{slice_get_within, get_or_from_slice_get}
use Rattle.std.proofs.lemmas.Str.Parse.{digit_from_value}
use Rattle.tm_syntax.specs.declared.design.Var.{Var}
use Rattle.tm_syntax.specs.declared.design.Item.{Item}
use Rattle.tm_syntax.specs.Tokens.{is_blank, IsWordLike}
use Rattle.tm_syntax.specs.Design.{DesignTree}
use Rattle.tm_cir.specs.declared.block.NumOperator.TheVariants as numbers
use Rattle.tm_base.specs.declared.shift_operator.ShiftOperator.TheVariants.{Left, Right}
use Rattle.tm_cir.specs.declared.block.Comparison.TheVariants.{Equal, NotEqual, Less, LessEqual, Greater, GreaterEqual}
use Rattle.tm_cir.specs.declared.block.Junction.TheVariants as truths
use Rattle.tm_cir.specs.Text.Token.{Word, void, driver_turn, if_word, else_word, goto, return_word, termite_leave, termite_goal, termite_last, Sign, open_parenthesis, close_parenthesis, open_brace, close_brace, colon, semicolon, comma, question, tilde, bang, arithmetic, shifting, comparing, joining, Token, word, label, variable, location, task, constant, sign}
use Rattle.tm_cir.specs.Text.Spelling.{word_text, sign_text, name_byte, item_name, token_text, token_number}
use Rattle.tm_cir.proofs.Text.Expressions.{same_inside}
use Rattle.tm_cparse.specs.Cut.{IsNumber, item_number, IsItemName, IsSpelled}
use Rattle.tm_cparse.specs.Faults.{HasNames, names_item}
use Rattle.tm_cparse.proofs.Numbers.{spelled_decimal}
use Rattle.tm_cparse.proofs.Fitting.{IsGood}

-- a number of the design is written without a leading zero
pub decimal_number : (n : ℕ) → n < 2 ^ 64 → IsNumber (decimal n)
decimal_number n small = record { are = (decimal_is_IsNumeral n small).0; plain = plain n small }
  where
    plain : (m : ℕ) → m < 2 ^ 64 → slice_index (decimal m) 0 ≡ 48 → length (decimal m) ≡ 1
    plain zero low first = ap length (decimal_digit 0 (omega arith))
    plain (suc m) low first = absurd (omega (arith, first_decimal (suc m) (omega arith) low, first))

decimal_value : (n : ℕ) → n < 2 ^ 64 → n ≡ digits_value 10 (decimal n)
decimal_value n small = sym ((decimal_is_IsNumeral n small).1)

pub item_value : (n : ℕ) → n < 2 ^ 32 → n ≡ item_number (decimal n)
item_value n small = omega (arith, decimal_value n (omega arith))

-- the item that a name names
record IsItem {A : Type 0} (path : A → List ℕ) (letter k : ℕ) (items : List A) (bytes : List ℕ) : Type 0 where
  item : A
  there : slice_get items k ≡ Some item
  are : bytes ≡ item_name letter k (path item)

item_there : {A : Type 0} (path : A → List ℕ) (letter k : ℕ) (items : List A) (bytes : List ℕ) →
    option_map (λ (a : A). item_name letter k (path a)) (slice_get items k) ≡ Some bytes →
    IsItem path letter k items bytes
item_there {A = A} path letter k items bytes is = of (slice_get items k) refl is
  where
    of : (found : Option A) → slice_get items k ≡ found →
        option_map (λ (a : A). item_name letter k (path a)) found ≡ Some bytes → IsItem path letter k items bytes
    of None there is = absurd (cc)
    of (Some a) there is = record { item = a; there = there; are = sym (same_inside is) }

name_spelled : {A : Type 0} (path : A → List ℕ) (letter k : ℕ) (items : List A) (bytes : List ℕ) →
    All (λ (a : A). IsWordLike (map name_byte (path a))) items → length items < 2 ^ 32 →
    option_map (λ (a : A). item_name letter k (path a)) (slice_get items k) ≡ Some bytes → IsItemName letter k bytes
name_spelled {A = A} path letter k items bytes all few is =
    let found = item_there path letter k items bytes is in
    let within : k < length items = slice_get_within items k found.item found.there in
    record {
      digits = decimal k;
      path = map name_byte (path found.item);
      number = decimal_number k (omega (arith, within, few));
      word_like = all_at items all k found.item found.there;
      value = item_value k (omega (arith, within, few));
      are = found.are;
    }
  where
    all_at : (xs : List A) → All (λ (a : A). IsWordLike (map name_byte (path a))) xs → (i : ℕ) (x : A) →
        slice_get xs i ≡ Some x → IsWordLike (map name_byte (path x))
    all_at xs all i x there =
        subst (λ (a : A). IsWordLike (map name_byte (path a))) (get_or_from_slice_get xs i x x there)
        (all i x (slice_get_within xs i x there))

-- a label has 32 bits
abbrev pub IsLow : Token → Type 0
IsLow (label k) = k < 4294967295
IsLow t = Unit {0}

-- how a token of a design is spelled
pub spelled : (d : DesignTree) (t : Token) (bytes : List ℕ) → HasNames d → IsLow t → token_number t < 2 ^ 64 →
    token_text d t ≡ Some bytes → IsSpelled t bytes
spelled d (word w) bytes names low small is = sym (same_inside is)
spelled d (label k) bytes names low small is = record {
  digits = decimal k;
  number = decimal_number k small;
  value = item_value k (omega (arith, low));
  are = sym (same_inside is);
}
spelled d (variable k) bytes names low small is =
    name_spelled (λ (v : Var). v.path) 118 k d.vars bytes names.vars names.few_vars is
spelled d (location k) bytes names low small is =
    name_spelled (λ (p : Item). p.path) 112 k d.processes bytes names.processes names.few_processes is
spelled d (task k) bytes names low small is =
    name_spelled (λ (t : Item). t.path) 116 k d.tasks bytes names.tasks names.few_tasks is
spelled d (constant n) bytes names low small is = record {
  digits = decimal n;
  number = decimal_number n small;
  value = decimal_value n small;
  small = small;
  are = sym (same_inside is);
}
spelled d (sign s) bytes names low small is = sym (same_inside is)

-- a token that is spelled so is one of the design, where the design has its item
pub named : (d : DesignTree) (t : Token) (bytes : List ℕ) → IsSpelled t bytes → IsLow t →
    (names_item t ≡ true → token_text d t ≡ Some bytes) → token_text d t ≡ Some bytes
named d (word w) bytes is low known = ap Some (sym is)
named d (label k) bytes is low known =
    let value : digits_value 10 is.digits ≡ k = omega (arith, is.value, low) in
    ap Some
    (ap (λ (n : ℕ). 76 ∷ decimal n) (sym value)
    ∙ ap (λ (l : List ℕ). 76 ∷ l) (spelled_decimal is.digits is.number (omega (arith, value, low))) ∙ sym is.are)
named d (variable k) bytes is low known = known refl
named d (location k) bytes is low known = known refl
named d (task k) bytes is low known = known refl
named d (constant n) bytes is low known =
    ap Some
    (ap (λ (m : ℕ). decimal m ++ codes "ULL") is.value
    ∙ ap (λ (l : List ℕ). l ++ codes "ULL") (spelled_decimal is.digits is.number (omega (arith, is.value, is.small)))
    ∙ sym is.are)
named d (sign s) bytes is low known = ap Some (sym is)

pub number_small : (t : Token) (bytes : List ℕ) → IsSpelled t bytes → token_number t < 2 ^ 64
number_small (word w) bytes is = omega arith
number_small (label k) bytes is = omega (arith, is.value)
number_small (variable k) bytes is = omega (arith, is.value)
number_small (location k) bytes is = omega (arith, is.value)
number_small (task k) bytes is = omega (arith, is.value)
number_small (constant n) bytes is = is.small
number_small (sign s) bytes is = omega arith

pub good : (d : DesignTree) (t : Token) (bytes : List ℕ) → IsSpelled t bytes → token_text d t ≡ Some bytes → IsGood d t
good d (word w) bytes spelled is = tt
good d (label k) bytes spelled is = tt
good d (variable k) bytes spelled is =
    let found = item_there (λ (v : Var). v.path) 118 k d.vars bytes is in
    slice_get_within d.vars k found.item found.there
good d (location k) bytes spelled is =
    let found = item_there (λ (p : Item). p.path) 112 k d.processes bytes is in
    slice_get_within d.processes k found.item found.there
good d (task k) bytes spelled is = tt
good d (constant n) bytes spelled is = spelled.small
good d (sign s) bytes spelled is = tt

-- a token's first byte is no blank
abbrev pub HasFirst : List ℕ → Type 0
HasFirst bytes = (b : ℕ) × (bs : List ℕ) × (bytes ≡ b ∷ bs) × (is_blank b ≡ false)

sign_first : (s : Sign) → HasFirst (sign_text s)
sign_first open_parenthesis = (40, [], refl, refl)
sign_first close_parenthesis = (41, [], refl, refl)
sign_first open_brace = (123, [], refl, refl)
sign_first close_brace = (125, [], refl, refl)
sign_first colon = (58, [], refl, refl)
sign_first semicolon = (59, [], refl, refl)
sign_first comma = (44, [], refl, refl)
sign_first question = (63, [], refl, refl)
sign_first tilde = (126, [], refl, refl)
sign_first bang = (33, [], refl, refl)
sign_first (arithmetic numbers.Add) = (43, [], refl, refl)
sign_first (arithmetic numbers.Subtract) = (45, [], refl, refl)
sign_first (arithmetic numbers.And) = (38, [], refl, refl)
sign_first (arithmetic numbers.Or) = (124, [], refl, refl)
sign_first (arithmetic numbers.Xor) = (94, [], refl, refl)
sign_first (shifting Left) = (60, 60 ∷ [], refl, refl)
sign_first (shifting Right) = (62, 62 ∷ [], refl, refl)
sign_first (comparing Equal) = (61, 61 ∷ [], refl, refl)
sign_first (comparing NotEqual) = (33, 61 ∷ [], refl, refl)
sign_first (comparing Less) = (60, [], refl, refl)
sign_first (comparing LessEqual) = (60, 61 ∷ [], refl, refl)
sign_first (comparing Greater) = (62, [], refl, refl)
sign_first (comparing GreaterEqual) = (62, 61 ∷ [], refl, refl)
sign_first (joining truths.And) = (38, 38 ∷ [], refl, refl)
sign_first (joining truths.Or) = (124, 124 ∷ [], refl, refl)

word_first : (w : Word) → HasFirst (word_text w)
word_first void = (118, codes "oid", refl, refl)
word_first driver_turn = (100, codes "river_turn", refl, refl)
word_first if_word = (105, codes "f", refl, refl)
word_first else_word = (101, codes "lse", refl, refl)
word_first goto = (103, codes "oto", refl, refl)
word_first return_word = (114, codes "eturn", refl, refl)
word_first termite_leave = (116, codes "ermite_leave", refl, refl)
word_first termite_goal = (116, codes "ermite_goal", refl, refl)
word_first termite_last = (116, codes "ermite_last", refl, refl)

digits_first : (ds more : List ℕ) → IsNumber ds → HasFirst (ds ++ more)
digits_first [] more number = absurd (omega (arith, number.are.0))
digits_first (c ∷ cs) more number = (c, cs ++ more, refl, no_blank c (digit_from_value c number.are.1.0))
  where
    no_blank : (b : ℕ) → (48 ≤ b) × (b ≤ 57) → is_blank b ≡ false
    no_blank b range = let low = range.0 in grind (arith, nat_tests)

first_as : (xs ys : List ℕ) → ys ≡ xs → HasFirst xs → HasFirst ys
first_as xs ys is first = subst HasFirst (sym is) first

pub spelled_first : (t : Token) (bytes : List ℕ) → IsSpelled t bytes → HasFirst bytes
spelled_first (word w) bytes is = first_as (word_text w) bytes is (word_first w)
spelled_first (label k) bytes is = (76, is.digits, is.are, refl)
spelled_first (variable k) bytes is = (118, _, is.are, refl)
spelled_first (location k) bytes is = (112, _, is.are, refl)
spelled_first (task k) bytes is = (116, _, is.are, refl)
spelled_first (constant n) bytes is =
    first_as (is.digits ++ codes "ULL") bytes is.are (digits_first is.digits (codes "ULL") is.number)
spelled_first (sign s) bytes is = first_as (sign_text s) bytes is (sign_first s)

first_some : (bytes : List ℕ) → HasFirst bytes → 0 < length bytes
first_some bytes first = omega (arith, ap length first.2)

-- a token has a byte
pub spelled_some : (t : Token) (bytes : List ℕ) → IsSpelled t bytes → 0 < length bytes
spelled_some t bytes is = first_some bytes (spelled_first t bytes is)

item_some : {A : Type 0} (path : A → List ℕ) (letter k : ℕ) (items : List A) (bytes : List ℕ) →
    option_map (λ (a : A). item_name letter k (path a)) (slice_get items k) ≡ Some bytes → 0 < length bytes
item_some path letter k items bytes is = omega (arith, ap length (item_there path letter k items bytes is).are)

pub text_some : (d : DesignTree) (t : Token) (bytes : List ℕ) → token_text d t ≡ Some bytes → 0 < length bytes
text_some d (word w) bytes is = first_some bytes (first_as (word_text w) bytes (sym (same_inside is)) (word_first w))
text_some d (label k) bytes is = omega (arith, ap length (same_inside is))
text_some d (variable k) bytes is = item_some (λ (v : Var). v.path) 118 k d.vars bytes is
text_some d (location k) bytes is = item_some (λ (p : Item). p.path) 112 k d.processes bytes is
text_some d (task k) bytes is = item_some (λ (t : Item). t.path) 116 k d.tasks bytes is
text_some d (constant n) bytes is =
    omega (arith, ap length (same_inside is), length-append (decimal n) (codes "ULL"))
text_some d (sign s) bytes is = first_some bytes (first_as (sign_text s) bytes (sym (same_inside is)) (sign_first s))
