-- What the tokens of structured text are spelled as: those of both sorts of texts as there, and `static` and the names
-- of functions, which this text alone has.
use Rattle.std.proofs.Common.{◌≡◌, ◌⊎◌, inl, inr, ℕ, ◌^◌, ◌<◌, ◌≤◌, true, false, Some, ◌==◌, List, [], ◌∷◌, ◌++◌}
use Rattle.std.proofs.Common.{length, take, drop, codes, refl, sym, ap, ◌∙◌, subst, true≢false, arith}
use Rattle.std.specs.Fmt.{decimal}
use Rattle.std.specs.List.{list_all, prefix_len}
use Rattle.std.specs.Str.Parse.{digits_value}
use Rattle.std.proofs.lemmas.Bool.{and_from}
use Rattle.std.proofs.lemmas.Bool.Decides.{nat_tests, Decides-eqb}
use Rattle.std.proofs.lemmas.List.{append_cancel_left, take_at, drop_at}
use Rattle.std.proofs.lemmas.Str.Parse.{digit_from_value}
use Rattle.tm_syntax.specs.Tokens.{continues_name}
use Rattle.tm_syntax.specs.Design.{DesignTree}
use Rattle.tm_cir.specs.declared.block.NumOperator.TheVariants as numbers
use Rattle.tm_base.specs.declared.shift_operator.ShiftOperator.TheVariants.{Left, Right}
use Rattle.tm_cir.specs.declared.block.Comparison.TheVariants.{Equal, NotEqual, Less, LessEqual, Greater, GreaterEqual}
use Rattle.tm_cir.specs.declared.block.Junction.TheVariants as truths
use Rattle.tm_cir.specs.Text.Token.{void, driver_turn, if_word, else_word, goto, return_word, termite_leave}
use Rattle.tm_cir.specs.Text.Token.{termite_goal, termite_last, Sign, open_parenthesis, close_parenthesis, open_brace}
use Rattle.tm_cir.specs.Text.Token.{close_brace, colon, semicolon, comma, question, tilde, bang, arithmetic, shifting}
use Rattle.tm_cir.specs.Text.Token.{comparing, joining, Token, word, label, variable, location, task, constant, sign}
use Rattle.tm_cir.specs.Text.Spelling.{sign_text, token_text, token_number}
use Rattle.tm_cir.proofs.Text.Expressions.{same_inside}
use Rattle.tm_cparse.specs.Cut.{IsNumber, item_number}
use Rattle.tm_cparse.specs.Cut as c
use Rattle.tm_cparse.specs.Faults.{HasNames, names_item}
use Rattle.tm_cparse.proofs.Cuts as c_cuts
use Rattle.tm_cparse.proofs.Fitting.{IsGood}
use Rattle.tm_cparse.proofs.Numbers.{spelled_decimal}
use Rattle.tm_cparse.proofs.Spelled.{IsLow, HasFirst, decimal_number, item_value}
use Rattle.tm_cparse.proofs.Spelled as c_spelled
use Rattle.tm_struct.specs.Text.Spelling.{spelling}
use Rattle.tm_struct_parse.specs.Cut.{IsSpelled, BeginsToken}
use Rattle.tm_struct_parse.specs.Inner.Scanning.{is_common}

-- a token of both sorts of texts
pub record IsCommonToken (t : Token) : Type 0 where
  pub is : is_common t ≡ true
  pub to : (bytes : List ℕ) → IsSpelled t bytes → c.IsSpelled t bytes
  pub from : (bytes : List ℕ) → c.IsSpelled t bytes → IsSpelled t bytes
  pub same : (d : DesignTree) → spelling d t ≡ token_text d t

-- a token is `static`, the name of a function, or one of both sorts of texts
pub data Sort : Token → Type 0 where
  a_static : Sort (word goto)
  a_function : (k : ℕ) → Sort (label k)
  common : {t : Token} → IsCommonToken t → Sort t

pub sort_of : (t : Token) → Sort t
sort_of (word void) = common (record { is = refl; to = λ b s. s; from = λ b s. s; same = λ d. refl })
sort_of (word driver_turn) = common (record { is = refl; to = λ b s. s; from = λ b s. s; same = λ d. refl })
sort_of (word if_word) = common (record { is = refl; to = λ b s. s; from = λ b s. s; same = λ d. refl })
sort_of (word else_word) = common (record { is = refl; to = λ b s. s; from = λ b s. s; same = λ d. refl })
sort_of (word goto) = a_static
sort_of (word return_word) = common (record { is = refl; to = λ b s. s; from = λ b s. s; same = λ d. refl })
sort_of (word termite_leave) = common (record { is = refl; to = λ b s. s; from = λ b s. s; same = λ d. refl })
sort_of (word termite_goal) = common (record { is = refl; to = λ b s. s; from = λ b s. s; same = λ d. refl })
sort_of (word termite_last) = common (record { is = refl; to = λ b s. s; from = λ b s. s; same = λ d. refl })
sort_of (label k) = a_function k
sort_of (variable k) = common (record { is = refl; to = λ b s. s; from = λ b s. s; same = λ d. refl })
sort_of (location k) = common (record { is = refl; to = λ b s. s; from = λ b s. s; same = λ d. refl })
sort_of (task k) = common (record { is = refl; to = λ b s. s; from = λ b s. s; same = λ d. refl })
sort_of (constant n) = common (record { is = refl; to = λ b s. s; from = λ b s. s; same = λ d. refl })
sort_of (sign s) = common (record { is = refl; to = λ b s. s; from = λ b s. s; same = λ d. refl })

pub is_common_token : (t : Token) → is_common t ≡ true → IsCommonToken t
is_common_token t is = of (sort_of t) is
  where
    of : {u : Token} → Sort u → is_common u ≡ true → IsCommonToken u
    of a_static wrong = absurd (true≢false (sym wrong))
    of (a_function k) wrong = absurd (true≢false (sym wrong))
    of (common both) so = both

-- how a token of a design is spelled
pub spelled : (d : DesignTree) (t : Token) (bytes : List ℕ) → HasNames d → IsLow t → token_number t < 2 ^ 64 →
    spelling d t ≡ Some bytes → IsSpelled t bytes
spelled d t bytes names low small is = of (sort_of t) low small is
  where
    of : {u : Token} → Sort u → IsLow u → token_number u < 2 ^ 64 → spelling d u ≡ Some bytes → IsSpelled u bytes
    of a_static low small is = sym (same_inside is)
    of (a_function k) low small is = record {
      digits = decimal k;
      number = decimal_number k small;
      value = item_value k (omega (arith, low));
      are = sym (same_inside is);
    }
    of {u} (common both) low small is =
        both.from bytes (c_spelled.spelled d u bytes names low small (sym (both.same d) ∙ is))

-- a token that is spelled so is one of the design, where the design has its item
pub named : (d : DesignTree) (t : Token) (bytes : List ℕ) → IsSpelled t bytes → IsLow t →
    (names_item t ≡ true → spelling d t ≡ Some bytes) → spelling d t ≡ Some bytes
named d t bytes is low known = of (sort_of t) is low known
  where
    of : {u : Token} → Sort u → IsSpelled u bytes → IsLow u → (names_item u ≡ true → spelling d u ≡ Some bytes) →
        spelling d u ≡ Some bytes
    of a_static is low known = ap Some (sym is)
    of (a_function k) is low known =
        let value : digits_value 10 is.digits ≡ k = omega (arith, is.value, low) in
        ap Some
        (ap (λ (n : ℕ). 98 ∷ decimal n) (sym value)
        ∙ ap (λ (l : List ℕ). 98 ∷ l) (spelled_decimal is.digits is.number (omega (arith, value, low))) ∙ sym is.are)
    of {u} (common both) is low known =
        both.same d ∙ c_spelled.named d u bytes (both.to bytes is) low (λ item. sym (both.same d) ∙ known item)

pub number_small : (t : Token) (bytes : List ℕ) → IsSpelled t bytes → token_number t < 2 ^ 64
number_small t bytes is = of (sort_of t) is
  where
    of : {u : Token} → Sort u → IsSpelled u bytes → token_number u < 2 ^ 64
    of a_static is = omega arith
    of (a_function k) is = omega (arith, is.value)
    of {u} (common both) is = c_spelled.number_small u bytes (both.to bytes is)

pub good : (d : DesignTree) (t : Token) (bytes : List ℕ) → IsSpelled t bytes → spelling d t ≡ Some bytes → IsGood d t
good d t bytes so is = of (sort_of t) so is
  where
    of : {u : Token} → Sort u → IsSpelled u bytes → spelling d u ≡ Some bytes → IsGood d u
    of a_static so is = tt
    of (a_function k) so is = tt
    of {u} (common both) so is = c_spelled.good d u bytes (both.to bytes so) (sym (both.same d) ∙ is)

pub spelled_first : (t : Token) (bytes : List ℕ) → IsSpelled t bytes → HasFirst bytes
spelled_first t bytes is = of (sort_of t) is
  where
    of : {u : Token} → Sort u → IsSpelled u bytes → HasFirst bytes
    of a_static is = (115, codes "tatic", is, refl)
    of (a_function k) is = (98, is.digits, is.are, refl)
    of {u} (common both) is = c_spelled.spelled_first u bytes (both.to bytes is)

-- a token has a byte
pub spelled_some : (t : Token) (bytes : List ℕ) → IsSpelled t bytes → 0 < length bytes
spelled_some t bytes is = omega (arith, ap length (spelled_first t bytes is).2)

pub text_some : (d : DesignTree) (t : Token) (bytes : List ℕ) → spelling d t ≡ Some bytes → 0 < length bytes
text_some d t bytes is = of (sort_of t) is
  where
    of : {u : Token} → Sort u → spelling d u ≡ Some bytes → 0 < length bytes
    of a_static is = omega (arith, ap length (same_inside is))
    of (a_function k) is = omega (arith, ap length (same_inside is))
    of {u} (common both) is = c_spelled.text_some d u bytes (sym (both.same d) ∙ is)

-- the first byte is that of no token of this text alone
abbrev BeginsOther : List ℕ → Type 0
BeginsOther bytes = (b : ℕ) × (bs : List ℕ) × (bytes ≡ b ∷ bs) × ((b == 98) ≡ false) × ((b == 115) ≡ false)

other_as : (xs ys : List ℕ) → ys ≡ xs → BeginsOther xs → BeginsOther ys
other_as xs ys is begins = subst BeginsOther (sym is) begins

other_sign : (s : Sign) → BeginsOther (sign_text s)
other_sign open_parenthesis = (40, [], refl, refl, refl)
other_sign close_parenthesis = (41, [], refl, refl, refl)
other_sign open_brace = (123, [], refl, refl, refl)
other_sign close_brace = (125, [], refl, refl, refl)
other_sign colon = (58, [], refl, refl, refl)
other_sign semicolon = (59, [], refl, refl, refl)
other_sign comma = (44, [], refl, refl, refl)
other_sign question = (63, [], refl, refl, refl)
other_sign tilde = (126, [], refl, refl, refl)
other_sign bang = (33, [], refl, refl, refl)
other_sign (arithmetic numbers.Add) = (43, [], refl, refl, refl)
other_sign (arithmetic numbers.Subtract) = (45, [], refl, refl, refl)
other_sign (arithmetic numbers.And) = (38, [], refl, refl, refl)
other_sign (arithmetic numbers.Or) = (124, [], refl, refl, refl)
other_sign (arithmetic numbers.Xor) = (94, [], refl, refl, refl)
other_sign (shifting Left) = (60, 60 ∷ [], refl, refl, refl)
other_sign (shifting Right) = (62, 62 ∷ [], refl, refl, refl)
other_sign (comparing Equal) = (61, 61 ∷ [], refl, refl, refl)
other_sign (comparing NotEqual) = (33, 61 ∷ [], refl, refl, refl)
other_sign (comparing Less) = (60, [], refl, refl, refl)
other_sign (comparing LessEqual) = (60, 61 ∷ [], refl, refl, refl)
other_sign (comparing Greater) = (62, [], refl, refl, refl)
other_sign (comparing GreaterEqual) = (62, 61 ∷ [], refl, refl, refl)
other_sign (joining truths.And) = (38, 38 ∷ [], refl, refl, refl)
other_sign (joining truths.Or) = (124, 124 ∷ [], refl, refl, refl)

other_digits : (ds more : List ℕ) → IsNumber ds → BeginsOther (ds ++ more)
other_digits [] more number = absurd (omega (arith, number.are.0))
other_digits (b ∷ ds) more number =
    let range = digit_from_value b number.are.1.0 in (b, ds ++ more, refl, no_letter b range, no_other b range)
  where
    no_letter : (n : ℕ) → (48 ≤ n) × (n ≤ 57) → (n == 98) ≡ false
    no_letter n range = let high = range.1 in grind (arith, nat_tests)

    no_other : (n : ℕ) → (48 ≤ n) × (n ≤ 57) → (n == 115) ≡ false
    no_other n range = let high = range.1 in grind (arith, nat_tests)

-- so it is of each token that the C text with jumps has, too
pub begins_other : (t : Token) (bytes : List ℕ) → c.IsSpelled t bytes → BeginsOther bytes
begins_other (word void) bytes is = (118, codes "oid", is, refl, refl)
begins_other (word driver_turn) bytes is = (100, codes "river_turn", is, refl, refl)
begins_other (word if_word) bytes is = (105, codes "f", is, refl, refl)
begins_other (word else_word) bytes is = (101, codes "lse", is, refl, refl)
begins_other (word goto) bytes is = (103, codes "oto", is, refl, refl)
begins_other (word return_word) bytes is = (114, codes "eturn", is, refl, refl)
begins_other (word termite_leave) bytes is = (116, codes "ermite_leave", is, refl, refl)
begins_other (word termite_goal) bytes is = (116, codes "ermite_goal", is, refl, refl)
begins_other (word termite_last) bytes is = (116, codes "ermite_last", is, refl, refl)
begins_other (label k) bytes is = (76, is.digits, is.are, refl, refl)
begins_other (variable k) bytes is = (118, is.digits ++ 95 ∷ is.path, is.are, refl, refl)
begins_other (location k) bytes is = (112, is.digits ++ 95 ∷ is.path, is.are, refl, refl)
begins_other (task k) bytes is = (116, is.digits ++ 95 ∷ is.path, is.are, refl, refl)
begins_other (constant n) bytes is =
    other_as (is.digits ++ codes "ULL") bytes is.are (other_digits is.digits (codes "ULL") is.number)
begins_other (sign s) bytes is = other_as (sign_text s) bytes is (other_sign s)

-- no text begins with such a byte and with one of the tokens that this text alone has
not_other : (text bytes rest own : List ℕ) (letter : ℕ) → BeginsOther bytes → text ≡ bytes ++ rest →
    text ≡ letter ∷ own → (letter ≡ 98) ⊎ (letter ≡ 115) → ⊥
not_other text bytes rest own letter begins one other which =
    let whole : begins.0 ∷ (begins.1 ++ rest) ≡ letter ∷ own =
    sym (ap (λ (l : List ℕ). l ++ rest) begins.2) ∙ sym one ∙ other in
    let same : begins.0 ≡ letter = cc in
    of which same
  where
    of : (letter ≡ 98) ⊎ (letter ≡ 115) → begins.0 ≡ letter → ⊥
    of (inl is) same = true≢false (sym ((Decides-eqb begins.0 98).1 (same ∙ is)) ∙ begins.3)
    of (inr is) same = true≢false (sym ((Decides-eqb begins.0 115).1 (same ∙ is)) ∙ begins.4)

-- the text that begins with `static`, and with the name of a function
static_front : {text bytes rest : List ℕ} → BeginsToken text (word goto) bytes rest →
    text ≡ 115 ∷ (codes "tatic" ++ rest)
static_front {rest = rest} begins = begins.whole ∙ ap (λ (l : List ℕ). l ++ rest) begins.spelled

function_front : {text bytes rest : List ℕ} {k : ℕ} (begins : BeginsToken text (label k) bytes rest) →
    text ≡ 98 ∷ (begins.spelled.digits ++ rest)
function_front {rest = rest} begins = begins.whole ∙ ap (λ (l : List ℕ). l ++ rest) begins.spelled.are

pub to_common : {t : Token} → IsCommonToken t → {text bytes rest : List ℕ} → BeginsToken text t bytes rest →
    c.BeginsToken text t bytes rest
to_common both {bytes = bytes} begins =
    record { spelled = both.to bytes begins.spelled; ends = begins.ends; whole = begins.whole }

pub from_common : {t : Token} → IsCommonToken t → {text bytes rest : List ℕ} → c.BeginsToken text t bytes rest →
    BeginsToken text t bytes rest
from_common both {bytes = bytes} begins =
    record { spelled = both.from bytes begins.spelled; ends = begins.ends; whole = begins.whole }

-- the name of a function is all letters, digits and `_` in front
pub function_cut : {text bytes rest : List ℕ} {k : ℕ} (begins : BeginsToken text (label k) bytes rest) →
    prefix_len continues_name text ≡ length bytes
function_cut {bytes = bytes} {rest = rest} begins =
    ap (prefix_len continues_name) begins.whole
    ∙ c_cuts.run_len bytes rest
    (ap (list_all continues_name) begins.spelled.are
    ∙ and_from (continues_name 98) (list_all continues_name begins.spelled.digits) refl
    (c_cuts.digits_continue begins.spelled.digits begins.spelled.number.are.1)) begins.ends

pub static_cut : {text bytes rest : List ℕ} (begins : BeginsToken text (word goto) bytes rest) →
    prefix_len continues_name text ≡ length bytes
static_cut {bytes = bytes} {rest = rest} begins =
    ap (prefix_len continues_name) begins.whole
    ∙ c_cuts.run_len bytes rest (ap (list_all continues_name) begins.spelled) begins.ends

abbrev IsSameFront : (t u : Token) (bytes others rest behind : List ℕ) → Type 0
IsSameFront t u bytes others rest behind = (t ≡ u) × (bytes ≡ others) × (rest ≡ behind)

both_static : {text bytes others rest behind : List ℕ} → BeginsToken text (word goto) bytes rest →
    BeginsToken text (word goto) others behind → IsSameFront (word goto) (word goto) bytes others rest behind
both_static {rest = rest} {behind = behind} one other = (
  refl,
  one.spelled ∙ sym other.spelled,
  append_cancel_left (115 ∷ codes "tatic") rest behind (sym (static_front one) ∙ static_front other),
)

both_functions : {text bytes others rest behind : List ℕ} {k m : ℕ} → BeginsToken text (label k) bytes rest →
    BeginsToken text (label m) others behind → IsSameFront (label k) (label m) bytes others rest behind
both_functions {text} {bytes} {others} {rest} {behind} {k} {m} one other =
    let len : length bytes ≡ length others = sym (function_cut one) ∙ function_cut other in
    let same : bytes ≡ others =
    sym (take_at bytes rest (length bytes) refl) ∙ ap (take (length bytes)) (sym one.whole ∙ other.whole)
    ∙ take_at others behind (length bytes) (sym len) in
    let rests : rest ≡ behind =
    sym (drop_at bytes rest (length bytes) refl) ∙ ap (drop (length bytes)) (sym one.whole ∙ other.whole)
    ∙ drop_at others behind (length bytes) (sym len) in
    let digits : 98 ∷ one.spelled.digits ≡ 98 ∷ other.spelled.digits =
    sym one.spelled.are ∙ same ∙ other.spelled.are in
    let number : k ≡ m =
    one.spelled.value ∙ ap item_number (tail digits) ∙ sym other.spelled.value in
    (ap (λ (n : ℕ). label n) number, same, rests)
  where
    tail : {a b : ℕ} {xs ys : List ℕ} → a ∷ xs ≡ b ∷ ys → xs ≡ ys
    tail e = cc

first_letter : {a b : ℕ} {xs ys : List ℕ} → a ∷ xs ≡ b ∷ ys → a ≡ b
first_letter e = cc

-- a text begins with one token
pub one_token : (t u : Token) (text bytes others rest behind : List ℕ) → BeginsToken text t bytes rest →
    BeginsToken text u others behind → (t ≡ u) × (bytes ≡ others) × (rest ≡ behind)
one_token t u text bytes others rest behind one other = of (sort_of t) (sort_of u) one other
  where
    mixed : {v w : Token} → IsCommonToken v → BeginsToken text v bytes rest → (own : List ℕ) (letter : ℕ) →
        text ≡ letter ∷ own → (letter ≡ 98) ⊎ (letter ≡ 115) → IsSameFront v w bytes others rest behind
    mixed {v} both begins own letter is which =
        absurd
        (not_other text bytes rest own letter (begins_other v bytes (both.to bytes begins.spelled)) begins.whole is
        which)

    turned : {v w : Token} → IsCommonToken w → BeginsToken text w others behind → (own : List ℕ) (letter : ℕ) →
        text ≡ letter ∷ own → (letter ≡ 98) ⊎ (letter ≡ 115) → IsSameFront v w bytes others rest behind
    turned {v} {w} both begins own letter is which =
        absurd
        (not_other text others behind own letter (begins_other w others (both.to others begins.spelled)) begins.whole is
        which)

    of : {v w : Token} → Sort v → Sort w → BeginsToken text v bytes rest → BeginsToken text w others behind →
        IsSameFront v w bytes others rest behind
    of a_static a_static one other = both_static one other
    of a_static (a_function k) one other =
        let wrong : 115 ∷ (codes "tatic" ++ rest) ≡ 98 ∷ (other.spelled.digits ++ behind) =
        sym (static_front one) ∙ function_front other in
        absurd (omega (arith, first_letter wrong))
    of a_static (common both) one other =
        turned both other (codes "tatic" ++ rest) 115 (static_front one) (inr refl)
    of (a_function k) a_static one other =
        let wrong : 98 ∷ (one.spelled.digits ++ rest) ≡ 115 ∷ (codes "tatic" ++ behind) =
        sym (function_front one) ∙ static_front other in
        absurd (omega (arith, first_letter wrong))
    of (a_function k) (a_function m) one other = both_functions one other
    of (a_function k) (common both) one other =
        turned both other (one.spelled.digits ++ rest) 98 (function_front one) (inl refl)
    of (common both) a_static one other =
        mixed both one (codes "tatic" ++ behind) 115 (static_front other) (inr refl)
    of (common both) (a_function k) one other =
        mixed both one (other.spelled.digits ++ behind) 98 (function_front other) (inl refl)
    of {v} {w} (common both) (common also) one other =
        c_cuts.one_token v w text bytes others rest behind (to_common both one) (to_common also other)

-- no text begins with a token that structured text alone has, and with one of the C text with jumps
pub own_apart : (t u : Token) (text bytes others rest behind : List ℕ) → is_common t ≡ false →
    BeginsToken text t bytes rest → c.BeginsToken text u others behind → ⊥
own_apart t u text bytes others rest behind own one other = of (sort_of t) own one
  where
    of : {v : Token} → Sort v → is_common v ≡ false → BeginsToken text v bytes rest → ⊥
    of a_static own one =
        not_other text others behind (codes "tatic" ++ rest) 115 (begins_other u others other.spelled) other.whole
        (static_front one) (inr refl)
    of (a_function k) own one =
        not_other text others behind (one.spelled.digits ++ rest) 98 (begins_other u others other.spelled) other.whole
        (function_front one) (inl refl)
    of (common both) own one = true≢false (sym both.is ∙ own)

-- such a token is all letters, digits and `_` in front
pub own_cut : (t : Token) (text bytes rest : List ℕ) → is_common t ≡ false → BeginsToken text t bytes rest →
    prefix_len continues_name text ≡ length bytes
own_cut t text bytes rest own begins = of (sort_of t) own begins
  where
    of : {v : Token} → Sort v → is_common v ≡ false → BeginsToken text v bytes rest →
        prefix_len continues_name text ≡ length bytes
    of a_static own begins = static_cut begins
    of (a_function k) own begins = function_cut begins
    of (common both) own begins = absurd (true≢false (sym both.is ∙ own))
