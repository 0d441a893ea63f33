-- A text begins with one token.
use Rattle.std.proofs.Common.{◌≡◌, ◌≢◌, ℕ, suc, ◌+◌, ◌<◌, ◌≤◌, Bool, true, false, cond, Option, Some, ◌==◌, List, [], ◌∷◌, ◌++◌, length, get_or, take, drop, codes, refl, sym, ap, ◌∙◌, subst, length-append, arith}
use Rattle.std.specs.Char.{is_ascii_digit}
use Rattle.std.specs.List.{list_all, prefix_len}
use Rattle.std.specs.Str.Parse.{AllDigits, digits_value}
use Rattle.std.proofs.lemmas.Bool.{and_parts, and_from, cond-true, cond-false}
use Rattle.std.proofs.lemmas.Bool.Decides.{nat_tests}
use Rattle.std.proofs.lemmas.List.{append-nil, take_at, drop_at, take-append-drop}
use Rattle.std.proofs.lemmas.List.Folds.{list_all-append}
use Rattle.std.proofs.lemmas.List.Sums.{list_all-from_AllPass, prefix_len-le-length}
use Rattle.std.proofs.Math.Numerals.{one-add}
use Rattle.tm_cir.specs.declared.block.NumOperator.TheVariants as numbers
use Rattle.tm_base.specs.declared.shift_operator.ShiftOperator.TheVariants.{Left, Right}
use Rattle.tm_cir.specs.declared.block.Comparison.TheVariants.{Equal, NotEqual, Less, LessEqual, Greater, GreaterEqual}
use Rattle.tm_cir.specs.declared.block.Junction.TheVariants as truths
use Rattle.tm_syntax.specs.Tokens.{begins_name, continues_name, IsWordLike}
use Rattle.tm_syntax.specs.Design.{DesignTree}
use Rattle.tm_cir.specs.Text.Token.{Token, word, label, variable, location, task, constant, sign, Word, void, driver_turn, if_word, else_word, goto, return_word, termite_leave, termite_goal, termite_last, Sign, open_parenthesis, close_parenthesis, open_brace, close_brace, colon, semicolon, comma, question, tilde, bang, arithmetic, shifting, comparing, joining}
use Rattle.tm_cir.specs.Text.Spelling.{word_text, sign_text, token_text, BeginsNoWord, EndsToken}
use Rattle.tm_cir.proofs.Text.Cuts.{token_in_front}
use Rattle.tm_cir.proofs.Text.Expressions.{same_inside}
use Rattle.tm_cparse.specs.declared.shape.Found.{Found}
use Rattle.tm_cparse.specs.View.{token_tree}
use Rattle.tm_cparse.specs.Cut.{IsNumber, item_number, IsItemName, IsConstant, IsSpelled, BeginsToken}
use Rattle.tm_cparse.specs.Inner.Scanning.{IsRunToken, IsNoRun, IsRun, BeginsNoSign, IsFirstSign, BeginsNoToken, IsFirstToken}
use Rattle.tm_cparse.proofs.Numbers.{digit_passes, digits_in_front}

-- the digits in front
abbrev front_digits : List ℕ → List ℕ
front_digits bytes = take (prefix_len is_ascii_digit bytes) bytes

-- the token that these bytes are, if they are one
abbrev token_of : List ℕ → Option Token
token_of bytes =
    cond (is_ascii_digit (get_or bytes 0 0)) (Some (constant (digits_value 10 (front_digits bytes))))
    (cond (get_or bytes 0 0 == 76) (Some (label (item_number (front_digits (drop 1 bytes)))))
    (cond (get_or bytes 0 0 == 112) (Some (location (item_number (front_digits (drop 1 bytes)))))
    (cond (is_ascii_digit (get_or bytes 1 0))
    (cond (get_or bytes 0 0 == 118) (Some (variable (item_number (front_digits (drop 1 bytes)))))
    (Some (task (item_number (front_digits (drop 1 bytes))))))
    (token_in_front bytes))))

all_digits : (ds : List ℕ) → AllDigits 10 ds → prefix_len is_ascii_digit ds ≡ length ds
all_digits [] are = refl
all_digits (d ∷ ds) are =
    let first = cond-true (is_ascii_digit d) (1 + prefix_len is_ascii_digit ds) 0 (digit_passes d are.0) in
    let others = all_digits ds are.1 in
    omega arith

front_all : (ds : List ℕ) → AllDigits 10 ds → front_digits ds ≡ ds
front_all ds are =
    ap (λ (l : List ℕ). take (prefix_len is_ascii_digit ds) l) (sym (append-nil ds))
    ∙ take_at ds [] (prefix_len is_ascii_digit ds) (sym (all_digits ds are))

front_some : (ds behind : List ℕ) (b : ℕ) → AllDigits 10 ds → is_ascii_digit b ≡ false →
    front_digits (ds ++ b ∷ behind) ≡ ds
front_some ds behind b are other =
    take_at ds (b ∷ behind) (prefix_len is_ascii_digit (ds ++ b ∷ behind)) (sym (digits_in_front ds behind b are other))

first_digit : (ds more : List ℕ) → 0 < length ds → AllDigits 10 ds → is_ascii_digit (get_or (ds ++ more) 0 0) ≡ true
first_digit [] more some are = absurd (omega arith)
first_digit (d ∷ ds) more some are = digit_passes d are.0

item_token : (digits path : List ℕ) → IsNumber digits →
    (is_ascii_digit (get_or (digits ++ 95 ∷ path) 0 0) ≡ true)
    × (item_number (front_digits (digits ++ 95 ∷ path)) ≡ item_number digits)
item_token digits path number = (
  first_digit digits (95 ∷ path) number.are.0 number.are.1,
  ap (λ (l : List ℕ). item_number l) (front_some digits path 95 number.are.1 refl),
)

word_token : (w : Word) → token_of (word_text w) ≡ Some (word w)
word_token void = refl
word_token driver_turn = refl
word_token if_word = refl
word_token else_word = refl
word_token goto = refl
word_token return_word = refl
word_token termite_leave = refl
word_token termite_goal = refl
word_token termite_last = refl

sign_token : (s : Sign) → token_of (sign_text s) ≡ Some (sign s)
sign_token open_parenthesis = refl
sign_token close_parenthesis = refl
sign_token open_brace = refl
sign_token close_brace = refl
sign_token colon = refl
sign_token semicolon = refl
sign_token comma = refl
sign_token question = refl
sign_token tilde = refl
sign_token bang = refl
sign_token (arithmetic numbers.Add) = refl
sign_token (arithmetic numbers.Subtract) = refl
sign_token (arithmetic numbers.And) = refl
sign_token (arithmetic numbers.Or) = refl
sign_token (arithmetic numbers.Xor) = refl
sign_token (shifting Left) = refl
sign_token (shifting Right) = refl
sign_token (comparing Equal) = refl
sign_token (comparing NotEqual) = refl
sign_token (comparing Less) = refl
sign_token (comparing LessEqual) = refl
sign_token (comparing Greater) = refl
sign_token (comparing GreaterEqual) = refl
sign_token (joining truths.And) = refl
sign_token (joining truths.Or) = refl

constant_token : (n : ℕ) (bytes : List ℕ) → IsConstant n bytes → token_of bytes ≡ Some (constant n)
constant_token n bytes is =
    let text = is.digits ++ codes "ULL" in
    ap token_of is.are
    ∙ cond-true (is_ascii_digit (get_or text 0 0)) (Some (constant (digits_value 10 (front_digits text)))) _
    (first_digit is.digits (codes "ULL") is.number.are.0 is.number.are.1)
    ∙ ap (λ (l : List ℕ). Some (constant (digits_value 10 l)))
    (front_some is.digits (76 ∷ 76 ∷ []) 85 is.number.are.1 refl)
    ∙ ap (λ (m : ℕ). Some (constant m)) (sym is.value)

-- bytes that are a token are so in one way
spelled_token : (t : Token) (bytes : List ℕ) → IsSpelled t bytes → token_of bytes ≡ Some t
spelled_token (word w) bytes is = ap token_of is ∙ word_token w
spelled_token (label k) bytes is =
    ap token_of is.are
    ∙ ap (λ (l : List ℕ). Some (label (item_number l))) (front_all is.digits is.number.are.1)
    ∙ ap (λ (n : ℕ). Some (label n)) (sym is.value)
spelled_token (variable k) bytes is =
    let parts = item_token is.digits is.path is.number in
    ap token_of is.are
    ∙ cond-true (is_ascii_digit (get_or (is.digits ++ 95 ∷ is.path) 0 0)) _ _ parts.0
    ∙ ap (λ (n : ℕ). Some (variable n)) (parts.1 ∙ sym is.value)
spelled_token (location k) bytes is =
    let parts = item_token is.digits is.path is.number in
    ap token_of is.are ∙ ap (λ (n : ℕ). Some (location n)) (parts.1 ∙ sym is.value)
spelled_token (task k) bytes is =
    let parts = item_token is.digits is.path is.number in
    ap token_of is.are
    ∙ cond-true (is_ascii_digit (get_or (is.digits ++ 95 ∷ is.path) 0 0)) _ _ parts.0
    ∙ ap (λ (n : ℕ). Some (task n)) (parts.1 ∙ sym is.value)
spelled_token (constant n) bytes is = constant_token n bytes is
spelled_token (sign s) bytes is = ap token_of is ∙ sign_token s

pub spelled_once : (t u : Token) (bytes : List ℕ) → IsSpelled t bytes → IsSpelled u bytes → t ≡ u
spelled_once t u bytes one other = same_inside (sym (spelled_token t bytes one) ∙ spelled_token u bytes other)

-- the bytes of a word, name or constant are letters, digits and `_`
digit_continues : (b : ℕ) → is_ascii_digit b ≡ true → continues_name b ≡ true
digit_continues b is = grind (arith, nat_tests)

begins_continues : (b : ℕ) → begins_name b ≡ true → continues_name b ≡ true
begins_continues b is = grind (arith, nat_tests)

pub digits_continue : (ds : List ℕ) → AllDigits 10 ds → list_all continues_name ds ≡ true
digits_continue [] are = refl
digits_continue (d ∷ ds) are =
    and_from (continues_name d) (list_all continues_name ds) (digit_continues d (digit_passes d are.0))
    (digits_continue ds are.1)

path_continues : (path : List ℕ) → IsWordLike path → list_all continues_name path ≡ true
path_continues [] like = refl
path_continues (b ∷ bs) like =
    and_from (continues_name b) (list_all continues_name bs) (begins_continues b like.0)
    (list_all-from_AllPass continues_name bs like.1)

pub all_behind : (xs ys : List ℕ) → list_all continues_name xs ≡ true → list_all continues_name ys ≡ true →
    list_all continues_name (xs ++ ys) ≡ true
all_behind xs ys one other =
    list_all-append continues_name xs ys ∙ and_from (list_all continues_name xs) (list_all continues_name ys) one other

name_continues : (letter k : ℕ) (bytes : List ℕ) → continues_name letter ≡ true → IsItemName letter k bytes →
    list_all continues_name bytes ≡ true
name_continues letter k bytes first is =
    ap (list_all continues_name) is.are
    ∙ and_from (continues_name letter) (list_all continues_name (is.digits ++ 95 ∷ is.path)) first
    (all_behind is.digits (95 ∷ is.path) (digits_continue is.digits is.number.are.1)
    (path_continues is.path is.word_like))

word_continues : (w : Word) → list_all continues_name (word_text w) ≡ true
word_continues void = refl
word_continues driver_turn = refl
word_continues if_word = refl
word_continues else_word = refl
word_continues goto = refl
word_continues return_word = refl
word_continues termite_leave = refl
word_continues termite_goal = refl
word_continues termite_last = refl

pub run_continues : (t : Token) (bytes : List ℕ) → IsRunToken t → IsSpelled t bytes →
    list_all continues_name bytes ≡ true
run_continues (word w) bytes of is = ap (list_all continues_name) is ∙ word_continues w
run_continues (label k) bytes of is = ap (list_all continues_name) is.are ∙ digits_continue is.digits is.number.are.1
run_continues (variable k) bytes of is = name_continues 118 k bytes refl is
run_continues (location k) bytes of is = name_continues 112 k bytes refl is
run_continues (task k) bytes of is = name_continues 116 k bytes refl is
run_continues (constant n) bytes of is =
    ap (list_all continues_name) is.are
    ∙ all_behind is.digits (codes "ULL") (digits_continue is.digits is.number.are.1) refl
run_continues (sign s) bytes of is = absurd of

-- and they are some
word_some : (w : Word) → 0 < length (word_text w)
word_some void = omega arith
word_some driver_turn = omega arith
word_some if_word = omega arith
word_some else_word = omega arith
word_some goto = omega arith
word_some return_word = omega arith
word_some termite_leave = omega arith
word_some termite_goal = omega arith
word_some termite_last = omega arith

pub run_some : (t : Token) (bytes : List ℕ) → IsRunToken t → IsSpelled t bytes → 0 < length bytes
run_some (word w) bytes of is = subst (λ (l : List ℕ). 0 < length l) (sym is) (word_some w)
run_some (label k) bytes of is = omega (arith, ap length is.are)
run_some (variable k) bytes of is = omega (arith, ap length is.are)
run_some (location k) bytes of is = omega (arith, ap length is.are)
run_some (task k) bytes of is = omega (arith, ap length is.are)
run_some (constant n) bytes of is =
    omega (arith, ap length is.are, length-append is.digits (codes "ULL"), is.number.are.0)
run_some (sign s) bytes of is = absurd of

-- a run in front of no letter, digit or `_` is all that stand in front
pub run_len : (bytes rest : List ℕ) → list_all continues_name bytes ≡ true → BeginsNoWord rest →
    prefix_len continues_name (bytes ++ rest) ≡ length bytes
run_len [] [] are ends = refl
run_len [] (b ∷ bs) are ends = cond-false (continues_name b) _ 0 ends
run_len (c ∷ cs) rest are ends =
    let parts = and_parts (continues_name c) (list_all continues_name cs) are in
    let first = cond-true (continues_name c) (1 + prefix_len continues_name (cs ++ rest)) 0 parts.0 in
    let others = run_len cs rest parts.1 ends in
    omega arith

pub word_ends : (t : Token) (rest : List ℕ) → IsRunToken t → EndsToken t rest → BeginsNoWord rest
word_ends (word w) rest of ends = ends
word_ends (label k) rest of ends = ends
word_ends (variable k) rest of ends = ends
word_ends (location k) rest of ends = ends
word_ends (task k) rest of ends = ends
word_ends (constant n) rest of ends = ends
word_ends (sign s) rest of ends = absurd of

pub ends_word : (t : Token) (rest : List ℕ) → IsRunToken t → BeginsNoWord rest → EndsToken t rest
ends_word (word w) rest of ends = ends
ends_word (label k) rest of ends = ends
ends_word (variable k) rest of ends = ends
ends_word (location k) rest of ends = ends
ends_word (task k) rest of ends = ends
ends_word (constant n) rest of ends = ends
ends_word (sign s) rest of ends = absurd of

run_cut : (t : Token) (text bytes rest : List ℕ) → IsRunToken t → BeginsToken text t bytes rest →
    prefix_len continues_name text ≡ length bytes
run_cut t text bytes rest of begins =
    ap (prefix_len continues_name) begins.whole
    ∙ run_len bytes rest (run_continues t bytes of begins.spelled) (word_ends t rest of begins.ends)

-- a sign begins with another byte
pub sign_first : (s : Sign) (rest : List ℕ) → prefix_len continues_name (sign_text s ++ rest) ≡ 0
sign_first open_parenthesis rest = refl
sign_first close_parenthesis rest = refl
sign_first open_brace rest = refl
sign_first close_brace rest = refl
sign_first colon rest = refl
sign_first semicolon rest = refl
sign_first comma rest = refl
sign_first question rest = refl
sign_first tilde rest = refl
sign_first bang rest = refl
sign_first (arithmetic numbers.Add) rest = refl
sign_first (arithmetic numbers.Subtract) rest = refl
sign_first (arithmetic numbers.And) rest = refl
sign_first (arithmetic numbers.Or) rest = refl
sign_first (arithmetic numbers.Xor) rest = refl
sign_first (shifting Left) rest = refl
sign_first (shifting Right) rest = refl
sign_first (comparing Equal) rest = refl
sign_first (comparing NotEqual) rest = refl
sign_first (comparing Less) rest = refl
sign_first (comparing LessEqual) rest = refl
sign_first (comparing Greater) rest = refl
sign_first (comparing GreaterEqual) rest = refl
sign_first (joining truths.And) rest = refl
sign_first (joining truths.Or) rest = refl

sign_cut : (s : Sign) (text bytes rest : List ℕ) → BeginsToken text (sign s) bytes rest →
    (text ≡ sign_text s ++ rest) × (prefix_len continues_name text ≡ 0)
sign_cut s text bytes rest begins =
    let whole : text ≡ sign_text s ++ rest = begins.whole ∙ ap (λ (l : List ℕ). l ++ rest) begins.spelled in
    (whole, ap (prefix_len continues_name) whole ∙ sign_first s rest)

-- a token is a sign, or a word, name or constant
data Sort (t : Token) : Type 0 where
  a_sign : (s : Sign) → t ≡ sign s → Sort t
  a_run : IsRunToken t → Sort t

sort_of : (t : Token) → Sort t
sort_of (word w) = a_run tt
sort_of (label k) = a_run tt
sort_of (variable k) = a_run tt
sort_of (location k) = a_run tt
sort_of (task k) = a_run tt
sort_of (constant n) = a_run tt
sort_of (sign s) = a_sign s refl

as_sign : (s : Sign) (t : Token) (text bytes rest : List ℕ) → t ≡ sign s → BeginsToken text t bytes rest →
    BeginsToken text (sign s) bytes rest
as_sign s t text bytes rest is begins = subst (λ (u : Token). BeginsToken text u bytes rest) is begins

both_signs : (s r : Sign) (text bytes others rest behind : List ℕ) → BeginsToken text (sign s) bytes rest →
    BeginsToken text (sign r) others behind → length bytes ≤ length others
both_signs s r text bytes others rest behind one other =
    let first = sign_cut s text bytes rest one in
    let second = sign_cut r text others behind other in
    let most = other.ends s rest (sym second.0 ∙ first.0) in
    omega (arith, ap length one.spelled, ap length other.spelled)

same_len : (t u : Token) (text bytes others rest behind : List ℕ) → BeginsToken text t bytes rest →
    BeginsToken text u others behind → length bytes ≡ length others
same_len t u text bytes others rest behind one other = elim (sort_of t) [
  | a_sign s is ↦ elim (sort_of u) [
    | a_sign r so ↦
        let first = as_sign s t text bytes rest is one in
        let second = as_sign r u text others behind so other in
        let up = both_signs s r text bytes others rest behind first second in
        let down = both_signs r s text others bytes behind rest second first in
        omega arith
    | a_run of ↦
        let none = (sign_cut s text bytes rest (as_sign s t text bytes rest is one)).1 in
        let some = run_some u others of other.spelled in
        absurd (omega (arith, none, run_cut u text others behind of other))
  ]
  | a_run of ↦ elim (sort_of u) [
    | a_sign r so ↦
        let none = (sign_cut r text others behind (as_sign r u text others behind so other)).1 in
        let some = run_some t bytes of one.spelled in
        absurd (omega (arith, none, run_cut t text bytes rest of one))
    | a_run so ↦ sym (run_cut t text bytes rest of one) ∙ run_cut u text others behind so other
  ]
]

pub one_token : (t u : Token) (text bytes others rest behind : List ℕ) → BeginsToken text t bytes rest →
    BeginsToken text u others behind → (t ≡ u) × (bytes ≡ others) × (rest ≡ behind)
one_token t u text bytes others rest behind one other =
    let len = same_len t u text bytes others rest behind one other in
    let bytes_same : bytes ≡ others =
    sym (take_at bytes rest (length bytes) refl) ∙ ap (take (length bytes)) (sym one.whole ∙ other.whole)
    ∙ take_at others behind (length bytes) (sym len) in
    let rest_same : rest ≡ behind =
    sym (drop_at bytes rest (length bytes) refl) ∙ ap (drop (length bytes)) (sym one.whole ∙ other.whole)
    ∙ drop_at others behind (length bytes) (sym len) in
    (spelled_once t u bytes one.spelled (subst (IsSpelled u) (sym bytes_same) other.spelled), bytes_same, rest_same)

-- where no letter, digit or `_` stands in front, a token there is a sign
pub no_sign_token : (text : List ℕ) (n : ℕ) → n ≡ prefix_len continues_name text → n ≡ 0 → BeginsNoSign text →
    BeginsNoToken text
no_sign_token text n is zero none t bytes rest begins = elim (sort_of t) [
  | a_sign s so ↦ none s rest (sign_cut s text bytes rest (as_sign s t text bytes rest so begins)).0
  | a_run of ↦
      let some = run_some t bytes of begins.spelled in
      omega (arith, run_cut t text bytes rest of begins)
]

pub sign_token_first : (d : DesignTree) (text : List ℕ) (s : Sign) (len : ℕ) (found : Found) →
    token_tree found.token ≡ sign s → found.known ≡ true → IsFirstSign text s len → IsFirstToken d text found len
sign_token_first d text s len found token known first = record {
  some = first.some;
  fits = first.fits;
  token = subst (λ (t : Token). BeginsToken text t (take len text) (drop len text)) (sym token)
      (record { spelled = first.are; ends = first.longest; whole = sym (take-append-drop len text) });
  known = (λ _. ap (token_text d) token ∙ ap Some (sym first.are), λ _. known);
}

-- else it is all of these letters, digits and `_`
cut_run : (t : Token) (text bytes rest : List ℕ) (n : ℕ) → n ≡ prefix_len continues_name text → IsRunToken t →
    BeginsToken text t bytes rest → bytes ≡ take n text
cut_run t text bytes rest n is of begins =
    sym (take_at bytes rest n (sym (is ∙ run_cut t text bytes rest of begins))) ∙ ap (take n) (sym begins.whole)

pub no_run_token : (text : List ℕ) (n : ℕ) → n ≡ prefix_len continues_name text → n ≢ 0 →
    IsNoRun (take n text) → BeginsNoToken text
no_run_token text n is some none t bytes rest begins = elim (sort_of t) [
  | a_sign s so ↦ some (is ∙ (sign_cut s text bytes rest (as_sign s t text bytes rest so begins)).1)
  | a_run of ↦ none t of (subst (IsSpelled t) (cut_run t text bytes rest n is of begins) begins.spelled)
]

pub no_word_behind : (text : List ℕ) → BeginsNoWord (drop (prefix_len continues_name text) text)
no_word_behind [] = tt
no_word_behind (b ∷ bs) = of (continues_name b) refl (no_word_behind bs)
  where
    of : (v : Bool) → continues_name b ≡ v → BeginsNoWord (drop (prefix_len continues_name bs) bs) →
        BeginsNoWord (drop (prefix_len continues_name (b ∷ bs)) (b ∷ bs))
    of true is behind =
        let more : prefix_len continues_name (b ∷ bs) ≡ suc (prefix_len continues_name bs) =
        cond-true (continues_name b) (1 + prefix_len continues_name bs) 0 is ∙ one-add _ in
        subst (λ (n : ℕ). BeginsNoWord (drop n (b ∷ bs))) (sym more) behind
    of false is behind =
        let none : prefix_len continues_name (b ∷ bs) ≡ 0 =
        cond-false (continues_name b) (1 + prefix_len continues_name bs) 0 is in
        subst (λ (n : ℕ). BeginsNoWord (drop n (b ∷ bs))) (sym none) is

pub run_token_first : (d : DesignTree) (text : List ℕ) (n : ℕ) (found : Found) → n ≡ prefix_len continues_name text →
    n ≢ 0 → IsRun d (take n text) found → IsFirstToken d text found n
run_token_first d text n found is some run = record {
  some = omega arith;
  fits = subst (λ (m : ℕ). m ≤ length text) (sym is) (prefix_len-le-length continues_name text);
  token = record {
    spelled = run.spelled;
    ends = ends_word (token_tree found.token) (drop n text) run.is
        (subst (λ (m : ℕ). BeginsNoWord (drop m text)) (sym is) (no_word_behind text));
    whole = sym (take-append-drop n text);
  };
  known = run.known;
}
