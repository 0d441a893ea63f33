-- The words, names and constants that a run of letters, digits and `_` is.
use Rattle.std.proofs.Common.{◌≡◌, ◌↔◌, ℕ, ◌^◌, ◌<◌, Bool, true, false, IsTrue, Some, None, List, [], ◌∷◌, ◌++◌, map, get_or, codes, lit<, refl, sym, ap, ap₂, ◌∙◌, subst, true≢false, arith}
use Rattle.std.specs.Char.{digit_value}
use Rattle.std.specs.Fmt.{decimal}
use Rattle.std.specs.Str.Parse.{AllDigits, digits_value}
use Rattle.std.proofs.lemmas.Fmt.{decimal_is_IsNumeral}
use Rattle.std.proofs.lemmas.List.{append_cancel_right}
use Rattle.tm_syntax.specs.Grammar.Parts.{below_limit}
use Rattle.tm_syntax.specs.Design.{DesignTree}
use Rattle.tm_cir.specs.Text.Token.{Token, constant, Word, void, driver_turn, if_word, else_word, goto, return_word, termite_leave, termite_goal, termite_last}
use Rattle.tm_cir.specs.Text.Spelling.{name_byte, token_text}
use Rattle.tm_cparse.specs.declared.shape.Found.{Found}
use Rattle.tm_cparse.specs.declared.shape.TheConstants.{WORDS}
use Rattle.tm_cparse.specs.declared.token.Word.TheVariants as words
use Rattle.tm_cparse.specs.View.{word_tree, token_tree}
use Rattle.tm_cparse.specs.Cut.{IsNumber, IsConstant, IsSpelled}
use Rattle.tm_cparse.specs.Inner.Scanning.{IsRunToken, IsRun}
use Rattle.tm_cparse.proofs.Numbers.{spelled_decimal, read_is, read_none}

-- where a word stands in the code's table
pub word_place : (w : Word) → (k : ℕ) × (k < 9) × (word_tree (get_or WORDS k words.Void) ≡ w)
word_place void = (0, lit< tt, refl)
word_place driver_turn = (1, lit< tt, refl)
word_place if_word = (2, lit< tt, refl)
word_place else_word = (3, lit< tt, refl)
word_place goto = (4, lit< tt, refl)
word_place return_word = (5, lit< tt, refl)
word_place termite_leave = (6, lit< tt, refl)
word_place termite_goal = (7, lit< tt, refl)
word_place termite_last = (8, lit< tt, refl)

-- the first byte of a run
head_is : {a b : ℕ} {xs ys : List ℕ} → a ∷ xs ≡ b ∷ ys → a ≡ b
head_is e = cc

tail_is : {a b : ℕ} {xs ys : List ℕ} → a ∷ xs ≡ b ∷ ys → xs ≡ ys
tail_is e = cc

-- the digits of a constant stand in one way
digits_are : (run digits : List ℕ) (n : ℕ) → run ≡ digits ++ codes "ULL" → (is : IsConstant n run) → is.digits ≡ digits
digits_are run digits n whole is =
    append_cancel_right is.digits digits (codes "ULL") (sym is.are ∙ whole)

pub no_number : (run digits : List ℕ) → run ≡ digits ++ codes "ULL" → ¬ IsNumber digits → (n : ℕ) → ¬ IsConstant n run
no_number run digits whole none n is = none (subst IsNumber (digits_are run digits n whole is) is.number)

pub no_value : (run digits : List ℕ) → run ≡ digits ++ codes "ULL" → None ≡ below_limit (digits_value 10 digits) →
    (n : ℕ) → ¬ IsConstant n run
no_value run digits whole none n is =
    let value : n ≡ digits_value 10 digits = is.value ∙ ap (digits_value 10) (digits_are run digits n whole is) in
    omega (arith, read_none (digits_value 10 digits) none, is.small)

pub constant_run : (d : DesignTree) (run digits : List ℕ) (v : ℕ) (found : Found) → run ≡ digits ++ codes "ULL" →
    IsNumber digits → Some v ≡ below_limit (digits_value 10 digits) → token_tree found.token ≡ constant v →
    found.known ≡ true → IsRun d run found
constant_run d run digits v found whole number is token known =
    let read = read_is (digits_value 10 digits) v is in
    let text : decimal v ≡ digits = ap decimal read.0 ∙ spelled_decimal digits number read.1 in
    record {
      is = subst IsRunToken (sym token) tt;
      spelled = subst (λ (t : Token). IsSpelled t run) (sym token)
          (record {
            digits = digits;
            number = number;
            value = read.0;
            small = omega (arith, read.0, read.1);
            are = whole;
          });
      known = (
        λ _. ap (token_text d) token ∙ ap Some (ap (λ (l : List ℕ). l ++ codes "ULL") text ∙ sym whole),
        λ _. known,
      );
    }

-- a name's number and path stand in one way
same_front : (ds es more others : List ℕ) → AllDigits 10 ds → AllDigits 10 es → ds ++ 95 ∷ more ≡ es ++ 95 ∷ others →
    (ds ≡ es) × (more ≡ others)
same_front [] [] more others one other same = (refl, tail_is same)
same_front [] (e ∷ es) more others one other same =
    let digit : digit_value 95 < 10 = subst (λ (c : ℕ). digit_value c < 10) (sym (head_is same)) other.0 in
    absurd (omega arith)
same_front (d ∷ ds) [] more others one other same =
    let digit : digit_value 95 < 10 = subst (λ (c : ℕ). digit_value c < 10) (head_is same) one.0 in
    absurd (omega arith)
same_front (d ∷ ds) (e ∷ es) more others one other same =
    let behind = same_front ds es more others one.1 other.1 (tail_is same) in
    (ap₂ (λ (x : ℕ) (l : List ℕ). x ∷ l) (head_is same) behind.0, behind.1)

-- an item has this name where its number and its path do
pub named_then : (k : ℕ) (item digits path : List ℕ) (q : Bool) → k < 2 ^ 32 → IsNumber digits → decimal k ≡ digits →
    IsTrue q ↔ (map name_byte item ≡ path) →
    IsTrue q ↔ (decimal k ++ 95 ∷ map name_byte item ≡ digits ++ 95 ∷ path)
named_then k item digits path q small number exact written = (
  λ yes. ap₂ (λ (a b : List ℕ). a ++ 95 ∷ b) exact (written.0 yes),
  λ same.
      written.1
      (same_front (decimal k) digits (map name_byte item) path (decimal_is_IsNumeral k (omega arith)).0.1 number.are.1
      same).1,
)

pub named_else : (k : ℕ) (item digits path : List ℕ) (p : Bool) → k < 2 ^ 32 → IsNumber digits →
    IsTrue p ↔ (decimal k ≡ digits) → p ≡ false →
    IsTrue p ↔ (decimal k ++ 95 ∷ map name_byte item ≡ digits ++ 95 ∷ path)
named_else k item digits path p small number exact fails = (
  λ yes. absurd (true≢false (sym yes ∙ fails)),
  λ same.
      exact.1
      (same_front (decimal k) digits (map name_byte item) path (decimal_is_IsNumeral k (omega arith)).0.1 number.are.1
      same).0,
)
