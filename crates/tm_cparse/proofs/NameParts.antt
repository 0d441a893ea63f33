-- The number and the path of a name, and their tests.
use Rattle.std.proofs.Common.{◌≡◌, ◌≢◌, ◌↔◌, ℕ, Bool, true, false, IsTrue, ◌==◌, not, List, [], ◌∷◌, length, get_or, take, drop, refl, sym, ap, ◌∙◌, subst, true≢false, arith}
use Rattle.std.specs.Char.{is_ascii_digit}
use Rattle.std.specs.List.{list_all, prefix_len}
use Rattle.std.proofs.lemmas.Bool.Decides.{nat_tests}
use Rattle.std.proofs.lemmas.List.{take_at, drop_at}
use Rattle.std.proofs.lemmas.List.Sums.{AllPass-from_list_all, list_all-from_AllPass}
use Rattle.tm_syntax.specs.Tokens.{begins_name, continues_name, IsWordLike}
use Rattle.tm_cparse.specs.Cut.{IsNumber}
use Rattle.tm_cparse.specs.Inner.Scanning.{AreNameParts}
use Rattle.tm_cparse.proofs.Numbers.{all_pass, all_are, digits_in_front}

head_is : {a b : ℕ} {xs ys : List ℕ} → a ∷ xs ≡ b ∷ ys → a ≡ b
head_is e = cc

tail_is : {a b : ℕ} {xs ys : List ℕ} → a ∷ xs ≡ b ∷ ys → xs ≡ ys
tail_is e = cc

-- the digits in front are the number of a name, and its path follows `_`
record IsCutSo (rest digits path : List ℕ) (n : ℕ) : Type 0 where
  front : take n rest ≡ digits
  behind : drop n rest ≡ 95 ∷ path

cut_so : (rest digits path : List ℕ) (n : ℕ) → n ≡ prefix_len is_ascii_digit rest → AreNameParts rest digits path →
    IsCutSo rest digits path n
cut_so rest digits path n is parts =
    let len : length digits ≡ n =
    sym (digits_in_front digits path 95 parts.number.are.1 refl) ∙ ap (prefix_len is_ascii_digit) (sym parts.whole)
    ∙ sym is in
    record {
      front = ap (take n) parts.whole ∙ take_at digits (95 ∷ path) n len;
      behind = ap (drop n) parts.whole ∙ drop_at digits (95 ∷ path) n len;
    }

pub no_mark : (rest behind : List ℕ) (n : ℕ) → n ≡ prefix_len is_ascii_digit rest → behind ≡ drop n rest →
    ((r : List ℕ) → behind ≢ 95 ∷ r) → (digits path : List ℕ) → ¬ AreNameParts rest digits path
no_mark rest behind n is cut none digits path parts =
    none path (cut ∙ (cut_so rest digits path n is parts).behind)

pub no_digits : (rest front : List ℕ) (n : ℕ) → n ≡ prefix_len is_ascii_digit rest → front ≡ take n rest →
    ¬ IsNumber front → (digits path : List ℕ) → ¬ AreNameParts rest digits path
no_digits rest front n is cut none digits path parts =
    none (subst IsNumber (sym (cut ∙ (cut_so rest digits path n is parts).front)) parts.number)

pub no_path : (rest behind written : List ℕ) (n : ℕ) → n ≡ prefix_len is_ascii_digit rest → behind ≡ drop n rest →
    behind ≡ 95 ∷ written → ¬ IsWordLike written → (digits path : List ℕ) → ¬ AreNameParts rest digits path
no_path rest behind written n is cut marked none digits path parts =
    let same : written ≡ path = tail_is (sym marked ∙ cut ∙ (cut_so rest digits path n is parts).behind) in
    none (subst IsWordLike (sym same) parts.word_like)

pub some_other : (digits : List ℕ) (r : Bool) → r ≡ list_all is_ascii_digit digits → r ≡ false →
    IsTrue r ↔ IsNumber digits
some_other digits r is other = (
  λ yes. absurd (true≢false (sym yes ∙ other)),
  λ number. is ∙ all_pass digits number.are.1,
)

plain_number : (first : ℕ) (others digits : List ℕ) → digits ≡ first ∷ others →
    list_all is_ascii_digit digits ≡ true → (first ≡ 48 → others ≡ []) → IsNumber digits
plain_number first others digits is are plain = record {
  are = (omega (arith, ap length is), all_are digits are);
  plain = λ zero.
      ap length is
      ∙ ap (λ (l : List ℕ). length (first ∷ l)) (plain (sym (ap (λ (l : List ℕ). get_or l 0 0) is) ∙ zero));
}

pub no_zero : (first : ℕ) (others digits : List ℕ) → digits ≡ first ∷ others → list_all is_ascii_digit digits ≡ true →
    first ≢ 48 → IsTrue (not (first == 48)) ↔ IsNumber digits
no_zero first others digits is are some = (
  λ yes. plain_number first others digits is are (λ zero. absurd (some zero)),
  λ number. not_zero first some,
)
  where
    not_zero : (n : ℕ) → n ≢ 48 → not (n == 48) ≡ true
    not_zero n other = grind (arith, nat_tests)

-- the tests of a path
pub word_like_so : (first : ℕ) (others path : List ℕ) (q : Bool) → path ≡ first ∷ others → begins_name first ≡ true →
    q ≡ list_all continues_name others → IsTrue q ↔ IsWordLike path
word_like_so first others path q is begins continues = (
  λ yes. subst IsWordLike (sym is) (begins, AllPass-from_list_all continues_name others (sym continues ∙ yes)),
  λ like.
      let parts : IsWordLike (first ∷ others) = subst IsWordLike is like in
      continues ∙ list_all-from_AllPass continues_name others parts.1,
)
