-- What the class of the first byte says of the pieces at the front.
use Rattle.std.proofs.Common.{◌≡◌, ℕ, ◌+◌, ◌<◌, ◌≤◌, Bool, true, false, cond, ◌==◌, Option, List, [], ◌∷◌, ◌++◌, length, get_or, take, refl, sym, ap, ◌∙◌, subst, arith}
use Rattle.std.specs.Char.{is_ascii_digit}
use Rattle.std.specs.List.{AllPass, list_all, prefix_len}
use Rattle.std.proofs.lemmas.Bool.{and_parts, cond-true}
use Rattle.std.proofs.lemmas.Bool.Decides.{nat_tests}
use Rattle.std.proofs.lemmas.List.{length-take-le, take-append-drop, get_or-take}
use Rattle.std.proofs.lemmas.List.Prefix.{front_reads}
use Rattle.std.proofs.lemmas.List.Sums.{prefix_len_passes, prefix_len-le-length}
use Rattle.tm_lex.specs.declared.class.Class.{Class}
use Rattle.tm_lex.specs.declared.class.Class.TheVariants.{Blank, Slash, Letter, Digit, Mark}
use Rattle.tm_lex.specs.Class.{class_of}
use Rattle.tm_lex.specs.Front.{IsFirstPiece}
use Rattle.tm_syntax.specs.declared.token.TokenKind.{TokenKind}
use Rattle.tm_syntax.specs.Tokens.{IsPiece, is_blank, begins_name}
use Rattle.tm_syntax.proofs.Tokens as laws

-- the classes of the laws on pieces are the code's
abbrev law_class : Class → laws.Class
law_class Blank = laws.blank
law_class Slash = laws.slash
law_class Letter = laws.letter
law_class Digit = laws.digit
law_class Mark = laws.mark

law_class-cond : (p q r s : Bool) →
    law_class (cond p Blank (cond q Slash (cond r Letter (cond s Digit Mark))))
    ≡ cond p laws.blank (cond q laws.slash (cond r laws.letter (cond s laws.digit laws.mark)))
law_class-cond true q r s = refl
law_class-cond false true r s = refl
law_class-cond false false true s = refl
law_class-cond false false false true = refl
law_class-cond false false false false = refl

law_class-class_of : (b : ℕ) → law_class (class_of b) ≡ laws.class_of b
law_class-class_of b = law_class-cond (is_blank b) (b == 47) (begins_name b) (is_ascii_digit b)

-- the test that a class stands for
chosen_blank : (p q r s : Bool) → cond p Blank (cond q Slash (cond r Letter (cond s Digit Mark))) ≡ Blank → p ≡ true
chosen_blank true q r s e = refl
chosen_blank false true r s e = cc
chosen_blank false false true s e = cc
chosen_blank false false false true e = cc
chosen_blank false false false false e = cc

chosen_slash : (p q r s : Bool) → cond p Blank (cond q Slash (cond r Letter (cond s Digit Mark))) ≡ Slash → q ≡ true
chosen_slash true q r s e = cc
chosen_slash false true r s e = refl
chosen_slash false false true s e = cc
chosen_slash false false false true e = cc
chosen_slash false false false false e = cc

chosen_letter : (p q r s : Bool) → cond p Blank (cond q Slash (cond r Letter (cond s Digit Mark))) ≡ Letter → r ≡ true
chosen_letter true q r s e = cc
chosen_letter false true r s e = cc
chosen_letter false false true s e = refl
chosen_letter false false false true e = cc
chosen_letter false false false false e = cc

chosen_digit : (p q r s : Bool) → cond p Blank (cond q Slash (cond r Letter (cond s Digit Mark))) ≡ Digit → s ≡ true
chosen_digit true q r s e = cc
chosen_digit false true r s e = cc
chosen_digit false false true s e = cc
chosen_digit false false false true e = refl
chosen_digit false false false false e = cc

pub blank_is : (b : ℕ) → class_of b ≡ Blank → is_blank b ≡ true
blank_is b e = chosen_blank (is_blank b) (b == 47) (begins_name b) (is_ascii_digit b) e

pub slash_is : (b : ℕ) → class_of b ≡ Slash → b ≡ 47
slash_is b e = let test = chosen_slash (is_blank b) (b == 47) (begins_name b) (is_ascii_digit b) e in
    grind (arith, nat_tests)

pub letter_is : (b : ℕ) → class_of b ≡ Letter → begins_name b ≡ true
letter_is b e = chosen_letter (is_blank b) (b == 47) (begins_name b) (is_ascii_digit b) e

pub digit_is : (b : ℕ) → class_of b ≡ Digit → is_ascii_digit b ≡ true
digit_is b e = chosen_digit (is_blank b) (b == 47) (begins_name b) (is_ascii_digit b) e

-- every piece at the front of the bytes has at most n bytes
unfoldable pub AtMost : List ℕ → ℕ → Type 0
AtMost bytes n = (kind : Option TokenKind) (piece after : List ℕ) → IsPiece kind piece → bytes ≡ piece ++ after →
    length piece ≤ n

-- a piece at the front that no other is longer than is the first
pub first_from_at_most : (bytes : List ℕ) (kind : Option TokenKind) (n : ℕ) → n ≤ length bytes →
    IsPiece kind (take n bytes) → AtMost bytes n → IsFirstPiece bytes kind n
unfolding AtMost
first_from_at_most bytes kind n fits is most = record {
  fits = fits;
  is = is;
  longest = λ k longer after piece whole.
      let below = most k longer after piece (sym (take-append-drop n bytes) ∙ whole) in
      omega (arith, length-take-le n bytes fits);
}

-- the class of the first byte of the bytes, for a piece at their front
pub begins : (kind : Option TokenKind) (piece after bytes : List ℕ) (c : Class) → IsPiece kind piece →
    bytes ≡ piece ++ after → class_of (get_or bytes 0 0) ≡ c → laws.BeginsWith kind (law_class c)
begins kind piece after bytes c is whole e =
    let first : get_or bytes 0 0 ≡ get_or piece 0 0 =
    front_reads 0 bytes piece after whole 0 (laws.piece_nonempty kind piece is) in
    let same : laws.class_of (get_or piece 0 0) ≡ law_class c =
    ap laws.class_of (sym first) ∙ sym (law_class-class_of (get_or bytes 0 0)) ∙ ap law_class e in
    subst (laws.BeginsWith kind) same (laws.piece_class kind piece is)

-- a front whose bytes all pass is in the longest front that passes
pub length-le-prefix_len : (p : ℕ → Bool) (xs ys : List ℕ) → list_all p xs ≡ true → length xs ≤ prefix_len p (xs ++ ys)
length-le-prefix_len p [] ys h = omega arith
length-le-prefix_len p (x ∷ xs) ys h =
    let parts = and_parts (p x) (list_all p xs) h in
    let more = length-le-prefix_len p xs ys parts.1 in
    let e = cond-true (p x) (1 + prefix_len p (xs ++ ys)) 0 parts.0 in
    omega arith

-- each byte of the longest front that passes does
pub AllPass-prefix : (p : ℕ → Bool) (xs : List ℕ) → AllPass p (take (prefix_len p xs) xs)
AllPass-prefix p xs k d h =
    let below : k < prefix_len p xs = omega (arith, length-take-le (prefix_len p xs) xs (prefix_len-le-length p xs)) in
    ap p (get_or-take (prefix_len p xs) xs k d below) ∙ prefix_len_passes p xs k d below
