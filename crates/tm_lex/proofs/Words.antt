-- Names and reserved words at the front.
use Rattle.std.proofs.Common.{◌≡◌, ◌≢◌, ℕ, suc, ◌+◌, ◌<◌, true, Some, None, List, [], ◌∷◌, length, get_or, take, lit<, refl, ap, ◌∙◌, arith}
use Rattle.std.specs.List.{list_all, prefix_len}
use Rattle.std.proofs.lemmas.Bool.{and_from, cond-true}
use Rattle.std.proofs.lemmas.Bool.Decides.{nat_tests}
use Rattle.std.proofs.lemmas.List.Sums.{prefix_len-le-length, list_all-from_AllPass}
use Rattle.std.proofs.Math.Numerals.{one-add}
use Rattle.tm_lex.specs.declared.class.Class.TheVariants.{Letter}
use Rattle.tm_lex.specs.Class.{class_of}
use Rattle.tm_lex.specs.Front.{IsFirstPiece}
use Rattle.tm_lex.specs.Words.{first_byte, words_from}
use Rattle.tm_lex.proofs.Classes.{AtMost, first_from_at_most, begins, letter_is, length-le-prefix_len, AllPass-prefix}
use Rattle.tm_syntax.specs.declared.token.Word.{Word}
use Rattle.tm_syntax.specs.declared.token.Word.TheVariants as word
use Rattle.tm_syntax.specs.declared.token.TokenKind.TheVariants as token
use Rattle.tm_syntax.specs.Tokens.{IsWordLike, word_text, begins_name, continues_name}

-- where a reserved word stands among those that begin as it does
word_place : (w : Word) → (k : ℕ) × (k < length (words_from (first_byte w)))
    × (get_or (words_from (first_byte w)) k word.Typedef ≡ w)
word_place word.Typedef = (0, lit< tt, refl)
word_place word.Enum = (0, lit< tt, refl)
word_place word.Template = (1, lit< tt, refl)
word_place word.EndTemplate = (1, lit< tt, refl)
word_place word.Instance = (0, lit< tt, refl)
word_place word.Bool = (0, lit< tt, refl)
word_place word.Uint = (0, lit< tt, refl)
word_place word.Goal = (0, lit< tt, refl)
word_place word.Fair = (0, lit< tt, refl)
word_place word.Lazy = (0, lit< tt, refl)
word_place word.Process = (0, lit< tt, refl)
word_place word.Task = (2, lit< tt, refl)
word_place word.Controllable = (0, lit< tt, refl)
word_place word.Uncontrollable = (1, lit< tt, refl)
word_place word.Procedure = (1, lit< tt, refl)
word_place word.Void = (0, lit< tt, refl)
word_place word.Return = (0, lit< tt, refl)
word_place word.If = (1, lit< tt, refl)
word_place word.Else = (2, lit< tt, refl)
word_place word.While = (0, lit< tt, refl)
word_place word.Forever = (1, lit< tt, refl)
word_place word.Choice = (1, lit< tt, refl)
word_place word.Or = (0, lit< tt, refl)
word_place word.Assert = (0, lit< tt, refl)
word_place word.Assume = (1, lit< tt, refl)
word_place word.Pause = (2, lit< tt, refl)
word_place word.Wait = (1, lit< tt, refl)
word_place word.True = (3, lit< tt, refl)
word_place word.False = (2, lit< tt, refl)

-- where it stands among those that begin as a text does which spells it
pub spelled_place : (w : Word) (text : List ℕ) → text ≡ word_text w →
    (k : ℕ) × (k < length (words_from (get_or text 0 0))) × (get_or (words_from (get_or text 0 0)) k word.Typedef ≡ w)
spelled_place w text spelled = rw spelled (word_place w)

-- the bytes of a reserved word go on a name
word_continues : (w : Word) → list_all continues_name (word_text w) ≡ true
word_continues word.Typedef = refl
word_continues word.Enum = refl
word_continues word.Template = refl
word_continues word.EndTemplate = refl
word_continues word.Instance = refl
word_continues word.Bool = refl
word_continues word.Uint = refl
word_continues word.Goal = refl
word_continues word.Fair = refl
word_continues word.Lazy = refl
word_continues word.Process = refl
word_continues word.Task = refl
word_continues word.Controllable = refl
word_continues word.Uncontrollable = refl
word_continues word.Procedure = refl
word_continues word.Void = refl
word_continues word.Return = refl
word_continues word.If = refl
word_continues word.Else = refl
word_continues word.While = refl
word_continues word.Forever = refl
word_continues word.Choice = refl
word_continues word.Or = refl
word_continues word.Assert = refl
word_continues word.Assume = refl
word_continues word.Pause = refl
word_continues word.Wait = refl
word_continues word.True = refl
word_continues word.False = refl

continues_name-begins_name : (b : ℕ) → begins_name b ≡ true → continues_name b ≡ true
continues_name-begins_name b h = grind (arith, nat_tests)

word_like_continues : (bytes : List ℕ) → IsWordLike bytes → list_all continues_name bytes ≡ true
word_like_continues [] h = refl
word_like_continues (b ∷ bs) h =
    and_from (continues_name b) (list_all continues_name bs) (continues_name-begins_name b h.0)
    (list_all-from_AllPass continues_name bs h.1)

-- what begins with a letter or `_` is no longer than its letters, digits and `_`
pub letters_at_most : (bytes : List ℕ) → class_of (get_or bytes 0 0) ≡ Letter →
    AtMost bytes (prefix_len continues_name bytes)
unfolding AtMost
letters_at_most bytes e None piece after is whole = let wrong = begins None piece after bytes Letter is whole e in
    grind arith
letters_at_most bytes e (Some token.Name) piece after is whole =
    rw whole (length-le-prefix_len continues_name piece after (word_like_continues piece is.0))
letters_at_most bytes e (Some token.Number) piece after is whole = let wrong =
    begins (Some token.Number) piece after bytes Letter is whole e in cc
letters_at_most bytes e (Some (token.Word w)) piece after is whole =
    rw whole (length-le-prefix_len continues_name piece after (ap (list_all continues_name) is ∙ word_continues w))
letters_at_most bytes e (Some (token.Sign s)) piece after is whole = let wrong =
    begins (Some (token.Sign s)) piece after bytes Letter is whole e in cc

-- the letters, digits and `_` at the front are a name or a reserved word
pub letters_are_like : (bytes : List ℕ) → 0 < length bytes → class_of (get_or bytes 0 0) ≡ Letter →
    IsWordLike (take (prefix_len continues_name bytes) bytes)
letters_are_like [] some e = absurd (omega arith)
letters_are_like (b ∷ bs) some e =
    let more : prefix_len continues_name (b ∷ bs) ≡ suc (prefix_len continues_name bs) =
    cond-true (continues_name b) (1 + prefix_len continues_name bs) 0 (continues_name-begins_name b (letter_is b e))
    ∙ one-add _ in
    rw more (letter_is b e, AllPass-prefix continues_name bs)

pub first_name : (bytes : List ℕ) → 0 < length bytes → class_of (get_or bytes 0 0) ≡ Letter →
    ((w : Word) → take (prefix_len continues_name bytes) bytes ≢ word_text w) →
    IsFirstPiece bytes (Some token.Name) (prefix_len continues_name bytes)
first_name bytes some e unreserved =
    first_from_at_most bytes (Some token.Name) (prefix_len continues_name bytes)
    (prefix_len-le-length continues_name bytes)
    (letters_are_like bytes some e, unreserved)
    (letters_at_most bytes e)

pub first_word : (bytes : List ℕ) (w : Word) → class_of (get_or bytes 0 0) ≡ Letter →
    take (prefix_len continues_name bytes) bytes ≡ word_text w →
    IsFirstPiece bytes (Some (token.Word w)) (prefix_len continues_name bytes)
first_word bytes w e spelled =
    first_from_at_most bytes (Some (token.Word w)) (prefix_len continues_name bytes)
    (prefix_len-le-length continues_name bytes)
    spelled
    (letters_at_most bytes e)
