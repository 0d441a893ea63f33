-- Each text has its tokens, or a byte fault.
use Rattle.std.proofs.Common.{◌≡◌, ◌≢◌, ℕ, zero, suc, ◌+◌, ◌<◌, ◌≤◌, eqb, ◌⊎◌, inl, inr, Option, Some, None, List, [], ◌∷◌, ◌++◌, length, get_or, take, drop, codes, refl, sym, ap, ◌∙◌, subst, ⊎_elim, arith}
use Rattle.std.specs.Char.{is_ascii_hexdigit}
use Rattle.std.specs.Cmp.Lexicographic.{pointwise}
use Rattle.std.specs.List.{prefix_len}
use Rattle.std.proofs.lemmas.Bool.{cases_lt, cases_Bool}
use Rattle.std.proofs.lemmas.List.{length-drop, length-take-le, nil_from_length, take-append-drop}
use Rattle.tm_base.specs.declared.place.Place.{Place}
use Rattle.tm_lex.specs.declared.class.Class.{Class}
use Rattle.tm_lex.specs.declared.class.Class.TheVariants.{Blank, Slash, Letter, Digit, Mark}
use Rattle.tm_lex.specs.Class.{class_of}
use Rattle.tm_lex.specs.Front.{IsFirstPiece}
use Rattle.tm_lex.proofs.Comments.{NoCloseBelow, first_blank, first_line, block_comment, open_comment, no_comment}
use Rattle.tm_lex.proofs.Numbers.{first_decimal, first_hexadecimal}
use Rattle.tm_lex.proofs.Prefixes.{begins_so, begins_otherwise}
use Rattle.tm_lex.proofs.Signs.{first_three, first_two, first_one, no_sign}
use Rattle.tm_lex.proofs.Words.{first_word, first_name}
use Rattle.tm_syntax.specs.declared.token.Sign.{Sign}
use Rattle.tm_syntax.specs.declared.token.Sign.TheVariants.{Ellipsis}
use Rattle.tm_syntax.specs.declared.token.Token.{Token}
use Rattle.tm_syntax.specs.declared.token.TokenKind.{TokenKind}
use Rattle.tm_syntax.specs.declared.token.TokenKind.TheVariants as token
use Rattle.tm_syntax.specs.Tokens.{Piece, bytes_of, IsLongest, Splits, sign_text, continues_name, place_after, tokens_behind, AreTokens, BeginsNothing, HasByteFault}
use Rattle.tm_syntax.proofs.Tokens.{bytes_of-cons, piece_nonempty, word_decided, sign_decided}

-- what is at the front of bytes: a first piece, or nothing
data Front (bytes : List ℕ) : Type 0 where
  piece : (kind : Option TokenKind) (len : ℕ) → IsFirstPiece bytes kind len → Front bytes
  nothing : BeginsNothing bytes → Front bytes

-- bytes begin so, or otherwise
begins_decided : (s p : List ℕ) → ((after : List ℕ) × (s ≡ p ++ after)) ⊎ ((after : List ℕ) → s ≢ p ++ after)
begins_decided s p = ⊎_elim
    (λ so. inl (drop (length p) s, begins_so s p (pointwise eqb p (take (length p) s)) refl so))
    (λ otherwise. inr (begins_otherwise s p (pointwise eqb p (take (length p) s)) refl otherwise))
    (cases_Bool (pointwise eqb p (take (length p) s)))

no_close_more : (a : ℕ) (bs : List ℕ) (n : ℕ) → ((after : List ℕ) → a ∷ bs ≢ codes "*/" ++ after) → NoCloseBelow bs n →
    NoCloseBelow (a ∷ bs) (suc n)
no_close_more a bs n here none zero below after = here after
no_close_more a bs n here none (suc k) below after = none k (omega arith) after

-- a first `*/` is in the bytes, or none is
close_decided : (rest : List ℕ) →
    ((n : ℕ) × (after : List ℕ) × NoCloseBelow rest n × (drop n rest ≡ codes "*/" ++ after))
    ⊎ NoCloseBelow rest (length rest)
close_decided [] = inr (λ k below. absurd (omega arith))
close_decided (a ∷ bs) = ⊎_elim
    (λ (here : (after : List ℕ) × (a ∷ bs ≡ codes "*/" ++ after)).
    inl (0, here.0, (λ k below. absurd (omega arith)), here.1))
    (λ (otherwise : (after : List ℕ) → a ∷ bs ≢ codes "*/" ++ after). ⊎_elim
    (λ (found : (n : ℕ) × (after : List ℕ) × NoCloseBelow bs n × (drop n bs ≡ codes "*/" ++ after)).
    inl (suc found.0, found.1, no_close_more a bs found.0 otherwise found.2, found.3))
    (λ (none : NoCloseBelow bs (length bs)). inr (no_close_more a bs (length bs) otherwise none))
    (close_decided bs))
    (begins_decided (a ∷ bs) (codes "*/"))

block_front : (bytes rest : List ℕ) → bytes ≡ codes "/*" ++ rest → Front bytes
block_front bytes rest begin = ⊎_elim
    (λ (found : (n : ℕ) × (after : List ℕ) × NoCloseBelow rest n × (drop n rest ≡ codes "*/" ++ after)).
    piece None (found.0 + 4) (block_comment bytes rest found.1 found.0 begin found.2 found.3))
    (λ (none : NoCloseBelow rest (length rest)). nothing (open_comment bytes rest begin none))
    (close_decided rest)

comment_front : (bytes : List ℕ) → class_of (get_or bytes 0 0) ≡ Slash → Front bytes
comment_front bytes e = ⊎_elim
    (λ (line : (after : List ℕ) × (bytes ≡ codes "//" ++ after)). piece None _ (first_line bytes line.0 line.1 e))
    (λ (no_line : (after : List ℕ) → bytes ≢ codes "//" ++ after). ⊎_elim
    (λ (block : (after : List ℕ) × (bytes ≡ codes "/*" ++ after)). block_front bytes block.0 block.1)
    (λ (no_block : (after : List ℕ) → bytes ≢ codes "/*" ++ after). nothing (no_comment bytes e no_line no_block))
    (begins_decided bytes (codes "/*")))
    (begins_decided bytes (codes "//"))

number_front : (bytes : List ℕ) → 0 < length bytes → class_of (get_or bytes 0 0) ≡ Digit → Front bytes
number_front bytes some e = ⊎_elim
    (λ (hexadecimal : (rest : List ℕ) × (bytes ≡ codes "0x" ++ rest)).
    let rest = hexadecimal.0 in
    ⊎_elim
    (λ (digits : 0 < prefix_len is_ascii_hexdigit rest).
    piece (Some token.Number) _ (first_hexadecimal bytes rest hexadecimal.1 e digits))
    (λ (none : prefix_len is_ascii_hexdigit rest ≤ 0).
    piece (Some token.Number) _ (first_decimal bytes some e (λ other begin.
    let same : other ≡ rest = ap (drop 2) (sym begin ∙ hexadecimal.1) in
    omega (arith, ap (prefix_len is_ascii_hexdigit) same))))
    (cases_lt 0 (prefix_len is_ascii_hexdigit rest)))
    (λ (decimal : (rest : List ℕ) → bytes ≢ codes "0x" ++ rest).
    piece (Some token.Number) _ (first_decimal bytes some e (λ rest begin. absurd (decimal rest begin))))
    (begins_decided bytes (codes "0x"))

short_sign_front : (bytes : List ℕ) → 0 < length bytes → class_of (get_or bytes 0 0) ≡ Mark →
    ((after : List ℕ) → bytes ≢ codes "..." ++ after) →
    (1 < length bytes → (s : Sign) → sign_text s ≢ get_or bytes 0 0 ∷ get_or bytes 1 0 ∷ []) → Front bytes
short_sign_front bytes some e no_three no_pair = ⊎_elim
    (λ (found : (s : Sign) × (sign_text s ≡ get_or bytes 0 0 ∷ [])).
    piece (Some (token.Sign found.0)) 1 (first_one bytes found.0 e no_three no_pair some found.1))
    (λ (none : (s : Sign) → sign_text s ≢ get_or bytes 0 0 ∷ []). nothing (no_sign bytes e no_three no_pair none))
    (sign_decided (get_or bytes 0 0 ∷ []))

sign_front : (bytes : List ℕ) → 0 < length bytes → class_of (get_or bytes 0 0) ≡ Mark → Front bytes
sign_front bytes some e = ⊎_elim
    (λ (three : (after : List ℕ) × (bytes ≡ codes "..." ++ after)).
    piece (Some (token.Sign Ellipsis)) 3 (first_three bytes three.0 three.1 e))
    (λ (no_three : (after : List ℕ) → bytes ≢ codes "..." ++ after). ⊎_elim
    (λ (more : 1 < length bytes). ⊎_elim
    (λ (found : (s : Sign) × (sign_text s ≡ get_or bytes 0 0 ∷ get_or bytes 1 0 ∷ [])).
    piece (Some (token.Sign found.0)) 2 (first_two bytes found.0 e no_three more found.1))
    (λ (none : (s : Sign) → sign_text s ≢ get_or bytes 0 0 ∷ get_or bytes 1 0 ∷ []).
    short_sign_front bytes some e no_three (λ _. none))
    (sign_decided (get_or bytes 0 0 ∷ get_or bytes 1 0 ∷ [])))
    (λ (short : length bytes ≤ 1). short_sign_front bytes some e no_three (λ more. absurd (omega arith)))
    (cases_lt 1 (length bytes)))
    (begins_decided bytes (codes "..."))

word_front : (bytes : List ℕ) → 0 < length bytes → class_of (get_or bytes 0 0) ≡ Letter → Front bytes
word_front bytes some e = ⊎_elim
    (λ found. piece (Some (token.Word found.0)) _ (first_word bytes found.0 e (sym found.1)))
    (λ none. piece (Some token.Name) _ (first_name bytes some e (λ w same. none w (sym same))))
    (word_decided (take (prefix_len continues_name bytes) bytes))

class_front : (bytes : List ℕ) → 0 < length bytes → (c : Class) → class_of (get_or bytes 0 0) ≡ c → Front bytes
class_front bytes some Blank e = piece None 1 (first_blank bytes some e)
class_front bytes some Slash e = comment_front bytes e
class_front bytes some Letter e = word_front bytes some e
class_front bytes some Digit e = number_front bytes some e
class_front bytes some Mark e = sign_front bytes some e

-- a split of a text, up to where nothing more can be split off
record WholeSplit (text : List ℕ) : Type 0 where
  pieces : List Piece
  rest : List ℕ
  split : Splits text pieces rest
  ends : (rest ≡ []) ⊎ ((0 < length rest) × BeginsNothing rest)

-- the split of what is behind a first piece, with that piece
split_more : (text : List ℕ) (kind : Option TokenKind) (len : ℕ) → IsFirstPiece text kind len →
    WholeSplit (drop len text) → WholeSplit text
split_more text kind len first more = record {
  pieces = record { kind = kind; bytes = take len text } ∷ more.pieces;
  rest = more.rest;
  split = record {
    whole = sym (take-append-drop len text) ∙ ap (λ l. take len text ++ l) more.split.whole
        ∙ sym (bytes_of-cons (record { kind = kind; bytes = take len text }) more.pieces more.rest);
    each = (first.is, subst (IsLongest (take len text)) more.split.whole first.longest, more.split.each);
  };
  ends = more.ends;
}

no_split : (text : List ℕ) → (text ≡ []) ⊎ ((0 < length text) × BeginsNothing text) → WholeSplit text
no_split text ends = record { pieces = []; rest = text; split = record { whole = refl; each = tt }; ends = ends }

-- fuel is at least the length
split_all : (fuel : ℕ) (text : List ℕ) → length text ≤ fuel → WholeSplit text
split_all zero text enough = no_split text (inl (nil_from_length text (omega arith)))
split_all (suc fuel) text enough = ⊎_elim
    (λ (some : 0 < length text). elim (class_front text some (class_of (get_or text 0 0)) refl) [
      | piece kind len first ↦
          let size = length-take-le len text first.fits in
          let more = piece_nonempty kind (take len text) first.is in
          split_more text kind len first (split_all fuel (drop len text) (omega (arith, length-drop len text)))
      | nothing none ↦ no_split text (inr (some, none))
    ])
    (λ (none : length text ≤ 0). no_split text (inl (nil_from_length text (omega arith))))
    (cases_lt 0 (length text))

stuck : (text : List ℕ) (pieces : List Piece) (rest : List ℕ) → Splits text pieces rest → 0 < length rest →
    BeginsNothing rest → (place : Place) × HasByteFault text place
stuck text pieces [] split some none = absurd (omega arith)
stuck text pieces (b ∷ bs) split some none = (
  place_after (bytes_of pieces),
  record { pieces = pieces; byte = b; rest = bs; split = split; begins_nothing = none; here = refl },
)

-- each text has its tokens, or a byte fault
pub tokens_or_fault : (text : List ℕ) →
    ((tokens : List Token) × AreTokens text tokens) ⊎ ((place : Place) × HasByteFault text place)
tokens_or_fault text =
    let all = split_all (length text) text (omega arith) in
    ⊎_elim
    (λ (none : all.rest ≡ []).
    inl (
      tokens_behind [] all.pieces,
      record { pieces = all.pieces; split = subst (Splits text all.pieces) none all.split; are = refl },
    ))
    (λ (more : (0 < length all.rest) × BeginsNothing all.rest).
    inr (stuck text all.pieces all.rest all.split more.0 more.1))
    all.ends
