-- Blanks and comments at the front.
use Rattle.std.proofs.Common.{◌≡◌, ◌≢◌, ℕ, suc, ◌+◌, ◌-◌, ◌<◌, ◌≤◌, Bool, true, not, ◌⊎◌, inl, inr, Option, Some, None, List, [], ◌∷◌, ◌++◌, length, get_or, take, drop, codes, refl, sym, ap, ◌∙◌, subst, ⊎_elim, arith, length-append, append_assoc, length-drop}
use Rattle.std.specs.List.{list_all, prefix_len}
use Rattle.std.specs.Str.Iter.{HasSubslice}
use Rattle.std.proofs.lemmas.Bool.{cases_lt}
use Rattle.std.proofs.lemmas.List.{take_at, drop_at, drop-append-le, drop-drop, take-append-drop, length-take, length-take-le}
use Rattle.std.proofs.lemmas.List.Sums.{prefix_len-le-length, list_all-from_AllPass}
use Rattle.tm_lex.specs.declared.class.Class.TheVariants.{Blank, Slash}
use Rattle.tm_lex.specs.Class.{class_of}
use Rattle.tm_lex.specs.Front.{IsFirstPiece}
use Rattle.tm_lex.proofs.Classes.{AtMost, first_from_at_most, begins, blank_is, slash_is, length-le-prefix_len, AllPass-prefix}
use Rattle.tm_syntax.specs.declared.token.TokenKind.{TokenKind}
use Rattle.tm_syntax.specs.declared.token.TokenKind.TheVariants as token
use Rattle.tm_syntax.specs.Tokens.{IsPiece, IsBlank, IsLineComment, IsBlockComment, BeginsNothing, is_blank, is_line_feed}

abbrev IsGap : List ℕ → Type 0
IsGap bytes = IsPiece None bytes

-- a piece that begins with a blank or a slash is a gap
gap_kind : (kind : Option TokenKind) (piece after bytes : List ℕ) → IsPiece kind piece → bytes ≡ piece ++ after →
    (class_of (get_or bytes 0 0) ≡ Blank) ⊎ (class_of (get_or bytes 0 0) ≡ Slash) → kind ≡ None
gap_kind None piece after bytes is whole e = refl
gap_kind (Some token.Name) piece after bytes is whole e =
    absurd (⊎_elim (λ e. let wrong = begins (Some token.Name) piece after bytes Blank is whole e in cc)
    (λ e. let wrong = begins (Some token.Name) piece after bytes Slash is whole e in cc) e)
gap_kind (Some token.Number) piece after bytes is whole e =
    absurd (⊎_elim (λ e. let wrong = begins (Some token.Number) piece after bytes Blank is whole e in cc)
    (λ e. let wrong = begins (Some token.Number) piece after bytes Slash is whole e in cc) e)
gap_kind (Some (token.Word w)) piece after bytes is whole e =
    absurd (⊎_elim (λ e. let wrong = begins (Some (token.Word w)) piece after bytes Blank is whole e in cc)
    (λ e. let wrong = begins (Some (token.Word w)) piece after bytes Slash is whole e in cc) e)
gap_kind (Some (token.Sign s)) piece after bytes is whole e =
    absurd (⊎_elim (λ e. let wrong = begins (Some (token.Sign s)) piece after bytes Blank is whole e in cc)
    (λ e. let wrong = begins (Some (token.Sign s)) piece after bytes Slash is whole e in cc) e)

-- so it is enough to bound gaps
gaps_alone : (bytes : List ℕ) (n : ℕ) → (class_of (get_or bytes 0 0) ≡ Blank) ⊎ (class_of (get_or bytes 0 0) ≡ Slash) →
    ((piece after : List ℕ) → IsGap piece → bytes ≡ piece ++ after → length piece ≤ n) → AtMost bytes n
unfolding AtMost
gaps_alone bytes n e most kind piece after is whole =
    most piece after (subst (λ k. IsPiece k piece) (gap_kind kind piece after bytes is whole e) is) whole

-- a blank at the front is a gap by itself
pub first_blank : (bytes : List ℕ) → 0 < length bytes → class_of (get_or bytes 0 0) ≡ Blank → IsFirstPiece bytes None 1
first_blank [] some e = absurd (omega arith)
first_blank (b ∷ bs) some e =
    first_from_at_most (b ∷ bs) None 1 (omega arith)
    (inl (b, blank_is b e, refl))
    (gaps_alone (b ∷ bs) 1 (inl e) (λ piece after is whole. ⊎_elim
    (λ is. omega (arith, ap length is.2))
    (λ is. ⊎_elim
    (λ is. let first : b ≡ 47 = ap (λ l. get_or l 0 0) (whole ∙ ap (λ p. p ++ after) is.2) in let wrong =
    ap class_of first in cc)
    (λ is. let first : b ≡ 47 = ap (λ l. get_or l 0 0) (whole ∙ ap (λ p. p ++ after) is.2) in let wrong =
    ap class_of first in cc)
    is)
    is))

-- a gap that begins with a slash is a comment
no_blank : (bytes piece after : List ℕ) → class_of (get_or bytes 0 0) ≡ Slash → bytes ≡ piece ++ after → IsBlank piece →
    ⊥
no_blank bytes piece after e whole is =
    let first : get_or bytes 0 0 ≡ is.0 = ap (λ l. get_or l 0 0) (whole ∙ ap (λ p. p ++ after) is.2) in
    let slash = slash_is (get_or bytes 0 0) e in
    let wrong : is_blank 47 ≡ true = ap is_blank (sym slash ∙ first) ∙ is.1 in
    cc

-- `//` and what stands up to the line feed
pub first_line : (bytes rest : List ℕ) → bytes ≡ codes "//" ++ rest → class_of (get_or bytes 0 0) ≡ Slash →
    IsFirstPiece bytes None (prefix_len (λ b. not (is_line_feed b)) bytes)
first_line bytes rest begin e =
    let p : ℕ → Bool = λ b. not (is_line_feed b) in
    let n = prefix_len p bytes in
    let m = prefix_len p rest in
    let two : n ≡ suc (suc m) = ap (prefix_len p) begin ∙ (let e : 1 + (1 + m) ≡ suc (suc m) = omega arith in e) in
    let front : take n bytes ≡ codes "//" ++ take m rest = ap (λ k. take k bytes) two ∙ ap (take (suc (suc m))) begin in
    first_from_at_most bytes None n (prefix_len-le-length p bytes)
    (inr (inl (take m rest, AllPass-prefix p rest, front)))
    (gaps_alone bytes n (inr e) (λ piece after is whole. ⊎_elim
    (λ is. absurd (no_blank bytes piece after e whole is))
    (λ is. ⊎_elim
    (λ (is : IsLineComment piece).
    rw whole (length-le-prefix_len p piece after (ap (list_all p) is.2 ∙ list_all-from_AllPass p is.0 is.1)))
    (λ is. let wrong : codes "//" ++ rest ≡ codes "/*" ++ is.0 ++ codes "*/" ++ after =
    sym begin ∙ whole ∙ ap (λ p. p ++ after) is.2 in absurd (omega (arith, ap (λ l. get_or l 1 0) wrong)))
    is)
    is))

-- no comment begins with a slash that neither `/` nor `*` follows
pub no_comment : (bytes : List ℕ) → class_of (get_or bytes 0 0) ≡ Slash →
    ((rest : List ℕ) → bytes ≢ codes "//" ++ rest) → ((rest : List ℕ) → bytes ≢ codes "/*" ++ rest) →
    BeginsNothing bytes
no_comment bytes e no_line no_block kind piece after is whole = ⊎_elim
    (λ is. no_blank bytes piece after e whole is)
    (λ is. ⊎_elim
    (λ is. no_line (is.0 ++ after) (whole ∙ ap (λ p. p ++ after) is.2))
    (λ is. no_block (is.0 ++ codes "*/" ++ after) (whole ∙ ap (λ p. p ++ after) is.2))
    is)
    (subst (λ k. IsPiece k piece) (gap_kind kind piece after bytes is whole (inr e)) is)

-- two lists that begin alike where the second does with `*/`: the first is empty, or begins so too
close_in : (front after rest : List ℕ) → front ++ codes "*/" ++ after ≡ codes "*/" ++ rest →
    (front ≡ []) ⊎ ((more : List ℕ) × (front ≡ codes "*/" ++ more))
close_in [] after rest e = inl refl
close_in (a ∷ []) after rest e = absurd (omega (arith, ap (λ l. get_or l 1 0) e))
close_in (a ∷ b ∷ more) after rest e = inr (more, let one = e in cc)

-- no `*/` begins before place n
abbrev pub NoCloseBelow : List ℕ → ℕ → Type 0
NoCloseBelow bytes n = (k : ℕ) → k < n → (after : List ℕ) → drop k bytes ≢ codes "*/" ++ after

-- where `body`, then `*/` stand, and a `*/` begins at place n, a body with no `*/` in it is no longer than n
body_at_most : (rest body after more : List ℕ) (n : ℕ) → rest ≡ body ++ codes "*/" ++ after →
    ¬ HasSubslice body (codes "*/") → drop n rest ≡ codes "*/" ++ more → length body ≤ n
body_at_most rest body after more n whole none close = ⊎_elim
    (λ (longer : n < length body).
    let at : drop n body ++ codes "*/" ++ after ≡ codes "*/" ++ more =
    append_assoc (drop n body) (codes "*/") after ∙ sym (drop-append-le n body (codes "*/" ++ after) (omega arith))
    ∙ ap (drop n) (sym (append_assoc body (codes "*/") after) ∙ sym whole) ∙ close in
    absurd (⊎_elim
    (λ (e : drop n body ≡ []). let none : length (drop n body) ≡ 0 = ap length e in omega (arith, length-drop n body))
    (λ (inside : (more : List ℕ) × (drop n body ≡ codes "*/" ++ more)).
    none (take n body, inside.0, sym (take-append-drop n body) ∙ ap (λ l. take n body ++ l) inside.1))
    (close_in (drop n body) after more at)))
    (λ short. short)
    (cases_lt n (length body))

-- no `*/` begins in what stands before the first `*/`
body_none : (rest : List ℕ) (n : ℕ) → NoCloseBelow rest n → ¬ HasSubslice (take n rest) (codes "*/")
body_none rest n none inside =
    let front = inside.0 in
    let back = inside.1 in
    let len : length (take n rest) ≡ length front + suc (suc (length back)) =
    ap length inside.2 ∙ length-append front (codes "*/" ++ back) in
    let whole : rest ≡ front ++ (codes "*/" ++ (back ++ drop n rest)) =
    sym (take-append-drop n rest) ∙ ap (λ l. l ++ drop n rest) inside.2
    ∙ append_assoc front (codes "*/" ++ back) (drop n rest) in
    none (length front) (omega (arith, length-take n rest)) (back ++ drop n rest)
    (ap (drop (length front)) whole ∙ drop_at front (codes "*/" ++ (back ++ drop n rest)) (length front) refl)

-- a block comment at the front of bytes that begin with `/*` has a body that the first `*/` ends
block_parts : (bytes rest piece after : List ℕ) → bytes ≡ codes "/*" ++ rest → bytes ≡ piece ++ after → IsGap piece →
    (body : List ℕ) × ¬ HasSubslice body (codes "*/") × (length piece ≡ length body + 4)
    × (rest ≡ body ++ codes "*/" ++ after)
block_parts bytes rest piece after begin whole is = ⊎_elim
    (λ (is : IsBlank piece). absurd (no_blank bytes piece after (ap (λ l. class_of (get_or l 0 0)) begin) whole is))
    (λ is. ⊎_elim
    (λ (is : IsLineComment piece). let wrong : codes "/*" ++ rest ≡ codes "//" ++ is.0 ++ after =
    sym begin ∙ whole ∙ ap (λ p. p ++ after) is.2 in absurd (omega (arith, ap (λ l. get_or l 1 0) wrong)))
    (λ (is : IsBlockComment piece).
    let same : codes "/*" ++ rest ≡ codes "/*" ++ is.0 ++ codes "*/" ++ after =
    sym begin ∙ whole ∙ ap (λ p. p ++ after) is.2 in
    let len : length piece ≡ suc (suc (length (is.0 ++ codes "*/"))) = ap length is.2 in
    (is.0, is.1, omega (arith, length-append is.0 (codes "*/")), ap (drop 2) same))
    is)
    is

-- `/*` and what stands up to the first `*/` behind it
pub block_comment : (bytes rest after : List ℕ) (n : ℕ) → bytes ≡ codes "/*" ++ rest → NoCloseBelow rest n →
    drop n rest ≡ codes "*/" ++ after → IsFirstPiece bytes None (n + 4)
block_comment bytes rest after n begin none close =
    let body = take n rest in
    let some : length (drop n rest) ≡ suc (suc (length after)) = ap length close in
    let len : length body ≡ n = length-take-le n rest (omega (arith, length-drop n rest)) in
    let piece = codes "/*" ++ body ++ codes "*/" in
    let whole : bytes ≡ piece ++ after =
    begin ∙ ap (λ l. codes "/*" ++ l)
    (sym (take-append-drop n rest) ∙ ap (λ l. body ++ l) close ∙ sym (append_assoc body (codes "*/") after)) in
    let size : length piece ≡ n + 4 =
    (let e : length piece ≡ suc (suc (length (body ++ codes "*/"))) = refl in
    omega (arith, length-append body (codes "*/"))) in
    let front : take (n + 4) bytes ≡ piece = ap (take (n + 4)) whole ∙ take_at piece after (n + 4) size in
    first_from_at_most bytes None (n + 4) (omega (arith, ap length whole, length-append piece after))
    (inr (inr (body, body_none rest n none, front)))
    (gaps_alone bytes (n + 4) (inr (ap (λ l. class_of (get_or l 0 0)) begin)) (λ piece after' is whole.
    let parts = block_parts bytes rest piece after' begin whole is in
    let most = body_at_most rest parts.0 after' after n parts.3 parts.1 close in
    omega (arith, parts.2)))

-- a `/*` that no `*/` follows begins nothing
pub open_comment : (bytes rest : List ℕ) → bytes ≡ codes "/*" ++ rest → NoCloseBelow rest (length rest) →
    BeginsNothing bytes
open_comment bytes rest begin none kind piece after is whole =
    let gap = subst (λ k. IsPiece k piece)
    (gap_kind kind piece after bytes is whole (inr (ap (λ l. class_of (get_or l 0 0)) begin))) is in
    let parts = block_parts bytes rest piece after begin whole gap in
    let body = parts.0 in
    let apart : rest ≡ body ++ (codes "*/" ++ after) = parts.3 ∙ append_assoc body (codes "*/") after in
    none (length body) (omega (arith, ap length apart, length-append body (codes "*/" ++ after))) after
    (ap (drop (length body)) apart ∙ drop_at body (codes "*/" ++ after) (length body) refl)

-- no `*/` begins at the places from 2 on that are below n
abbrev pub NoCloseBetween : List ℕ → ℕ → Type 0
NoCloseBetween bytes n = (k : ℕ) → k < n → 2 ≤ k → (after : List ℕ) → drop k bytes ≢ codes "*/" ++ after

behind_open : (bytes : List ℕ) (n : ℕ) → NoCloseBetween bytes (2 + n) → NoCloseBelow (drop 2 bytes) n
behind_open bytes n none k below after = let same = drop-drop k 2 bytes in
    λ e. none (2 + k) (omega arith) (omega arith) after (sym same ∙ e)

pub first_block : (bytes after : List ℕ) (star : ℕ) → bytes ≡ codes "/*" ++ drop 2 bytes → 2 ≤ star →
    NoCloseBetween bytes star → drop star bytes ≡ codes "*/" ++ after → IsFirstPiece bytes None (star + 2)
first_block bytes after star begin low none close =
    let n = star - 2 in
    let same : 2 + n ≡ star = omega arith in
    let size : n + 4 ≡ star + 2 = omega arith in
    subst (IsFirstPiece bytes None) size
    (block_comment bytes (drop 2 bytes) after n begin
    (behind_open bytes n (subst (NoCloseBetween bytes) (sym same) none))
    (drop-drop n 2 bytes ∙ ap (λ k. drop k bytes) same ∙ close))

pub no_close : (bytes : List ℕ) → bytes ≡ codes "/*" ++ drop 2 bytes → NoCloseBetween bytes (length bytes) →
    BeginsNothing bytes
no_close bytes begin none =
    let size : length bytes ≡ 2 + length (drop 2 bytes) =
    ap length begin ∙ (let e : suc (suc (length (drop 2 bytes))) ≡ 2 + length (drop 2 bytes) = omega arith in e) in
    open_comment bytes (drop 2 bytes) begin
    (behind_open bytes (length (drop 2 bytes)) (subst (NoCloseBetween bytes) size none))
