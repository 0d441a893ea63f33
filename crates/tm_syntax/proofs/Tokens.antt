-- A text has at most one split into pieces, so its tokens are determined, and it has no byte fault beside them.
use Rattle.std.proofs.Common.{◌≡◌, ◌≢◌, ℕ, ◌<◌, Bool, true, cond, ◌==◌, ◌⊎◌, inl, inr, Option, Some, None, List, [], ◌∷◌, ◌++◌, length, get_or, find, refl, sym, ap, ◌∙◌, subst, ⊎_elim, arith, length-append, append_assoc, take}
use Rattle.std.specs.Str.{bytes_eq}
use Rattle.std.specs.Char.{is_ascii_digit}
use Rattle.std.proofs.lemmas.Bool.{cond-true, cond-false, cases_Bool}
use Rattle.std.proofs.lemmas.Bool.Decides.{nat_tests}
use Rattle.std.proofs.lemmas.List.{take_at, append_cancel_left}
use Rattle.std.proofs.lemmas.Slice.Eq.{bytes_eq-Decides}
use Rattle.tm_syntax.specs.declared.token.Word.{Word}
use Rattle.tm_syntax.specs.declared.token.Word.TheVariants as word
use Rattle.tm_syntax.specs.declared.token.Sign.{Sign}
use Rattle.tm_syntax.specs.declared.token.Sign.TheVariants as sign
use Rattle.tm_syntax.specs.declared.token.TokenKind.{TokenKind}
use Rattle.tm_syntax.specs.declared.token.TokenKind.TheVariants as token
use Rattle.tm_syntax.specs.declared.token.Token.{Token}
use Rattle.tm_base.specs.declared.place.Place.{Place}
use Rattle.tm_syntax.specs.Tokens.{word_text, sign_text, is_blank, begins_name, IsPiece, Piece, bytes_of, ArePieces, Splits, place_after, tokens_behind, AreTokens, BeginsNothing, HasByteFault}

-- each reserved word
words : List Word
words = word.Typedef ∷ word.Enum ∷ word.Template ∷ word.EndTemplate ∷ word.Instance ∷ word.Bool ∷ word.Uint ∷ word.Goal
    ∷ word.Fair ∷ word.Lazy ∷ word.Process ∷ word.Task ∷ word.Controllable ∷ word.Uncontrollable ∷ word.Procedure ∷
    word.Void ∷ word.Return ∷ word.If ∷ word.Else ∷ word.While ∷ word.Forever ∷ word.Choice ∷ word.Or ∷ word.Assert ∷
    word.Assume ∷ word.Pause ∷ word.Wait ∷ word.True ∷ word.False ∷ []

-- the reserved word that is spelled so
word_spelled : List ℕ → Option Word
word_spelled bytes = find (λ w. bytes_eq (word_text w) bytes) words

word_spelled-word_text : (w : Word) → word_spelled (word_text w) ≡ Some w
unfolding word_spelled words
word_spelled-word_text word.Typedef = refl
word_spelled-word_text word.Enum = refl
word_spelled-word_text word.Template = refl
word_spelled-word_text word.EndTemplate = refl
word_spelled-word_text word.Instance = refl
word_spelled-word_text word.Bool = refl
word_spelled-word_text word.Uint = refl
word_spelled-word_text word.Goal = refl
word_spelled-word_text word.Fair = refl
word_spelled-word_text word.Lazy = refl
word_spelled-word_text word.Process = refl
word_spelled-word_text word.Task = refl
word_spelled-word_text word.Controllable = refl
word_spelled-word_text word.Uncontrollable = refl
word_spelled-word_text word.Procedure = refl
word_spelled-word_text word.Void = refl
word_spelled-word_text word.Return = refl
word_spelled-word_text word.If = refl
word_spelled-word_text word.Else = refl
word_spelled-word_text word.While = refl
word_spelled-word_text word.Forever = refl
word_spelled-word_text word.Choice = refl
word_spelled-word_text word.Or = refl
word_spelled-word_text word.Assert = refl
word_spelled-word_text word.Assume = refl
word_spelled-word_text word.Pause = refl
word_spelled-word_text word.Wait = refl
word_spelled-word_text word.True = refl
word_spelled-word_text word.False = refl

-- what `find` finds passes
find_passes : {X : Type 0} (p : X → Bool) (xs : List X) (x : X) → find p xs ≡ Some x → p x ≡ true
find_passes p [] x e = cc
find_passes p (y ∷ ys) x e = ⊎_elim
    (λ so. let same : Some y ≡ Some x = sym (cond-true (p y) (Some y) (find p ys) so) ∙ e in let equal : y ≡ x = cc in
    ap p (sym equal) ∙ so)
    (λ otherwise. find_passes p ys x (sym (cond-false (p y) (Some y) (find p ys) otherwise) ∙ e))
    (cases_Bool (p y))

word_cases : (bytes : List ℕ) (found : Option Word) → word_spelled bytes ≡ found →
    ((w : Word) × (word_text w ≡ bytes)) ⊎ ((w : Word) → word_text w ≢ bytes)
unfolding word_spelled
word_cases bytes None e = inr (λ w same. let one = word_spelled-word_text w in let other = ap word_spelled same in cc)
word_cases bytes (Some w) e =
    inl (w, (bytes_eq-Decides (word_text w) bytes).0 (find_passes (λ v. bytes_eq (word_text v) bytes) words w e))

-- a reserved word is spelled so, or none is
pub word_decided : (bytes : List ℕ) → ((w : Word) × (word_text w ≡ bytes)) ⊎ ((w : Word) → word_text w ≢ bytes)
word_decided bytes = word_cases bytes (word_spelled bytes) refl

-- no two reserved words are spelled alike
pub word_text-injective : (v w : Word) → word_text v ≡ word_text w → v ≡ w
word_text-injective v w same =
    let one = word_spelled-word_text v in
    let other = word_spelled-word_text w in
    let e = ap word_spelled same in
    cc

-- each sign
signs : List Sign
signs = sign.OpenBrace ∷ sign.CloseBrace ∷ sign.OpenParenthesis ∷ sign.CloseParenthesis ∷ sign.OpenBracket ∷
    sign.CloseBracket ∷ sign.Semicolon ∷ sign.Comma ∷ sign.Dot ∷ sign.Ellipsis ∷ sign.Colon ∷ sign.Question ∷
    sign.Assign ∷ sign.Equal ∷ sign.NotEqual ∷ sign.Less ∷ sign.LessEqual ∷ sign.Greater ∷ sign.GreaterEqual ∷
    sign.ShiftLeft ∷ sign.ShiftRight ∷ sign.Plus ∷ sign.Minus ∷ sign.And ∷ sign.AndAnd ∷ sign.Or ∷ sign.OrOr ∷ sign.Xor
    ∷ sign.Tilde ∷ sign.Bang ∷ sign.Star ∷ []

-- the sign that is spelled so
sign_spelled : List ℕ → Option Sign
sign_spelled bytes = find (λ s. bytes_eq (sign_text s) bytes) signs

sign_spelled-sign_text : (s : Sign) → sign_spelled (sign_text s) ≡ Some s
unfolding sign_spelled signs
sign_spelled-sign_text sign.OpenBrace = refl
sign_spelled-sign_text sign.CloseBrace = refl
sign_spelled-sign_text sign.OpenParenthesis = refl
sign_spelled-sign_text sign.CloseParenthesis = refl
sign_spelled-sign_text sign.OpenBracket = refl
sign_spelled-sign_text sign.CloseBracket = refl
sign_spelled-sign_text sign.Semicolon = refl
sign_spelled-sign_text sign.Comma = refl
sign_spelled-sign_text sign.Dot = refl
sign_spelled-sign_text sign.Ellipsis = refl
sign_spelled-sign_text sign.Colon = refl
sign_spelled-sign_text sign.Question = refl
sign_spelled-sign_text sign.Assign = refl
sign_spelled-sign_text sign.Equal = refl
sign_spelled-sign_text sign.NotEqual = refl
sign_spelled-sign_text sign.Less = refl
sign_spelled-sign_text sign.LessEqual = refl
sign_spelled-sign_text sign.Greater = refl
sign_spelled-sign_text sign.GreaterEqual = refl
sign_spelled-sign_text sign.ShiftLeft = refl
sign_spelled-sign_text sign.ShiftRight = refl
sign_spelled-sign_text sign.Plus = refl
sign_spelled-sign_text sign.Minus = refl
sign_spelled-sign_text sign.And = refl
sign_spelled-sign_text sign.AndAnd = refl
sign_spelled-sign_text sign.Or = refl
sign_spelled-sign_text sign.OrOr = refl
sign_spelled-sign_text sign.Xor = refl
sign_spelled-sign_text sign.Tilde = refl
sign_spelled-sign_text sign.Bang = refl
sign_spelled-sign_text sign.Star = refl

sign_cases : (bytes : List ℕ) (found : Option Sign) → sign_spelled bytes ≡ found →
    ((s : Sign) × (sign_text s ≡ bytes)) ⊎ ((s : Sign) → sign_text s ≢ bytes)
unfolding sign_spelled
sign_cases bytes None e = inr (λ s same. let one = sign_spelled-sign_text s in let other = ap sign_spelled same in cc)
sign_cases bytes (Some s) e =
    inl (s, (bytes_eq-Decides (sign_text s) bytes).0 (find_passes (λ r. bytes_eq (sign_text r) bytes) signs s e))

-- a sign is spelled so, or none is
pub sign_decided : (bytes : List ℕ) → ((s : Sign) × (sign_text s ≡ bytes)) ⊎ ((s : Sign) → sign_text s ≢ bytes)
sign_decided bytes = sign_cases bytes (sign_spelled bytes) refl

-- no two signs are spelled alike
pub sign_text-injective : (r s : Sign) → sign_text r ≡ sign_text s → r ≡ s
sign_text-injective r s same =
    let one = sign_spelled-sign_text r in
    let other = sign_spelled-sign_text s in
    let e = ap sign_spelled same in
    cc

-- what may begin with a byte
pub data Class : Type 0 where
  blank : Class
  slash : Class
  letter : Class
  digit : Class
  mark : Class

-- the class of a byte
abbrev pub class_of : ℕ → Class
class_of b = cond (is_blank b) blank
    (cond (b == 47) slash (cond (begins_name b) letter (cond (is_ascii_digit b) digit mark)))

-- pieces of this kind begin with bytes of this class
abbrev pub BeginsWith : Option TokenKind → Class → Type 0
BeginsWith None c = (c ≡ blank) ⊎ (c ≡ slash)
BeginsWith (Some token.Name) c = c ≡ letter
BeginsWith (Some token.Number) c = c ≡ digit
BeginsWith (Some (token.Word _)) c = c ≡ letter
BeginsWith (Some (token.Sign _)) c = c ≡ mark

word_class : (w : Word) → class_of (get_or (word_text w) 0 0) ≡ letter
word_class word.Typedef = refl
word_class word.Enum = refl
word_class word.Template = refl
word_class word.EndTemplate = refl
word_class word.Instance = refl
word_class word.Bool = refl
word_class word.Uint = refl
word_class word.Goal = refl
word_class word.Fair = refl
word_class word.Lazy = refl
word_class word.Process = refl
word_class word.Task = refl
word_class word.Controllable = refl
word_class word.Uncontrollable = refl
word_class word.Procedure = refl
word_class word.Void = refl
word_class word.Return = refl
word_class word.If = refl
word_class word.Else = refl
word_class word.While = refl
word_class word.Forever = refl
word_class word.Choice = refl
word_class word.Or = refl
word_class word.Assert = refl
word_class word.Assume = refl
word_class word.Pause = refl
word_class word.Wait = refl
word_class word.True = refl
word_class word.False = refl

sign_class : (s : Sign) (other : ℕ) → class_of (get_or (sign_text s) 0 other) ≡ mark
sign_class sign.OpenBrace other = refl
sign_class sign.CloseBrace other = refl
sign_class sign.OpenParenthesis other = refl
sign_class sign.CloseParenthesis other = refl
sign_class sign.OpenBracket other = refl
sign_class sign.CloseBracket other = refl
sign_class sign.Semicolon other = refl
sign_class sign.Comma other = refl
sign_class sign.Dot other = refl
sign_class sign.Ellipsis other = refl
sign_class sign.Colon other = refl
sign_class sign.Question other = refl
sign_class sign.Assign other = refl
sign_class sign.Equal other = refl
sign_class sign.NotEqual other = refl
sign_class sign.Less other = refl
sign_class sign.LessEqual other = refl
sign_class sign.Greater other = refl
sign_class sign.GreaterEqual other = refl
sign_class sign.ShiftLeft other = refl
sign_class sign.ShiftRight other = refl
sign_class sign.Plus other = refl
sign_class sign.Minus other = refl
sign_class sign.And other = refl
sign_class sign.AndAnd other = refl
sign_class sign.Or other = refl
sign_class sign.OrOr other = refl
sign_class sign.Xor other = refl
sign_class sign.Tilde other = refl
sign_class sign.Bang other = refl
sign_class sign.Star other = refl

blank_class : (b : ℕ) → is_blank b ≡ true → class_of b ≡ blank
blank_class b h = cond-true (is_blank b) blank _ h

letter_class : (b : ℕ) → begins_name b ≡ true → class_of b ≡ letter
letter_class b h = grind (arith, nat_tests)

digit_class : (b : ℕ) → is_ascii_digit b ≡ true → class_of b ≡ digit
digit_class b h = grind (arith, nat_tests)

-- what a piece begins with
pub piece_class : (kind : Option TokenKind) (bytes : List ℕ) → IsPiece kind bytes →
    BeginsWith kind (class_of (get_or bytes 0 0))
piece_class None bytes h = ⊎_elim
    (λ h. inl (ap (λ bs. class_of (get_or bs 0 0)) h.2 ∙ blank_class h.0 h.1))
    (λ h. inr (⊎_elim (λ h. ap (λ bs. class_of (get_or bs 0 0)) h.2) (λ h. ap (λ bs. class_of (get_or bs 0 0)) h.2) h))
    h
piece_class (Some token.Name) [] h = absurd h.0
piece_class (Some token.Name) (b ∷ bs) h = letter_class b h.0.0
piece_class (Some token.Number) bytes h = ⊎_elim
    (λ h. digit_class (get_or bytes 0 0) (h.1 0 0 h.0))
    (λ h. ap (λ bs. class_of (get_or bs 0 0)) h.3)
    h
piece_class (Some (token.Word w)) bytes h = ap (λ bs. class_of (get_or bs 0 0)) h ∙ word_class w
piece_class (Some (token.Sign s)) bytes h = ap (λ bs. class_of (get_or bs 0 0)) h ∙ sign_class s 0

-- a piece has at least one byte
pub piece_nonempty : (kind : Option TokenKind) (bytes : List ℕ) → IsPiece kind bytes → 0 < length bytes
piece_nonempty None [] h =
    absurd (⊎_elim (λ h. let e = piece_class None [] (inl h) in grind arith)
    (λ h. ⊎_elim (λ h. let e = h.2 in cc) (λ h. let e = h.2 in cc) h) h)
piece_nonempty (Some token.Name) [] h = absurd h.0
piece_nonempty (Some token.Number) [] h = let e = piece_class (Some token.Number) [] h in cc
piece_nonempty (Some (token.Word w)) [] h = let e = piece_class (Some (token.Word w)) [] h in cc
piece_nonempty (Some (token.Sign s)) [] h = let e = ap (λ bs. class_of (get_or bs 0 32)) h ∙ sign_class s 32 in cc
piece_nonempty kind (b ∷ bs) h = omega arith

-- a piece is of one kind
pub piece_kind : (j k : Option TokenKind) (bytes : List ℕ) → IsPiece j bytes → IsPiece k bytes → j ≡ k
piece_kind None None bytes h i = refl
piece_kind (Some token.Name) (Some token.Name) bytes h i = refl
piece_kind (Some token.Number) (Some token.Number) bytes h i = refl
piece_kind (Some (token.Word v)) (Some (token.Word w)) bytes h i =
    ap (λ w. Some (token.Word w)) (word_text-injective v w (sym h ∙ i))
piece_kind (Some (token.Sign r)) (Some (token.Sign s)) bytes h i =
    ap (λ s. Some (token.Sign s)) (sign_text-injective r s (sym h ∙ i))
piece_kind (Some token.Name) (Some (token.Word w)) bytes h i = absurd (h.1 w i)
piece_kind (Some (token.Word w)) (Some token.Name) bytes h i = absurd (i.1 w h)
piece_kind j k bytes h i =
    let one = piece_class j bytes h in
    let other = piece_class k bytes i in
    absurd (grind arith)

-- two fronts of one list that are as long as each other
pub same_fronts : (a b : List ℕ) {x y : List ℕ} → length a ≡ length b → a ++ x ≡ b ++ y → (a ≡ b) × (x ≡ y)
same_fronts a b {x} {y} same whole =
    let front : a ≡ b = sym (take_at a x (length b) same) ∙ ap (take (length b)) whole ∙ take_at b y (length b) refl in
    (front, append_cancel_left b x y (ap (λ l. l ++ x) (sym front) ∙ whole))

-- nothing more can be split off
pub IsEnd : List ℕ → Type 0
IsEnd rest = (rest ≡ []) ⊎ BeginsNothing rest

nothing_at_end : (rest : List ℕ) (kind : Option TokenKind) (bytes after : List ℕ) → IsEnd rest → IsPiece kind bytes →
    rest ≡ bytes ++ after → ⊥
unfolding IsEnd
nothing_at_end rest kind bytes after end piece whole =
    let nonempty = piece_nonempty kind bytes piece in
    ⊎_elim
    (λ none. omega (arith, ap length (sym none ∙ whole), length-append bytes after))
    (λ nothing. nothing kind bytes after piece whole)
    end

-- the first of pieces in a row stands in front
pub bytes_of-cons : (p : Piece) (ps : List Piece) (rest : List ℕ) →
    bytes_of (p ∷ ps) ++ rest ≡ p.bytes ++ (bytes_of ps ++ rest)
bytes_of-cons p ps rest = append_assoc p.bytes (bytes_of ps) rest

-- a text has one split
pub splits_agree : (ps qs : List Piece) (x y : List ℕ) → bytes_of ps ++ x ≡ bytes_of qs ++ y → ArePieces ps x →
    ArePieces qs y → IsEnd x → IsEnd y → (ps ≡ qs) × (x ≡ y)
splits_agree [] [] x y whole p q ends end = (refl, whole)
splits_agree [] (b ∷ qs) x y whole p q ends end =
    absurd (nothing_at_end x b.kind b.bytes (bytes_of qs ++ y) ends q.0 (whole ∙ bytes_of-cons b qs y))
splits_agree (a ∷ ps) [] x y whole p q ends end =
    absurd (nothing_at_end y a.kind a.bytes (bytes_of ps ++ x) end p.0 (sym whole ∙ bytes_of-cons a ps x))
splits_agree (a ∷ ps) (b ∷ qs) x y whole p q ends end =
    let parts = sym (bytes_of-cons a ps x) ∙ whole ∙ bytes_of-cons b qs y in
    let below = p.1 b.kind b.bytes (bytes_of qs ++ y) q.0 parts in
    let above = q.1 a.kind a.bytes (bytes_of ps ++ x) p.0 (sym parts) in
    let same = same_fronts a.bytes b.bytes (omega arith) parts in
    let rest = splits_agree ps qs x y same.1 p.2 q.2 ends end in
    let kinds = piece_kind a.kind b.kind b.bytes (subst (IsPiece a.kind) same.0 p.0) q.0 in
    (λ i. record { kind = kinds i; bytes = same.0 i } ∷ rest.0 i, rest.1)

-- what is left of two splits of one text is the same, and so are the pieces
pub Splits-agree : (text : List ℕ) (ps qs : List Piece) (x y : List ℕ) → Splits text ps x → Splits text qs y → IsEnd x →
    IsEnd y → (ps ≡ qs) × (x ≡ y)
Splits-agree text ps qs x y one other ends end =
    splits_agree ps qs x y (sym one.whole ∙ other.whole) one.each other.each ends end

-- the tokens of a text are determined
pub tokens_agree : (text : List ℕ) (ts us : List Token) → AreTokens text ts → AreTokens text us → ts ≡ us
unfolding IsEnd
tokens_agree text ts us one other =
    let same = Splits-agree text one.pieces other.pieces [] [] one.split other.split (inl refl) (inl refl) in
    one.are ∙ ap (tokens_behind []) same.0 ∙ sym other.are

-- a text with tokens has no byte fault
pub tokens_or_fault : (text : List ℕ) (ts : List Token) (place : Place) → AreTokens text ts → HasByteFault text place →
    ⊥
unfolding IsEnd
tokens_or_fault text ts place one fault =
    let same = (Splits-agree text one.pieces fault.pieces [] (fault.byte ∷ fault.rest) one.split fault.split (inl refl)
    (inr fault.begins_nothing)).1 in
    cc

-- the byte fault of a text is at one place
pub faults_agree : (text : List ℕ) (here there : Place) → HasByteFault text here → HasByteFault text there →
    here ≡ there
unfolding IsEnd
faults_agree text here there one other =
    let same = Splits-agree text one.pieces other.pieces (one.byte ∷ one.rest) (other.byte ∷ other.rest) one.split
    other.split (inr one.begins_nothing) (inr other.begins_nothing) in
    one.here ∙ ap (λ ps. place_after (bytes_of ps)) same.0 ∙ sym other.here
