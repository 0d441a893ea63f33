-- A text is one list of tokens: the token is read back from the first bytes.
use Rattle.std.proofs.Common.{◌≡◌, ℕ, ◌+◌, ◌^◌, ◌<◌, Bool, true, false, cond, Option, None, Some, option_map, ◌==◌, ◌||◌, List, [], ◌∷◌, ◌++◌, map, length, get_or, drop, codes, refl, ap, ap₂, sym, subst, ◌∙◌, true≢false, append_assoc, length-append, arith}
use Rattle.std.specs.Fmt.{decimal}
use Rattle.std.proofs.lemmas.Bool.Decides.{Decides-eqb}
use Rattle.std.proofs.lemmas.List.{append_cancel_left}
use Rattle.tm_syntax.specs.declared.design.Var.{Var}
use Rattle.tm_syntax.specs.declared.design.Item.{Item}
use Rattle.tm_syntax.specs.Tokens.{is_blank}
use Rattle.tm_syntax.specs.Design.{DesignTree}
use Rattle.tm_cir.specs.declared.block.NumOperator.TheVariants as numbers
use Rattle.tm_base.specs.declared.shift_operator.ShiftOperator.TheVariants.{Left, Right}
use Rattle.tm_cir.specs.declared.block.Comparison.TheVariants.{Equal, NotEqual, Less, LessEqual, Greater, GreaterEqual}
use Rattle.tm_cir.specs.declared.block.Junction.TheVariants as truths
use Rattle.tm_cir.specs.Text.Token.{Word, void, driver_turn, if_word, else_word, goto, return_word, termite_leave, termite_goal, termite_last, Sign, open_parenthesis, close_parenthesis, open_brace, close_brace, colon, semicolon, comma, question, tilde, bang, arithmetic, shifting, comparing, joining, Token, word, label, variable, location, task, constant, sign}
use Rattle.tm_cir.specs.Text.Spelling.{word_text, sign_text, name_byte, item_name, token_text, token_number, IsLongestSign, EndsToken, BeginsWith, AreTokens, no_more, blank, token}
use Rattle.tm_cir.proofs.Text.Expressions.{same_inside}
use Rattle.tm_cir.proofs.Text.Numbers.{begins_digit, number_in_front, number_read, no_digit, numbered}

-- the sign that these two bytes begin with
abbrev sign_of : ℕ → ℕ → Option Sign
sign_of b c =
    cond (b == 40) (Some open_parenthesis)
    (cond (b == 41) (Some close_parenthesis)
    (cond (b == 123) (Some open_brace)
    (cond (b == 125) (Some close_brace)
    (cond (b == 58) (Some colon)
    (cond (b == 59) (Some semicolon)
    (cond (b == 44) (Some comma)
    (cond (b == 63) (Some question)
    (cond (b == 126) (Some tilde)
    (cond (b == 43) (Some (arithmetic numbers.Add))
    (cond (b == 45) (Some (arithmetic numbers.Subtract))
    (cond (b == 94) (Some (arithmetic numbers.Xor))
    (cond (b == 61) (Some (comparing Equal))
    (cond (b == 33) (cond (c == 61) (Some (comparing NotEqual)) (Some bang))
    (cond (b == 38) (cond (c == 38) (Some (joining truths.And)) (Some (arithmetic numbers.And)))
    (cond (b == 124) (cond (c == 124) (Some (joining truths.Or)) (Some (arithmetic numbers.Or)))
    (cond (b == 60)
    (cond (c == 60) (Some (shifting Left)) (cond (c == 61) (Some (comparing LessEqual)) (Some (comparing Less))))
    (cond (b == 62)
    (cond (c == 62) (Some (shifting Right)) (cond (c == 61) (Some (comparing GreaterEqual)) (Some (comparing Greater))))
    None)))))))))))))))))

-- the word that begins with `t` and no digit, by its ninth and tenth byte
abbrev termite_word : ℕ → ℕ → Word
termite_word b c = cond (b == 103) termite_goal (cond (c == 101) termite_leave termite_last)

-- the word, label or name that begins with this byte, by whether a digit follows, and by the number that does
abbrev word_of : ℕ → Bool → ℕ → Word → Option Token
word_of b digit n other =
    cond (b == 100) (Some (word driver_turn))
    (cond (b == 105) (Some (word if_word))
    (cond (b == 101) (Some (word else_word))
    (cond (b == 103) (Some (word goto))
    (cond (b == 114) (Some (word return_word))
    (cond (b == 76) (Some (label n))
    (cond (b == 112) (Some (location n))
    (cond (b == 118) (cond digit (Some (variable n)) (Some (word void)))
    (cond (b == 116) (cond digit (Some (task n)) (Some (word other))) None))))))))

abbrev sign_or : Option Sign → Option Token → Option Token
sign_or None other = other
sign_or (Some s) other = Some (sign s)

-- the token in front, as its first bytes tell
abbrev pub token_in_front : List ℕ → Option Token
token_in_front text =
    cond (begins_digit text) (Some (constant (number_in_front text)))
    (sign_or (sign_of (get_or text 0 0) (get_or text 1 0))
    (word_of (get_or text 0 0) (begins_digit (drop 1 text)) (number_in_front (drop 1 text))
    (termite_word (get_or text 8 0) (get_or text 9 0))))

-- the byte behind a sign does not make it a longer one
not_next : (s longer : Sign) (b : ℕ) (rest : List ℕ) → sign_text longer ≡ sign_text s ++ b ∷ [] → (0 == b) ≡ false →
    IsLongestSign s rest → (get_or rest 0 0 == b) ≡ false
not_next s longer b [] is some longest = some
not_next s longer b (c ∷ cs) is some longest = of (c == b) refl
  where
    of : (v : Bool) → (c == b) ≡ v → (c == b) ≡ false
    of false here = here
    of true here =
        let next : c ≡ b = (Decides-eqb c b).0 here in
        let whole : sign_text s ++ c ∷ cs ≡ sign_text longer ++ cs =
        ap (λ (x : ℕ). sign_text s ++ x ∷ cs) next ∙ sym (append_assoc (sign_text s) (b ∷ []) cs)
        ∙ ap (λ (w : List ℕ). w ++ cs) (sym is) in
        let long : length (sign_text longer) ≡ length (sign_text s) + 1 =
        ap length is ∙ length-append (sign_text s) (b ∷ []) in
        absurd (omega (arith, longest longer cs whole))

-- a sign is the one in front
sign_read : (s : Sign) (rest : List ℕ) → IsLongestSign s rest → token_in_front (sign_text s ++ rest) ≡ Some (sign s)
sign_read open_parenthesis rest longest = refl
sign_read close_parenthesis rest longest = refl
sign_read open_brace rest longest = refl
sign_read close_brace rest longest = refl
sign_read colon rest longest = refl
sign_read semicolon rest longest = refl
sign_read comma rest longest = refl
sign_read question rest longest = refl
sign_read tilde rest longest = refl
sign_read bang rest longest =
    ap (λ (v : Bool). sign_or (cond v (Some (comparing NotEqual)) (Some bang)) None)
    (not_next bang (comparing NotEqual) 61 rest refl refl longest)
sign_read (arithmetic numbers.Add) rest longest = refl
sign_read (arithmetic numbers.Subtract) rest longest = refl
sign_read (arithmetic numbers.And) rest longest =
    ap (λ (v : Bool). sign_or (cond v (Some (joining truths.And)) (Some (arithmetic numbers.And))) None)
    (not_next (arithmetic numbers.And) (joining truths.And) 38 rest refl refl longest)
sign_read (arithmetic numbers.Or) rest longest =
    ap (λ (v : Bool). sign_or (cond v (Some (joining truths.Or)) (Some (arithmetic numbers.Or))) None)
    (not_next (arithmetic numbers.Or) (joining truths.Or) 124 rest refl refl longest)
sign_read (arithmetic numbers.Xor) rest longest = refl
sign_read (shifting Left) rest longest = refl
sign_read (shifting Right) rest longest = refl
sign_read (comparing Equal) rest longest = refl
sign_read (comparing NotEqual) rest longest = refl
sign_read (comparing Less) rest longest =
    ap₂ (λ (v w : Bool).
    sign_or (cond v (Some (shifting Left)) (cond w (Some (comparing LessEqual)) (Some (comparing Less)))) None)
    (not_next (comparing Less) (shifting Left) 60 rest refl refl longest)
    (not_next (comparing Less) (comparing LessEqual) 61 rest refl refl longest)
sign_read (comparing LessEqual) rest longest = refl
sign_read (comparing Greater) rest longest =
    ap₂ (λ (v w : Bool).
    sign_or
    (cond v (Some (shifting Right)) (cond w (Some (comparing GreaterEqual)) (Some (comparing Greater)))) None)
    (not_next (comparing Greater) (shifting Right) 62 rest refl refl longest)
    (not_next (comparing Greater) (comparing GreaterEqual) 61 rest refl refl longest)
sign_read (comparing GreaterEqual) rest longest = refl
sign_read (joining truths.And) rest longest = refl
sign_read (joining truths.Or) rest longest = refl

-- a word is the one in front
word_read : (w : Word) (rest : List ℕ) → token_in_front (word_text w ++ rest) ≡ Some (word w)
word_read void rest = refl
word_read driver_turn rest = refl
word_read if_word rest = refl
word_read else_word rest = refl
word_read goto rest = refl
word_read return_word rest = refl
word_read termite_leave rest = refl
word_read termite_goal rest = refl
word_read termite_last rest = refl

-- the token in front is this one, if it is so of the bytes that spell it
spelled_so : (spelling bytes rest : List ℕ) (t : Token) → Some spelling ≡ Some bytes →
    token_in_front (spelling ++ rest) ≡ Some t → token_in_front (bytes ++ rest) ≡ Some t
spelled_so spelling bytes rest t same reads =
    subst (λ (w : List ℕ). token_in_front (w ++ rest) ≡ Some t) (same_inside same) reads

-- an item's name gives the item's number
item_read : {A : Type 0} (path : A → List ℕ) (letter k : ℕ) (item : Option A) (bytes rest : List ℕ) (t : Token) →
    k < 2 ^ 64 → option_map (λ (a : A). item_name letter k (path a)) item ≡ Some bytes →
    ((more : List ℕ) → begins_digit more ≡ true → number_in_front more ≡ k → token_in_front (letter ∷ more) ≡ Some t) →
    token_in_front (bytes ++ rest) ≡ Some t
item_read path letter k None bytes rest t small spelled reads = cc
item_read path letter k (Some a) bytes rest t small spelled reads =
    let behind = numbered k (95 ∷ map name_byte (path a)) rest small refl in
    spelled_so (item_name letter k (path a)) bytes rest t spelled
    (reads ((decimal k ++ 95 ∷ map name_byte (path a)) ++ rest) behind.0 behind.1)

-- the token that a text begins with is the one in front
token_read : (d : DesignTree) (t : Token) (bytes rest : List ℕ) → token_number t < 2 ^ 64 →
    token_text d t ≡ Some bytes → EndsToken t rest → token_in_front (bytes ++ rest) ≡ Some t
token_read d (word w) bytes rest small spelled ends =
    spelled_so (word_text w) bytes rest (word w) spelled (word_read w rest)
token_read d (label k) bytes rest small spelled ends =
    spelled_so (codes "L" ++ decimal k) bytes rest (label k) spelled
    (ap (λ (n : ℕ). Some (label n)) (number_read k rest small (no_digit rest ends)))
token_read d (variable k) bytes rest small spelled ends =
    item_read (λ (v : Var). v.path) 118 k _ bytes rest (variable k) small spelled
    (λ more digit number. ap₂ (λ (v : Bool) (n : ℕ). cond v (Some (variable n)) (Some (word void))) digit number)
token_read d (location k) bytes rest small spelled ends =
    item_read (λ (p : Item). p.path) 112 k _ bytes rest (location k) small spelled
    (λ more digit number. ap (λ (n : ℕ). Some (location n)) number)
token_read d (task k) bytes rest small spelled ends =
    item_read (λ (t : Item). t.path) 116 k _ bytes rest (task k) small spelled
    (λ more digit number.
    ap₂
    (λ (v : Bool) (n : ℕ).
    cond v (Some (task n)) (Some (word (termite_word (get_or more 7 0) (get_or more 8 0))))) digit number)
token_read d (constant k) bytes rest small spelled ends =
    let text = (decimal k ++ codes "ULL") ++ rest in
    let other = sign_or (sign_of (get_or text 0 0) (get_or text 1 0))
    (word_of (get_or text 0 0) (begins_digit (drop 1 text)) (number_in_front (drop 1 text))
    (termite_word (get_or text 8 0) (get_or text 9 0))) in
    let front = numbered k (codes "ULL") rest small refl in
    spelled_so (decimal k ++ codes "ULL") bytes rest (constant k) spelled
    (ap₂ (λ (v : Bool) (n : ℕ). cond v (Some (constant n)) other) front.0 front.1)
token_read d (sign s) bytes rest small spelled ends =
    spelled_so (sign_text s) bytes rest (sign s) spelled (sign_read s rest ends)

front_is : (d : DesignTree) (text rest : List ℕ) (t : Token) → BeginsWith d text t rest → token_in_front text ≡ Some t
front_is d text rest t begins =
    ap token_in_front begins.whole ∙ token_read d t begins.bytes rest begins.small begins.spelled begins.ends

-- a text begins with one token
same_token : (d : DesignTree) (text rest others : List ℕ) (t u : Token) →
    BeginsWith d text t rest → BeginsWith d text u others → t ≡ u
same_token d text rest others t u one other =
    same_inside (sym (front_is d text rest t one) ∙ front_is d text others u other)

-- one text follows the token
same_rest : (d : DesignTree) (text rest others : List ℕ) (t u : Token) →
    BeginsWith d text t rest → BeginsWith d text u others → rest ≡ others
same_rest d text rest others t u one other =
    let bytes : one.bytes ≡ other.bytes =
    same_inside (sym one.spelled ∙ ap (token_text d) (same_token d text rest others t u one other) ∙ other.spelled) in
    append_cancel_left one.bytes rest others
    (sym one.whole ∙ other.whole ∙ ap (λ (w : List ℕ). w ++ others) (sym bytes))

blank_as : (b n : ℕ) (text : List ℕ) → (b == n) ≡ true →
    token_in_front (n ∷ text) ≡ None → token_in_front (b ∷ text) ≡ None
blank_as b n text is reads = subst (λ (x : ℕ). token_in_front (x ∷ text) ≡ None) (sym ((Decides-eqb b n).0 is)) reads

-- no token begins with a blank
blank_read : (b : ℕ) (text : List ℕ) → is_blank b ≡ true → token_in_front (b ∷ text) ≡ None
blank_read b text is = of (b == 32) (b == 9) (b == 13) (b == 10) refl refl refl refl is
  where
    of : (p q r s : Bool) → (b == 32) ≡ p → (b == 9) ≡ q → (b == 13) ≡ r → (b == 10) ≡ s →
        (p || q || r || s) ≡ true → token_in_front (b ∷ text) ≡ None
    of true q r s space _ _ _ _ = blank_as b 32 text space refl
    of false true r s _ tab _ _ _ = blank_as b 9 text tab refl
    of false false true s _ _ return _ _ = blank_as b 13 text return refl
    of false false false true _ _ _ feed _ = blank_as b 10 text feed refl
    of false false false false _ _ _ _ wrong = absurd (true≢false (sym wrong))

none_begins : (d : DesignTree) (text rest : List ℕ) (t : Token) →
    token_in_front text ≡ None → BeginsWith d text t rest → ⊥
none_begins d text rest t none begins = let same : None ≡ Some t = sym none ∙ front_is d text rest t begins in cc

-- the tokens of a text are one list
pub same_tokens : (d : DesignTree) {text : List ℕ} {one other : List Token} →
    AreTokens d text one → AreTokens d text other → one ≡ other
same_tokens d no_more no_more = refl
same_tokens d no_more (token {t = t} {rest = rest} begins are) = absurd (none_begins d [] rest t refl begins)
same_tokens d (blank is one) (blank _ other) = same_tokens d one other
same_tokens d (blank {b = b} {text = text} is one) (token {t = t} {rest = rest} begins are) =
    absurd (none_begins d (b ∷ text) rest t (blank_read b text is) begins)
same_tokens d (token {t = t} {rest = rest} begins are) no_more = absurd (none_begins d [] rest t refl begins)
same_tokens d (token {t = t} {rest = rest} begins are) (blank {b = b} {text = text} is other) =
    absurd (none_begins d (b ∷ text) rest t (blank_read b text is) begins)
same_tokens d (token {t = t} {text = text} {rest = rest} begins are)
    (token {t = u} {rest = others} {ts = us} starts come) =
    let behind : others ≡ rest = sym (same_rest d text rest others t u begins starts) in
    ap₂ (λ (x : Token) (xs : List Token). x ∷ xs) (same_token d text rest others t u begins starts)
    (same_tokens d are (subst (λ (x : List ℕ). AreTokens d x us) behind come))
