-- A structured text is one list of tokens: the token is read back from the first bytes.
use Rattle.std.proofs.Common.{◌≡◌, ℕ, ◌+◌, ◌^◌, ◌<◌, ◌≤◌, Bool, true, false, cond, Option, None, Some, option_map, ◌==◌, ◌||◌, List, [], ◌∷◌, ◌++◌, map, length, get_or, drop, codes, refl, ap, ap₂, sym, subst, ◌∙◌, true≢false, append_assoc, length-append, arith}
use Rattle.std.specs.Fmt.{decimal}
use Rattle.std.proofs.lemmas.Bool.Decides.{Decides-eqb}
use Rattle.std.proofs.lemmas.List.{append_cancel_left}
use Rattle.tm_syntax.specs.declared.design.Var.{Var}
use Rattle.tm_syntax.specs.declared.design.Item.{Item}
use Rattle.tm_syntax.specs.Tokens.{is_blank}
use Rattle.tm_syntax.specs.Design.{DesignTree}
use Rattle.tm_cir.specs.declared.block.NumOperator.TheVariants as numbers
use Rattle.tm_base.specs.declared.shift_operator.ShiftOperator.TheVariants.{Left, Right}
use Rattle.tm_cir.specs.declared.block.Comparison.TheVariants.{Equal, NotEqual, Less, LessEqual, Greater, GreaterEqual}
use Rattle.tm_cir.specs.declared.block.Junction.TheVariants as truths
use Rattle.tm_cir.specs.Text.Token.{Word, void, driver_turn, if_word, else_word, goto, return_word, termite_leave, termite_goal, termite_last, Sign, open_parenthesis, close_parenthesis, open_brace, close_brace, colon, semicolon, comma, question, tilde, bang, arithmetic, shifting, comparing, joining, Token, word, label, variable, location, task, constant, sign}
use Rattle.tm_cir.specs.Text.Spelling.{word_text, sign_text, name_byte, item_name, token_text, token_number, IsLongestSign, EndsToken}
use Rattle.tm_cir.proofs.Text.Cuts.{token_in_front}
use Rattle.tm_cir.proofs.Text.Expressions.{same_inside}
use Rattle.tm_cir.proofs.Text.Numbers.{begins_digit, number_in_front, number_read, no_digit, numbered}
use Rattle.tm_struct.specs.Text.Spelling.{spelling, BeginsWith, AreTokens, no_more, blank, token}

-- the token in front of a structured text, as its first bytes tell (115 is `s`, 98 is `b`)
abbrev own_in_front : List ℕ → Option Token
own_in_front text =
    cond (get_or text 0 0 == 115) (Some (word goto))
    (cond (get_or text 0 0 == 98) (Some (label (number_in_front (drop 1 text)))) (token_in_front text))

-- the byte behind a sign does not make it a longer one
not_next : (s longer : Sign) (b : ℕ) (rest : List ℕ) → sign_text longer ≡ sign_text s ++ b ∷ [] → (0 == b) ≡ false →
    IsLongestSign s rest → (get_or rest 0 0 == b) ≡ false
not_next s longer b [] is some longest = some
not_next s longer b (c ∷ cs) is some longest = of (c == b) refl
  where
    of : (v : Bool) → (c == b) ≡ v → (c == b) ≡ false
    of false here = here
    of true here =
        let next : c ≡ b = (Decides-eqb c b).0 here in
        let whole : sign_text s ++ c ∷ cs ≡ sign_text longer ++ cs =
        ap (λ (x : ℕ). sign_text s ++ x ∷ cs) next ∙ sym (append_assoc (sign_text s) (b ∷ []) cs)
        ∙ ap (λ (w : List ℕ). w ++ cs) (sym is) in
        let long : length (sign_text longer) ≡ length (sign_text s) + 1 =
        ap length is ∙ length-append (sign_text s) (b ∷ []) in
        absurd (omega (arith, longest longer cs whole))

-- a sign is the one in front
sign_read : (s : Sign) (rest : List ℕ) → IsLongestSign s rest → own_in_front (sign_text s ++ rest) ≡ Some (sign s)
sign_read open_parenthesis rest longest = refl
sign_read close_parenthesis rest longest = refl
sign_read open_brace rest longest = refl
sign_read close_brace rest longest = refl
sign_read colon rest longest = refl
sign_read semicolon rest longest = refl
sign_read comma rest longest = refl
sign_read question rest longest = refl
sign_read tilde rest longest = refl
sign_read bang rest longest =
    let other = not_next bang (comparing NotEqual) 61 rest refl refl longest in rw other
sign_read (arithmetic numbers.Add) rest longest = refl
sign_read (arithmetic numbers.Subtract) rest longest = refl
sign_read (arithmetic numbers.And) rest longest =
    let other = not_next (arithmetic numbers.And) (joining truths.And) 38 rest refl refl longest in rw other
sign_read (arithmetic numbers.Or) rest longest =
    let other = not_next (arithmetic numbers.Or) (joining truths.Or) 124 rest refl refl longest in rw other
sign_read (arithmetic numbers.Xor) rest longest = refl
sign_read (shifting Left) rest longest = refl
sign_read (shifting Right) rest longest = refl
sign_read (comparing Equal) rest longest = refl
sign_read (comparing NotEqual) rest longest = refl
sign_read (comparing Less) rest longest =
    let one = not_next (comparing Less) (shifting Left) 60 rest refl refl longest in
    let other = not_next (comparing Less) (comparing LessEqual) 61 rest refl refl longest in
    rw (one, other)
sign_read (comparing LessEqual) rest longest = refl
sign_read (comparing Greater) rest longest =
    let one = not_next (comparing Greater) (shifting Right) 62 rest refl refl longest in
    let other = not_next (comparing Greater) (comparing GreaterEqual) 61 rest refl refl longest in
    rw (one, other)
sign_read (comparing GreaterEqual) rest longest = refl
sign_read (joining truths.And) rest longest = refl
sign_read (joining truths.Or) rest longest = refl

-- the token in front is this one, if it is so of the bytes that spell it
spelled_so : (spelled bytes rest : List ℕ) (t : Token) → Some spelled ≡ Some bytes →
    own_in_front (spelled ++ rest) ≡ Some t → own_in_front (bytes ++ rest) ≡ Some t
spelled_so spelled bytes rest t same reads =
    subst (λ (w : List ℕ). own_in_front (w ++ rest) ≡ Some t) (same_inside same) reads

-- a word is the one in front; `static` stands as `goto`
word_read : (d : DesignTree) (w : Word) (bytes rest : List ℕ) → spelling d (word w) ≡ Some bytes →
    own_in_front (bytes ++ rest) ≡ Some (word w)
word_read d void bytes rest spelled = spelled_so (word_text void) bytes rest (word void) spelled refl
word_read d driver_turn bytes rest spelled =
    spelled_so (word_text driver_turn) bytes rest (word driver_turn) spelled refl
word_read d if_word bytes rest spelled = spelled_so (word_text if_word) bytes rest (word if_word) spelled refl
word_read d else_word bytes rest spelled = spelled_so (word_text else_word) bytes rest (word else_word) spelled refl
word_read d goto bytes rest spelled = spelled_so (codes "static") bytes rest (word goto) spelled refl
word_read d return_word bytes rest spelled =
    spelled_so (word_text return_word) bytes rest (word return_word) spelled refl
word_read d termite_leave bytes rest spelled =
    spelled_so (word_text termite_leave) bytes rest (word termite_leave) spelled refl
word_read d termite_goal bytes rest spelled =
    spelled_so (word_text termite_goal) bytes rest (word termite_goal) spelled refl
word_read d termite_last bytes rest spelled =
    spelled_so (word_text termite_last) bytes rest (word termite_last) spelled refl

-- an item's name gives the item's number
item_read : {A : Type 0} (path : A → List ℕ) (letter k : ℕ) (item : Option A) (bytes rest : List ℕ) (t : Token) →
    k < 2 ^ 64 → option_map (λ (a : A). item_name letter k (path a)) item ≡ Some bytes →
    ((more : List ℕ) → begins_digit more ≡ true → number_in_front more ≡ k → own_in_front (letter ∷ more) ≡ Some t) →
    own_in_front (bytes ++ rest) ≡ Some t
item_read path letter k None bytes rest t small spelled reads = cc
item_read path letter k (Some a) bytes rest t small spelled reads =
    let behind = numbered k (95 ∷ map name_byte (path a)) rest small refl in
    spelled_so (item_name letter k (path a)) bytes rest t spelled
    (reads ((decimal k ++ 95 ∷ map name_byte (path a)) ++ rest) behind.0 behind.1)

-- a byte is not another one, where a digit stands in front and no digit is that one
no_letter : (text : List ℕ) (letter : ℕ) → begins_digit text ≡ true → begins_digit (letter ∷ []) ≡ false →
    (get_or text 0 0 == letter) ≡ false
no_letter [] letter digit none = absurd (true≢false (sym digit))
no_letter (b ∷ bs) letter digit none = of (b == letter) refl
  where
    of : (v : Bool) → (b == letter) ≡ v → (b == letter) ≡ false
    of false here = here
    of true here =
        absurd (true≢false
        (sym (subst (λ (x : ℕ). begins_digit (x ∷ []) ≡ true) ((Decides-eqb b letter).0 here) digit) ∙ none))

constant_read : (k : ℕ) (rest : List ℕ) → k < 2 ^ 64 →
    own_in_front ((decimal k ++ codes "ULL") ++ rest) ≡ Some (constant k)
constant_read k rest small =
    let text = (decimal k ++ codes "ULL") ++ rest in
    let front = numbered k (codes "ULL") rest small refl in
    let digit : begins_digit text ≡ true = front.0 in
    let number : number_in_front text ≡ k = front.1 in
    let one : (get_or text 0 0 == 115) ≡ false = no_letter text 115 digit refl in
    let other : (get_or text 0 0 == 98) ≡ false = no_letter text 98 digit refl in
    rw (one, other, digit, number)

-- the token that a text begins with is the one in front
token_read : (d : DesignTree) (t : Token) (bytes rest : List ℕ) → token_number t < 2 ^ 64 →
    spelling d t ≡ Some bytes → EndsToken t rest → own_in_front (bytes ++ rest) ≡ Some t
token_read d (word w) bytes rest small spelled ends = word_read d w bytes rest spelled
token_read d (label k) bytes rest small spelled ends =
    spelled_so (codes "b" ++ decimal k) bytes rest (label k) spelled
    (ap (λ (n : ℕ). Some (label n)) (number_read k rest small (no_digit rest ends)))
token_read d (variable k) bytes rest small spelled ends =
    item_read (λ (v : Var). v.path) 118 k _ bytes rest (variable k) small spelled
    (λ more digit number. ap₂ (λ (v : Bool) (n : ℕ). cond v (Some (variable n)) (Some (word void))) digit number)
token_read d (location k) bytes rest small spelled ends =
    item_read (λ (p : Item). p.path) 112 k _ bytes rest (location k) small spelled
    (λ more digit number. ap (λ (n : ℕ). Some (location n)) number)
token_read d (task k) bytes rest small spelled ends =
    item_read (λ (t : Item). t.path) 116 k _ bytes rest (task k) small spelled
    (λ more digit number. rw digit (ap (λ (n : ℕ). Some (task n)) number))
token_read d (constant k) bytes rest small spelled ends =
    spelled_so (decimal k ++ codes "ULL") bytes rest (constant k) spelled (constant_read k rest small)
token_read d (sign s) bytes rest small spelled ends =
    spelled_so (sign_text s) bytes rest (sign s) spelled (sign_read s rest ends)

front_is : (d : DesignTree) (text rest : List ℕ) (t : Token) → BeginsWith d text t rest → own_in_front text ≡ Some t
front_is d text rest t begins =
    ap own_in_front begins.whole ∙ token_read d t begins.bytes rest begins.small begins.spelled begins.ends

-- a text begins with one token
same_token : (d : DesignTree) (text rest others : List ℕ) (t u : Token) →
    BeginsWith d text t rest → BeginsWith d text u others → t ≡ u
same_token d text rest others t u one other =
    same_inside (sym (front_is d text rest t one) ∙ front_is d text others u other)

-- one text follows the token
same_rest : (d : DesignTree) (text rest others : List ℕ) (t u : Token) →
    BeginsWith d text t rest → BeginsWith d text u others → rest ≡ others
same_rest d text rest others t u one other =
    let bytes : one.bytes ≡ other.bytes =
    same_inside (sym one.spelled ∙ ap (spelling d) (same_token d text rest others t u one other) ∙ other.spelled) in
    append_cancel_left one.bytes rest others
    (sym one.whole ∙ other.whole ∙ ap (λ (w : List ℕ). w ++ others) (sym bytes))

blank_as : (b n : ℕ) (text : List ℕ) → (b == n) ≡ true →
    own_in_front (n ∷ text) ≡ None → own_in_front (b ∷ text) ≡ None
blank_as b n text is reads = subst (λ (x : ℕ). own_in_front (x ∷ text) ≡ None) (sym ((Decides-eqb b n).0 is)) reads

-- no token begins with a blank
blank_read : (b : ℕ) (text : List ℕ) → is_blank b ≡ true → own_in_front (b ∷ text) ≡ None
blank_read b text is = of (b == 32) (b == 9) (b == 13) (b == 10) refl refl refl refl is
  where
    of : (p q r s : Bool) → (b == 32) ≡ p → (b == 9) ≡ q → (b == 13) ≡ r → (b == 10) ≡ s →
        (p || q || r || s) ≡ true → own_in_front (b ∷ text) ≡ None
    of true q r s space _ _ _ _ = blank_as b 32 text space refl
    of false true r s _ tab _ _ _ = blank_as b 9 text tab refl
    of false false true s _ _ return _ _ = blank_as b 13 text return refl
    of false false false true _ _ _ feed _ = blank_as b 10 text feed refl
    of false false false false _ _ _ _ wrong = absurd (true≢false (sym wrong))

none_begins : (d : DesignTree) (text rest : List ℕ) (t : Token) →
    own_in_front text ≡ None → BeginsWith d text t rest → ⊥
none_begins d text rest t none begins = let same : None ≡ Some t = sym none ∙ front_is d text rest t begins in cc

-- the tokens of a text are one list
pub same_tokens : (d : DesignTree) {text : List ℕ} {one other : List Token} →
    AreTokens d text one → AreTokens d text other → one ≡ other
same_tokens d no_more no_more = refl
same_tokens d no_more (token {t = t} {rest = rest} begins are) = absurd (none_begins d [] rest t refl begins)
same_tokens d (blank is one) (blank _ other) = same_tokens d one other
same_tokens d (blank {b = b} {text = text} is one) (token {t = t} {rest = rest} begins are) =
    absurd (none_begins d (b ∷ text) rest t (blank_read b text is) begins)
same_tokens d (token {t = t} {rest = rest} begins are) no_more = absurd (none_begins d [] rest t refl begins)
same_tokens d (token {t = t} {rest = rest} begins are) (blank {b = b} {text = text} is other) =
    absurd (none_begins d (b ∷ text) rest t (blank_read b text is) begins)
same_tokens d (token {t = t} {text = text} {rest = rest} begins are)
    (token {t = u} {rest = others} {ts = us} starts come) =
    let behind : others ≡ rest = sym (same_rest d text rest others t u begins starts) in
    ap₂ (λ (x : Token) (xs : List Token). x ∷ xs) (same_token d text rest others t u begins starts)
    (same_tokens d are (subst (λ (x : List ℕ). AreTokens d x us) behind come))
