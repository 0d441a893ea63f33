-- A line feed behind a printed text changes no token (RFC 8259, 2).
use Rattle.std.proofs.Common.{◌≡◌, ℕ, Bool, true, false, cond, ◌&&◌, List, [], ◌∷◌, ◌++◌, Some, refl, sym, ap, ap₂, ◌∙◌, append_assoc, append-nil, arith, option_and_then, subst}
use Rattle.json.specs.Token.{Token, begin_object, end_object, begin_array, end_array, key, string, number, boolean, null, bad}
use Rattle.json.specs.Word.{ends_word, word}
use Rattle.json.specs.Lex.{Lexeme, token, comma, colon, string_token, lex, between, fresh, punctuate, tokens}
use Rattle.json.specs.Print.{escape, quoted, token_text, begins, ends, separator, print_from, print, IsPrintable, ArePrintable, ArePrintableOrBad}
use Rattle.json.specs.Json as json
use Rattle.json.specs.Tree as tree
use Rattle.json.proofs.Numbered.{ArePrintableOrBad-tokens, value-HasNumbers}
use Rattle.json.proofs.Printed.Strings.{content-escape, lex-escape}
use Rattle.json.proofs.Printed.Numbers.{lex-number, in_word-ended}
use Rattle.json.proofs.Printed.Trees.{ArePrintable-json_tokens, value-json_tokens}
use Rattle.serde_json.specs.Data.{Data}
use Rattle.serde_json.specs.Read.{max_depth, of_json, read}
use Rattle.serde_json.specs.Written.{IsInOrder}

-- the lexemes of a token
abbrev token_lexemes : Token → List Lexeme
token_lexemes begin_object = token begin_object ∷ []
token_lexemes end_object = token end_object ∷ []
token_lexemes begin_array = token begin_array ∷ []
token_lexemes end_array = token end_array ∷ []
token_lexemes (key s) = token (string s) ∷ colon ∷ []
token_lexemes (string s) = token (string s) ∷ []
token_lexemes (number s) = token (number s) ∷ []
token_lexemes (boolean b) = token (boolean b) ∷ []
token_lexemes null = token null ∷ []
token_lexemes bad = []

-- the lexemes of tokens, with the commas between them
abbrev lexemes : Bool → List Token → List Lexeme
lexemes c [] = []
lexemes c (t ∷ ts) = cond (c && begins t) (comma ∷ []) [] ++ (token_lexemes t ++ lexemes (ends t) ts)

value_ends : (ts : List Token) (r : List ℕ) → ends_word r ≡ true → ends_word (print_from true ts ++ r) ≡ true
unfolding print_from
value_ends [] r ended = ended
value_ends (begin_object ∷ ts) r ended = refl
value_ends (end_object ∷ ts) r ended = refl
value_ends (begin_array ∷ ts) r ended = refl
value_ends (end_array ∷ ts) r ended = refl
value_ends (key s ∷ ts) r ended = refl
value_ends (string s ∷ ts) r ended = refl
value_ends (number s ∷ ts) r ended = refl
value_ends (boolean b ∷ ts) r ended = refl
value_ends (null ∷ ts) r ended = refl
value_ends (bad ∷ ts) r ended = refl

lex-quoted : (s r : List ℕ) → lex between (quoted s ++ r) ≡ token (string s) ∷ lex between r
unfolding lex
lex-quoted s r =
    ap (λ l. lex between (34 ∷ l)) (append_assoc (escape s) (34 ∷ []) r)
    ∙ ap₂ (λ o l. token (string_token o) ∷ l) (content-escape s r) (lex-escape s r)

lex-token : (t : Token) (r : List ℕ) → IsPrintable t → (ends t ≡ true → ends_word r ≡ true)
    → lex between (token_text t ++ r) ≡ token_lexemes t ++ lex between r
unfolding lex word
lex-token begin_object r h ended = refl
lex-token end_object r h ended = refl
lex-token begin_array r h ended = refl
lex-token end_array r h ended = refl
lex-token (key s) r h ended = ap (lex between) (append_assoc (quoted s) (58 ∷ []) r) ∙ lex-quoted s (58 ∷ r)
lex-token (string s) r h ended = lex-quoted s r
lex-token (number s) r h ended = lex-number s r h (ended refl)
lex-token (boolean true) r h ended =
    ap₂ (λ b l. token (cond b (boolean true) bad) ∷ l) (ended refl) (in_word-ended r (ended refl))
lex-token (boolean false) r h ended =
    ap₂ (λ b l. token (cond b (boolean false) bad) ∷ l) (ended refl) (in_word-ended r (ended refl))
lex-token null r h ended = ap₂ (λ b l. token (cond b null bad) ∷ l) (ended refl) (in_word-ended r (ended refl))
lex-token bad r h ended = absurd h

lex-separator : (b : Bool) (r : List ℕ) → lex between (cond b (44 ∷ []) [] ++ r)
    ≡ cond b (comma ∷ []) [] ++ lex between r
unfolding lex
lex-separator true r = refl
lex-separator false r = refl

lex-print_from : (c : Bool) (ts : List Token) (r : List ℕ) → ArePrintable ts → ends_word r ≡ true
    → lex between (print_from c ts ++ r) ≡ lexemes c ts ++ lex between r
unfolding print_from ArePrintable
lex-print_from c [] r h ended = refl
lex-print_from c (t ∷ ts) r h ended =
    let rest = print_from (ends t) ts ++ r in
    let apart = append_assoc (separator c t) (token_text t ++ print_from (ends t) ts) r
    ∙ ap (λ l. separator c t ++ l) (append_assoc (token_text t) (print_from (ends t) ts) r) in
    ap (lex between) apart
    ∙ lex-separator (c && begins t) (token_text t ++ rest)
    ∙ ap (λ l. cond (c && begins t) (comma ∷ []) [] ++ l)
    (lex-token t rest h.0 (λ e. ap (λ b. ends_word (print_from b ts ++ r)) e ∙ value_ends ts r ended)
    ∙ ap (λ l. token_lexemes t ++ l) (lex-print_from (ends t) ts r h.1 ended)
    ∙ sym (append_assoc (token_lexemes t) (lexemes (ends t) ts) (lex between r)))
    ∙ sym (append_assoc (cond (c && begins t) (comma ∷ []) []) (token_lexemes t ++ lexemes (ends t) ts) (lex between r))

tokens-line_feed : (ts : List Token) → ArePrintable ts → tokens (print ts ++ 10 ∷ []) ≡ tokens (print ts)
unfolding lex
tokens-line_feed ts h =
    ap (punctuate fresh)
    (lex-print_from false ts (10 ∷ []) h refl ∙ sym (lex-print_from false ts [] h refl)
    ∙ ap (lex between) (append-nil (print ts)))

-- the tokens of a text that is in order can be printed
printable : (text : List ℕ) (d : Data) → IsInOrder text d → ArePrintable (tokens text)
printable text d order =
    let j = order.0 in
    let ts = tree.json_tokens j in
    let whole : json.value (tree.depth j) ts ≡ Some (j, []) =
    ap (json.value (tree.depth j)) (sym (append-nil ts)) ∙ value-json_tokens j (tree.depth j) [] (omega arith) in
    let numbers = value-HasNumbers (tree.depth j) ts [] j
    (subst ArePrintableOrBad order.1 (ArePrintableOrBad-tokens text)) whole in
    subst ArePrintable (sym order.1) (ArePrintable-json_tokens j numbers)

-- with a line feed at its end, a text that was written reads as it did
pub read-line_feed : (text : List ℕ) (d : Data) → text ≡ print (tokens text) → IsInOrder text d
    → read (text ++ 10 ∷ []) ≡ read text
read-line_feed text d compact order =
    let same : tokens (text ++ 10 ∷ []) ≡ tokens text =
    ap (λ t. tokens (t ++ 10 ∷ [])) compact ∙ tokens-line_feed (tokens text) (printable text d order)
    ∙ ap tokens (sym compact) in
    ap (λ ts. option_and_then of_json (option_and_then (λ p. json.if_last p.0 p.1) (json.value max_depth ts))) same
