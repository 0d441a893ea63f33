-- The printed text of a structured driver is this driver.
use Rattle.std.proofs.Common.{◌≡◌, ℕ, ◌+◌, ◌^◌, ◌<◌, ◌≤◌, List, [], ◌∷◌, ◌++◌, All, Some, length, replicate, codes, slice_get, zero, suc, refl, sym, ap, subst, ◌∙◌, append_assoc, lit<, arith}
use Rattle.std.specs.Fmt.{decimal}
use Rattle.std.proofs.lemmas.List.{append-nil}
use Rattle.tm_syntax.specs.Design.{DesignTree}
use Rattle.tm_cir.specs.Text.Token.{Word, void, driver_turn, if_word, else_word, return_word, termite_leave, Sign, open_parenthesis, close_parenthesis, open_brace, close_brace, semicolon, Token, word, task, constant, sign}
use Rattle.tm_cir.specs.Text.Grammar.{parenthesized, truth_tokens, argument_tokens}
use Rattle.tm_cir.specs.Text.Spelling.{word_text, sign_text, BeginsNoWord, none, line_feed}
use Rattle.tm_cprint.specs.Layout.{task_name, constant_text, truth_text, arguments_text}
use Rattle.tm_cprint.proofs.Printed.Pieces.{Quiet, longest, task_named, constant_quiet}
use Rattle.tm_cprint.proofs.Printed.Expressions.{IsCounted, Breaks, truth_quiet}
use Rattle.tm_cprint.proofs.Printed.Blocks.{arguments_quiet, task_within}
use Rattle.tm_struct.specs.Tree.{ActionTree, choose, call, leave, go, idle, ProgramTree}
use Rattle.tm_struct.specs.Fit.{FitsAction, FitsProgram}
use Rattle.tm_struct.specs.Text.{IsStructuredText}
use Rattle.tm_struct.specs.Text.Spelling.{static_word, function, AreTokens, no_more, blank, token}
use Rattle.tm_struct.specs.Text.Grammar.{braced, action_tokens, body_tokens, function_tokens, program_tokens}
use Rattle.tm_struct.specs.Layout.{indent, action_text, body_text, functions_text, program_text}
use Rattle.tm_struct.proofs.Grammar.{choose_lists}
use Rattle.tm_struct.proofs.Carried.{IsCommon, same_spelling, truth_there, arguments_there}

pub sign_then : {d : DesignTree} (s : Sign) {rest : List ℕ} {us : List Token} → AreTokens d rest us → Quiet rest →
    AreTokens d (sign_text s ++ rest) (sign s ∷ us)
sign_then s {rest = rest} are quiet =
    token
    (record { bytes = sign_text s; small = lit< tt; spelled = refl; ends = longest s rest quiet; whole = refl }) are

pub word_then : {d : DesignTree} (w : Word) {rest : List ℕ} {us : List Token} → IsCommon (word w) →
    AreTokens d rest us → BeginsNoWord rest → AreTokens d (word_text w ++ rest) (word w ∷ us)
word_then {d = d} w common are ends =
    token
    (record {
      bytes = word_text w;
      small = lit< tt;
      spelled = same_spelling d (word w) common;
      ends = ends;
      whole = refl;
    }) are

static_then : {d : DesignTree} {rest : List ℕ} {us : List Token} → AreTokens d rest us → BeginsNoWord rest →
    AreTokens d (codes "static" ++ rest) (static_word ∷ us)
static_then are ends =
    token (record { bytes = codes "static"; small = lit< tt; spelled = refl; ends = ends; whole = refl }) are

function_then : {d : DesignTree} (k : ℕ) {rest : List ℕ} {us : List Token} → k < 2 ^ 64 → AreTokens d rest us →
    BeginsNoWord rest → AreTokens d ((codes "b" ++ decimal k) ++ rest) (function k ∷ us)
function_then k small are ends =
    token (record { bytes = codes "b" ++ decimal k; small = small; spelled = refl; ends = ends; whole = refl }) are

constant_then : {d : DesignTree} (n : ℕ) {rest : List ℕ} {us : List Token} → n < 2 ^ 64 → AreTokens d rest us →
    BeginsNoWord rest → AreTokens d (constant_text n ++ rest) (constant n ∷ us)
constant_then n small are ends =
    token (record { bytes = constant_text n; small = small; spelled = refl; ends = ends; whole = refl }) are

task_then : {d : DesignTree} (k : ℕ) {rest : List ℕ} {us : List Token} → k < length d.tasks → k < 2 ^ 64 →
    AreTokens d rest us → BeginsNoWord rest → AreTokens d (task_name d k ++ rest) (task k ∷ us)
task_then {d = d} k within small are ends =
    token (record {
      bytes = task_name d k;
      small = small;
      spelled = (task_named d k within).1.spelled;
      ends = ends;
      whole = refl;
    }) are

-- other bytes and other tokens that are the same
same_as : {d : DesignTree} {text other : List ℕ} {ts us : List Token} → other ≡ text → us ≡ ts →
    AreTokens d text ts → AreTokens d other us
same_as {d} {text} {other} {ts} {us} bytes tokens are =
    subst (λ (x : List ℕ). AreTokens d x us) (sym bytes) (subst (AreTokens d text) (sym tokens) are)

tabs_then : {d : DesignTree} (n : ℕ) {rest : List ℕ} {us : List Token} → AreTokens d rest us →
    AreTokens d (replicate n 9 ++ rest) us
tabs_then zero are = are
tabs_then (suc n) are = blank refl (tabs_then n are)

indent_then : {d : DesignTree} (n : ℕ) {rest : List ℕ} {us : List Token} → AreTokens d rest us →
    AreTokens d (indent n ++ rest) us
indent_then n are = blank refl (tabs_then n are)

choose_text : (tabs t a b rest : List ℕ) →
    (tabs ++ codes "if (" ++ t ++ codes ") {\n" ++ a ++ tabs ++ codes "} else {\n" ++ b ++ tabs ++ codes "}\n")
    ++ rest
    ≡ tabs ++ (105 ∷ 102 ∷ 32 ∷ 40 ∷ (t ++ (41 ∷ 32 ∷ 123 ∷ 10 ∷ (a ++ (tabs ++ (125 ∷ 32 ∷ 101 ∷ 108 ∷ 115 ∷ 101 ∷ 32
    ∷ 123 ∷ 10 ∷ (b ++ (tabs ++ (125 ∷ 10 ∷ rest)))))))))
choose_text tabs t a b rest = simp append_assoc

call_text : (tabs name args rest : List ℕ) →
    (tabs ++ name ++ codes "(" ++ args ++ codes ");\n") ++ rest
    ≡ tabs ++ (name ++ (40 ∷ (args ++ (41 ∷ 59 ∷ 10 ∷ rest))))
call_text tabs name args rest = simp append_assoc

call_tokens : (k : Token) (xs us : List Token) →
    (k ∷ parenthesized xs ++ sign semicolon ∷ []) ++ us
    ≡ k ∷ sign open_parenthesis ∷ (xs ++ (sign close_parenthesis ∷ sign semicolon ∷ us))
call_tokens k xs us = simp append_assoc

leave_text : (tabs number rest : List ℕ) →
    (tabs ++ codes "termite_leave(" ++ number ++ codes ");\n") ++ rest
    ≡ tabs ++ (codes "termite_leave" ++ (40 ∷ (number ++ (41 ∷ 59 ∷ 10 ∷ rest))))
leave_text tabs number rest = simp append_assoc

go_text : (tabs number rest : List ℕ) →
    (tabs ++ codes "b" ++ number ++ codes "();\n") ++ rest
    ≡ tabs ++ ((codes "b" ++ number) ++ (40 ∷ 41 ∷ 59 ∷ 10 ∷ rest))
go_text tabs number rest = simp append_assoc

-- the text of an action is its tokens
action_prints : (d : DesignTree) → IsCounted d → (below : ℕ) → below < 2 ^ 64 → (n : ℕ) (a : ActionTree) →
    FitsAction d below a → (rest : List ℕ) (us : List Token) → AreTokens d rest us →
    AreTokens d (action_text d n a ++ rest) (action_tokens a ++ us)
action_prints d counted below few n (choose t a b) fits rest us are =
    let closed : AreTokens d (indent n ++ (125 ∷ 10 ∷ rest)) (sign close_brace ∷ us) =
    indent_then n (sign_then close_brace (blank refl are) refl) in
    let second : AreTokens d (action_text d (n + 1) b ++ (indent n ++ (125 ∷ 10 ∷ rest)))
    (action_tokens b ++ (sign close_brace ∷ us)) =
    action_prints d counted below few (n + 1) b fits.2 _ _ closed in
    let between : AreTokens d
    (indent n ++ (125 ∷ 32 ∷ 101 ∷ 108 ∷ 115 ∷ 101 ∷ 32 ∷ 123 ∷ 10
    ∷ (action_text d (n + 1) b ++ (indent n ++ (125 ∷ 10 ∷ rest)))))
    (sign close_brace ∷ word else_word ∷ sign open_brace ∷ (action_tokens b ++ (sign close_brace ∷ us))) =
    indent_then n
    (sign_then close_brace
    (blank refl
    (word_then else_word tt (blank refl (sign_then open_brace (blank refl second) refl)) refl)) refl) in
    let first = action_prints d counted below few (n + 1) a fits.1 _ _ between in
    let opened : AreTokens d
    (41 ∷ 32 ∷ 123 ∷ 10
    ∷ (action_text d (n + 1) a
    ++ (indent n
    ++ (125 ∷ 32 ∷ 101 ∷ 108 ∷ 115 ∷ 101 ∷ 32 ∷ 123 ∷ 10
    ∷ (action_text d (n + 1) b ++ (indent n ++ (125 ∷ 10 ∷ rest)))))))
    (sign close_parenthesis ∷ sign open_brace
    ∷ (action_tokens a
    ++ (sign close_brace ∷ word else_word ∷ sign open_brace ∷ (action_tokens b ++ (sign close_brace ∷ us))))) =
    sign_then close_parenthesis (blank refl (sign_then open_brace (blank refl first) refl)) refl in
    same_as (choose_text (indent n) (truth_text d t) (action_text d (n + 1) a) (action_text d (n + 1) b) rest)
    (choose_lists (truth_tokens t) (action_tokens a) (action_tokens b) us)
    (indent_then n
    (word_then if_word tt
    (blank refl
    (sign_then open_parenthesis
    (truth_there d counted t fits.0 _ _ opened (record { word = refl; quiet = refl }))
    (truth_quiet d t fits.0 _))) refl))
action_prints d counted below few n (call k args) fits rest us are =
    let within : k < length d.tasks = task_within d k (length args) fits.0 in
    let small : k < 2 ^ 64 = omega (arith, counted.tasks) in
    let end : AreTokens d (41 ∷ 59 ∷ 10 ∷ rest) (sign close_parenthesis ∷ sign semicolon ∷ us) =
    sign_then close_parenthesis (sign_then semicolon (blank refl are) refl) refl in
    same_as (call_text (indent n) (task_name d k) (arguments_text d args) rest)
    (call_tokens (task k) (argument_tokens args) us)
    (indent_then n
    (task_then k within small
    (sign_then open_parenthesis
    (arguments_there d counted args fits.2 _ _ end (record { word = refl; quiet = refl }))
    (arguments_quiet d args _ fits.2)) refl))
action_prints d counted below few n (leave p) fits rest us are =
    let small : p < 2 ^ 64 = omega (arith, counted.processes) in
    let end : AreTokens d (41 ∷ 59 ∷ 10 ∷ rest) (sign close_parenthesis ∷ sign semicolon ∷ us) =
    sign_then close_parenthesis (sign_then semicolon (blank refl are) refl) refl in
    same_as (leave_text (indent n) (constant_text p) rest) refl
    (indent_then n
    (word_then termite_leave tt
    (sign_then open_parenthesis (constant_then p small end refl) (constant_quiet p _ small)) refl))
action_prints d counted below few n (go k) fits rest us are =
    let small : k < 2 ^ 64 = omega (arith, fits) in
    same_as (go_text (indent n) (decimal k) rest) refl
    (indent_then n
    (function_then k small
    (sign_then open_parenthesis (sign_then close_parenthesis (sign_then semicolon (blank refl are) refl) refl) refl)
    refl))
action_prints d counted below few n idle fits rest us are =
    same_as (append_assoc (indent n) (codes "return;\n") rest) refl
    (indent_then n (word_then return_word tt (sign_then semicolon (blank refl are) refl) refl))

body_text_is : (a rest : List ℕ) →
    (codes "(void)\n{\n" ++ a ++ codes "}\n") ++ rest ≡ codes "(void)\n{\n" ++ (a ++ (125 ∷ 10 ∷ rest))
body_text_is a rest = simp append_assoc

body_tokens_are : (a us : List Token) →
    (parenthesized (word void ∷ []) ++ braced a) ++ us
    ≡ sign open_parenthesis ∷ word void ∷ sign close_parenthesis ∷ sign open_brace ∷ (a ++ (sign close_brace ∷ us))
body_tokens_are a us = simp append_assoc

-- the text behind the name of a function is its tokens
body_prints : (d : DesignTree) → IsCounted d → (below : ℕ) → below < 2 ^ 64 → (a : ActionTree) →
    FitsAction d below a → (rest : List ℕ) (us : List Token) → AreTokens d rest us →
    AreTokens d (body_text d a ++ rest) (body_tokens a ++ us)
body_prints d counted below few a fits rest us are =
    let closed : AreTokens d (125 ∷ 10 ∷ rest) (sign close_brace ∷ us) =
    sign_then close_brace (blank refl are) refl in
    let inner = action_prints d counted below few 0 a fits _ _ closed in
    same_as (body_text_is (action_text d 0 a) rest) (body_tokens_are (action_tokens a) us)
    (sign_then open_parenthesis
    (word_then void tt
    (sign_then close_parenthesis (blank refl (sign_then open_brace (blank refl inner) refl)) refl) refl) refl)

functions_text_is : (name body others rest : List ℕ) →
    (codes "static void b" ++ name ++ body ++ codes "\n" ++ others) ++ rest
    ≡ codes "static" ++ (32 ∷ (codes "void" ++ (32 ∷ ((codes "b" ++ name) ++ (body ++ (10 ∷ (others ++ rest)))))))
functions_text_is name body others rest = simp append_assoc

-- the text of functions is their tokens
functions_print : (d : DesignTree) → IsCounted d → (others : List ActionTree) (k : ℕ) → k + length others < 2 ^ 64 →
    ((j : ℕ) (a : ActionTree) → slice_get others j ≡ Some a → FitsAction d (k + j) a) →
    (rest : List ℕ) (us : List Token) → AreTokens d rest us →
    AreTokens d (functions_text d k others ++ rest) (function_tokens k others ++ us)
functions_print d counted [] k few fit rest us are = are
functions_print d counted (a ∷ others) k few fit rest us are =
    let start : k + 0 ≡ k = omega arith in
    let fits : FitsAction d k a = subst (λ (n : ℕ). FitsAction d n a) start (fit 0 a refl) in
    let small : k < 2 ^ 64 = omega arith in
    let behind : AreTokens d (functions_text d (k + 1) others ++ rest) (function_tokens (k + 1) others ++ us) =
    functions_print d counted others (k + 1) (omega arith)
    (λ j x is.
    let next : k + suc j ≡ k + 1 + j = omega arith in
    subst (λ (n : ℕ). FitsAction d n x) next (fit (suc j) x is)) rest us are in
    same_as (functions_text_is (decimal k) (body_text d a) (functions_text d (k + 1) others) rest)
    (ap (λ (ts : List Token). static_word ∷ word void ∷ function k ∷ ts)
    (append_assoc (body_tokens a) (function_tokens (k + 1) others) us))
    (static_then
    (blank refl
    (word_then void tt
    (blank refl (function_then k small (body_prints d counted k small a fits _ _ (blank refl behind)) refl)) refl))
    refl)

-- the text behind the line of the include
abbrev behind_include : DesignTree → ProgramTree → List ℕ
behind_include d p =
    codes "\n" ++ (functions_text d 0 p.functions ++ (codes "void driver_turn" ++ body_text d p.main))

program_text_is : (functions body : List ℕ) →
    codes "#include \"termite.h\"\n\n" ++ functions ++ codes "void driver_turn" ++ body
    ≡ codes "#include \"termite.h\"" ++ (10 ∷ (codes "\n" ++ (functions ++ (codes "void driver_turn" ++ body))))
program_text_is functions body = simp append_assoc

program_is : (d : DesignTree) → IsCounted d → (p : ProgramTree) → length p.functions < 2 ^ 64 → FitsProgram d p →
    AreTokens d (behind_include d p) (program_tokens p)
program_is d counted p few fits =
    let body : AreTokens d (body_text d p.main ++ []) (body_tokens p.main ++ []) =
    body_prints d counted (length p.functions) few p.main fits.main [] [] no_more in
    let body_only : AreTokens d (body_text d p.main) (body_tokens p.main) =
    same_as (sym (append-nil (body_text d p.main))) (sym (append-nil (body_tokens p.main))) body in
    let turn : AreTokens d (codes "void driver_turn" ++ body_text d p.main)
    (word void ∷ word driver_turn ∷ body_tokens p.main) =
    word_then void tt (blank refl (word_then driver_turn tt body_only refl)) refl in
    blank refl
    (functions_print d counted p.functions 0 (omega arith)
    (λ j a is.
    let same : j ≡ 0 + j = omega arith in
    subst (λ (n : ℕ). FitsAction d n a) same (fits.functions j a is)) _ _ turn)

-- the printed text is its driver
pub is_structured : (d : DesignTree) → IsCounted d → (p : ProgramTree) → length p.functions < 2 ^ 64 →
    FitsProgram d p → (text : List ℕ) → text ≡ program_text d p → IsStructuredText d text p
is_structured d counted p few fits text is =
    let printed : IsStructuredText d
    (codes "#include \"termite.h\"" ++ (10 ∷ behind_include d p)) p = record {
      body = behind_include d p;
      include = record { line = 10 ∷ behind_include d p; include = none; ends = line_feed };
      functions = program_is d counted p few fits;
      fits = fits;
    } in
    subst (λ (t : List ℕ). IsStructuredText d t p)
    (sym (is ∙ program_text_is (functions_text d 0 p.functions) (body_text d p.main))) printed
