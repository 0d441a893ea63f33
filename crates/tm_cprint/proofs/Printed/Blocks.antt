-- The text of blocks is their tokens.
use Rattle.std.proofs.Common.{◌≡◌, ℕ, ◌+◌, ◌^◌, ◌<◌, ◌≤◌, Option, Some, None, option_map, option_and_then, ◌⊎◌, inl, inr, List, [], ◌∷◌, ◌++◌, All, length, get_or, codes, slice_get, suc, refl, sym, ap, subst, ◌∙◌, append_assoc, arith}
use Rattle.std.specs.Fmt.{decimal}
use Rattle.std.specs.List.{flat_map}
use Rattle.std.proofs.lemmas.Option.{slice_get_cases}
use Rattle.tm_syntax.specs.declared.design.Item.{Item}
use Rattle.tm_syntax.specs.Design.{DesignTree}
use Rattle.tm_cir.specs.Tree.{NumTree, BlockTree, test, call, leave, idle}
use Rattle.tm_cir.specs.Fit.{declared_task, parameter_count, FitsBlock}
use Rattle.tm_cir.specs.Text.Token.{open_parenthesis, close_parenthesis, colon, semicolon, comma, Token, word, label, task, sign, if_word, else_word, goto, return_word, termite_leave}
use Rattle.tm_cir.specs.Text.Grammar.{parenthesized, num_tokens, truth_tokens, argument_tokens, goto_tokens, return_tokens, statement_tokens, block_tokens}
use Rattle.tm_cir.specs.Text.Spelling.{AreTokens, blank}
use Rattle.tm_cprint.specs.Layout.{task_name, constant_text, num_text, truth_text, arguments_text, goto_text, statement_text, blocks_text}
use Rattle.tm_cprint.proofs.Printed.Pieces.{Quiet, same_as, sign_then, word_then, label_then, constant_then, task_then, space_then, constant_quiet}
use Rattle.tm_cprint.proofs.Printed.Expressions.{IsCounted, Breaks, Prints, FitsNumIn, num_quiet, truth_quiet, num_prints, truth_prints}

-- what holds of each of some numbers holds of the first, and of the others
first_of_all : (P : NumTree → Type 0) (x : NumTree) (xs : List NumTree) → All P (x ∷ xs) → P x
first_of_all P x xs all = all 0 x (omega arith)

others_of_all : (P : NumTree → Type 0) (x : NumTree) (xs : List NumTree) → All P (x ∷ xs) → All P xs
others_of_all P x xs all k y below = all (suc k) y (omega arith)

-- the arguments behind the first one, and their tokens
abbrev more_text : DesignTree → List NumTree → List ℕ
more_text d args = flat_map (λ b. codes ", " ++ num_text d b) args

abbrev more_tokens : List NumTree → List Token
more_tokens args = flat_map (λ b. sign comma ∷ num_tokens b) args

more_breaks : (d : DesignTree) (xs : List NumTree) (rest : List ℕ) → Breaks rest → Breaks (more_text d xs ++ rest)
more_breaks d [] rest breaks = breaks
more_breaks d (x ∷ xs) rest breaks = record { word = refl; quiet = refl }

more_prints : (d : DesignTree) → IsCounted d → (xs : List NumTree) → All (FitsNumIn d) xs →
    Prints d (more_text d xs) (more_tokens xs)
more_prints d counted [] fits rest us are breaks = are
more_prints d counted (x ∷ xs) fits rest us are breaks =
    let behind : AreTokens d (more_text d xs ++ rest) (more_tokens xs ++ us) =
    more_prints d counted xs (others_of_all (FitsNumIn d) x xs fits) rest us are breaks in
    same_as (ap (λ (text : List ℕ). 44 ∷ 32 ∷ text) (append_assoc (num_text d x) (more_text d xs) rest))
    (ap (λ (ts : List Token). sign comma ∷ ts) (append_assoc (num_tokens x) (more_tokens xs) us))
    (sign_then comma
    (space_then
    (num_prints d counted x (first_of_all (FitsNumIn d) x xs fits) _ _ behind (more_breaks d xs rest breaks)))
    refl)

pub arguments_print : (d : DesignTree) → IsCounted d → (xs : List NumTree) → All (FitsNumIn d) xs →
    Prints d (arguments_text d xs) (argument_tokens xs)
arguments_print d counted [] fits rest us are breaks = are
arguments_print d counted (x ∷ xs) fits rest us are breaks =
    let behind : AreTokens d (more_text d xs ++ rest) (more_tokens xs ++ us) =
    more_prints d counted xs (others_of_all (FitsNumIn d) x xs fits) rest us are breaks in
    same_as (append_assoc (num_text d x) (more_text d xs) rest) (append_assoc (num_tokens x) (more_tokens xs) us)
    (num_prints d counted x (first_of_all (FitsNumIn d) x xs fits) _ _ behind (more_breaks d xs rest breaks))

pub arguments_quiet : (d : DesignTree) (xs : List NumTree) (rest : List ℕ) → All (FitsNumIn d) xs →
    Quiet (arguments_text d xs ++ 41 ∷ rest)
arguments_quiet d [] rest fits = refl
arguments_quiet d (x ∷ xs) rest fits =
    subst Quiet (sym (append_assoc (num_text d x) (more_text d xs) (41 ∷ rest)))
    (num_quiet d x (first_of_all (FitsNumIn d) x xs fits) (more_text d xs ++ 41 ∷ rest))

goto_prints : (d : DesignTree) (k : ℕ) (rest : List ℕ) (us : List Token) → k < 2 ^ 64 → AreTokens d rest us →
    Quiet rest → AreTokens d (goto_text k ++ rest) (goto_tokens k ++ us)
goto_prints d k rest us small are quiet =
    same_as (ap (λ (text : List ℕ). codes "goto L" ++ text) (append_assoc (decimal k) (codes ";") rest)) refl
    (word_then goto (space_then (label_then k small (sign_then semicolon are quiet) refl)) refl)

-- the end of a turn
abbrev return_text : List ℕ → List ℕ
return_text rest = codes "\treturn;\n" ++ rest

return_prints : (d : DesignTree) (rest : List ℕ) (us : List Token) → AreTokens d rest us →
    AreTokens d (return_text rest) (return_tokens ++ us)
return_prints d rest us are = blank refl (word_then return_word (sign_then semicolon (blank refl are) refl) refl)

test_text : (t g h rest : List ℕ) →
    (codes "\tif (" ++ t ++ codes ") " ++ g ++ codes " else " ++ h ++ codes "\n") ++ rest
    ≡ 9 ∷ 105 ∷ 102 ∷ 32 ∷ 40 ∷ (t ++ (41 ∷ 32 ∷ (g ++ (32 ∷ 101 ∷ 108 ∷ 115 ∷ 101 ∷ 32 ∷ (h ++ (10 ∷ rest))))))
test_text t g h rest = simp append_assoc

test_tokens : (xs g h us : List Token) →
    (word if_word ∷ parenthesized xs ++ g ++ word else_word ∷ h) ++ us
    ≡ word if_word ∷ sign open_parenthesis
    ∷ (xs ++ (sign close_parenthesis ∷ (g ++ (word else_word ∷ (h ++ us)))))
test_tokens xs g h us = simp append_assoc

call_text : (name args rest : List ℕ) →
    (codes "\t" ++ name ++ codes "(" ++ args ++ codes ");\n\treturn;\n") ++ rest
    ≡ 9 ∷ (name ++ (40 ∷ (args ++ (41 ∷ 59 ∷ 10 ∷ return_text rest))))
call_text name args rest = simp append_assoc

call_tokens : (t : Token) (xs us : List Token) →
    (t ∷ parenthesized xs ++ sign semicolon ∷ return_tokens) ++ us
    ≡ t ∷ sign open_parenthesis ∷ (xs ++ (sign close_parenthesis ∷ sign semicolon ∷ (return_tokens ++ us)))
call_tokens t xs us = simp append_assoc

-- a task whose parameters are counted is one of the design
pub task_within : (d : DesignTree) (k n : ℕ) → parameter_count d k ≡ Some n → k < length d.tasks
task_within d k n counts = of (slice_get_cases d.tasks k).1
  where
    of : ((x : Item) × (k < length d.tasks) × (slice_get d.tasks k ≡ Some x) × (get_or d.tasks k x ≡ x))
        ⊎ ((length d.tasks ≤ k) × (slice_get d.tasks k ≡ None)) → k < length d.tasks
    of (inl found) = found.1
    of (inr past) =
        let none : None ≡ Some n =
        sym (ap (λ (o : Option Item). option_map (λ t. length t.params) (option_and_then (declared_task d) o)) past.1)
        ∙ counts in
        absurd (cc)

-- the text of what a block does is its tokens
statement_prints : (d : DesignTree) → IsCounted d → (count at : ℕ) → count < 2 ^ 64 → (b : BlockTree) →
    FitsBlock d count at b → (rest : List ℕ) (us : List Token) → AreTokens d rest us →
    AreTokens d (statement_text d b ++ rest) (statement_tokens b ++ us)
statement_prints d counted count at few (test t i j) fits rest us are =
    let end : AreTokens d (32 ∷ 101 ∷ 108 ∷ 115 ∷ 101 ∷ 32 ∷ (goto_text j ++ (10 ∷ rest)))
    (word else_word ∷ (goto_tokens j ++ us)) =
    space_then
    (word_then else_word
    (space_then (goto_prints d j (10 ∷ rest) us (omega (arith, fits.2.1)) (blank refl are) refl)) refl) in
    let middle : AreTokens d
    (41 ∷ 32 ∷ (goto_text i ++ (32 ∷ 101 ∷ 108 ∷ 115 ∷ 101 ∷ 32 ∷ (goto_text j ++ (10 ∷ rest)))))
    (sign close_parenthesis ∷ (goto_tokens i ++ (word else_word ∷ (goto_tokens j ++ us)))) =
    sign_then close_parenthesis (space_then (goto_prints d i _ _ (omega (arith, fits.1.1)) end refl)) refl in
    same_as (test_text (truth_text d t) (goto_text i) (goto_text j) rest)
    (test_tokens (truth_tokens t) (goto_tokens i) (goto_tokens j) us)
    (blank refl
    (word_then if_word
    (space_then
    (sign_then open_parenthesis
    (truth_prints d counted t fits.0 _ _ middle (record { word = refl; quiet = refl }))
    (truth_quiet d t fits.0 _))) refl))
statement_prints d counted count at few (call k args) fits rest us are =
    let within : k < length d.tasks = task_within d k (length args) fits.0 in
    let small : k < 2 ^ 64 = omega (arith, counted.tasks) in
    let end : AreTokens d (41 ∷ 59 ∷ 10 ∷ return_text rest)
    (sign close_parenthesis ∷ sign semicolon ∷ (return_tokens ++ us)) =
    sign_then close_parenthesis (sign_then semicolon (blank refl (return_prints d rest us are)) refl) refl in
    same_as (call_text (task_name d k) (arguments_text d args) rest)
    (call_tokens (task k) (argument_tokens args) us)
    (blank refl
    (task_then k within small
    (sign_then open_parenthesis
    (arguments_print d counted args fits.2 _ _ end (record { word = refl; quiet = refl }))
    (arguments_quiet d args _ fits.2)) refl))
statement_prints d counted count at few (leave p) fits rest us are =
    let small : p < 2 ^ 64 = omega (arith, counted.processes) in
    let end : AreTokens d (41 ∷ 59 ∷ 10 ∷ return_text rest)
    (sign close_parenthesis ∷ sign semicolon ∷ (return_tokens ++ us)) =
    sign_then close_parenthesis (sign_then semicolon (blank refl (return_prints d rest us are)) refl) refl in
    same_as
    (ap (λ (text : List ℕ). codes "\ttermite_leave(" ++ text)
    (append_assoc (constant_text p) (codes ");\n\treturn;\n") rest))
    refl
    (blank refl
    (word_then termite_leave
    (sign_then open_parenthesis (constant_then p small end refl) (constant_quiet p _ small)) refl))
statement_prints d counted count at few idle fits rest us are = return_prints d rest us are

block_text : (number statement others rest : List ℕ) →
    (codes "L" ++ number ++ codes ":\n" ++ statement ++ others) ++ rest
    ≡ codes "L" ++ number ++ (58 ∷ 10 ∷ (statement ++ (others ++ rest)))
block_text number statement others rest = simp append_assoc

-- the text of blocks is their tokens
pub blocks_print : (d : DesignTree) → IsCounted d → (count : ℕ) → count < 2 ^ 64 → (bs : List BlockTree) (k : ℕ) →
    k + length bs < 2 ^ 64 →
    ((j : ℕ) (b : BlockTree) → slice_get bs j ≡ Some b → (at : ℕ) × FitsBlock d count at b) →
    (rest : List ℕ) (us : List Token) → AreTokens d rest us →
    AreTokens d (blocks_text d k bs ++ rest) (block_tokens k bs ++ us)
blocks_print d counted count few [] k short fit rest us are = are
blocks_print d counted count few (b ∷ bs) k short fit rest us are =
    let first = fit 0 b refl in
    let behind : AreTokens d (blocks_text d (k + 1) bs ++ rest) (block_tokens (k + 1) bs ++ us) =
    blocks_print d counted count few bs (k + 1) (omega arith) (λ j c is. fit (suc j) c is) rest us are in
    same_as (block_text (decimal k) (statement_text d b) (blocks_text d (k + 1) bs) rest)
    (ap (λ (ts : List Token). label k ∷ sign colon ∷ ts)
    (append_assoc (statement_tokens b) (block_tokens (k + 1) bs) us))
    (label_then k (omega arith)
    (sign_then colon (blank refl (statement_prints d counted count first.0 few b first.1 _ _ behind)) refl) refl)
