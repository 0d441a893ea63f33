-- The grammar of blocks is determined.
use Rattle.std.proofs.Common.{◌≡◌, ℕ, ◌+◌, List, [], ◌∷◌, ◌++◌, refl, ap, ap₂, sym, ◌∙◌, append_assoc}
use Rattle.std.specs.List.{flat_map}
use Rattle.tm_cir.specs.Tree.{NumTree, var, goal, last, complement, binary, shift, conditional, TruthTree, BlockTree, test, call, leave, idle}
use Rattle.tm_cir.specs.Tree as trees
use Rattle.tm_cir.specs.Text.Token.{Token, word, label, task, sign, if_word, else_word, goto, return_word, open_parenthesis, close_parenthesis, close_brace, semicolon, comma}
use Rattle.tm_cir.specs.Text.Grammar.{num_tokens, truth_tokens, argument_tokens, statement_tokens, block_tokens, driver_tokens}
use Rattle.tm_cir.proofs.Text.Expressions.{same_truth, same_num}

-- the arguments behind the first one
abbrev more_tokens : List NumTree → List Token
more_tokens args = flat_map (λ b. sign comma ∷ num_tokens b) args

same_more : (xs ys : List NumTree) (rest others : List Token) →
    more_tokens xs ++ sign close_parenthesis ∷ rest ≡ more_tokens ys ++ sign close_parenthesis ∷ others →
    (xs ≡ ys) × (rest ≡ others)
same_more [] [] rest others same = (refl, cc)
same_more [] (y ∷ ys) rest others same = absurd (cc)
same_more (x ∷ xs) [] rest others same = absurd (cc)
same_more (x ∷ xs) (y ∷ ys) rest others same =
    let left = sign close_parenthesis ∷ rest in
    let right = sign close_parenthesis ∷ others in
    let whole : sign comma ∷ (num_tokens x ++ (more_tokens xs ++ left))
    ≡ sign comma ∷ (num_tokens y ++ (more_tokens ys ++ right)) =
    sym (ap (λ (ts : List Token). sign comma ∷ ts) (append_assoc (num_tokens x) (more_tokens xs) left))
    ∙ same ∙ ap (λ (ts : List Token). sign comma ∷ ts) (append_assoc (num_tokens y) (more_tokens ys) right) in
    let tail : num_tokens x ++ (more_tokens xs ++ left) ≡ num_tokens y ++ (more_tokens ys ++ right) = cc in
    let first = same_num x y (more_tokens xs ++ left) (more_tokens ys ++ right) tail in
    let behind = same_more xs ys rest others first.1 in
    (ap₂ (λ (a : NumTree) (l : List NumTree). a ∷ l) first.0 behind.0, behind.1)

-- no number begins with a parenthesis that closes
not_closing : (a : NumTree) (rest others : List Token) → sign close_parenthesis ∷ rest ≡ num_tokens a ++ others → ⊥
not_closing (trees.constant n) rest others same = cc
not_closing (var k) rest others same = cc
not_closing (trees.location p) rest others same = cc
not_closing goal rest others same = cc
not_closing last rest others same = cc
not_closing (complement a) rest others same = cc
not_closing (binary op a b) rest others same = cc
not_closing (shift op a by) rest others same = cc
not_closing (conditional t a b) rest others same = cc

same_arguments : (xs ys : List NumTree) (rest others : List Token) →
    argument_tokens xs ++ sign close_parenthesis ∷ rest ≡ argument_tokens ys ++ sign close_parenthesis ∷ others →
    (xs ≡ ys) × (rest ≡ others)
same_arguments [] [] rest others same = (refl, cc)
same_arguments [] (y ∷ ys) rest others same =
    absurd (not_closing y rest (more_tokens ys ++ sign close_parenthesis ∷ others)
    (same ∙ append_assoc (num_tokens y) (more_tokens ys) (sign close_parenthesis ∷ others)))
same_arguments (x ∷ xs) [] rest others same =
    absurd (not_closing x others (more_tokens xs ++ sign close_parenthesis ∷ rest)
    (sym same ∙ append_assoc (num_tokens x) (more_tokens xs) (sign close_parenthesis ∷ rest)))
same_arguments (x ∷ xs) (y ∷ ys) rest others same =
    let left = sign close_parenthesis ∷ rest in
    let right = sign close_parenthesis ∷ others in
    let first = same_num x y (more_tokens xs ++ left) (more_tokens ys ++ right)
    (sym (append_assoc (num_tokens x) (more_tokens xs) left) ∙ same
    ∙ append_assoc (num_tokens y) (more_tokens ys) right) in
    let behind = same_more xs ys rest others first.1 in
    (ap₂ (λ (a : NumTree) (l : List NumTree). a ∷ l) first.0 behind.0, behind.1)

-- what follows the truth value of a test
abbrev branches : ℕ → ℕ → List Token → List Token
branches first second rest =
    sign close_parenthesis ∷ word goto ∷ label first ∷ sign semicolon ∷ word else_word ∷ word goto ∷ label second
    ∷ sign semicolon ∷ rest

test_is : (t : TruthTree) (first second : ℕ) (rest : List Token) →
    statement_tokens (test t first second) ++ rest
    ≡ word if_word ∷ sign open_parenthesis ∷ (truth_tokens t ++ branches first second rest)
test_is t first second rest = simp append_assoc

-- what follows the arguments of a call
abbrev call_end : List Token → List Token
call_end rest = sign semicolon ∷ word return_word ∷ sign semicolon ∷ rest

call_is : (k : ℕ) (args : List NumTree) (rest : List Token) →
    statement_tokens (call k args) ++ rest
    ≡ task k ∷ sign open_parenthesis ∷ (argument_tokens args ++ sign close_parenthesis ∷ call_end rest)
call_is k args rest = simp append_assoc

same_test : (t u : TruthTree) (i j m n : ℕ) (rest others : List Token) →
    statement_tokens (test t i j) ++ rest ≡ statement_tokens (test u m n) ++ others →
    (test t i j ≡ test u m n) × (rest ≡ others)
same_test t u i j m n rest others same =
    let whole : word if_word ∷ sign open_parenthesis ∷ (truth_tokens t ++ branches i j rest)
    ≡ word if_word ∷ sign open_parenthesis ∷ (truth_tokens u ++ branches m n others) =
    sym (test_is t i j rest) ∙ same ∙ test_is u m n others in
    let parts = same_truth t u (branches i j rest) (branches m n others) (cc) in
    let truth : t ≡ u = parts.0 in
    let ends : branches i j rest ≡ branches m n others = parts.1 in
    (cc, cc)

same_call : (k n : ℕ) (xs ys : List NumTree) (rest others : List Token) →
    statement_tokens (call k xs) ++ rest ≡ statement_tokens (call n ys) ++ others →
    (call k xs ≡ call n ys) × (rest ≡ others)
same_call k n xs ys rest others same =
    let whole : task k ∷ sign open_parenthesis ∷ (argument_tokens xs ++ sign close_parenthesis ∷ call_end rest)
    ≡ task n ∷ sign open_parenthesis ∷ (argument_tokens ys ++ sign close_parenthesis ∷ call_end others) =
    sym (call_is k xs rest) ∙ same ∙ call_is n ys others in
    let parts = same_arguments xs ys (call_end rest) (call_end others) (cc) in
    let args : xs ≡ ys = parts.0 in
    let ends : call_end rest ≡ call_end others = parts.1 in
    (cc, cc)

-- tokens begin with one statement, and what follows it is one list
same_statement : (b c : BlockTree) (rest others : List Token) →
    statement_tokens b ++ rest ≡ statement_tokens c ++ others → (b ≡ c) × (rest ≡ others)
same_statement (test t i j) (test u m n) rest others same = same_test t u i j m n rest others same
same_statement (test t i j) (call n ys) rest others same = absurd (cc)
same_statement (test t i j) (leave q) rest others same = absurd (cc)
same_statement (test t i j) idle rest others same = absurd (cc)
same_statement (call k xs) (test u m n) rest others same = absurd (cc)
same_statement (call k xs) (call n ys) rest others same = same_call k n xs ys rest others same
same_statement (call k xs) (leave q) rest others same = absurd (cc)
same_statement (call k xs) idle rest others same = absurd (cc)
same_statement (leave p) (test u m n) rest others same = absurd (cc)
same_statement (leave p) (call n ys) rest others same = absurd (cc)
same_statement (leave p) (leave q) rest others same = (cc, cc)
same_statement (leave p) idle rest others same = absurd (cc)
same_statement idle (test u m n) rest others same = absurd (cc)
same_statement idle (call n ys) rest others same = absurd (cc)
same_statement idle (leave q) rest others same = absurd (cc)
same_statement idle idle rest others same = (refl, cc)

same_blocks : (k : ℕ) (bs cs : List BlockTree) →
    block_tokens k bs ++ sign close_brace ∷ [] ≡ block_tokens k cs ++ sign close_brace ∷ [] → bs ≡ cs
same_blocks k [] [] same = refl
same_blocks k [] (c ∷ cs) same = absurd (cc)
same_blocks k (b ∷ bs) [] same = absurd (cc)
same_blocks k (b ∷ bs) (c ∷ cs) same =
    let end : List Token = sign close_brace ∷ [] in
    let left = block_tokens (k + 1) bs ++ end in
    let right = block_tokens (k + 1) cs ++ end in
    let tail : (statement_tokens b ++ block_tokens (k + 1) bs) ++ end
    ≡ (statement_tokens c ++ block_tokens (k + 1) cs) ++ end = cc in
    let first = same_statement b c left right
    (sym (append_assoc (statement_tokens b) (block_tokens (k + 1) bs) end) ∙ tail
    ∙ append_assoc (statement_tokens c) (block_tokens (k + 1) cs) end) in
    ap₂ (λ (x : BlockTree) (l : List BlockTree). x ∷ l) first.0 (same_blocks (k + 1) bs cs first.1)

-- the tokens of a driver are those of one list of blocks
pub same_driver : (bs cs : List BlockTree) → driver_tokens bs ≡ driver_tokens cs → bs ≡ cs
same_driver bs cs same =
    let end : List Token = sign close_brace ∷ [] in
    let inner : block_tokens 0 bs ++ end ≡ block_tokens 0 cs ++ end = cc in
    same_blocks 0 bs cs inner
