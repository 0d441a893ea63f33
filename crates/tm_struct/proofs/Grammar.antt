-- The grammar of structured text is determined.
use Rattle.std.proofs.Common.{◌≡◌, ℕ, ◌+◌, List, [], ◌∷◌, ◌++◌, refl, ap, ap₂, sym, ◌∙◌, append_assoc}
use Rattle.std.specs.List.{flat_map}
use Rattle.tm_cir.specs.Tree.{NumTree, var, goal, last, complement, binary, shift, conditional, TruthTree}
use Rattle.tm_cir.specs.Tree as trees
use Rattle.tm_cir.specs.Text.Token.{Token, word, label, task, constant, sign, void, driver_turn, if_word, else_word, return_word, termite_leave, open_parenthesis, close_parenthesis, open_brace, close_brace, semicolon, comma}
use Rattle.tm_cir.specs.Text.Grammar.{parenthesized, num_tokens, truth_tokens, argument_tokens}
use Rattle.tm_cir.proofs.Text.Expressions.{same_truth, same_num}
use Rattle.tm_struct.specs.Tree.{ActionTree, choose, call, leave, go, idle, ProgramTree}
use Rattle.tm_struct.specs.Text.Spelling.{static_word, function}
use Rattle.tm_struct.specs.Text.Grammar.{braced, action_tokens, body_tokens, function_tokens, program_tokens}

-- the arguments behind the first one
abbrev more_tokens : List NumTree → List Token
more_tokens args = flat_map (λ b. sign comma ∷ num_tokens b) args

same_more : (xs ys : List NumTree) (rest others : List Token) →
    more_tokens xs ++ sign close_parenthesis ∷ rest ≡ more_tokens ys ++ sign close_parenthesis ∷ others →
    (xs ≡ ys) × (rest ≡ others)
same_more [] [] rest others same = (refl, cc)
same_more [] (y ∷ ys) rest others same = absurd (cc)
same_more (x ∷ xs) [] rest others same = absurd (cc)
same_more (x ∷ xs) (y ∷ ys) rest others same =
    let left = sign close_parenthesis ∷ rest in
    let right = sign close_parenthesis ∷ others in
    let whole : sign comma ∷ (num_tokens x ++ (more_tokens xs ++ left))
    ≡ sign comma ∷ (num_tokens y ++ (more_tokens ys ++ right)) =
    sym (ap (λ (ts : List Token). sign comma ∷ ts) (append_assoc (num_tokens x) (more_tokens xs) left))
    ∙ same ∙ ap (λ (ts : List Token). sign comma ∷ ts) (append_assoc (num_tokens y) (more_tokens ys) right) in
    let tail : num_tokens x ++ (more_tokens xs ++ left) ≡ num_tokens y ++ (more_tokens ys ++ right) = cc in
    let first = same_num x y (more_tokens xs ++ left) (more_tokens ys ++ right) tail in
    let behind = same_more xs ys rest others first.1 in
    (ap₂ (λ (a : NumTree) (l : List NumTree). a ∷ l) first.0 behind.0, behind.1)

-- no number begins with a parenthesis that closes
not_closing : (a : NumTree) (rest others : List Token) → sign close_parenthesis ∷ rest ≡ num_tokens a ++ others → ⊥
not_closing (trees.constant n) rest others same = cc
not_closing (var k) rest others same = cc
not_closing (trees.location p) rest others same = cc
not_closing goal rest others same = cc
not_closing last rest others same = cc
not_closing (complement a) rest others same = cc
not_closing (binary op a b) rest others same = cc
not_closing (shift op a by) rest others same = cc
not_closing (conditional t a b) rest others same = cc

pub same_arguments : (xs ys : List NumTree) (rest others : List Token) →
    argument_tokens xs ++ sign close_parenthesis ∷ rest ≡ argument_tokens ys ++ sign close_parenthesis ∷ others →
    (xs ≡ ys) × (rest ≡ others)
same_arguments [] [] rest others same = (refl, cc)
same_arguments [] (y ∷ ys) rest others same =
    absurd (not_closing y rest (more_tokens ys ++ sign close_parenthesis ∷ others)
    (same ∙ append_assoc (num_tokens y) (more_tokens ys) (sign close_parenthesis ∷ others)))
same_arguments (x ∷ xs) [] rest others same =
    absurd (not_closing x others (more_tokens xs ++ sign close_parenthesis ∷ rest)
    (sym same ∙ append_assoc (num_tokens x) (more_tokens xs) (sign close_parenthesis ∷ rest)))
same_arguments (x ∷ xs) (y ∷ ys) rest others same =
    let left = sign close_parenthesis ∷ rest in
    let right = sign close_parenthesis ∷ others in
    let first = same_num x y (more_tokens xs ++ left) (more_tokens ys ++ right)
    (sym (append_assoc (num_tokens x) (more_tokens xs) left) ∙ same
    ∙ append_assoc (num_tokens y) (more_tokens ys) right) in
    let behind = same_more xs ys rest others first.1 in
    (ap₂ (λ (a : NumTree) (l : List NumTree). a ∷ l) first.0 behind.0, behind.1)

-- what follows the truth value of a test
abbrev pub branches : ActionTree → ActionTree → List Token → List Token
branches a b rest =
    sign close_parenthesis ∷ sign open_brace
    ∷ (action_tokens a ++ (sign close_brace ∷ word else_word ∷ sign open_brace
    ∷ (action_tokens b ++ (sign close_brace ∷ rest))))

pub regroup : (t c x e r : List Token) → (((t ++ c) ++ x) ++ e) ++ r ≡ t ++ (c ++ (x ++ (e ++ r)))
regroup t c x e r =
    append_assoc ((t ++ c) ++ x) e r ∙ append_assoc (t ++ c) x (e ++ r) ∙ append_assoc t c (x ++ (e ++ r))

block_list : (a r : List Token) →
    (sign open_brace ∷ a ++ sign close_brace ∷ []) ++ r ≡ sign open_brace ∷ (a ++ (sign close_brace ∷ r))
block_list a r = ap (λ (l : List Token). sign open_brace ∷ l) (append_assoc a (sign close_brace ∷ []) r)

pub choose_lists : (t a b rest : List Token) →
    (word if_word ∷ (sign open_parenthesis ∷ t ++ sign close_parenthesis ∷ [])
    ++ (sign open_brace ∷ a ++ sign close_brace ∷ []) ++ word else_word
    ∷ (sign open_brace ∷ b ++ sign close_brace ∷ [])) ++ rest
    ≡ word if_word ∷ sign open_parenthesis
    ∷ (t ++ (sign close_parenthesis ∷ sign open_brace
    ∷ (a ++ (sign close_brace ∷ word else_word ∷ sign open_brace ∷ (b ++ (sign close_brace ∷ rest))))))
choose_lists t a b rest =
    let first : List Token = sign open_brace ∷ a ++ sign close_brace ∷ [] in
    let second : List Token = sign open_brace ∷ b ++ sign close_brace ∷ [] in
    ap (λ (l : List Token). word if_word ∷ sign open_parenthesis ∷ l)
    (regroup t (sign close_parenthesis ∷ []) first (word else_word ∷ second) rest
    ∙ ap (λ (l : List Token). t ++ (sign close_parenthesis ∷ l)) (block_list a (word else_word ∷ (second ++ rest)))
    ∙ ap (λ (l : List Token). t ++ (sign close_parenthesis ∷ sign open_brace
    ∷ (a ++ (sign close_brace ∷ word else_word ∷ l)))) (block_list b rest))

pub choose_is : (t : TruthTree) (a b : ActionTree) (rest : List Token) →
    action_tokens (choose t a b) ++ rest
    ≡ word if_word ∷ sign open_parenthesis ∷ (truth_tokens t ++ branches a b rest)
choose_is t a b rest = choose_lists (truth_tokens t) (action_tokens a) (action_tokens b) rest

pub call_is : (k : ℕ) (args : List NumTree) (rest : List Token) →
    action_tokens (call k args) ++ rest
    ≡ task k ∷ sign open_parenthesis ∷ (argument_tokens args ++ sign close_parenthesis ∷ sign semicolon ∷ rest)
call_is k args rest = simp append_assoc

same_call : (k n : ℕ) (xs ys : List NumTree) (rest others : List Token) →
    action_tokens (call k xs) ++ rest ≡ action_tokens (call n ys) ++ others →
    (call k xs ≡ call n ys) × (rest ≡ others)
same_call k n xs ys rest others same =
    let whole : task k ∷ sign open_parenthesis ∷ (argument_tokens xs ++ sign close_parenthesis ∷ sign semicolon ∷ rest)
    ≡ task n ∷ sign open_parenthesis ∷ (argument_tokens ys ++ sign close_parenthesis ∷ sign semicolon ∷ others) =
    sym (call_is k xs rest) ∙ same ∙ call_is n ys others in
    let parts = same_arguments xs ys (sign semicolon ∷ rest) (sign semicolon ∷ others) (cc) in
    let args : xs ≡ ys = parts.0 in
    let ends : sign semicolon ∷ rest ≡ sign semicolon ∷ others = parts.1 in
    (cc, cc)

-- tokens begin with one action, and what follows it is one list
pub same_action : (a b : ActionTree) (rest others : List Token) →
    action_tokens a ++ rest ≡ action_tokens b ++ others → (a ≡ b) × (rest ≡ others)
same_action (choose t a b) (choose u x y) rest others same =
    let whole : word if_word ∷ sign open_parenthesis ∷ (truth_tokens t ++ branches a b rest)
    ≡ word if_word ∷ sign open_parenthesis ∷ (truth_tokens u ++ branches x y others) =
    sym (choose_is t a b rest) ∙ same ∙ choose_is u x y others in
    let parts = same_truth t u (branches a b rest) (branches x y others) (cc) in
    let truth : t ≡ u = parts.0 in
    let ends : branches a b rest ≡ branches x y others = parts.1 in
    let left = sign close_brace ∷ word else_word ∷ sign open_brace ∷ (action_tokens b ++ (sign close_brace ∷ rest)) in
    let right = sign close_brace ∷ word else_word ∷ sign open_brace ∷ (action_tokens y ++ (sign close_brace ∷ others))
    in
    let first = same_action a x left right (cc) in
    let first_same : a ≡ x = first.0 in
    let first_ends : left ≡ right = first.1 in
    let second = same_action b y (sign close_brace ∷ rest) (sign close_brace ∷ others) (cc) in
    let second_same : b ≡ y = second.0 in
    let second_ends : sign close_brace ∷ rest ≡ sign close_brace ∷ others = second.1 in
    (cc, cc)
same_action (choose t a b) (call n ys) rest others same = absurd (cc)
same_action (choose t a b) (leave q) rest others same = absurd (cc)
same_action (choose t a b) (go n) rest others same = absurd (cc)
same_action (choose t a b) idle rest others same = absurd (cc)
same_action (call k xs) (choose u x y) rest others same = absurd (cc)
same_action (call k xs) (call n ys) rest others same = same_call k n xs ys rest others same
same_action (call k xs) (leave q) rest others same = absurd (cc)
same_action (call k xs) (go n) rest others same = absurd (cc)
same_action (call k xs) idle rest others same = absurd (cc)
same_action (leave p) (choose u x y) rest others same = absurd (cc)
same_action (leave p) (call n ys) rest others same = absurd (cc)
same_action (leave p) (leave q) rest others same = (cc, cc)
same_action (leave p) (go n) rest others same = absurd (cc)
same_action (leave p) idle rest others same = absurd (cc)
same_action (go k) (choose u x y) rest others same = absurd (cc)
same_action (go k) (call n ys) rest others same = absurd (cc)
same_action (go k) (leave q) rest others same = absurd (cc)
same_action (go k) (go n) rest others same = (cc, cc)
same_action (go k) idle rest others same = absurd (cc)
same_action idle (choose u x y) rest others same = absurd (cc)
same_action idle (call n ys) rest others same = absurd (cc)
same_action idle (leave q) rest others same = absurd (cc)
same_action idle (go n) rest others same = absurd (cc)
same_action idle idle rest others same = (refl, cc)

pub body_is : (a : ActionTree) (rest : List Token) →
    body_tokens a ++ rest
    ≡ sign open_parenthesis ∷ word void ∷ sign close_parenthesis ∷ sign open_brace
    ∷ (action_tokens a ++ (sign close_brace ∷ rest))
body_is a rest = simp append_assoc

pub same_body : (a b : ActionTree) (rest others : List Token) → body_tokens a ++ rest ≡ body_tokens b ++ others →
    (a ≡ b) × (rest ≡ others)
same_body a b rest others same =
    let whole : sign open_parenthesis ∷ word void ∷ sign close_parenthesis ∷ sign open_brace
    ∷ (action_tokens a ++ (sign close_brace ∷ rest))
    ≡ sign open_parenthesis ∷ word void ∷ sign close_parenthesis ∷ sign open_brace
    ∷ (action_tokens b ++ (sign close_brace ∷ others)) =
    sym (body_is a rest) ∙ same ∙ body_is b others in
    let inner = same_action a b (sign close_brace ∷ rest) (sign close_brace ∷ others) (cc) in
    let ends : sign close_brace ∷ rest ≡ sign close_brace ∷ others = inner.1 in
    (inner.0, cc)

-- functions and then `driver_turn` are told by their tokens
same_functions : (k : ℕ) (xs ys : List ActionTree) (a b : ActionTree) →
    function_tokens k xs ++ word void ∷ word driver_turn ∷ body_tokens a
    ≡ function_tokens k ys ++ word void ∷ word driver_turn ∷ body_tokens b → (xs ≡ ys) × (a ≡ b)
same_functions k [] [] a b same =
    let whole : body_tokens a ≡ body_tokens b = cc in
    let inner = same_body a b [] [] (ap (λ (ts : List Token). ts ++ []) whole) in
    (refl, inner.0)
same_functions k [] (y ∷ ys) a b same = absurd (cc)
same_functions k (x ∷ xs) [] a b same = absurd (cc)
same_functions k (x ∷ xs) (y ∷ ys) a b same =
    let left = function_tokens (k + 1) xs ++ word void ∷ word driver_turn ∷ body_tokens a in
    let right = function_tokens (k + 1) ys ++ word void ∷ word driver_turn ∷ body_tokens b in
    let tail : (body_tokens x ++ function_tokens (k + 1) xs) ++ word void ∷ word driver_turn ∷ body_tokens a
    ≡ (body_tokens y ++ function_tokens (k + 1) ys) ++ word void ∷ word driver_turn ∷ body_tokens b = cc in
    let first = same_body x y left right
    (sym (append_assoc (body_tokens x) (function_tokens (k + 1) xs) (word void ∷ word driver_turn ∷ body_tokens a))
    ∙ tail
    ∙ append_assoc (body_tokens y) (function_tokens (k + 1) ys) (word void ∷ word driver_turn ∷ body_tokens b)) in
    let others = same_functions (k + 1) xs ys a b first.1 in
    (ap₂ (λ (z : ActionTree) (l : List ActionTree). z ∷ l) first.0 others.0, others.1)

-- the tokens of a driver are those of one driver
pub same_program : (p q : ProgramTree) → program_tokens p ≡ program_tokens q → p ≡ q
same_program p q same =
    let parts = same_functions 0 p.functions q.functions p.main q.main same in
    ap₂ (λ (fs : List ActionTree) (a : ActionTree).
    let r : ProgramTree = record { functions = fs; main = a } in r) parts.0 parts.1
