-- Statements and blocks whose tokens are right: their labels are in order, and they lead to later blocks.
use Rattle.std.proofs.Common.{◌≡◌, ℕ, ◌+◌, List, [], ◌∷◌, ◌++◌, map, length, refl, sym, ap, ap₂, ◌∙◌, subst, append_assoc, arith}
use Rattle.tm_syntax.specs.Design.{DesignTree}
use Rattle.tm_cir.specs.Tree.{NumTree, TruthTree, BlockTree, test, call, leave, idle}
use Rattle.tm_cir.specs.Text.Token.{Token, word, label, task, sign, void, driver_turn, if_word, else_word, goto, return_word, open_parenthesis, close_parenthesis, open_brace, close_brace, colon, semicolon}
use Rattle.tm_cir.specs.Text.Grammar.{parenthesized, truth_tokens, argument_tokens, statement_tokens, block_tokens, driver_tokens}
use Rattle.tm_cparse.specs.declared.names.Before.TheVariants.{Goto, Process}
use Rattle.tm_cparse.specs.declared.names.TokenPlace.{TokenPlace}
use Rattle.tm_cparse.specs.Written.{WrittenBlock, written_tokens, function_tokens, AreWritten}
use Rattle.tm_cparse.specs.Faults.{TakesArguments}
use Rattle.tm_cparse.specs.Inner.Names.{place_after, first_place, IsRightLabel, IsRightConstant, AreRight, HaveArguments}
use Rattle.tm_cparse.specs.Inner.Bodies.{block_of}
use Rattle.tm_cparse.proofs.Calls.{same_arguments}
use Rattle.tm_cparse.proofs.Walks.{inner_truth, outside, plain_inner, plain_arguments, plain_places, right_behind, right_before, have_before}

same_tail : {t u : Token} {a b : List Token} → t ∷ a ≡ u ∷ b → a ≡ b
same_tail e = cc

-- what follows the condition of a test, and what follows the arguments of a call
abbrev branches : ℕ → ℕ → List Token → List Token
branches first second rest =
    sign close_parenthesis ∷ word goto ∷ label first ∷ sign semicolon ∷ word else_word ∷ word goto ∷ label second
    ∷ sign semicolon ∷ rest

abbrev call_end : List Token → List Token
call_end rest = sign semicolon ∷ word return_word ∷ sign semicolon ∷ rest

pub test_is : (t : TruthTree) (first second : ℕ) (rest : List Token) →
    statement_tokens (test t first second) ++ rest
    ≡ word if_word ∷ sign open_parenthesis ∷ (truth_tokens t ++ branches first second rest)
test_is t first second rest = simp append_assoc

pub call_is : (k : ℕ) (args : List NumTree) (rest : List Token) →
    statement_tokens (call k args) ++ rest
    ≡ task k ∷ sign open_parenthesis ∷ (argument_tokens args ++ sign close_parenthesis ∷ call_end rest)
call_is k args rest = simp append_assoc

arguments_are : (args : List NumTree) (rest : List Token) →
    sign open_parenthesis ∷ (argument_tokens args ++ sign close_parenthesis ∷ rest)
    ≡ parenthesized (argument_tokens args) ++ rest
arguments_are args rest =
    ap (λ (l : List Token). sign open_parenthesis ∷ l)
    (sym (append_assoc (argument_tokens args) (sign close_parenthesis ∷ []) rest))

-- a statement behind so many labels leads to later blocks, and its call and its leave are right
abbrev pub IsRightStatement : DesignTree → ℕ → ℕ → BlockTree → Type 0
IsRightStatement d count n (test t first second) = IsRightLabel count n Goto first × IsRightLabel count n Goto second
IsRightStatement d count n (call k args) = TakesArguments d k (length args)
IsRightStatement d count n (leave p) = IsRightConstant d Process p
IsRightStatement d count n idle = Unit {0}

pub statement_right : (d : DesignTree) (count n : ℕ) (b : BlockTree) (rest : List Token) →
    AreRight d count (outside n) (statement_tokens b ++ rest) →
    IsRightStatement d count n b × AreRight d count (outside n) rest
statement_right d count n (test t first second) rest right =
    let whole : AreRight d count (outside n)
    (word if_word ∷ sign open_parenthesis ∷ (truth_tokens t ++ branches first second rest)) =
    subst (AreRight d count (outside n)) (test_is t first second rest) right in
    let ends : AreRight d count (outside n) (branches first second rest) =
    right_behind d count n (truth_tokens t) (branches first second rest) (plain_inner (truth_tokens t) (inner_truth t))
    whole.1.1 in
    ((ends.1.1.0, ends.1.1.1.1.1.1.0), ends.1.1.1.1.1.1.1.1)
statement_right d count n (call k args) rest right =
    let whole : AreRight d count (outside n)
    (task k ∷ sign open_parenthesis ∷ (argument_tokens args ++ sign close_parenthesis ∷ call_end rest)) =
    subst (AreRight d count (outside n)) (call_is k args rest) right in
    let ends : AreRight d count (outside n) (sign close_parenthesis ∷ call_end rest) =
    right_behind d count n (argument_tokens args) (sign close_parenthesis ∷ call_end rest) (plain_arguments args)
    whole.1.1 in
    (whole.0 args (call_end rest) (arguments_are args (call_end rest)), ends.1.1.1.1)
statement_right d count n (leave p) rest right = (right.1.1.0, right.1.1.1.1.1.1.1)
statement_right d count n idle rest right = (tt, right.1.1)

pub right_statement : (d : DesignTree) (count n : ℕ) (b : BlockTree) (rest : List Token) →
    IsRightStatement d count n b → AreRight d count (outside n) rest →
    AreRight d count (outside n) (statement_tokens b ++ rest)
right_statement d count n (test t first second) rest is behind =
    let ends : AreRight d count (outside n) (branches first second rest) =
    (tt, (tt, (is.0, (tt, (tt, (tt, (is.1, (tt, behind)))))))) in
    subst (AreRight d count (outside n)) (sym (test_is t first second rest)) (
      tt,
      (
        tt,
        right_before d count n (truth_tokens t) (branches first second rest)
            (plain_inner (truth_tokens t) (inner_truth t)) ends,
      ),
    )
right_statement d count n (call k args) rest is behind =
    subst (AreRight d count (outside n)) (sym (call_is k args rest)) (
      takes,
      (
        tt,
        right_before d count n (argument_tokens args) (sign close_parenthesis ∷ call_end rest)
            (plain_arguments args) (tt, (tt, (tt, (tt, behind)))),
      ),
    )
  where
    takes : (others : List NumTree) (after : List Token) →
        sign open_parenthesis ∷ (argument_tokens args ++ sign close_parenthesis ∷ call_end rest)
        ≡ parenthesized (argument_tokens others) ++ after → TakesArguments d k (length others)
    takes others after same =
        let whole : argument_tokens args ++ sign close_parenthesis ∷ call_end rest
        ≡ argument_tokens others ++ sign close_parenthesis ∷ after =
        same_tail (same ∙ sym (arguments_are others after)) in
        subst (λ (l : List NumTree). TakesArguments d k (length l))
        ((same_arguments args others (call_end rest) after whole).0) is
right_statement d count n (leave p) rest is behind = (tt, (tt, (is, (tt, (tt, (tt, (tt, behind)))))))
right_statement d count n idle rest is behind = (tt, (tt, behind))

place_statement : (n : ℕ) (b : BlockTree) (rest : List Token) →
    place_after (outside n) (statement_tokens b ++ rest) ≡ place_after (outside n) rest
place_statement n (test t first second) rest =
    ap (place_after (outside n)) (test_is t first second rest)
    ∙ plain_places n (truth_tokens t) (branches first second rest) (plain_inner (truth_tokens t) (inner_truth t))
place_statement n (call k args) rest =
    ap (place_after (outside n)) (call_is k args rest)
    ∙ plain_places n (argument_tokens args) (sign close_parenthesis ∷ call_end rest) (plain_arguments args)
place_statement n (leave p) rest = refl
place_statement n idle rest = refl

have_statement : (b : BlockTree) (rest : List Token) → HaveArguments rest →
    HaveArguments (statement_tokens b ++ rest)
have_statement (test t first second) rest have =
    subst HaveArguments (sym (test_is t first second rest))
    (have_before (truth_tokens t) (branches first second rest) (plain_inner (truth_tokens t) (inner_truth t)) have)
have_statement (call k args) rest have =
    subst HaveArguments (sym (call_is k args rest)) (
      (args, word return_word ∷ sign semicolon ∷ rest, arguments_are args (call_end rest)),
      have_before (argument_tokens args) (sign close_parenthesis ∷ call_end rest) (plain_arguments args) have,
    )
have_statement (leave p) rest have = have
have_statement idle rest have = have

abbrev end : List Token
end = sign close_brace ∷ []

written_is : (w : WrittenBlock) (ws : List WrittenBlock) →
    written_tokens (w ∷ ws) ++ end
    ≡ label w.label ∷ sign colon ∷ (statement_tokens w.block ++ (written_tokens ws ++ end))
written_is w ws =
    ap (λ (l : List Token). label w.label ∷ sign colon ∷ l)
    (append_assoc (statement_tokens w.block) (written_tokens ws) end)

-- blocks of which the first has this number
abbrev pub AreRightBlocks : DesignTree → ℕ → ℕ → List WrittenBlock → Type 0
AreRightBlocks d count n [] = Unit {0}
AreRightBlocks d count n (w ∷ ws) =
    ((w.label ≡ n) × IsRightStatement d count (n + 1) w.block) × AreRightBlocks d count (n + 1) ws

blocks_right : (d : DesignTree) (count n : ℕ) (ws : List WrittenBlock) →
    AreRight d count (outside n) (written_tokens ws ++ end) → AreRightBlocks d count n ws
blocks_right d count n [] right = tt
blocks_right d count n (w ∷ ws) right =
    let whole : AreRight d count (outside n)
    (label w.label ∷ sign colon ∷ (statement_tokens w.block ++ (written_tokens ws ++ end))) =
    subst (AreRight d count (outside n)) (written_is w ws) right in
    let both = statement_right d count (n + 1) w.block (written_tokens ws ++ end) whole.1.1 in
    ((whole.0, both.0), blocks_right d count (n + 1) ws both.1)

right_blocks : (d : DesignTree) (count n : ℕ) (ws : List WrittenBlock) → AreRightBlocks d count n ws →
    AreRight d count (outside n) (written_tokens ws ++ end)
right_blocks d count n [] right = (tt, tt)
right_blocks d count n (w ∷ ws) right =
    subst (AreRight d count (outside n)) (sym (written_is w ws)) (
      right.0.0,
      (
        tt,
        right_statement d count (n + 1) w.block (written_tokens ws ++ end) right.0.1
            (right_blocks d count (n + 1) ws right.1),
      ),
    )

place_blocks : (n : ℕ) (ws : List WrittenBlock) →
    place_after (outside n) (written_tokens ws ++ end) ≡ outside (n + length ws)
place_blocks n [] = let same : n ≡ n + 0 = omega arith in ap outside same
place_blocks n (w ∷ ws) =
    let same : (n + 1) + length ws ≡ n + length (w ∷ ws) = omega arith in
    ap (place_after (outside n)) (written_is w ws)
    ∙ place_statement (n + 1) w.block (written_tokens ws ++ end) ∙ place_blocks (n + 1) ws
    ∙ ap outside same

have_blocks : (ws : List WrittenBlock) → HaveArguments (written_tokens ws ++ end)
have_blocks [] = tt
have_blocks (w ∷ ws) =
    subst HaveArguments (sym (written_is w ws)) (have_statement w.block (written_tokens ws ++ end) (have_blocks ws))

-- of the one function
pub function_right : (d : DesignTree) (count : ℕ) (ws : List WrittenBlock) →
    AreRight d count first_place (function_tokens ws) → AreRightBlocks d count 0 ws
function_right d count ws right = blocks_right d count 0 ws right.1.1.1.1.1.1

pub right_function : (d : DesignTree) (count : ℕ) (ws : List WrittenBlock) → AreRightBlocks d count 0 ws →
    AreRight d count first_place (function_tokens ws)
right_function d count ws right = (tt, (tt, (tt, (tt, (tt, (tt, right_blocks d count 0 ws right))))))

pub label_count_is : (ws : List WrittenBlock) → (place_after first_place (function_tokens ws)).labels ≡ length ws
label_count_is ws =
    let same : 0 + length ws ≡ length ws = omega arith in ap (λ (p : TokenPlace). p.labels) (place_blocks 0 ws) ∙ same

pub written_have : (tokens : List Token) → (bs : List WrittenBlock) × AreWritten tokens bs → HaveArguments tokens
written_have tokens w = subst HaveArguments (sym w.1.are) (have_blocks w.0)

-- labels in order
tokens_in_order : (d : DesignTree) (count n : ℕ) (ws : List WrittenBlock) → AreRightBlocks d count n ws →
    written_tokens ws ≡ block_tokens n (map block_of ws)
tokens_in_order d count n [] right = refl
tokens_in_order d count n (w ∷ ws) right =
    ap₂ (λ (k : ℕ) (l : List Token). label k ∷ sign colon ∷ (statement_tokens w.block ++ l)) right.0.0
    (tokens_in_order d count (n + 1) ws right.1)

pub driver_in_order : (d : DesignTree) (count : ℕ) (ws : List WrittenBlock) → AreRightBlocks d count 0 ws →
    function_tokens ws ≡ driver_tokens (map block_of ws)
driver_in_order d count ws right =
    ap (λ (l : List Token).
    word void ∷ word driver_turn ∷ parenthesized (word void ∷ []) ++ sign open_brace ∷ l ++ end)
    (tokens_in_order d count 0 ws right)

-- blocks with their numbers as labels
abbrev pub labelled : ℕ → List BlockTree → List WrittenBlock
labelled n [] = []
labelled n (b ∷ bs) = record { label = n; block = b } ∷ labelled (n + 1) bs

pub labelled_tokens : (n : ℕ) (bs : List BlockTree) → written_tokens (labelled n bs) ≡ block_tokens n bs
labelled_tokens n [] = refl
labelled_tokens n (b ∷ bs) =
    ap (λ (l : List Token). label n ∷ sign colon ∷ (statement_tokens b ++ l)) (labelled_tokens (n + 1) bs)

pub labelled_driver : (bs : List BlockTree) → function_tokens (labelled 0 bs) ≡ driver_tokens bs
labelled_driver bs =
    ap (λ (l : List Token).
    word void ∷ word driver_turn ∷ parenthesized (word void ∷ []) ++ sign open_brace ∷ l ++ end)
    (labelled_tokens 0 bs)

pub labelled_length : (n : ℕ) (bs : List BlockTree) → length (labelled n bs) ≡ length bs
labelled_length n [] = refl
labelled_length n (b ∷ bs) = omega (arith, labelled_length (n + 1) bs)

pub labelled_blocks : (n : ℕ) (bs : List BlockTree) → map block_of (labelled n bs) ≡ bs
labelled_blocks n [] = refl
labelled_blocks n (b ∷ bs) = ap (λ (l : List BlockTree). b ∷ l) (labelled_blocks (n + 1) bs)
