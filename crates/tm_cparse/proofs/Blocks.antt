-- Blocks, one by one, and the function around them.
use Rattle.std.proofs.Common.{◌≡◌, ◌≢◌, ℕ, Some, List, [], ◌∷◌, ◌++◌, map, get_or, refl, sym, ap, ap₂, ◌∙◌, subst, append_assoc}
use Rattle.std.proofs.lemmas.List.{append-nil, map-append}
use Rattle.std.proofs.lemmas.List.Elements.{All-nil, All-cons, All-head, All-tail}
use Rattle.std.specs.List.{All}
use Rattle.tm_cir.specs.Tree.{TruthTree, NumTree, BlockTree, test, call, leave, idle}
use Rattle.tm_cir.specs.Text.Token.{Token, word, label, task, sign, if_word, else_word, goto, return_word, open_parenthesis, close_parenthesis, close_brace, colon, semicolon}
use Rattle.tm_cir.specs.Text.Grammar.{truth_tokens, argument_tokens, statement_tokens}
use Rattle.tm_cir.proofs.Text.Expressions.{same_truth}
use Rattle.tm_cparse.specs.declared.spot.Stop.{Stop}
use Rattle.tm_cparse.specs.declared.spot.Stop.TheVariants.{Unexpected, Memory}
use Rattle.tm_cparse.specs.declared.statement.TheConstants.{LABEL}
use Rattle.tm_cparse.specs.Written.{WrittenBlock, written_tokens, BlockInRange}
use Rattle.tm_cparse.specs.Inner.Reading.{first_of, IsRefused, Moves}
use Rattle.tm_cparse.specs.Inner.Rows.{IsRow}
use Rattle.tm_cparse.specs.Inner.Statements.{IsStatement}
use Rattle.tm_cparse.specs.Inner.Blocks.{IsBlock, AreBlocksLeft, AreBlocksBehind}
use Rattle.tm_cparse.proofs.Readings.{refused_behind}
use Rattle.tm_cparse.proofs.Rows.{row_spelled}
use Rattle.tm_cparse.proofs.Calls.{same_arguments}

abbrev brace : Token
brace = sign close_brace

abbrev AllInRange : List WrittenBlock → Type 0
AllInRange bs = All (λ (b : WrittenBlock). BlockInRange b.block) bs

same_tail : {t u : Token} {a b : List Token} → t ∷ a ≡ u ∷ b → a ≡ b
same_tail e = cc

same_label : {k n : ℕ} {a b : List Token} → label k ∷ a ≡ label n ∷ b → n ≡ k
same_label e = cc

-- a block that ends a turn, behind a label
abbrev idle_block : ℕ → WrittenBlock
idle_block k = record { label = k; block = idle }

abbrev idle_tokens : List Token
idle_tokens = word return_word ∷ sign semicolon ∷ []

-- what a block does is told by its tokens
test_is : (t : TruthTree) (first second : ℕ) (rest : List Token) →
    statement_tokens (test t first second) ++ rest
    ≡ word if_word ∷ sign open_parenthesis
    ∷ (truth_tokens t ++ sign close_parenthesis ∷ word goto ∷ label first ∷ sign semicolon ∷ word else_word ∷ word goto
    ∷ label second ∷ sign semicolon ∷ rest)
test_is t first second rest = simp append_assoc

call_is : (k : ℕ) (args : List NumTree) (rest : List Token) →
    statement_tokens (call k args) ++ rest
    ≡ task k ∷ sign open_parenthesis
    ∷ (argument_tokens args ++ sign close_parenthesis ∷ sign semicolon ∷ word return_word ∷ sign semicolon ∷ rest)
call_is k args rest = simp append_assoc

same_test : (t u : TruthTree) (i j m n : ℕ) (rest others : List Token) →
    statement_tokens (test t i j) ++ rest ≡ statement_tokens (test u m n) ++ others →
    (test t i j ≡ test u m n) × (rest ≡ others)
same_test t u i j m n rest others same =
    let parts = same_truth t u _ _ (same_tail (same_tail (sym (test_is t i j rest) ∙ same ∙ test_is u m n others))) in
    let truth : t ≡ u = parts.0 in
    let ends : sign close_parenthesis ∷ word goto ∷ label i ∷ sign semicolon ∷ word else_word ∷ word goto ∷ label j
    ∷ sign semicolon ∷ rest
    ≡ sign close_parenthesis ∷ word goto ∷ label m ∷ sign semicolon ∷ word else_word ∷ word goto ∷ label n
    ∷ sign semicolon ∷ others = parts.1 in
    (cc, cc)

same_call : (k n : ℕ) (xs ys : List NumTree) (rest others : List Token) →
    statement_tokens (call k xs) ++ rest ≡ statement_tokens (call n ys) ++ others →
    (call k xs ≡ call n ys) × (rest ≡ others)
same_call k n xs ys rest others same =
    let whole : task k ∷ sign open_parenthesis
    ∷ (argument_tokens xs ++ sign close_parenthesis ∷ sign semicolon ∷ word return_word ∷ sign semicolon ∷ rest)
    ≡ task n ∷ sign open_parenthesis
    ∷ (argument_tokens ys ++ sign close_parenthesis ∷ sign semicolon ∷ word return_word ∷ sign semicolon ∷ others) =
    sym (call_is k xs rest) ∙ same ∙ call_is n ys others in
    let parts = same_arguments xs ys (sign semicolon ∷ word return_word ∷ sign semicolon ∷ rest)
    (sign semicolon ∷ word return_word ∷ sign semicolon ∷ others) (same_tail (same_tail whole)) in
    let args : xs ≡ ys = parts.0 in
    let ends : sign semicolon ∷ word return_word ∷ sign semicolon ∷ rest
    ≡ sign semicolon ∷ word return_word ∷ sign semicolon ∷ others = parts.1 in
    (cc, cc)

same_statement : (b c : BlockTree) (rest others : List Token) →
    statement_tokens b ++ rest ≡ statement_tokens c ++ others → (b ≡ c) × (rest ≡ others)
same_statement (test t i j) (test u m n) rest others same = same_test t u i j m n rest others same
same_statement (test t i j) (call n ys) rest others same = absurd (cc)
same_statement (test t i j) (leave q) rest others same = absurd (cc)
same_statement (test t i j) idle rest others same = absurd (cc)
same_statement (call k xs) (test u m n) rest others same = absurd (cc)
same_statement (call k xs) (call n ys) rest others same = same_call k n xs ys rest others same
same_statement (call k xs) (leave q) rest others same = absurd (cc)
same_statement (call k xs) idle rest others same = absurd (cc)
same_statement (leave p) (test u m n) rest others same = absurd (cc)
same_statement (leave p) (call n ys) rest others same = absurd (cc)
same_statement (leave p) (leave q) rest others same = (cc, cc)
same_statement (leave p) idle rest others same = absurd (cc)
same_statement idle (test u m n) rest others same = absurd (cc)
same_statement idle (call n ys) rest others same = absurd (cc)
same_statement idle (leave q) rest others same = absurd (cc)
same_statement idle idle rest others same = (refl, cc)

pub same_block : (b c : WrittenBlock) (rest others : List Token) →
    label b.label ∷ sign colon ∷ (statement_tokens b.block ++ rest)
    ≡ label c.label ∷ sign colon ∷ (statement_tokens c.block ++ others) → (b ≡ c) × (rest ≡ others)
same_block b c rest others same =
    let parts = same_statement b.block c.block rest others (same_tail (same_tail same)) in (
      ap₂ (λ (k : ℕ) (t : BlockTree). record { label = k; block = t }) (sym (same_label same)) parts.0,
      parts.1,
    )

-- a block behind its label
record IsBehindLabel (k : ℕ) (b : WrittenBlock) (tokens rest : List Token) : Type 0 where
  label_is : b.label ≡ k
  is : IsStatement [] b.block tokens rest

label_moved : (ns : List ℕ) (ts middle : List Token) → IsRow LABEL ns ts middle →
    Moves IsBlock (IsBehindLabel (get_or ns 0 0)) ts middle
label_moved ns ts middle row = record {
  front = label (get_or ns 0 0) ∷ sign colon ∷ [];
  whole = row_spelled LABEL ns ts middle row;
  to = λ b other after first is.
      record {
        label_is = same_label is.are;
        is = record { in_range = is.in_range; are = same_tail (same_tail is.are) };
      };
  from = λ b other after is.
      record {
        in_range = is.is.in_range;
        are = ap (λ (l : List Token). label (get_or ns 0 0) ∷ sign colon ∷ l) is.is.are
            ∙ ap (λ (k : ℕ). label k ∷ sign colon ∷ (statement_tokens b.block ++ after)) (sym is.label_is);
      };
}

pub block_read : (ns : List ℕ) (t : BlockTree) (ts middle rest : List Token) → IsRow LABEL ns ts middle →
    IsStatement [] t middle rest → IsBlock (record { label = get_or ns 0 0; block = t }) ts rest
block_read ns t ts middle rest row is = record {
  in_range = is.in_range;
  are = row_spelled LABEL ns ts middle row ∙ ap (λ (l : List Token). label (get_or ns 0 0) ∷ sign colon ∷ l) is.are;
}

label_row : (k : ℕ) (ts rest : List Token) → ts ≡ label k ∷ sign colon ∷ rest → IsRow LABEL (k ∷ []) ts rest
label_row k ts rest is = (k, [], _, refl, is, (_, refl, (refl, refl)))

-- the label of a block is refused
pub label_refused : (ts : List Token) (e : Stop) → IsRefused (IsRow LABEL) ts e → IsRefused IsBlock ts e
label_refused ts (Unexpected here) h = record {
  front = h.front;
  whole = h.whole;
  more = h.more ++ idle_tokens;
  completes = λ behind.
      let one = h.completes (idle_tokens ++ behind) in (
        idle_block (get_or one.0 0 0),
        subst (λ (l : List Token). IsBlock (idle_block (get_or one.0 0 0)) (h.front ++ l) behind)
            (sym (append_assoc h.more idle_tokens behind))
            (block_read one.0 idle _ (idle_tokens ++ behind) behind one.1 (record { in_range = tt; are = refl })),
      );
  stuck = λ b other rest first is.
      h.stuck (b.label ∷ []) other (statement_tokens b.block ++ rest) first
      (label_row b.label (h.front ++ other) _ is.are);
}
label_refused ts Memory h = tt

-- what a block does is refused
behind_refused : (k : ℕ) (ts : List Token) (e : Stop) → IsRefused (IsStatement []) ts e →
    IsRefused (IsBehindLabel k) ts e
behind_refused k ts (Unexpected here) h = record {
  front = h.front;
  whole = h.whole;
  more = h.more;
  completes = λ behind.
      let one = h.completes behind in
      (record { label = k; block = one.0 }, record { label_is = refl; is = one.1 });
  stuck = λ b other rest first is. h.stuck b.block other rest first is.is;
}
behind_refused k ts Memory h = tt

pub statement_refused : (ns : List ℕ) (ts middle : List Token) (e : Stop) → IsRow LABEL ns ts middle →
    IsRefused (IsStatement []) middle e → IsRefused IsBlock ts e
statement_refused ns ts middle e row h =
    refused_behind (label_moved ns ts middle row) e (behind_refused (get_or ns 0 0) middle e h)

-- a block was read
moves_block : (read : List WrittenBlock) (b : WrittenBlock) (ts rest : List Token) → IsBlock b ts rest →
    Moves (AreBlocksLeft read) (AreBlocksBehind (read ++ b ∷ [])) ts rest
moves_block read b ts rest is = record {
  front = label b.label ∷ sign colon ∷ statement_tokens b.block;
  whole = is.are;
  to = λ bs other after first left.
      let parts = same_block b left.first other (written_tokens left.others ++ brace ∷ after) left.are in
      record {
        others = left.others;
        whole = left.whole ∙ ap (λ (c : WrittenBlock). read ++ c ∷ left.others) (sym parts.0)
            ∙ sym (append_assoc read (b ∷ []) left.others);
        in_range = left.in_range;
        are = parts.1;
      };
  from = λ bs other after behind.
      record {
        first = b;
        others = behind.others;
        whole = behind.whole ∙ append_assoc read (b ∷ []) behind.others;
        first_in_range = is.in_range;
        in_range = behind.in_range;
        are = ap (λ (l : List Token). label b.label ∷ sign colon ∷ (statement_tokens b.block ++ l)) behind.are;
      };
}

pub block_moved : {Z : Type 0} (old new : List Z) (view : Z → WrittenBlock) (b : Z) (ts rest : List Token) →
    new ≡ old ++ b ∷ [] → IsBlock (view b) ts rest →
    Moves (AreBlocksLeft (map view old)) (AreBlocksBehind (map view new)) ts rest
block_moved old new view b ts rest put is =
    subst (λ (l : List WrittenBlock). Moves (AreBlocksLeft (map view old)) (AreBlocksBehind l) ts rest)
    (sym (ap (map view) put ∙ map-append view old (b ∷ []))) (moves_block (map view old) (view b) ts rest is)

-- where no brace closes, a block is left
pub blocks_go_on : (read : List WrittenBlock) (ts : List Token) → first_of ts ≢ Some brace →
    Moves (AreBlocksBehind read) (AreBlocksLeft read) ts ts
blocks_go_on read ts none = record {
  front = [];
  whole = refl;
  to = λ bs other after first behind.
      of bs other after behind.others behind.whole behind.in_range behind.are (λ e. none (sym first ∙ e));
  from = λ bs other after left.
      record {
        others = left.first ∷ left.others;
        whole = left.whole;
        in_range = All-cons (λ (b : WrittenBlock). BlockInRange b.block) left.first left.others left.first_in_range
            left.in_range;
        are = left.are
            ∙ ap (λ (l : List Token). label left.first.label ∷ sign colon ∷ l)
            (sym (append_assoc (statement_tokens left.first.block) (written_tokens left.others) (brace ∷ after)));
      };
}
  where
    of : (bs : List WrittenBlock) (other after : List Token) (others : List WrittenBlock) → bs ≡ read ++ others →
        AllInRange others → other ≡ written_tokens others ++ brace ∷ after → first_of other ≢ Some brace →
        AreBlocksLeft read bs other after
    of bs other after [] whole range are no_brace = absurd (no_brace (ap first_of are))
    of bs other after (c ∷ cs) whole range are no_brace = record {
      first = c;
      others = cs;
      whole = whole;
      first_in_range = All-head (λ (b : WrittenBlock). BlockInRange b.block) c cs range;
      in_range = All-tail (λ (b : WrittenBlock). BlockInRange b.block) c cs range;
      are = are
          ∙ ap (λ (l : List Token). label c.label ∷ sign colon ∷ l)
          (append_assoc (statement_tokens c.block) (written_tokens cs) (brace ∷ after));
    }

-- a block is refused
pub block_refused : (read : List WrittenBlock) (ts : List Token) (e : Stop) → IsRefused IsBlock ts e →
    IsRefused (AreBlocksLeft read) ts e
block_refused read ts (Unexpected here) h = record {
  front = h.front;
  whole = h.whole;
  more = h.more ++ brace ∷ [];
  completes = λ behind.
      let one = h.completes (brace ∷ behind) in (
        read ++ one.0 ∷ [],
        record {
          first = one.0;
          others = [];
          whole = refl;
          first_in_range = one.1.in_range;
          in_range = All-nil (λ (b : WrittenBlock). BlockInRange b.block);
          are = ap (λ (l : List Token). h.front ++ l) (append_assoc h.more (brace ∷ []) behind) ∙ one.1.are;
        },
      );
  stuck = λ bs other rest first left.
      h.stuck left.first other (written_tokens left.others ++ brace ∷ rest) first
      (record { in_range = left.first_in_range; are = left.are });
}
block_refused read ts Memory h = tt

-- the brace that closes
pub closes_blocks : {X : List WrittenBlock → List Token → List Token → Type 0} (read : List WrittenBlock)
    (ts middle rest : List Token) → Moves X (AreBlocksBehind read) ts middle → middle ≡ brace ∷ rest → X read ts rest
closes_blocks {X = X} read ts middle rest m is =
    subst (λ (l : List Token). X read l rest) (sym (m.whole ∙ ap (λ (l : List Token). m.front ++ l) is))
    (m.from read (brace ∷ rest) rest
    (record {
      others = [];
      whole = sym (append-nil read);
      in_range = All-nil (λ (b : WrittenBlock). BlockInRange b.block);
      are = refl;
    }))
