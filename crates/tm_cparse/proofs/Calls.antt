-- A call, part by part.
use Rattle.std.proofs.Common.{◌≡◌, ◌≢◌, ℕ, Some, List, [], ◌∷◌, ◌++◌, refl, sym, ap, ap₂, ◌∙◌, subst, append_assoc}
use Rattle.std.proofs.lemmas.List.Elements.{All-nil}
use Rattle.tm_cir.specs.Tree.{NumTree, num, var, goal, last, complement, binary, shift, conditional, BlockTree, test, call, leave, idle}
use Rattle.tm_cir.specs.Tree as trees
use Rattle.tm_cir.specs.Text.Token.{Token, word, task, sign, return_word, open_parenthesis, close_parenthesis, semicolon}
use Rattle.tm_cir.specs.Text.Grammar.{num_tokens, argument_tokens, statement_tokens}
use Rattle.tm_cir.proofs.Text.Expressions.{same_num}
use Rattle.tm_cparse.specs.declared.spot.Spot.{Spot}
use Rattle.tm_cparse.specs.declared.spot.Stop.{Stop}
use Rattle.tm_cparse.specs.declared.spot.Stop.TheVariants.{Unexpected, Memory}
use Rattle.tm_cparse.specs.declared.statement.TheConstants.{END}
use Rattle.tm_cparse.specs.View.{tokens_of}
use Rattle.tm_cparse.specs.Written.{NumInRange, BlockInRange}
use Rattle.tm_cparse.specs.Inner.Reading.{first_of, IsBlocked, IsRefused, Moves, IsMissing}
use Rattle.tm_cparse.specs.Inner.Rows.{IsRow}
use Rattle.tm_cparse.specs.Inner.Statements.{IsStatement, AreArguments, more_tokens}
use Rattle.tm_cparse.proofs.Moves.{moves_one, moves_then, moves_blocked, blocked_here}
use Rattle.tm_cparse.proofs.Readings.{refused_behind}
use Rattle.tm_cparse.proofs.Rows.{IsOfRow, row_spelled, spells, word_of, numbers_of}

abbrev open_mark : Token
open_mark = sign open_parenthesis

abbrev close_mark : Token
close_mark = sign close_parenthesis

same_tail : {t u : Token} {a b : List Token} → t ∷ a ≡ u ∷ b → a ≡ b
same_tail e = cc

same_task : {k n : ℕ} {a b : List Token} → task k ∷ a ≡ task n ∷ b → n ≡ k
same_task e = cc

-- arguments are one list
same_more : (xs ys : List NumTree) (rest others : List Token) →
    more_tokens xs ++ close_mark ∷ rest ≡ more_tokens ys ++ close_mark ∷ others → (xs ≡ ys) × (rest ≡ others)
same_more [] [] rest others same = (refl, same_tail same)
same_more [] (y ∷ ys) rest others same = absurd (cc)
same_more (x ∷ xs) [] rest others same = absurd (cc)
same_more (x ∷ xs) (y ∷ ys) rest others same =
    let left = close_mark ∷ rest in
    let right = close_mark ∷ others in
    let first = same_num x y (more_tokens xs ++ left) (more_tokens ys ++ right)
    (sym (append_assoc (num_tokens x) (more_tokens xs) left) ∙ same_tail same
    ∙ append_assoc (num_tokens y) (more_tokens ys) right) in
    let behind = same_more xs ys rest others first.1 in
    (ap₂ (λ (a : NumTree) (l : List NumTree). a ∷ l) first.0 behind.0, behind.1)

pub not_closing : (a : NumTree) (rest others : List Token) → close_mark ∷ rest ≡ num_tokens a ++ others → ⊥
not_closing (trees.constant n) rest others same = cc
not_closing (var k) rest others same = cc
not_closing (trees.location p) rest others same = cc
not_closing goal rest others same = cc
not_closing last rest others same = cc
not_closing (complement a) rest others same = cc
not_closing (binary op a b) rest others same = cc
not_closing (shift op a by) rest others same = cc
not_closing (conditional t a b) rest others same = cc

pub same_arguments : (xs ys : List NumTree) (rest others : List Token) →
    argument_tokens xs ++ close_mark ∷ rest ≡ argument_tokens ys ++ close_mark ∷ others → (xs ≡ ys) × (rest ≡ others)
same_arguments [] [] rest others same = (refl, same_tail same)
same_arguments [] (y ∷ ys) rest others same =
    absurd (not_closing y rest (more_tokens ys ++ close_mark ∷ others)
    (same ∙ append_assoc (num_tokens y) (more_tokens ys) (close_mark ∷ others)))
same_arguments (x ∷ xs) [] rest others same =
    absurd (not_closing x others (more_tokens xs ++ close_mark ∷ rest)
    (sym same ∙ append_assoc (num_tokens x) (more_tokens xs) (close_mark ∷ rest)))
same_arguments (x ∷ xs) (y ∷ ys) rest others same =
    let left = close_mark ∷ rest in
    let right = close_mark ∷ others in
    let first = same_num x y (more_tokens xs ++ left) (more_tokens ys ++ right)
    (sym (append_assoc (num_tokens x) (more_tokens xs) left) ∙ same
    ∙ append_assoc (num_tokens y) (more_tokens ys) right) in
    let behind = same_more xs ys rest others first.1 in
    (ap₂ (λ (a : NumTree) (l : List NumTree). a ∷ l) first.0 behind.0, behind.1)

-- what is left of a call behind its parenthesis
pub record IsCall (k : ℕ) (b : BlockTree) (tokens rest : List Token) : Type 0 where
  pub args : List NumTree
  pub middle : List Token
  pub is : AreArguments args tokens middle
  pub row : IsOfRow END (λ (ns : List ℕ). call k args) b middle rest

abbrev ending : List Token → List Token
ending rest = sign semicolon ∷ word return_word ∷ sign semicolon ∷ rest

call_is : (k : ℕ) (args : List NumTree) (rest : List Token) →
    statement_tokens (call k args) ++ rest
    ≡ task k ∷ open_mark ∷ (argument_tokens args ++ close_mark ∷ ending rest)
call_is k args rest = simp append_assoc

ends_row : (k : ℕ) (args : List NumTree) (rest : List Token) →
    IsOfRow END (λ (ns : List ℕ). call k args) (call k args) (ending rest) rest
ends_row k args rest = record {
  numbers = [];
  row = (_, refl, (_, refl, (_, refl, (refl, refl))));
  whole = refl;
}

task_is : (k : ℕ) (b : BlockTree) (ts rest : List Token) → BlockInRange b → task k ∷ ts ≡ statement_tokens b ++ rest →
    (behind : List Token) × (ts ≡ open_mark ∷ behind) × IsCall k b behind rest
task_is k (test t first second) ts rest range same = absurd (cc)
task_is k (call n args) ts rest range same =
    let whole : task k ∷ ts ≡ task n ∷ open_mark ∷ (argument_tokens args ++ close_mark ∷ ending rest) =
    same ∙ call_is n args rest in
    let found : IsCall n (call n args) (argument_tokens args ++ close_mark ∷ ending rest) rest = record {
      args = args;
      middle = ending rest;
      is = record { in_range = range; are = refl };
      row = ends_row n args rest;
    } in (
      argument_tokens args ++ close_mark ∷ ending rest,
      same_tail whole,
      subst (λ (m : ℕ). IsCall m (call n args) (argument_tokens args ++ close_mark ∷ ending rest) rest)
          (same_task whole) found,
    )
task_is k (leave p) ts rest range same = absurd (cc)
task_is k idle ts rest range same = absurd (cc)

pub call_read : (k : ℕ) (b : BlockTree) (ts rest : List Token) → IsCall k b ts rest →
    IsStatement (task k ∷ []) b (open_mark ∷ ts) rest
call_read k b ts rest is =
    subst (λ (c : BlockTree). IsStatement (task k ∷ []) c (open_mark ∷ ts) rest) (sym is.row.whole)
    (record {
      in_range = is.is.in_range;
      are = ap (λ (l : List Token). task k ∷ open_mark ∷ l)
          (is.is.are
          ∙ ap (λ (l : List Token). argument_tokens is.args ++ close_mark ∷ l)
          (row_spelled END is.row.numbers is.middle rest is.row.row))
          ∙ sym (call_is k is.args rest);
    })

call_moved : (k : ℕ) (ts : List Token) → Moves (IsStatement (task k ∷ [])) (IsCall k) (open_mark ∷ ts) ts
call_moved k ts =
    moves_one open_mark ts
    (λ b other after first is.
    let found = task_is k b (open_mark ∷ other) after is.in_range is.are in
    subst (λ (l : List Token). IsCall k b l after) (sym (same_tail found.1)) found.2)
    (λ b other after is. call_read k b other after is)

refused_there : {X : Type 0} {Is : X → List Token → List Token → Type 0} (t : Token) (spots : List Spot) (e : Stop) →
    (first_of (tokens_of spots) ≢ Some t → IsBlocked Is (tokens_of spots) (tokens_of spots)) → IsMissing t spots e →
    IsRefused Is (tokens_of spots) e
refused_there {Is = Is} t spots (Unexpected here) blocks missing =
    subst (λ (l : List Spot). IsBlocked Is (tokens_of spots) (tokens_of l)) (sym missing.0) (blocks missing.1)
refused_there t spots Memory blocks missing = tt

no_call : (k : ℕ) (behind : List Token) → IsCall k (call k []) (close_mark ∷ (word_of END ++ behind)) behind
no_call k behind = record {
  args = [];
  middle = word_of END ++ behind;
  is = record { in_range = All-nil NumInRange; are = refl };
  row = record { numbers = numbers_of END; row = spells END behind; whole = refl };
}

pub call_refused : (k : ℕ) (spots : List Spot) (e : Stop) → IsMissing open_mark spots e →
    IsRefused (IsStatement (task k ∷ [])) (tokens_of spots) e
call_refused k spots e missing =
    refused_there open_mark spots e
    (λ none.
    blocked_here (open_mark ∷ close_mark ∷ word_of END)
    (λ behind. (call k [], call_read k _ _ behind (no_call k behind)))
    (λ b other rest first is.
    let found = task_is k b other rest is.in_range is.are in none (sym first ∙ ap first_of found.1))) missing

pub arguments_stop : (k : ℕ) (ts middle : List Token) (e : Stop) → ts ≡ open_mark ∷ middle →
    IsRefused AreArguments middle e → IsRefused (IsStatement (task k ∷ [])) ts e
arguments_stop k ts middle (Unexpected here) is h =
    subst (λ (l : List Token). IsBlocked (IsStatement (task k ∷ [])) l (tokens_of here.now)) (sym is)
    (moves_blocked (call_moved k middle) (record {
      front = h.front;
      whole = h.whole;
      more = h.more ++ word_of END;
      completes = λ behind.
          let one = h.completes (word_of END ++ behind) in (
            call k one.0,
            record {
              args = one.0;
              middle = word_of END ++ behind;
              is = subst (λ (l : List Token). AreArguments one.0 (h.front ++ l) (word_of END ++ behind))
                  (sym (append_assoc h.more (word_of END) behind)) one.1;
              row = record { numbers = numbers_of END; row = spells END behind; whole = refl };
            },
          );
      stuck = λ b other rest first is. h.stuck is.args other is.middle first is.is;
    }))
arguments_stop k ts middle Memory is h = tt

arguments_moved : (k : ℕ) (args : List NumTree) (middle rest : List Token) → AreArguments args middle rest →
    Moves (IsCall k) (IsOfRow END (λ (ns : List ℕ). call k args)) middle rest
arguments_moved k args middle rest read = record {
  front = argument_tokens args ++ close_mark ∷ [];
  whole = read.are ∙ sym (append_assoc (argument_tokens args) (close_mark ∷ []) rest);
  to = λ b other after first is.
      let parts = same_arguments args is.args other is.middle
      (sym (append_assoc (argument_tokens args) (close_mark ∷ []) other) ∙ is.is.are) in
      subst (λ (l : List Token). IsOfRow END (λ (ns : List ℕ). call k args) b l after) (sym parts.1)
      (subst (λ (xs : List NumTree). IsOfRow END (λ (ns : List ℕ). call k xs) b is.middle after) (sym parts.0) is.row);
  from = λ b other after is.
      record {
        args = args;
        middle = other;
        is = record {
          in_range = read.in_range;
          are = append_assoc (argument_tokens args) (close_mark ∷ []) other;
        };
        row = is;
      };
}

pub end_refused : (k : ℕ) (args : List NumTree) (ts middle rest : List Token) (e : Stop) → ts ≡ open_mark ∷ middle →
    AreArguments args middle rest → IsRefused (IsOfRow END (λ (ns : List ℕ). call k args)) rest e →
    IsRefused (IsStatement (task k ∷ [])) ts e
end_refused k args ts middle rest e is read h =
    subst (λ (l : List Token). IsRefused (IsStatement (task k ∷ [])) l e) (sym is)
    (refused_behind (moves_then (call_moved k middle) (arguments_moved k args middle rest read)) e h)

pub end_read : (k : ℕ) (args : List NumTree) (ns : List ℕ) (ts middle rest after : List Token) →
    ts ≡ open_mark ∷ middle → AreArguments args middle rest → IsRow END ns rest after →
    IsStatement (task k ∷ []) (call k args) ts after
end_read k args ns ts middle rest after is read row =
    subst (λ (l : List Token). IsStatement (task k ∷ []) (call k args) l after) (sym is)
    (call_read k (call k args) middle after
    (record { args = args; middle = rest; is = read; row = record { numbers = ns; row = row; whole = refl } }))
