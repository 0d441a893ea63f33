-- What blocks do, token by token.
use Rattle.std.proofs.Common.{◌≡◌, ◌≢◌, ℕ, Bool, true, false, Option, None, Some, List, [], ◌∷◌, ◌++◌, get_or, drop, refl, sym, ap, ◌∙◌, subst, true≢false, append_assoc}
use Rattle.tm_cir.specs.Tree.{NumTree, TruthTree, num, BlockTree, test, call, leave, idle}
use Rattle.tm_cir.specs.Tree as trees
use Rattle.tm_cir.specs.Text.Token.{Token, word, label, task, constant, sign, if_word, else_word, goto, return_word, termite_leave, open_parenthesis, close_parenthesis, semicolon}
use Rattle.tm_cir.specs.Text.Grammar.{truth_tokens, statement_tokens}
use Rattle.tm_cir.proofs.Text.Expressions.{same_truth, same_inside}
use Rattle.tm_cparse.specs.declared.part.Sort.TheVariants.{Truth}
use Rattle.tm_cparse.specs.declared.spot.Spot.{Spot}
use Rattle.tm_cparse.specs.declared.spot.Stop.{Stop}
use Rattle.tm_cparse.specs.declared.spot.Stop.TheVariants.{Unexpected, Memory}
use Rattle.tm_cparse.specs.declared.statement.TheConstants.{BRANCHES, LEAVE}
use Rattle.tm_cparse.specs.View.{tokens_of}
use Rattle.tm_cparse.specs.Written.{BlockInRange}
use Rattle.tm_cparse.specs.Inner.Reading.{first_of, IsBlocked, IsRefused, Moves, IsMissing}
use Rattle.tm_cparse.specs.Inner.Parts.{IsExpression}
use Rattle.tm_cparse.specs.Inner.Rows.{IsRow}
use Rattle.tm_cparse.specs.Inner.Statements.{IsStatement, beginning_of}
use Rattle.tm_cparse.proofs.Moves.{moves_one, moves_then, moves_blocked, blocked_here}
use Rattle.tm_cparse.proofs.Readings.{refused_behind}
use Rattle.tm_cparse.proofs.Rows.{IsOfRow, row_spelled, spells, word_of, numbers_of}

abbrev open_mark : Token
open_mark = sign open_parenthesis

abbrev close_mark : Token
close_mark = sign close_parenthesis

same_tail : {t u : Token} {a b : List Token} → t ∷ a ≡ u ∷ b → a ≡ b
same_tail e = cc

-- the first token of what a block does
pub moved_first : (t : Token) (tokens rest : List Token) → tokens ≡ t ∷ rest →
    Moves (IsStatement []) (IsStatement (t ∷ [])) tokens rest
moved_first t tokens rest is =
    subst (λ (l : List Token). Moves (IsStatement []) (IsStatement (t ∷ [])) l rest) (sym is)
    (moves_one t rest (λ b other after first s. record { in_range = s.in_range; are = s.are })
    (λ b other after s. record { in_range = s.in_range; are = s.are }))

-- what a block does begins with this word or task
pub from_first : (t : Token) (b : BlockTree) (tokens rest after : List Token) → tokens ≡ t ∷ rest →
    IsStatement (t ∷ []) b rest after → IsStatement [] b tokens after
from_first t b tokens rest after is s = record { in_range = s.in_range; are = is ∙ s.are }

-- whether what a block does begins with this token
abbrev pub is_statement : Option Token → Bool
is_statement (Some (word if_word)) = true
is_statement (Some (word termite_leave)) = true
is_statement (Some (word return_word)) = true
is_statement (Some (task k)) = true
is_statement _ = false

starts : (b : BlockTree) (rest : List Token) → is_statement (first_of (statement_tokens b ++ rest)) ≡ true
starts (test t first second) rest = refl
starts (call k args) rest = refl
starts (leave p) rest = refl
starts idle rest = refl

pub no_statement : (tokens : List Token) → is_statement (first_of tokens) ≡ false →
    IsBlocked (IsStatement []) tokens tokens
no_statement tokens none =
    blocked_here (word return_word ∷ sign semicolon ∷ [])
    (λ behind. (idle, record { in_range = tt; are = refl }))
    (λ b other rest first is.
    true≢false
    (sym (starts b rest) ∙ ap (λ (l : List Token). is_statement (first_of l)) (sym is.are) ∙ ap is_statement first
    ∙ none))

-- why a reader stopped where it needs this token
refused_there : {X : Type 0} {Is : X → List Token → List Token → Type 0} (t : Token) (spots : List Spot) (e : Stop) →
    (first_of (tokens_of spots) ≢ Some t → IsBlocked Is (tokens_of spots) (tokens_of spots)) → IsMissing t spots e →
    IsRefused Is (tokens_of spots) e
refused_there {Is = Is} t spots (Unexpected here) blocks missing =
    subst (λ (l : List Spot). IsBlocked Is (tokens_of spots) (tokens_of l)) (sym missing.0) (blocks missing.1)
refused_there t spots Memory blocks missing = tt

first_is : {t : Token} {other behind : List Token} (here : List Token) → other ≡ t ∷ behind →
    first_of other ≡ first_of here → first_of here ≡ Some t
first_is here tokens first = sym first ∙ ap first_of tokens

-- the end of a turn
idle_is : (b : BlockTree) (ts rest : List Token) → word return_word ∷ ts ≡ statement_tokens b ++ rest →
    ts ≡ sign semicolon ∷ rest
idle_is (test t first second) ts rest same = absurd (cc)
idle_is (call k args) ts rest same = absurd (cc)
idle_is (leave p) ts rest same = absurd (cc)
idle_is idle ts rest same = same_tail same

pub idle_read : (ts rest : List Token) → ts ≡ sign semicolon ∷ rest → IsStatement (word return_word ∷ []) idle ts rest
idle_read ts rest is = record { in_range = tt; are = ap (λ (l : List Token). word return_word ∷ l) is }

pub idle_refused : (spots : List Spot) (e : Stop) → IsMissing (sign semicolon) spots e →
    IsRefused (IsStatement (word return_word ∷ [])) (tokens_of spots) e
idle_refused spots e missing =
    refused_there (sign semicolon) spots e
    (λ none.
    blocked_here (sign semicolon ∷ []) (λ behind. (idle, record { in_range = tt; are = refl }))
    (λ b other rest first is. none (first_is (tokens_of spots) (idle_is b other rest is.are) first))) missing

-- a leave
abbrev pub leave_of : List ℕ → BlockTree
leave_of ns = leave (get_or ns 0 0)

leave_row : (b : BlockTree) (ts rest : List Token) → word termite_leave ∷ ts ≡ statement_tokens b ++ rest →
    IsOfRow LEAVE leave_of b ts rest
leave_row (test t first second) ts rest same = absurd (cc)
leave_row (call k args) ts rest same = absurd (cc)
leave_row (leave p) ts rest same =
    let tail : ts ≡ open_mark ∷ constant p ∷ close_mark ∷ sign semicolon ∷ word return_word ∷ sign semicolon ∷ rest =
    same_tail same in
    record {
      numbers = p ∷ [];
      row = (_, tail, (p, [], _, refl, refl, (_, refl, (_, refl, (_, refl, (_, refl, (refl, refl)))))));
      whole = refl;
    }
leave_row idle ts rest same = absurd (cc)

pub leave_read : (ns : List ℕ) (ts rest : List Token) → IsRow LEAVE ns ts rest →
    IsStatement (word termite_leave ∷ []) (leave_of ns) ts rest
leave_read ns ts rest row = record {
  in_range = tt;
  are = ap (λ (l : List Token). word termite_leave ∷ l) (row_spelled LEAVE ns ts rest row);
}

leave_moved : (ts : List Token) → Moves (IsStatement (word termite_leave ∷ [])) (IsOfRow LEAVE leave_of) ts ts
leave_moved ts = record {
  front = [];
  whole = refl;
  to = λ b other after first is. leave_row b other after is.are;
  from = λ b other after is.
      subst (λ (c : BlockTree). IsStatement (word termite_leave ∷ []) c other after) (sym is.whole)
      (leave_read is.numbers other after is.row);
}

pub leave_refused : (ts : List Token) (e : Stop) → IsRefused (IsOfRow LEAVE leave_of) ts e →
    IsRefused (IsStatement (word termite_leave ∷ [])) ts e
leave_refused ts e h = refused_behind (leave_moved ts) e h

-- a test
abbrev pub test_of : TruthTree → List ℕ → BlockTree
test_of t ns = test t (get_or ns 0 0) (get_or ns 1 0)

pub record IsTest (b : BlockTree) (tokens rest : List Token) : Type 0 where
  pub truth : TruthTree
  pub middle : List Token
  pub is : IsExpression Truth truth tokens middle
  pub row : IsOfRow BRANCHES (test_of truth) b middle rest

abbrev branches : ℕ → ℕ → List Token → List Token
branches first second rest =
    close_mark ∷ word goto ∷ label first ∷ sign semicolon ∷ word else_word ∷ word goto ∷ label second
    ∷ sign semicolon ∷ rest

test_is : (t : TruthTree) (first second : ℕ) (rest : List Token) →
    statement_tokens (test t first second) ++ rest
    ≡ word if_word ∷ open_mark ∷ (truth_tokens t ++ branches first second rest)
test_is t first second rest = simp append_assoc

branches_row : (t : TruthTree) (first second : ℕ) (rest : List Token) →
    IsOfRow BRANCHES (test_of t) (test t first second) (branches first second rest) rest
branches_row t first second rest = record {
  numbers = first ∷ second ∷ [];
  row = (
    _,
    refl,
    (
      _,
      refl,
      (
        first,
        second ∷ [],
        _,
        refl,
        refl,
        (
          _,
          refl,
          (
            _,
            refl,
            (
              _,
              refl,
              (second, [], _, refl, refl, (_, refl, (refl, refl))),
            ),
          ),
        ),
      ),
    ),
  );
  whole = refl;
}

if_is : (b : BlockTree) (ts rest : List Token) → BlockInRange b → word if_word ∷ ts ≡ statement_tokens b ++ rest →
    (behind : List Token) × (ts ≡ open_mark ∷ behind) × IsTest b behind rest
if_is (test t first second) ts rest range same =
    let whole : word if_word ∷ ts ≡ word if_word ∷ open_mark ∷ (truth_tokens t ++ branches first second rest) =
    same ∙ test_is t first second rest in (
      truth_tokens t ++ branches first second rest,
      same_tail whole,
      record {
        truth = t;
        middle = branches first second rest;
        is = record { fits = (tt, range); are = refl };
        row = branches_row t first second rest;
      },
    )
if_is (call k args) ts rest range same = absurd (cc)
if_is (leave p) ts rest range same = absurd (cc)
if_is idle ts rest range same = absurd (cc)

second_label : (ns : List ℕ) → get_or (drop 1 ns) 0 0 ≡ get_or ns 1 0
second_label [] = refl
second_label (n ∷ ns) = refl

pub test_read : (b : BlockTree) (ts rest : List Token) → IsTest b ts rest →
    IsStatement (word if_word ∷ []) b (open_mark ∷ ts) rest
test_read b ts rest is =
    subst (λ (c : BlockTree). IsStatement (word if_word ∷ []) c (open_mark ∷ ts) rest) (sym is.row.whole)
    (record {
      in_range = is.is.fits.1;
      are = ap (λ (l : List Token). word if_word ∷ open_mark ∷ l)
          (is.is.are
          ∙ ap (λ (l : List Token). truth_tokens is.truth ++ l)
          (row_spelled BRANCHES is.row.numbers is.middle rest is.row.row
          ∙ ap (λ (k : ℕ). branches (get_or is.row.numbers 0 0) k rest) (second_label is.row.numbers)))
          ∙ sym (test_is is.truth (get_or is.row.numbers 0 0) (get_or is.row.numbers 1 0) rest);
    })

test_moved : (ts : List Token) → Moves (IsStatement (word if_word ∷ [])) IsTest (open_mark ∷ ts) ts
test_moved ts =
    moves_one open_mark ts
    (λ b other after first is.
    let found = if_is b (open_mark ∷ other) after is.in_range is.are in
    subst (λ (l : List Token). IsTest b l after) (sym (same_tail found.1)) found.2)
    (λ b other after is. test_read b other after is)

zero_test : (behind : List Token) →
    IsTest (test (num (trees.constant 0)) 0 0) (constant 0 ∷ (word_of BRANCHES ++ behind)) behind
zero_test behind = record {
  truth = num (trees.constant 0);
  middle = word_of BRANCHES ++ behind;
  is = record { fits = (tt, tt); are = refl };
  row = record { numbers = numbers_of BRANCHES; row = spells BRANCHES behind; whole = refl };
}

pub if_refused : (spots : List Spot) (e : Stop) → IsMissing open_mark spots e →
    IsRefused (IsStatement (word if_word ∷ [])) (tokens_of spots) e
if_refused spots e missing =
    refused_there open_mark spots e
    (λ none.
    blocked_here (open_mark ∷ constant 0 ∷ word_of BRANCHES)
    (λ behind. (test (num (trees.constant 0)) 0 0, test_read _ _ behind (zero_test behind)))
    (λ b other rest first is.
    let found = if_is b other rest is.in_range is.are in none (first_is (tokens_of spots) found.1 first))) missing

-- the condition of a test is refused
pub condition_refused : (ts middle : List Token) (e : Stop) → ts ≡ open_mark ∷ middle →
    IsRefused (IsExpression Truth) middle e → IsRefused (IsStatement (word if_word ∷ [])) ts e
condition_refused ts middle (Unexpected here) is h =
    subst (λ (l : List Token). IsBlocked (IsStatement (word if_word ∷ [])) l (tokens_of here.now)) (sym is)
    (moves_blocked (test_moved middle) (record {
      front = h.front;
      whole = h.whole;
      more = h.more ++ word_of BRANCHES;
      completes = λ behind.
          let one = h.completes (word_of BRANCHES ++ behind) in (
            test_of one.0 (numbers_of BRANCHES),
            record {
              truth = one.0;
              middle = word_of BRANCHES ++ behind;
              is = subst (λ (l : List Token). IsExpression Truth one.0 (h.front ++ l) (word_of BRANCHES ++ behind))
                  (sym (append_assoc h.more (word_of BRANCHES) behind)) one.1;
              row = record { numbers = numbers_of BRANCHES; row = spells BRANCHES behind; whole = refl };
            },
          );
      stuck = λ b other rest first is. h.stuck is.truth other is.middle first is.is;
    }))
condition_refused ts middle Memory is h = tt

condition_moved : (t : TruthTree) (middle rest : List Token) → IsExpression Truth t middle rest →
    Moves IsTest (IsOfRow BRANCHES (test_of t)) middle rest
condition_moved t middle rest read = record {
  front = truth_tokens t;
  whole = read.are;
  to = λ b other after first is.
      let parts = same_truth t is.truth other is.middle is.is.are in
      subst (λ (l : List Token). IsOfRow BRANCHES (test_of t) b l after) (sym parts.1)
      (subst (λ (u : TruthTree). IsOfRow BRANCHES (test_of u) b is.middle after) (sym parts.0) is.row);
  from = λ b other after is.
      record { truth = t; middle = other; is = record { fits = read.fits; are = refl }; row = is };
}

pub branches_refused : (t : TruthTree) (ts middle rest : List Token) (e : Stop) → ts ≡ open_mark ∷ middle →
    IsExpression Truth t middle rest → IsRefused (IsOfRow BRANCHES (test_of t)) rest e →
    IsRefused (IsStatement (word if_word ∷ [])) ts e
branches_refused t ts middle rest e is read h =
    subst (λ (l : List Token). IsRefused (IsStatement (word if_word ∷ [])) l e) (sym is)
    (refused_behind (moves_then (test_moved middle) (condition_moved t middle rest read)) e h)

pub branches_read : (t : TruthTree) (ns : List ℕ) (ts middle rest after : List Token) → ts ≡ open_mark ∷ middle →
    IsExpression Truth t middle rest → IsRow BRANCHES ns rest after →
    IsStatement (word if_word ∷ []) (test_of t ns) ts after
branches_read t ns ts middle rest after is read row =
    subst (λ (l : List Token). IsStatement (word if_word ∷ []) (test_of t ns) l after) (sym is)
    (test_read (test_of t ns) middle after
    (record { truth = t; middle = rest; is = read; row = record { numbers = ns; row = row; whole = refl } }))

-- a token that begins what a block does
pub beginning_is : (t u : Token) → Some u ≡ beginning_of t → t ≡ u
beginning_is (word if_word) u is = same_inside (sym is)
beginning_is (word termite_leave) u is = same_inside (sym is)
beginning_is (word return_word) u is = same_inside (sym is)
beginning_is (task k) u is = same_inside (sym is)
beginning_is _ u is = absurd (cc)

no_beginning : (t : Token) → None ≡ beginning_of t → is_statement (Some t) ≡ false
no_beginning (word if_word) none = absurd (cc)
no_beginning (word termite_leave) none = absurd (cc)
no_beginning (word return_word) none = absurd (cc)
no_beginning (task k) none = absurd (cc)
no_beginning _ none = refl

pub begun_with : (t u : Token) (tokens rest : List Token) → tokens ≡ t ∷ rest → Some u ≡ beginning_of t →
    Moves (IsStatement []) (IsStatement (u ∷ [])) tokens rest
begun_with t u tokens rest is begins =
    moved_first u tokens rest (is ∙ ap (λ (v : Token). v ∷ rest) (beginning_is t u begins))

pub none_begins : (t : Token) (tokens rest : List Token) → tokens ≡ t ∷ rest → None ≡ beginning_of t →
    IsBlocked (IsStatement []) tokens tokens
none_begins t tokens rest is none =
    no_statement tokens (ap (λ (l : List Token). is_statement (first_of l)) is ∙ no_beginning t none)

pub nothing_there : (tokens : List Token) → tokens ≡ [] → IsBlocked (IsStatement []) tokens tokens
nothing_there tokens is = no_statement tokens (ap (λ (l : List Token). is_statement (first_of l)) is)

pub begun_read : (t u : Token) (b : BlockTree) (tokens rest after : List Token) → tokens ≡ t ∷ rest →
    Some u ≡ beginning_of t → IsStatement (u ∷ []) b rest after → IsStatement [] b tokens after
begun_read t u b tokens rest after is begins s =
    from_first u b tokens rest after (is ∙ ap (λ (v : Token). v ∷ rest) (beginning_is t u begins)) s
