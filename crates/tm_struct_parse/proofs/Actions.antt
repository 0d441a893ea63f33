-- What functions do, as forms: token by token and part by part.
use Rattle.std.proofs.Common.{◌≡◌, ◌≢◌, ℕ, ◌<◌, ◌≤◌, Bool, true, false, Option, None, Some, List, [], ◌∷◌, ◌++◌, refl}
use Rattle.std.proofs.Common.{sym, ap, ◌∙◌, subst, true≢false, append_assoc, arith}
use Rattle.std.proofs.lemmas.List.Elements.{All-nil}
use Rattle.tm_cir.specs.Tree.{NumTree, TruthTree, num, goal}
use Rattle.tm_cir.specs.Text.Token.{Token, word, label, task, constant, sign, if_word, else_word, return_word}
use Rattle.tm_cir.specs.Text.Token.{termite_leave, termite_goal, open_parenthesis, close_parenthesis, open_brace}
use Rattle.tm_cir.specs.Text.Token.{close_brace, semicolon}
use Rattle.tm_cir.specs.Text.Grammar.{truth_tokens, argument_tokens}
use Rattle.tm_cir.proofs.Text.Expressions.{same_inside, same_truth}
use Rattle.tm_cparse.specs.declared.part.Sort.TheVariants.{Truth}
use Rattle.tm_cparse.specs.declared.spot.Spot.{Spot}
use Rattle.tm_cparse.specs.declared.spot.Stop.{Stop}
use Rattle.tm_cparse.specs.declared.spot.Stop.TheVariants.{Unexpected, Memory}
use Rattle.tm_cparse.specs.View.{tokens_of}
use Rattle.tm_cparse.specs.Written.{NumInRange}
use Rattle.tm_cparse.specs.Inner.Reading.{first_of, IsBlocked, IsRefused, Moves, IsNoConstant}
use Rattle.tm_cparse.specs.Inner.Parts.{IsExpression}
use Rattle.tm_cparse.specs.Inner.Statements.{AreArguments}
use Rattle.tm_cparse.proofs.Moves.{moves_one, blocked_here}
use Rattle.tm_struct.specs.Tree.{ActionTree, choose, call, leave, go, idle}
use Rattle.tm_struct.specs.Fit.{most_ifs}
use Rattle.tm_struct.specs.Text.Grammar.{braced, action_tokens}
use Rattle.tm_struct.proofs.Grammar.{same_action, same_arguments, regroup}
use Rattle.tm_struct_parse.specs.Written.{ActionInRange}
use Rattle.tm_struct_parse.specs.Inner.Forms.{IsAction, IsBlock, beginning_of}
use Rattle.tm_struct_parse.proofs.Forms.{Ends, IsOnly, refused_behind}

abbrev pub open_mark : Token
open_mark = sign open_parenthesis

abbrev pub close_mark : Token
close_mark = sign close_parenthesis

abbrev pub begin_mark : Token
begin_mark = sign open_brace

abbrev pub end_mark : Token
end_mark = sign close_brace

abbrev pub stop_mark : Token
stop_mark = sign semicolon

pub same_tail : {t u : Token} {a b : List Token} → t ∷ a ≡ u ∷ b → a ≡ b
same_tail e = cc

-- the shortest truth value, action and block
abbrev pub some_block : List Token
some_block = begin_mark ∷ word return_word ∷ stop_mark ∷ end_mark ∷ []

pub truth_ends : Ends (word termite_goal ∷ []) (IsExpression Truth)
truth_ends = record { at = λ behind. (num goal, record { fits = (tt, tt); are = refl }) }

pub block_ends : (o : ℕ) → Ends (begin_mark ∷ word return_word ∷ stop_mark ∷ end_mark ∷ []) (IsBlock o)
block_ends o = record { at = λ behind. (idle, record { in_range = tt; are = refl }) }

pub action_ends : (o : ℕ) → Ends (word return_word ∷ stop_mark ∷ []) (IsAction o [])
action_ends o = record { at = λ behind. (idle, record { in_range = tt; are = refl }) }

pub arguments_end : Ends (close_mark ∷ []) AreArguments
arguments_end = record { at = λ behind. ([], record { in_range = All-nil NumInRange; are = refl }) }

-- a truth value, a block and arguments are told by their tokens
pub truth_only : (t : TruthTree) (tokens rest : List Token) → IsExpression Truth t tokens rest →
    IsOnly (IsExpression Truth) t tokens rest
truth_only t tokens rest is = record {
  front = truth_tokens t;
  whole = is.are;
  is = λ other. record { fits = is.fits; are = refl };
  only = λ z other after first p. same_truth z t after other (sym p.are);
}

pub block_text : (a : ActionTree) (rest : List Token) →
    braced (action_tokens a) ++ rest ≡ begin_mark ∷ (action_tokens a ++ (end_mark ∷ rest))
block_text a rest = ap (λ (l : List Token). begin_mark ∷ l) (append_assoc (action_tokens a) (end_mark ∷ []) rest)

same_block : (a b : ActionTree) (rest others : List Token) →
    braced (action_tokens a) ++ rest ≡ braced (action_tokens b) ++ others → (a ≡ b) × (rest ≡ others)
same_block a b rest others same =
    let inner = same_action a b (end_mark ∷ rest) (end_mark ∷ others)
    (same_tail (sym (block_text a rest) ∙ same ∙ block_text b others)) in
    (inner.0, same_tail inner.1)

pub block_only : (o : ℕ) (a : ActionTree) (tokens rest : List Token) → IsBlock o a tokens rest →
    IsOnly (IsBlock o) a tokens rest
block_only o a tokens rest is = record {
  front = braced (action_tokens a);
  whole = is.are;
  is = λ other. record { in_range = is.in_range; are = refl };
  only = λ z other after first p. same_block z a after other (sym p.are);
}

pub action_only : (o : ℕ) (a : ActionTree) (tokens rest : List Token) → IsAction o [] a tokens rest →
    IsOnly (IsAction o []) a tokens rest
action_only o a tokens rest is = record {
  front = action_tokens a;
  whole = is.are;
  is = λ other. record { in_range = is.in_range; are = refl };
  only = λ z other after first p. same_action z a after other (sym p.are);
}

arguments_text : (args : List NumTree) (rest : List Token) →
    (argument_tokens args ++ close_mark ∷ []) ++ rest ≡ argument_tokens args ++ close_mark ∷ rest
arguments_text args rest = append_assoc (argument_tokens args) (close_mark ∷ []) rest

pub arguments_only : (args : List NumTree) (tokens rest : List Token) → AreArguments args tokens rest →
    IsOnly AreArguments args tokens rest
arguments_only args tokens rest is = record {
  front = argument_tokens args ++ close_mark ∷ [];
  whole = is.are ∙ sym (arguments_text args rest);
  is = λ other. record { in_range = is.in_range; are = arguments_text args other };
  only = λ z other after first p.
      same_arguments z args after other (sym p.are ∙ arguments_text args other);
}

-- a constant, as a part
pub record IsConstant (n : ℕ) (tokens rest : List Token) : Type 0 where
  pub are : tokens ≡ constant n ∷ rest

pub constant_ends : Ends (constant 0 ∷ []) IsConstant
constant_ends = record { at = λ behind. (0, record { are = refl }) }

pub constant_only : (n : ℕ) (tokens rest : List Token) → tokens ≡ constant n ∷ rest → IsOnly IsConstant n tokens rest
constant_only n tokens rest is = record {
  front = constant n ∷ [];
  whole = is;
  is = λ other. record { are = refl };
  only = λ z other after first p. (same_number (sym p.are), same_tail (sym p.are));
}
  where
    same_number : {a b : ℕ} {x y : List Token} → constant a ∷ x ≡ constant b ∷ y → a ≡ b
    same_number e = cc

pub constant_refused : (spots : List Spot) (e : Stop) → IsNoConstant spots e → IsRefused IsConstant (tokens_of spots) e
constant_refused spots (Unexpected here) missing =
    subst (λ (l : List Spot). IsBlocked IsConstant (tokens_of spots) (tokens_of l)) (sym missing.0)
    (blocked_here (constant 0 ∷ []) constant_ends.at
    (λ n other rest first is. missing.1 n (sym first ∙ ap first_of is.are)))
constant_refused spots Memory missing = tt

-- the first token of an action
pub moved_first : (o : ℕ) (t : Token) (tokens rest : List Token) → tokens ≡ t ∷ rest →
    Moves (IsAction o []) (IsAction o (t ∷ [])) tokens rest
moved_first o t tokens rest is =
    subst (λ (l : List Token). Moves (IsAction o []) (IsAction o (t ∷ [])) l rest) (sym is)
    (moves_one t rest (λ a other after first s. record { in_range = s.in_range; are = s.are })
    (λ a other after s. record { in_range = s.in_range; are = s.are }))

pub from_first : (o : ℕ) (t : Token) (a : ActionTree) (tokens rest after : List Token) → tokens ≡ t ∷ rest →
    IsAction o (t ∷ []) a rest after → IsAction o [] a tokens after
from_first o t a tokens rest after is s = record { in_range = s.in_range; are = is ∙ s.are }

-- whether an action begins with this token
abbrev pub is_action : Option Token → Bool
is_action (Some (word if_word)) = true
is_action (Some (word termite_leave)) = true
is_action (Some (word return_word)) = true
is_action (Some (task k)) = true
is_action (Some (label k)) = true
is_action _ = false

starts : (a : ActionTree) (rest : List Token) → is_action (first_of (action_tokens a ++ rest)) ≡ true
starts (choose t a b) rest = refl
starts (call k args) rest = refl
starts (leave p) rest = refl
starts (go k) rest = refl
starts idle rest = refl

pub no_action : (o : ℕ) (tokens : List Token) → is_action (first_of tokens) ≡ false →
    IsBlocked (IsAction o []) tokens tokens
no_action o tokens none =
    blocked_here (word return_word ∷ stop_mark ∷ []) (action_ends o).at
    (λ a other rest first is.
    true≢false
    (sym (starts a rest) ∙ ap (λ (l : List Token). is_action (first_of l)) (sym is.are) ∙ ap is_action first ∙ none))

pub nothing_there : (o : ℕ) (tokens : List Token) → tokens ≡ [] → IsBlocked (IsAction o []) tokens tokens
nothing_there o tokens none = no_action o tokens (ap (λ (l : List Token). is_action (first_of l)) none)

none_begins_with : (t : Token) → None ≡ beginning_of t → is_action (Some t) ≡ false
none_begins_with (word if_word) none = absurd (cc)
none_begins_with (word termite_leave) none = absurd (cc)
none_begins_with (word return_word) none = absurd (cc)
none_begins_with (task k) none = absurd (cc)
none_begins_with (label k) none = absurd (cc)
none_begins_with _ none = refl

pub none_begins : (o : ℕ) (t : Token) (tokens rest : List Token) → tokens ≡ t ∷ rest → None ≡ beginning_of t →
    IsBlocked (IsAction o []) tokens tokens
none_begins o t tokens rest is none =
    no_action o tokens (ap (λ (l : List Token). is_action (first_of l)) is ∙ none_begins_with t none)

-- a token that begins an action
beginning_is : (t u : Token) → Some u ≡ beginning_of t → t ≡ u
beginning_is (word if_word) u is = same_inside (sym is)
beginning_is (word termite_leave) u is = same_inside (sym is)
beginning_is (word return_word) u is = same_inside (sym is)
beginning_is (task k) u is = same_inside (sym is)
beginning_is (label k) u is = same_inside (sym is)
beginning_is _ u is = absurd (cc)

pub begins_with : (t u : Token) (tokens rest : List Token) → tokens ≡ t ∷ rest → Some u ≡ beginning_of t →
    tokens ≡ u ∷ rest
begins_with t u tokens rest is begins = is ∙ ap (λ (v : Token). v ∷ rest) (beginning_is t u begins)

pub begun_read : (o : ℕ) (t u : Token) (a : ActionTree) (tokens rest after : List Token) → tokens ≡ t ∷ rest →
    Some u ≡ beginning_of t → IsAction o (u ∷ []) a rest after → IsAction o [] a tokens after
begun_read o t u a tokens rest after is begins s =
    from_first o u a tokens rest after (begins_with t u tokens rest is begins) s

pub begun_refused : (o : ℕ) (t u : Token) (tokens rest : List Token) (e : Stop) → tokens ≡ t ∷ rest →
    Some u ≡ beginning_of t → IsRefused (IsAction o (u ∷ [])) rest e → IsRefused (IsAction o []) tokens e
begun_refused o t u tokens rest e is begins h =
    refused_behind (moved_first o u tokens rest (begins_with t u tokens rest is begins)) e h

-- one `if` too many
in_test : (o : ℕ) (a : ActionTree) (rest : List Token) → ActionInRange o a →
    first_of (action_tokens a ++ rest) ≡ Some (word if_word) → o < most_ifs
in_test o (choose t a b) rest range is = range.0
in_test o (call k args) rest range is = absurd (cc)
in_test o (leave p) rest range is = absurd (cc)
in_test o (go k) rest range is = absurd (cc)
in_test o idle rest range is = absurd (cc)

pub too_deep : (o : ℕ) (tokens rest : List Token) → most_ifs ≤ o → tokens ≡ word if_word ∷ rest →
    IsBlocked (IsAction o []) tokens tokens
too_deep o tokens rest deep is =
    blocked_here (word return_word ∷ stop_mark ∷ []) (action_ends o).at
    (λ a other after first s.
    let low = in_test o a after s.in_range (ap first_of (sym s.are) ∙ first ∙ ap first_of is) in omega (
      arith,
      low,
      deep,
    ))

-- a test as tokens
test_lists : (t x y rest : List Token) →
    (word if_word ∷ (sign open_parenthesis ∷ t ++ sign close_parenthesis ∷ []) ++ x ++ word else_word ∷ y) ++ rest
    ≡ word if_word ∷ sign open_parenthesis ∷ (t ++ (sign close_parenthesis ∷ (x ++ (word else_word ∷ (y ++ rest)))))
test_lists t x y rest =
    ap (λ (l : List Token). word if_word ∷ sign open_parenthesis ∷ l)
    (regroup t (sign close_parenthesis ∷ []) x (word else_word ∷ y) rest)

pub choose_text : (t : TruthTree) (a b : ActionTree) (rest : List Token) →
    action_tokens (choose t a b) ++ rest
    ≡ word if_word ∷ open_mark
    ∷ (truth_tokens t
    ++ (close_mark ∷ (braced (action_tokens a) ++ (word else_word ∷ (braced (action_tokens b) ++ rest)))))
choose_text t a b rest = test_lists (truth_tokens t) (braced (action_tokens a)) (braced (action_tokens b)) rest
