-- Functions whose tokens are right: their names are in order, and calls name earlier ones.
use Rattle.std.proofs.Common.{◌≡◌, ℕ, ◌+◌, ◌<◌, Bool, true, false, List, [], ◌∷◌, ◌++◌, map, length, refl, sym, ap, ap₂}
use Rattle.std.proofs.Common.{◌∙◌, subst, append_assoc, arith}
use Rattle.std.proofs.lemmas.List.{append-nil}
use Rattle.tm_syntax.specs.Design.{DesignTree}
use Rattle.tm_cir.specs.Tree.{NumTree}
use Rattle.tm_cir.specs.Text.Token.{Token, word, sign, void, driver_turn, else_word, open_parenthesis}
use Rattle.tm_cir.specs.Text.Token.{close_parenthesis, open_brace, close_brace, semicolon}
use Rattle.tm_cir.specs.Text.Grammar.{parenthesized, truth_tokens, argument_tokens}
use Rattle.tm_cparse.specs.Faults.{TakesArguments}
use Rattle.tm_cparse.specs.Inner.Names.{HaveArguments}
use Rattle.tm_struct.specs.Tree.{ActionTree, choose, call, leave, go, idle, ProgramTree}
use Rattle.tm_struct.specs.Text.Spelling.{static_word, function}
use Rattle.tm_struct.specs.Text.Grammar.{braced, action_tokens, body_tokens, function_tokens, program_tokens}
use Rattle.tm_struct.proofs.Grammar.{call_is, same_arguments}
use Rattle.tm_struct_parse.specs.declared.names.Before.TheVariants.{Process}
use Rattle.tm_struct_parse.specs.declared.names.TokenPlace.{TokenPlace}
use Rattle.tm_struct_parse.specs.Written.{WrittenFunction, functions_tokens, WrittenProgram, written_tokens, AreWritten}
use Rattle.tm_struct_parse.specs.Inner.Bodies.{action_of}
use Rattle.tm_struct_parse.specs.Inner.Names.{callable_at, place_after, first_place, IsRightConstant, AreRight}
use Rattle.tm_struct_parse.proofs.Actions.{block_text, choose_text}
use Rattle.tm_struct_parse.proofs.Programs.{functions_text}
use Rattle.tm_struct_parse.proofs.Walks.{outside, still_truth, still_arguments, still_places, right_behind}
use Rattle.tm_struct_parse.proofs.Walks.{right_before, have_before}

abbrev open_mark : Token
open_mark = sign open_parenthesis

abbrev close_mark : Token
close_mark = sign close_parenthesis

abbrev begin_mark : Token
begin_mark = sign open_brace

abbrev end_mark : Token
end_mark = sign close_brace

abbrev stop_mark : Token
stop_mark = sign semicolon

same_tail : {t u : Token} {a b : List Token} → t ∷ a ≡ u ∷ b → a ≡ b
same_tail e = cc

arguments_are : (args : List NumTree) (rest : List Token) →
    open_mark ∷ (argument_tokens args ++ close_mark ∷ rest) ≡ parenthesized (argument_tokens args) ++ rest
arguments_are args rest =
    ap (λ (l : List Token). open_mark ∷ l) (sym (append_assoc (argument_tokens args) (close_mark ∷ []) rest))

-- an action names functions below this number, and its calls and its leaves are right
abbrev pub IsRightAction : DesignTree → ℕ → ActionTree → Type 0
IsRightAction d below (choose t a b) = IsRightAction d below a × IsRightAction d below b
IsRightAction d below (call k args) = TakesArguments d k (length args)
IsRightAction d below (leave p) = IsRightConstant d Process p
IsRightAction d below (go k) = k < below
IsRightAction d below idle = Unit {0}

-- what stands behind the condition of a test, behind its first action and behind its second one
abbrev behind_second : List Token → List Token
behind_second rest = end_mark ∷ rest

abbrev behind_first : ActionTree → List Token → List Token
behind_first b rest = end_mark ∷ (word else_word ∷ (braced (action_tokens b) ++ rest))

abbrev behind_truth : ActionTree → ActionTree → List Token → List Token
behind_truth a b rest =
    close_mark ∷ (braced (action_tokens a) ++ (word else_word ∷ (braced (action_tokens b) ++ rest)))

module _ (d : DesignTree) (n : ℕ) (v : Bool) where
  abbrev All : List Token → Type 0
  All ts = AreRight d (outside n v) ts

  pub action_right : (a : ActionTree) (rest : List Token) → AreRight d (outside n v) (action_tokens a ++ rest) →
      IsRightAction d (callable_at (outside n v)) a × AreRight d (outside n v) rest
  action_right (choose t a b) rest right =
      let whole = subst All (choose_text t a b rest) right in
      let ends : All (behind_truth a b rest) =
      right_behind d n v (truth_tokens t) (behind_truth a b rest) (still_truth t) whole.1.1 in
      let opened : All (begin_mark ∷ (action_tokens a ++ behind_first b rest)) =
      subst All (block_text a (word else_word ∷ (braced (action_tokens b) ++ rest))) ends.1 in
      let first = action_right a (behind_first b rest) opened.1 in
      let again : All (begin_mark ∷ (action_tokens b ++ behind_second rest)) =
      subst All (block_text b rest) first.1.1.1 in
      let second = action_right b (behind_second rest) again.1 in
      ((first.0, second.0), second.1.1)
  action_right (call k args) rest right =
      let whole = subst All (call_is k args rest) right in
      let ends : All (close_mark ∷ stop_mark ∷ rest) =
      right_behind d n v (argument_tokens args) (close_mark ∷ stop_mark ∷ rest) (still_arguments args) whole.1.1 in
      (whole.0 args (stop_mark ∷ rest) (arguments_are args (stop_mark ∷ rest)), ends.1.1)
  action_right (leave p) rest right = (right.1.1.0, right.1.1.1.1.1)
  action_right (go k) rest right = (right.0, right.1.1.1.1)
  action_right idle rest right = (tt, right.1.1)

  pub right_action : (a : ActionTree) (rest : List Token) → IsRightAction d (callable_at (outside n v)) a →
      AreRight d (outside n v) rest → AreRight d (outside n v) (action_tokens a ++ rest)
  right_action (choose t a b) rest is behind =
      let second : All (braced (action_tokens b) ++ rest) =
      subst All (sym (block_text b rest)) (tt, right_action b (behind_second rest) is.1 (tt, behind)) in
      let first : All (braced (action_tokens a) ++ (word else_word ∷ (braced (action_tokens b) ++ rest))) =
      subst All (sym (block_text a (word else_word ∷ (braced (action_tokens b) ++ rest))))
      (tt, right_action a (behind_first b rest) is.0 (tt, (tt, second))) in
      subst All (sym (choose_text t a b rest)) (
        tt,
        (tt, right_before d n v (truth_tokens t) (behind_truth a b rest) (still_truth t) (tt, first)),
      )
  right_action (call k args) rest is behind =
      subst All (sym (call_is k args rest)) (
        takes,
        (
          tt,
          right_before d n v (argument_tokens args) (close_mark ∷ stop_mark ∷ rest) (still_arguments args)
              (tt, (tt, behind)),
        ),
      )
    where
      takes : (others : List NumTree) (after : List Token) →
          open_mark ∷ (argument_tokens args ++ close_mark ∷ stop_mark ∷ rest)
          ≡ parenthesized (argument_tokens others) ++ after → TakesArguments d k (length others)
      takes others after same =
          let whole : argument_tokens args ++ close_mark ∷ stop_mark ∷ rest
          ≡ argument_tokens others ++ close_mark ∷ after =
          same_tail (same ∙ sym (arguments_are others after)) in
          subst (λ (l : List NumTree). TakesArguments d k (length l))
          ((same_arguments args others (stop_mark ∷ rest) after whole).0) is
  right_action (leave p) rest is behind = (tt, (tt, (is, (tt, (tt, behind)))))
  right_action (go k) rest is behind = (is, (tt, (tt, (tt, behind))))
  right_action idle rest is behind = (tt, (tt, behind))

  -- a function behind its name
  pub body_right : (a : ActionTree) (rest : List Token) → AreRight d (outside n v) (body_tokens a ++ rest) →
      IsRightAction d (callable_at (outside n v)) a × AreRight d (outside n v) rest
  body_right a rest right =
      let opened : All (begin_mark ∷ (action_tokens a ++ behind_second rest)) =
      subst All (block_text a rest) right.1.1.1 in
      let inner = action_right a (behind_second rest) opened.1 in
      (inner.0, inner.1.1)

  pub right_body : (a : ActionTree) (rest : List Token) → IsRightAction d (callable_at (outside n v)) a →
      AreRight d (outside n v) rest → AreRight d (outside n v) (body_tokens a ++ rest)
  right_body a rest is behind = (
    tt,
    (
      tt,
      (tt, subst All (sym (block_text a rest)) (tt, right_action a (behind_second rest) is (tt, behind))),
    ),
  )

-- an action leaves the place as it is, and so does a function behind its name
module _ (n : ℕ) (v : Bool) where
  place_action : (a : ActionTree) (rest : List Token) →
      place_after (outside n v) (action_tokens a ++ rest) ≡ place_after (outside n v) rest
  place_action (choose t a b) rest =
      ap (place_after (outside n v)) (choose_text t a b rest)
      ∙ still_places n v (truth_tokens t) (behind_truth a b rest) (still_truth t)
      ∙ ap (place_after (outside n v)) (block_text a (word else_word ∷ (braced (action_tokens b) ++ rest)))
      ∙ place_action a (behind_first b rest)
      ∙ ap (place_after (outside n v)) (block_text b rest)
      ∙ place_action b (behind_second rest)
  place_action (call k args) rest =
      ap (place_after (outside n v)) (call_is k args rest)
      ∙ still_places n v (argument_tokens args) (close_mark ∷ stop_mark ∷ rest) (still_arguments args)
  place_action (leave p) rest = refl
  place_action (go k) rest = refl
  place_action idle rest = refl

  place_body : (a : ActionTree) (rest : List Token) →
      place_after (outside n v) (body_tokens a ++ rest) ≡ place_after (outside n v) rest
  place_body a rest =
      ap (place_after (outside n v)) (block_text a rest) ∙ place_action a (behind_second rest)

have_action : (a : ActionTree) (rest : List Token) → HaveArguments rest → HaveArguments (action_tokens a ++ rest)
have_action (choose t a b) rest have =
    let second : HaveArguments (braced (action_tokens b) ++ rest) =
    subst HaveArguments (sym (block_text b rest)) (have_action b (behind_second rest) have) in
    let first : HaveArguments (braced (action_tokens a) ++ (word else_word ∷ (braced (action_tokens b) ++ rest))) =
    subst HaveArguments (sym (block_text a (word else_word ∷ (braced (action_tokens b) ++ rest))))
    (have_action a (behind_first b rest) second) in
    subst HaveArguments (sym (choose_text t a b rest))
    (have_before (truth_tokens t) (behind_truth a b rest) (still_truth t) first)
have_action (call k args) rest have =
    subst HaveArguments (sym (call_is k args rest)) (
      (args, rest, arguments_are args (stop_mark ∷ rest)),
      have_before (argument_tokens args) (close_mark ∷ stop_mark ∷ rest) (still_arguments args) have,
    )
have_action (leave p) rest have = have
have_action (go k) rest have = have
have_action idle rest have = have

have_body : (a : ActionTree) (rest : List Token) → HaveArguments rest → HaveArguments (body_tokens a ++ rest)
have_body a rest have = subst HaveArguments (sym (block_text a rest)) (have_action a (behind_second rest) have)

-- functions of which the first has this number
abbrev pub AreRightFunctions : DesignTree → ℕ → List WrittenFunction → Type 0
AreRightFunctions d n [] = Unit {0}
AreRightFunctions d n (f ∷ fs) =
    ((f.number ≡ n) × IsRightAction d n f.action) × AreRightFunctions d (n + 1) fs

before_it : (n : ℕ) → callable_at (outside (n + 1) false) ≡ n
before_it n = omega arith

pub functions_right : (d : DesignTree) (n : ℕ) (fs : List WrittenFunction) (rest : List Token) →
    AreRight d (outside n false) (functions_tokens fs ++ rest) →
    AreRightFunctions d n fs × AreRight d (outside (n + length fs) false) rest
functions_right d n [] rest right =
    let same : n ≡ n + 0 = omega arith in
    (tt, subst (λ (k : ℕ). AreRight d (outside k false) rest) same right)
functions_right d n (f ∷ fs) rest right =
    let whole = subst (AreRight d (outside n false)) (functions_text f fs rest) right in
    let body = body_right d (n + 1) false f.action (functions_tokens fs ++ rest) whole.1.1.1 in
    let others = functions_right d (n + 1) fs rest body.1 in
    let same : n + 1 + length fs ≡ n + length (f ∷ fs) = omega arith in (
      (
        (whole.1.1.0, subst (λ (k : ℕ). IsRightAction d k f.action) (before_it n) body.0),
        others.0,
      ),
      subst (λ (k : ℕ). AreRight d (outside k false) rest) same others.1,
    )

pub right_functions : (d : DesignTree) (n : ℕ) (fs : List WrittenFunction) (rest : List Token) →
    AreRightFunctions d n fs → AreRight d (outside (n + length fs) false) rest →
    AreRight d (outside n false) (functions_tokens fs ++ rest)
right_functions d n [] rest is behind =
    let same : n + 0 ≡ n = omega arith in subst (λ (k : ℕ). AreRight d (outside k false) rest) same behind
right_functions d n (f ∷ fs) rest is behind =
    let same : n + length (f ∷ fs) ≡ n + 1 + length fs = omega arith in
    let others = right_functions d (n + 1) fs rest is.1
    (subst (λ (k : ℕ). AreRight d (outside k false) rest) same behind) in
    subst (AreRight d (outside n false)) (sym (functions_text f fs rest)) (
      tt,
      (
        tt,
        (
          is.0.0,
          right_body d (n + 1) false f.action (functions_tokens fs ++ rest)
              (subst (λ (k : ℕ). IsRightAction d k f.action) (sym (before_it n)) is.0.1) others,
        ),
      ),
    )

place_functions : (n : ℕ) (fs : List WrittenFunction) (rest : List Token) →
    place_after (outside n false) (functions_tokens fs ++ rest) ≡ place_after (outside (n + length fs) false) rest
place_functions n [] rest =
    let same : n ≡ n + 0 = omega arith in ap (λ (k : ℕ). place_after (outside k false) rest) same
place_functions n (f ∷ fs) rest =
    let same : n + 1 + length fs ≡ n + length (f ∷ fs) = omega arith in
    ap (place_after (outside n false)) (functions_text f fs rest)
    ∙ place_body (n + 1) false f.action (functions_tokens fs ++ rest)
    ∙ place_functions (n + 1) fs rest
    ∙ ap (λ (k : ℕ). place_after (outside k false) rest) same

have_functions : (fs : List WrittenFunction) (rest : List Token) → HaveArguments rest →
    HaveArguments (functions_tokens fs ++ rest)
have_functions [] rest have = have
have_functions (f ∷ fs) rest have =
    subst HaveArguments (sym (functions_text f fs rest))
    (have_body f.action (functions_tokens fs ++ rest) (have_functions fs rest have))

-- the tokens of a whole driver, with nothing behind them
abbrev turn : ActionTree → List Token
turn a = word void ∷ word driver_turn ∷ (body_tokens a ++ [])

written_is : (p : WrittenProgram) → written_tokens p ≡ functions_tokens p.functions ++ turn p.main
written_is p =
    ap (λ (l : List Token). functions_tokens p.functions ++ word void ∷ word driver_turn ∷ l)
    (sym (append-nil (body_tokens p.main)))

-- a driver whose names are right
pub record IsRightProgram (d : DesignTree) (p : WrittenProgram) : Type 0 where
  pub functions : AreRightFunctions d 0 p.functions
  pub main : IsRightAction d (length p.functions) p.main

pub program_right : (d : DesignTree) (p : WrittenProgram) → AreRight d first_place (written_tokens p) →
    IsRightProgram d p
program_right d p right =
    let both = functions_right d 0 p.functions (turn p.main)
    (subst (AreRight d first_place) (written_is p) right) in
    let main = body_right d (0 + length p.functions) true p.main [] both.1.1.1 in
    let same : 0 + length p.functions ≡ length p.functions = omega arith in
    record { functions = both.0; main = subst (λ (k : ℕ). IsRightAction d k p.main) same main.0 }

pub right_program : (d : DesignTree) (p : WrittenProgram) → IsRightProgram d p →
    AreRight d first_place (written_tokens p)
right_program d p is =
    let same : length p.functions ≡ 0 + length p.functions = omega arith in
    subst (AreRight d first_place) (sym (written_is p))
    (right_functions d 0 p.functions (turn p.main) is.functions (
      tt,
      (
        tt,
        right_body d (0 + length p.functions) true p.main []
            (subst (λ (k : ℕ). IsRightAction d k p.main) same is.main) tt,
      ),
    ))

pub function_count_is : (p : WrittenProgram) →
    (place_after first_place (written_tokens p)).functions ≡ length p.functions
function_count_is p =
    let same : 0 + length p.functions ≡ length p.functions = omega arith in
    ap (λ (l : List Token). (place_after first_place l).functions) (written_is p)
    ∙ ap (λ (q : TokenPlace). q.functions) (place_functions 0 p.functions (turn p.main))
    ∙ ap (λ (q : TokenPlace). q.functions) (place_body (0 + length p.functions) true p.main [])
    ∙ same

pub written_have : (tokens : List Token) → (p : WrittenProgram) × AreWritten tokens p → HaveArguments tokens
written_have tokens w =
    subst HaveArguments (sym (w.1.are ∙ written_is w.0))
    (have_functions w.0.functions (turn w.0.main) (have_body w.0.main [] tt))

-- functions in order
abbrev pub program_of : WrittenProgram → ProgramTree
program_of p = record { functions = map action_of p.functions; main = p.main }

functions_in_order : (d : DesignTree) (n : ℕ) (fs : List WrittenFunction) → AreRightFunctions d n fs →
    functions_tokens fs ≡ function_tokens n (map action_of fs)
functions_in_order d n [] right = refl
functions_in_order d n (f ∷ fs) right =
    ap₂ (λ (k : ℕ) (l : List Token). static_word ∷ word void ∷ function k ∷ body_tokens f.action ++ l) right.0.0
    (functions_in_order d (n + 1) fs right.1)

pub program_in_order : (d : DesignTree) (p : WrittenProgram) → IsRightProgram d p →
    written_tokens p ≡ program_tokens (program_of p)
program_in_order d p right =
    ap (λ (l : List Token). l ++ word void ∷ word driver_turn ∷ body_tokens p.main)
    (functions_in_order d 0 p.functions right.functions)

-- functions with their numbers as names
abbrev pub numbered : ℕ → List ActionTree → List WrittenFunction
numbered n [] = []
numbered n (a ∷ actions) = record { number = n; action = a } ∷ numbered (n + 1) actions

abbrev pub written_of : ProgramTree → WrittenProgram
written_of p = record { functions = numbered 0 p.functions; main = p.main }

numbered_tokens : (n : ℕ) (actions : List ActionTree) → functions_tokens (numbered n actions) ≡ function_tokens n
    actions
numbered_tokens n [] = refl
numbered_tokens n (a ∷ actions) =
    ap (λ (l : List Token). static_word ∷ word void ∷ function n ∷ body_tokens a ++ l) (numbered_tokens (n + 1) actions)

pub written_program : (p : ProgramTree) → written_tokens (written_of p) ≡ program_tokens p
written_program p =
    ap (λ (l : List Token). l ++ word void ∷ word driver_turn ∷ body_tokens p.main) (numbered_tokens 0 p.functions)

pub numbered_length : (n : ℕ) (actions : List ActionTree) → length (numbered n actions) ≡ length actions
numbered_length n [] = refl
numbered_length n (a ∷ actions) = omega (arith, numbered_length (n + 1) actions)
