-- What stands before a token, as its place tells and as the tokens before it tell.
use Rattle.std.proofs.Common.{◌≡◌, ◌≢◌, ℕ, ◌+◌, ◌-◌, Bool, true, false, List, [], ◌∷◌, ◌++◌, if◌then◌else◌, refl, sym}
use Rattle.std.proofs.Common.{ap, ap₂, ◌∙◌, append_assoc, arith}
use Rattle.tm_cir.specs.Text.Token.{Token, word, label, variable, location, task, constant, sign, Word, void}
use Rattle.tm_cir.specs.Text.Token.{driver_turn, if_word, else_word, goto, return_word, termite_leave, termite_goal}
use Rattle.tm_cir.specs.Text.Token.{termite_last, Sign, open_parenthesis}
use Rattle.tm_cparse.proofs.Positions.{IsLast, nothing, last, last_of}
use Rattle.tm_struct_parse.specs.declared.names.Before.{Before}
use Rattle.tm_struct_parse.specs.declared.names.Before.TheVariants.{Void, Leave, Process, Other}
use Rattle.tm_struct_parse.specs.declared.names.TokenPlace.{TokenPlace}
use Rattle.tm_struct_parse.specs.Faults.{function_count, EndsWithVoid, has_turn, callable}
use Rattle.tm_struct_parse.specs.Inner.Names.{before_of_word, before_of_sign, before_behind, begun_behind, turn_behind}
use Rattle.tm_struct_parse.specs.Inner.Names.{callable_at, place_behind, place_after, first_place}

-- one token more
after_more : (at : TokenPlace) (ts : List Token) (t : Token) →
    place_after at (ts ++ t ∷ []) ≡ place_behind (place_after at ts) t
after_more at [] t = refl
after_more at (u ∷ ts) t = after_more (place_behind at u) ts t

pub after_both : (at : TokenPlace) (xs ys : List Token) → place_after at (xs ++ ys) ≡ place_after (place_after at xs) ys
after_both at [] ys = refl
after_both at (x ∷ xs) ys = after_both (place_behind at x) xs ys

-- what tells what stands before
void_word : (w : Word) → before_of_word w ≡ Void → word w ≡ word void
void_word void is = refl
void_word termite_leave is = absurd (cc)
void_word goto is = absurd (cc)
void_word driver_turn is = absurd (cc)
void_word if_word is = absurd (cc)
void_word else_word is = absurd (cc)
void_word return_word is = absurd (cc)
void_word termite_goal is = absurd (cc)
void_word termite_last is = absurd (cc)

leave_word : (w : Word) → before_of_word w ≡ Leave → word w ≡ word termite_leave
leave_word termite_leave is = refl
leave_word void is = absurd (cc)
leave_word goto is = absurd (cc)
leave_word driver_turn is = absurd (cc)
leave_word if_word is = absurd (cc)
leave_word else_word is = absurd (cc)
leave_word return_word is = absurd (cc)
leave_word termite_goal is = absurd (cc)
leave_word termite_last is = absurd (cc)

no_process_word : (w : Word) → before_of_word w ≡ Process → ⊥
no_process_word void is = cc
no_process_word termite_leave is = cc
no_process_word goto is = cc
no_process_word driver_turn is = cc
no_process_word if_word is = cc
no_process_word else_word is = cc
no_process_word return_word is = cc
no_process_word termite_goal is = cc
no_process_word termite_last is = cc

no_void_sign : (b : Before) (s : Sign) → before_of_sign b s ≡ Void → ⊥
no_void_sign Void s is = cc
no_void_sign Process s is = cc
no_void_sign Other s is = cc
no_void_sign Leave open_parenthesis is = cc
no_void_sign Leave _ is = cc

no_leave_sign : (b : Before) (s : Sign) → before_of_sign b s ≡ Leave → ⊥
no_leave_sign Void s is = cc
no_leave_sign Process s is = cc
no_leave_sign Other s is = cc
no_leave_sign Leave open_parenthesis is = cc
no_leave_sign Leave _ is = cc

process_sign : (b : Before) (s : Sign) → before_of_sign b s ≡ Process → (b ≡ Leave) × (sign s ≡ sign open_parenthesis)
process_sign Void s is = absurd (cc)
process_sign Process s is = absurd (cc)
process_sign Other s is = absurd (cc)
process_sign Leave open_parenthesis is = (refl, refl)
process_sign Leave _ is = absurd (cc)

void_only : (b : Before) (t : Token) → before_behind b t ≡ Void → t ≡ word void
void_only b (word w) is = void_word w is
void_only b (sign s) is = absurd (no_void_sign b s is)
void_only b (label k) is = absurd (cc)
void_only b (variable k) is = absurd (cc)
void_only b (location k) is = absurd (cc)
void_only b (task k) is = absurd (cc)
void_only b (constant k) is = absurd (cc)

leave_only : (b : Before) (t : Token) → before_behind b t ≡ Leave → t ≡ word termite_leave
leave_only b (word w) is = leave_word w is
leave_only b (sign s) is = absurd (no_leave_sign b s is)
leave_only b (label k) is = absurd (cc)
leave_only b (variable k) is = absurd (cc)
leave_only b (location k) is = absurd (cc)
leave_only b (task k) is = absurd (cc)
leave_only b (constant k) is = absurd (cc)

process_only : (b : Before) (t : Token) → before_behind b t ≡ Process →
    (b ≡ Leave) × (t ≡ sign open_parenthesis)
process_only b (word w) is = absurd (no_process_word w is)
process_only b (sign s) is = process_sign b s is
process_only b (label k) is = absurd (cc)
process_only b (variable k) is = absurd (cc)
process_only b (location k) is = absurd (cc)
process_only b (task k) is = absurd (cc)
process_only b (constant k) is = absurd (cc)

abbrev before_after : List Token → Before
before_after ts = (place_after first_place ts).before

before_more : (ts : List Token) (t : Token) → before_after (ts ++ t ∷ []) ≡ before_behind (before_after ts) t
before_more ts t = ap (λ (p : TokenPlace). p.before) (after_more first_place ts t)

-- `void` stands last
pub void_last : (ts : List Token) → EndsWithVoid ts → (place_after first_place ts).before ≡ Void
void_last ts ends = ap before_after ends.1 ∙ before_more ends.0 (word void)

pub last_void : (ts : List Token) → (place_after first_place ts).before ≡ Void → EndsWithVoid ts
last_void ts is = of (last_of ts) is
  where
    of : {l : List Token} → IsLast l → before_after l ≡ Void → EndsWithVoid l
    of nothing is = absurd (cc)
    of (last before t) is =
        let same : t ≡ word void = void_only (before_after before) t (sym (before_more before t) ∙ is) in
        (before, ap (λ (u : Token). before ++ u ∷ []) same)

-- `termite_leave` and a parenthesis stand last
pub process_last : (ts before : List Token) → ts ≡ before ++ word termite_leave ∷ sign open_parenthesis ∷ [] →
    (place_after first_place ts).before ≡ Process
process_last ts before is =
    ap before_after (is ∙ sym (append_assoc before (word termite_leave ∷ []) (sign open_parenthesis ∷ [])))
    ∙ before_more (before ++ word termite_leave ∷ []) (sign open_parenthesis)
    ∙ ap (λ (b : Before). before_behind b (sign open_parenthesis)) (before_more before (word termite_leave))

ends_leave : (ts : List Token) → before_after ts ≡ Leave →
    (before : List Token) × (ts ≡ before ++ word termite_leave ∷ [])
ends_leave ts is = of (last_of ts) is
  where
    of : {l : List Token} → IsLast l → before_after l ≡ Leave →
        (before : List Token) × (l ≡ before ++ word termite_leave ∷ [])
    of nothing is = absurd (cc)
    of (last before t) is =
        let same : t ≡ word termite_leave = leave_only (before_after before) t (sym (before_more before t) ∙ is) in
        (before, ap (λ (u : Token). before ++ u ∷ []) same)

pub last_process : (ts : List Token) → (place_after first_place ts).before ≡ Process →
    (before : List Token) × (ts ≡ before ++ word termite_leave ∷ sign open_parenthesis ∷ [])
last_process ts is = of (last_of ts) is
  where
    of : {l : List Token} → IsLast l → before_after l ≡ Process →
        (before : List Token) × (l ≡ before ++ word termite_leave ∷ sign open_parenthesis ∷ [])
    of nothing is = absurd (cc)
    of (last before t) is =
        let both = process_only (before_after before) t (sym (before_more before t) ∙ is) in
        let front = ends_leave before both.0 in (
          front.0,
          ap₂ (λ (l : List Token) (u : Token). l ++ u ∷ []) front.1 both.1
              ∙ append_assoc front.0 (word termite_leave ∷ []) (sign open_parenthesis ∷ []),
        )

-- how many functions have begun
abbrev place : ℕ → Bool → Before → TokenPlace
place n v b = record { functions = n; in_turn = v; before = b }

other_void : Other ≢ Void
other_void same = cc

leave_void : Leave ≢ Void
leave_void same = cc

begun_plain : (n : ℕ) (b : Before) → b ≢ Void → begun_behind n b ≡ n
begun_plain n Void other = absurd (other refl)
begun_plain n Leave other = refl
begun_plain n Process other = refl
begun_plain n Other other = refl

functions_are : (n : ℕ) (v : Bool) (b : Before) (ts : List Token) → b ≢ Void →
    (place_after (place n v b) ts).functions ≡ n + function_count ts
functions_are n v b [] other = omega arith
functions_are n v b (word void ∷ []) other = omega arith
functions_are n v b (word void ∷ label k ∷ ts) other =
    functions_are (n + 1) v Other ts other_void ∙ omega arith
functions_are n v b (word void ∷ word void ∷ ts) other = functions_are n v Other (word void ∷ ts) other_void
functions_are n v b (word void ∷ word driver_turn ∷ ts) other = functions_are n true Other ts other_void
functions_are n v b (word void ∷ word if_word ∷ ts) other = functions_are n v Other ts other_void
functions_are n v b (word void ∷ word else_word ∷ ts) other = functions_are n v Other ts other_void
functions_are n v b (word void ∷ word goto ∷ ts) other = functions_are n v Other ts other_void
functions_are n v b (word void ∷ word return_word ∷ ts) other = functions_are n v Other ts other_void
functions_are n v b (word void ∷ word termite_leave ∷ ts) other = functions_are n v Leave ts leave_void
functions_are n v b (word void ∷ word termite_goal ∷ ts) other = functions_are n v Other ts other_void
functions_are n v b (word void ∷ word termite_last ∷ ts) other = functions_are n v Other ts other_void
functions_are n v b (word void ∷ variable k ∷ ts) other = functions_are n v Other ts other_void
functions_are n v b (word void ∷ location k ∷ ts) other = functions_are n v Other ts other_void
functions_are n v b (word void ∷ task k ∷ ts) other = functions_are n v Other ts other_void
functions_are n v b (word void ∷ constant k ∷ ts) other = functions_are n v Other ts other_void
functions_are n v b (word void ∷ sign s ∷ ts) other = functions_are n v Other ts other_void
functions_are n v b (label k ∷ ts) other =
    ap (λ (m : ℕ). (place_after (place m v Other) ts).functions) (begun_plain n b other)
    ∙ functions_are n v Other ts other_void
functions_are n v b (word driver_turn ∷ ts) other = functions_are n true Other ts other_void
functions_are n v b (word if_word ∷ ts) other = functions_are n v Other ts other_void
functions_are n v b (word else_word ∷ ts) other = functions_are n v Other ts other_void
functions_are n v b (word goto ∷ ts) other = functions_are n v Other ts other_void
functions_are n v b (word return_word ∷ ts) other = functions_are n v Other ts other_void
functions_are n v b (word termite_leave ∷ ts) other = functions_are n v Leave ts leave_void
functions_are n v b (word termite_goal ∷ ts) other = functions_are n v Other ts other_void
functions_are n v b (word termite_last ∷ ts) other = functions_are n v Other ts other_void
functions_are n v b (variable k ∷ ts) other = functions_are n v Other ts other_void
functions_are n v b (location k ∷ ts) other = functions_are n v Other ts other_void
functions_are n v b (task k ∷ ts) other = functions_are n v Other ts other_void
functions_are n v b (constant k ∷ ts) other = functions_are n v Other ts other_void
functions_are n v b (sign s ∷ ts) other =
    functions_are n v (before_of_sign b s) ts (λ same. no_void_sign b s same)

pub functions_count : (ts : List Token) → (place_after first_place ts).functions ≡ function_count ts
functions_count ts = functions_are 0 false Other ts other_void ∙ omega arith

-- whether `driver_turn` has begun
turn_stays : (at : TokenPlace) (ts : List Token) → at.in_turn ≡ true → (place_after at ts).in_turn ≡ true
turn_stays at [] is = is
turn_stays at (t ∷ ts) is = turn_stays (place_behind at t) ts (step t)
  where
    step : (u : Token) → turn_behind at.in_turn u ≡ true
    step (word driver_turn) = refl
    step (word void) = is
    step (word if_word) = is
    step (word else_word) = is
    step (word goto) = is
    step (word return_word) = is
    step (word termite_leave) = is
    step (word termite_goal) = is
    step (word termite_last) = is
    step (label k) = is
    step (variable k) = is
    step (location k) = is
    step (task k) = is
    step (constant k) = is
    step (sign s) = is

turn_is : (at : TokenPlace) (ts : List Token) → at.in_turn ≡ false → (place_after at ts).in_turn ≡ has_turn ts
turn_is at [] is = is
turn_is at (word driver_turn ∷ ts) is = turn_stays (place_behind at (word driver_turn)) ts refl
turn_is at (word void ∷ ts) is = turn_is (place_behind at (word void)) ts is
turn_is at (word if_word ∷ ts) is = turn_is (place_behind at (word if_word)) ts is
turn_is at (word else_word ∷ ts) is = turn_is (place_behind at (word else_word)) ts is
turn_is at (word goto ∷ ts) is = turn_is (place_behind at (word goto)) ts is
turn_is at (word return_word ∷ ts) is = turn_is (place_behind at (word return_word)) ts is
turn_is at (word termite_leave ∷ ts) is = turn_is (place_behind at (word termite_leave)) ts is
turn_is at (word termite_goal ∷ ts) is = turn_is (place_behind at (word termite_goal)) ts is
turn_is at (word termite_last ∷ ts) is = turn_is (place_behind at (word termite_last)) ts is
turn_is at (label k ∷ ts) is = turn_is (place_behind at (label k)) ts is
turn_is at (variable k ∷ ts) is = turn_is (place_behind at (variable k)) ts is
turn_is at (location k ∷ ts) is = turn_is (place_behind at (location k)) ts is
turn_is at (task k ∷ ts) is = turn_is (place_behind at (task k)) ts is
turn_is at (constant k ∷ ts) is = turn_is (place_behind at (constant k)) ts is
turn_is at (sign s ∷ ts) is = turn_is (place_behind at (sign s)) ts is

-- how many functions may be named
pub callable_is : (ts : List Token) → callable_at (place_after first_place ts) ≡ callable ts
callable_is ts =
    ap₂ (λ (v : Bool) (n : ℕ). if v then n else n - 1) (turn_is first_place ts refl) (functions_count ts)
