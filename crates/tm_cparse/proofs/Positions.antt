-- What stands before a token, as its place tells and as the tokens before it tell.
use Rattle.std.proofs.Common.{◌≡◌, ◌≢◌, ℕ, ◌+◌, List, [], ◌∷◌, ◌++◌, refl, sym, ap, ◌∙◌, append_assoc, arith}
use Rattle.tm_cir.specs.Text.Token.{Token, word, label, variable, location, task, constant, sign, Word, void, driver_turn, if_word, else_word, goto, return_word, termite_leave, termite_goal, termite_last, Sign, open_parenthesis}
use Rattle.tm_cparse.specs.declared.names.Before.{Before}
use Rattle.tm_cparse.specs.declared.names.Before.TheVariants.{Goto, Leave, Process, Other}
use Rattle.tm_cparse.specs.declared.names.TokenPlace.{TokenPlace}
use Rattle.tm_cparse.specs.Faults.{label_count, EndsWithGoto}
use Rattle.tm_cparse.specs.Inner.Names.{before_of_word, before_of_sign, before_behind, labels_of_label, place_behind, place_after, first_place}

-- one token more
pub after_more : (at : TokenPlace) (ts : List Token) (t : Token) →
    place_after at (ts ++ t ∷ []) ≡ place_behind (place_after at ts) t
after_more at [] t = refl
after_more at (u ∷ ts) t = after_more (place_behind at u) ts t

pub after_both : (at : TokenPlace) (xs ys : List Token) → place_after at (xs ++ ys) ≡ place_after (place_after at xs) ys
after_both at [] ys = refl
after_both at (x ∷ xs) ys = after_both (place_behind at x) xs ys

-- tokens end with one, or there is none
pub data IsLast : List Token → Type 0 where
  nothing : IsLast []
  last : (before : List Token) (t : Token) → IsLast (before ++ t ∷ [])

pub last_of : (ts : List Token) → IsLast ts
last_of [] = nothing
last_of (t ∷ ts) = of (last_of ts)
  where
    of : {l : List Token} → IsLast l → IsLast (t ∷ l)
    of nothing = last [] t
    of (last before u) = last (t ∷ before) u

-- what tells what stands before
goto_word : (w : Word) → before_of_word w ≡ Goto → word w ≡ word goto
goto_word goto is = refl
goto_word termite_leave is = absurd (cc)
goto_word void is = absurd (cc)
goto_word driver_turn is = absurd (cc)
goto_word if_word is = absurd (cc)
goto_word else_word is = absurd (cc)
goto_word return_word is = absurd (cc)
goto_word termite_goal is = absurd (cc)
goto_word termite_last is = absurd (cc)

leave_word : (w : Word) → before_of_word w ≡ Leave → word w ≡ word termite_leave
leave_word goto is = absurd (cc)
leave_word termite_leave is = refl
leave_word void is = absurd (cc)
leave_word driver_turn is = absurd (cc)
leave_word if_word is = absurd (cc)
leave_word else_word is = absurd (cc)
leave_word return_word is = absurd (cc)
leave_word termite_goal is = absurd (cc)
leave_word termite_last is = absurd (cc)

no_process_word : (w : Word) → before_of_word w ≡ Process → ⊥
no_process_word goto is = cc
no_process_word termite_leave is = cc
no_process_word void is = cc
no_process_word driver_turn is = cc
no_process_word if_word is = cc
no_process_word else_word is = cc
no_process_word return_word is = cc
no_process_word termite_goal is = cc
no_process_word termite_last is = cc

no_goto_sign : (b : Before) (s : Sign) → before_of_sign b s ≡ Goto → ⊥
no_goto_sign Goto s is = cc
no_goto_sign Process s is = cc
no_goto_sign Other s is = cc
no_goto_sign Leave open_parenthesis is = cc
no_goto_sign Leave _ is = cc

no_leave_sign : (b : Before) (s : Sign) → before_of_sign b s ≡ Leave → ⊥
no_leave_sign Goto s is = cc
no_leave_sign Process s is = cc
no_leave_sign Other s is = cc
no_leave_sign Leave open_parenthesis is = cc
no_leave_sign Leave _ is = cc

process_sign : (b : Before) (s : Sign) → before_of_sign b s ≡ Process → (b ≡ Leave) × (sign s ≡ sign open_parenthesis)
process_sign Goto s is = absurd (cc)
process_sign Process s is = absurd (cc)
process_sign Other s is = absurd (cc)
process_sign Leave open_parenthesis is = (refl, refl)
process_sign Leave _ is = absurd (cc)

goto_only : (b : Before) (t : Token) → before_behind b t ≡ Goto → t ≡ word goto
goto_only b (word w) is = goto_word w is
goto_only b (sign s) is = absurd (no_goto_sign b s is)
goto_only b (label k) is = absurd (cc)
goto_only b (variable k) is = absurd (cc)
goto_only b (location k) is = absurd (cc)
goto_only b (task k) is = absurd (cc)
goto_only b (constant k) is = absurd (cc)

leave_only : (b : Before) (t : Token) → before_behind b t ≡ Leave → t ≡ word termite_leave
leave_only b (word w) is = leave_word w is
leave_only b (sign s) is = absurd (no_leave_sign b s is)
leave_only b (label k) is = absurd (cc)
leave_only b (variable k) is = absurd (cc)
leave_only b (location k) is = absurd (cc)
leave_only b (task k) is = absurd (cc)
leave_only b (constant k) is = absurd (cc)

process_only : (b : Before) (t : Token) → before_behind b t ≡ Process →
    (b ≡ Leave) × (t ≡ sign open_parenthesis)
process_only b (word w) is = absurd (no_process_word w is)
process_only b (sign s) is = process_sign b s is
process_only b (label k) is = absurd (cc)
process_only b (variable k) is = absurd (cc)
process_only b (location k) is = absurd (cc)
process_only b (task k) is = absurd (cc)
process_only b (constant k) is = absurd (cc)

abbrev before_after : List Token → Before
before_after ts = (place_after first_place ts).before

before_more : (ts : List Token) (t : Token) → before_after (ts ++ t ∷ []) ≡ before_behind (before_after ts) t
before_more ts t = ap (λ (p : TokenPlace). p.before) (after_more first_place ts t)

-- a jump stands last
pub goto_last : (ts : List Token) → EndsWithGoto ts → (place_after first_place ts).before ≡ Goto
goto_last ts ends = ap before_after ends.1 ∙ before_more ends.0 (word goto)

pub last_goto : (ts : List Token) → (place_after first_place ts).before ≡ Goto → EndsWithGoto ts
last_goto ts is = of (last_of ts) is
  where
    of : {l : List Token} → IsLast l → before_after l ≡ Goto → EndsWithGoto l
    of nothing is = absurd (cc)
    of (last before t) is =
        let same : t ≡ word goto = goto_only (before_after before) t (sym (before_more before t) ∙ is) in
        (before, ap (λ (u : Token). before ++ u ∷ []) same)

-- `termite_leave` and a parenthesis stand last
pub process_last : (ts before : List Token) → ts ≡ before ++ word termite_leave ∷ sign open_parenthesis ∷ [] →
    (place_after first_place ts).before ≡ Process
process_last ts before is =
    ap before_after (is ∙ sym (append_assoc before (word termite_leave ∷ []) (sign open_parenthesis ∷ [])))
    ∙ before_more (before ++ word termite_leave ∷ []) (sign open_parenthesis)
    ∙ ap (λ (b : Before). before_behind b (sign open_parenthesis)) (before_more before (word termite_leave))

ends_leave : (ts : List Token) → before_after ts ≡ Leave →
    (before : List Token) × (ts ≡ before ++ word termite_leave ∷ [])
ends_leave ts is = of (last_of ts) is
  where
    of : {l : List Token} → IsLast l → before_after l ≡ Leave →
        (before : List Token) × (l ≡ before ++ word termite_leave ∷ [])
    of nothing is = absurd (cc)
    of (last before t) is =
        let same : t ≡ word termite_leave = leave_only (before_after before) t (sym (before_more before t) ∙ is) in
        (before, ap (λ (u : Token). before ++ u ∷ []) same)

pub last_process : (ts : List Token) → (place_after first_place ts).before ≡ Process →
    (before : List Token) × (ts ≡ before ++ word termite_leave ∷ sign open_parenthesis ∷ [])
last_process ts is = of (last_of ts) is
  where
    of : {l : List Token} → IsLast l → before_after l ≡ Process →
        (before : List Token) × (l ≡ before ++ word termite_leave ∷ sign open_parenthesis ∷ [])
    of nothing is = absurd (cc)
    of (last before t) is =
        let both = process_only (before_after before) t (sym (before_more before t) ∙ is) in
        let inner = ends_leave before both.0 in (
          inner.0,
          ap (λ (u : Token). before ++ u ∷ []) both.1
              ∙ ap (λ (l : List Token). l ++ sign open_parenthesis ∷ []) inner.1
              ∙ append_assoc inner.0 (word termite_leave ∷ []) (sign open_parenthesis ∷ []),
        )

-- labels behind no jump
label_plain : (n : ℕ) (b : Before) → b ≢ Goto → labels_of_label n b ≡ n + 1
label_plain n Goto other = absurd (other refl)
label_plain n Leave other = refl
label_plain n Process other = refl
label_plain n Other other = refl

no_goto : (b : Before) (t : Token) → t ≢ word goto → before_behind b t ≢ Goto
no_goto b t other is = other (goto_only b t is)

other_goto : Other ≢ Goto
other_goto same = cc

pub labels_are : (n : ℕ) (b : Before) (ts : List Token) → b ≢ Goto →
    (place_after (record { labels = n; before = b }) ts).labels ≡ n + label_count ts
labels_are n b [] other = omega arith
labels_are n b (word goto ∷ label k ∷ ts) other = labels_are n Other ts other_goto
labels_are n b (word goto ∷ []) other = omega arith
labels_are n b (word goto ∷ word w ∷ ts) other = labels_are n b (word w ∷ ts) other
labels_are n b (word goto ∷ variable k ∷ ts) other = labels_are n b (variable k ∷ ts) other
labels_are n b (word goto ∷ location k ∷ ts) other = labels_are n b (location k ∷ ts) other
labels_are n b (word goto ∷ task k ∷ ts) other = labels_are n b (task k ∷ ts) other
labels_are n b (word goto ∷ constant k ∷ ts) other = labels_are n b (constant k ∷ ts) other
labels_are n b (word goto ∷ sign s ∷ ts) other = labels_are n Other (sign s ∷ ts) other_goto
labels_are n b (label k ∷ ts) other =
    let behind : (place_after (record { labels = n + 1; before = Other }) ts).labels ≡ (n + 1) + label_count ts =
    labels_are (n + 1) Other ts other_goto in
    ap (λ (m : ℕ). (place_after (record { labels = m; before = Other }) ts).labels) (label_plain n b other)
    ∙ behind ∙ omega arith
labels_are n b (word termite_leave ∷ ts) other = labels_are n Leave ts (λ same. cc)
labels_are n b (word void ∷ ts) other = labels_are n Other ts other_goto
labels_are n b (word driver_turn ∷ ts) other = labels_are n Other ts other_goto
labels_are n b (word if_word ∷ ts) other = labels_are n Other ts other_goto
labels_are n b (word else_word ∷ ts) other = labels_are n Other ts other_goto
labels_are n b (word return_word ∷ ts) other = labels_are n Other ts other_goto
labels_are n b (word termite_goal ∷ ts) other = labels_are n Other ts other_goto
labels_are n b (word termite_last ∷ ts) other = labels_are n Other ts other_goto
labels_are n b (variable k ∷ ts) other = labels_are n Other ts other_goto
labels_are n b (location k ∷ ts) other = labels_are n Other ts other_goto
labels_are n b (task k ∷ ts) other = labels_are n Other ts other_goto
labels_are n b (constant k ∷ ts) other = labels_are n Other ts other_goto
labels_are n b (sign s ∷ ts) other = labels_are n (before_of_sign b s) ts (λ same. no_goto_sign b s same)

pub labels_count : (ts : List Token) → (place_after first_place ts).labels ≡ label_count ts
labels_count ts = labels_are 0 Other ts other_goto ∙ omega arith
