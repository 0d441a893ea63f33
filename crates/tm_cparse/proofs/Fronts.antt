-- What stands in front of a text.
use Rattle.std.proofs.Common.{◌≡◌, ◌≢◌, ℕ, zero, suc, ◌+◌, ◌≤◌, Bool, true, false, cond, ◌||◌, ◌==◌, List, [], ◌∷◌, ◌++◌, length, refl, sym, ap, ◌∙◌, subst, append_assoc, length-append, true≢false, arith}
use Rattle.std.specs.Prelude.{codes, count_by, if◌then◌else◌}
use Rattle.std.specs.List.{AllPass}
use Rattle.std.proofs.lemmas.List.{append_cancel_left}
use Rattle.std.proofs.lemmas.List.Sums.{count_by-le-length, sum_by-append}
use Rattle.std.proofs.lemmas.Bool.Decides.{Decides-eqb}
use Rattle.tm_syntax.specs.Tokens.{is_blank, is_line_feed}
use Rattle.tm_cir.specs.Text.Spelling.{EndsLine, space, tab, carriage_return, line_feed, SkipsBlanks, skip, HasInclude}
use Rattle.tm_cir.specs.Text.Spelling as spelling
use Rattle.tm_cparse.specs.Cut.{BeginsNoBlank, line_behind}
use Rattle.tm_cparse.specs.Faults.{line_after}
use Rattle.tm_cparse.specs.Inner.Fronts.{AreBlanks, IsBehindInclude, IsNoInclude, is_space, BeginsNoSpace, EndsAlike}

-- the line of the include
abbrev pub include_text : List ℕ
include_text = codes "#include \"termite.h\""

pub pass_none : (p : ℕ → Bool) → AllPass p []
pass_none p k d low = absurd (omega (arith, low))

pub pass_more : (p : ℕ → Bool) (x : ℕ) (xs : List ℕ) → p x ≡ true → AllPass p xs → AllPass p (x ∷ xs)
pass_more p x xs first all zero d low = first
pass_more p x xs first all (suc k) d low = all k d (omega (arith, low))

pub pass_head : (p : ℕ → Bool) (x : ℕ) (xs : List ℕ) → AllPass p (x ∷ xs) → p x ≡ true
pass_head p x xs all = all 0 0 (omega arith)

pub pass_tail : (p : ℕ → Bool) (x : ℕ) (xs : List ℕ) → AllPass p (x ∷ xs) → AllPass p xs
pass_tail p x xs all k d low = all (suc k) d (omega (arith, low))

all_behind : (p : ℕ → Bool) (xs ys : List ℕ) → AllPass p xs → AllPass p ys → AllPass p (xs ++ ys)
all_behind p [] ys front behind = behind
all_behind p (x ∷ xs) ys front behind =
    pass_more p x (xs ++ ys) (pass_head p x xs front) (all_behind p xs ys (pass_tail p x xs front) behind)

pub feeds_behind : (xs ys : List ℕ) →
    count_by is_line_feed (xs ++ ys) ≡ count_by is_line_feed xs + count_by is_line_feed ys
feeds_behind xs ys = sum_by-append (λ x. cond (is_line_feed x) 1 0) xs ys

pub line_one : (line b : ℕ) → line_behind line b ≡ line + count_by is_line_feed (b ∷ [])
line_one line b = of (is_line_feed b)
  where
    of : (v : Bool) → (if v then line + 1 else line) ≡ line + (0 + cond v 1 0)
    of true = omega arith
    of false = omega arith

pub no_blanks : (text : List ℕ) → AreBlanks text text 1
no_blanks text = record { blanks = []; are = pass_none is_blank; whole = refl; behind = refl }

-- one blank more
pub one_blank : (text rest behind : List ℕ) (line b : ℕ) → AreBlanks text rest line → rest ≡ b ∷ behind →
    is_blank b ≡ true → AreBlanks text behind (line_behind line b)
one_blank text rest behind line b are is blank = record {
  blanks = are.blanks ++ b ∷ [];
  are = all_behind is_blank are.blanks (b ∷ []) are.are (pass_more is_blank b [] blank (pass_none is_blank));
  whole = are.whole ∙ ap (λ (l : List ℕ). are.blanks ++ l) is ∙ sym (append_assoc are.blanks (b ∷ []) behind);
  behind = line_one line b ∙ ap (λ (n : ℕ). n + count_by is_line_feed (b ∷ [])) are.behind
      ∙ omega (arith, feeds_behind are.blanks (b ∷ []));
}

pub blanks_short : (text rest : List ℕ) (line : ℕ) → AreBlanks text rest line → line + length rest ≤ 1 + length text
blanks_short text rest line are =
    omega (
      arith,
      are.behind,
      count_by-le-length is_line_feed are.blanks,
      ap length are.whole,
      length-append are.blanks rest,
    )

skips : (blanks rest : List ℕ) → AllPass is_blank blanks → SkipsBlanks (blanks ++ rest) rest
skips [] rest all = spelling.none
skips (b ∷ bs) rest all = skip (pass_head is_blank b bs all) (skips bs rest (pass_tail is_blank b bs all))

-- what stands behind the blanks in front
abbrev pub past_blanks : List ℕ → List ℕ
past_blanks [] = []
past_blanks (b ∷ bs) = cond (is_blank b) (past_blanks bs) (b ∷ bs)

pub skipped : {text rest : List ℕ} → SkipsBlanks text rest → past_blanks rest ≡ rest → past_blanks text ≡ rest
skipped spelling.none ends = ends
skipped (skip {b = b} {text = text} is skips) ends =
    ap (λ (v : Bool). cond v (past_blanks text) (b ∷ text)) is ∙ skipped skips ends

no_blank_past : (rest : List ℕ) → BeginsNoBlank rest → past_blanks rest ≡ rest
no_blank_past [] begins = refl
no_blank_past (b ∷ bs) begins = ap (λ (v : Bool). cond v (past_blanks bs) (b ∷ bs)) begins

-- the include stands where the blanks end
pub include_there : (text rest body : List ℕ) (line : ℕ) → AreBlanks text rest line → BeginsNoBlank rest →
    (include : HasInclude text body) → rest ≡ include_text ++ include.line
include_there text rest body line are begins include =
    sym (skipped (skips are.blanks rest are.are) (no_blank_past rest begins))
    ∙ ap past_blanks (sym are.whole) ∙ skipped include.include refl

pub no_prefix : (text rest : List ℕ) (line : ℕ) → AreBlanks text rest line → BeginsNoBlank rest →
    ((l : List ℕ) → rest ≢ include_text ++ l) → IsNoInclude text line
no_prefix text rest line are begins missing = record {
  rest = rest;
  blanks = are;
  no_blank = begins;
  none = λ body include. missing include.line (include_there text rest body line are begins include);
}

pub no_end : (text rest behind : List ℕ) (line : ℕ) → AreBlanks text rest line → BeginsNoBlank rest →
    rest ≡ include_text ++ behind → ((body : List ℕ) → ¬ EndsLine behind body) → IsNoInclude text line
no_end text rest behind line are begins is ends = record {
  rest = rest;
  blanks = are;
  no_blank = begins;
  none = λ body include.
      let same : include.line ≡ behind =
      append_cancel_left include_text include.line behind
      (sym (include_there text rest body line are begins include) ∙ is) in
      ends body (subst (λ (l : List ℕ). EndsLine l body) same include.ends);
}

-- a line's end has one line feed
record IsEnd (text body : List ℕ) : Type 0 where
  front : List ℕ
  whole : text ≡ front ++ body
  feeds : count_by is_line_feed front ≡ 1

end_is : {text body : List ℕ} → EndsLine text body → IsEnd text body
end_is (space {text = text} ends) =
    let is = end_is ends in
    record { front = 32 ∷ is.front; whole = ap (λ (l : List ℕ). 32 ∷ l) is.whole; feeds = is.feeds }
end_is (tab {text = text} ends) =
    let is = end_is ends in
    record { front = 9 ∷ is.front; whole = ap (λ (l : List ℕ). 9 ∷ l) is.whole; feeds = is.feeds }
end_is carriage_return = record { front = 13 ∷ 10 ∷ []; whole = refl; feeds = refl }
end_is line_feed = record { front = 10 ∷ []; whole = refl; feeds = refl }

skip_front : {text rest : List ℕ} → SkipsBlanks text rest → (front : List ℕ) × (text ≡ front ++ rest)
skip_front spelling.none = ([], refl)
skip_front (skip {b = b} is skips) =
    let behind = skip_front skips in (b ∷ behind.0, ap (λ (l : List ℕ). b ∷ l) behind.1)

-- what stands before the text behind the include
pub include_front : (text body : List ℕ) → HasInclude text body → (front : List ℕ) × (text ≡ front ++ body)
include_front text body include =
    let first = skip_front include.include in
    let end = end_is include.ends in (
      first.0 ++ (include_text ++ end.front),
      first.1
          ∙ ap (λ (l : List ℕ). first.0 ++ l)
          (ap (λ (l : List ℕ). include_text ++ l) end.whole ∙ sym (append_assoc include_text end.front body))
          ∙ sym (append_assoc first.0 (include_text ++ end.front) body),
    )

-- the blanks in front are as many as there are
pub same_blanks : (text front start rest behind : List ℕ) → AllPass is_blank front → text ≡ front ++ rest →
    BeginsNoBlank rest → AllPass is_blank start → text ≡ start ++ behind → BeginsNoBlank behind →
    line_after front ≡ line_after start
same_blanks text front start rest behind all is begins every are starts =
    let one : past_blanks text ≡ rest =
    ap past_blanks is ∙ skipped (skips front rest all) (no_blank_past rest begins) in
    let other : past_blanks text ≡ behind =
    ap past_blanks are ∙ skipped (skips start behind every) (no_blank_past behind starts) in
    let same : rest ≡ behind = sym one ∙ other in
    omega (
      arith,
      feeds_behind front rest,
      feeds_behind start behind,
      ap (count_by is_line_feed) (sym is ∙ are),
      ap (count_by is_line_feed) same,
    )

pub has_include : (text rest behind body : List ℕ) (line : ℕ) → AreBlanks text rest line →
    rest ≡ include_text ++ behind → EndsLine behind body → IsBehindInclude text body (line + 1)
has_include text rest behind body line are is ends =
    let end = end_is ends in
    record {
      front = are.blanks ++ (include_text ++ end.front);
      whole = are.whole ∙ ap (λ (l : List ℕ). are.blanks ++ l)
          (is ∙ ap (λ (l : List ℕ). include_text ++ l) end.whole ∙ sym (append_assoc include_text end.front body))
          ∙ sym (append_assoc are.blanks (include_text ++ end.front) body);
      include = record {
        line = behind;
        include = subst (λ (l : List ℕ). SkipsBlanks l (include_text ++ behind)) (sym (are.whole
            ∙ ap (λ (l : List ℕ). are.blanks ++ l) is))
            (skips are.blanks (include_text ++ behind) are.are);
        ends = ends;
      };
      behind =
          let none : count_by is_line_feed include_text ≡ 0 = refl in
          omega (
            arith,
            are.behind,
            feeds_behind are.blanks (include_text ++ end.front),
            feeds_behind include_text
                end.front,
            end.feeds,
            none,
          );
    }

-- spaces and tabs do not matter
pub alike : (text : List ℕ) → EndsAlike text text
alike text body = (λ ends. ends, λ ends. ends)

space_is : (b : ℕ) → is_space b ≡ true → (rest body : List ℕ) → EndsLine rest body → EndsLine (b ∷ rest) body
space_is b is rest body ends = of (b == 32) (b == 9) refl refl is
  where
    of : (p q : Bool) → (b == 32) ≡ p → (b == 9) ≡ q → (p || q) ≡ true → EndsLine (b ∷ rest) body
    of true q here _ _ = subst (λ (x : ℕ). EndsLine (x ∷ rest) body) (sym ((Decides-eqb b 32).0 here)) (space ends)
    of false true _ here _ = subst (λ (x : ℕ). EndsLine (x ∷ rest) body) (sym ((Decides-eqb b 9).0 here)) (tab ends)
    of false false _ _ wrong = absurd (true≢false (sym wrong))

space_was : (b : ℕ) → is_space b ≡ true → (rest : List ℕ) {text body : List ℕ} → text ≡ b ∷ rest → EndsLine text body →
    EndsLine rest body
space_was b is rest {body = body} whole (space ends) =
    let same : rest ≡ _ = cc in subst (λ (l : List ℕ). EndsLine l body) (sym same) ends
space_was b is rest {body = body} whole (tab ends) =
    let same : rest ≡ _ = cc in subst (λ (l : List ℕ). EndsLine l body) (sym same) ends
space_was b is rest whole carriage_return = let same : b ≡ 13 = cc in absurd (true≢false (sym is ∙ ap is_space same))
space_was b is rest whole line_feed = let same : b ≡ 10 = cc in absurd (true≢false (sym is ∙ ap is_space same))

pub alike_behind : (text rest behind : List ℕ) (b : ℕ) → EndsAlike text rest → rest ≡ b ∷ behind → is_space b ≡ true →
    EndsAlike text behind
alike_behind text rest behind b like is blank body = (
  λ ends. space_was b blank behind is ((like body).0 ends),
  λ ends.
      (like body).1
      (subst (λ (l : List ℕ). EndsLine l body) (sym is) (space_is b blank behind body ends)),
)

-- where a line ends
pub ends_here : (text behind : List ℕ) (b : ℕ) → text ≡ b ∷ behind → b ≡ 10 → EndsLine text behind
ends_here text behind b is feed =
    subst (λ (l : List ℕ). EndsLine l behind) (sym (is ∙ ap (λ (x : ℕ). x ∷ behind) feed)) line_feed

pub ends_there : (text rest behind : List ℕ) (b c : ℕ) → text ≡ b ∷ rest → rest ≡ c ∷ behind → b ≡ 13 → c ≡ 10 →
    EndsLine text behind
ends_there text rest behind b c is next return feed =
    let whole : text ≡ 13 ∷ 10 ∷ behind = cc in subst (λ (l : List ℕ). EndsLine l behind) (sym whole) carriage_return

pub no_end_of_none : (text : List ℕ) → text ≡ [] → (body : List ℕ) → ¬ EndsLine text body
no_end_of_none text is body ends = of is ends
  where
    of : {t b : List ℕ} → t ≡ [] → EndsLine t b → ⊥
    of is (space ends) = cc
    of is (tab ends) = cc
    of is carriage_return = cc
    of is line_feed = cc

pub no_end_of_one : (text rest : List ℕ) (b : ℕ) → BeginsNoSpace text → text ≡ b ∷ rest → b ≢ 10 → rest ≡ [] →
    (body : List ℕ) → ¬ EndsLine text body
no_end_of_one text rest b begins is feed last body ends = of (subst BeginsNoSpace is begins) is ends
  where
    of : {t e : List ℕ} → is_space b ≡ false → t ≡ b ∷ rest → EndsLine t e → ⊥
    of begins is (space ends) = let same : b ≡ 32 = cc in true≢false (ap is_space (sym same) ∙ begins)
    of begins is (tab ends) = let same : b ≡ 9 = cc in true≢false (ap is_space (sym same) ∙ begins)
    of begins is carriage_return = cc
    of begins is line_feed = feed (cc)

pub no_end_of_two : (text rest behind : List ℕ) (b c : ℕ) → BeginsNoSpace text → text ≡ b ∷ rest → b ≢ 10 →
    rest ≡ c ∷ behind → ¬ ((b ≡ 13) × (c ≡ 10)) → (body : List ℕ) → ¬ EndsLine text body
no_end_of_two text rest behind b c begins is feed next two body ends = of (subst BeginsNoSpace is begins) is ends
  where
    of : {t e : List ℕ} → is_space b ≡ false → t ≡ b ∷ rest → EndsLine t e → ⊥
    of begins is (space ends) = let same : b ≡ 32 = cc in true≢false (ap is_space (sym same) ∙ begins)
    of begins is (tab ends) = let same : b ≡ 9 = cc in true≢false (ap is_space (sym same) ∙ begins)
    of begins is carriage_return = two (cc, cc)
    of begins is line_feed = feed (cc)
