-- The arguments of a command, by what was found of its first words and what the others give.
use Rattle.std.proofs.Common.{◌≡◌, ◌∙◌, ℕ, Bool, cond, true, false, not, Option, None, Some, List, [], ◌∷◌, ◌++◌}
use Rattle.std.proofs.Common.{refl, sym, ap, ap₂, append_assoc, option_map, ◌&&◌, is_some}
use Rattle.std.specs.List.{list_all}
use Rattle.std.specs.Option.{option_and_then}
use Rattle.std.specs.Bool.{then_some}
use Rattle.std.proofs.lemmas.List.{append-nil}
use Rattle.std.proofs.lemmas.List.Folds.{list_all-append}
use Rattle.tm_commands.specs.Words.{Arguments, Split, arguments_as, arguments_of, arguments_with, budget_before}
use Rattle.tm_commands.specs.Words.{greatest_budget, is_filled, number_of, one_budget, split_words, with_budget}
use Rattle.tm_commands.specs.Words.{with_word}
use Rattle.tm_commands.specs.Inner.Splitting.{asked, arguments_found}

abbrev pub Text : Type 0
Text = List ℕ

-- what was found last and is not used yet: positional words, or the word of a budget
pub data Pending : Type 0 where
  words : List Text → Pending
  value : Text → Pending

-- the budget, where none of these numbers is another one
abbrev pub budget_only : Option ℕ → List ℕ → Option (Option ℕ)
budget_only number [] = option_map (λ n. Some n) number
budget_only number (n ∷ ns) = None

-- the budget, from the word that was found and the numbers of others
abbrev pub budget_with : Option Text → List ℕ → Option (Option ℕ)
budget_with None numbers = one_budget numbers
budget_with (Some word) numbers = budget_only (number_of greatest_budget word) numbers

-- words that were used, a budget that was found, words that are pending, and the others, split
abbrev pub from_split : List Text → Option Text → List Text → Split → Option Arguments
from_split used budget pending s = option_and_then
    (λ b. then_some (list_all is_filled (pending ++ s.positional))
    (arguments_with (used ++ (pending ++ s.positional)) b))
    (budget_with budget s.budgets)

abbrev pub from : List Text → Option Text → List Text → Option Split → Option Arguments
from used budget pending = option_and_then (from_split used budget pending)

-- so with whatever is pending
abbrev pub expected : List Text → Option Text → Pending → Option Split → Option Arguments
expected used budget (words ws) s = from used budget ws s
expected used budget (value word) s = from used budget [] (budget_before word s)

-- what is pending can be used
abbrev pub can_use : Option Text → Pending → Bool
can_use budget (words ws) = list_all is_filled ws
can_use budget (value word) = not (is_some budget)

-- what was used, and the budget that was found, after that
abbrev pub used_after : List Text → Pending → List Text
used_after used (words ws) = used ++ ws
used_after used (value word) = used

abbrev pub budget_after : Option Text → Pending → Option Text
budget_after budget (words ws) = budget
budget_after budget (value word) = Some word

none_of : {X Y : Type 0} (o : Option X) → option_and_then (λ (x : X). let none : Option Y = None in none) o ≡ None
none_of None = refl
none_of (Some x) = refl

same_of : {X : Type 0} (t : Bool) (x : X) → cond t x x ≡ x
same_of true x = refl
same_of false x = refl

-- ---- words that are used
used_split : (used : List Text) (budget : Option Text) (ws : List Text) (s : Split) (t : Bool) →
    list_all is_filled ws ≡ t →
    cond t (from_split (used ++ ws) budget [] s) None ≡ from_split used budget ws s
used_split used budget ws s true all =
    ap₂
    (λ (t : Bool) (all_words : List Text). option_and_then
    (λ b. then_some t (arguments_with all_words b))
    (budget_with budget s.budgets))
    (sym (list_all-append is_filled ws s.positional ∙ ap (λ t. t && list_all is_filled s.positional) all))
    (append_assoc used ws s.positional)
used_split used budget ws s false all =
    sym (ap
    (λ (t : Bool). option_and_then
    (λ b. then_some t (arguments_with (used ++ (ws ++ s.positional)) b))
    (budget_with budget s.budgets))
    (list_all-append is_filled ws s.positional ∙ ap (λ t. t && list_all is_filled s.positional) all)
    ∙ none_of (budget_with budget s.budgets))

used_words : (used : List Text) (budget : Option Text) (ws : List Text) (o : Option Split) →
    cond (list_all is_filled ws) (from (used ++ ws) budget [] o) None ≡ from used budget ws o
used_words used budget ws None = same_of (list_all is_filled ws) None
used_words used budget ws (Some s) = used_split used budget ws s (list_all is_filled ws) refl

-- one more word that is pending
more_pending : (used : List Text) (budget : Option Text) (ws : List Text) (word : Text) (o : Option Split) →
    from used budget (ws ++ word ∷ []) o
    ≡ from used budget ws (option_map (with_word word) o)
more_pending used budget ws word None = refl
more_pending used budget ws word (Some s) =
    ap
    (λ (rest : List Text). option_and_then
    (λ b. then_some (list_all is_filled rest) (arguments_with (used ++ rest) b))
    (budget_with budget s.budgets))
    (append_assoc ws (word ∷ []) s.positional)

-- ---- a budget that is used
module _ (used ws : List Text) (word : Text) where
  of_number : (number : Option ℕ) → Option Split → Option Arguments
  of_number number = option_and_then (λ s. option_and_then
      (λ b. then_some (list_all is_filled (ws ++ s.positional)) (arguments_with (used ++ (ws ++ s.positional)) b))
      (budget_only number s.budgets))

  no_number : (s : Split) (numbers : List ℕ) → option_and_then
      (λ b. then_some (list_all is_filled (ws ++ s.positional)) (arguments_with (used ++ (ws ++ s.positional)) b))
      (budget_only None numbers) ≡ None
  no_number s [] = refl
  no_number s (n ∷ ns) = refl

  one_number : (k : ℕ) (numbers : List ℕ) → budget_only (Some k) numbers ≡ one_budget (k ∷ numbers)
  one_number k [] = refl
  one_number k (n ∷ ns) = refl

  first_budget : (number : Option ℕ) (o : Option Split) →
      of_number number o
      ≡ from used None ws
      (option_and_then (λ n. option_map (with_budget n) o) number)
  unfolding of_number
  first_budget None None = refl
  first_budget None (Some s) = no_number s s.budgets
  first_budget (Some k) None = refl
  first_budget (Some k) (Some s) =
      ap
      (option_and_then
      (λ b. then_some (list_all is_filled (ws ++ s.positional)) (arguments_with (used ++ (ws ++ s.positional)) b)))
      (one_number k s.budgets)

  pub used_budget : (o : Option Split) → from used (Some word) ws o ≡ from used None ws (budget_before word o)
  unfolding of_number
  used_budget o = first_budget (number_of greatest_budget word) o

  -- a second one
  second_budget : (found : Text) (number : Option ℕ) (o : Option Split) →
      from used (Some found) ws
      (option_and_then (λ n. option_map (with_budget n) o) number) ≡ None
  second_budget found None o = refl
  second_budget found (Some k) None = refl
  second_budget found (Some k) (Some s) = refl

-- ---- whatever is pending
-- it is used
pub use_pending : (used : List Text) (budget : Option Text) (p : Pending) (o : Option Split) →
    cond (can_use budget p) (from (used_after used p) (budget_after budget p) [] o) None ≡ expected used budget p o
use_pending used budget (words ws) o = used_words used budget ws o
use_pending used None (value word) o = used_budget used [] word o
use_pending used (Some found) (value word) o =
    sym (second_budget used [] word found (number_of greatest_budget word) o)

-- or is no use, where nothing else is read
pub expects_none : (used : List Text) (budget : Option Text) (p : Pending) → expected used budget p None ≡ None
expects_none used budget (words ws) = refl
expects_none used budget (value word) = ap (from used budget []) (none_of (number_of greatest_budget word))

-- one more word behind words
pub word_behind_words : (used : List Text) (budget : Option Text) (ws : List Text) (word : Text) (o : Option Split) →
    expected used budget (words (ws ++ word ∷ [])) o
    ≡ expected used budget (words ws) (option_map (with_word word) o)
word_behind_words used budget ws word o = more_pending used budget ws word o

-- one behind a budget
pub word_behind_value : (used : List Text) (budget : Option Text) (found word : Text) (o : Option Split) →
    cond (can_use budget (value found))
    (expected (used_after used (value found)) (budget_after budget (value found)) (words (word ∷ [])) o) None
    ≡ expected used budget (value found) (option_map (with_word word) o)
word_behind_value used budget found word o =
    ap (λ (b : Option Arguments). cond (can_use budget (value found)) b None)
    (more_pending used (Some found) [] word o)
    ∙ use_pending used budget (value found) (option_map (with_word word) o)

-- a budget behind whatever is pending, where there was none
pub budget_behind : (used : List Text) (word : Text) (o : Option Split) →
    from used (Some word) [] o ≡ from used None [] (budget_before word o)
budget_behind used word o = used_budget used [] word o

pub no_second_budget : (used : List Text) (found word : Text) (o : Option Split) →
    from used (Some found) [] (budget_before word o) ≡ None
no_second_budget used found word o = second_budget used [] word found (number_of greatest_budget word) o

-- ---- all of it
-- at the end of the words
asked_alone : (used : List Text) (budget : Option Text) →
    arguments_found used budget
    ≡ option_and_then (λ b. Some (arguments_with (used ++ []) b))
    (budget_with budget [])
asked_alone used None = ap (λ (ws : List Text). Some (arguments_with ws None))
    (sym (append-nil used))
asked_alone used (Some word) = go (number_of greatest_budget word)
  where
    go : (number : Option ℕ) →
        option_map (arguments_with used)
        (option_map (λ n. Some n) number)
        ≡ option_and_then (λ b. Some (arguments_with (used ++ []) b))
        (budget_only number [])
    go None = refl
    go (Some n) =
        ap (λ (ws : List Text). Some (arguments_with ws (Some n)))
        (sym (append-nil used))

pub found_alone : (used : List Text) (budget : Option Text) →
    arguments_found used budget ≡ from used budget [] (Some (record { positional = []; budgets = [] }))
found_alone used budget = asked_alone used budget

-- and at their start
pub expected_whole : (ws : List Text) → expected [] None (words []) (split_words false ws) ≡ arguments_of ws
expected_whole ws = go (split_words false ws)
  where
    go : (o : Option Split) → from [] None [] o ≡ option_and_then arguments_as o
    go None = refl
    go (Some s) = refl
