-- What `clap` keeps of words and of a budget in its rows.
use Rattle.std.proofs.Common.{◌≡◌, ◌∙◌, ℕ, Bool, cond, true, false, ◌||◌, Option, None, Some, List, [], ◌∷◌, ◌++◌}
use Rattle.std.proofs.Common.{refl, sym, ap, codes, unwrap_or, is_some, option_map, slice_get, subst, true≢false}
use Rattle.std.specs.Prelude.{find}
use Rattle.std.specs.Str.{bytes_eq}
use Rattle.std.specs.Option.{option_and_then}
use Rattle.std.proofs.lemmas.List.{append-nil}
use Rattle.std.proofs.lemmas.Slice.Eq.{bytes_eq-Decides}
use Rattle.clap.specs.Walk.{Row, all_of, at_row, first_of, has_row, more_values, with_values, without}
use Rattle.clap.specs.declared.builder.value_parser.Reading.{Reading}
use Rattle.clap.specs.declared.parser.matches.ValueSource.TheVariants.{CommandLine}
use Rattle.tm_commands.proofs.Expected.{Text}

-- the words that rows keep
abbrev pub words_in : List Row → List Text
words_in rows = unwrap_or (all_of (codes "words") rows) []

-- rows that keep these words and this budget
pub record Keeps (rows : List Row) (kept : List Text) (budget : Option Text) : Type 0 where
  pub words : words_in rows ≡ kept
  pub found : first_of (codes "budget") rows ≡ budget
  pub has : has_row (codes "budget") rows ≡ is_some budget

module _ (how : Reading) where
  -- ---- more words
  abbrev with_words : List Text → List Row → List Row
  with_words vs rows = with_values (codes "words") how CommandLine vs rows

  more_words : (vs : List Text) (rows : List Row) → words_in (with_words vs rows) ≡ words_in rows ++ vs
  more_words vs [] = refl
  more_words vs (r ∷ rows) = go (more_words vs rows) (bytes_eq r.id (codes "words")) refl
    where
      go : words_in (with_words vs rows) ≡ words_in rows ++ vs → (t : Bool) → bytes_eq r.id (codes "words") ≡ t →
          words_in (with_words vs (r ∷ rows)) ≡ words_in (r ∷ rows) ++ vs
      go others true is = rw (is, is) refl
      go others false is = rw (is, is) others

  -- which leave the budget
  words_only : (id : Text) → bytes_eq id (codes "words") ≡ true → bytes_eq id (codes "budget") ≡ false
  words_only id is =
      ap (λ (name : Text). bytes_eq name (codes "budget")) ((bytes_eq-Decides id (codes "words")).0 is)

  same_row : (vs : List Text) (rows : List Row) →
      find (λ (r : Row). bytes_eq r.id (codes "budget")) (with_words vs rows)
      ≡ find (λ (r : Row). bytes_eq r.id (codes "budget")) rows
  same_row vs [] = refl
  same_row vs (r ∷ rows) = go (same_row vs rows) (bytes_eq r.id (codes "words")) refl
    where
      go : find (λ (r : Row). bytes_eq r.id (codes "budget")) (with_words vs rows)
          ≡ find (λ (r : Row). bytes_eq r.id (codes "budget")) rows → (t : Bool) → bytes_eq r.id (codes "words") ≡ t →
          find (λ (r : Row). bytes_eq r.id (codes "budget")) (with_words vs (r ∷ rows))
          ≡ find (λ (r : Row). bytes_eq r.id (codes "budget")) (r ∷ rows)
      go others true is = let other = words_only r.id is in rw (is, other) refl
      go others false is =
          rw (is) (ap (λ (o : Option Row). cond (bytes_eq r.id (codes "budget")) (Some r) o) others)

  same_has : (vs : List Text) (rows : List Row) →
      has_row (codes "budget") (with_words vs rows) ≡ has_row (codes "budget") rows
  same_has vs [] = refl
  same_has vs (r ∷ rows) = go (same_has vs rows) (bytes_eq r.id (codes "words")) refl
    where
      go : has_row (codes "budget") (with_words vs rows) ≡ has_row (codes "budget") rows → (t : Bool) →
          bytes_eq r.id (codes "words") ≡ t →
          has_row (codes "budget") (with_words vs (r ∷ rows)) ≡ has_row (codes "budget") (r ∷ rows)
      go others true is = rw (is) refl
      go others false is = rw (is) (ap (λ (t : Bool). bytes_eq r.id (codes "budget") || t) others)

  pub keeps_words : (vs : List Text) (rows : List Row) (kept : List Text) (budget : Option Text) →
      Keeps rows kept budget → Keeps (with_words vs rows) (kept ++ vs) budget
  keeps_words vs rows kept budget keeps = record {
    words = more_words vs rows ∙ ap (λ (ws : List Text). ws ++ vs) keeps.words;
    found = ap (option_and_then (λ (r : Row). slice_get r.values 0)) (same_row vs rows) ∙ keeps.found;
    has = same_has vs rows ∙ keeps.has;
  }

  -- ---- a budget where there was none
  budget_row : Text → Row
  budget_row word = record {
    id = codes "budget";
    values = word ∷ [];
    count = None;
    source = Some CommandLine;
    reading = how;
  }

  first_or : (a b : Bool) → a || b ≡ false → (a ≡ false) × (b ≡ false)
  first_or true b none = absurd (true≢false none)
  first_or false b none = (refl, none)

  at_end : (change : Row → List Row) (missing rows : List Row) → has_row (codes "budget") rows ≡ false →
      at_row (codes "budget") change missing rows ≡ rows ++ missing
  at_end change missing [] none = refl
  at_end change missing (r ∷ rows) none =
      let here = first_or (bytes_eq r.id (codes "budget")) (has_row (codes "budget") rows) none in
      ap
      (λ (t : Bool). cond t (change r ++ rows) (r ∷ at_row (codes "budget") change missing rows)) here.0
      ∙ ap (λ (rs : List Row). r ∷ rs) (at_end change missing rows here.1)

  abbrev with_budget : Text → List Row → List Row
  with_budget word rows = with_values (codes "budget") how CommandLine (word ∷ []) (without (codes "budget") rows)

  budget_added : (word : Text) (rows : List Row) → has_row (codes "budget") rows ≡ false →
      with_budget word rows ≡ rows ++ budget_row word ∷ []
  unfolding budget_row
  budget_added word rows none =
      ap (with_values (codes "budget") how CommandLine (word ∷ []))
      (at_end (λ (r : Row). []) [] rows none ∙ append-nil rows)
      ∙ at_end (more_values CommandLine (word ∷ [])) (budget_row word ∷ []) rows none

  same_words : (word : Text) (rows : List Row) → words_in (rows ++ budget_row word ∷ []) ≡ words_in rows
  unfolding budget_row
  same_words word [] = refl
  same_words word (r ∷ rows) = go (same_words word rows) (bytes_eq r.id (codes "words"))
    where
      go : words_in (rows ++ budget_row word ∷ []) ≡ words_in rows → (t : Bool) →
          unwrap_or (option_map (λ (r : Row). r.values)
          (cond t (Some r) (find (λ (r : Row). bytes_eq r.id (codes "words")) (rows ++ budget_row word ∷ [])))) []
          ≡ unwrap_or (option_map (λ (r : Row). r.values)
          (cond t (Some r) (find (λ (r : Row). bytes_eq r.id (codes "words")) rows))) []
      go others true = refl
      go others false = others

  budget_found : (word : Text) (rows : List Row) → has_row (codes "budget") rows ≡ false →
      find (λ (r : Row). bytes_eq r.id (codes "budget")) (rows ++ budget_row word ∷ []) ≡ Some (budget_row word)
  unfolding budget_row
  budget_found word [] none = refl
  budget_found word (r ∷ rows) none =
      let here = first_or (bytes_eq r.id (codes "budget")) (has_row (codes "budget") rows) none in
      ap
      (λ (t : Bool). cond t (Some r)
      (find (λ (r : Row). bytes_eq r.id (codes "budget")) (rows ++ budget_row word ∷ []))) here.0
      ∙ budget_found word rows here.1

  has_budget : (word : Text) (rows : List Row) → has_row (codes "budget") (rows ++ budget_row word ∷ []) ≡ true
  unfolding budget_row
  has_budget word [] = refl
  has_budget word (r ∷ rows) = go (has_budget word rows) (bytes_eq r.id (codes "budget"))
    where
      go : has_row (codes "budget") (rows ++ budget_row word ∷ []) ≡ true → (t : Bool) →
          t || has_row (codes "budget") (rows ++ budget_row word ∷ []) ≡ true
      go others true = refl
      go others false = others

  pub keeps_budget : (word : Text) (rows : List Row) (kept : List Text) → Keeps rows kept None →
      Keeps (with_budget word rows) kept (Some word)
  unfolding budget_row
  keeps_budget word rows kept keeps =
      subst (λ (rs : List Row). Keeps rs kept (Some word)) (sym (budget_added word rows keeps.has)) (record {
        words = same_words word rows ∙ keeps.words;
        found = ap (option_and_then (λ (r : Row). slice_get r.values 0)) (budget_found word rows keeps.has);
        has = has_budget word rows;
      })
