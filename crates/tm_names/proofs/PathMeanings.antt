-- What a path means, seen from one of its names.
use Rattle.std.proofs.Common.{◌≡◌, ℕ, zero, suc, ◌-◌, ◌<◌, Option, Some, List, [], ◌∷◌, length, drop, get_or, slice_get, refl, sym, ap, ◌∙◌, arith}
use Rattle.std.proofs.lemmas.Option.{same_Some}
use Rattle.tm_syntax.specs.declared.tree.Ident.{Ident}
use Rattle.tm_syntax.specs.Tree.{SpecTree}
use Rattle.tm_syntax.specs.Scopes.Declared.{Sort, leading_on, members, path_meaning, sort_in}
use Rattle.tm_names.specs.Inner.Meanings.{meaning_from}

-- a path means what it does from the sort of its first name
pub path_meaning-from : (spec : SpecTree) (look : List ℕ → Option Sort) (name : Ident) (names : List Ident) →
    path_meaning spec look (name ∷ names) ≡ meaning_from spec (look name.text) (name ∷ names)
path_meaning-from spec look name [] = refl
path_meaning-from spec look name (next ∷ names) = refl

-- a path means what it does from the sort of its first name, which is looked up
pub whole_path : (spec : SpecTree) (look : List ℕ → Option Sort) (path : List Ident) (name : Ident) →
    name ≡ get_or path 0 name → meaning_from spec (look name.text) path ≡ path_meaning spec look path
whole_path spec look [] name is = refl
whole_path spec look (a ∷ rest) name is =
    ap (λ (n : Ident). meaning_from spec (look n.text) (a ∷ rest)) is ∙ sym (path_meaning-from spec look a rest)

-- a path that has two more names leads on from the first one
two_names : (spec : SpecTree) (sort : Option Sort) (path : List Ident) (k : ℕ) (name next : Ident) →
    suc k < length path → name ≡ get_or path k name → slice_get path (suc k) ≡ Some next →
    meaning_from spec sort (drop k path)
    ≡ leading_on spec (λ t. meaning_from spec (sort_in (members t) next.text) (drop (suc k) path)) name sort
two_names spec sort (a ∷ b ∷ rest) zero name next within is_name is_next =
    (λ i. leading_on spec (λ t. path_meaning-from spec (sort_in (members t)) b rest i) (sym is_name i) sort)
    ∙ (λ i. leading_on spec (λ t. meaning_from spec (sort_in (members t) (same_Some b next is_next i).text) (b ∷ rest))
    name sort)
two_names spec sort (a ∷ b ∷ rest) (suc k) name next within is_name is_next =
    two_names spec sort (b ∷ rest) k name next (omega arith) is_name is_next
two_names spec sort (a ∷ []) k name next within is_name is_next = absurd (omega arith)
two_names spec sort [] k name next within is_name is_next = absurd (omega arith)

-- likewise, where the index is that of the second one
pub leads_on : (spec : SpecTree) (sort : Option Sort) (path : List Ident) (index : ℕ) (name next : Ident) →
    0 < index → index < length path → name ≡ get_or path (index - 1) name → slice_get path index ≡ Some next →
    meaning_from spec sort (drop (index - 1) path)
    ≡ leading_on spec (λ t. meaning_from spec (sort_in (members t) next.text) (drop index path)) name sort
leads_on spec sort path zero name next begun within is_name is_next = absurd (omega arith)
leads_on spec sort path (suc k) name next begun within is_name is_next =
    let less : suc k - 1 ≡ k = omega arith in
    ap (λ n. meaning_from spec sort (drop n path)) less
    ∙ two_names spec sort path k name next within (is_name ∙ ap (λ n. get_or path n name) less) is_next

-- what stands at an index within a list
pub there : {X : Type 0} (xs : List X) (k : ℕ) → k < length xs → (x : X) × (slice_get xs k ≡ Some x)
there [] k within = absurd (omega arith)
there (x ∷ xs) zero within = (x, refl)
there (x ∷ xs) (suc k) within = there xs k (omega arith)
