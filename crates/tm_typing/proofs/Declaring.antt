-- What a scope declares a name as: where no name is declared twice, there is one declaration of each.
use Rattle.std.proofs.Common.{◌≡◌, ℕ, Bool, true, Option, None, Some, List, [], ◌∷◌, ◌⊎◌, inl, inr, refl, sym, ◌∙◌, subst, map, rules}
use Rattle.std.specs.Prelude.{nat_eq}
use Rattle.std.specs.Cmp.Lexicographic.{pointwise}
use Rattle.std.specs.List.{filter}
use Rattle.std.specs.Option.{option_map}
use Rattle.tm_syntax.specs.declared.tree.Ident.{Ident}
use Rattle.tm_syntax.specs.Scopes.Names.{is_spelled}
use Rattle.tm_syntax.specs.Scopes.Declared.{Sort, Declared, sort_in}
use Rattle.tm_syntax.specs.Places.{earliest}
use Rattle.tm_syntax.specs.Faults.Marks.{named}
use Rattle.tm_syntax.specs.Faults.Names.{repeats, later_name}
use Rattle.tm_typing.proofs.Fitting.{not_empty, both_empty}
use Rattle.tm_typing.proofs.Listed.{In, is_first_or_later, in_filter, of_filter, in_earliest, one_thing, no_thing}

-- a name that is spelled so has these bytes
pub spelled : (bytes : List ℕ) (name : Ident) → is_spelled bytes name ≡ true → bytes ≡ name.text
spelled bytes name e = search rules

pub same_spelling : (bytes : List ℕ) → pointwise nat_eq bytes bytes ≡ true
same_spelling bytes = search rules

-- of names that are spelled alike each is spelled as the other
pub alike : (bytes : List ℕ) (a b : Ident) → is_spelled bytes a ≡ true → is_spelled bytes b ≡ true →
    is_spelled a.text b ≡ true
alike bytes a b ea eb = subst (λ text. is_spelled text b ≡ true) (spelled bytes a ea) eb

pub alike_back : (a b : Ident) → is_spelled a.text b ≡ true → is_spelled b.text a ≡ true
alike_back a b e = subst (λ text. pointwise nat_eq text a.text ≡ true) (spelled a.text b e) (same_spelling a.text)

-- where nothing is mapped there was nothing
none_mapped : {A B : Type 0} (f : A → B) (xs : List A) → map f xs ≡ [] → xs ≡ []
none_mapped f [] e = refl
none_mapped f (x ∷ xs) e = not_empty e

-- where nothing is filtered nothing passes
none_passes : {A X : Type 0} (p : A → Bool) (x : A) (xs : List A) → filter p xs ≡ [] → In x xs → p x ≡ true → X
none_passes {X = X} p x xs none i e = nowhere (subst (λ l. In x l) none (in_filter p xs i e))
  where
    nowhere : In x [] → X
    nowhere i = elim i [ ]

-- where no name is declared twice, of one name there is one declaration
pub declared_once : (ds : List Declared) (x y : Declared) → repeats ds ≡ [] → In x ds → In y ds →
    is_spelled x.name.text y.name ≡ true → x ≡ y
declared_once [] x y none ix iy e = elim ix [ ]
declared_once (d ∷ ds) x y none ix iy e =
    by (is_first_or_later ds ix) (is_first_or_later ds iy) (declared_once ds x y rest.1)
  where
    rest : (filter (λ (e : Declared). is_spelled d.name.text e.name) ds ≡ []) × (repeats ds ≡ [])
    rest =
        let parts = both_empty
        (map (λ (e : Declared). named (later_name d.name e.name))
        (filter (λ (e : Declared). is_spelled d.name.text e.name) ds)) (repeats ds) none in (
          none_mapped (λ (e : Declared). named (later_name d.name e.name))
              (filter (λ (e : Declared). is_spelled d.name.text e.name) ds) parts.0,
          parts.1,
        )

    once : (z : Declared) → In z ds → is_spelled d.name.text z.name ≡ true → x ≡ y
    once z i same = none_passes (λ (e : Declared). is_spelled d.name.text e.name) z ds rest.0 i same

    by : (d ≡ x) ⊎ In x ds → (d ≡ y) ⊎ In y ds → (In x ds → In y ds → is_spelled x.name.text y.name ≡ true → x ≡ y) →
        x ≡ y
    by (inl dx) (inl dy) deeper = sym dx ∙ dy
    by (inl dx) (inr iy) deeper = once y iy (subst (λ (z : Declared). is_spelled z.name.text y.name ≡ true) (sym dx) e)
    by (inr ix) (inl dy) deeper =
        once x ix (alike_back x.name d.name (subst (λ (z : Declared). is_spelled x.name.text z.name ≡ true) (sym dy) e))
    by (inr ix) (inr iy) deeper = deeper ix iy e

-- what a scope declares a name as stands there
pub record IsDeclared (scope : List Declared) (name : List ℕ) (found : Sort) : Type 0 where
  pub at : Declared
  pub is : In at scope
  pub spelled : is_spelled name at.name ≡ true
  pub sort : at.sort ≡ found

pub declared_as : (scope : List Declared) (name : List ℕ) (sort : Sort) → sort_in scope name ≡ Some sort →
    IsDeclared scope name sort
declared_as scope name sort e = by (earliest (λ d. d.name.place) (filter (λ d. is_spelled name d.name) scope)) refl e
  where
    by : (o : Option Declared) → earliest (λ (d : Declared). d.name.place)
        (filter (λ (d : Declared). is_spelled name d.name) scope) ≡ o →
        option_map (λ (d : Declared). d.sort) o ≡ Some sort → IsDeclared scope name sort
    by None is found = no_thing found
    by (Some d) is found =
        let i = in_earliest (λ (d : Declared). d.name.place) (filter (λ (d : Declared). is_spelled name d.name) scope)
        is in
        let passes = of_filter (λ (d : Declared). is_spelled name d.name) scope i in
        record { at = d; is = passes.0; spelled = passes.1; sort = one_thing refl found }
