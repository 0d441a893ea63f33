-- The scope of some declarations, from the last one on.
use Rattle.std.proofs.Common.{◌≡◌, ℕ, ◌+◌, ◌<◌, Option, None, Some, List, [], ◌∷◌, ◌++◌, length, drop, get_or, refl, sym, ap, ◌∙◌, subst, arith}
use Rattle.std.proofs.lemmas.List.{at_drop_more, drop_all}
use Rattle.std.specs.Option.{option_map, option_or}
use Rattle.tm_syntax.specs.Scopes.Declared as text
use Rattle.tm_syntax.specs.Places.{earliest_of}
use Rattle.tm_syntax.specs.Faults.Marks.{Mark, first_mark}
use Rattle.tm_syntax.specs.Faults.Names.{repeats}
use Rattle.tm_syntax.proofs.Places.{earliest-append}
use Rattle.tm_names.specs.declared.sorts.sort.Declared.{Declared}
use Rattle.tm_names.specs.declared.scopes.mark.NameMark.{NameMark}
use Rattle.tm_names.specs.declared.scopes.names.Names.{Names}
use Rattle.tm_names.specs.declared.scopes.scope.Scope.{Scope}
use Rattle.tm_names.specs.Sorts.{all_declared, declared_of, first_declared}
use Rattle.tm_names.specs.ScopeNames.{FindsWithin, IsScope, IsScopeWithin, found, mark_of, repeats_of}

-- what is found of the declarations from an index on, and of those around
pub record IsFrom (ds : List Declared) (left : ℕ) (names : Names) (outer : Scope) (repeat : Option NameMark)
    (around : List text.Declared) : Type 0 where
  pub finds : FindsWithin names outer.names (all_declared (drop left ds) ++ around)
  pub repeats : option_map mark_of repeat ≡ first_mark (repeats (all_declared (drop left ds) ++ around))

-- at the beginning there are those around alone
pub scope_begins : (ds : List Declared) (left : ℕ) (names : Names) (outer : Scope) (repeat : Option NameMark)
    (around : List text.Declared) → left ≡ length ds → ((name : List ℕ) → found names.first.entries name ≡ None) →
    repeat ≡ outer.repeat → IsScope outer around → IsFrom ds left names outer repeat around
scope_begins ds left names outer repeat around all empty same is = record {
  finds = λ name.
      ap (λ o. option_or o (found outer.names.first.entries name)) (empty name)
      ∙ is.finds name
      ∙ ap (λ xs. first_declared (all_declared xs ++ around) name) (sym nothing);
  repeats =
      ap (option_map mark_of) same
      ∙ is.repeat
      ∙ ap (λ xs. first_mark (repeats (all_declared xs ++ around))) (sym nothing);
}
  where
    nothing : drop left ds ≡ []
    nothing = drop_all left ds (omega (arith, all))

-- one declaration more in front
pub scope_grows : (ds : List Declared) (left more : ℕ) (d : Declared) (old new : Names) (outer : Scope)
    (here before repeat : Option NameMark) (around : List text.Declared) → more ≡ left + 1 → left < length ds →
    d ≡ get_or ds left d → IsFrom ds more old outer before around →
    (FindsWithin old outer.names (all_declared (drop more ds) ++ around) →
    FindsWithin new outer.names (declared_of d ∷ (all_declared (drop more ds) ++ around))
    × (option_map mark_of here ≡ first_mark (repeats_of (declared_of d) (all_declared (drop more ds) ++ around)))) →
    option_map mark_of repeat
    ≡ earliest_of (λ (m : Mark). m.place) (option_map mark_of here) (option_map mark_of before) →
    IsFrom ds left new outer repeat around
scope_grows ds left more d old new outer here before repeat around next within is so_far noted joined = record {
  finds = subst (λ (all : List text.Declared). FindsWithin new outer.names all) (sym split) both.0;
  repeats =
      joined
      ∙ (λ i. earliest_of (λ (m : Mark). m.place) (both.1 i) (so_far.repeats i))
      ∙ sym (earliest-append (λ (m : Mark). m.place) (repeats_of (declared_of d) others) (repeats others))
      ∙ ap (λ xs. first_mark (repeats xs)) (sym split);
}
  where
    others : List text.Declared
    others = all_declared (drop more ds) ++ around

    both : FindsWithin new outer.names (declared_of d ∷ others)
        × (option_map mark_of here ≡ first_mark (repeats_of (declared_of d) others))
    both = noted so_far.finds

    split : all_declared (drop left ds) ++ around ≡ declared_of d ∷ others
    split =
        at_drop_more (λ xs. all_declared xs ++ around) ds left d within
        ∙ ap (λ x. declared_of x ∷ (all_declared (drop (left + 1) ds) ++ around)) (sym is)
        ∙ ap (λ n. declared_of d ∷ (all_declared (drop n ds) ++ around)) (sym next)

-- at the end there are all
pub scope_ends : (ds : List Declared) (left : ℕ) (scope outer : Scope) (around : List text.Declared) → left ≡ 0 →
    IsFrom ds left scope.names outer scope.repeat around → IsScopeWithin scope outer (all_declared ds ++ around)
scope_ends ds left scope outer around none is = record {
  finds = subst (λ (xs : List Declared). FindsWithin scope.names outer.names (all_declared xs ++ around)) all is.finds;
  repeat = is.repeats ∙ ap (λ xs. first_mark (repeats (all_declared xs ++ around))) all;
}
  where
    all : drop left ds ≡ ds
    all = ap (λ n. drop n ds) none

-- the declarations of a scope alone
pub scope_alone : (scope outer : Scope) (ds : List text.Declared) →
    ((name : List ℕ) → found outer.names.first.entries name ≡ None) → IsScopeWithin scope outer ds → IsScope scope ds
scope_alone scope outer ds empty is = record {
  finds = λ name. by name (found scope.names.first.entries name) ∙ is.finds name;
  repeat = is.repeat;
}
  where
    by : (name : List ℕ) (o : Option text.Declared) → o ≡ option_or o (found outer.names.first.entries name)
    by name o = sym (ap (option_or o) (empty name) ∙ none_behind o)
      where
        none_behind : (o : Option text.Declared) → option_or o None ≡ o
        none_behind None = refl
        none_behind (Some d) = refl
