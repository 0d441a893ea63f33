-- The first limit that is not kept, from the first long name and the first quantity above its limit.
use Rattle.std.proofs.Common.{◌≡◌, Option, None, Some, List, [], ◌∷◌, length, refl, sym}
use Rattle.std.specs.Prelude.{MatchOption}
use Rattle.std.proofs.lemmas.Option.{none-some}
use Rattle.tm_base.specs.declared.place.Place.{Place}
use Rattle.tm_syntax.specs.declared.fault.FaultKind.TheVariants as kind
use Rattle.tm_syntax.specs.declared.fault.Faulty.{Faulty}
use Rattle.tm_syntax.specs.declared.fault.Quantity.{Quantity}
use Rattle.tm_syntax.specs.declared.fault.Quantity.TheVariants as quantity
use Rattle.tm_syntax.specs.declared.tree.Ident.{Ident}
use Rattle.tm_syntax.specs.Tree.{SpecTree}
use Rattle.tm_syntax.specs.Places.{earliest, earlier, text_start}
use Rattle.tm_syntax.specs.Faults.{fault}
use Rattle.tm_syntax.specs.Faults.Limits.{above, all_names, count_of, first_above, long_name, long_names, many}
use Rattle.tm_limits.specs.FirstLimit.{IsFirstLimit}
use Rattle.tm_limits.specs.LongNames.{first_long}

nothing_long : {X : Type 0} (place : X → Place) (xs : List X) → earliest place xs ≡ None → xs ≡ []
nothing_long place [] is = refl
nothing_long place (x ∷ xs) is = absurd (none-some (earlier place x (earliest place xs)) (sym is))

-- where no name is too long
pub none_long : (spec : SpecTree) → first_long (all_names spec) ≡ None → long_names spec ≡ []
none_long spec is = nothing_long (λ (n : Ident). n.place) (long_names spec) is

-- a name that is too long is at fault
pub of_name : (spec : SpecTree) (name : Ident) (f : Faulty) → first_long (all_names spec) ≡ Some name →
    f ≡ fault kind.Limit (above name.place quantity.Name (length name.text)) → IsFirstLimit spec (Some f)
of_name spec name f is told =
    (above name.place quantity.Name (length name.text), long_name name is, told)

-- and otherwise the first quantity above its limit
pub of_counts : (spec : SpecTree) → long_names spec ≡ [] → (o : Option Faulty) →
    MatchOption o (first_above spec ≡ None) (λ f. (what : Quantity) × (first_above spec ≡ Some what)
    × (f ≡ fault kind.Limit (above text_start what (count_of spec what)))) → IsFirstLimit spec o
of_counts spec none None is = (none, is)
of_counts spec none (Some f) found =
    (above text_start found.0 (count_of spec found.0), many found.0 none found.1, found.2)
