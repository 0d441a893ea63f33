use Rattle.std.proofs.Common.{◌≡◌, Option, List, ◌++◌, sym, ◌∙◌}
use Rattle.tm_base.specs.declared.place.Place.{Place}
use Rattle.tm_syntax.specs.Places.{earliest_of}
use Rattle.tm_syntax.proofs.Places.{earliest-append}
use Rattle.tm_types.specs.Firsts.{first_of}
use Rattle.tm_types.proofs.firsts.earlier_place.Goals as goal

-- the first that two lists hold
first_of_both : (first second result : Option Place) → result ≡ earliest_of (λ (at : Place). at) first second →
    (xs ys : List Place) → first ≡ first_of xs → second ≡ first_of ys → result ≡ first_of (xs ++ ys)
first_of_both first second result joined xs ys one two =
    joined
    ∙ (λ i. earliest_of (λ (at : Place). at) (one i) (two i))
    ∙ sym (earliest-append (λ (at : Place). at) xs ys)

pub returns-clause-joined : goal.returns-clause-joined
returns-clause-joined c = first_of_both c.args.first c.args.second c.choose_earlier.result c.choose_earlier.ensures
