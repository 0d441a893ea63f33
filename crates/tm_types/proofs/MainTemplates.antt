-- A template `main` is there where its number is found.
use Rattle.std.proofs.Common.{◌≡◌, ℕ, suc, Bool, true, false, cond, Option, None, Some, List, [], ◌∷◌, find, position, is_some, codes, if◌then◌else◌, refl, sym, ap, ◌∙◌}
use Rattle.std.specs.Option.{option_map}
use Rattle.tm_syntax.specs.declared.fault.Detail.TheVariants as detail
use Rattle.tm_syntax.specs.Tree.{SpecTree, TemplateTree}
use Rattle.tm_syntax.specs.Places.{text_start}
use Rattle.tm_syntax.specs.Scopes.Names.{is_spelled, template_number}
use Rattle.tm_syntax.specs.Faults.Marks.{Mark, first_mark}
use Rattle.tm_syntax.specs.Faults.Names.{unknown_main}
use Rattle.tm_scope.proofs.Positions.{position-cons}

-- an element that passes is there where the first index at which one does is
is_some-position : {X : Type 0} (p : X → Bool) (xs : List X) → is_some (find p xs) ≡ is_some (position p xs)
is_some-position p [] = refl
is_some-position p (x ∷ xs) =
    by (p x) (find p xs) (position p xs) (is_some-position p xs) ∙ ap is_some (sym (position-cons p x xs))
  where
    one_on : (k : Option ℕ) → is_some k ≡ is_some (option_map suc k)
    one_on None = refl
    one_on (Some k) = refl

    by : (here : Bool) (found : Option _) (index : Option ℕ) → is_some found ≡ is_some index →
        is_some (cond here (Some x) found) ≡ is_some (cond here (Some 0) (option_map suc index))
    by true found index same = refl
    by false found index same = same ∙ one_on index

-- the fault that there is no template `main`, given whether there is one
abbrev pub unless_known : Bool → List Mark
unless_known known =
    if known then [] else (record { place = text_start; detail = detail.Named (codes "main") } ∷ [])

-- that fault is told where no number is found
pub main_found : (spec : SpecTree) (bytes : List ℕ) (number : Option ℕ) → bytes ≡ codes "main" →
    number ≡ template_number spec bytes → first_mark (unless_known (is_some number)) ≡ first_mark (unknown_main spec)
main_found spec bytes number main is =
    ap (λ known. first_mark (unless_known known))
    (ap is_some (is ∙ ap (template_number spec) main)
    ∙ sym (is_some-position (λ (t : TemplateTree). is_spelled (codes "main") t.name) spec.templates))
