-- The values so far, and those of the variables that are left.
use Rattle.std.proofs.Common.{◌≡◌, ℕ, ◌+◌, ◌<◌, Option, None, Some, List, [], ◌∷◌, ◌++◌, length, drop, get_or, refl, sym, ap, ◌∙◌, append_assoc, add-one}
use Rattle.std.proofs.Math.Seq.{drop-cons}
use Rattle.std.specs.Option.{option_map}
use Rattle.tm_syntax.specs.declared.design.Var.{Var}
use Rattle.tm_syntax.specs.Tree.{SpecTree}
use Rattle.tm_syntax.specs.Design.Sizes.{type_size}
use Rattle.tm_sem.specs.First.{value_or_choice, first_values}
use Rattle.tm_typing.specs.HasType.{IsSized}
use Rattle.tm_states.specs.States.{AreSized}

one_more_value : (values : List ℕ) (n : ℕ) (ns : Option (List ℕ)) →
    option_map (λ ms. values ++ ms) (option_map (λ ms. n ∷ ms) ns) ≡ option_map (λ ms. (values ++ n ∷ []) ++ ms) ns
one_more_value values n None = refl
one_more_value values n (Some ms) = ap Some (sym (append_assoc values (n ∷ []) ms))

module _ (spec : SpecTree) (vars : List Var) (i : ℕ) (v : Var) (inside : i < length vars) (here : v ≡ get_or vars i v)
  where
    pub from_here : drop i vars ≡ v ∷ drop (i + 1) vars
    from_here = rw (add-one, drop-cons vars i v, ← here) refl

    -- the type of the first of the variables that are left has a width that numbers can have, and so have the others
    pub sized_here : AreSized (drop i vars) → IsSized v.ty × AreSized (drop (i + 1) vars)
    sized_here all = rw from_here at all

    -- a variable has its value, and the others theirs
    pub value_and_others : (values choices others : List ℕ) (n : ℕ) →
        Some (n, others) ≡ value_or_choice v.init (type_size spec v.ty) choices →
        option_map (λ ns. values ++ ns) (first_values spec (drop i vars) choices)
        ≡ option_map (λ ns. (values ++ n ∷ []) ++ ns) (first_values spec (drop (i + 1) vars) others)
    value_and_others values choices others n is =
        rw (from_here, ← is) (one_more_value values n (first_values spec (drop (i + 1) vars) others))

    -- a variable without a value leaves none to the whole
    pub no_value : (choices : List ℕ) → None ≡ value_or_choice v.init (type_size spec v.ty) choices →
        first_values spec (drop i vars) choices ≡ None
    no_value choices is = rw (from_here, ← is) refl

-- where nothing was found, there is no value
pub none_chosen : {A B : Type 0} (f : A → B) (found : Option A) (chosen : Option B) → option_map f found ≡ chosen →
    found ≡ None → None ≡ chosen
none_chosen f found chosen is none = sym (ap (option_map f) none) ∙ is
