-- What the arguments of an instance stand for.
use Rattle.std.proofs.Common.{◌≡◌, ℕ, zero, suc, ◌<◌, Bool, true, false, Option, None, Some, List, [], ◌∷◌, ◌++◌, length, map, slice_get, refl, sym, ap, ◌∙◌, arith, cond}
use Rattle.std.specs.Prelude.{◌||◌, position}
use Rattle.std.specs.List.{AllByRecursion, cons_option, filter_map, list_any}
use Rattle.std.specs.Option.{option_map, option_to_list}
use Rattle.std.proofs.lemmas.List.Quantifiers.{position-Some}
use mathlib.Core.Bool.{true≢false}
use Rattle.tm_syntax.specs.declared.tree.Ident.{Ident}
use Rattle.tm_syntax.specs.declared.tree.Port.{Port}
use Rattle.tm_syntax.specs.Tree.{InstanceTree, TemplateTree}
use Rattle.tm_syntax.specs.Scopes.Names.{is_spelled}
use Rattle.tm_syntax.specs.Design.{InstanceNode, neighbor}
use Rattle.tm_scope.proofs.Positions.{position-cons}
use Rattle.tm_inst.specs.Instances.{names_neighbor}

-- where some element passes a test, one stands at a number
stands : {X : Type 0} (test : X → Bool) (xs : List X) → list_any test xs ≡ true →
    (k : ℕ) × (position test xs ≡ Some k)
stands test [] any = absurd (true≢false (sym any))
stands {X = X} test (x ∷ xs) any = by (test x) refl any (stands test xs)
  where
    by : (b : Bool) → test x ≡ b → (b || list_any test xs) ≡ true →
        (list_any test xs ≡ true → (k : ℕ) × (position test xs ≡ Some k)) →
        (k : ℕ) × (position test (x ∷ xs) ≡ Some k)
    by true is any later =
        (0, position-cons test x xs ∙ ap (λ b. cond b (Some 0) (option_map suc (position test xs))) is)
    by false is any later =
        let found = later any in (
          suc found.0,
          position-cons test x xs
              ∙ ap (λ b. cond b (Some 0) (option_map suc (position test xs))) is
              ∙ ap (option_map suc) found.1,
        )

-- of a number that is within a list, the element
there : (xs : List ℕ) (k : ℕ) → k < length xs → (n : ℕ) × (slice_get xs k ≡ Some n)
there [] k within = absurd (omega (arith, within))
there (x ∷ xs) zero within = (x, refl)
there (x ∷ xs) (suc k) within = there xs k (omega (arith, within))

-- the first of what two numbers lead to
first_there : (cs ps : List ℕ) (o q : Option ℕ) → ((k : ℕ) → o ≡ Some k → k < length cs) →
    ((k : ℕ) → q ≡ Some k → k < length ps) → (o ≡ None → (k : ℕ) × (q ≡ Some k)) →
    (n : ℕ) × (slice_get (filter_map (λ k. slice_get cs k) (option_to_list o)
    ++ filter_map (λ k. slice_get ps k) (option_to_list q)) 0 ≡ Some n)
first_there cs ps (Some k) q below_o below_q other =
    let found = there cs k (below_o k refl) in (
      found.0,
      ap (λ x. slice_get (cons_option x [] ++ filter_map (λ i. slice_get ps i) (option_to_list q)) 0) found.1,
    )
first_there cs ps None q below_o below_q other =
    let at = other refl in
    let found = there ps at.0 (below_q at.0 at.1) in (
      found.0,
      ap (λ x. slice_get (filter_map (λ i. slice_get ps i) (option_to_list x)) 0) at.1
          ∙ ap (λ x. slice_get (cons_option x []) 0) found.1,
    )

within : {X Y : Type 0} (test : X → Bool) (xs : List X) (ys : List Y) → length ys ≡ length xs → (k : ℕ) →
    position test xs ≡ Some k → k < length ys
within test [] ys same k is = absurd (let at : None ≡ Some k = is in cc)
within test (x ∷ xs) ys same k is = let below = (position-Some test (x ∷ xs) k x is).0 in omega (arith, below, same)

-- a name of an instance or port of a template stands for an instance, where all of these are there
pub neighbor_there : (node : InstanceNode) (t : TemplateTree) (name : List ℕ) → length node.children
    ≡ length t.instances →
    length node.ports ≡ length t.ports → names_neighbor t name ≡ true → (n : ℕ) × (neighbor node t name ≡ Some n)
neighbor_there node t name children ports known =
    first_there node.children node.ports (position of_instance t.instances) (position of_port t.ports)
    (within of_instance t.instances node.children children) (within of_port t.ports node.ports ports)
    (λ none. stands of_port t.ports (other (list_any of_instance t.instances) refl known none))
  where
    of_instance : InstanceTree → Bool
    of_instance i = is_spelled name i.name

    of_port : Port → Bool
    of_port p = is_spelled name p.name

    other : (b : Bool) → list_any of_instance t.instances ≡ b → (b || list_any of_port t.ports) ≡ true →
        position of_instance t.instances ≡ None → list_any of_port t.ports ≡ true
    other false any known none = known
    other true any known none =
        let found = stands of_instance t.instances any in
        absurd (let same : None ≡ Some found.0 = sym none ∙ found.1 in cc)

-- what all arguments stand for, where each stands for something
pub all_there : (f : Ident → Option ℕ) (args : List Ident) →
    AllByRecursion (λ (a : Ident). (n : ℕ) × (f a ≡ Some n)) args →
    (length (filter_map f args) ≡ length args) × (map f args ≡ map Some (filter_map f args))
all_there f [] all = (refl, refl)
all_there f (a ∷ args) all =
    let one = all.0 in
    let others = all_there f args all.1 in (
      ap (λ o. length (cons_option o (filter_map f args))) one.1 ∙ ap suc others.0,
      (λ j. one.1 j ∷ others.1 j) ∙ ap (λ o. map Some (cons_option o (filter_map f args))) (sym one.1),
    )

-- each argument of an instance that is held stands for something
pub arguments_there : (f : Ident → Option ℕ) (node : InstanceNode) (t : TemplateTree) →
    ((a : Ident) → f a ≡ neighbor node t a.text) → (args : List Ident) → length node.children ≡ length t.instances →
    length node.ports ≡ length t.ports → AllByRecursion (λ (a : Ident). names_neighbor t a.text ≡ true) args →
    AllByRecursion (λ (a : Ident). (n : ℕ) × (f a ≡ Some n)) args
arguments_there f node t same [] children ports all = tt
arguments_there f node t same (a ∷ args) children ports all =
    let one = neighbor_there node t a.text children ports all.0 in (
      (one.0, same a ∙ one.1),
      arguments_there f node t same args children ports all.1,
    )

-- two maps that agree
pub mapped_alike : {X Y : Type 0} (f g : X → Y) (xs : List X) → ((x : X) → f x ≡ g x) → map f xs ≡ map g xs
mapped_alike f g [] same = refl
mapped_alike f g (x ∷ xs) same = λ j. same x j ∷ mapped_alike f g xs same j
