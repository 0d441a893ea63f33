-- Where no task reaches itself by calls, calls nest no deeper than there are tasks.
use Rattle.std.proofs.Common.{◌≡◌, ◌⊎◌, inl, inr, ℕ, zero, suc, ◌<◌, Option, None, Some, List, ◌∷◌, map, length, position, slice_get, refl, sym, subst, arith}
use Rattle.std.proofs.lemmas.Option.{none-some, same_Some}
use Rattle.std.specs.List.{flat_map, enumerate_from}
use Rattle.std.specs.Option.{option_map, option_and_then}
use Rattle.tm_syntax.specs.declared.member.Member.{Member}
use Rattle.tm_syntax.specs.declared.tree.Ident.{Ident}
use Rattle.tm_syntax.specs.Tree.{TaskTree, TemplateTree, SpecTree}
use Rattle.tm_syntax.specs.Scopes.Names.{is_spelled, last_name}
use Rattle.tm_syntax.specs.Scopes.Calls.{number_along, task_number, Calls, Reaches, at_once, through}
use Rattle.tm_scope.proofs.Entries.{at-there}
use Rattle.tm_scope.proofs.Positions.{position-below}
use Rattle.tm_design.proofs.Indices.{in_enumerated}
use Rattle.tm_typing.proofs.Listed.{In, first_of, later_of, is_first_or_later, in_map, in_flat}

-- what is left of a list without one of its items
pub record Without {A : Type 0} (x : A) (xs : List A) : Type 0 where
  pub rest : List A
  pub shorter : suc (length rest) ≡ length xs
  pub others : (y : A) → In y xs → (y ≡ x) ⊎ In y rest

without : {A : Type 0} (x : A) (xs : List A) → In x xs → Without x xs
without {A} x _ (first_of {xs = xs}) = record {
  rest = xs;
  shorter = refl;
  others = λ y i. by y (is_first_or_later xs i);
}
  where
    by : (y : A) → (x ≡ y) ⊎ In y xs → (y ≡ x) ⊎ In y xs
    by y (inl same) = inl (sym same)
    by y (inr i) = inr i
without {A} x _ (later_of {y = z} {xs = xs} i) =
    let less = without x xs i in
    record {
      rest = z ∷ less.rest;
      shorter = omega (arith, less.shorter);
      others = λ y j. by less y (is_first_or_later xs j);
    }
  where
    onward : (rest : List A) (y : A) → (y ≡ x) ⊎ In y rest → (y ≡ x) ⊎ In y (z ∷ rest)
    onward rest y (inl same) = inl same
    onward rest y (inr k) = inr (later_of k)

    by : (less : Without x xs) (y : A) → (z ≡ y) ⊎ In y xs → (y ≡ x) ⊎ In y (z ∷ less.rest)
    by less y (inl same) = inr (subst (λ w. In w (z ∷ less.rest)) same first_of)
    by less y (inr k) = onward less.rest y (less.others y k)

module _ (spec : SpecTree) where
  -- calls nest below a task less deep than this
  abbrev pub Under : ℕ → Member → Type 0
  Under zero b = ⊥
  Under (suc n) b = (c : Member) → Calls spec b c → Under n c

  -- the tasks of a template, and of a text
  abbrev pub members_of : ℕ × TemplateTree → List Member
  members_of t = map (λ (k : ℕ × TaskTree). record { template = t.0; index = k.0 }) (enumerate_from 0 t.1.tasks)

  abbrev pub all_members : List Member
  all_members = flat_map members_of (enumerate_from 0 spec.templates)

  -- a task that is there is one of them
  pub is_member : (b : Member) (t : TemplateTree) (k : TaskTree) → slice_get spec.templates b.template ≡ Some t →
      slice_get t.tasks b.index ≡ Some k → In b all_members
  is_member b t k there at =
      in_flat members_of (enumerate_from 0 spec.templates) (in_enumerated spec.templates b.template there)
      (in_map (λ (k : ℕ × TaskTree). record { template = b.template; index = k.0 }) (enumerate_from 0 t.tasks)
      (in_enumerated t.tasks b.index at))

  -- what is called is one of them
  found_in : (path : List Ident) (b : Member) (n : ℕ) (t : TemplateTree) → slice_get spec.templates n ≡ Some t →
      (o : Option ℕ) → position (λ (task : TaskTree). is_spelled (last_name path) task.name) t.tasks ≡ o →
      option_map (λ (k : ℕ). record { template = n; index = k }) o ≡ Some b → In b all_members
  found_in path b n t there None first e = absurd (none-some b e)
  found_in path b n t there (Some k) first e =
      let task = at-there t.tasks k
      (position-below (λ (task : TaskTree). is_spelled (last_name path) task.name) t.tasks k first) in
      let m : Member = record { template = n; index = k } in
      subst (λ x. In x all_members) (same_Some m b e) (is_member m t task.0 there task.1)

  found_at : (path : List Ident) (b : Member) (n : ℕ) (o : Option TemplateTree) → slice_get spec.templates n ≡ o →
      option_and_then (λ (t : TemplateTree). option_map (λ (k : ℕ). record { template = n; index = k })
      (position (λ (task : TaskTree). is_spelled (last_name path) task.name) t.tasks)) o ≡ Some b → In b all_members
  found_at path b n None there e = absurd (none-some b e)
  found_at path b n (Some t) there e =
      found_in path b n t there
      (position (λ (task : TaskTree). is_spelled (last_name path) task.name) t.tasks) refl e

  pub number_member : (from : ℕ) (path : List Ident) (b : Member) → task_number spec from path ≡ Some b →
      In b all_members
  number_member from path b = by (number_along spec from path)
    where
      by : (o : Option ℕ) →
          option_and_then (λ n. option_and_then (λ (t : TemplateTree).
          option_map (λ (k : ℕ). record { template = n; index = k })
          (position (λ (task : TaskTree). is_spelled (last_name path) task.name) t.tasks))
          (slice_get spec.templates n)) o ≡ Some b → In b all_members
      by None e = absurd (none-some b e)
      by (Some n) e = found_at path b n (slice_get spec.templates n) refl e

  -- one more call behind others
  reaches_then : {a b c : Member} → Reaches spec a b → Calls spec b c → Reaches spec a c
  reaches_then (at_once first) last = through first (at_once last)
  reaches_then (through first others) last = through first (reaches_then others last)

  module _ (acyclic : (k : Member) → ¬ Reaches spec k k) where
    -- each task is one of these, or reaches this one
    Left : List Member → Member → Type 0
    Left xs b = (x : Member) → In x all_members → In x xs ⊎ ((x ≡ b) ⊎ Reaches spec x b)

    -- what this one calls is one of these
    not_yet : (xs : List Member) (b c : Member) → Left xs b → Calls spec b c → In c xs
    unfolding Left
    not_yet xs b c left calls = by (left c (number_member b.template calls.path c calls.leads))
      where
        by : In c xs ⊎ ((c ≡ b) ⊎ Reaches spec c b) → In c xs
        by (inl i) = i
        by (inr (inl same)) =
            absurd (acyclic c (at_once (subst (λ x. Calls spec x c) (sym same) calls)))
        by (inr (inr reaches)) = absurd (acyclic c (reaches_then reaches calls))

    left_then : (xs : List Member) (b c : Member) → Left xs b → Calls spec b c → (less : Without c xs) →
        Left less.rest c
    unfolding Left
    left_then xs b c left calls less = λ x i. by x (left x i)
      where
        onward : (x : Member) → (x ≡ c) ⊎ In x less.rest → In x less.rest ⊎ ((x ≡ c) ⊎ Reaches spec x c)
        onward x (inl same) = inr (inl same)
        onward x (inr i) = inl i

        by : (x : Member) → In x xs ⊎ ((x ≡ b) ⊎ Reaches spec x b) →
            In x less.rest ⊎ ((x ≡ c) ⊎ Reaches spec x c)
        by x (inl i) = onward x (less.others x i)
        by x (inr (inl same)) = inr (inr (at_once (subst (λ y. Calls spec y c) (sym same) calls)))
        by x (inr (inr reaches)) = inr (inr (reaches_then reaches calls))

    under : (n : ℕ) (xs : List Member) (b : Member) → length xs < n → Left xs b → Under n b
    under zero xs b short left = omega (arith, short)
    under (suc n) xs b short left =
        λ c calls.
        let less = without c xs (not_yet xs b c left calls) in
        under n less.rest c (omega (arith, short, less.shorter)) (left_then xs b c left calls less)

    -- below each task calls nest less deep than there are tasks, and one more
    pub deepest : ℕ
    deepest = suc (length all_members)

    pub all_under : (b : Member) → Under deepest b
    unfolding deepest Left
    all_under b = under (suc (length all_members)) all_members b (omega arith) (λ x i. inl i)

    -- below each of them calls nest less deep than there are tasks
    pub each_under : (b : Member) → In b all_members → Under (length all_members) b
    unfolding Left
    each_under b i =
        let less = without b all_members i in
        under (length all_members) less.rest b (omega (arith, less.shorter)) (λ x j. by x less (less.others x j))
      where
        by : (x : Member) (less : Without b all_members) → (x ≡ b) ⊎ In x less.rest →
            In x less.rest ⊎ ((x ≡ b) ⊎ Reaches spec x b)
        by x less (inl same) = inr (inl same)
        by x less (inr j) = inl j
