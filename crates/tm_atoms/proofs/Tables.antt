-- Tables in which each thing stands once, with one more thing.
use Rattle.std.proofs.Common.{◌≡◌, ◌⊎◌, inl, inr, ℕ, zero, suc, Bool, true, false, cond, List, [], ◌∷◌, ◌++◌, Some, length, map, slice_get, refl, sym, ap, ◌∙◌, subst, true≢false}
use Rattle.std.specs.Prelude.{◌||◌}
use Rattle.std.specs.List.{list_any}
use Rattle.std.proofs.lemmas.List.{map-append}
use Rattle.std.proofs.lemmas.Option.{none-some, same_Some}
use Rattle.indexmap.specs.IndexSet.{insert_key}
use Rattle.tm_scope.proofs.Entries.{at-left, at-push}
use Rattle.tm_atoms.specs.Inner.Numbers.{AreDistinct, Keeps, IsGrown, IsSound, NumberTables}
use Rattle.tm_atoms.specs.declared.node.Node.{Node}

either : (a b : Bool) → (a || b) ≡ false → a ≡ false
either true b e = e
either false b e = refl

other : (a b : Bool) → (a || b) ≡ false → b ≡ false
other true b e = absurd (true≢false e)
other false b e = e

module _ {X : Type 0} (eq : X → X → Bool) where
  -- what is found in a list by equality stands there
  absent : (xs : List X) (v : X) → eq v v ≡ true → list_any (eq v) xs ≡ false → (k : ℕ) → slice_get xs k ≡ Some v → ⊥
  absent [] v itself none k at = none-some v at
  absent (x ∷ xs) v itself none zero at =
      true≢false (sym itself ∙ ap (λ y. eq v y) (sym (same_Some x v at)) ∙ either (eq v x) (list_any (eq v) xs) none)
  absent (x ∷ xs) v itself none (suc k) at =
      absent xs v itself (other (eq v x) (list_any (eq v) xs) none) k at

  pub keeps-inserted : (ks : List X) (v : X) → Keeps ks (insert_key eq ks v)
  keeps-inserted ks v = by (list_any (eq v) ks)
    where
      by : (b : Bool) → Keeps ks (cond b ks (ks ++ v ∷ []))
      by true = λ k x at. at
      by false = λ k x at. at-left ks (v ∷ []) k x at

  pub distinct-inserted : (ks : List X) (v : X) → eq v v ≡ true → AreDistinct ks → AreDistinct (insert_key eq ks v)
  distinct-inserted ks v itself distinct = by (list_any (eq v) ks) refl
    where
      pushed : list_any (eq v) ks ≡ false → (j k : ℕ) (x : X) →
          (slice_get ks j ≡ Some x) ⊎ ((j ≡ length ks) × (v ≡ x)) →
          (slice_get ks k ≡ Some x) ⊎ ((k ≡ length ks) × (v ≡ x)) → j ≡ k
      pushed none j k x (inl at) (inl there) = distinct j k x at there
      pushed none j k x (inl at) (inr last) = absurd (absent ks v itself none j (at ∙ ap (λ y. Some y) (sym last.1)))
      pushed none j k x (inr last) (inl there) = absurd (absent ks v itself none k
          (there ∙ ap (λ y. Some y) (sym last.1)))
      pushed none j k x (inr here) (inr last) = here.0 ∙ sym last.0

      by : (b : Bool) → list_any (eq v) ks ≡ b → AreDistinct (cond b ks (ks ++ v ∷ []))
      by true e = distinct
      by false e = λ j k x at there. pushed e j k x (at-push ks v j x at) (at-push ks v k x there)

-- what two lists are seen as, where equality of one is that of the other
pub map-inserted : {X Y : Type 0} (f : X → Y) (eq : X → X → Bool) (same : Y → Y → Bool) →
    ((a b : X) → eq a b ≡ same (f a) (f b)) → (ks : List X) (v : X) →
    map f (insert_key eq ks v) ≡ insert_key same (map f ks) (f v)
map-inserted {X} {Y} f eq same agree ks v =
    by (list_any (eq v) ks) ∙ ap (λ b. cond b (map f ks) (map f ks ++ f v ∷ [])) (any ks)
  where
    by : (b : Bool) → map f (cond b ks (ks ++ v ∷ [])) ≡ cond b (map f ks) (map f ks ++ f v ∷ [])
    by true = refl
    by false = map-append f ks (v ∷ [])

    any : (xs : List X) → list_any (eq v) xs ≡ list_any (same (f v)) (map f xs)
    any [] = refl
    any (x ∷ xs) = λ i. agree v x i || any xs i

-- one more node
module _ (eq : Node → Node → Bool) (t u : NumberTables) (n : Node) (names : u.names ≡ t.names)
    (nodes : u.nodes ≡ insert_key eq t.nodes n) where
  pub grown-node : IsGrown t u
  grown-node = record {
    names = subst (Keeps t.names) (sym names) (λ k x at. at);
    nodes = subst (Keeps t.nodes) (sym nodes) (keeps-inserted eq t.nodes n);
  }

  pub sound-node : eq n n ≡ true → IsSound t → IsSound u
  sound-node itself sound = record {
    names = subst AreDistinct (sym names) sound.names;
    nodes = subst AreDistinct (sym nodes) (distinct-inserted eq t.nodes n itself sound.nodes);
  }

-- one more name
module _ (eq : List ℕ → List ℕ → Bool) (t u : NumberTables) (name : List ℕ)
    (names : u.names ≡ insert_key eq t.names name) (nodes : u.nodes ≡ t.nodes) where
  pub grown-name : IsGrown t u
  grown-name = record {
    names = subst (Keeps t.names) (sym names) (keeps-inserted eq t.names name);
    nodes = subst (Keeps t.nodes) (sym nodes) (λ k x at. at);
  }

  pub sound-name : eq name name ≡ true → IsSound t → IsSound u
  sound-name itself sound = record {
    names = subst AreDistinct (sym names) (distinct-inserted eq t.names name itself sound.names);
    nodes = subst AreDistinct (sym nodes) sound.nodes;
  }

-- what stands in a list stands in what the list is seen as
pub at-mapped : {X Y : Type 0} (f : X → Y) (xs : List X) (k : ℕ) (x : X) → slice_get xs k ≡ Some x →
    slice_get (map f xs) k ≡ Some (f x)
at-mapped f [] k x at = absurd (none-some x at)
at-mapped f (y ∷ xs) zero x at = ap (λ x. Some (f x)) (same_Some y x at)
at-mapped f (y ∷ xs) (suc k) x at = at-mapped f xs k x at
