-- The entries of a map in the order of insertion, read as a table.
use Rattle.std.proofs.Common.{◌≡◌, ℕ, zero, suc, ◌<◌, Bool, true, false, cond, List, [], ◌∷◌, Option, Some, None, is_some, length, get_or, refl, sym, ap, ◌∙◌, arith}
use Rattle.std.specs.Prelude.{slice_get, position}
use Rattle.std.specs.Map.{keys_of, values_of, lookup}
use Rattle.std.proofs.lemmas.List.Quantifiers.{position-Some}
use Rattle.tm_term.specs.declared.term.Term.{Term}
use Rattle.tm_term.specs.Table.{term_in, width_in}

-- the width of an entry is the value at its index
pub width_in-values : (es : List (Term × ℕ)) (k v : ℕ) → slice_get (values_of es) k ≡ Some v →
    width_in (slice_get es k) ≡ v
width_in-values [] k v h = cc
width_in-values (e ∷ es) zero v h = cc
width_in-values (e ∷ es) (suc k) v h = width_in-values es k v h

-- the term of an entry is the key at its index
term_in-keys : (es : List (Term × ℕ)) (k : ℕ) (d : Term) → k < length (keys_of es) →
    term_in (slice_get es k) ≡ Some (get_or (keys_of es) k d)
term_in-keys [] k d h = absurd (omega arith)
term_in-keys (e ∷ es) zero d h = refl
term_in-keys (e ∷ es) (suc k) d h = term_in-keys es k d (omega arith)

-- nothing is in an `Option` that is not `Some`
pub none_from : {X : Type 0} (o : Option X) → false ≡ is_some o → o ≡ None
none_from None h = refl
none_from (Some x) h = cc

module _ (eq : Term → Term → Bool) (term : Term) where
  -- the term that a look-up finds is the one that was looked for
  pub found_term : ((other : Term) → eq term other ≡ true → term ≡ other) → (es : List (Term × ℕ)) (k : ℕ) →
      Some k ≡ position (eq term) (keys_of es) → term_in (slice_get es k) ≡ Some term
  found_term exact es k h =
      let p = position-Some (eq term) (keys_of es) k term (sym h) in
      term_in-keys es k term p.0 ∙ ap Some (sym (exact (get_or (keys_of es) k term) p.1))

  -- a term that a look-up misses is not there
  pub absent_term : eq term term ≡ true → (es : List (Term × ℕ)) → lookup (eq term) es ≡ None → (k : ℕ) →
      term_in (slice_get es k) ≡ Some term → ⊥
  absent_term itself [] missed k h = cc
  absent_term itself (e ∷ es) missed zero h =
      let same : e.0 ≡ term = cc in
      let passes : eq term e.0 ≡ true = rw same itself in
      let hit : lookup (eq term) (e ∷ es) ≡ Some e.1 = rw passes refl in
      cc
  absent_term itself (e ∷ es) missed (suc k) h =
      absent_term itself es (later (eq term e.0) e.1 (lookup (eq term) es) missed) k h
    where
      later : (b : Bool) (v : ℕ) (o : Option ℕ) → cond b (Some v) o ≡ None → o ≡ None
      later true v o h = cc
      later false v o h = h
