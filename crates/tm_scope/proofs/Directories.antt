-- What a directory finds after a name is noted.
use Rattle.std.proofs.Common.{◌≡◌, ℕ, Bool, true, false, cond, Option, None, Some, List, [], ◌∷◌, map, nat_eq, is_some, refl, sym, ap, ◌∙◌, true≢false}
use Rattle.std.specs.Option.{option_or}
use Rattle.std.specs.Cmp.Lexicographic.{pointwise, bytes_decides}
use Rattle.std.specs.Map.{lookup}
use Rattle.tm_scope.specs.declared.names.name_key.NameKey.{NameKey}
use Rattle.tm_scope.specs.Directory.{index_of, key_bytes}

-- the entries as contracts see them
abbrev pub seen : List (NameKey × ℕ) → List (List ℕ × ℕ)
seen es = map (λ e. (key_bytes e.0, e.1)) es

-- the test of a name among the keys
abbrev pub is_key : List ℕ → NameKey → Bool
is_key name k = pointwise nat_eq name (key_bytes k)

pub index_of-seen : (es : List (NameKey × ℕ)) (name : List ℕ) → index_of (seen es) name ≡ lookup (is_key name) es
index_of-seen [] name = refl
index_of-seen (e ∷ es) name = ap (cond (pointwise nat_eq name (key_bytes e.0)) (Some e.1)) (index_of-seen es name)

-- a name that has no index gets one
pub index_of-noted : (es fs : List (NameKey × ℕ)) (name : List ℕ) (index : ℕ) →
    false ≡ is_some (lookup (is_key name) es) →
    ((q : NameKey) → lookup (is_key (key_bytes q)) fs ≡ cond (pointwise nat_eq name (key_bytes q)) (Some index)
    (lookup (is_key (key_bytes q)) es)) →
    (other : List ℕ) →
    index_of (seen fs) other ≡ option_or (index_of (seen es) other)
    (cond (pointwise nat_eq other name) (Some index) None)
index_of-noted es fs name index absent updates other =
    index_of-seen fs other
    ∙ updates (record { bytes = record { ref_ptr = (0, 0); now = other } })
    ∙ by (pointwise nat_eq other name) (pointwise nat_eq name other) refl refl (lookup (is_key other) es) refl
    ∙ ap (λ o. option_or o (cond (pointwise nat_eq other name) (Some index) None)) (sym (index_of-seen es other))
  where
    by : (a b : Bool) → pointwise nat_eq other name ≡ a → pointwise nat_eq name other ≡ b → (found : Option ℕ) →
        lookup (is_key other) es ≡ found →
        cond b (Some index) found ≡ option_or found (cond a (Some index) None)
    by true true is si None e = refl
    by true true is si (Some k) e =
        absurd (true≢false (sym (absent ∙ ap (λ n. is_some (lookup (is_key n) es))
        (sym ((bytes_decides other name).0 is)) ∙ ap is_some e)))
    by false false is si None e = refl
    by false false is si (Some k) e = refl
    by true false is si found e =
        absurd (true≢false (sym ((bytes_decides name other).1 (sym ((bytes_decides other name).0 is))) ∙ si))
    by false true is si found e =
        absurd (true≢false (sym ((bytes_decides other name).1 (sym ((bytes_decides name other).0 si))) ∙ is))

-- a name that has an index keeps it
pub index_of-kept : (es : List (List ℕ × ℕ)) (name : List ℕ) (index : ℕ) → true ≡ is_some (index_of es name) →
    (other : List ℕ) →
    index_of es other ≡ option_or (index_of es other) (cond (pointwise nat_eq other name) (Some index) None)
index_of-kept es name index there other = by (pointwise nat_eq other name) refl (index_of es other) refl
  where
    by : (a : Bool) → pointwise nat_eq other name ≡ a → (found : Option ℕ) → index_of es other ≡ found →
        found ≡ option_or found (cond a (Some index) None)
    by a is (Some k) e = refl
    by false is None e = refl
    by true is None e =
        absurd (true≢false (there ∙ ap (λ n. is_some (index_of es n)) (sym ((bytes_decides other name).0 is))
        ∙ ap is_some e))
