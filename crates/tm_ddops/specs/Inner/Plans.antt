-- Changes that are asked for again and again, with what walks under them need.
use Rattle.std.specs.Prelude.{◌≡◌, ℕ, ◌<◌, List, [], All, length, map, slice_index_or}
use Rattle.tm_dd.specs.declared.node.NodeId.{NodeId}
use Rattle.tm_dd.specs.Table.{Table}
use Rattle.tm_ddops.specs.declared.change.Change.{Change}
use Rattle.tm_ddops.specs.declared.change.Change.TheVariants.{Becomes, Quantified}
use Rattle.tm_ddops.specs.declared.plans.Plan.{Plan}
use Rattle.tm_ddops.specs.declared.plans.Quantifier.{Quantifier}
use Rattle.tm_ddops.specs.declared.plans.Substitution.{Substitution}
use Rattle.tm_ddops.specs.Changed.{IsDepth, change_at, change_of}

-- the changes under which levels may have any value
abbrev pub quantified : List ℕ → List (ℕ × Change)
quantified levels = map (λ l. (l, Quantified)) levels

-- the changes under which the functions of parts take the places of their levels
abbrev pub substituting : List (ℕ × NodeId) → List (ℕ × Change)
substituting parts = map (λ p. (p.0, Becomes p.1)) parts

-- the list has changes at a number
pub record HasNumber (lists : List (List (ℕ × Change))) (changes : List (ℕ × Change)) (n : ℕ) : Type 0 where
  pub within : n < length lists
  pub same : slice_index_or lists n [] ≡ changes

-- a plan has the number of changes, no deeper level is one of them, and it has the change of each level
pub record IsPlan (s : Table) (lists : List (List (ℕ × Change))) (changes : List (ℕ × Change)) (p : Plan) : Type 0 where
  pub number : HasNumber lists changes p.number
  pub deep : IsDepth s (change_of changes) p.depth
  pub count : length p.by_level.items ≡ s.levels
  pub alike : (k : ℕ) → k < s.levels → change_at p.by_level.items k ≡ change_of changes k

-- each plan is that of its levels
abbrev pub AreQuantifiers : Table → List (List (ℕ × Change)) → List Quantifier → Type 0
AreQuantifiers s lists kept = All (λ (k : Quantifier). IsPlan s lists (quantified k.levels.items) k.plan) kept

-- each plan is that of its parts
abbrev pub AreSubstitutions : Table → List (List (ℕ × Change)) → List Substitution → Type 0
AreSubstitutions s lists kept = All (λ (k : Substitution). IsPlan s lists (substituting k.parts.items) k.plan) kept

-- levels are kept at a place
pub record HasLevels (kept : List Quantifier) (levels : List ℕ) (place : ℕ) : Type 0 where
  pub within : place < length kept
  pub same : (d : Quantifier) → (slice_index_or kept place d).levels.items ≡ levels

-- parts are kept at a place
pub record HasParts (kept : List Substitution) (parts : List (ℕ × NodeId)) (place : ℕ) : Type 0 where
  pub within : place < length kept
  pub same : (d : Substitution) → (slice_index_or kept place d).parts.items ≡ parts
