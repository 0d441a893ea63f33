-- What a level becomes by a list of changes.
use Rattle.std.proofs.Common.{◌≡◌, ◌≢◌, ℕ, zero, suc, ◌<◌, Bool, true, false, cond, eqb, List, [], ◌∷◌, ◌++◌, Some, length, get_or, refl, ap, ◌∙◌, arith}
use Rattle.std.specs.Prelude.{All}
use Rattle.std.specs.List.{zip}
use Rattle.std.specs.Map.{lookup}
use Rattle.std.specs.Option.{option_map_or}
use Rattle.std.proofs.lemmas.Bool.{eq-eqb, ne_eqb}
use Rattle.std.proofs.lemmas.List.Elements.{All-cons, All-head, All-nil, All-tail}
use Rattle.tm_dd.specs.declared.node.NodeId.{NodeId}
use Rattle.tm_dd.specs.Reduced.{Extends}
use Rattle.tm_dd.specs.Table.{Table, Knows, means}
use Rattle.tm_game_bits.specs.Diagrams.{changes_of}
use Rattle.tm_game_bits.specs.Functions.{Assignment, Function, after}
use Rattle.tm_game_steps.specs.Inner.BelowChanged.{IsUnchanged}

module _ (s : Table) (v : Assignment) where
  -- what a level becomes
  abbrev pub becomes : List (ℕ × NodeId) → ℕ → Bool
  becomes changes level = after (changes_of s changes) v level

  here : (p : ℕ × NodeId) (rest : List (ℕ × NodeId)) (level : ℕ) → p.0 ≡ level →
      becomes (p ∷ rest) level ≡ means s p.1 v
  here p rest level is =
      ap (λ b.
      option_map_or (λ (f : Function). f v)
      (cond b (Some (means s p.1)) (lookup (λ l. eqb l level) (changes_of s rest))) (v level))
      (eq-eqb p.0 level is)

  past : (p : ℕ × NodeId) (rest : List (ℕ × NodeId)) (level : ℕ) → p.0 ≢ level →
      becomes (p ∷ rest) level ≡ becomes rest level
  past p rest level other =
      ap (λ b.
      option_map_or (λ (f : Function). f v)
      (cond b (Some (means s p.1)) (lookup (λ l. eqb l level) (changes_of s rest))) (v level))
      (ne_eqb p.0 level other)

  pub unchanged : (changes : List (ℕ × NodeId)) (level : ℕ) → IsUnchanged changes level →
      becomes changes level ≡ v level
  unchanged [] level none = refl
  unchanged (p ∷ rest) level none =
      past p rest level (All-head (λ (q : ℕ × NodeId). q.0 ≢ level) p rest none)
      ∙ unchanged rest level (All-tail (λ (q : ℕ × NodeId). q.0 ≢ level) p rest none)

  pub unchanged_first : (xs ys : List (ℕ × NodeId)) (level : ℕ) → IsUnchanged xs level →
      becomes (xs ++ ys) level ≡ becomes ys level
  unchanged_first [] ys level none = refl
  unchanged_first (p ∷ xs) ys level none =
      past p (xs ++ ys) level (All-head (λ (q : ℕ × NodeId). q.0 ≢ level) p xs none)
      ∙ unchanged_first xs ys level (All-tail (λ (q : ℕ × NodeId). q.0 ≢ level) p xs none)

  pub unchanged_last : (xs ys : List (ℕ × NodeId)) (level : ℕ) → IsUnchanged ys level →
      becomes (xs ++ ys) level ≡ becomes xs level
  unchanged_last [] ys level none = unchanged ys level none
  unchanged_last (p ∷ xs) ys level none =
      elim (eqb p.0 level) as (λ b.
      option_map_or (λ (f : Function). f v)
      (cond b (Some (means s p.1)) (lookup (λ l. eqb l level) (changes_of s (xs ++ ys)))) (v level)
      ≡ option_map_or (λ (f : Function). f v)
      (cond b (Some (means s p.1)) (lookup (λ l. eqb l level) (changes_of s xs))) (v level)) [
        | true ↦ refl
        | false ↦ unchanged_last xs ys level none
      ]

  -- a level that stands once in a list becomes what stands at its place
  pub zip_at : (levels : List ℕ) (ids : List NodeId) → length levels ≡ length ids →
      ((a b : ℕ) → a < length levels → b < length levels → get_or levels a 0 ≡ get_or levels b 0 → a ≡ b) →
      (a : ℕ) (d : NodeId) → a < length levels →
      becomes (zip levels ids) (get_or levels a 0) ≡ means s (get_or ids a d) v
  zip_at [] ids long once a d below = absurd (omega arith)
  zip_at (l ∷ levels) [] long once a d below = absurd (omega arith)
  zip_at (l ∷ levels) (id ∷ ids) long once zero d below = here (l, id) (zip levels ids) l refl
  zip_at (l ∷ levels) (id ∷ ids) long once (suc a) d below =
      past (l, id) (zip levels ids) (get_or levels a 0)
      (λ same. let wrong : 0 ≡ suc a = once 0 (suc a) (omega arith) below same in omega (arith, wrong))
      ∙ zip_at levels ids (omega arith)
      (λ b c below_b below_c same.
      let next : suc b ≡ suc c = once (suc b) (suc c) (omega arith) (omega arith) same in omega (arith, next)) a d
      (omega arith)

pub zip_unchanged : (levels : List ℕ) (ids : List NodeId) (level : ℕ) →
    ((a : ℕ) → a < length levels → get_or levels a 0 ≢ level) → IsUnchanged (zip levels ids) level
zip_unchanged [] ids level other = All-nil (λ (p : ℕ × NodeId). p.0 ≢ level)
zip_unchanged (l ∷ levels) [] level other = All-nil (λ (p : ℕ × NodeId). p.0 ≢ level)
zip_unchanged (l ∷ levels) (id ∷ ids) level other =
    All-cons (λ (p : ℕ × NodeId). p.0 ≢ level) (l, id) (zip levels ids) (other 0 (omega arith))
    (zip_unchanged levels ids level (λ a below. other (suc a) (omega arith)))

pub zip_known : (s : Table) (levels : List ℕ) (ids : List NodeId) → All (Knows s) ids →
    All (λ (p : ℕ × NodeId). Knows s p.1) (zip levels ids)
zip_known s [] ids known = All-nil (λ (p : ℕ × NodeId). Knows s p.1)
zip_known s (l ∷ levels) [] known = All-nil (λ (p : ℕ × NodeId). Knows s p.1)
zip_known s (l ∷ levels) (id ∷ ids) known =
    All-cons (λ (p : ℕ × NodeId). Knows s p.1) (l, id) (zip levels ids) (All-head (Knows s) id ids known)
    (zip_known s levels ids (All-tail (Knows s) id ids known))

-- changes are the same in a store that was extended
pub changes_same : (s u : Table) → Extends s u → (changes : List (ℕ × NodeId)) →
    All (λ (p : ℕ × NodeId). Knows s p.1) changes → changes_of u changes ≡ changes_of s changes
changes_same s u extends [] known = refl
changes_same s u extends (p ∷ rest) known =
    λ i. (
      p.0,
      λ v. extends.same_meaning p.1 (All-head (λ (q : ℕ × NodeId). Knows s q.1) p rest known) v i,
    )
    ∷ changes_same s u extends rest (All-tail (λ (q : ℕ × NodeId). Knows s q.1) p rest known) i
