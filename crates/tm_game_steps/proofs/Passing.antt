-- The numbers of a state that stay as they are, but for the last one.
use Rattle.std.proofs.Common.{◌≡◌, ℕ, suc, ◌+◌, ◌-◌, ◌<◌, ◌≤◌, List, [], ◌∷◌, ◌++◌, length, get_or, map, take, inl, inr, refl, sym, ap, ◌∙◌, subst, arith, length-append}
use Rattle.std.proofs.lemmas.Bool.{cases_lt}
use Rattle.std.proofs.lemmas.List.{get_or_append_left, length-map, map-append, take_more}
use Rattle.tm_base.specs.Bits.{number_of}
use Rattle.tm_blast.specs.Bits.{input_values}
use Rattle.tm_game_steps.specs.Changes.{AreChanges, AreNext}
use Rattle.tm_dd.specs.declared.node.NodeId.{NodeId}
use Rattle.tm_dd.specs.Table.{Table}
use Rattle.tm_game_bits.specs.Diagrams.{changes_of}
use Rattle.tm_game_bits.specs.Functions.{after}
use Rattle.tm_game_steps.specs.Inner.Inputs.{AreInputTerms}
use Rattle.tm_game_steps.specs.Passing.{ArePassing}
use Rattle.tm_game_steps.specs.Setting.{AreNumbers, Setting, values_at}
use Rattle.tm_game_steps.specs.Telling.{PassesTo}
use Rattle.tm_game_steps.proofs.Pushing.{last_of}
use Rattle.tm_term.specs.declared.term.TermId.{TermId}
use Rattle.tm_term.specs.Table.{Table as Terms, IsKnown, width_of}
use Rattle.tm_term.specs.Value.{Extends, value_of}

module _ (t u : Terms) (e : Extends t u) where
  -- known ids have their values when terms are added
  pub values_same : (values : List ℕ) (ids : List TermId) →
      ((i : ℕ) (d : TermId) → i < length ids → IsKnown t (get_or ids i d)) →
      map (value_of u values) ids ≡ map (value_of t values) ids
  values_same values [] known = refl
  values_same values (id ∷ rest) known =
      let others = values_same values rest (λ i d below. known (suc i) d (omega arith)) in
      λ i. e.values values id (known 0 id (omega arith)) i ∷ others i

  -- next numbers stay those when terms are added
  pub next_kept : (ids : List TermId) → AreNext t ids → AreNext u ids
  next_kept ids are i d below =
      let was = are i d below in (
        e.known (get_or ids i d) was.0,
        e.widths (get_or ids i d) was.0 ∙ was.1 ∙ ap (λ inputs. get_or inputs i 0) (sym e.inputs),
      )

  next_push : (ids : List TermId) (id : TermId) → AreNext t ids → IsKnown u id →
      width_of u id ≡ get_or t.inputs (length ids) 0 → AreNext u (ids ++ id ∷ [])
  next_push ids id are known width i d below =
      elim (cases_lt i (length ids))
      as (λ _. IsKnown u (get_or (ids ++ id ∷ []) i d)
      × (width_of u (get_or (ids ++ id ∷ []) i d) ≡ get_or u.inputs i 0)) [
        | inl before ↦
            let was = are i d before in
            subst (λ (x : TermId). IsKnown u x × (width_of u x ≡ get_or u.inputs i 0))
            (sym (get_or_append_left ids (id ∷ []) d i before)) (
              e.known (get_or ids i d) was.0,
              e.widths (get_or ids i d) was.0 ∙ was.1 ∙ ap (λ inputs. get_or inputs i 0) (sym e.inputs),
            )
        | inr behind ↦
            let here : i ≡ length ids = omega (arith, length-append ids (id ∷ [])) in
            subst (λ (x : TermId). IsKnown u x × (width_of u x ≡ get_or u.inputs i 0))
            (sym (last_of ids id i d here)) (
              known,
              width ∙ (λ k. get_or (sym e.inputs k) (sym here k) 0),
            )
      ]

  values_push : (values : List ℕ) (ids : List TermId) (id : TermId) → AreNext t ids →
      map (value_of u values) (ids ++ id ∷ []) ≡ map (value_of t values) ids ++ value_of u values id ∷ []
  values_push values ids id are =
      map-append (value_of u values) ids (id ∷ [])
      ∙ (λ i. values_same values ids (λ k d below. (are k d below).0) i ++ value_of u values id ∷ [])

  pub inputs_more : (count : ℕ) (ids new : List TermId) (id : TermId) → AreInputTerms t count ids → IsKnown u id →
      width_of u id ≡ get_or t.inputs count 0 → ((values : List ℕ) → value_of u values id ≡ get_or values count 0) →
      new ≡ ids ++ id ∷ [] → AreInputTerms u (count + 1) new
  inputs_more count ids new id are known width value is =
      subst (AreInputTerms u (count + 1)) (sym is) (record {
        long = omega (arith, length-append ids (id ∷ []), are.long);
        next = next_push ids id are.next known (width ∙ ap (λ k. get_or t.inputs k 0) (sym are.long));
        values = λ values enough.
            let so_far = are.values values (omega arith) in
            let here = value values in
            values_push values ids id are.next
            ∙ (λ i. so_far i ++ here i ∷ [])
            ∙ sym (take_more values count 0 (omega arith));
      })

  pub passing_all : (count last : ℕ) (ids new : List TermId) (id : TermId) → 0 < count →
      AreInputTerms t (count - 1) ids → IsKnown u id → width_of u id ≡ get_or t.inputs (count - 1) 0 →
      ((values : List ℕ) → value_of u values id ≡ last) → new ≡ ids ++ id ∷ [] → ArePassing u count last new
  passing_all count last ids new id some are known width value is =
      subst (ArePassing u count last) (sym is) (record {
        long = omega (arith, length-append ids (id ∷ []), are.long);
        next = next_push ids id are.next known (width ∙ ap (λ k. get_or t.inputs k 0) (sym are.long));
        values = λ values enough.
            let so_far = are.values values (omega arith) in
            let here = value values in
            values_push values ids id are.next ∙ (λ i. so_far i ++ here i ∷ []);
      })

pub inputs_none : (t : Terms) → AreInputTerms t 0 []
inputs_none t = record { long = refl; next = λ i d below. absurd (omega arith); values = λ values enough. refl }

-- such terms are numbers of a state
pub passing_numbers : (x : Setting) (last : ℕ) (ids : List TermId) → ArePassing x.terms x.numbers last ids →
    AreNumbers x ids
passing_numbers x last ids are = record { next = are.next; long = are.long }

-- what they change leaves the state as it is, but for the last number
pub passes_is : (x : Setting) (s : Table) (last : ℕ) (ids : List TermId) (list : List (ℕ × NodeId)) →
    x.numbers ≤ length x.levels → ArePassing x.terms x.numbers last ids → AreChanges x.terms x.levels s ids list →
    PassesTo x last (changes_of s list)
passes_is x s last ids list within are changes v =
    let value : List ℕ → ℕ = λ bits. number_of (map v bits) in
    ap (λ n. input_values (take n x.levels) (after (changes_of s list) v)) (sym are.long)
    ∙ changes.numbers v
    ∙ are.values (values_at x v) (omega (arith, within, length-map x.levels value))
