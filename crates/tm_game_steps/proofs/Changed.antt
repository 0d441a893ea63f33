-- The numbers of the first inputs, changed one by one.
use Rattle.std.proofs.Common.{◌≡◌, ◌≢◌, ℕ, suc, ◌+◌, ◌<◌, ◌≤◌, Bool, List, [], ◌∷◌, ◌++◌, length, get_or, map, take, inl, inr, refl, sym, ap, ◌∙◌, subst, arith}
use Rattle.std.specs.Prelude.{All}
use Rattle.std.specs.List.{zip}
use Rattle.std.proofs.lemmas.Bool.{cases_lt}
use Rattle.std.proofs.lemmas.List.{ext_get_or, get_or-map, get_or-take, length-map, length-take-le}
use Rattle.std.proofs.lemmas.List.Elements.{All-append, All-nil, All-weaker}
use Rattle.tm_base.specs.Bits.{number_of}
use Rattle.tm_blast.specs.Bits.{AreBits, input_values, values_in}
use Rattle.tm_dd.specs.declared.node.NodeId.{NodeId}
use Rattle.tm_dd.specs.declared.node.TheConstants.{FALSE}
use Rattle.tm_dd.specs.Reduced.{Extends}
use Rattle.tm_dd.specs.Table.{Table, Knows, means}
use Rattle.tm_game_bits.specs.Diagrams.{changes_of}
use Rattle.tm_game_bits.specs.Functions.{Assignment, after}
use Rattle.tm_game_bits.proofs.Extended.{known_changes}
use Rattle.tm_term.specs.declared.term.TermId.{TermId}
use Rattle.tm_term.specs.Table.{Table as Terms}
use Rattle.tm_term.specs.Value.{value_of}
use Rattle.tm_game_steps.specs.Inner.BelowChanged.{AreChangedBelow, IsUnchanged, levels_of}
use Rattle.tm_game_steps.specs.Changes.{AreApart, AreChanges}
use Rattle.tm_game_steps.proofs.Lookups.{changes_same, unchanged, unchanged_first, unchanged_last, zip_at, zip_known, zip_unchanged}

-- lists of values that agree level by level
values_agree : (f g : ℕ → Bool) (levels : List ℕ) →
    ((a : ℕ) → a < length levels → f (get_or levels a 0) ≡ g (get_or levels a 0)) → map f levels ≡ map g levels
values_agree f g [] same = refl
values_agree f g (l ∷ levels) same =
    λ i. same 0 (omega arith) i ∷ values_agree f g levels (λ a below. same (suc a) (omega arith)) i

-- values that stand at the places of levels
values_at : (s : Table) (v : Assignment) (f : ℕ → Bool) (levels : List ℕ) (ids : List NodeId) →
    length levels ≡ length ids →
    ((a : ℕ) → a < length levels → f (get_or levels a 0) ≡ means s (get_or ids a FALSE) v) →
    map f levels ≡ values_in s ids v
values_at s v f [] [] long same = refl
values_at s v f [] (id ∷ ids) long same = absurd (omega arith)
values_at s v f (l ∷ levels) [] long same = absurd (omega arith)
values_at s v f (l ∷ levels) (id ∷ ids) long same =
    λ i. same 0 (omega arith) i ∷ values_at s v f levels ids (omega arith) (λ a below. same (suc a) (omega arith)) i

pub changed_first : (t : Terms) (levels : List (List ℕ)) (s : Table) (next : List TermId) →
    AreChangedBelow t levels s next [] 0
changed_first t levels s next = record {
  known = All-nil (λ (p : ℕ × NodeId). Knows s p.1);
  numbers = λ i d below v. absurd (omega arith);
  others = λ i a above within inside. All-nil (λ (p : ℕ × NodeId). p.0 ≢ get_or (levels_of levels i) a 0);
}

module _ (t : Terms) (levels : List (List ℕ)) (s u : Table) (next : List TermId) (changes : List (ℕ × NodeId))
    (input : ℕ) (extends : Extends s u) (so_far : AreChangedBelow t levels s next changes input) where
  same_changes : changes_of u changes ≡ changes_of s changes
  same_changes = changes_same s u extends changes so_far.known

  known_later : All (λ (p : ℕ × NodeId). Knows u p.1) changes
  known_later =
      All-weaker (λ (p : ℕ × NodeId). Knows s p.1) (λ (p : ℕ × NodeId). Knows u p.1)
      (λ p known. omega (arith, known, extends.rises)) changes so_far.known

  -- the numbers of earlier inputs stay in a store that was extended
  numbers_later : (i : ℕ) (d : TermId) → i < input → (v : Assignment) →
      number_of (map (after (changes_of u changes) v) (levels_of levels i))
      ≡ value_of t (input_values levels v) (get_or next i d)
  numbers_later i d below v =
      ap (λ next. number_of (map (after next v) (levels_of levels i))) same_changes ∙ so_far.numbers i d below v

  pub changed_later : AreChangedBelow t levels u next changes input
  changed_later = record { known = known_later; numbers = numbers_later; others = so_far.others }

  module _ (within : input < length levels) where
    -- an input that is left alone
    pub changed_kept : ((d : TermId) (values : List ℕ) →
        value_of t values (get_or next input d) ≡ get_or values input 0) →
        AreChangedBelow t levels u next changes (input + 1)
    changed_kept is = record { known = known_later; numbers = numbers; others = others }
      where
        here : (d : TermId) (v : Assignment) →
            number_of (map (after (changes_of u changes) v) (levels_of levels input))
            ≡ value_of t (input_values levels v) (get_or next input d)
        here d v =
            ap number_of (values_agree (after (changes_of u changes) v) v (levels_of levels input)
            (λ a inside.
            unchanged u v changes (get_or (levels_of levels input) a 0)
            (so_far.others input a (omega arith) within inside)))
            ∙ sym (get_or-map (λ (bits : List ℕ). number_of (map v bits)) levels input [] 0 within)
            ∙ sym (is d (input_values levels v))

        numbers : (i : ℕ) (d : TermId) → i < input + 1 → (v : Assignment) →
            number_of (map (after (changes_of u changes) v) (levels_of levels i))
            ≡ value_of t (input_values levels v) (get_or next i d)
        numbers i d below v =
            elim (cases_lt i input) as (λ _.
            number_of (map (after (changes_of u changes) v) (levels_of levels i))
            ≡ value_of t (input_values levels v) (get_or next i d)) [
              | inl earlier ↦ numbers_later i d earlier v
              | inr last ↦
                  let same : input ≡ i = omega arith in
                  subst (λ (k : ℕ).
                  number_of (map (after (changes_of u changes) v) (levels_of levels k))
                  ≡ value_of t (input_values levels v) (get_or next k d)) same (here d v)
            ]

        others : (i a : ℕ) → input + 1 ≤ i → i < length levels → a < length (levels_of levels i) →
            IsUnchanged changes (get_or (levels_of levels i) a 0)
        others i a above below inside = so_far.others i a (omega arith) below inside

    -- an input whose levels become the bits of a term
    pub changed_pushed : AreApart levels → (id : TermId) (bits : List NodeId) → AreBits t levels u id bits →
        ((d : TermId) → get_or next input d ≡ id) → length (levels_of levels input) ≡ length bits →
        AreChangedBelow t levels u next (changes ++ zip (levels_of levels input) bits) (input + 1)
    changed_pushed apart id bits are is long = record { known = known; numbers = numbers; others = others }
      where
        known : All (λ (p : ℕ × NodeId). Knows u p.1) (changes ++ zip (levels_of levels input) bits)
        known =
            All-append (λ (p : ℕ × NodeId). Knows u p.1) changes (zip (levels_of levels input) bits) known_later
            (zip_known u (levels_of levels input) bits are.known)

        -- levels of other inputs are none of those that were added
        other_level : (i a : ℕ) → i ≢ input → i < length levels → a < length (levels_of levels i) →
            IsUnchanged (zip (levels_of levels input) bits) (get_or (levels_of levels i) a 0)
        other_level i a other below inside =
            zip_unchanged (levels_of levels input) bits (get_or (levels_of levels i) a 0)
            (λ b inside_b same. other (sym (apart input i b a within below inside_b inside same).0))

        earlier : (i : ℕ) (d : TermId) → i < input → (v : Assignment) →
            number_of (map (after (changes_of u (changes ++ zip (levels_of levels input) bits)) v)
            (levels_of levels i))
            ≡ value_of t (input_values levels v) (get_or next i d)
        earlier i d below v =
            ap number_of (values_agree (after (changes_of u (changes ++ zip (levels_of levels input) bits)) v)
            (after (changes_of u changes) v) (levels_of levels i)
            (λ a inside.
            unchanged_last u v changes (zip (levels_of levels input) bits) (get_or (levels_of levels i) a 0)
            (other_level i a (λ same. omega (arith, same)) (omega arith) inside)))
            ∙ numbers_later i d below v

        here : (d : TermId) (v : Assignment) →
            number_of (map (after (changes_of u (changes ++ zip (levels_of levels input) bits)) v)
            (levels_of levels input))
            ≡ value_of t (input_values levels v) (get_or next input d)
        here d v =
            ap number_of (values_at u v (after (changes_of u (changes ++ zip (levels_of levels input) bits)) v)
            (levels_of levels input) bits long
            (λ a inside.
            unchanged_first u v changes (zip (levels_of levels input) bits) (get_or (levels_of levels input) a 0)
            (so_far.others input a (omega arith) within inside)
            ∙ zip_at u v (levels_of levels input) bits long
            (λ b c below_b below_c same. (apart input input b c within within below_b below_c same).1) a FALSE inside))
            ∙ are.value v
            ∙ ap (λ (x : TermId). value_of t (input_values levels v) x) (sym (is d))

        numbers : (i : ℕ) (d : TermId) → i < input + 1 → (v : Assignment) →
            number_of (map (after (changes_of u (changes ++ zip (levels_of levels input) bits)) v)
            (levels_of levels i))
            ≡ value_of t (input_values levels v) (get_or next i d)
        numbers i d below v =
            elim (cases_lt i input) as (λ _.
            number_of (map (after (changes_of u (changes ++ zip (levels_of levels input) bits)) v)
            (levels_of levels i))
            ≡ value_of t (input_values levels v) (get_or next i d)) [
              | inl lower ↦ earlier i d lower v
              | inr last ↦
                  let same : input ≡ i = omega arith in
                  subst (λ (k : ℕ).
                  number_of (map (after (changes_of u (changes ++ zip (levels_of levels input) bits)) v)
                  (levels_of levels k))
                  ≡ value_of t (input_values levels v) (get_or next k d)) same (here d v)
            ]

        others : (i a : ℕ) → input + 1 ≤ i → i < length levels → a < length (levels_of levels i) →
            IsUnchanged (changes ++ zip (levels_of levels input) bits) (get_or (levels_of levels i) a 0)
        others i a above below inside =
            All-append (λ (p : ℕ × NodeId). p.0 ≢ get_or (levels_of levels i) a 0) changes
            (zip (levels_of levels input) bits) (so_far.others i a (omega arith) below inside)
            (other_level i a (λ same. omega (arith, same)) below inside)

-- all inputs that have a next number
pub changed_all : (t : Terms) (levels : List (List ℕ)) (s : Table) (next : List TermId)
    (changes : List (ℕ × NodeId)) (input : ℕ) → length next ≤ length levels → length next ≤ input →
    AreChangedBelow t levels s next changes input → AreChanges t levels s next changes
changed_all t levels s next changes input few end done = record {
  known = known_changes s changes done.known;
  numbers = λ v.
      let long : length (input_values (take (length next) levels) (after (changes_of s changes) v)) ≡ length next =
      length-map (take (length next) levels)
      (λ (bits : List ℕ). number_of (map (after (changes_of s changes) v) bits))
      ∙ length-take-le (length next) levels few in
      ext_get_or 0 (input_values (take (length next) levels) (after (changes_of s changes) v))
      (map (value_of t (input_values levels v)) next)
      (long ∙ sym (length-map next (value_of t (input_values levels v))))
      (λ i below.
      let lower : i < length next = omega (arith, below, long) in
      get_or-map (λ (bits : List ℕ). number_of (map (after (changes_of s changes) v) bits))
      (take (length next) levels) i [] 0 (omega (arith, lower, length-take-le (length next) levels few))
      ∙ ap (λ (bits : List ℕ). number_of (map (after (changes_of s changes) v) bits))
      (get_or-take (length next) levels i [] lower)
      ∙ done.numbers i (record { 0 = 0 }) (omega arith) v
      ∙ sym (get_or-map (value_of t (input_values levels v)) next i (record { 0 = 0 }) 0 lower));
}
