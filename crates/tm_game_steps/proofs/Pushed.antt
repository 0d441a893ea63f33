-- The levels of an input, changed by the bits of its next number.
use Rattle.std.proofs.Common.{◌≡◌, ℕ, ◌+◌, ◌<◌, ◌≤◌, List, [], ◌++◌, Vec, length, get_or, sym, ap, ◌∙◌, subst, arith}
use Rattle.std.specs.List.{zip}
use Rattle.std.specs.declared.alloc.Global.{Global}
use Rattle.std.proofs.lemmas.List.{get_or_default, length-map}
use Rattle.tm_blast.specs.Bits.{AreBits, AreLevels}
use Rattle.tm_blast.specs.Numbers.{level_lists}
use Rattle.tm_blast.proofs.PartNumbers.{levels_at}
use Rattle.tm_dd.specs.declared.node.NodeId.{NodeId}
use Rattle.tm_dd.specs.Reduced.{Extends}
use Rattle.tm_dd.specs.Table.{Table}
use Rattle.tm_term.specs.declared.term.TermId.{TermId}
use Rattle.tm_term.specs.Table.{Table as Terms}
use Rattle.tm_term.specs.Value.{value_of}
use Rattle.tm_game_steps.specs.Changes.{AreApart, AreNext}
use Rattle.tm_game_steps.specs.Inner.BelowChanged.{AreChangedBelow, levels_of}
use Rattle.tm_game_steps.proofs.Changed.{changed_kept, changed_pushed}

pub length-level_lists : (levels : List (Vec ℕ Global)) → length (level_lists levels) ≡ length levels
length-level_lists levels = length-map levels (λ (list : Vec ℕ Global). list.items)

-- an input that gets its own value
pub kept : (t : Terms) (levels : List (Vec ℕ Global)) (s : Table) (next : List TermId) (changes : List (ℕ × NodeId))
    (input : ℕ) (other : TermId) → Extends s s → AreChangedBelow t (level_lists levels) s next changes input →
    input < length next → length next ≤ length levels →
    ((values : List ℕ) → value_of t values (get_or next input other) ≡ get_or values input 0) →
    AreChangedBelow t (level_lists levels) s next changes (input + 1)
kept t levels s next changes input other same so_far within few is =
    changed_kept t (level_lists levels) s s next changes input same so_far
    (omega (arith, length-level_lists levels, within, few))
    (λ d values. ap (value_of t values) (get_or_default next input d other within) ∙ is values)

module _ (t : Terms) (count : ℕ) (levels : List (Vec ℕ Global)) (u : Table) (next : List TermId) (input : ℕ)
    (list : Vec ℕ Global) (other : TermId) (bits : List NodeId) (of_inputs : AreLevels t count (level_lists levels))
    (are_next : AreNext t next) (within : input < length next) (few : length next ≤ length levels)
    (is_list : list ≡ get_or levels input list) (are : AreBits t (level_lists levels) u (get_or next input other) bits)
  where
    there : input < length levels
    there = omega (arith, within, few)

    items : levels_of (level_lists levels) input ≡ list.items
    items = levels_at levels input list [] there is_list

    long : length (levels_of (level_lists levels) input) ≡ length bits
    long =
        of_inputs.widths input [] (omega (arith, there, length-level_lists levels))
        ∙ sym (are_next input other within).1
        ∙ sym are.width

    pub lists_match : (firsts : List ℕ) (seconds : List NodeId) → firsts ≡ list.items → seconds ≡ bits →
        length firsts ≡ length seconds
    lists_match firsts seconds first second = ap length (first ∙ sym items) ∙ long ∙ ap length (sym second)

    -- an input that gets the value of another term
    pub pushed : (s : Table) (changes new : List (ℕ × NodeId)) (firsts : List ℕ) (seconds : List NodeId) →
        Extends s u → AreChangedBelow t (level_lists levels) s next changes input → AreApart (level_lists levels) →
        firsts ≡ list.items → seconds ≡ bits → new ≡ changes ++ zip firsts seconds →
        AreChangedBelow t (level_lists levels) u next new (input + 1)
    pushed s changes new firsts seconds extends so_far apart first second pushes =
        subst (λ (xs : List (ℕ × NodeId)). AreChangedBelow t (level_lists levels) u next xs (input + 1))
        (sym (pushes ∙ (λ i. changes ++ zip ((first ∙ sym items) i) (second i))))
        (changed_pushed t (level_lists levels) s u next changes input extends so_far
        (omega (arith, there, length-level_lists levels)) apart (get_or next input other) bits are
        (λ d. get_or_default next input d other within) long)
