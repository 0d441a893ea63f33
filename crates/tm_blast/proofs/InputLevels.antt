-- The levels of the inputs, one input after another.
use Rattle.std.proofs.Common.{◌≡◌, ℕ, ◌+◌, ◌<◌, ◌≤◌, List, [], length, get_or, Vec, sym, ap, ◌∙◌, subst, ⊎_elim, arith}
use Rattle.std.specs.Prelude.{All, slice_index}
use Rattle.std.specs.declared.alloc.Global.{Global}
use Rattle.std.proofs.lemmas.Bool.{cases_lt}
use Rattle.std.proofs.lemmas.List.{length-map}
use Rattle.tm_term.specs.Table.{Table as Terms}
use Rattle.tm_blast.specs.Bits.{AreLevels}
use Rattle.tm_blast.specs.Numbers.{level_lists}
use Rattle.tm_blast.proofs.PartNumbers.{levels_at}

-- what is asked of the levels of an input
abbrev pub AreOfInput : List ℕ → ℕ → ℕ → Type 0
AreOfInput levels width count = (length levels ≡ width) × All (λ level. level < count) levels

pub of_input : (t : Terms) (count : ℕ) (levels : List (Vec ℕ Global)) (i : ℕ) (list : Vec ℕ Global) → i < length levels
    → list ≡ get_or levels i list → AreLevels t count (level_lists levels)
    → AreOfInput list.items (slice_index t.inputs i) count
of_input t count levels i list within is are =
    let items : Vec ℕ Global → List ℕ = λ l. l.items in
    let within_lists : i < length (level_lists levels) = omega (arith, length-map levels items) in
    let here : get_or (level_lists levels) i [] ≡ list.items = levels_at levels i list [] within is in (
      ap length (sym here) ∙ are.widths i [] within_lists,
      subst (All (λ level. level < count)) here (are.below i [] within_lists),
    )

-- the levels of the inputs below a place are right
pub record AreLevelsBelow (t : Terms) (count : ℕ) (levels : List (Vec ℕ Global)) (i : ℕ) : Type 0 where
  pub inputs : length levels ≡ length t.inputs
  pub each : (k : ℕ) (d : List ℕ) → k < i →
      AreOfInput (get_or (level_lists levels) k d) (slice_index t.inputs k) count

pub levels_more : (t : Terms) (count : ℕ) (levels : List (Vec ℕ Global)) (i : ℕ) (list : Vec ℕ Global)
    → i < length levels → list ≡ get_or levels i list → AreOfInput list.items (slice_index t.inputs i) count
    → AreLevelsBelow t count levels i → AreLevelsBelow t count levels (i + 1)
levels_more t count levels i list within is fits so_far = record {
  inputs = so_far.inputs;
  each = λ k d h.
      ⊎_elim (λ (lower : k < i). so_far.each k d lower)
      (λ (upper : i ≤ k).
      let e : i ≡ k = omega arith in
      subst (λ n. AreOfInput (get_or (level_lists levels) n d) (slice_index t.inputs n) count) e
      (subst (λ ls. AreOfInput ls (slice_index t.inputs i) count) (sym (levels_at levels i list d within is)) fits))
      (cases_lt k i);
}

pub levels_all : (t : Terms) (count : ℕ) (levels : List (Vec ℕ Global)) → AreLevelsBelow t count levels (length levels)
    → AreLevels t count (level_lists levels)
levels_all t count levels done =
    let items : Vec ℕ Global → List ℕ = λ l. l.items in
    let long = length-map levels items in
    record {
      inputs = long ∙ done.inputs;
      widths = λ i d h. (done.each i d (omega (arith, long))).0;
      below = λ i d h. (done.each i d (omega (arith, long))).1;
    }
