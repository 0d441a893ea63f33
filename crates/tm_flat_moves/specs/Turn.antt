-- Whether the driver can be picked, from values of the inputs.
use Rattle.std.specs.Prelude.{◌≡◌, ℕ, ◌+◌, Bool, Option, List, length, slice_index}
use Rattle.std.specs.List.{list_any, range_with_len}
use Rattle.tm_syntax.specs.Design.{DesignTree}
use Rattle.tm_syntax.specs.Design.Locations.{is_magic_at}
use Rattle.tm_term.specs.declared.term.TermId.{TermId}
use Rattle.tm_term.specs.Table.{Table, IsSound}
use Rattle.tm_term.specs.Value.{AreInputs, Extends}
use Rattle.tm_flat_exprs.specs.Made.{IsTruth, truth_at}

-- whether one of the first processes, of so many, stands at a magic block
abbrev pub stands_in : DesignTree → ℕ → List ℕ → Bool
stands_in d count v =
    list_any (λ p. is_magic_at d p (slice_index v (length d.vars + p))) (range_with_len 0 count)

-- whether some process does, so that the driver can be picked
abbrev pub is_turn_in : DesignTree → List ℕ → Bool
is_turn_in d v = stands_in d (length d.processes) v

-- a truth, which may be wanting, tells whether the driver can be picked
pub record TellsTurn (t : Table) (d : DesignTree) (turn : Option TermId) : Type 0 where
  pub term : IsTruth t turn
  pub truth : (u : Table) → Extends t u → (v : List ℕ) → AreInputs u v → truth_at u v turn ≡ is_turn_in d v

-- such a truth was made, over terms that stay what they were
pub record MakesTurn (t n : Table) (d : DesignTree) (turn : Option TermId) : Type 0 where
  pub grown : Extends t n
  pub sound : IsSound n
  pub tells : TellsTurn n d turn
