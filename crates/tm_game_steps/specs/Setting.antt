-- Terms whose inputs are bits of levels, and what their truths are as diagrams.
use Rattle.std.specs.Prelude.{◌≡◌, ℕ, ◌+◌, ◌<◌, ◌≤◌, ◌^◌, ◌==◌, Bool, true, List, length, slice_index}
use Rattle.std.specs.List.{range_with_len}
use Rattle.tm_base.specs.Arithmetic.{bit}
use Rattle.tm_blast.specs.Bits.{AreLevels, input_values}
use Rattle.tm_blast.specs.Memory.{Made, AreMade}
use Rattle.tm_blast.specs.Numbers.{level_lists}
use Rattle.tm_game_steps.specs.Changes.{AreApart, AreNext, IsTruthOf}
use Rattle.tm_dd.specs.declared.node.NodeId.{NodeId}
use Rattle.tm_dd.specs.Table.{Table, Knows, means}
use Rattle.tm_flat.specs.Inputs.{room}
use Rattle.tm_game_bits.specs.Functions.{Assignment}
use Rattle.tm_game_steps.specs.declared.encoding.Encoding.{Encoding}
use Rattle.tm_term.specs.declared.term.TermId.{TermId}
use Rattle.tm_term.specs.Table.{Table as Terms}
use Rattle.tm_term.specs.Value.{value_of}

-- terms, the levels of their inputs' bits, how many levels and how many numbers are of a state, and which number is the
-- location of the first process
pub record Setting : Type 0 where
  pub terms : Terms
  pub levels : List (List ℕ)
  pub state_levels : ℕ
  pub numbers : ℕ
  pub first : ℕ

-- what contracts see of an encoding
abbrev pub setting_of : Encoding → Setting
setting_of e = record {
  terms = e.terms;
  levels = level_lists e.levels.items;
  state_levels = e.state_levels;
  numbers = e.numbers;
  first = e.first;
}

-- the values of the inputs where v gives each level's value
abbrev pub values_at : Setting → Assignment → List ℕ
values_at x v = input_values x.levels v

-- the levels of the bits of choices, and of arguments
abbrev pub choices_of : Setting → List ℕ
choices_of x = range_with_len (x.state_levels + room) room

-- the levels of the bits of arguments
abbrev pub arguments_of : Setting → List ℕ
arguments_of x = range_with_len x.state_levels room

-- whether a number of a state has a value
abbrev pub has_value : ℕ → ℕ → List ℕ → Bool
has_value input value values = slice_index values input == value

-- diagrams can be made of terms: each input has its levels, no level is of two bits, the counts are words, and the bits
-- that were made are those of terms
pub record IsReady (x : Setting) (s : Table) (made : Made) : Type 0 where
  pub levels : AreLevels x.terms s.levels x.levels
  pub apart : AreApart x.levels
  pub few : length x.levels < 2 ^ 32
  pub words : x.state_levels + 128 < 2 ^ 32
  pub within : x.numbers ≤ length x.levels
  pub bits : AreMade x.terms x.levels s made

-- a known id is true exactly where a term is 1, and the term is 0 elsewhere
abbrev pub IsTruthIn : Setting → Table → TermId → NodeId → Type 0
IsTruthIn x s id node = IsTruthOf x.terms x.levels s id node

-- a known id is true nowhere but where a test holds, and there exactly where a term is 1
pub record IsGuarded (x : Setting) (s : Table) (test : List ℕ → Bool) (id : TermId) (node : NodeId) : Type 0 where
  pub known : Knows s node
  pub only : (v : Assignment) → means s node v ≡ true → test (values_at x v) ≡ true
  pub inside : (v : Assignment) → test (values_at x v) ≡ true →
      value_of x.terms (values_at x v) id ≡ bit (means s node v)

-- a term for each number of a state, of its width
pub record AreNumbers (x : Setting) (ids : List TermId) : Type 0 where
  pub next : AreNext x.terms ids
  pub long : length ids ≡ x.numbers
