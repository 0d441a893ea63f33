-- Versions behind those of another list, with which they have the first ones in common.
use Rattle.std.specs.Prelude.{ℕ, ◌+◌, ◌-◌, List, [], ◌∷◌, ◌++◌, drop, length, nat_le, if◌then◌else◌}
use Rattle.tm_term.specs.declared.term.TermId.{TermId}
use Rattle.tm_flat_exprs.specs.declared.memory.versions.Version.{Version}
use Rattle.tm_flat_exprs.specs.declared.memory.versions.Version.TheVariants.{Put, Choice}

-- the number that a version gets: those in common keep theirs, the later ones move on, and one that is none is 0
abbrev pub moved_number : ℕ → ℕ → ℕ → ℕ → ℕ
moved_number by common index number =
    if nat_le number common then number else (if nat_le number index then number + by else 0)

-- a version by the new numbers
abbrev pub moved : ℕ → ℕ → ℕ → Version → Version
moved by common index (Put cell id) = Put cell id
moved by common index (Choice guard a b) =
    Choice guard (moved_number by common index a) (moved_number by common index b)

-- the versions from an index on by the new numbers
abbrev pub moved_from : ℕ → ℕ → ℕ → List Version → List Version
moved_from by common index [] = []
moved_from by common index (w ∷ ws) = moved by common index w ∷ moved_from by common (index + 1) ws

-- the versions of a list, and behind them those of another one that are not in common
abbrev pub appended : TermId → List Version → List Version → ℕ → List Version
appended guard old others common =
    old ++ Choice guard common common
    ∷ moved_from (length old + 1 - common) common common (drop common others)
