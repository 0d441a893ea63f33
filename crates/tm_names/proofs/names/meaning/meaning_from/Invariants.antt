use Rattle.std.proofs.Common.{◌≡◌, ◌<◌, ◌≤◌, ◌-◌, length, drop}
use Rattle.std.specs.Option.{option_map}
use Rattle.tm_syntax.specs.Tree.View.{spec_tree}
use Rattle.tm_names.specs.Sorts.{sort_of}
use Rattle.tm_names.specs.Inner.Meanings.{meaning_from}
use Rattle.tm_names.proofs.names.meaning.meaning_from.Given as goal

abbrev pub invariant-loop-index : goal.invariant-loop-index
invariant-loop-index l =
    (0 < l.index) × (l.index ≤ length l.path)
    × (meaning_from (spec_tree l.names) (option_map sort_of l.sort) (drop (l.index - 1) l.path)
    ≡ meaning_from (spec_tree l.names) (option_map sort_of l.first) l.path)
