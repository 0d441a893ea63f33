use Rattle.std.proofs.Common.{◌≡◌, ◌++◌, map, drop}
use Rattle.std.specs.Option.{option_map}
use Rattle.tm_play.specs.Choices.{numbers_of}
use Rattle.tm_play.proofs.input.number.read_numbers.Given as goal

abbrev pub invariant-loop-field : goal.invariant-loop-field
invariant-loop-field l =
    option_map (λ ns. l.numbers.items ++ ns) (numbers_of (map (λ f. f.now) (drop l.field-index l.fields)))
    ≡ numbers_of (map (λ f. f.now) l.fields)
