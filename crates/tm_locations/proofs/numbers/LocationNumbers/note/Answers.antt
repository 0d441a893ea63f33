use Rattle.std.proofs.Common.{◌≡◌, ℕ, Option, None, Some, is_some, Bor, refl, sym, ap, ◌∙◌}
use Rattle.std.specs.Option.{option_copied}
use Rattle.tm_locations.proofs.ArrivalNumbers.{first-kept, first-noted}
use Rattle.tm_locations.proofs.numbers.LocationNumbers.note.Goals as goal

is_some-copied : (o : Option (Bor ℕ)) → is_some o ≡ is_some (option_copied o)
is_some-copied None = refl
is_some-copied (Some x) = refl

pub returns-in_ok-insert : goal.returns-in_ok-insert
returns-in_ok-insert c = λ a.
    first-noted c.args.self.now.first.entries c.args.arrival c.args.index c.insert.new.self.entries
    (sym c.if-is_none.ensures ∙ is_some-copied c.get.result ∙ ap is_some c.get.ensures.value)
    c.in_ok-insert.ensures.updates.0 a

pub returns-else-is_none : goal.returns-else-is_none
returns-else-is_none c = λ a.
    first-kept c.args.self.now.first.entries c.args.arrival c.args.index
    (sym c.if-is_none.ensures ∙ is_some-copied c.get.result ∙ ap is_some c.get.ensures.value) a
