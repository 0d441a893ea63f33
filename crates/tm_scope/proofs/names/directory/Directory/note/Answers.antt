use Rattle.std.proofs.Common.{◌≡◌, ℕ, cond, Option, None, Some, nat_eq, is_some, Bor, refl, sym, ap, ◌∙◌}
use Rattle.std.specs.Option.{option_or, option_copied}
use Rattle.std.specs.Cmp.Lexicographic.{pointwise}
use Rattle.std.specs.Map.{lookup}
use Rattle.tm_scope.specs.Directory.{index_of, key_bytes}
use Rattle.tm_scope.proofs.Directories.{seen, is_key, index_of-seen, index_of-noted, index_of-kept}
use Rattle.tm_scope.proofs.names.directory.Directory.note.Goals as goal

is_some-option_copied : (o : Option (Bor ℕ)) → is_some o ≡ is_some (option_copied o)
is_some-option_copied None = refl
is_some-option_copied (Some x) = refl

pub returns-in_ok-insert : goal.returns-in_ok-insert
returns-in_ok-insert c = λ other.
    index_of-noted c.self.inside.first.entries c.insert.new.self.entries (key_bytes c.new-key.result) c.args.index
    (sym c.if-is_none.ensures ∙ is_some-option_copied c.get.result ∙ ap is_some c.get.ensures.value)
    c.in_ok-insert.ensures.updates.0 other
    ∙ ap (λ name. option_or (index_of (seen c.self.inside.first.entries) other)
    (cond (pointwise nat_eq other name) (Some c.args.index) None)) c.new-key.ensures
    ∙ ap (λ es. option_or (index_of es other) (cond (pointwise nat_eq other c.args.name.now) (Some c.args.index) None))
    c.self.view_is

pub returns-else-is_none : goal.returns-else-is_none
returns-else-is_none c = λ other.
    index_of-kept c.args.self.now c.args.name.now c.args.index
    (sym c.if-is_none.ensures ∙ is_some-option_copied c.get.result ∙ ap is_some c.get.ensures.value
    ∙ ap (λ name. is_some (lookup (is_key name) c.self.inside.first.entries)) c.new-key.ensures
    ∙ ap is_some (sym (index_of-seen c.self.inside.first.entries c.args.name.now))
    ∙ ap (λ es. is_some (index_of es c.args.name.now)) c.self.view_is) other
