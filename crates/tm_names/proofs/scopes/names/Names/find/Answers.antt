use Rattle.std.proofs.Common.{nat_eq, ap, ◌∙◌}
use Rattle.std.specs.Cmp.Lexicographic.{pointwise}
use Rattle.std.specs.Map.{lookup}
use Rattle.std.specs.Option.{option_map}
use Rattle.tm_scope.specs.Directory.{key_bytes}
use Rattle.tm_names.specs.Sorts.{declared_of}
use Rattle.tm_names.proofs.scopes.names.Names.find.Goals as goal

pub returns : goal.returns
returns c =
    let key = ap (λ n. lookup (λ key. pointwise nat_eq n (key_bytes key)) c.args.self.now.first.entries)
    c.new.ensures in
    ap (option_map declared_of) (c.copied.ensures ∙ c.get.ensures.value ∙ key)
