use Rattle.std.proofs.Common.{sym, ◌∙◌, ap}
use Rattle.std.specs.Map.{lookup}
use Rattle.tm_scope.specs.Directory.{index_of}
use Rattle.tm_scope.proofs.Directories.{is_key, index_of-seen}
use Rattle.tm_scope.proofs.names.directory.Directory.find.Goals as goal

pub returns : goal.returns
returns c =
    let value = c.get.ensures.value in
    let key = ap (λ n. lookup (is_key n) c.self.inside.first.entries) c.new.ensures in
    let seen = index_of-seen c.self.inside.first.entries c.args.name.now in
    let view = ap (λ es. index_of es c.args.name.now) c.self.view_is in
    c.copied.ensures ∙ value ∙ key ∙ sym seen ∙ view
