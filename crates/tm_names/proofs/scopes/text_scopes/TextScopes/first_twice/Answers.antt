use Rattle.std.specs.Option.{option_map}
use Rattle.tm_names.specs.ScopeNames.{mark_of}
use Rattle.tm_names.proofs.ScopeLists.{twice_of_parts}
use Rattle.tm_names.proofs.scopes.text_scopes.TextScopes.first_twice.Goals as goal

pub returns : goal.returns
returns c =
    twice_of_parts c.args.self.now (option_map mark_of c.earlier_mark-declared.result)
    (option_map mark_of c.earlier_mark.result) (option_map mark_of c.first_of_members.result)
    (option_map mark_of c.first_of_bodies.result) c.earlier_mark-declared.ensures c.earlier_mark.ensures
    c.first_of_members.ensures c.first_of_bodies.ensures
