use Rattle.std.proofs.lemmas.List.Elements.{All-contains}
use Rattle.tm_dd.specs.Table.{Knows}
use Rattle.test_game.proofs.knowing.copy.Goals as goal

pub copy_roots-requires : goal.copy_roots-requires
copy_roots-requires c = record
    { known = λ f there. All-contains (Knows c.args.dd.now.table) c.args.ids.now f c.requires there }
