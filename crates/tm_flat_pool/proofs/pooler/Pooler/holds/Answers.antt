use Rattle.tm_syntax.specs.Tree.View.{expr_tree}
use Rattle.tm_flat_pool.proofs.TruthTerms.{reader_found}
use Rattle.tm_flat_pool.proofs.pooler.Pooler.holds.Goals as goal

pub holds_found-requires : goal.holds_found-requires
holds_found-requires c =
    let d = c.args.self.now.design.now in (
      d,
      c.args.at,
      reader_found d c.args.at (expr_tree c.args.e.now) c.reader-found.result c.reader-found.ensures.found
          c.reader-found.ensures.none
          c.requires.typed,
      c.requires.markable,
      c.requires.inputs,
      c.requires.typed,
    )

pub returns : goal.returns
returns c =
    let d = c.args.self.now.design.now in
    c.in_ok-id.ensures d c.args.at
    (reader_found d c.args.at (expr_tree c.args.e.now) c.reader-found.result c.reader-found.ensures.found
    c.reader-found.ensures.none
    c.requires.typed) c.requires.inputs
