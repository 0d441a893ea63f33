use Rattle.tm_syntax.specs.Tree.View.{expr_tree}
use Rattle.tm_flat_states.proofs.StatedTerms.{reader_found}
use Rattle.tm_flat_states.proofs.marker.Marker.condition.Goals as goal

pub condition_found-requires : goal.condition_found-requires
condition_found-requires c =
    let d = c.args.self.now.design.now in (
      d,
      c.args.instance,
      reader_found d c.args.instance (expr_tree c.args.e.now) c.reader-found.result c.reader-found.ensures.found
          c.reader-found.ensures.none
          c.requires.typed,
      c.requires.markable,
      c.requires.inputs,
      c.requires.typed,
    )

pub returns : goal.returns
returns c =
    let d = c.args.self.now.design.now in
    c.in_ok-id.ensures d c.args.instance
    (reader_found d c.args.instance (expr_tree c.args.e.now) c.reader-found.result c.reader-found.ensures.found
    c.reader-found.ensures.none
    c.requires.typed) c.requires.inputs
