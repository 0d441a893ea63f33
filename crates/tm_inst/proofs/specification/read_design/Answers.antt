use Rattle.tm_inst.proofs.specification.read_design.Goals as goal

pub returns-in-Ok-clause-of_text : goal.returns-in-Ok-clause-of_text
returns-in-Ok-clause-of_text c =
    let is = c.in-Ok.ensures.read.1 in
    record {
      text = _;
      tokens = c.in-Ok.ensures.read.0;
      are_tokens = is.are_tokens;
      is_tree = is.is_tree;
    }
