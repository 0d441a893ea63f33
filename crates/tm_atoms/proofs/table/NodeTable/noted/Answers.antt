use Rattle.tm_atoms.specs.Inner.Numbers.{numbered}
use Rattle.tm_atoms.proofs.Numbered.{node-grown}
use Rattle.tm_atoms.proofs.table.NodeTable.noted.Goals as goal

pub returns : goal.returns
returns c = λ r is lasting. record {
  grown = c.in_ok-number.ensures.grown;
  sound = c.in_ok-number.ensures.sound;
  is = record {
    number = numbered c.in_ok-number.ensures.number
        (node-grown c.args.self.now c.node.new.self c.in_ok-number.ensures.grown is);
    lasting = lasting;
  };
}
