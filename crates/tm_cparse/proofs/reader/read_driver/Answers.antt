use Rattle.tm_syntax.specs.Design.View.{design_tree}
use Rattle.tm_cparse.proofs.OneFault.{answers_blocks, answers_fault}
use Rattle.tm_cparse.proofs.reader.read_driver.Goals as goal

pub returns-clause-blocks : goal.returns-clause-blocks
returns-clause-blocks c = λ bs names file.
    answers_blocks (design_tree c.args.design.now) c.args.text.now bs c.read_text.result names file
    c.read_text.ensures.read c.read_text.ensures.faulty

pub returns-clause-fault : goal.returns-clause-fault
returns-clause-fault c = λ bad names fault.
    answers_fault (design_tree c.args.design.now) c.args.text.now bad c.read_text.result names fault
    c.read_text.ensures.read c.read_text.ensures.faulty
