use Rattle.tm_syntax.specs.Design.View.{design_tree}
use Rattle.tm_struct_parse.proofs.OneFault.{answers_program, answers_fault}
use Rattle.tm_struct_parse.proofs.reader.read_structured.Goals as goal

pub returns-clause-program : goal.returns-clause-program
returns-clause-program c =
    λ p names file.
    answers_program (design_tree c.args.design.now) c.args.text.now p c.read_text.result names file
    c.read_text.ensures.read c.read_text.ensures.faulty

pub returns-clause-fault : goal.returns-clause-fault
returns-clause-fault c =
    λ bad names fault.
    answers_fault (design_tree c.args.design.now) c.args.text.now bad c.read_text.result names fault
    c.read_text.ensures.read c.read_text.ensures.faulty
