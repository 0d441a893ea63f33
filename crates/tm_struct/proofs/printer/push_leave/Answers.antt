use Rattle.std.proofs.Common.{ℕ, ◌++◌, codes, ap, ◌∙◌}
use Rattle.tm_cprint.specs.Layout.{constant_text}
use Rattle.tm_cprint.proofs.Behind.{one_more, after_three}
use Rattle.tm_struct.specs.Layout.{indent}
use Rattle.tm_struct.proofs.printer.push_leave.Goals as goal

pub returns : goal.returns
returns c =
    one_more c.args.text.now.items c.push_constant.new.text.items c.push-2.new.text.items
    (indent c.args.open_ifs ++ codes "termite_leave(" ++ constant_text c.args.process) (codes ");\n")
    (after_three c.args.text.now.items c.push_indent.new.text.items c.push.new.text.items
    c.push_constant.new.text.items (indent c.args.open_ifs) (codes "termite_leave(") (constant_text c.args.process)
    c.in_ok-push_indent.ensures c.in_ok-push.ensures
    (c.in_ok-push_constant.ensures
    ∙ ap (λ (n : ℕ). c.push.new.text.items ++ constant_text n) c.from.ensures)) c.in_ok-push-2.ensures
