use Rattle.std.proofs.Common.{codes}
use Rattle.std.specs.Fmt.{decimal}
use Rattle.tm_gen.specs.Generated.{register_lines, text_of}
use Rattle.tm_gen.proofs.Texts.{after_five, register_line}
use Rattle.tm_gen.proofs.specification.push_register.Goals as goal

pub returns : goal.returns
returns c =
    after_five _ _ _ _ _ _ _ _ _ _ _ (text_of (register_lines c.args.k)) c.in_ok-push_numbered.ensures
    c.in_ok-push_numbered-2.ensures c.in_ok-push_numbered-3.ensures c.in_ok-push_numbered-4.ensures
    c.in_ok-push.ensures
    (register_line (decimal c.args.k) (codes "uint<8> r") (codes " = 0;") (codes "task controllable write")
    (codes "(uint<8> v) { r") (codes " = v; if (os.turn == ")
    (codes " && v == os.req) { os.want = false; } }"))
