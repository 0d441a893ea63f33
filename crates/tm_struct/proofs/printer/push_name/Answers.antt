use Rattle.std.proofs.Common.{codes}
use Rattle.std.specs.Fmt.{decimal}
use Rattle.tm_cprint.proofs.Behind.{one_more}
use Rattle.tm_struct.proofs.printer.push_name.Goals as goal

pub returns : goal.returns
returns c =
    one_more c.args.text.now.items c.push.new.text.items c.push_number.new.text.items (codes "static void b")
    (decimal c.args.number) c.in_ok-push.ensures c.in_ok-push_number.ensures
