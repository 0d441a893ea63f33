use Rattle.std.proofs.Common.{◌++◌, ap, codes, take, drop}
use Rattle.std.specs.Fmt.{decimal}
use Rattle.tm_gen.specs.Generated.{os_lines, text_of}
use Rattle.tm_gen.proofs.Texts.{after_four, numbered_line}
use Rattle.tm_gen.proofs.specification.push_os.Goals as goal

pub returns : goal.returns
returns c =
    let lines = os_lines c.args.n in
    after_four _ _ _ _ _ _ _ _ _ (text_of lines) c.in_ok-push.ensures c.in_ok-push-2.ensures
    c.in_ok-push_numbered.ensures c.in_ok-push-3.ensures
    (ap (λ t. text_of (take 11 lines) ++ t)
    (numbered_line (codes "if (turn == ") (decimal c.args.n) (codes ") { turn = 0; }") (drop 12 lines)))
