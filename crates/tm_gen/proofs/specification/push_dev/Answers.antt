use Rattle.std.proofs.Common.{[], ◌∷◌, ◌++◌, ap, codes}
use Rattle.std.specs.List.{flat_map, range_with_len}
use Rattle.tm_gen.specs.Generated.{register_lines, dev_lines, text_of}
use Rattle.tm_gen.proofs.Texts.{after_three, text_of-append}
use Rattle.tm_gen.proofs.specification.push_dev.Goals as goal

pub returns : goal.returns
returns c =
    after_three _ _ _ _ _ _ _ (text_of (dev_lines c.args.n)) c.in_ok-push.ensures c.in_ok-push_registers.ensures
    c.in_ok-push-2.ensures
    (ap (λ t. codes "template Dev(Os os)\n" ++ t)
    (text_of-append (flat_map register_lines (range_with_len 0 c.args.n)) (codes "endtemplate" ∷ [])))
