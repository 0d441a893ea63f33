use Rattle.std.proofs.Common.{ℕ, List, ◌++◌, ap, ◌∙◌}
use Rattle.tm_commands.proofs.commands.synthesise.name_with.Goals as goal

pub returns : goal.returns
returns c =
    c.in_ok-push_str.ensures.bytes ∙ ap (λ (whole : List ℕ). whole ++ c.args.ending.now) c.in_ok-whole.ensures.ok
