use Rattle.std.proofs.Common.{sym, ◌∙◌}
use Rattle.tm_cparse.proofs.NameParts.{word_like_so}
use Rattle.tm_cparse.proofs.shape.is_path.Goals as goal

pub returns-then-begins_name : goal.returns-then-begins_name
returns-then-begins_name c =
    word_like_so c.in-Some.first c.in-Some.others.now c.args.path.now c.all_continue.result c.in-Some.ensures
    (sym c.begins_name.ensures ∙ c.if-begins_name.true) c.all_continue.ensures
