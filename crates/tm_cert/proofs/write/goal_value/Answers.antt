use Rattle.std.proofs.Common.{◌≡◌, rules}
use Rattle.serde_json.specs.Data.{no_members}
use Rattle.serde_json.specs.View.{members_view}
use Rattle.tm_cert.proofs.write.goal_value.Goals as goal

pub returns : goal.returns
returns c =
    let none : members_view c.new.result.entries ≡ no_members = search rules in
    c.object.ensures _ (c.with.ensures _ _ none c.ranks_value.ensures)
