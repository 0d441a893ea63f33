use Rattle.std.proofs.Common.{◌≡◌, rules}
use Rattle.serde_json.specs.Data.{no_members}
use Rattle.serde_json.specs.View.{members_view}
use Rattle.tm_cert.proofs.write.first_members.Goals as goal

pub returns : goal.returns
returns c =
    let none : members_view c.new.result.entries ≡ no_members = search rules in
    c.with.ensures _ _ (c.with-members.ensures _ _ none c.from.ensures) c.from-2.ensures
