use Rattle.std.proofs.Common.{◌≡◌, IfOk, rules}
use Rattle.serde_json.specs.Data.{no_members}
use Rattle.serde_json.specs.View.{view, members_view}
use Rattle.tm_cert.specs.Written.{list_data, number_data}
use Rattle.tm_cert.proofs.write.level_value.Goals as goal

pub returns : goal.returns
returns c =
    let none : members_view c.new.result.entries ≡ no_members = search rules in
    let chains : IfOk c.chains_value.result (λ v. view v ≡ list_data (list_data number_data) c.args.level.now.chains) =
    search rules in
    let goal : view c.from.result ≡ number_data c.args.level.now.goal = search rules in
    let set : view c.from-2.result ≡ number_data c.args.level.now.set = search rules in
    c.object.ensures _
    (c.with.ensures _ _ (c.with-members-2.ensures _ _ (c.with-members.ensures _ _ none chains) goal) set)
