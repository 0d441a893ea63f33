use Rattle.std.proofs.Common.{◌≡◌, IfOk, rules}
use Rattle.serde_json.specs.View.{view}
use Rattle.tm_cert.specs.Written.{driver_data, entry_data, goal_data, list_data, number_data}
use Rattle.tm_cert.proofs.write.driver_value.Goals as goal

pub returns : goal.returns
unfolding driver_data
returns c =
    let goals : IfOk c.goals_value.result (λ v. view v ≡ list_data goal_data c.args.cert.now.goals) = search rules in
    let nodes : IfOk c.nodes_value.result (λ v. view v ≡ list_data entry_data c.args.cert.now.nodes) = search rules in
    let order : IfOk c.order_value.result (λ v. view v ≡ list_data number_data c.args.cert.now.order) = search rules in
    let region : view c.from.result ≡ number_data c.args.cert.now.region = search rules in
    c.object.ensures _
    (c.with.ensures _ _
    (c.with-members-4.ensures _ _
    (c.with-members-3.ensures _ _
    (c.with-members-2.ensures _ _
    (c.with-members.ensures _ _ c.first_members-members.ensures goals)
    c.try_from_str.ensures) nodes) order) region)
