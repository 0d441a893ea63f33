use Rattle.std.proofs.Common.{◌≡◌, IfOk, rules}
use Rattle.serde_json.specs.View.{view}
use Rattle.tm_cert.specs.Written.{entry_data, environment_data, level_data, list_data, number_data}
use Rattle.tm_cert.proofs.write.environment_value.Goals as goal

pub returns : goal.returns
unfolding environment_data
returns c =
    let levels : IfOk c.levels_value.result (λ v. view v ≡ list_data level_data c.args.cert.now.levels) =
    search rules in
    let nodes : IfOk c.nodes_value.result (λ v. view v ≡ list_data entry_data c.args.cert.now.nodes) = search rules in
    let order : IfOk c.order_value.result (λ v. view v ≡ list_data number_data c.args.cert.now.order) = search rules in
    c.object.ensures _
    (c.with.ensures _ _
    (c.with-members-3.ensures _ _
    (c.with-members-2.ensures _ _
    (c.with-members.ensures _ _ c.first_members-members.ensures c.try_from_str.ensures)
    levels) nodes) order)
