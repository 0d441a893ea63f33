use Rattle.std.proofs.Common.{◌≡◌, ◌+◌, ◌∷◌, [], length, length-append, ap, ◌∙◌, arith}
use Rattle.tm_locations.specs.Inner.Walks.{WalkTables, tables_of}
use Rattle.tm_locations.specs.declared.table.RestNode.{RestNode}
use Rattle.tm_locations.proofs.WalkSteps.{grown-rest, rest-pushed}
use Rattle.tm_locations.proofs.walk.Walk.rest.Goals as goal

pub returns-clause-grown : goal.returns-clause-grown
returns-clause-grown c =
    let w : WalkTables = tables_of c.args.self.now in
    let v : WalkTables = record w { rests = c.push.new.self.items } in
    let n : RestNode =
    record { scope = c.args.frame.scope; trail = c.args.frame.trail; work = c.args.work; then = c.args.then } in
    grown-rest w v n (ap (λ rests. record w { rests = rests }) c.in_ok-push.ensures.items)

pub returns-clause-work : goal.returns-clause-work
returns-clause-work c = λ trail items it ir.
    let w : WalkTables = tables_of c.args.self.now in
    let v : WalkTables = record w { rests = c.push.new.self.items } in
    let n : RestNode =
    record { scope = c.args.frame.scope; trail = c.args.frame.trail; work = c.args.work; then = c.args.then } in
    let long : length c.push.new.self.items ≡ length w.rests + 1 =
    ap length c.in_ok-push.ensures.items ∙ length-append w.rests (n ∷ []) in
    let count : c.len.result ≡ length c.push.new.self.items = c.len.ensures ∙ c.push.new.self.ok.0 in
    rest-pushed w v n (ap (λ rests. record w { rests = rests }) c.in_ok-push.ensures.items) c.len.result
    (omega (arith, count, long)) trail items it ir
