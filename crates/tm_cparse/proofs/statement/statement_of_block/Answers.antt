use Rattle.tm_cir.specs.Text.Token.{word, task, if_word, termite_leave, return_word}
use Rattle.tm_cparse.specs.View.{token_tree, tokens_of, statement_tree}
use Rattle.tm_cparse.proofs.Readings.{refused_behind, ok_map, err_map}
use Rattle.tm_cparse.proofs.Statements.{begun_with, begun_read, none_begins, nothing_there}
use Rattle.tm_cparse.proofs.statement.statement_of_block.Goals as goal

pub returns-in_default-clause-refused : goal.returns-in_default-clause-refused
returns-in_default-clause-refused c = nothing_there (tokens_of c.args.spots.now) c.in_default.ensures.whole

pub returns-in-None-clause-refused : goal.returns-in-None-clause-refused
returns-in-None-clause-refused c =
    none_begins (token_tree c.in-Some.token) (tokens_of c.args.spots.now) (tokens_of c.in-Some.rest.now)
    c.in-Some.ensures.whole c.in-None.ensures

pub returns-in-Some-Test-clause-taken : goal.returns-in-Some-Test-clause-taken
returns-in-Some-Test-clause-taken c =
    ok_map
    (λ r h.
    begun_read (token_tree c.in-Some.token) (word if_word) (statement_tree r.0) (tokens_of c.args.spots.now)
    (tokens_of c.in-Some.rest.now) (tokens_of r.1.now)
    c.in-Some.ensures.whole (rw c.in-Some-Test.field-0-is at c.in-Some-Test.ensures) h)
    c.test.result c.test.ensures.taken

pub returns-in-Some-Test-clause-refused : goal.returns-in-Some-Test-clause-refused
returns-in-Some-Test-clause-refused c =
    err_map
    (λ e h.
    refused_behind
    (begun_with (token_tree c.in-Some.token) (word if_word) (tokens_of c.args.spots.now) (tokens_of c.in-Some.rest.now)
    c.in-Some.ensures.whole (rw c.in-Some-Test.field-0-is at c.in-Some-Test.ensures)) e h)
    c.test.result c.test.ensures.refused

pub returns-in-Some-Call-clause-taken : goal.returns-in-Some-Call-clause-taken
returns-in-Some-Call-clause-taken c =
    ok_map
    (λ r h.
    begun_read (token_tree c.in-Some.token) (task c.in-Some-Call.number) (statement_tree r.0)
    (tokens_of c.args.spots.now)
    (tokens_of c.in-Some.rest.now) (tokens_of r.1.now)
    c.in-Some.ensures.whole (rw c.in-Some-Call.field-0-is at c.in-Some-Call.ensures) h)
    c.call.result c.call.ensures.taken

pub returns-in-Some-Call-clause-refused : goal.returns-in-Some-Call-clause-refused
returns-in-Some-Call-clause-refused c =
    err_map
    (λ e h.
    refused_behind
    (begun_with (token_tree c.in-Some.token) (task c.in-Some-Call.number) (tokens_of c.args.spots.now)
    (tokens_of c.in-Some.rest.now)
    c.in-Some.ensures.whole (rw c.in-Some-Call.field-0-is at c.in-Some-Call.ensures)) e h)
    c.call.result c.call.ensures.refused

pub returns-in-Some-Leave-clause-taken : goal.returns-in-Some-Leave-clause-taken
returns-in-Some-Leave-clause-taken c =
    ok_map
    (λ r h.
    begun_read (token_tree c.in-Some.token) (word termite_leave) (statement_tree r.0) (tokens_of c.args.spots.now)
    (tokens_of c.in-Some.rest.now) (tokens_of r.1.now)
    c.in-Some.ensures.whole (rw c.in-Some-Leave.field-0-is at c.in-Some-Leave.ensures) h)
    c.leave.result c.leave.ensures.taken

pub returns-in-Some-Leave-clause-refused : goal.returns-in-Some-Leave-clause-refused
returns-in-Some-Leave-clause-refused c =
    err_map
    (λ e h.
    refused_behind
    (begun_with (token_tree c.in-Some.token) (word termite_leave) (tokens_of c.args.spots.now)
    (tokens_of c.in-Some.rest.now)
    c.in-Some.ensures.whole (rw c.in-Some-Leave.field-0-is at c.in-Some-Leave.ensures)) e h)
    c.leave.result c.leave.ensures.refused

pub returns-in-Some-Idle-clause-taken : goal.returns-in-Some-Idle-clause-taken
returns-in-Some-Idle-clause-taken c =
    ok_map
    (λ r h.
    begun_read (token_tree c.in-Some.token) (word return_word) (statement_tree r.0) (tokens_of c.args.spots.now)
    (tokens_of c.in-Some.rest.now) (tokens_of r.1.now)
    c.in-Some.ensures.whole (rw c.in-Some-Idle.field-0-is at c.in-Some-Idle.ensures) h)
    c.idle.result c.idle.ensures.taken

pub returns-in-Some-Idle-clause-refused : goal.returns-in-Some-Idle-clause-refused
returns-in-Some-Idle-clause-refused c =
    err_map
    (λ e h.
    refused_behind
    (begun_with (token_tree c.in-Some.token) (word return_word) (tokens_of c.args.spots.now)
    (tokens_of c.in-Some.rest.now)
    c.in-Some.ensures.whole (rw c.in-Some-Idle.field-0-is at c.in-Some-Idle.ensures)) e h)
    c.idle.result c.idle.ensures.refused
