use Rattle.std.proofs.Common.{arith}
use Rattle.tm_cir.specs.View.{truth_tree}
use Rattle.tm_cir.specs.Text.Token.{word, label, task, if_word, termite_leave, return_word}
use Rattle.tm_cparse.specs.View.{token_tree, tokens_of}
use Rattle.tm_cparse.proofs.Readings.{ok_map, err_map}
use Rattle.tm_struct_parse.specs.View.{draft_tree}
use Rattle.tm_struct_parse.proofs.Actions.{nothing_there, none_begins, begins_with, begun_read, begun_refused, too_deep}
use Rattle.tm_struct_parse.proofs.Endings.{block_no_begin, block_no_action, block_no_end, block_read}
use Rattle.tm_struct_parse.proofs.Tests.{test_no_condition, test_no_branches, test_read, branches_no_first}
use Rattle.tm_struct_parse.proofs.Tests.{branches_no_else, branches_no_second, branches_read}
use Rattle.tm_struct_parse.proofs.action.+reading.Goals as goal

-- ---- an action
pub action-returns-in_default-clause-refused : goal.action-returns-in_default-clause-refused
action-returns-in_default-clause-refused t c =
    nothing_there c.args.open_ifs (tokens_of c.args.spots.now) c.in_default.ensures.whole

pub action-returns-in-None-clause-refused : goal.action-returns-in-None-clause-refused
action-returns-in-None-clause-refused t c =
    none_begins c.args.open_ifs (token_tree c.in-Some.token) (tokens_of c.args.spots.now)
    (tokens_of c.in-Some.rest.now) c.in-Some.ensures.whole c.in-None.ensures

pub action-returns-else-open_ifs-lt-MOST_IFS-clause-refused :
    goal.action-returns-else-open_ifs-lt-MOST_IFS-clause-refused
action-returns-else-open_ifs-lt-MOST_IFS-clause-refused t c =
    too_deep c.args.open_ifs (tokens_of c.args.spots.now) (tokens_of c.in-Some.rest.now) (omega arith)
    (begins_with (token_tree c.in-Some.token) (word if_word) (tokens_of c.args.spots.now)
    (tokens_of c.in-Some.rest.now) c.in-Some.ensures.whole (rw c.in-Some-Test.field-0-is at c.in-Some-Test.ensures))

pub action-returns-then-open_ifs-lt-MOST_IFS-clause-taken : goal.action-returns-then-open_ifs-lt-MOST_IFS-clause-taken
action-returns-then-open_ifs-lt-MOST_IFS-clause-taken t c =
    ok_map
    (λ r h.
    begun_read c.args.open_ifs (token_tree c.in-Some.token) (word if_word) (draft_tree r.0)
    (tokens_of c.args.spots.now)
    (tokens_of c.in-Some.rest.now) (tokens_of r.1.now) c.in-Some.ensures.whole
    (rw c.in-Some-Test.field-0-is at c.in-Some-Test.ensures) h)
    c.test.result c.test.ensures.taken

pub action-returns-then-open_ifs-lt-MOST_IFS-clause-refused :
    goal.action-returns-then-open_ifs-lt-MOST_IFS-clause-refused
action-returns-then-open_ifs-lt-MOST_IFS-clause-refused t c =
    err_map
    (λ e h.
    begun_refused c.args.open_ifs (token_tree c.in-Some.token) (word if_word) (tokens_of c.args.spots.now)
    (tokens_of c.in-Some.rest.now) e c.in-Some.ensures.whole (rw c.in-Some-Test.field-0-is at c.in-Some-Test.ensures)
    h)
    c.test.result c.test.ensures.refused

pub action-returns-in-Some-Call-clause-taken : goal.action-returns-in-Some-Call-clause-taken
action-returns-in-Some-Call-clause-taken t c =
    ok_map
    (λ r h.
    begun_read c.args.open_ifs (token_tree c.in-Some.token) (task c.in-Some-Call.task) (draft_tree r.0)
    (tokens_of c.args.spots.now)
    (tokens_of c.in-Some.rest.now) (tokens_of r.1.now) c.in-Some.ensures.whole
    (rw c.in-Some-Call.field-0-is at c.in-Some-Call.ensures) (h c.args.open_ifs))
    c.call.result c.call.ensures.taken

pub action-returns-in-Some-Call-clause-refused : goal.action-returns-in-Some-Call-clause-refused
action-returns-in-Some-Call-clause-refused t c =
    err_map
    (λ e h.
    begun_refused c.args.open_ifs (token_tree c.in-Some.token) (task c.in-Some-Call.task) (tokens_of c.args.spots.now)
    (tokens_of c.in-Some.rest.now) e c.in-Some.ensures.whole (rw c.in-Some-Call.field-0-is at c.in-Some-Call.ensures)
    (h c.args.open_ifs))
    c.call.result c.call.ensures.refused

pub action-returns-in-Some-Leave-clause-taken : goal.action-returns-in-Some-Leave-clause-taken
action-returns-in-Some-Leave-clause-taken t c =
    ok_map
    (λ r h.
    begun_read c.args.open_ifs (token_tree c.in-Some.token) (word termite_leave) (draft_tree r.0)
    (tokens_of c.args.spots.now)
    (tokens_of c.in-Some.rest.now) (tokens_of r.1.now) c.in-Some.ensures.whole
    (rw c.in-Some-Leave.field-0-is at c.in-Some-Leave.ensures) (h c.args.open_ifs))
    c.leave.result c.leave.ensures.taken

pub action-returns-in-Some-Leave-clause-refused : goal.action-returns-in-Some-Leave-clause-refused
action-returns-in-Some-Leave-clause-refused t c =
    err_map
    (λ e h.
    begun_refused c.args.open_ifs (token_tree c.in-Some.token) (word termite_leave) (tokens_of c.args.spots.now)
    (tokens_of c.in-Some.rest.now) e c.in-Some.ensures.whole
    (rw c.in-Some-Leave.field-0-is at c.in-Some-Leave.ensures) (h c.args.open_ifs))
    c.leave.result c.leave.ensures.refused

pub action-returns-in-Some-Go-clause-taken : goal.action-returns-in-Some-Go-clause-taken
action-returns-in-Some-Go-clause-taken t c =
    ok_map
    (λ r h.
    begun_read c.args.open_ifs (token_tree c.in-Some.token) (label c.in-Some-Go.number) (draft_tree r.0)
    (tokens_of c.args.spots.now)
    (tokens_of c.in-Some.rest.now) (tokens_of r.1.now) c.in-Some.ensures.whole
    (rw c.in-Some-Go.field-0-is at c.in-Some-Go.ensures) (h c.args.open_ifs))
    c.go.result c.go.ensures.taken

pub action-returns-in-Some-Go-clause-refused : goal.action-returns-in-Some-Go-clause-refused
action-returns-in-Some-Go-clause-refused t c =
    err_map
    (λ e h.
    begun_refused c.args.open_ifs (token_tree c.in-Some.token) (label c.in-Some-Go.number)
    (tokens_of c.args.spots.now)
    (tokens_of c.in-Some.rest.now) e c.in-Some.ensures.whole (rw c.in-Some-Go.field-0-is at c.in-Some-Go.ensures)
    (h c.args.open_ifs))
    c.go.result c.go.ensures.refused

pub action-returns-in-Some-Idle-clause-taken : goal.action-returns-in-Some-Idle-clause-taken
action-returns-in-Some-Idle-clause-taken t c =
    ok_map
    (λ r h.
    begun_read c.args.open_ifs (token_tree c.in-Some.token) (word return_word) (draft_tree r.0)
    (tokens_of c.args.spots.now)
    (tokens_of c.in-Some.rest.now) (tokens_of r.1.now) c.in-Some.ensures.whole
    (rw c.in-Some-Idle.field-0-is at c.in-Some-Idle.ensures) (h c.args.open_ifs))
    c.idle.result c.idle.ensures.taken

pub action-returns-in-Some-Idle-clause-refused : goal.action-returns-in-Some-Idle-clause-refused
action-returns-in-Some-Idle-clause-refused t c =
    err_map
    (λ e h.
    begun_refused c.args.open_ifs (token_tree c.in-Some.token) (word return_word) (tokens_of c.args.spots.now)
    (tokens_of c.in-Some.rest.now) e c.in-Some.ensures.whole (rw c.in-Some-Idle.field-0-is at c.in-Some-Idle.ensures)
    (h c.args.open_ifs))
    c.idle.result c.idle.ensures.refused

-- ---- a test
pub test-returns-in-Err-clause-refused : goal.test-returns-in-Err-clause-refused
test-returns-in-Err-clause-refused t c =
    test_no_condition c.args.open_ifs c.requires (tokens_of c.args.spots.now) _
    c.in-Err.ensures.refused

pub test-returns-in-Err-branches-clause-refused : goal.test-returns-in-Err-branches-clause-refused
test-returns-in-Err-branches-clause-refused t c =
    test_no_branches c.args.open_ifs c.requires (truth_tree c.in-Ok.read.0) (tokens_of c.args.spots.now)
    (tokens_of c.in-Ok.read.1.now) _ c.in-Ok.ensures.taken c.in-Err-branches.ensures.refused

pub test-returns-clause-taken : goal.test-returns-clause-taken
test-returns-clause-taken t c =
    test_read c.args.open_ifs c.requires (truth_tree c.in-Ok.read.0) _ _ _ (tokens_of c.args.spots.now)
    (tokens_of c.in-Ok.read.1.now) (tokens_of c.in-Ok-branches.read.1.now) c.in-Ok.ensures.taken
    c.in-Ok-branches.ensures.taken c.in_ok-draft.ensures

-- ---- both branches
pub branches-returns-in-Err-clause-refused : goal.branches-returns-in-Err-clause-refused
branches-returns-in-Err-clause-refused t c =
    branches_no_first c.args.open_ifs (tokens_of c.args.spots.now) _ c.in-Err.ensures.refused

pub branches-returns-in-Err-need-clause-refused : goal.branches-returns-in-Err-need-clause-refused
branches-returns-in-Err-need-clause-refused t c =
    branches_no_else c.args.open_ifs (draft_tree c.in-Ok.read.0) (tokens_of c.args.spots.now)
    c.in-Ok.read.1.now _ c.in-Ok.ensures.taken c.in-Err-need.ensures.refused

pub branches-returns-in-Err-block-clause-refused : goal.branches-returns-in-Err-block-clause-refused
branches-returns-in-Err-block-clause-refused t c =
    branches_no_second c.args.open_ifs (draft_tree c.in-Ok.read.0) (tokens_of c.args.spots.now)
    (tokens_of c.in-Ok.read.1.now) (tokens_of c.in-Ok-need.read.now) _ c.in-Ok.ensures.taken
    c.in-Ok-need.ensures.taken c.in-Err-block.ensures.refused

pub branches-returns-clause-taken : goal.branches-returns-clause-taken
branches-returns-clause-taken t c =
    branches_read c.args.open_ifs (draft_tree c.in-Ok.read.0) (draft_tree c.in-Ok-block.read.0)
    (tokens_of c.args.spots.now) (tokens_of c.in-Ok.read.1.now) (tokens_of c.in-Ok-need.read.now)
    (tokens_of c.in-Ok-block.read.1.now) c.in-Ok.ensures.taken c.in-Ok-need.ensures.taken
    c.in-Ok-block.ensures.taken

-- ---- a block
pub block-returns-in-Err-clause-refused : goal.block-returns-in-Err-clause-refused
block-returns-in-Err-clause-refused t c =
    block_no_begin c.args.open_ifs c.args.spots.now _ c.in-Err.ensures.refused

pub block-returns-in-Err-action-clause-refused : goal.block-returns-in-Err-action-clause-refused
block-returns-in-Err-action-clause-refused t c =
    block_no_action c.args.open_ifs (tokens_of c.args.spots.now) (tokens_of c.in-Ok.read.now) _
    c.in-Ok.ensures.taken c.in-Err-action.ensures.refused

pub block-returns-in-Err-need_sign-clause-refused : goal.block-returns-in-Err-need_sign-clause-refused
block-returns-in-Err-need_sign-clause-refused t c =
    block_no_end c.args.open_ifs (draft_tree c.in-Ok-action.read.0) (tokens_of c.args.spots.now)
    (tokens_of c.in-Ok.read.now) c.in-Ok-action.read.1.now _ c.in-Ok.ensures.taken
    c.in-Ok-action.ensures.taken c.in-Err-need_sign.ensures.refused

pub block-returns-clause-taken : goal.block-returns-clause-taken
block-returns-clause-taken t c =
    block_read c.args.open_ifs (draft_tree c.in-Ok-action.read.0) (tokens_of c.args.spots.now)
    (tokens_of c.in-Ok.read.now)
    (tokens_of c.in-Ok-action.read.1.now) (tokens_of c.in-Ok-need_sign.read.now) c.in-Ok.ensures.taken
    c.in-Ok-action.ensures.taken c.in-Ok-need_sign.ensures.taken
