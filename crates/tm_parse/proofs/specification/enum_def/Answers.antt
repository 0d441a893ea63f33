use Rattle.std.proofs.Common.{rules}
use Rattle.tm_parse.proofs.Ports.{enum_so_far, taken_enum, no_enum_word, no_enum_second, no_enum_brace, no_enum_names, no_enum_closing, no_enum_name, no_enum_end}
use Rattle.tm_parse.proofs.specification.enum_def.Goals as goal

pub returns-in-Err-clause-refused : goal.returns-in-Err-clause-refused
returns-in-Err-clause-refused c =
    no_enum_word c.args.text.now c.args.tokens.now _ c.in-Err.ensures.refused

pub returns-in-Err-need-clause-refused : goal.returns-in-Err-need-clause-refused
returns-in-Err-need-clause-refused c =
    no_enum_second c.args.text.now c.in-Ok.ensures.taken _ c.in-Err-need.ensures.refused

pub returns-in-Err-open-clause-refused : goal.returns-in-Err-open-clause-refused
returns-in-Err-open-clause-refused c =
    no_enum_brace c.args.text.now c.in-Ok.ensures.taken c.in-Ok-need.ensures.taken _
    c.in-Err-open.ensures.refused

pub returns-in-Err-names-clause-refused : goal.returns-in-Err-names-clause-refused
returns-in-Err-names-clause-refused c =
    let so_far = enum_so_far {text = c.args.text.now} c.in-Ok.ensures.taken c.in-Ok-need.ensures.taken
    c.in-Ok-open.ensures.taken in
    no_enum_names so_far _ c.in-Err-names.ensures.refused

pub returns-in-Err-need-2-clause-refused : goal.returns-in-Err-need-2-clause-refused
returns-in-Err-need-2-clause-refused c =
    let so_far = enum_so_far {text = c.args.text.now} c.in-Ok.ensures.taken c.in-Ok-need.ensures.taken
    c.in-Ok-open.ensures.taken in
    no_enum_closing so_far c.in-Ok-names.ensures.taken _ c.in-Err-need-2.ensures.refused

pub returns-in-Err-name-clause-refused : goal.returns-in-Err-name-clause-refused
returns-in-Err-name-clause-refused c =
    let so_far = enum_so_far {text = c.args.text.now} c.in-Ok.ensures.taken c.in-Ok-need.ensures.taken
    c.in-Ok-open.ensures.taken in
    no_enum_name so_far c.in-Ok-names.ensures.taken c.in-Ok-need-2.ensures.taken _
    c.in-Err-name.ensures.refused

pub returns-in-Err-need-3-clause-refused : goal.returns-in-Err-need-3-clause-refused
returns-in-Err-need-3-clause-refused c =
    let so_far = enum_so_far {text = c.args.text.now} c.in-Ok.ensures.taken c.in-Ok-need.ensures.taken
    c.in-Ok-open.ensures.taken in
    no_enum_end so_far c.in-Ok-names.ensures.taken c.in-Ok-need-2.ensures.taken
    c.in-Ok-name.ensures.taken _ c.in-Err-need-3.ensures.refused

pub returns-clause-taken : goal.returns-clause-taken
returns-clause-taken c =
    let so_far = enum_so_far {text = c.args.text.now} c.in-Ok.ensures.taken c.in-Ok-need.ensures.taken
    c.in-Ok-open.ensures.taken in
    taken_enum so_far c.in-Ok-names.ensures.taken c.in-Ok-need-2.ensures.taken c.in-Ok-name.ensures.taken
    c.in-Ok-need-3.ensures.taken
