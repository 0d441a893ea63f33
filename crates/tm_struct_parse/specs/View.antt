-- What the code's drafts are as plain data.
use Rattle.std.specs.Prelude.{List, map}
use Rattle.tm_cir.specs.View.{num_tree, truth_tree}
use Rattle.tm_struct.specs.Tree.{ActionTree, choose, call, leave, go, idle}
use Rattle.tm_struct_parse.specs.declared.draft.Draft.{Draft}
use Rattle.tm_struct_parse.specs.declared.draft.Draft.TheVariants.{If', Call, Leave, Go, Idle}
use Rattle.tm_struct_parse.specs.declared.draft.NamedDraft.{NamedDraft}
use Rattle.tm_struct_parse.specs.declared.draft.ProgramDraft.{ProgramDraft}
use Rattle.tm_struct_parse.specs.Written.{WrittenFunction, WrittenProgram}

-- what a function does
abbrev pub draft_tree : Draft → ActionTree
draft_tree (If' t _ a _ b) = choose (truth_tree t) (draft_tree a) (draft_tree b)
draft_tree (Call task args) = call task (map num_tree args.items)
draft_tree (Leave p) = leave p
draft_tree (Go k) = go k
draft_tree Idle = idle

-- a function with the number in its name
abbrev pub named_tree : NamedDraft → WrittenFunction
named_tree f = record { number = f.number; action = draft_tree f.draft }

-- a driver as it is written
abbrev pub draft_program : ProgramDraft → WrittenProgram
draft_program p = record { functions = map named_tree p.functions.items; main = draft_tree p.main }
