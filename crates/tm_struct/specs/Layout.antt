-- The layout of printed structured text: a line of each brace, test, call, leave and `return` begins with one tab for
-- each open brace, and within a line stand the blanks of the printed C text with jumps.
use Rattle.std.specs.Prelude.{ℕ, ◌+◌, List, [], ◌∷◌, ◌++◌, codes, replicate}
use Rattle.std.specs.Fmt.{decimal}
use Rattle.tm_syntax.specs.Design.{DesignTree}
use Rattle.tm_cprint.specs.Layout.{task_name, constant_text, truth_text, arguments_text}
use Rattle.tm_struct.specs.Tree.{ActionTree, choose, call, leave, go, idle, ProgramTree}

-- the tabs before a line inside so many open `if` and the braces of a function (9 is a tab)
abbrev pub indent : ℕ → List ℕ
indent open_ifs = 9 ∷ replicate open_ifs 9

-- an action, inside so many open `if`
abbrev pub action_text : DesignTree → ℕ → ActionTree → List ℕ
action_text d open_ifs (choose t a b) =
    indent open_ifs ++ codes "if (" ++ truth_text d t ++ codes ") {\n" ++ action_text d (open_ifs + 1) a
    ++ indent open_ifs ++ codes "} else {\n" ++ action_text d (open_ifs + 1) b ++ indent open_ifs ++ codes "}\n"
action_text d open_ifs (call k args) =
    indent open_ifs ++ task_name d k ++ codes "(" ++ arguments_text d args ++ codes ");\n"
action_text d open_ifs (leave p) = indent open_ifs ++ codes "termite_leave(" ++ constant_text p ++ codes ");\n"
action_text d open_ifs (go k) = indent open_ifs ++ codes "b" ++ decimal k ++ codes "();\n"
action_text d open_ifs idle = indent open_ifs ++ codes "return;\n"

-- a function behind its name: its braces and what it does
abbrev pub body_text : DesignTree → ActionTree → List ℕ
body_text d a = codes "(void)\n{\n" ++ action_text d 0 a ++ codes "}\n"

-- functions, of which the first has this number, each with an empty line behind it
abbrev pub functions_text : DesignTree → ℕ → List ActionTree → List ℕ
functions_text d k [] = []
functions_text d k (a ∷ others) =
    codes "static void b" ++ decimal k ++ body_text d a ++ codes "\n" ++ functions_text d (k + 1) others

-- the whole text
abbrev pub program_text : DesignTree → ProgramTree → List ℕ
program_text d p =
    codes "#include \"termite.h\"\n\n" ++ functions_text d 0 p.functions ++ codes "void driver_turn"
    ++ body_text d p.main
