-- The generated specification: n registers of a device, each with a task that writes it, and a system that asks for a
-- write to one register after the other.
use Rattle.std.specs.Prelude.{ℕ, List, [], ◌∷◌, ◌++◌, codes}
use Rattle.std.specs.List.{flat_map, range_with_len}
use Rattle.std.specs.Fmt.{decimal}

-- the template that joins the system and the device
abbrev pub main_lines : List (List ℕ)
main_lines =
    codes "template main"
    ∷ codes "instance Os os;"
    ∷ codes "instance Dev dev(os);"
    ∷ codes "endtemplate"
    ∷ []

-- the system, which asks for a write to each of n registers in turn
abbrev pub os_lines : ℕ → List (List ℕ)
os_lines n =
    codes "template Os"
    ∷ codes "uint<4> turn = 0;"
    ∷ codes "uint<8> req = 0;"
    ∷ codes "bool want = false;"
    ∷ codes "process client {"
    ∷ codes "forever {"
    ∷ codes "req = *;"
    ∷ codes "want = true;"
    ∷ codes "...;"
    ∷ codes "wait(!want);"
    ∷ codes "turn = turn + 1;"
    ∷ (codes "if (turn == " ++ decimal n ++ codes ") { turn = 0; }")
    ∷ codes "}"
    ∷ codes "}"
    ∷ codes "goal served = !want;"
    ∷ codes "endtemplate"
    ∷ []

-- register k, and the task that writes it and takes back what the system wants, where it is this register's turn
abbrev pub register_lines : ℕ → List (List ℕ)
register_lines k =
    (codes "uint<8> r" ++ decimal k ++ codes " = 0;")
    ∷ (codes "task controllable write" ++ decimal k ++ codes "(uint<8> v) { r" ++ decimal k
    ++ codes " = v; if (os.turn == " ++ decimal k ++ codes " && v == os.req) { os.want = false; } }")
    ∷ []

-- the device, which has the registers from 0 to n - 1
abbrev pub dev_lines : ℕ → List (List ℕ)
dev_lines n =
    codes "template Dev(Os os)" ∷ flat_map register_lines (range_with_len 0 n) ++ codes "endtemplate" ∷ []

-- these lines as a text: a line feed ends each
abbrev pub text_of : List (List ℕ) → List ℕ
text_of lines = flat_map (λ line. line ++ codes "\n") lines

-- the generated specification of n registers
abbrev pub generated_text : ℕ → List ℕ
generated_text n = text_of (main_lines ++ os_lines n ++ dev_lines n)
