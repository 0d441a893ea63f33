-- The lines of reports. A line ends in a line feed.
use Rattle.std.specs.Prelude.{ℕ, Result, Ok, Err, List, [], ◌∷◌, ◌++◌, codes, length, slice_index}
use Rattle.std.specs.Fmt.{decimal}
use Rattle.std.specs.List.{flat_map, range_with_len}
use Rattle.tm_base.specs.declared.place.Place.{Place}
use Rattle.tm_syntax.specs.declared.fault.FaultKind.{FaultKind}
use Rattle.tm_syntax.specs.declared.fault.FaultKind.TheVariants as kind
use Rattle.tm_syntax.specs.declared.fault.Quantity.{Quantity}
use Rattle.tm_syntax.specs.declared.fault.Quantity.TheVariants as quantity
use Rattle.tm_syntax.specs.declared.fault.Detail.{Detail}
use Rattle.tm_syntax.specs.declared.fault.Detail.TheVariants as detail
use Rattle.tm_syntax.specs.declared.fault.Faulty.{Faulty as Fault}
use Rattle.tm_cparse.specs.declared.bad.BadDriver.{BadDriver}
use Rattle.tm_cparse.specs.declared.bad.BadDriver.TheVariants as driver
use Rattle.tm_struct_parse.specs.declared.bad.BadStructured.{BadStructured}
use Rattle.tm_struct_parse.specs.declared.bad.BadStructured.TheVariants as structs
use Rattle.tm_cert.specs.declared.refusal.BadCert.{BadCert}
use Rattle.tm_cert.specs.declared.refusal.BadCert.TheVariants as cert
use Rattle.tm_report.specs.declared.ending.Bad.{Bad}
use Rattle.tm_report.specs.declared.ending.Bad.TheVariants.{TooLong, Driver, Structured, Cert, Choices}
use Rattle.tm_play.specs.Report.{end_text, path_at, state_text}
use Rattle.tm_refine.specs.declared.trace.Added.{Added}
use Rattle.tm_refine.specs.declared.trace.Trace.{Trace}
use Rattle.tm_sem.specs.State.{StateData}
use Rattle.tm_syntax.specs.Design.{DesignTree}
use Rattle.tm_report.specs.declared.ending.Ending.{Ending}
use Rattle.tm_report.specs.declared.ending.Ending.TheVariants.{Usage, Faulty, Play, Generated, Migrated}
use Rattle.tm_report.specs.declared.ending.Ending.TheVariants.{BadText, Accepted, AcceptedEnvironment, Refused}
use Rattle.tm_report.specs.declared.ending.Ending.TheVariants.{Budget, Environment}
use Rattle.tm_report.specs.declared.ending.Ending.TheVariants as endings
use Rattle.tm_report.specs.declared.ending.Failure.{Failure}
use Rattle.tm_report.specs.declared.ending.Failure.TheVariants.{ReadFault, WriteFault, Memory}

-- `F` and the number of a kind of faults
abbrev pub kind_text : FaultKind → List ℕ
kind_text kind.Byte = codes "F1"
kind_text kind.Syntax = codes "F2"
kind_text kind.Deep = codes "F3"
kind_text kind.UnknownName = codes "F4"
kind_text kind.Twice = codes "F5"
kind_text kind.Mismatch = codes "F6"
kind_text kind.Literal = codes "F7"
kind_text kind.CallCycle = codes "F8"
kind_text kind.LoopWithoutLocation = codes "F9"
kind_text kind.LocationInAtomic = codes "F10"
kind_text kind.TemplateCycle = codes "F11"
kind_text kind.Limit = codes "F12"

-- `LINE:COLUMN`
abbrev pub at_text : Place → List ℕ
at_text at = decimal at.line ++ codes ":" ++ decimal at.column

-- the word of a quantity that has a limit
abbrev pub quantity_text : Quantity → List ℕ
quantity_text quantity.Specification = codes "specification"
quantity_text quantity.Name = codes "name"
quantity_text quantity.Statements = codes "statements"
quantity_text quantity.Instances = codes "instances"
quantity_text quantity.Processes = codes "processes"
quantity_text quantity.Goals = codes "goals"
quantity_text quantity.Fairness = codes "fairness"
quantity_text quantity.Tasks = codes "tasks"
quantity_text quantity.State = codes "state"
quantity_text quantity.Choices = codes "choices"
quantity_text quantity.Arguments = codes "arguments"
quantity_text quantity.Locations = codes "locations"
quantity_text quantity.Atoms = codes "atoms"

-- what a fault says beside its kind and place, each part behind a space
abbrev pub detail_text : Detail → List ℕ
detail_text detail.Nothing = []
detail_text (detail.Named name) = codes " " ++ name
detail_text (detail.Limit what limit found) =
    codes " " ++ quantity_text what ++ codes " " ++ decimal limit ++ codes " " ++ decimal found

-- the line of a fault
abbrev pub fault_line : Fault → List ℕ
fault_line f = codes "faulty " ++ kind_text f.kind ++ codes " " ++ at_text f.place ++ detail_text f.detail ++ codes "\n"

-- why a text is no driver
abbrev pub bad_driver_text : BadDriver → List ℕ
bad_driver_text driver.TooLong = codes "too long"
bad_driver_text (driver.Text n) = codes "text " ++ decimal n
bad_driver_text (driver.UnknownName n) = codes "name " ++ decimal n
bad_driver_text (driver.BackwardGoto n) = codes "backward " ++ decimal n

-- why a text is no structured driver
abbrev pub bad_structured_text : BadStructured → List ℕ
bad_structured_text structs.TooLong = codes "too long"
bad_structured_text (structs.Text n) = codes "text " ++ decimal n
bad_structured_text (structs.UnknownName n) = codes "name " ++ decimal n
bad_structured_text (structs.ForwardCall n) = codes "forward " ++ decimal n

-- why a text is no certificate
abbrev pub bad_cert_text : BadCert → List ℕ
bad_cert_text cert.Json = codes "json"
bad_cert_text (cert.Shape path) = codes "shape " ++ path
bad_cert_text (cert.Range path) = codes "range " ++ path
bad_cert_text (cert.Node id) = codes "node " ++ decimal id

-- why a text has no reading
abbrev pub bad_text : Bad → List ℕ
bad_text TooLong = codes "too long"
bad_text (Driver bad) = bad_driver_text bad
bad_text (Structured bad) = bad_structured_text bad
bad_text (Cert bad) = bad_cert_text bad
bad_text (Choices n) = codes "line " ++ decimal n

-- the line of a goal of a driver that is accepted: its number, its path, and how many ranked regions it has
abbrev pub goal_line : DesignTree → List ℕ → ℕ → List ℕ
goal_line d ranks goal =
    codes "goal " ++ decimal goal ++ codes " " ++ path_at d.goals goal ++ codes " rank "
    ++ decimal (slice_index ranks goal) ++ codes "\n"

-- the lines of a driver that is accepted
abbrev pub accepted_text : DesignTree → List ℕ → List ℕ
accepted_text d ranks =
    codes "accepted driver\n" ++ flat_map (goal_line d ranks) (range_with_len 0 (length ranks))

-- the line of the numbers of an environment's certificate: of levels, of fairness conditions, and of sets in the
-- longest chain
abbrev pub numbers_line : (levels conditions chain : ℕ) → List ℕ
numbers_line levels conditions chain =
    codes "levels " ++ decimal levels ++ codes " conditions " ++ decimal conditions ++ codes " chain "
    ++ decimal chain ++ codes "\n"

-- the lines of an environment that is accepted
abbrev pub levels_text : (levels conditions chain : ℕ) → List ℕ
levels_text levels conditions chain = codes "accepted environment\n" ++ numbers_line levels conditions chain

-- the line of how many predicates are tracked from the start
abbrev pub track_line : ℕ → List ℕ
track_line first = codes "track " ++ decimal first ++ codes "\n"

-- the line of a predicate that was added: its number in the pool, and the two states that it tells apart
abbrev pub add_line : DesignTree → Added → List ℕ
add_line d a =
    codes "add " ++ decimal a.predicate ++ codes ": " ++ state_text d a.left ++ codes " / " ++ state_text d a.right
    ++ codes "\n"

-- the lines of the predicates that were tracked, in order
abbrev pub trace_text : DesignTree → Trace → List ℕ
trace_text d t = track_line t.first ++ flat_map (add_line d) t.added.items

-- the line of the number of nodes of a certificate
abbrev pub nodes_line : ℕ → List ℕ
nodes_line nodes = codes "nodes " ++ decimal nodes ++ codes "\n"

-- the lines of a driver that was found
abbrev pub driver_found_text : DesignTree → (ranks : List ℕ) → Trace → (nodes : ℕ) → List ℕ
driver_found_text d ranks t nodes =
    codes "driver\n" ++ (trace_text d t
    ++ (flat_map (goal_line d ranks) (range_with_len 0 (length ranks)) ++ nodes_line nodes))

-- the lines of a design that has no driver
abbrev pub environment_found_text : DesignTree → (levels conditions chain : ℕ) → Trace → List ℕ
environment_found_text d levels conditions chain t =
    codes "environment\n" ++ (trace_text d t ++ numbers_line levels conditions chain)

-- the line of how many predicates could be added
abbrev pub budget_line : ℕ → List ℕ
budget_line budget = codes "budget " ++ decimal budget ++ codes "\n"

-- the lines of a design that a budget leaves undecided
abbrev pub budget_text : DesignTree → (budget : ℕ) → Trace → List ℕ
budget_text d budget t = budget_line budget ++ trace_text d t

-- the line of a condition that fails, with its letter: its number, the goal, and the state that are reported
abbrev pub refused_text : DesignTree → (letter : List ℕ) (condition goal : ℕ) → StateData → List ℕ
refused_text d letter condition goal s =
    codes "refused " ++ letter ++ decimal condition ++ codes " goal " ++ decimal goal ++ codes " "
    ++ state_text d s ++ codes "\n"

-- the usage text
abbrev pub usage_text : List ℕ
usage_text =
    codes "usage: termite synth SPEC OUT [--budget N]\n"
    ++ codes "       termite check SPEC DRIVER CERT\n"
    ++ codes "       termite check SPEC CERT\n"
    ++ codes "       termite run SPEC DRIVER CHOICES\n"
    ++ codes "       termite gen N OUT\n"
    ++ codes "       termite migrate SPEC CERT OUT\n"
    ++ codes "       termite structure SPEC DRIVER OUT\n"
    ++ codes "       termite unstructure SPEC STRUCT OUT\n"

-- the lines that tell an end; those of `synth` and of `check` on a certificate, which speak of the design, are put on
-- the way
abbrev pub ending_text : Ending → List ℕ
ending_text Usage = usage_text
ending_text (Faulty f) = fault_line f
ending_text (Play end) = end_text end
ending_text (endings.Driver ranks trace nodes) = []
ending_text (Environment levels conditions chain trace) = []
ending_text (Budget budget trace) = []
ending_text (Accepted ranks) = []
ending_text (AcceptedEnvironment levels conditions chain) = []
ending_text (Refused condition goal s) = []
ending_text (Generated registers) = codes "generated " ++ decimal registers ++ codes "\n"
ending_text Migrated = codes "migrated\n"
ending_text (endings.Structured functions) = codes "structured " ++ decimal functions ++ codes "\n"
ending_text (endings.Unstructured blocks) = codes "unstructured " ++ decimal blocks ++ codes "\n"
ending_text (BadText file why) = codes "bad " ++ file ++ codes " " ++ bad_text why ++ codes "\n"

-- the line that tells a failure, if it has one: none where the output or memory failed
abbrev pub failure_text : Failure → List ℕ
failure_text (ReadFault name) = codes "read fault " ++ name ++ codes "\n"
failure_text (WriteFault []) = []
failure_text (WriteFault (b ∷ bs)) = codes "write fault " ++ (b ∷ bs) ++ codes "\n"
failure_text Memory = []

-- the lines that tell an end or a failure
abbrev pub outcome_text : Result Ending Failure → List ℕ
outcome_text (Ok ending) = ending_text ending
outcome_text (Err failure) = failure_text failure
