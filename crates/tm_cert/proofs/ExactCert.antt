-- A value is judged as a certificate exactly where it is this certificate for the shape.
use Rattle.std.proofs.Common.{◌≡◌, ℕ, List, Bool, true, false, Option, Some, None, Ok, Err, ok_or, option_and_then, bytes_eq, eqb, if◌then◌else◌, refl, ap, sym, ◌∙◌, subst}
use Rattle.std.proofs.lemmas.Bool.{eq-eqb, eqb-true}
use Rattle.std.proofs.lemmas.Slice.Eq.{bytes_eq-Decides}
use Rattle.std.specs.Prelude.{codes, IsTrue}
use Rattle.std.specs.List.{range_with_len}
use Rattle.serde_json.specs.Data.{Data, null, boolean, number, string, array, object, Members}
use Rattle.serde_json.specs.Find.{as_str}
use Rattle.tm_cert.specs.declared.cert.Cert.{Cert}
use Rattle.tm_cert.specs.declared.cert.Cert.TheVariants as cert
use Rattle.tm_cert.specs.declared.cert.Entry.{Entry}
use Rattle.tm_cert.specs.declared.head.Format.{Format}
use Rattle.tm_cert.specs.declared.head.Format.TheVariants.{First, Second}
use Rattle.tm_cert.specs.declared.head.Side.{Side}
use Rattle.tm_cert.specs.declared.head.Side.TheVariants.{Driver, Environment}
use Rattle.tm_cert.specs.declared.refusal.BadCert.TheVariants.{Range, Shape}
use Rattle.tm_cert.specs.declared.shape.CertShape.{CertShape}
use Rattle.tm_cert.specs.declared.shape.Kind.{Kind}
use Rattle.tm_cert.specs.Cert.{DriverData, EnvData}
use Rattle.tm_cert.specs.CertValue.{format_number, HasCert, HasDriver, HasEnvironment, HasHead, HasOrder, IsCert, IsEntry, IsGoals, IsLevel, IsOrder, side_name}
use Rattle.tm_cert.specs.Goals.{goals_at}
use Rattle.tm_cert.specs.Judge.{bits_at, cert_of, driver_of, environment_of, format_at, format_of, judge, judge_members, keys_of, of_key, order_of, same_bits, side_at, side_of, wanted_side, wants}
use Rattle.tm_cert.specs.Judged.{Judged}
use Rattle.tm_cert.specs.Levels.{levels_at, number_of_key}
use Rattle.tm_cert.specs.Nodes.{ids_of, nodes_at}
use Rattle.tm_cert.specs.Order.{order_at}
use Rattle.tm_cert.specs.Part.{members_at, number_at, only_keys}
use Rattle.tm_cert.specs.Parts.{HasOnly, IsList}
use Rattle.tm_cert.specs.Written.{number_data}
use Rattle.tm_cert.proofs.Exact.{both_parts, from_parts, passed, same_part, some_from_ok_or}
use Rattle.tm_cert.proofs.ExactNodes.{nodes_at-complete, nodes_at-sound, order_at-complete, order_at-sound}
use Rattle.tm_cert.proofs.ExactObjects.{goals_at-complete, goals_at-sound, has-complete, has-sound, key-complete, key-sound, levels_at-complete, levels_at-sound, only-complete, only-sound}
use Rattle.tm_cert.proofs.ExactParts.{members_at-sound, number_at-complete, number_at-sound}

-- ---- the format

format_cases : (path : List ℕ) (n : ℕ) (format : Format) (one two : Bool) → eqb n 1 ≡ one → eqb n 2 ≡ two
    → (let j : Judged Format = (if one then Ok First else (if two then Ok Second else Err (Range path))) in j)
    ≡ Ok format
    → n ≡ format_number format
format_cases path n format true two p q is = eqb-true n 1 p ∙ ap format_number (same_part First format is)
format_cases path n format false true p q is = eqb-true n 2 q ∙ ap format_number (same_part Second format is)
format_cases path n format false false p q is = cc

format_at-sound : (path : List ℕ) (d : Data) (format : Format) → format_at path d ≡ Ok format
    → d ≡ number_data (format_number format)
format_at-sound path d format is =
    let parts = both_parts (number_at path d) (format_of path) format is in
    number_at-sound path d parts.0 parts.1 ∙ ap number_data (format_cases path parts.0 format _ _ refl refl parts.2)

format_of-complete : (path : List ℕ) (format : Format) → format_of path (format_number format) ≡ Ok format
format_of-complete path First = refl
format_of-complete path Second = refl

format_at-complete : (path : List ℕ) (d : Data) (format : Format) → d ≡ number_data (format_number format)
    → format_at path d ≡ Ok format
format_at-complete path d format is = ap (format_at path) is ∙ format_of-complete path format

-- ---- the side

side_cases : (name : List ℕ) (side : Side) (one two : Bool) → bytes_eq name (codes "driver") ≡ one
    → bytes_eq name (codes "environment") ≡ two
    → (if one then Some Driver else (if two then Some Environment else None)) ≡ Some side → name ≡ side_name side
side_cases name side true two p q is = (bytes_eq-Decides name (codes "driver")).0 p
    ∙ ap side_name (some_same Driver side is)
  where
    some_same : (x y : Side) → Some x ≡ Some y → x ≡ y
    some_same x y is = cc
side_cases name side false true p q is =
    (bytes_eq-Decides name (codes "environment")).0 q ∙ ap side_name (some_same Environment side is)
  where
    some_same : (x y : Side) → Some x ≡ Some y → x ≡ y
    some_same x y is = cc
side_cases name side false false p q is = cc

both_some : {A B : Type 0} (o : Option A) (next : A → Option B) (y : B) → option_and_then next o ≡ Some y
    → (x : A) × (o ≡ Some x) × (next x ≡ Some y)
both_some None next y is = cc
both_some (Some x) next y is = (x, refl, is)

wanted_cases : (kind : Kind) (x side : Side) (b : Bool) → wants kind x ≡ b → (if b then Some x else None) ≡ Some side
    → (x ≡ side) × IsTrue (wants kind x)
wanted_cases kind x side true w is = (some_same x side is, w)
  where
    some_same : (x y : Side) → Some x ≡ Some y → x ≡ y
    some_same x y is = cc
wanted_cases kind x side false w is = cc

text-sound : (d : Data) (name : List ℕ) → as_str d ≡ Some name → d ≡ string name
text-sound null name is = cc
text-sound (boolean b) name is = cc
text-sound (number n) name is = cc
text-sound (string s) name is = ap string (same s name is)
  where
    same : (x y : List ℕ) → Some x ≡ Some y → x ≡ y
    same x y is = cc
text-sound (array ds) name is = cc
text-sound (object ms) name is = cc

side_at-sound : (kind : Kind) (path : List ℕ) (d : Data) (side : Side) → side_at kind path d ≡ Ok side
    → (d ≡ string (side_name side)) × IsTrue (wants kind side)
side_at-sound kind path d side is =
    let there = some_from_ok_or (option_and_then (wanted_side kind) (option_and_then side_of (as_str d)))
    (Shape path) side is in
    let outer = both_some (option_and_then side_of (as_str d)) (wanted_side kind) side there in
    let inner = both_some (as_str d) side_of outer.0 outer.1 in
    let wanted = wanted_cases kind outer.0 side _ refl outer.2 in (
      text-sound d inner.0 inner.1
          ∙ ap string (side_cases inner.0 outer.0 _ _ refl refl inner.2 ∙ ap side_name wanted.0),
      subst (λ s. IsTrue (wants kind s)) wanted.0 wanted.1,
    )

side_of-name : (side : Side) → side_of (side_name side) ≡ Some side
side_of-name Driver = refl
side_of-name Environment = refl

side_at-complete : (kind : Kind) (path : List ℕ) (d : Data) (side : Side) → d ≡ string (side_name side)
    → IsTrue (wants kind side)
    → side_at kind path d ≡ Ok side
side_at-complete kind path d side is wanted =
    ap (side_at kind path) is
    ∙ ap (λ o. ok_or (option_and_then (wanted_side kind) o) (Shape path)) (side_of-name side)
    ∙ ap (λ b. ok_or (if b then Some side else None) (Shape path)) wanted

-- ---- the bits

bits_at-sound : (bits : ℕ) (path : List ℕ) (d : Data) (n : ℕ) → bits_at bits path d ≡ Ok n → d ≡ number_data bits
bits_at-sound bits path d n is =
    let parts = both_parts (number_at path d) (same_bits bits path) n is in
    let test = passed (eqb parts.0 bits) parts.0 n (Range path) parts.2 in
    number_at-sound path d parts.0 parts.1 ∙ ap number_data (eqb-true parts.0 bits test.0)

bits_at-complete : (bits : ℕ) (path : List ℕ) (d : Data) → d ≡ number_data bits → bits_at bits path d ≡ Ok bits
bits_at-complete bits path d is =
    from_parts (number_at path d) (same_bits bits path) bits bits (number_at-complete path d bits is)
    (ap (λ b. if b then Ok bits else Err (Range path)) (eq-eqb bits bits refl))

-- ---- the order

order_of-sound : (format : Format) (bits : ℕ) (ms : Members) (order : List ℕ) → order_of format bits ms ≡ Ok order
    → HasOrder format bits ms order
order_of-sound First bits ms order is = sym (same_part (range_with_len 0 bits) order is)
order_of-sound Second bits ms order is =
    has-sound (order_at (codes "order") bits) (λ d. IsOrder bits d order) (codes "order") (codes "order") ms order
    (λ d h. order_at-sound (codes "order") bits d order h) is

order_of-complete : (format : Format) (bits : ℕ) (ms : Members) (order : List ℕ) → HasOrder format bits ms order
    → order_of format bits ms ≡ Ok order
order_of-complete First bits ms order is = ap Ok (sym is)
order_of-complete Second bits ms order is =
    has-complete (order_at (codes "order") bits) (λ d. IsOrder bits d order) (codes "order") (codes "order") ms order
    (λ d h. order_at-complete (codes "order") bits d order h) is

-- ---- certificates of each kind

driver-sound : (shape : CertShape) (format : Format) (order : List ℕ) (nodes : List Entry) (ms : Members) (c : Cert)
    → driver_of shape format order nodes ms ≡ Ok c
    → ((keys : HasOnly (keys_of format Driver) ms) → HasHead shape format Driver ms order nodes)
    → HasCert shape format ms c
unfolding driver_of
driver-sound shape format order nodes ms c is head =
    let ids = ids_of nodes in
    let region = both_parts (number_of_key ids (codes "region") (codes "region") ms) _ c is in
    let goals = both_parts (of_key (codes "goals") (goals_at shape.goals shape.fairs ids) ms) _ c region.2 in
    let only = both_parts (only_keys (λ key. key) (keys_of format Driver) ms) _ c goals.2 in
    let whole : DriverData = record { order = order; nodes = nodes; region = region.0; goals = goals.0 } in
    subst (HasCert shape format ms) (same_part (cert.Driver whole) c only.2) (record {
      head = head (only-sound (λ key. key) (keys_of format Driver) ms only.0 only.1);
      region_is = key-sound ids (codes "region") (codes "region") ms region.0 region.1;
      goals_are = has-sound (goals_at shape.goals shape.fairs ids (codes "goals"))
          (λ d. IsGoals shape.goals shape.fairs ids d goals.0) (codes "goals") (codes "goals") ms goals.0
          (λ d h. goals_at-sound shape.goals shape.fairs ids (codes "goals") d goals.0 h) goals.1;
    })

driver-complete : (shape : CertShape) (format : Format) (ms : Members) (c : DriverData) → HasDriver shape format ms c
    → driver_of shape format c.order c.nodes ms ≡ Ok (cert.Driver c)
unfolding driver_of
driver-complete shape format ms c has =
    let ids = ids_of c.nodes in
    from_parts (number_of_key ids (codes "region") (codes "region") ms) _ c.region (cert.Driver c)
    (key-complete ids (codes "region") (codes "region") ms c.region has.region_is)
    (from_parts (of_key (codes "goals") (goals_at shape.goals shape.fairs ids) ms) _ c.goals (cert.Driver c)
    (has-complete (goals_at shape.goals shape.fairs ids (codes "goals"))
    (λ d. IsGoals shape.goals shape.fairs ids d c.goals) (codes "goals") (codes "goals") ms c.goals
    (λ d h. goals_at-complete shape.goals shape.fairs ids (codes "goals") d c.goals h) has.goals_are)
    (from_parts (only_keys (λ key. key) (keys_of format Driver) ms) _ tt (cert.Driver c)
    (only-complete (λ key. key) (keys_of format Driver) ms has.head.no_other) refl))

environment-sound : (shape : CertShape) (format : Format) (order : List ℕ) (nodes : List Entry) (ms : Members)
    (c : Cert)
    → environment_of shape format order nodes ms ≡ Ok c
    → ((keys : HasOnly (keys_of format Environment) ms) → HasHead shape format Environment ms order nodes)
    → HasCert shape format ms c
unfolding environment_of
environment-sound shape format order nodes ms c is head =
    let ids = ids_of nodes in
    let levels = both_parts (of_key (codes "levels") (levels_at shape.goals shape.fairs ids) ms) _ c is in
    let only = both_parts (only_keys (λ key. key) (keys_of format Environment) ms) _ c levels.2 in
    let whole : EnvData = record { order = order; nodes = nodes; levels = levels.0 } in
    subst (HasCert shape format ms) (same_part (cert.Environment whole) c only.2) (record {
      head = head (only-sound (λ key. key) (keys_of format Environment) ms only.0 only.1);
      levels_are = has-sound (levels_at shape.goals shape.fairs ids (codes "levels"))
          (λ d. IsList (λ _. IsLevel shape.goals shape.fairs ids) d levels.0) (codes "levels") (codes "levels") ms
          levels.0
          (λ d h. levels_at-sound shape.goals shape.fairs ids (codes "levels") d levels.0 h) levels.1;
    })

environment-complete : (shape : CertShape) (format : Format) (ms : Members) (c : EnvData)
    → HasEnvironment shape format ms c
    → environment_of shape format c.order c.nodes ms ≡ Ok (cert.Environment c)
unfolding environment_of
environment-complete shape format ms c has =
    let ids = ids_of c.nodes in
    from_parts (of_key (codes "levels") (levels_at shape.goals shape.fairs ids) ms) _ c.levels (cert.Environment c)
    (has-complete (levels_at shape.goals shape.fairs ids (codes "levels"))
    (λ d. IsList (λ _. IsLevel shape.goals shape.fairs ids) d c.levels) (codes "levels") (codes "levels") ms c.levels
    (λ d h. levels_at-complete shape.goals shape.fairs ids (codes "levels") d c.levels h) has.levels_are)
    (from_parts (only_keys (λ key. key) (keys_of format Environment) ms) _ tt (cert.Environment c)
    (only-complete (λ key. key) (keys_of format Environment) ms has.head.no_other) refl)

cert-sound : (shape : CertShape) (format : Format) (order : List ℕ) (nodes : List Entry) (ms : Members)
    (side : Side) (c : Cert)
    → cert_of shape format order nodes ms side ≡ Ok c
    → ((keys : HasOnly (keys_of format side) ms) → HasHead shape format side ms order nodes)
    → HasCert shape format ms c
cert-sound shape format order nodes ms Driver c is head = driver-sound shape format order nodes ms c is head
cert-sound shape format order nodes ms Environment c is head = environment-sound shape format order nodes ms c is head

members-sound : (shape : CertShape) (ms : Members) (c : Cert) → judge_members shape ms ≡ Ok c
    → (format : Format) × HasCert shape format ms c
unfolding judge_members
members-sound shape ms c is =
    let format = both_parts (of_key (codes "format") format_at ms) _ c is in
    let side = both_parts (of_key (codes "kind") (side_at shape.wanted) ms) _ c format.2 in
    let bits = both_parts (of_key (codes "bits") (bits_at shape.bits) ms) _ c side.2 in
    let order = both_parts (order_of format.0 shape.bits ms) _ c bits.2 in
    let nodes = both_parts (of_key (codes "nodes") (λ path. nodes_at path shape.bits) ms) _ c order.2 in
    let kind = has-sound (side_at shape.wanted (codes "kind"))
    (λ d. (d ≡ string (side_name side.0)) × IsTrue (wants shape.wanted side.0)) (codes "kind") (codes "kind") ms side.0
    (λ d h. side_at-sound shape.wanted (codes "kind") d side.0 h) side.1 in (
      format.0,
      cert-sound shape format.0 order.0 nodes.0 ms side.0 c nodes.2 (λ keys. record {
        format_is = has-sound (format_at (codes "format")) (λ d. d
            ≡ number_data (format_number format.0)) (codes "format")
            (codes "format") ms format.0 (λ d h. format_at-sound (codes "format") d format.0 h) format.1;
        kind_is = (kind.0, kind.1, kind.2.0);
        is_wanted = kind.2.1;
        bits_are = has-sound (bits_at shape.bits (codes "bits")) (λ d. d ≡ number_data shape.bits) (codes "bits")
            (codes "bits") ms bits.0 (λ d h. bits_at-sound shape.bits (codes "bits") d bits.0 h) bits.1;
        order_is = order_of-sound format.0 shape.bits ms order.0 order.1;
        nodes_are = has-sound (nodes_at (codes "nodes") shape.bits) (λ d. IsList (IsEntry shape.bits) d nodes.0)
            (codes "nodes") (codes "nodes") ms nodes.0
            (λ d h. nodes_at-sound (codes "nodes") shape.bits d nodes.0 h) nodes.1;
        no_other = keys;
      }),
    )

head-complete : (shape : CertShape) (format : Format) (side : Side) (ms : Members) (order : List ℕ) (nodes : List Entry)
    (c : Cert) → HasHead shape format side ms order nodes → cert_of shape format order nodes ms side ≡ Ok c
    → judge_members shape ms ≡ Ok c
unfolding judge_members
head-complete shape format side ms order nodes c head is =
    from_parts (of_key (codes "format") format_at ms) _ format c
    (has-complete (format_at (codes "format")) (λ d. d ≡ number_data (format_number format)) (codes "format")
    (codes "format") ms format (λ d h. format_at-complete (codes "format") d format h) head.format_is)
    (from_parts (of_key (codes "kind") (side_at shape.wanted) ms) _ side c
    (has-complete (side_at shape.wanted (codes "kind")) (λ d. d ≡ string (side_name side)) (codes "kind") (codes "kind")
    ms side (λ d h. side_at-complete shape.wanted (codes "kind") d side h head.is_wanted) head.kind_is)
    (from_parts (of_key (codes "bits") (bits_at shape.bits) ms) _ shape.bits c
    (has-complete (bits_at shape.bits (codes "bits")) (λ d. d ≡ number_data shape.bits) (codes "bits") (codes "bits") ms
    shape.bits (λ d h. bits_at-complete shape.bits (codes "bits") d h) head.bits_are)
    (from_parts (order_of format shape.bits ms) _ order c (order_of-complete format shape.bits ms order head.order_is)
    (from_parts (of_key (codes "nodes") (λ path. nodes_at path shape.bits) ms) _ nodes c
    (has-complete (nodes_at (codes "nodes") shape.bits) (λ d. IsList (IsEntry shape.bits) d nodes) (codes "nodes")
    (codes "nodes") ms nodes (λ d h. nodes_at-complete (codes "nodes") shape.bits d nodes h) head.nodes_are)
    is))))

members-complete : (shape : CertShape) (format : Format) (ms : Members) (c : Cert) → HasCert shape format ms c
    → judge_members shape ms ≡ Ok c
members-complete shape format ms (cert.Driver c) has =
    head-complete shape format Driver ms c.order c.nodes (cert.Driver c) has.head
    (driver-complete shape format ms c has)
members-complete shape format ms (cert.Environment c) has =
    head-complete shape format Environment ms c.order c.nodes (cert.Environment c) has.head
    (environment-complete shape format ms c has)

-- ---- values

pub judge-sound : (shape : CertShape) (d : Data) (c : Cert) → judge shape d ≡ Ok c → IsCert shape d c
judge-sound shape d c is =
    let parts = both_parts (members_at (codes "format") d) (judge_members shape) c is in
    let found = members-sound shape parts.0 c parts.2 in
    (found.0, parts.0, members_at-sound (codes "format") d parts.0 parts.1, found.1)

pub judge-complete : (shape : CertShape) (d : Data) (c : Cert) → IsCert shape d c → judge shape d ≡ Ok c
judge-complete shape d c is =
    from_parts (members_at (codes "format") d) (judge_members shape) is.1 c (ap (members_at (codes "format")) is.2)
    (members-complete shape is.0 is.1 c is.3)
