-- What a text is judged as: the certificate that it is for a shape, or its first fault. The keys are judged in the
-- order `format`, `kind`, `bits`, `order`, `nodes`, then `region` and `goals`, or `levels`, and at last any other key.
use Rattle.std.specs.Prelude.{ℕ, ◌==◌, List, [], ◌∷◌, Bool, true, false, Option, Some, None, ok_or, option_and_then, if◌then◌else◌, codes, bytes_eq, Ok, Err}
use Rattle.std.specs.List.{range_with_len}
use Rattle.std.specs.Str.{is_utf8}
use Rattle.serde_json.specs.Data.{Data, Members}
use Rattle.serde_json.specs.Find.{as_str}
use Rattle.serde_json.specs.Read.{read}
use Rattle.tm_cert.specs.declared.cert.Cert.{Cert}
use Rattle.tm_cert.specs.declared.cert.Cert.TheVariants as cert
use Rattle.tm_cert.specs.declared.cert.Entry.{Entry}
use Rattle.tm_cert.specs.declared.refusal.BadCert.TheVariants.{Json, Range, Shape}
use Rattle.tm_cert.specs.declared.shape.CertShape.{CertShape}
use Rattle.tm_cert.specs.declared.shape.Kind.{Kind}
use Rattle.tm_cert.specs.declared.shape.Kind.TheVariants as wanted
use Rattle.tm_cert.specs.declared.head.Format.{Format}
use Rattle.tm_cert.specs.declared.head.Format.TheVariants.{First, Second}
use Rattle.tm_cert.specs.declared.head.Side.{Side}
use Rattle.tm_cert.specs.declared.head.Side.TheVariants.{Driver, Environment}
use Rattle.tm_cert.specs.Judged.{Judged, and_then}
use Rattle.tm_cert.specs.Part.{number_at, members_at, value_at, only_keys}
use Rattle.tm_cert.specs.Order.{order_at}
use Rattle.tm_cert.specs.Nodes.{nodes_at, ids_of}
use Rattle.tm_cert.specs.Goals.{goals_at}
use Rattle.tm_cert.specs.Levels.{levels_at, number_of_key}

-- the value of a key of the certificate, judged at its path
abbrev pub of_key : {A : Type 0} → List ℕ → (List ℕ → Data → Judged A) → Members → Judged A
of_key key judge ms = and_then (value_at key key ms) (judge key)

-- a format is 1 or 2
abbrev pub format_of : List ℕ → ℕ → Judged Format
format_of path n = if n == 1 then Ok First else (if n == 2 then Ok Second else Err (Range path))

-- the format that a value gives
abbrev pub format_at : List ℕ → Data → Judged Format
format_at path d = and_then (number_at path d) (format_of path)

-- the side that a kind of certificate speaks for
abbrev pub side_of : List ℕ → Option Side
side_of name =
    if bytes_eq name (codes "driver") then Some Driver
    else (if bytes_eq name (codes "environment") then Some Environment else None)

-- whether a command wants a certificate of this side
abbrev pub wants : Kind → Side → Bool
wants wanted.Either side = true
wants wanted.Driver Driver = true
wants wanted.Driver Environment = false
wants wanted.Environment Driver = false
wants wanted.Environment Environment = true

-- the side, if it is wanted
abbrev pub wanted_side : Kind → Side → Option Side
wanted_side kind side = if wants kind side then Some side else None

-- another kind than the wanted one is the wrong kind of value
abbrev pub side_at : Kind → List ℕ → Data → Judged Side
side_at kind path d = ok_or (option_and_then (wanted_side kind) (option_and_then side_of (as_str d))) (Shape path)

-- another number of bits is out of range
abbrev pub same_bits : ℕ → List ℕ → ℕ → Judged ℕ
same_bits bits path n = if n == bits then Ok n else Err (Range path)

-- the number of bits that a value gives
abbrev pub bits_at : ℕ → List ℕ → Data → Judged ℕ
bits_at bits path d = and_then (number_at path d) (same_bits bits path)

-- the order; in format 1 it has no key, and is that of the places
abbrev pub order_of : Format → ℕ → Members → Judged (List ℕ)
order_of First bits ms = Ok (range_with_len 0 bits)
order_of Second bits ms = of_key (codes "order") (λ path. order_at path bits) ms

-- the keys of a certificate
abbrev pub keys_of : Format → Side → List (List ℕ)
keys_of First Driver =
    codes "bits" ∷ codes "format" ∷ codes "goals" ∷ codes "kind" ∷ codes "nodes" ∷ codes "region" ∷ []
keys_of Second Driver =
    codes "bits" ∷ codes "format" ∷ codes "goals" ∷ codes "kind" ∷ codes "nodes" ∷ codes "order" ∷ codes "region" ∷ []
keys_of First Environment = codes "bits" ∷ codes "format" ∷ codes "kind" ∷ codes "levels" ∷ codes "nodes" ∷ []
keys_of Second Environment =
    codes "bits" ∷ codes "format" ∷ codes "kind" ∷ codes "levels" ∷ codes "nodes" ∷ codes "order" ∷ []

-- a driver's certificate of this order and these nodes
unfoldable pub driver_of : CertShape → Format → List ℕ → List Entry → Members → Judged Cert
driver_of shape format order nodes ms =
    and_then (number_of_key (ids_of nodes) (codes "region") (codes "region") ms)
    (λ region. and_then (of_key (codes "goals") (goals_at shape.goals shape.fairs (ids_of nodes)) ms)
    (λ goals. and_then (only_keys (λ key. key) (keys_of format Driver) ms)
    (λ _. Ok (cert.Driver (record { order = order; nodes = nodes; region = region; goals = goals })))))

-- an environment's
unfoldable pub environment_of : CertShape → Format → List ℕ → List Entry → Members → Judged Cert
environment_of shape format order nodes ms =
    and_then (of_key (codes "levels") (levels_at shape.goals shape.fairs (ids_of nodes)) ms)
    (λ levels. and_then (only_keys (λ key. key) (keys_of format Environment) ms)
    (λ _. Ok (cert.Environment (record { order = order; nodes = nodes; levels = levels }))))

-- the certificate of a side
abbrev pub cert_of : CertShape → Format → List ℕ → List Entry → Members → Side → Judged Cert
cert_of shape format order nodes ms Driver = driver_of shape format order nodes ms
cert_of shape format order nodes ms Environment = environment_of shape format order nodes ms

-- the members of a certificate
unfoldable pub judge_members : CertShape → Members → Judged Cert
judge_members shape ms =
    and_then (of_key (codes "format") format_at ms)
    (λ format. and_then (of_key (codes "kind") (side_at shape.wanted) ms)
    (λ side. and_then (of_key (codes "bits") (bits_at shape.bits) ms)
    (λ bits. and_then (order_of format shape.bits ms)
    (λ order. and_then (of_key (codes "nodes") (λ path. nodes_at path shape.bits) ms)
    (λ nodes. cert_of shape format order nodes ms side)))))

-- a value; one that is no object lacks its format
abbrev pub judge : CertShape → Data → Judged Cert
judge shape d = and_then (members_at (codes "format") d) (judge_members shape)

-- a text
unfoldable pub judge_text : CertShape → List ℕ → Judged Cert
judge_text shape text =
    if is_utf8 text then and_then (ok_or (read text) Json) (judge shape) else Err Json
