-- The value that is written for a certificate is this certificate.
use Rattle.std.proofs.Common.{◌≡◌, ℕ, zero, suc, ◌+◌, ◌<◌, List, [], ◌∷◌, ◌++◌, map, refl, ap, sym, ◌∙◌, subst, arith}
use Rattle.std.proofs.lemmas.List.FromFn.{get_or-range_with_len, length-range_with_len}
use Rattle.std.specs.List.{range_with_len}
use Rattle.std.specs.Prelude.{Contains, codes}
use Rattle.serde_json.specs.Data.{Data, Items, no_items, item, Members, member, no_members}
use Rattle.serde_json.specs.View.{items_of}
use Rattle.tm_cert.specs.declared.cert.Cert.{Cert}
use Rattle.tm_cert.specs.declared.cert.Cert.TheVariants as cert
use Rattle.tm_cert.specs.declared.cert.Entry.{Entry}
use Rattle.tm_cert.specs.declared.cert.Rank.{Rank}
use Rattle.tm_cert.specs.declared.head.Format.{Format}
use Rattle.tm_cert.specs.declared.head.Format.TheVariants.{First, Second}
use Rattle.tm_cert.specs.declared.shape.CertShape.{CertShape}
use Rattle.tm_cert.specs.Cert.{DriverData, EnvData, LevelData}
use Rattle.tm_cert.specs.CertValue.{HasOrder, HasDriver, HasEnvironment, IsCert, IsChain, IsEntry, IsGoal, IsLevel, IsOrder, IsPlace, IsRank}
use Rattle.tm_cert.specs.Nodes.{ids_of}
use Rattle.tm_cert.specs.Parts.{AreParts, IsList, IsNumber}
use Rattle.tm_cert.specs.Written.{cert_data, driver_data, entry_data, environment_data, goal_data, level_data, list_data, number_data, rank_data}

-- ---- lists

parts_written : {A : Type 0} (f : A → Data) (IsPart : List A → Data → A → Type 0)
    → ((earlier : List A) (d : Data) (x : A) → IsPart earlier d x → IsPart earlier (f x) x)
    → (earlier : List A) (ds : Items) (xs : List A) → AreParts IsPart earlier ds xs
    → AreParts IsPart earlier (items_of (map f xs)) xs
parts_written f IsPart written earlier no_items [] parts = tt
parts_written f IsPart written earlier no_items (x ∷ xs) parts = absurd parts
parts_written f IsPart written earlier (item d ds) [] parts = absurd parts
parts_written f IsPart written earlier (item d ds) (x ∷ xs) parts =
    (written earlier d x parts.0, parts_written f IsPart written (earlier ++ x ∷ []) ds xs parts.1)

list_written : {A : Type 0} (f : A → Data) (IsPart : List A → Data → A → Type 0)
    → ((earlier : List A) (d : Data) (x : A) → IsPart earlier d x → IsPart earlier (f x) x)
    → (d : Data) (xs : List A) → IsList IsPart d xs → IsList IsPart (list_data f xs) xs
list_written f IsPart written d xs is =
    (items_of (map f xs), refl, parts_written f IsPart written [] is.0 xs is.2)

-- ---- orders

range_push : (a n : ℕ) → range_with_len a (n + 1) ≡ range_with_len a n ++ (a + n) ∷ []
range_push a zero = ap (λ m. m ∷ []) (omega arith)
range_push a (suc n) =
    let more : suc n + 1 ≡ suc (n + 1) = omega arith in
    let last : (a + 1) + n ≡ a + suc n = omega arith in
    ap (range_with_len a) more
    ∙ ap (λ l. a ∷ l) (range_push (a + 1) n ∙ ap (λ m. range_with_len (a + 1) n ++ m ∷ []) last)

not_yet : (k : ℕ) → ¬ Contains (range_with_len 0 k) k
not_yet k there =
    let within : there.0 < k = subst (λ n. there.0 < n) (length-range_with_len 0 k) there.1 in
    let at : 0 + there.0 ≡ k = sym (get_or-range_with_len 0 k there.0 k within) ∙ there.2 in
    absurd (omega (arith, within, at))

places_from : (bits k n : ℕ) → k + n ≡ bits
    → AreParts (IsPlace bits) (range_with_len 0 k) (items_of (map number_data (range_with_len k n)))
    (range_with_len k n)
places_from bits k zero e = tt
places_from bits k (suc n) e = (
  ((refl, omega (arith, e)), not_yet k),
  subst (λ earlier. AreParts (IsPlace bits) earlier (items_of (map number_data (range_with_len (k + 1) n)))
      (range_with_len (k + 1) n))
      (range_push 0 k ∙ ap (λ m. range_with_len 0 k ++ m ∷ []) (omega arith))
      (places_from bits (k + 1) n (omega (arith, e))),
)

places_in_order : (bits : ℕ) → IsOrder bits (list_data number_data (range_with_len 0 bits)) (range_with_len 0 bits)
places_in_order bits = (
  (items_of (map number_data (range_with_len 0 bits)), refl, places_from bits 0 bits (omega arith)),
  length-range_with_len 0 bits,
)

order_written : (format : Format) (bits : ℕ) (ms : Members) (order : List ℕ) → HasOrder format bits ms order
    → IsOrder bits (list_data number_data order) order
order_written First bits ms order is = subst (λ o. IsOrder bits (list_data number_data o) o) (sym is)
    (places_in_order bits)
order_written Second bits ms order has =
    (list_written number_data (IsPlace bits) (λ earlier d place h. ((refl, h.0.1), h.1)) has.0 order has.2.0, has.2.1)

-- ---- goals and levels

entries_written : (bits : ℕ) (d : Data) (nodes : List Entry) → IsList (IsEntry bits) d nodes
    → IsList (IsEntry bits) (list_data entry_data nodes) nodes
entries_written bits d nodes is = list_written entry_data (IsEntry bits) (λ earlier d e h. (refl, h.1)) d nodes is

goal_written : (fairs ids : ℕ) (d : Data) (ranks : List Rank) → IsGoal fairs ids d ranks
    → IsGoal fairs ids (goal_data ranks) ranks
goal_written fairs ids d ranks is = (
  member (codes "ranks") (list_data rank_data ranks) no_members,
  refl,
  refl,
  (
    list_data rank_data ranks,
    refl,
    list_written rank_data (λ _. IsRank fairs ids) (λ earlier d r h. (refl, h.1, h.2)) is.3.0 ranks is.3.2,
  ),
)

chain_written : (ids : ℕ) (d : Data) (chain : List ℕ) → IsChain ids d chain
    → IsChain ids (list_data number_data chain) chain
chain_written ids d chain is = list_written number_data (λ _. IsNumber ids) (λ earlier d n h. (refl, h.1)) d chain is

level_written : (goals fairs ids : ℕ) (d : Data) (l : LevelData) → IsLevel goals fairs ids d l
    → IsLevel goals fairs ids (level_data l) l
level_written goals fairs ids d l is =
    let has = is.2 in (
      member (codes "chains") (list_data (list_data number_data) l.chains) (member (codes "goal") (number_data l.goal)
          (member (codes "set") (number_data l.set) no_members)),
      refl,
      record {
        chains_are = (
          list_data (list_data number_data) l.chains,
          refl,
          (
            list_written (list_data number_data) (λ _. IsChain ids) (λ earlier d chain h. chain_written ids d chain h)
                has.chains_are.0 l.chains has.chains_are.2.0,
            has.chains_are.2.1,
          ),
        );
        goal_is = (number_data l.goal, refl, (refl, has.goal_is.2.1));
        set_is = (number_data l.set, refl, (refl, has.set_is.2.1));
        no_other = refl;
      },
    )

-- ---- certificates

driver_written : (shape : CertShape) (format : Format) (ms : Members) (c : DriverData) → HasDriver shape format ms c
    → IsCert shape (driver_data shape.bits c) (cert.Driver c)
unfolding driver_data
driver_written shape format ms c has =
    let ids = ids_of c.nodes in
    let head = has.head in (
      Second,
      _,
      refl,
      record {
        head = record {
          format_is = (number_data 2, refl, refl);
          kind_is = (_, refl, refl);
          is_wanted = head.is_wanted;
          bits_are = (number_data shape.bits, refl, refl);
          order_is = (list_data number_data c.order, refl, order_written format shape.bits ms c.order head.order_is);
          nodes_are = (
            list_data entry_data c.nodes,
            refl,
            entries_written shape.bits head.nodes_are.0 c.nodes head.nodes_are.2,
          );
          no_other = refl;
        };
        region_is = (number_data c.region, refl, (refl, has.region_is.2.1));
        goals_are = (
          list_data goal_data c.goals,
          refl,
          (
            list_written goal_data (λ _. IsGoal shape.fairs ids)
                (λ earlier d ranks h. goal_written shape.fairs ids d ranks h)
                has.goals_are.0 c.goals has.goals_are.2.0,
            has.goals_are.2.1,
          ),
        );
      },
    )

environment_written : (shape : CertShape) (format : Format) (ms : Members) (c : EnvData)
    → HasEnvironment shape format ms c
    → IsCert shape (environment_data shape.bits c) (cert.Environment c)
unfolding environment_data
environment_written shape format ms c has =
    let ids = ids_of c.nodes in
    let head = has.head in (
      Second,
      _,
      refl,
      record {
        head = record {
          format_is = (number_data 2, refl, refl);
          kind_is = (_, refl, refl);
          is_wanted = head.is_wanted;
          bits_are = (number_data shape.bits, refl, refl);
          order_is = (list_data number_data c.order, refl, order_written format shape.bits ms c.order head.order_is);
          nodes_are = (
            list_data entry_data c.nodes,
            refl,
            entries_written shape.bits head.nodes_are.0 c.nodes head.nodes_are.2,
          );
          no_other = refl;
        };
        levels_are = (
          list_data level_data c.levels,
          refl,
          list_written level_data (λ _. IsLevel shape.goals shape.fairs ids)
              (λ earlier d l h. level_written shape.goals shape.fairs ids d l h) has.levels_are.0 c.levels
              has.levels_are.2,
        );
      },
    )

-- what is written for a certificate that some value is, is this certificate
pub cert_written : (shape : CertShape) (d : Data) (c : Cert) → IsCert shape d c
    → IsCert shape (cert_data shape.bits c) c
cert_written shape d (cert.Driver c) is = driver_written shape is.0 is.1 c is.3
cert_written shape d (cert.Environment c) is = environment_written shape is.0 is.1 c is.3
