-- Goals and levels are found exactly where the value is this part.
use Rattle.std.proofs.Common.{◌≡◌, ℕ, ◌<◌, List, Option, Some, None, Ok, ok_or, refl, ap, sym, ◌∙◌, subst}
use Rattle.std.specs.Prelude.{codes, ⊤}
use Rattle.serde_json.specs.Data.{Data, array, Items, no_items, item, Members}
use Rattle.serde_json.specs.Find.{get_member}
use Rattle.tm_cert.specs.declared.cert.Rank.{Rank}
use Rattle.tm_cert.specs.declared.refusal.BadCert.TheVariants.{Shape}
use Rattle.tm_cert.specs.Cert.{LevelData}
use Rattle.tm_cert.specs.CertValue.{HasLevel, IsChain, IsChains, IsGoal, IsGoals, IsLevel, IsRank}
use Rattle.tm_cert.specs.Goals.{goal_at, goal_keys, goal_members, goals_at, pair_at, pair_numbers, rank_at, ranks_at}
use Rattle.tm_cert.specs.Judged.{Judged, and_then, at_next}
use Rattle.tm_cert.specs.Levels.{chain_at, chains_at, id_at, level_at, level_keys, level_members, levels_at, number_of_key}
use Rattle.tm_cert.specs.Part.{items_at, members_at, no_key, number_below_at, only_keys, other_key, value_at}
use Rattle.tm_cert.specs.Parts.{Has, HasOnly, IsList, IsNumber}
use Rattle.tm_cert.specs.Path.{index_path, member_path}
use Rattle.tm_cert.specs.Written.{number_data, rank_data}
use Rattle.tm_cert.proofs.Exact.{both_parts, by_itself, Exact, from_parts, same_part, some_from_ok_or}
use Rattle.tm_cert.proofs.ExactParts.{counted-complete, counted-sound, items_at-sound, list-complete, list-sound, members_at-sound, number_below_at-complete, number_below_at-sound}

-- ---- keys

no_key-sound : (path_of : List ℕ → List ℕ) (o : Option (List ℕ)) (done : ⊤) → no_key path_of o ≡ Ok done → o ≡ None
no_key-sound path_of None done is = refl
no_key-sound path_of (Some key) done is = cc

pub only-sound : (path_of : List ℕ → List ℕ) (keys : List (List ℕ)) (ms : Members) (done : ⊤)
    → only_keys path_of keys ms ≡ Ok done → HasOnly keys ms
only-sound path_of keys ms done is = no_key-sound path_of (other_key keys ms) done is

pub only-complete : (path_of : List ℕ → List ℕ) (keys : List (List ℕ)) (ms : Members) → HasOnly keys ms
    → only_keys path_of keys ms ≡ Ok tt
only-complete path_of keys ms is = ap (no_key path_of) is

pub has-sound : {A : Type 0} (judge : Data → Judged A) (P : Data → Type 0) (path key : List ℕ) (ms : Members) (x : A)
    → ((d : Data) → judge d ≡ Ok x → P d) → and_then (value_at path key ms) judge ≡ Ok x → Has ms key P
has-sound judge P path key ms x sound is =
    let parts = both_parts (value_at path key ms) judge x is in
    (parts.0, some_from_ok_or (get_member key ms) (Shape path) parts.0 parts.1, sound parts.0 parts.2)

pub has-complete : {A : Type 0} (judge : Data → Judged A) (P : Data → Type 0) (path key : List ℕ) (ms : Members) (x : A)
    → ((d : Data) → P d → judge d ≡ Ok x) → Has ms key P → and_then (value_at path key ms) judge ≡ Ok x
has-complete judge P path key ms x complete has =
    from_parts (value_at path key ms) judge has.0 x (ap (λ o. ok_or o (Shape path)) has.1) (complete has.0 has.2)

-- ---- goals

pair_numbers-sound : (fairs ids : ℕ) (path : List ℕ) (a b : Data) (r : Rank) → pair_numbers fairs ids path a b ≡ Ok r
    → IsRank fairs ids (array (item a (item b no_items))) r
pair_numbers-sound fairs ids path a b r is =
    let one = both_parts (number_below_at (index_path path 0) fairs a) _ r is in
    let two = both_parts (number_below_at (index_path path 1) ids b) _ r one.2 in
    let fair = number_below_at-sound fairs (index_path path 0) a one.0 one.1 in
    let set = number_below_at-sound ids (index_path path 1) b two.0 two.1 in
    let whole = same_part (record { fair = one.0; set = two.0 }) r two.2 in (
      (λ i. array (item (fair.0 i) (item (set.0 i) no_items))) ∙ ap rank_data whole,
      subst (λ q. q.fair < fairs) whole fair.1,
      subst (λ q. q.set < ids) whole set.1,
    )

pair_at-sound : (fairs ids : ℕ) (path : List ℕ) (ds : Items) (r : Rank) → pair_at fairs ids path ds ≡ Ok r
    → IsRank fairs ids (array ds) r
pair_at-sound fairs ids path no_items r is = cc
pair_at-sound fairs ids path (item a no_items) r is = cc
pair_at-sound fairs ids path (item a (item b no_items)) r is = pair_numbers-sound fairs ids path a b r is
pair_at-sound fairs ids path (item a (item b (item c ds))) r is = cc

rank_at-sound : (fairs ids : ℕ) (path : List ℕ) (d : Data) (r : Rank) → rank_at fairs ids path d ≡ Ok r
    → IsRank fairs ids d r
rank_at-sound fairs ids path d r is =
    let parts = both_parts (items_at path d) (pair_at fairs ids path) r is in
    let list = items_at-sound path d parts.0 parts.1 in
    subst (λ d. IsRank fairs ids d r) (sym list) (pair_at-sound fairs ids path parts.0 r parts.2)

rank_at-complete : (fairs ids : ℕ) (path : List ℕ) (d : Data) (r : Rank) → IsRank fairs ids d r
    → rank_at fairs ids path d ≡ Ok r
rank_at-complete fairs ids path d r is =
    ap (rank_at fairs ids path) is.0
    ∙ from_parts (number_below_at (index_path path 0) fairs (number_data r.fair)) _ r.fair r
    (number_below_at-complete fairs (index_path path 0) (number_data r.fair) r.fair (refl, is.1))
    (from_parts (number_below_at (index_path path 1) ids (number_data r.set)) _ r.set r
    (number_below_at-complete ids (index_path path 1) (number_data r.set) r.set (refl, is.2)) refl)

exact_rank : (fairs ids : ℕ) → Exact (rank_at fairs ids) (IsRank fairs ids)
exact_rank fairs ids = record { sound = rank_at-sound fairs ids; complete = rank_at-complete fairs ids }

ranks_at-sound : (fairs ids : ℕ) (path : List ℕ) (d : Data) (ranks : List Rank) → ranks_at fairs ids path d ≡ Ok ranks
    → IsList (λ _. IsRank fairs ids) d ranks
unfolding ranks_at
ranks_at-sound fairs ids path d ranks is =
    list-sound (at_next (rank_at fairs ids) path) (λ _. IsRank fairs ids)
    (by_itself (rank_at fairs ids) (IsRank fairs ids) (exact_rank fairs ids) path) path d ranks is

ranks_at-complete : (fairs ids : ℕ) (path : List ℕ) (d : Data) (ranks : List Rank)
    → IsList (λ _. IsRank fairs ids) d ranks
    → ranks_at fairs ids path d ≡ Ok ranks
unfolding ranks_at
ranks_at-complete fairs ids path d ranks is =
    list-complete (at_next (rank_at fairs ids) path) (λ _. IsRank fairs ids)
    (by_itself (rank_at fairs ids) (IsRank fairs ids) (exact_rank fairs ids) path) path d ranks is

goal_at-sound : (fairs ids : ℕ) (path : List ℕ) (d : Data) (ranks : List Rank) → goal_at fairs ids path d ≡ Ok ranks
    → IsGoal fairs ids d ranks
unfolding goal_at
goal_at-sound fairs ids path d ranks is =
    let p = member_path path (codes "ranks") in
    let parts = both_parts (members_at path d) (goal_members fairs ids path) ranks is in
    let ms = parts.0 in
    let value = both_parts (value_at p (codes "ranks") ms) _ ranks parts.2 in
    let list = both_parts (ranks_at fairs ids p value.0) _ ranks value.2 in
    let only = both_parts (only_keys (member_path path) goal_keys ms) _ ranks list.2 in (
      ms,
      members_at-sound path d ms parts.1,
      only-sound (member_path path) goal_keys ms only.0 only.1,
      (
        value.0,
        some_from_ok_or (get_member (codes "ranks") ms) (Shape p) value.0 value.1,
        subst (IsList (λ _. IsRank fairs ids) value.0) (same_part list.0 ranks only.2)
            (ranks_at-sound fairs ids p value.0 list.0 list.1),
      ),
    )

goal_at-complete : (fairs ids : ℕ) (path : List ℕ) (d : Data) (ranks : List Rank) → IsGoal fairs ids d ranks
    → goal_at fairs ids path d ≡ Ok ranks
unfolding goal_at
goal_at-complete fairs ids path d ranks is =
    let p = member_path path (codes "ranks") in
    let ms = is.0 in
    from_parts (members_at path d) (goal_members fairs ids path) ms ranks (ap (members_at path) is.1)
    (from_parts (value_at p (codes "ranks") ms) _ is.3.0 ranks (ap (λ o. ok_or o (Shape p)) is.3.1)
    (from_parts (ranks_at fairs ids p is.3.0) _ ranks ranks (ranks_at-complete fairs ids p is.3.0 ranks is.3.2)
    (from_parts (only_keys (member_path path) goal_keys ms) _ tt ranks
    (only-complete (member_path path) goal_keys ms is.2)
    refl)))

exact_goal : (fairs ids : ℕ) → Exact (goal_at fairs ids) (IsGoal fairs ids)
exact_goal fairs ids = record { sound = goal_at-sound fairs ids; complete = goal_at-complete fairs ids }

pub goals_at-sound : (goals fairs ids : ℕ) (path : List ℕ) (d : Data) (found : List (List Rank))
    → goals_at goals fairs ids path d ≡ Ok found → IsGoals goals fairs ids d found
unfolding goals_at
goals_at-sound goals fairs ids path d found is =
    counted-sound (at_next (goal_at fairs ids) path) (λ _. IsGoal fairs ids)
    (by_itself (goal_at fairs ids) (IsGoal fairs ids) (exact_goal fairs ids) path) path goals d found is

pub goals_at-complete : (goals fairs ids : ℕ) (path : List ℕ) (d : Data) (found : List (List Rank))
    → IsGoals goals fairs ids d found → goals_at goals fairs ids path d ≡ Ok found
unfolding goals_at
goals_at-complete goals fairs ids path d found is =
    counted-complete (at_next (goal_at fairs ids) path) (λ _. IsGoal fairs ids)
    (by_itself (goal_at fairs ids) (IsGoal fairs ids) (exact_goal fairs ids) path) path goals d found is.0 is.1

-- ---- levels

exact_id : (ids : ℕ) → Exact (id_at ids) (IsNumber ids)
exact_id ids = record { sound = number_below_at-sound ids; complete = number_below_at-complete ids }

chain_at-sound : (ids : ℕ) (path : List ℕ) (d : Data) (chain : List ℕ) → chain_at ids path d ≡ Ok chain
    → IsChain ids d chain
unfolding chain_at
chain_at-sound ids path d chain is =
    list-sound (at_next (id_at ids) path) (λ _. IsNumber ids) (by_itself (id_at ids) (IsNumber ids) (exact_id ids) path)
    path d chain is

chain_at-complete : (ids : ℕ) (path : List ℕ) (d : Data) (chain : List ℕ) → IsChain ids d chain
    → chain_at ids path d ≡ Ok chain
unfolding chain_at
chain_at-complete ids path d chain is =
    list-complete (at_next (id_at ids) path) (λ _. IsNumber ids)
    (by_itself (id_at ids) (IsNumber ids) (exact_id ids) path)
    path d chain is

exact_chain : (ids : ℕ) → Exact (chain_at ids) (IsChain ids)
exact_chain ids = record { sound = chain_at-sound ids; complete = chain_at-complete ids }

chains_at-sound : (fairs ids : ℕ) (path : List ℕ) (d : Data) (chains : List (List ℕ)) → chains_at fairs ids path d
    ≡ Ok chains
    → IsChains fairs ids d chains
unfolding chains_at
chains_at-sound fairs ids path d chains is =
    counted-sound (at_next (chain_at ids) path) (λ _. IsChain ids)
    (by_itself (chain_at ids) (IsChain ids) (exact_chain ids) path) path fairs d chains is

chains_at-complete : (fairs ids : ℕ) (path : List ℕ) (d : Data) (chains : List (List ℕ)) → IsChains fairs ids d chains
    → chains_at fairs ids path d ≡ Ok chains
unfolding chains_at
chains_at-complete fairs ids path d chains is =
    counted-complete (at_next (chain_at ids) path) (λ _. IsChain ids)
    (by_itself (chain_at ids) (IsChain ids) (exact_chain ids) path) path fairs d chains is.0 is.1

pub key-sound : (limit : ℕ) (path key : List ℕ) (ms : Members) (n : ℕ) → number_of_key limit path key ms ≡ Ok n
    → Has ms key (λ d. IsNumber limit d n)
key-sound limit path key ms n is =
    has-sound (number_below_at path limit) (λ d. IsNumber limit d n) path key ms n
    (λ d h. number_below_at-sound limit path d n h) is

pub key-complete : (limit : ℕ) (path key : List ℕ) (ms : Members) (n : ℕ) → Has ms key (λ d. IsNumber limit d n)
    → number_of_key limit path key ms ≡ Ok n
key-complete limit path key ms n has =
    has-complete (number_below_at path limit) (λ d. IsNumber limit d n) path key ms n
    (λ d h. number_below_at-complete limit path d n h) has

level_members-sound : (goals fairs ids : ℕ) (path : List ℕ) (ms : Members) (l : LevelData)
    → level_members goals fairs ids path ms ≡ Ok l → HasLevel goals fairs ids ms l
level_members-sound goals fairs ids path ms l is =
    let p = member_path path (codes "chains") in
    let chains = both_parts (and_then (value_at p (codes "chains") ms) (chains_at fairs ids p)) _ l is in
    let goal = both_parts (number_of_key goals (member_path path (codes "goal")) (codes "goal") ms) _ l chains.2 in
    let set = both_parts (number_of_key ids (member_path path (codes "set")) (codes "set") ms) _ l goal.2 in
    let only = both_parts (only_keys (member_path path) level_keys ms) _ l set.2 in
    let whole = same_part (record { goal = goal.0; set = set.0; chains = chains.0 }) l only.2 in
    subst (HasLevel goals fairs ids ms) whole (record {
      chains_are = has-sound (chains_at fairs ids p) (λ d. IsChains fairs ids d chains.0) p (codes "chains") ms chains.0
          (λ d h. chains_at-sound fairs ids p d chains.0 h) chains.1;
      goal_is = key-sound goals (member_path path (codes "goal")) (codes "goal") ms goal.0 goal.1;
      set_is = key-sound ids (member_path path (codes "set")) (codes "set") ms set.0 set.1;
      no_other = only-sound (member_path path) level_keys ms only.0 only.1;
    })

level_members-complete : (goals fairs ids : ℕ) (path : List ℕ) (ms : Members) (l : LevelData)
    → HasLevel goals fairs ids ms l → level_members goals fairs ids path ms ≡ Ok l
level_members-complete goals fairs ids path ms l has =
    let p = member_path path (codes "chains") in
    from_parts (and_then (value_at p (codes "chains") ms) (chains_at fairs ids p)) _ l.chains l
    (has-complete (chains_at fairs ids p) (λ d. IsChains fairs ids d l.chains) p (codes "chains") ms l.chains
    (λ d h. chains_at-complete fairs ids p d l.chains h) has.chains_are)
    (from_parts (number_of_key goals (member_path path (codes "goal")) (codes "goal") ms) _ l.goal l
    (key-complete goals (member_path path (codes "goal")) (codes "goal") ms l.goal has.goal_is)
    (from_parts (number_of_key ids (member_path path (codes "set")) (codes "set") ms) _ l.set l
    (key-complete ids (member_path path (codes "set")) (codes "set") ms l.set has.set_is)
    (from_parts (only_keys (member_path path) level_keys ms) _ tt l
    (only-complete (member_path path) level_keys ms has.no_other)
    refl)))

level_at-sound : (goals fairs ids : ℕ) (path : List ℕ) (d : Data) (l : LevelData) → level_at goals fairs ids path d
    ≡ Ok l
    → IsLevel goals fairs ids d l
unfolding level_at
level_at-sound goals fairs ids path d l is =
    let parts = both_parts (members_at path d) (level_members goals fairs ids path) l is in
    (parts.0, members_at-sound path d parts.0 parts.1, level_members-sound goals fairs ids path parts.0 l parts.2)

level_at-complete : (goals fairs ids : ℕ) (path : List ℕ) (d : Data) (l : LevelData) → IsLevel goals fairs ids d l
    → level_at goals fairs ids path d ≡ Ok l
unfolding level_at
level_at-complete goals fairs ids path d l is =
    from_parts (members_at path d) (level_members goals fairs ids path) is.0 l (ap (members_at path) is.1)
    (level_members-complete goals fairs ids path is.0 l is.2)

exact_level : (goals fairs ids : ℕ) → Exact (level_at goals fairs ids) (IsLevel goals fairs ids)
exact_level goals fairs ids = record {
  sound = level_at-sound goals fairs ids;
  complete = level_at-complete goals
      fairs ids;
}

pub levels_at-sound : (goals fairs ids : ℕ) (path : List ℕ) (d : Data) (levels : List LevelData)
    → levels_at goals fairs ids path d ≡ Ok levels → IsList (λ _. IsLevel goals fairs ids) d levels
unfolding levels_at
levels_at-sound goals fairs ids path d levels is =
    list-sound (at_next (level_at goals fairs ids) path) (λ _. IsLevel goals fairs ids)
    (by_itself (level_at goals fairs ids) (IsLevel goals fairs ids) (exact_level goals fairs ids) path) path d levels is

pub levels_at-complete : (goals fairs ids : ℕ) (path : List ℕ) (d : Data) (levels : List LevelData)
    → IsList (λ _. IsLevel goals fairs ids) d levels → levels_at goals fairs ids path d ≡ Ok levels
unfolding levels_at
levels_at-complete goals fairs ids path d levels is =
    list-complete (at_next (level_at goals fairs ids) path) (λ _. IsLevel goals fairs ids)
    (by_itself (level_at goals fairs ids) (IsLevel goals fairs ids) (exact_level goals fairs ids) path) path d levels is
