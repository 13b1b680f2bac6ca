-- What the packing makes is the packed tree.
use Rattle.std.proofs.Common.{◌≡◌, ◌≤◌, ◌*◌, ℕ, Ordering, List, [], ◌++◌, length, refl, arith}
use Rattle.std.proofs.lemmas.{Cmp.{int_cmp_total, on_total}, List.Sorted.{length_permutation}}
use Rattle.std.specs.{Cmp.{IsTotalOrder}, List.{All, sum_by}, Ordering.{int_cmp, on}}
use Rattle.rt_geo.specs.{Laws.{extent_of_entry}, declared.entry.Entry.{Entry}}
use Rattle.rt_tree.specs.{Entries.{IsTable}, Packed.{Packed}, Packing.{groups, joined, nodes_over, pack_of}, Sorting.{sorted}}
use Rattle.rt_tree.specs.{SortKeys.{IsInPlane}, declared.tree.Node.{Node}}
use Rattle.rt_tree.proofs.PackCounts.{all_nodes, leaf_nodes, leaf_nodes-few, over_in_plane}
use Rattle.rt_tree.proofs.SortingLemmas.{All-sorted, IsPermutation-sorted}

-- the order of ids
abbrev pub by_id : Entry → Entry → Ordering
by_id = on (λ e. e.id) int_cmp

pub by_id_total : IsTotalOrder by_id
by_id_total = on_total (λ e. e.id) int_cmp_total

-- what the first level makes of a table
module _ (fanout : ℕ) (table entries before : List Entry) (same : entries ≡ table) (none : before ≡ []) where
  pub leaf_nodes_are : (made : List Node)
      → made ≡ nodes_over extent_of_entry (λ _. 1) 1 (length before) (groups (λ e. e.bounds) fanout (sorted by_id entries))
      → made ≡ leaf_nodes (groups (λ e. e.bounds) fanout (sorted by_id table))
  leaf_nodes_are made is = rw (← same, is, none) refl

  pub leaf_nodes_few : (made : List Node) → 2 ≤ fanout → IsTable table
      → made ≡ nodes_over extent_of_entry (λ _. 1) 1 (length before) (groups (λ e. e.bounds) fanout (sorted by_id entries))
      → ((2 * length made ≤ 16777217) × (sum_by (λ n. n.size) made ≤ 16777216)) × All (λ n. IsInPlane n.bounds) made
  leaf_nodes_few made several t is =
      let InPlane = λ (e : Entry). IsInPlane e.bounds in
      rw (leaf_nodes_are made is) (
        leaf_nodes-few fanout several (λ e. e.bounds) (sorted by_id table) (omega (
          arith,
          t.few,
          length_permutation table (sorted by_id table) (IsPermutation-sorted by_id table),
        )),
        over_in_plane extent_of_entry (λ _. 1) fanout 1 0 (sorted by_id table) several (All-sorted by_id InPlane table
            (λ k d h. let b = t.boxes k d h in (b.box, b.coordinates))),
      )

  pub packed_is : (leaves : List Entry) (made nodes : List Node)
      → leaves ≡ before ++ joined (groups (λ e. e.bounds) fanout (sorted by_id entries))
      → made ≡ nodes_over extent_of_entry (λ _. 1) 1 (length before) (groups (λ e. e.bounds) fanout (sorted by_id entries))
      → nodes ≡ all_nodes fanout made
      → ◌≡◌ {A = Packed} (record { fanout = fanout; entries = leaves; nodes = nodes }) (pack_of fanout table)
  packed_is leaves made nodes leaves_are is over = rw (over, leaf_nodes_are made is, leaves_are, none, same) refl
