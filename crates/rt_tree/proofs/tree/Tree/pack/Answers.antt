use Rattle.std.proofs.Common.{◌≡◌, ◌≤◌, ◌*◌, ◌∙◌, ap, length, subst, sym}
use Rattle.std.proofs.lemmas.List.Sorted.{length_permutation}
use Rattle.std.specs.List.{All, sum_by, Sorted.{IsPermutation}}
use Rattle.rt_tree.specs.{Entries.{IsTable}, Levels.{level_sizes}, Packed.{IsSound, Packed}, Packing.{pack_of}}
use Rattle.rt_tree.specs.SortKeys.{IsInPlane}
use Rattle.rt_tree.proofs.{PackLemmas.{leaf_nodes_few, packed_is}, Repacked.{pack_of-repacked}}
use Rattle.rt_tree.proofs.{PackSound.{entries-IsPermutation, pack_of-IsSound}, TieOrders.{entries_packable}}
use Rattle.rt_tree.proofs.tree.Tree.pack.Goals.{After-drop, In_ok-nodes}
use Rattle.rt_tree.proofs.tree.Tree.pack.Goals as goal

pub pack_level-requires-clause-packable : goal.pack_level-requires-clause-packable
pack_level-requires-clause-packable c = entries_packable c.into_entries-entries.result
    (subst IsTable (sym c.into_entries-entries.ensures.value) c.into_entries-entries.ensures.table)

-- what all levels ask of the first
made_first : (c : After-drop) → ((2 * length c.in_ok-made.made ≤ 16777217) × (sum_by (λ n. n.size) c.in_ok-made.made ≤ 16777216))
    × All (λ n. IsInPlane n.bounds) c.in_ok-made.made
made_first c = leaf_nodes_few c.args.fanout c.args.table c.into_entries-entries.result c.reserve.new.self
    c.into_entries-entries.ensures.value (c.in_ok-reserve.ensures ∙ c.empty-leaves.ensures) c.in_ok-made.made
    c.requires.several c.into_entries-entries.ensures.table c.in_ok-made.ensures.nodes

pub all_nodes-requires-clause-few : goal.all_nodes-requires-clause-few
all_nodes-requires-clause-few c = (made_first c).0.0

pub all_nodes-requires-clause-weight : goal.all_nodes-requires-clause-weight
all_nodes-requires-clause-weight c = (made_first c).0.1

pub all_nodes-requires-clause-boxes : goal.all_nodes-requires-clause-boxes
all_nodes-requires-clause-boxes c = (made_first c).1

-- what is packed is the tree
tree_is : (c : In_ok-nodes) → ◌≡◌ {A = Packed} (record {
  fanout = c.args.fanout;
  entries = c.pack_level.new.packed;
  nodes = c.in_ok-nodes.nodes;
}) (pack_of c.args.fanout c.args.table)
tree_is c = packed_is c.args.fanout c.args.table c.into_entries-entries.result c.reserve.new.self
    c.into_entries-entries.ensures.value (c.in_ok-reserve.ensures ∙ c.empty-leaves.ensures) c.pack_level.new.packed
    c.in_ok-made.made c.in_ok-nodes.nodes c.in_ok-made.ensures.packed c.in_ok-made.ensures.nodes c.in_ok-nodes.ensures

pub returns-clause-value : goal.returns-clause-value
returns-clause-value = tree_is

pub invariant_of-result : goal.invariant_of-result
invariant_of-result c =
    let table = c.args.table in
    let fanout = c.args.fanout in
    let sound = c.into_entries-entries.ensures.table in
    let long : length c.pack_level.new.packed ≡ length table = ap (λ (t : Packed). length t.entries) (tree_is c)
    ∙ length_permutation table (pack_of fanout table).entries
    (entries-IsPermutation fanout table c.requires.several) in (
      subst IsSound (sym (tree_is c)) (pack_of-IsSound fanout table c.requires.several sound).0,
      tree_is c ∙ pack_of-repacked fanout table c.requires.several sound.distinct
          ∙ ap (λ (t : Packed). pack_of fanout t.entries) (sym (tree_is c)),
      c.new-levels.ensures.sizes ∙ ap (λ n. level_sizes n fanout) (c.len.ensures.value ∙ sym long),
      c.requires.most,
    )

pub returns-clause-moved : goal.returns-clause-moved
returns-clause-moved c = subst (λ (t : Packed). IsPermutation c.args.table t.entries) (sym (tree_is c))
    (entries-IsPermutation c.args.fanout c.args.table c.requires.several)
