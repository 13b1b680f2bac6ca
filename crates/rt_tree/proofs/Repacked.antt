-- Entries in another order are packed the same.
use Rattle.std.proofs.Common.{◌≡◌, ◌≤◌, ℕ, List, IsPermutation, ap}
use Rattle.std.specs.{List.{IsDistinct}, Ordering.{int_eq}}
use Rattle.rt_geo.specs.declared.entry.Entry.{Entry}
use Rattle.rt_tree.specs.{Entries.{ids_of}, Packed.{Packed}, Packing.{groups, joined, pack_of}}
use Rattle.rt_tree.proofs.{PackCounts.{all_nodes, leaf_nodes}, PackSound.{entries-IsPermutation}}
use Rattle.rt_tree.proofs.TieOrders.{sorted_by_id-IsPermutation}

-- the packed tree of entries in the order of their ids
abbrev pack_sorted : (fanout : ℕ) → List Entry → Packed
pack_sorted fanout in_order =
    let cut = groups (λ e. e.bounds) fanout in_order in
    record { fanout = fanout; entries = joined cut; nodes = all_nodes fanout (leaf_nodes cut) }

pub pack_of-IsPermutation : (fanout : ℕ) (xs ys : List Entry) → IsDistinct int_eq (ids_of xs) → IsPermutation xs ys
    → pack_of fanout xs ≡ pack_of fanout ys
pack_of-IsPermutation fanout xs ys distinct moved =
    ap (pack_sorted fanout) (sorted_by_id-IsPermutation xs distinct ys moved)

-- a packed tree is that of the entries that it holds
pub pack_of-repacked : (fanout : ℕ) (xs : List Entry) → 2 ≤ fanout → IsDistinct int_eq (ids_of xs)
    → pack_of fanout xs ≡ pack_of fanout (pack_of fanout xs).entries
pack_of-repacked fanout xs several distinct =
    pack_of-IsPermutation fanout xs (pack_of fanout xs).entries distinct (entries-IsPermutation fanout xs several)
