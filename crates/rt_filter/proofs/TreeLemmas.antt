-- Entries in another order are answered the same: what a tree holds is what was packed.
use Rattle.std.proofs.Common.{◌≡◌, ◌∙◌, ℕ, List, [], ◌∷◌, Option, refl, ap, sym, arith, rules}
use Rattle.std.proofs.lemmas.List.{Concat.{flat_map-cons}, Sorted.{IsPermutation-sym, length_permutation}}
use Rattle.std.specs.{List.{IsDistinct, Sorted.{IsPermutation}}, Ordering.{int_eq}}
use Rattle.rt_geo.specs.{Laws.{Meaning}, Orders.{by_id}, declared.entry.Entry.{Entry}}
use Rattle.rt_tree.specs.{Entries.{ids_of}, Levels.{level_sizes}, Packed.{IsSound, Packed}, Sorting.{limited}}
use Rattle.rt_tree.proofs.{PackSound.{entries-IsPermutation}, Repacked.{pack_of-IsPermutation}}
use Rattle.rt_text.specs.{ReplyLines.{ok_line}, declared.query.{Parsed.{Parsed}, Query.{Query}}}
use Rattle.rt_text.specs.declared.query.Query.TheVariants.{CostCount, CostFind, Count, Find, Levels}
use Rattle.rt_search.specs.{Answers.{answers}, Work.{opened_by_count, opened_by_search}}
use Rattle.rt_filter.specs.Replies.{Loaded, find_reply, levels_reply, meaning_of, output, query_reply, reply}
use Rattle.rt_filter.specs.{Replies.{tree_of}, Stages.{loaded_tree}}
use Rattle.rt_search.proofs.Answering.{accepted-IsPermutation, among-IsPermutation}
use Rattle.rt_text.specs.declared.query.Parsed.TheVariants as parsed

-- ---- answers

answers-IsPermutation : (xs ys : List Entry) (meaning : Meaning) (limit : Option ℕ) → IsPermutation xs ys
    → answers xs meaning limit ≡ answers ys meaning limit
answers-IsPermutation xs ys meaning limit moved = ap (limited limit) (among-IsPermutation meaning xs ys moved)

-- ---- replies

module _ (fanout : ℕ) (xs ys : List Entry) (distinct : IsDistinct int_eq (ids_of ys)) (moved : IsPermutation xs ys) where
  abbrev first : Loaded
  first = record { entries = xs; fanout = fanout }

  abbrev other : Loaded
  other = record { entries = ys; fanout = fanout }

  same_tree : tree_of first ≡ tree_of other
  same_tree = sym (pack_of-IsPermutation fanout ys xs distinct (IsPermutation-sym xs ys moved))

  query_same : (line : ℕ) (query : Query) → query_reply first line query ≡ query_reply other line query
  query_same line (Find region order limit layers) =
      ap (find_reply line) (answers-IsPermutation xs ys (meaning_of region layers order) limit moved)
  query_same line (Count region layers) =
      ap (ok_line line) (sym (length_permutation _ _ (accepted-IsPermutation (meaning_of region layers by_id) xs ys moved)))
  query_same line Levels = ap (λ n. levels_reply line (level_sizes n fanout)) (sym (length_permutation xs ys moved))
  query_same line (CostFind region order limit layers) =
      ap (λ tree. ok_line line (opened_by_search (meaning_of region layers order) tree limit)) same_tree
  query_same line (CostCount region layers) =
      ap (λ tree. ok_line line (opened_by_count (meaning_of region layers by_id) tree)) same_tree

  reply_same : (line : ℕ) (parsed : Parsed) → reply first line parsed ≡ reply other line parsed
  reply_same line parsed.Skip = refl
  reply_same line (parsed.Query query) = query_same line query
  reply_same line (parsed.Fault cause) = refl

  pub output-IsPermutation : (lines : List (ℕ × List ℕ)) → output first lines ≡ output other lines
  output-IsPermutation [] = refl
  output-IsPermutation (line ∷ lines) = grind (arith, flat_map-cons, reply_same, output-IsPermutation lines)

-- ---- what is replied over a tree

module _ (tree : Packed) (loaded : Loaded) (sound : IsSound tree) (packed : tree ≡ tree_of loaded) where
  fanout_same : tree.fanout ≡ loaded.fanout
  fanout_same = ap (λ (t : Packed). t.fanout) packed

  moved : IsPermutation loaded.entries tree.entries
  moved = search (rules, entries-IsPermutation, fanout_same)

  -- what is replied over a tree is replied over each list of entries whose packed tree it is
  pub output_same : (lines : List (ℕ × List ℕ)) → output loaded lines ≡ output (loaded_tree tree) lines
  output_same lines =
      output-IsPermutation loaded.fanout loaded.entries tree.entries sound.table.distinct moved lines
      ∙ ap (λ fanout. output (record { entries = tree.entries; fanout = fanout }) lines) (sym fanout_same)
