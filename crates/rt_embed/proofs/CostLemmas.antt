-- How many nodes queries open, one after the other.
use Rattle.std.proofs.Common.{◌≡◌, ◌∙◌, ◌+◌, ◌-◌, ◌<◌, ◌≤◌, ◌++◌, ◌∷◌, [], ℕ, List, Some, None, length, take, flat_map, sym, ap, arith}
use Rattle.std.proofs.Math.ListN.{get_or}
use Rattle.std.proofs.lemmas.List.{length-append, length-drop, take_all, take_more}
use Rattle.std.specs.Option.{option_map_or}
use Rattle.rt_tree.specs.Packed.{Packed}
use Rattle.rt_search.specs.Work.{CountsOn}
use Rattle.rt_filter.proofs.WorkLemmas.{counts_then}
use Rattle.rt_embed.specs.{Costs.{opened_by_finds, opened_by_measures, opened_to_find, opened_to_measure}, Findings.{list_of, lists_of}, PlainQueries.{question_of}, Puts.{needed_from}}
use Rattle.rt_embed.specs.declared.{finding.Position.{Position}, question.{Measure.{Measure}, Question.{Question}}, plain_query.PlainQuery.{PlainQuery}, vertex.Vertex.{Vertex}}

module _ (t : Packed) (vertices : List Vertex) where
  -- how many answers queries have
  abbrev many : List PlainQuery → ℕ
  many queries = length (flat_map (list_of t.entries vertices) queries)

  -- what a query opens
  abbrev opened : (needed : ℕ) → PlainQuery → ℕ
  opened needed query = option_map_or (opened_to_find t needed) (question_of vertices query) 0

  finds_push : (needed : ℕ) (queries : List PlainQuery) (query : PlainQuery)
      → opened_by_finds t vertices needed (queries ++ query ∷ [])
      ≡ opened_by_finds t vertices needed queries + opened (needed - many queries) query
  finds_push needed [] query = let all : needed - 0 ≡ needed = omega arith in rw all (omega arith)
  finds_push needed (first ∷ queries) query =
      let rest = needed - length (list_of t.entries vertices first) in
      let left : rest - many queries ≡ needed - many (first ∷ queries) =
      omega (arith, length-append (list_of t.entries vertices first) (flat_map (list_of t.entries vertices) queries)) in
      let more = finds_push rest queries query in
      let same : opened (rest - many queries) query ≡ opened (needed - many (first ∷ queries)) query = ap (λ n. opened n query) left in
      omega (arith, more, same)

  -- with the next query
  pub finds_more : (needed : ℕ) (queries : List PlainQuery) (done : ℕ) (d : PlainQuery) → done < length queries
      → opened_by_finds t vertices needed (take (done + 1) queries)
      ≡ opened_by_finds t vertices needed (take done queries) + opened (needed - many (take done queries)) (get_or queries done d)
  finds_more needed queries done d inside =
      ap (opened_by_finds t vertices needed) (take_more queries done d inside) ∙ finds_push needed (take done queries) (get_or queries done d)

  module _ (skip places : ℕ) (queries : List PlainQuery) (done : ℕ) (d : PlainQuery) (inside : done < length queries) where
    abbrev needed : ℕ
    needed = skip + places + 1

    -- a count goes on by what the next query opens: for what is still passed over and what has a place
    pub finds_next : (from : Position) (question : Question) (n old mid new : ℕ)
        → from.skip ≡ skip - many (take done queries) → from.end ≡ length (lists_of t.entries vertices skip (take done queries))
        → from.end ≤ places → n ≡ places → question_of vertices (get_or queries done d) ≡ Some question
        → CountsOn old (opened_by_finds t vertices needed (take done queries)) mid
        → CountsOn mid (opened_to_find t (needed_from from n) question) new
        → CountsOn old (opened_by_finds t vertices needed (take (done + 1) queries)) new
    finds_next from question n old mid new skipped ended place len is before next =
        let left : needed - many (take done queries) ≡ needed_from from n =
        omega (arith, skipped, ended, place, len, length-drop skip (flat_map (list_of t.entries vertices) (take done queries))) in
        let one : opened (needed - many (take done queries)) (get_or queries done d) ≡ opened_to_find t (needed_from from n) question =
        ap (λ n. opened n (get_or queries done d)) left ∙ ap (λ found. option_map_or (opened_to_find t (needed_from from n)) found 0) is in
        let more = finds_more needed queries done d inside in
        let both : CountsOn old (opened_by_finds t vertices needed (take done queries) + opened_to_find t (needed_from from n) question) new =
        counts_then old mid new (opened_by_finds t vertices needed (take done queries)) (opened_to_find t (needed_from from n) question) before next in
        omega (arith, both, more, one)

    -- the next query asks no question
    pub finds_none : question_of vertices (get_or queries done d) ≡ None
        → opened_by_finds t vertices needed (take (done + 1) queries) ≡ opened_by_finds t vertices needed (take done queries)
    finds_none is =
        let more = finds_more needed queries done d inside in
        let none : opened (needed - many (take done queries)) (get_or queries done d) ≡ 0 =
        ap (λ found. option_map_or (opened_to_find t (needed - many (take done queries))) found 0) is in
        omega (arith, more, none)

  -- there is no next one
  pub finds_whole : (needed : ℕ) (queries : List PlainQuery) (done : ℕ) → length queries ≤ done
      → opened_by_finds t vertices needed (take (done + 1) queries) ≡ opened_by_finds t vertices needed (take done queries)
  finds_whole needed queries done all =
      ap (opened_by_finds t vertices needed) (take_all (done + 1) queries (omega (arith, all)) ∙ sym (take_all done queries all))

  measures_push : (measure : Measure) (queries : List PlainQuery) (query : PlainQuery)
      → opened_by_measures t vertices measure (queries ++ query ∷ [])
      ≡ opened_by_measures t vertices measure queries + option_map_or (opened_to_measure t measure) (question_of vertices query) 0
  measures_push measure [] query = omega arith
  measures_push measure (first ∷ queries) query = let more = measures_push measure queries query in omega (arith, more)

  -- of measures, with the next query
  pub measures_next : (measure : Measure) (queries : List PlainQuery) (done : ℕ) (d : PlainQuery) → done < length queries
      → (question : Question) (old mid new : ℕ) → question_of vertices (get_or queries done d) ≡ Some question
      → CountsOn old (opened_by_measures t vertices measure (take done queries)) mid
      → CountsOn mid (opened_to_measure t measure question) new
      → CountsOn old (opened_by_measures t vertices measure (take (done + 1) queries)) new
  measures_next measure queries done d inside question old mid new is before next =
      let one : option_map_or (opened_to_measure t measure) (question_of vertices (get_or queries done d)) 0 ≡ opened_to_measure t measure question =
      ap (λ found. option_map_or (opened_to_measure t measure) found 0) is in
      let more : opened_by_measures t vertices measure (take (done + 1) queries)
      ≡ opened_by_measures t vertices measure (take done queries) + opened_to_measure t measure question =
      ap (opened_by_measures t vertices measure) (take_more queries done d inside)
      ∙ measures_push measure (take done queries) (get_or queries done d) ∙ ap (λ n. opened_by_measures t vertices measure (take done queries) + n) one in
      let both : CountsOn old (opened_by_measures t vertices measure (take done queries) + opened_to_measure t measure question) new =
      counts_then old mid new (opened_by_measures t vertices measure (take done queries)) (opened_to_measure t measure question) before next in
      omega (arith, both, more)
