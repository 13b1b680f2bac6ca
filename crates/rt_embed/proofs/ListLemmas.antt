-- The lists of queries, one behind the other.
use Rattle.std.proofs.Common.{◌≡◌, ◌∙◌, ◌+◌, ◌-◌, ◌<◌, ◌≤◌, ◌++◌, ◌∷◌, [], ℕ, zero, suc, List, All, Some, length, take, drop, flat_map, map, pos, refl, sym, ap, arith, subst}
use Rattle.std.proofs.Math.{ListN.{get_or, set}, Seq.{take-append-add}}
use Rattle.std.proofs.lemmas.Grind.{flat_map-append}
use Rattle.std.proofs.lemmas.List.{append-nil, length-append, map_more, take_all, take_more, take_more_set, take-append-drop, take-append-le}
use Rattle.std.proofs.lemmas.List.Elements.{All-push}
use Rattle.std.specs.Option.{option_map_or}
use Rattle.rt_geo.specs.declared.entry.Entry.{Entry}
use Rattle.rt_search.specs.Answers.{Answer}
use Rattle.rt_embed.specs.{Findings.{answers_to, ends_of, list_of, lists_of}, PlainQueries.{question_of}}
use Rattle.rt_embed.specs.declared.{plain_query.PlainQuery.{PlainQuery}, question.Question.{Question}, vertex.Vertex.{Vertex}}
use Rattle.rt_embed.proofs.ArrayLemmas.{drop-append}

-- each of the first items of a list is such, and so is the next
pub all_more : {X : Type 0} (P : X → Type 0) (xs : List X) (i : ℕ) (d : X) → i < length xs → All P (take i xs) → P (get_or xs i d)
    → All P (take (i + 1) xs)
all_more P xs i d inside all one =
    subst (All P) (sym (take_more xs i d inside)) (All-push P (take i xs) (get_or xs i d) all one)

-- one number more is written, that of the next item
pub mapped_more : {X : Type 0} (f : X → ℕ) (xs : List X) (array : List ℕ) (i n : ℕ) (d : X) → i < length xs → i < length array
    → take i array ≡ map f (take i xs) → n ≡ f (get_or xs i d) → take (i + 1) (set array i n) ≡ map f (take (i + 1) xs)
mapped_more f xs array i n d inside place same is =
    take_more_set array i n place ∙ rw (same, is) (sym (map_more f xs i d inside))

-- what a proof names where a list of queries has none at a place
abbrev pub no_query : PlainQuery
no_query = record {
  region = 0;
  order = 0;
  min_x = pos 0;
  max_x = pos 0;
  min_y = pos 0;
  max_y = pos 0;
  x = pos 0;
  y = pos 0;
  radius = 0;
  near_x = pos 0;
  near_y = pos 0;
  first_vertex = 0;
  vertices = 0;
  reserved = 0;
  layers = 0;
  limit = 0;
}

module _ (entries : List Entry) (vertices : List Vertex) (skip : ℕ) where
  -- the list of a query, and those of queries
  abbrev list : PlainQuery → List Answer
  list = list_of entries vertices

  abbrev lists : List PlainQuery → List Answer
  lists = lists_of entries vertices skip

  -- how many answers are still passed over behind the lists of queries
  abbrev left : List PlainQuery → ℕ
  left queries = skip - length (flat_map list queries)

  lists_append : (queries others : List PlainQuery)
      → lists (queries ++ others) ≡ lists queries ++ drop (left queries) (flat_map list others)
  lists_append queries others =
      ap (drop skip) (flat_map-append list queries others) ∙ drop-append skip (flat_map list queries) (flat_map list others)

  module _ (queries : List PlainQuery) (done : ℕ) (d : PlainQuery) (inside : done < length queries) where
    -- the list of the next query
    abbrev next : List Answer
    next = list (get_or queries done d)

    pub lists_more : lists (take (done + 1) queries) ≡ lists (take done queries) ++ drop (left (take done queries)) next
    lists_more =
        ap lists (take_more queries done d inside) ∙ lists_append (take done queries) (get_or queries done d ∷ [])
        ∙ ap (λ last. lists (take done queries) ++ drop (left (take done queries)) last) (append-nil next)

    pub left_more : left (take (done + 1) queries) ≡ left (take done queries) - length next
    left_more =
        let both : flat_map list (take (done + 1) queries) ≡ flat_map list (take done queries) ++ next =
        ap (flat_map list) (take_more queries done d inside) ∙ flat_map-append list (take done queries) (get_or queries done d ∷ [])
        ∙ ap (λ last. flat_map list (take done queries) ++ last) (append-nil next) in
        omega (arith, ap length both, length-append (flat_map list (take done queries)) next)

  -- the lists of all queries begin with those of the first
  lists_begin : (queries : List PlainQuery) (done : ℕ)
      → lists queries ≡ lists (take done queries) ++ drop (left (take done queries)) (flat_map list (drop done queries))
  lists_begin queries done =
      ap lists (sym (take-append-drop done queries)) ∙ lists_append (take done queries) (drop done queries)

  -- what is cut off at a place in the lists of the first queries is what is cut off there in those of all
  pub cut_first : (queries : List PlainQuery) (done end : ℕ) → end ≤ length (lists (take done queries))
      → take end (lists (take done queries)) ≡ take end (lists queries)
  cut_first queries done end few =
      sym (ap (take end) (lists_begin queries done) ∙ take-append-le end (lists (take done queries)) _ few)

  pub few_first : (queries : List PlainQuery) (done : ℕ) → length (lists (take done queries)) ≤ length (lists queries)
  few_first queries done =
      omega (
        arith,
        ap length (lists_begin queries done),
        length-append (lists (take done queries)) (drop (left (take done queries)) (flat_map list (drop done queries))),
      )

  -- where lists end
  length-ends : (queries : List PlainQuery) (done : ℕ) → length (ends_of entries vertices skip queries done) ≡ done
  length-ends queries zero = refl
  length-ends queries (suc done) =
      omega (
        arith,
        length-ends queries done,
        length-append (ends_of entries vertices skip queries done) (length (lists (take (suc done) queries)) ∷ []),
      )

  pub ends_len : (queries : List PlainQuery) (done : ℕ) → length (ends_of entries vertices skip queries done) ≡ done
  ends_len = length-ends

  pub ends_more : (queries : List PlainQuery) (done end : ℕ) → end ≡ length (lists (take (done + 1) queries))
      → ends_of entries vertices skip queries done ++ end ∷ [] ≡ ends_of entries vertices skip queries (done + 1)
  ends_more queries done end is =
      let one : done + 1 ≡ suc done = omega arith in
      let last : end ≡ length (lists (take (suc done) queries)) = is ∙ ap (λ n. length (lists (take n queries))) one in
      rw one (ap (λ n. ends_of entries vertices skip queries done ++ n ∷ []) last)

  -- the list of a query that asks a question
  pub list_is : (query : PlainQuery) (question : Question) → question_of vertices query ≡ Some question
      → list query ≡ answers_to entries question
  list_is query question is = ap (λ found. option_map_or (answers_to entries) found []) is

-- a list behind another is whole where it ends behind all of its items, and else cut
pub whole_list : {X : Type 0} (before list : List X) (from end : ℕ) → end ≡ from + length list
    → before ++ take (end - from) list ≡ before ++ list
whole_list before list from end is =
    ap (λ last. before ++ last) (take_all (end - from) list (omega (arith, is)))

pub cut_list : {X : Type 0} (before list : List X) (from end : ℕ) → length before ≡ from → from ≤ end
    → before ++ take (end - from) list ≡ take end (before ++ list)
cut_list before list from end len behind =
    let sum : end ≡ length before + (end - from) = omega (arith, len, behind) in
    sym (ap (λ n. take n (before ++ list)) sum ∙ take-append-add before list (end - from))
