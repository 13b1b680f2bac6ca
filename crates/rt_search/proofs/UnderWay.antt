-- A search goes on, and keeps no more than its limit makes necessary.
use Rattle.std.proofs.Common.{◌≡◌, ◌≢◌, ◌<◌, ◌≤◌, ◌+◌, ◌^◌, ◌∷◌, ℕ, List, length, map, Option, Some, None, refl, sym, ◌∙◌}
use Rattle.std.proofs.{Common.{ap, subst, arith}, lemmas.Bool.{eq-eqb, ne_eqb}}
use Rattle.std.specs.Prelude.{MatchOption}
use Rattle.rt_geo.specs.Laws.{IsLawful, IsUnscored, Meaning, estimate_of}
use Rattle.rt_geo.specs.declared.geometry.Verdict.{Verdict}
use Rattle.rt_tree.specs.Packed.{Packed, IsSound, node_at}
use Rattle.rt_search.specs.{Answers.{Answer}, Items.{item_at, item_of}, Joining.{join_answers, join_nodes}}
use Rattle.rt_search.specs.{Kept.{IsRising, IsTakenOut, node_or, taken_entry, taken_item}, Limits.{IsEnough}}
use Rattle.rt_search.specs.{Limits.{needed_after}, Progress.{IsFound, IsOut, IsOver, IsSearching, IsUnderWay}}
use Rattle.rt_search.specs.{Progress.{join_children, work_left}, Remaining.{IsOpenable, height_at, remaining, verdict_on}}
use Rattle.rt_search.specs.Walking.{answers_among, answers_under, work_under}
use Rattle.rt_search.specs.Work.{is_reached, its_children, one_node, reached_from_root}
use Rattle.rt_search.specs.declared.item.{Item.{Item}, ScoredNode.{ScoredNode}, WaitingNode.{WaitingNode}}
use Rattle.rt_search.proofs.{Answering.{take_entry}, Limits.{rising_put_all, enough_nodes, enough_put_all}}
use Rattle.rt_search.proofs.{Limits.{enough_trans, first_kept, none_left, rising_nodes}, Sizes.{size_counts}}
use Rattle.rt_search.proofs.Sizes.{count_is_fair, done_upto, held_cons, length_le_held, one_is_fair, work_cons, work_le}
use Rattle.rt_search.proofs.{Stepping.{children_step, entry_course, reached_is, walk_step}, Unscored.{reached_alike}}
use Rattle.rt_tree.specs.declared.tree.Node.{Node}
use Rattle.rt_tree.specs.declared.tree.Node as node
use Rattle.rt_search.specs.declared.item.Place.TheVariants as place

pub still_more : (w w' : Option ℕ) → w' ≡ w → w ≢ Some 0 → w' ≢ Some 0
still_more w w' same more = λ e. more (sym same ∙ e)

-- no more waits than there are entries
pub few_wait : (meaning : Meaning) (t : Packed)
    {opened asked : ℕ} {needed : Option ℕ} {to_come : List Answer} {items : List Item}
    → IsUnderWay meaning t opened asked needed to_come items → length items ≤ length t.entries
few_wait meaning t u = omega (arith, u.enough.few, length_le_held meaning t u.all u.state.sound, u.state.space)

-- ---- what was taken out of a queue

module _ (meaning : Meaning) (t : Packed) (needed : Option ℕ) (s : ℕ) (n : WaitingNode) where
  enough_children : (xs ys : List Item) → IsEnough needed xs ys
      → IsEnough needed (join_children meaning t s n xs) (join_children meaning t s n ys)
  enough_children xs ys h =
      let m = node_at t n.number.number in
      let leaf = enough_put_all needed (map item_of (answers_among t meaning m m.count)) xs ys h in
      let inner = enough_nodes meaning t (verdict_on s n) m needed m.count xs ys h in
      grind arith

module _ {meaning : Meaning} (law : IsLawful meaning) (t : Packed) where
  -- ---- a node is opened

  -- what the calls leave is what is defined
  pub leaf_joins : (needed : Option ℕ) (s : ℕ) (n : WaitingNode) (m : node.Node) (new xs : List Item)
      → m ≡ node_at t n.number.number → m.level ≡ 1
      → IsEnough needed new (join_answers (answers_among t meaning m m.count) xs)
      → IsEnough needed new (join_children meaning t s n xs)
  leaf_joins needed s n m new xs is low h = grind (arith, eq-eqb)

  pub nodes_join : (needed : Option ℕ) (s : ℕ) (n : WaitingNode) (m : node.Node) (v : Verdict) (new xs : List Item)
      → m ≡ node_at t n.number.number → m.level ≢ 1 → v ≡ verdict_on s n
      → (let l = node_at t n.number.number in IsEnough needed new (join_nodes meaning t v l l.count xs))
      → IsEnough needed new (join_children meaning t s n xs)
  nodes_join needed s n m v new xs is high same h = grind (arith, ne_eqb)

  -- what opening it requires, and what it leads to
  pub record CanGoOn (opened asked : ℕ) (needed : Option ℕ) (to_come : List Answer) (s : ℕ) (n : WaitingNode)
      (xs : List Item) : Type 0 where
    pub tree : IsSound t
    pub node : IsOpenable t meaning n.number.number (verdict_on s n)
    pub space : length xs + (node_at t n.number.number).count ≤ length t.entries
    pub opened_low : opened + 1 ≤ 2 ^ 32
    pub asked_low : asked + (node_at t n.number.number).count ≤ 2 ^ 32
    pub next : (new : List Item) → IsEnough needed new (join_children meaning t s n xs)
        → IsUnderWay meaning t (opened + 1) (asked + (node_at t n.number.number).count) needed
        to_come new

  pub go_on : {opened asked : ℕ} {needed : Option ℕ} {to_come : List Answer} {s : ℕ} {n : WaitingNode} {xs : List Item}
      → s < 2 ^ 128 → IsOut meaning t opened asked needed to_come (item_at s (place.Node n)) xs
      → CanGoOn opened asked needed to_come s n xs
  go_on {opened} {asked} {needed} {s = s} {n} {xs} small out =
      let x = item_at s (place.Node n) in
      let ys = out.others in
      let state = out.taken.state in
      let step = children_step law t {opened = opened} {asked = asked} {s = s} {n = n} {xs = ys} small out.taken in
      let few = length_le_held meaning t ys state.sound.1 in
      let shorter = out.enough.few in
      let count = (size_counts t _ _ state.sound.0.tree).1 in
      let opened_upto = done_upto (is_reached None) one_node meaning t (one_is_fair t) opened s n ys (reached_is None s n) state.opening.in_all in
      let asked_upto = done_upto (is_reached None) its_children meaning t (count_is_fair t) asked s n ys (reached_is None s n) state.asking.in_all in
      record {
        tree = state.tree;
        node = state.sound.0;
        space = omega (arith, held_cons meaning t x ys, state.space);
        opened_low = omega (arith, work_le (is_reached None) one_node meaning t (one_is_fair t) state.tree);
        asked_low = omega (arith, work_le (is_reached None) its_children meaning t (count_is_fair t) state.tree);
        next = λ new h. record {
          all = join_children meaning t s n ys;
          state = step.state;
          rising = (let rising = out.rising in grind (arith, rising_put_all, rising_nodes));
          follows = step.same ∙ out.follows;
          enough = enough_trans needed new (join_children meaning t s n xs) _ h (enough_children meaning t needed s n xs ys out.enough);
        };
      }

  -- the same where all under it is opened at once, as nodes have no scores
  pub record CanWalk (opened asked : ℕ) (needed : Option ℕ) (to_come : List Answer) (s : ℕ) (n : WaitingNode)
      (xs : List Item) : Type 0 where
    pub tree : IsSound t
    pub node : IsOpenable t meaning n.number.number (verdict_on s n)
    pub space : length xs + (node_at t n.number.number).size ≤ length t.entries
    pub opened_low : opened + work_under (is_reached None) one_node meaning t (verdict_on s n) n.number.number ≤ 2 ^ 32
    pub asked_low : asked + work_under (is_reached None) its_children meaning t (verdict_on s n) n.number.number ≤ 2 ^ 32
    pub some : 0 < work_under (is_reached None) one_node meaning t (verdict_on s n) n.number.number
    pub next : (new : List Item) → IsEnough needed new (join_answers (answers_under t meaning n.number.number) xs)
        → IsUnderWay meaning t
        (opened + work_under (is_reached None) one_node meaning t (verdict_on s n) n.number.number)
        (asked + work_under (is_reached None) its_children meaning t (verdict_on s n) n.number.number) needed to_come new

  pub walk_on : IsUnscored (estimate_of meaning) → {opened asked : ℕ} {needed : Option ℕ} {to_come : List Answer} {s : ℕ}
      {n : WaitingNode} {xs : List Item} → IsOut meaning t opened asked needed to_come (item_at s (place.Node n)) xs
      → CanWalk opened asked needed to_come s n xs
  walk_on unscored {opened} {asked} {needed} {s = s} {n} {xs} out =
      let x = item_at s (place.Node n) in
      let number = n.number.number in
      let ys = out.others in
      let state = out.taken.state in
      let v = verdict_on s n in
      let step = walk_step law t {opened = opened} {asked = asked} out.taken
      (λ cost bound. reached_alike meaning unscored t bound cost (height_at t number) v (node_at t number) state.sound.0.tree) in
      let few = length_le_held meaning t ys state.sound.1 in
      let shorter = out.enough.few in
      let opens : (cost : Node → ℕ) → work_left (is_reached None) cost meaning t (x ∷ ys)
      ≡ work_under (is_reached None) cost meaning t v number + work_left (is_reached None) cost meaning t ys =
      λ cost. grind (arith, work_cons (is_reached None) cost meaning t x ys, reached_is None s n) in
      let found = map item_of (answers_under t meaning number) in
      record {
        tree = state.tree;
        node = state.sound.0;
        space = omega (arith, held_cons meaning t x ys, state.space);
        opened_low = omega (arith, work_le (is_reached None) one_node meaning t (one_is_fair t) state.tree, opens one_node, state.opening.in_all);
        asked_low = omega (arith, work_le (is_reached None) its_children meaning t (count_is_fair t) state.tree, opens its_children, state.asking.in_all);
        some = grind arith;
        next = λ new h. record {
          all = join_answers (answers_under t meaning number) ys;
          state = step.state;
          rising = rising_put_all found ys out.rising;
          follows = step.same ∙ out.follows;
          enough = enough_trans needed new _ _ h (enough_put_all needed found xs ys out.enough);
        };
      }

  -- a node was taken out of the queue
  pub node_out : {opened asked : ℕ} {needed limit : Option ℕ} {to_come : List Answer} {items xs : List Item}
      (out : Option ScoredNode × Option Answer) (m : ScoredNode) → needed ≡ limit → limit ≢ Some 0
      → out.0 ≡ Some m → IsTakenOut (taken_item out) items xs → IsUnderWay meaning t opened asked needed to_come items
      → IsOut meaning t opened asked needed to_come (item_at m.score (place.Node m.node)) xs
  node_out {opened} {asked} {needed} {limit} {items = items} {xs} out m is_limit some reported took u =
      let more = still_more limit needed is_limit some in
      let is = (subst (λ o. IsTakenOut (node_or o (taken_entry out.1)) items xs) reported took).0 in
      let x = item_at m.score (place.Node m.node) in
      let k = first_kept needed x xs u.all more (subst (λ l. IsEnough needed l u.all) is u.enough) in
      let up = subst IsRising k.1.0 u.rising in
      record {
        others = k.0;
        taken = record { least = up.0; state = subst (IsSearching meaning t opened asked) k.1.0 u.state };
        rising = up.1;
        follows = ap (remaining t meaning) (sym k.1.0) ∙ u.follows;
        enough = k.1.1;
      }

  -- no more is opened than in all
  pub opened_upto : {opened asked : ℕ} {needed : Option ℕ} {to_come : List Answer} {items : List Item}
      → IsUnderWay meaning t opened asked needed to_come items
      → opened ≤ reached_from_root (is_reached None) one_node meaning t
  opened_upto u = omega (arith, u.state.opening.in_all)

  -- an entry was taken out, or nothing
  pub ended : (out : Option Answer) (new : List Item) {opened asked : ℕ} {needed needed' : Option ℕ}
      {to_come : List Answer} {items : List Item} → needed ≢ Some 0 → IsTakenOut (taken_entry out) items new
      → needed' ≡ needed_after (taken_entry out) needed → IsUnderWay meaning t opened asked needed to_come items
      → MatchOption out (IsOver meaning t opened asked needed' to_come new)
      (λ a. IsFound meaning t opened asked needed' to_come a new)
  ended None new more took same u = grind (arith, none_left)
  ended (Some a) xs {opened} {asked} {needed} {to_come = to_come} more took same u =
      let x = item_at a.1 (place.Entry a.0) in
      let k = first_kept needed x xs u.all more (subst (λ l. IsEnough needed l u.all) took.0 u.enough) in
      let ys = k.0 in
      let up = subst IsRising k.1.0 u.rising in
      let state = subst (IsSearching meaning t opened asked) k.1.0 u.state in
      let sound = state.sound.1 in
      let o = entry_course law t one_node a.0 a.1 opened ys up.0 sound state.opening in
      let b = entry_course law t its_children a.0 a.1 asked ys up.0 sound state.asking in
      rw same (record {
        rest = remaining t meaning ys;
        first = sym u.follows ∙ ap (remaining t meaning) k.1.0 ∙ take_entry meaning t a.0 a.1 ys up.0 sound;
        state = record {
          all = ys;
          state = record { tree = state.tree; sound = sound; space = omega (arith, held_cons meaning t x ys, state.space); opening = o.0; asking = b.0 };
          rising = up.1;
          follows = refl;
          enough = k.1.1;
        };
        reached = record { nodes = o.1; checks = b.1 };
      })
