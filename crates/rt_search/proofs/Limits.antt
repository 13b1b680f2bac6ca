-- What may be left out where a limit is known.
use Rattle.std.proofs.Common.{◌≡◌, ◌≢◌, ◌≤◌, ◌-◌, ℕ, zero, suc, Bool, cond, Option, Some, None, List, [], ◌∷◌}
use Rattle.std.proofs.Common.{Ordering, length, refl, sym, ◌∙◌, ap, arith}
use Rattle.rt_geo.specs.{Laws.{Meaning}, declared.geometry.Verdict.{Verdict}}
use Rattle.rt_tree.specs.{Packed.{Packed}, Sorting.{put}}
use Rattle.rt_search.specs.{Items.{item_cmp}, Joining.{join_node, join_nodes}, Kept.{IsRising}}
use Rattle.rt_search.specs.{Limits.{IsEnough, entries_at, front, front_of, less_at}, Remaining.{put_all}}
use Rattle.rt_search.specs.{declared.item.{Item.{Item}}}
use Rattle.rt_search.proofs.{OrderedLists.{length-put, length-put_all, put_all-put}, Orders.{item_order}}
use Rattle.rt_search.proofs.SortedLists.{rising_put}
use Rattle.rt_tree.specs.declared.tree.Node as node

-- ---- the front of a list

front_zero : (xs : List Item) → front xs 0 ≡ []
front_zero [] = refl
front_zero (x ∷ xs) = refl

-- a longer front has the same front
front-front : (xs : List Item) (m n : ℕ) → m ≤ n → front (front xs n) m ≡ front xs m
front-front [] m n h = refl
front-front (x ∷ xs) zero n h = front_zero (front (x ∷ xs) n)
front-front (x ∷ xs) (suc m) zero h = absurd (omega arith)
front-front (x ∷ xs) (suc m) (suc n) h =
    ap (λ l. x ∷ l) (front-front xs (suc m - entries_at x.place) (suc n - entries_at x.place) (omega arith))

-- what joins the front joins the list, in any order
front-put : (cmp : Item → Item → Ordering) (x : Item) (xs : List Item) (n : ℕ)
    → front (put cmp x (front xs n)) n ≡ front (put cmp x xs) n
front-put cmp x [] n = refl
front-put cmp x (y ∷ ys) zero = grind (arith, front_zero)
front-put cmp x (y ∷ ys) (suc n) = grind (arith, front-put cmp x ys, front-front)

-- so that lists with the same front stay so where x joins
same_put : (x : Item) (xs ys : List Item) (needed : Option ℕ) → front_of needed xs ≡ front_of needed ys
    → front_of needed (put item_cmp x xs) ≡ front_of needed (put item_cmp x ys)
same_put x xs ys None h = ap (put item_cmp x) h
same_put x xs ys (Some n) h =
    sym (front-put item_cmp x xs n) ∙ ap (λ l. front (put item_cmp x l) n) h ∙ front-put item_cmp x ys n

-- ---- enough is kept

pub enough_itself : (needed : Option ℕ) (xs : List Item) → IsEnough needed xs xs
enough_itself needed xs = grind arith

pub enough_trans : (needed : Option ℕ) (xs ys zs : List Item) → IsEnough needed xs ys → IsEnough needed ys zs
    → IsEnough needed xs zs
enough_trans needed xs ys zs h k = grind arith

pub enough_put : (needed : Option ℕ) (x : Item) (xs ys : List Item) → IsEnough needed xs ys
    → IsEnough needed (put item_cmp x xs) (put item_cmp x ys)
enough_put needed x xs ys h = grind (arith, same_put, length-put, item_order)

pub enough_put_all : (needed : Option ℕ) (zs xs ys : List Item) → IsEnough needed xs ys
    → IsEnough needed (put_all item_cmp zs xs) (put_all item_cmp zs ys)
enough_put_all needed [] xs ys h = h
enough_put_all needed (z ∷ zs) xs ys h =
    enough_put needed z (put_all item_cmp zs xs) (put_all item_cmp zs ys) (enough_put_all needed zs xs ys h)

pub enough_same : (needed : Option ℕ) (xs ys : List Item) → xs ≡ ys → IsEnough needed xs ys
enough_same needed xs ys e = grind arith

-- what joins one list joins both
pub enough_joined : (needed : Option ℕ) (x : Item) (zs old new : List Item) → IsEnough needed new (put item_cmp x old)
    → IsEnough needed (put_all item_cmp zs new) (put item_cmp x (put_all item_cmp zs old))
enough_joined needed x zs old new h =
    grind (arith, put_all-put, item_order, enough_put_all needed zs new (put item_cmp x old) h)

-- of an empty list and another neither has any
pub none_merged : (xs ys : List Item) → put_all item_cmp xs ys ≡ [] → ys ≡ []
none_merged xs [] h = refl
none_merged xs (y ∷ ys) h = absurd (omega (arith, ap length h, length-put_all item_cmp item_order xs (y ∷ ys)))

pub still_none : (xs ys zs : List Item) → put_all item_cmp xs ys ≡ [] → zs ≡ [] → put_all item_cmp xs zs ≡ []
still_none xs ys zs h e = grind (arith, none_merged)

-- ---- the children of a node join

enough_one : (b : Bool) (needed : Option ℕ) (x : Item) (xs ys : List Item) → IsEnough needed xs ys
    → IsEnough needed (cond b (put item_cmp x xs) xs) (cond b (put item_cmp x ys) ys)
enough_one b needed x xs ys h = grind (arith, enough_put needed x xs ys h)

pub rising_put_all : (zs xs : List Item) → IsRising xs → IsRising (put_all item_cmp zs xs)
rising_put_all [] xs h = h
rising_put_all (z ∷ zs) xs h = rising_put z (put_all item_cmp zs xs) (rising_put_all zs xs h)

pub enough_node : (needed : Option ℕ) (v : Verdict) (number : ℕ) (new xs ys : List Item) → IsEnough needed xs ys
    → IsEnough needed new (join_node v number xs) → IsEnough needed new (join_node v number ys)
enough_node needed v number new xs ys h k =
    grind (arith, enough_trans needed new (join_node v number xs) (join_node v number ys) k, enough_put)

module _ (meaning : Meaning) (t : Packed) (v : Verdict) (n : node.Node) (needed : Option ℕ) where
  pub enough_nodes : (i : ℕ) (xs ys : List Item) → IsEnough needed xs ys
      → IsEnough needed (join_nodes meaning t v n i xs) (join_nodes meaning t v n i ys)
  enough_nodes zero xs ys h = h
  enough_nodes (suc i) xs ys h = enough_one _ needed _ _ _ (enough_nodes i xs ys h)

  pub rising_nodes : (i : ℕ) (xs : List Item) → IsRising xs → IsRising (join_nodes meaning t v n i xs)
  rising_nodes zero xs h = h
  rising_nodes (suc i) xs h = grind (arith, rising_put, rising_nodes i xs h)

-- ---- the first is taken out

pub none_left : (needed : Option ℕ) (all : List Item) → needed ≢ Some 0 → IsEnough needed [] all → all ≡ []
none_left None all more h = sym h.same
none_left (Some zero) all more h = absurd (more refl)
none_left (Some (suc n)) [] more h = refl
none_left (Some (suc n)) (x ∷ all) more h = grind arith

pub first_kept : (needed : Option ℕ) (x : Item) (xs all : List Item) → needed ≢ Some 0 → IsEnough needed (x ∷ xs) all
    → (ys : List Item) × ((all ≡ x ∷ ys) × IsEnough (less_at x.place needed) xs ys)
first_kept None x xs all more h = (xs, grind arith)
first_kept (Some zero) x xs all more h = absurd (more refl)
first_kept (Some (suc n)) x xs [] more h = grind arith
first_kept (Some (suc n)) x xs (y ∷ ys) more h = grind arith
