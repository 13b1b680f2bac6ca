-- All layers are those of all entries, so a query on all of them is one that asks for none.
use Rattle.std.proofs.Common.{◌≡◌, ◌∙◌, ap, Bool, false, true, not, List, [], ◌∷◌, ◌&&◌, ℕ, filter, refl, arith}
use Rattle.std.proofs.{Common.{rules}, lemmas.Bool.Decides.{nat_tests}, lemmas.List.Elements.{recursion_from_All}, lemmas.Nat.{and_mask}}
use Rattle.std.specs.List.{All, AllByRecursion}
use Rattle.rt_geo.specs.{Entries.{HasLayer}, Laws.{Extent, extent_of_entry}, Layers.{HasSome, all_layers, disjoint, subset}}
use Rattle.rt_geo.specs.{Lemmas.Layers.{disjoint-only, has-all}, OnLayers.{on_layers_accepts, on_layers_state}}
use Rattle.rt_geo.specs.declared.{entry.Entry.{Entry}, geometry.{Info.{Info}, Within.{Within}}, layers.Layers.{Layers}}

abbrev pub with_bits : ℕ → Layers
with_bits n = record { bits = n }

-- ---- the entries that are accepted

abbrev pub accepted_by : (accepts : Extent → Bool) → List Entry → List Entry
accepted_by accepts entries = filter (λ e. accepts (extent_of_entry e)) entries

-- an entry is on some layer
on_some : (entry : Entry) → HasLayer entry → disjoint (extent_of_entry entry).layers all_layers ≡ false
on_some entry few = disjoint-only entry.layer all_layers ∙ ap not (has-all entry.layer few)

and_not : (a b : Bool) → b ≡ false → (a && not b) ≡ a
and_not a b h = grind (arith, h)

module _ (accepts : Extent → Bool) where
  same_by_recursion : (entries : List Entry) → AllByRecursion HasLayer entries
      → accepted_by (on_layers_accepts accepts all_layers) entries ≡ accepted_by accepts entries
  same_by_recursion [] a = refl
  same_by_recursion (entry ∷ entries) a = grind (arith, and_not, on_some, same_by_recursion entries a.1)

  pub accepted-all : (entries : List Entry) → All HasLayer entries → (layers : Layers) → layers ≡ all_layers
      → accepted_by accepts entries ≡ accepted_by (on_layers_accepts accepts layers) entries
  accepted-all entries few layers all = search (rules, same_by_recursion, recursion_from_All)

-- ---- the states of nodes

-- some layers are among all, and share one with them
all_masked : (layers : Layers) → HasSome layers → (disjoint layers all_layers ≡ false) × (subset layers all_layers ≡ true)
all_masked layers some =
    let whole = and_mask layers.bits 64 in
    let fits = some.fits in
    let more = some.some in
    grind (arith, nat_tests, whole)

pub state_all : (state : Info → Within) (layers : Layers) → layers ≡ all_layers → (i : Info) → HasSome i.layers
    → on_layers_state state layers i ≡ state i
state_all state layers all i some = let masked = all_masked i.layers some in rw (all, masked.0, masked.1) refl
