-- Nodes whose layers stand in a list of their own.
use Rattle.std.proofs.Common.{◌≡◌, List, length, map, refl}
use Rattle.rt_geo.specs.declared.layers.Layers.{Layers}
use Rattle.rt_tree.specs.{PlainNodes.{nodes_of, with_layers, without_layers}, declared.nodes.PlainNode.{PlainNode}}
use Rattle.rt_tree.specs.declared.tree.Node.{Node}
use Rattle.rt_tree.proofs.PairLemmas.{left-alone, length-paired}

-- the layers of a node
abbrev pub layers_of : Node → Layers
layers_of n = n.layers

-- what two lists make has the nodes without their layers
pub nodes-alone : (nodes : List PlainNode) (layers : List Layers) → length nodes ≡ length layers
    → map without_layers (nodes_of nodes layers) ≡ nodes
nodes-alone = left-alone with_layers without_layers layers_of (λ _ _. refl) (λ _ _. refl)

pub length-nodes_of : (nodes : List PlainNode) (layers : List Layers) → length nodes ≡ length layers
    → length (nodes_of nodes layers) ≡ length nodes
length-nodes_of = length-paired with_layers without_layers layers_of (λ _ _. refl) (λ _ _. refl)
