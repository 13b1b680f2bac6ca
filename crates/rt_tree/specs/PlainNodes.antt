-- Nodes with their layers in a list of their own.
use Rattle.std.specs.List.{zip}
use Rattle.std.specs.Prelude.{List, map}
use Rattle.rt_geo.specs.declared.layers.Layers.{Layers}
use Rattle.rt_tree.specs.declared.nodes.PlainNode.{PlainNode}
use Rattle.rt_tree.specs.declared.tree.Node.{Node}

-- a node without its layers
abbrev pub without_layers : Node → PlainNode
without_layers n = record { bounds = n.bounds; first = n.first; size = n.size; count = n.count; level = n.level }

-- a node with its layers
abbrev pub with_layers : PlainNode → Layers → Node
with_layers n layers = record {
  layers = layers;
  bounds = n.bounds;
  first = n.first;
  size = n.size;
  count = n.count;
  level = n.level;
}

-- nodes with their layers
abbrev pub nodes_of : List PlainNode → List Layers → List Node
nodes_of plain layers = map (λ p. with_layers p.0 p.1) (zip plain layers)
