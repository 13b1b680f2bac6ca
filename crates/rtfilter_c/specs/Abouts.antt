-- What a tree is, in numbers.
use Rattle.std.specs.Prelude.{◌≡◌, ◌<◌, ℕ, List, Some, get_or, length, map, slice_get}
use Rattle.rt_tree.specs.{Levels.{level_sizes}, Packed.{Packed, hull_of}}
use Rattle.rtfilter_c.specs.declared.about.About.{About}

-- how many boxes and levels it has, and the sides of the least box that holds all, which are 0 where there are none
abbrev pub about_of : Packed → About
about_of tree = let bounds = hull_of (map (λ e. e.bounds) tree.entries) in record {
  boxes = length tree.entries;
  levels = length (level_sizes (length tree.entries) tree.fanout);
  min_x = bounds.min_x;
  max_x = bounds.max_x;
  min_y = bounds.min_y;
  max_y = bounds.max_y;
}

-- the size of each level, from the boxes up, and 0 above the last
abbrev pub HasSizes : Packed → List ℕ → Type 0
HasSizes tree sizes = (level : ℕ) → level < length sizes
    → slice_get sizes level ≡ Some (get_or (level_sizes (length tree.entries) tree.fanout) level 0)
