-- Each region keeps the laws of a shape.
use Rattle.rt_geo.specs.Laws.{IsFaithful}
use Rattle.rt_geo.specs.Lemmas.Polygons.{polygon-faithful}
use Rattle.rt_geo.specs.Lemmas.Shapes.{all-faithful, covers-faithful, disc-faithful, inside-faithful, window-faithful}
use Rattle.rt_geo.specs.Regions.{disc_of, region_accepts, region_state}
use Rattle.rt_geo.specs.declared.region.Region.{Region}
use Rattle.rt_geo.specs.declared.region.Region.TheVariants.{All, Window, Inside, Covers, Circle, Polygon}

pub region-faithful : (r : Region) → IsFaithful (region_accepts r) (region_state r)
region-faithful (All shape) = all-faithful shape
region-faithful (Window shape) = window-faithful shape
region-faithful (Inside shape) = inside-faithful shape
region-faithful (Covers shape) = covers-faithful shape
region-faithful (Circle shape) = disc-faithful (disc_of shape)
region-faithful (Polygon vertices) = polygon-faithful vertices
