-- What a query in plain numbers asks, or why it is invalid.
use Rattle.std.specs.Prelude.{ℕ, ◌+◌, ◌-◌, ◌^◌, ◌==◌, ◌&&◌, nat_le, int_le, if◌then◌else◌, List, length, map, take, drop, Option, Some, None, Result, Ok, Err}
use Rattle.std.specs.Result.{result_ok}
use Rattle.rt_geo.specs.Boxes.{Rect, rect_of}
use Rattle.rt_geo.specs.Orders.{by_id, near}
use Rattle.rt_geo.specs.Polygons.{polygon_of}
use Rattle.rt_geo.specs.declared.distance.Point.{Point}
use Rattle.rt_geo.specs.declared.layers.Layers.{Layers}
use Rattle.rt_geo.specs.declared.order.Order.{Order}
use Rattle.rt_geo.specs.declared.order.Order.TheVariants.{Smallest}
use Rattle.rt_geo.specs.declared.polygon.PolygonFault.{PolygonFault}
use Rattle.rt_geo.specs.declared.polygon.PolygonFault.TheVariants as fault
use Rattle.rt_geo.specs.declared.region.Region.{Region}
use Rattle.rt_geo.specs.declared.region.Region.TheVariants.{All, Circle, Covers, Inside, Polygon, Window}
use Rattle.rt_text.specs.Steps.{◌>>=◌, map_fault, map_value}
use Rattle.rt_embed.specs.declared.plain_query.InvalidQuery.{InvalidQuery}
use Rattle.rt_embed.specs.declared.plain_query.InvalidQuery.TheVariants as invalid
use Rattle.rt_embed.specs.declared.plain_query.InvalidQuery.TheVariants.{MissingVertices, NoLayer, NotConvex, Reserved, Sides, VertexCount}
use Rattle.rt_embed.specs.declared.plain_query.PlainQuery.{PlainQuery}
use Rattle.rt_embed.specs.declared.question.Question.{Question}
use Rattle.rt_embed.specs.declared.vertex.Vertex.{Vertex}

-- the box, if no minimum is above its maximum
abbrev pub box_of : PlainQuery → Result Rect InvalidQuery
box_of query =
    if int_le query.min_x query.max_x && int_le query.min_y query.max_y
    then Ok (rect_of query.min_x query.max_x query.min_y query.max_y) else Err Sides

-- the point of a vertex
abbrev pub point_of : Vertex → Point
point_of vertex = record { x = vertex.x; y = vertex.y }

-- why vertices make no polygon
abbrev pub no_polygon : PolygonFault → InvalidQuery
no_polygon fault.Count = VertexCount
no_polygon fault.NotConvex = NotConvex

-- the polygon whose vertices are in the list from an index on, if the list has all of them and they make one
abbrev pub polygon_in : (vertices : List Vertex) → PlainQuery → Result (List Point) InvalidQuery
polygon_in vertices query =
    if nat_le (query.first_vertex + query.vertices) (length vertices)
    then map_fault no_polygon (polygon_of (map point_of (take query.vertices (drop query.first_vertex vertices))))
    else Err MissingVertices

-- the region that its number names, if it is one
abbrev pub region_of : (vertices : List Vertex) → PlainQuery → Result Region InvalidQuery
region_of vertices query =
    if query.region == 0 then Ok (All (record {}))
    else if query.region == 1 then map_value (λ box. Window (record { 0 = box })) (box_of query)
    else if query.region == 2 then map_value (λ box. Inside (record { 0 = box })) (box_of query)
    else if query.region == 3 then map_value (λ box. Covers (record { 0 = box })) (box_of query)
    else if query.region == 4 then
    Ok (Circle (record { centre = record { x = query.x; y = query.y }; radius = query.radius }))
    else if query.region == 5 then map_value Polygon (polygon_in vertices query)
    else Err invalid.Region

-- the order that its number names, if it is one
abbrev pub order_of : PlainQuery → Result Order InvalidQuery
order_of query =
    if query.order == 0 then Ok by_id
    else if query.order == 1 then Ok (near (record { x = query.near_x; y = query.near_y }))
    else if query.order == 2 then Ok (Smallest (record {}))
    else Err invalid.Order

-- the layers, of which there is at least one
abbrev pub layers_of : PlainQuery → Result Layers InvalidQuery
layers_of query = if query.layers == 0 then Err NoLayer else Ok (record { bits = query.layers })

-- the greatest number of 64 bits stands for no limit
abbrev pub limit_of : ℕ → Option ℕ
limit_of limit = if limit == 2 ^ 64 - 1 then None else Some limit

-- the question that a query asks, or why it is invalid: its region is judged first, then its order, its layers, and what is
-- reserved
abbrev pub judged : (vertices : List Vertex) → PlainQuery → Result Question InvalidQuery
judged vertices query = do
  region ← region_of vertices query
  order ← order_of query
  layers ← layers_of query
  if query.reserved == 0 then Ok (record { region = region; layers = layers; order = order; limit = limit_of query.limit })
      else Err Reserved

-- the question, if the query is valid
abbrev pub question_of : (vertices : List Vertex) → PlainQuery → Option Question
question_of vertices query = result_ok (judged vertices query)
