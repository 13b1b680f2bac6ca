-- What a query line asks: a recursion on its words from left to right, whose first fault is the line's.
use Rattle.std.specs.Prelude.{drop, false, ◌≡◌, ℕ, zero, suc, ◌-◌, ◌^◌, ◌==◌, nat_eq, ℤ, pos, int_lt, unsigned_abs, Bool, ◌||◌, if◌then◌else◌, List, [], ◌∷◌, Option, Some, None, Result, Ok, Err, codes}
use Rattle.std.specs.List.{slice_split, starts_with}
use Rattle.std.specs.Str.{bytes_eq}
use Rattle.std.specs.Str.Lines.{strip_carriage_return}
use Rattle.rt_geo.specs.Boxes.{Rect, greatest_coordinate, least_coordinate, rect_of}
use Rattle.rt_geo.specs.Layers.{all_layers, most_layer, no_layers, only, union}
use Rattle.rt_geo.specs.Orders.{by_id, near}
use Rattle.rt_geo.specs.declared.distance.Point.{Point}
use Rattle.rt_geo.specs.declared.layers.Layers.{Layers}
use Rattle.rt_geo.specs.declared.order.Order.{Order}
use Rattle.rt_geo.specs.declared.order.Order.TheVariants.{Smallest}
use Rattle.rt_geo.specs.Polygons.{polygon_of}
use Rattle.rt_geo.specs.declared.polygon.PolygonFault.{PolygonFault}
use Rattle.rt_geo.specs.declared.polygon.PolygonFault.TheVariants as shape
use Rattle.rt_geo.specs.declared.region.Region.{Region}
use Rattle.rt_geo.specs.declared.region.Region.TheVariants.{All, Circle, Covers, Inside, Polygon, Window}
use Rattle.rt_geo.specs.declared.shapes.Circle.{Circle as Disc}
use Rattle.rt_text.specs.Numbers.{fault_as, number_in}
use Rattle.rt_text.specs.Steps.{◌>>=◌, map_fault, map_value}
use Rattle.rt_text.specs.Words.{words}
use Rattle.rt_text.specs.declared.query.Parsed.{Parsed}
use Rattle.rt_text.specs.declared.query.Parsed.TheVariants as parsed
use Rattle.rt_text.specs.declared.query.Query.{Query}
use Rattle.rt_text.specs.declared.query.Query.TheVariants.{CostCount, CostFind, Count, Find, Levels}
use Rattle.rt_text.specs.declared.query.QueryFault.{QueryFault}
use Rattle.rt_text.specs.declared.query.QueryFault.TheVariants as fault

-- what was read, and the words that are left after it
abbrev pub Taken : Type 0 → Type 0
Taken X = X × List (List ℕ)

-- what is read is seen as another thing
abbrev pub taken_as : {X Y : Type 0} → (X → Y) → Result (Taken X) QueryFault → Result (Taken Y) QueryFault
taken_as make taken = map_value (λ found. (make found.0, found.1)) taken

-- the next word, which has to be there, as `read` reads it
abbrev pub word_as : {X : Type 0} → (read : List ℕ → Result X QueryFault) → List (List ℕ) → Result (Taken X) QueryFault
word_as read [] = Err fault.MissingWord
word_as read (word ∷ more) = map_value (λ found. (found, more)) (read word)

-- the next word is `key`
abbrev pub is_next : (key : List ℕ) → List (List ℕ) → Bool
is_next key [] = false
is_next key (word ∷ more) = bytes_eq word key

-- ---- numbers, each a word

-- a number of a range; one out of it is reported as `outside`
abbrev pub number : (outside : QueryFault) → (low high : ℤ) → List ℕ → Result ℤ QueryFault
number outside low high word = map_fault (fault_as fault.NotNumber outside) (number_in low high word)

-- a number from 0 to `high`
abbrev pub natural : (high : ℕ) → List ℕ → Result ℕ QueryFault
natural high word = map_value unsigned_abs (number fault.OutOfRange (pos 0) (pos high) word)

-- a coordinate, of 32 bits
abbrev pub coordinate : List ℕ → Result ℤ QueryFault
coordinate = number fault.OutOfRange least_coordinate greatest_coordinate

-- a number of vertices
abbrev pub vertex_count : List ℕ → Result ℕ QueryFault
vertex_count word = map_value unsigned_abs (number fault.VertexCount (pos 3) (pos 16) word)

-- ---- regions

-- X Y
abbrev pub point : List (List ℕ) → Result (Taken Point) QueryFault
point words = do
  x ← word_as coordinate words
  y ← word_as coordinate x.1
  Ok (record { x = x.0; y = y.0 }, y.1)

-- X1 X2 Y1 Y2, each minimum at most its maximum
abbrev pub sides : List (List ℕ) → Result (Taken Rect) QueryFault
sides words = do
  min_x ← word_as coordinate words
  max_x ← word_as coordinate min_x.1
  min_y ← word_as coordinate max_x.1
  max_y ← word_as coordinate min_y.1
  if int_lt max_x.0 min_x.0 || int_lt max_y.0 min_y.0 then Err fault.MinAboveMax
      else Ok (rect_of min_x.0 max_x.0 min_y.0 max_y.0, max_y.1)

-- X Y R, a radius of 32 bits
abbrev pub circle : List (List ℕ) → Result (Taken Disc) QueryFault
circle words = do
  centre ← point words
  radius ← word_as (natural (2 ^ 32 - 1)) centre.1
  Ok (record { centre = centre.0; radius = radius.0 }, radius.1)

-- X1 Y1 .. XN YN: `count` points
abbrev pub points : (count : ℕ) → List (List ℕ) → Result (Taken (List Point)) QueryFault
points zero words = Ok ([], words)
points (suc n) words = do
  first ← point words
  others ← points n first.1
  Ok (first.0 ∷ others.0, others.1)

-- the fault of a list of vertices that gives no polygon
abbrev pub polygon_fault : PolygonFault → QueryFault
polygon_fault shape.Count = fault.VertexCount
polygon_fault shape.NotConvex = fault.NotConvex

-- N X1 Y1 .. XN YN
abbrev pub polygon : List (List ℕ) → Result (Taken (List Point)) QueryFault
polygon words = do
  count ← word_as vertex_count words
  vertices ← points count.0 count.1
  found ← map_fault polygon_fault (polygon_of vertices.0)
  Ok (found, vertices.1)

-- a region by its name: `all`, `window`, `inside`, `covers`, `circle` or `polygon`
abbrev pub region : List (List ℕ) → Result (Taken Region) QueryFault
region [] = Err fault.MissingWord
region (name ∷ more) =
    if bytes_eq name (codes "all") then Ok (All (record {}), more)
    else if bytes_eq name (codes "window") then taken_as (λ box. Window (record { 0 = box })) (sides more)
    else if bytes_eq name (codes "inside") then taken_as (λ box. Inside (record { 0 = box })) (sides more)
    else if bytes_eq name (codes "covers") then taken_as (λ box. Covers (record { 0 = box })) (sides more)
    else if bytes_eq name (codes "circle") then taken_as Circle (circle more)
    else if bytes_eq name (codes "polygon") then taken_as Polygon (polygon more)
    else Err fault.UnknownRegion

-- ---- layers

-- the layers so far, and those of the parts, each a number from 0 to 63, judged from left to right
abbrev pub layers_from : (so_far : Layers) → (parts : List (List ℕ)) → Result Layers QueryFault
layers_from so_far [] = Ok so_far
layers_from so_far (part ∷ more) = do
  layer ← natural most_layer part
  layers_from (union so_far (only layer)) more

-- the layers of a LIST, whose parts are separated by commas, each of them byte 44
abbrev pub layers_of : List ℕ → Result Layers QueryFault
layers_of list = layers_from no_layers (slice_split (λ c. c == 44) list)

-- `on LIST`, if it is next; otherwise all layers
abbrev pub on_list : List (List ℕ) → Result (Taken Layers) QueryFault
on_list words = if is_next (codes "on") words then word_as layers_of (drop 1 words) else Ok (all_layers, words)

-- ---- orders and limits

-- the order where none is given: a circle's boxes nearest to its centre first, those of every other region by id
abbrev pub usual_order : Region → Order
usual_order (Circle disc) = near disc.centre
usual_order other = by_id

-- `near X Y` or `smallest`, if one is next
abbrev pub order : Region → List (List ℕ) → Result (Taken Order) QueryFault
order found words =
    if is_next (codes "near") words then taken_as near (point (drop 1 words))
    else if is_next (codes "smallest") words then Ok (Smallest (record {}), drop 1 words)
    else Ok (usual_order found, words)

-- `first K`, if it is next; K has 64 bits
abbrev pub limit : List (List ℕ) → Result (Taken (Option ℕ)) QueryFault
limit words =
    if is_next (codes "first") words then taken_as Some (word_as (natural (2 ^ 64 - 1)) (drop 1 words)) else Ok (None, words)

-- ---- queries

-- no word is left
abbrev pub finished : List (List ℕ) → Result (Unit {0}) QueryFault
finished [] = Ok (record {})
finished (word ∷ more) = Err fault.StrayWord

-- the words after `find`: a region, its layers, an order, a limit
abbrev pub find : List (List ℕ) → Result Query QueryFault
find words = do
  found ← region words
  on ← on_list found.1
  ordered ← order found.0 on.1
  limited ← limit ordered.1
  end ← finished limited.1
  Ok (Find found.0 ordered.0 limited.0 on.0)

-- the words after `nearest`: K X Y, K of 64 bits, which is `find all near X Y first K`
abbrev pub nearest : List (List ℕ) → Result Query QueryFault
nearest words = do
  limited ← word_as (natural (2 ^ 64 - 1)) words
  centre ← point limited.1
  end ← finished centre.1
  Ok (Find (All (record {})) (near centre.0) (Some limited.0) all_layers)

-- the words after `count`: a region, its layers
abbrev pub count : List (List ℕ) → Result Query QueryFault
count words = do
  found ← region words
  on ← on_list found.1
  end ← finished on.1
  Ok (Count found.0 on.0)

-- a query for boxes, by its first word
abbrev pub box_query : List (List ℕ) → Result Query QueryFault
box_query [] = Err fault.MissingWord
box_query (verb ∷ more) =
    if bytes_eq verb (codes "find") then find more
    else if bytes_eq verb (codes "nearest") then nearest more
    else if bytes_eq verb (codes "count") then count more
    else Err fault.UnknownVerb

-- the query for the cost of a query for boxes
abbrev pub cost_of : Query → Query
cost_of (Find region order limit layers) = CostFind region order limit layers
cost_of (Count region layers) = CostCount region layers
cost_of other = other

-- a query by its first word; `cost` is followed by a query for boxes, whose cost is requested and whose faults stay
abbrev pub query : (verb : List ℕ) → (more : List (List ℕ)) → Result Query QueryFault
query verb more =
    if bytes_eq verb (codes "levels") then map_value (λ end. Levels) (finished more)
    else if bytes_eq verb (codes "cost") then map_value cost_of (box_query more)
    else box_query (verb ∷ more)

-- ---- lines

-- a query, or its first fault
abbrev pub parsed_of : Result Query QueryFault → Parsed
parsed_of (Ok query) = parsed.Query query
parsed_of (Err cause) = parsed.Fault cause

-- what the words of a line ask: nothing where there are none or the first begins with `#`
abbrev pub parsed_words : List (List ℕ) → Parsed
parsed_words [] = parsed.Skip
parsed_words (verb ∷ more) = if starts_with nat_eq verb (codes "#") then parsed.Skip else parsed_of (query verb more)

-- what a line of any length asks; one carriage return at its end is dropped
abbrev pub query_of : List ℕ → Parsed
query_of line = parsed_words (words (strip_carriage_return line))

-- a parser's result, and the words that it left, as a definition wants them
abbrev pub Takes : {X : Type 0} → Result (Taken X) QueryFault → Result X QueryFault → List (List ℕ) → Type 0
Takes want (Ok x) left = want ≡ Ok (x, left)
Takes want (Err cause) left = want ≡ Err cause

-- the same of a parser that writes the query that it has read; at a fault what it wrote is left open
abbrev pub Reads : Result Query QueryFault → Result (Unit {0}) QueryFault → Parsed → Type 0
Reads want (Ok done) (parsed.Query query) = want ≡ Ok query
Reads want (Ok done) other = ⊥
Reads want (Err cause) found = want ≡ Err cause
