-- What follows from the definitions, proved: nothing here has to be believed. It stands in specs/, as
-- implementations cite it.
pub mod Boxes
pub mod Distances
pub mod Guided
pub mod HalfPlanes
pub mod Laws
pub mod Layers
pub mod Nearest
pub mod OnLayers
pub mod Orders
pub mod Polygons
pub mod Products
pub mod Regions
pub mod Shapes
pub mod Unscored
