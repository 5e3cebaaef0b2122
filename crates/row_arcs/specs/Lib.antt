pub mod OpenArcs
