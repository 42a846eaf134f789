pub mod Job
pub mod JobRule
pub mod JobRuleLaws
pub mod LimitLaws
pub mod Outline
pub mod OutlineLaws
pub mod Polygon
pub mod PolygonLaws
