pub mod OpenLaws
pub mod PlaceLaws
