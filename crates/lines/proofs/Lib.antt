pub mod PlaceLaws
pub mod CountLaws
pub mod LinesLaws
pub mod SpanLaws
