pub mod ToldLaws
pub mod PutEach
pub mod WriteLaws
pub mod ReadLaws
pub mod TripLaws
pub mod Trips
