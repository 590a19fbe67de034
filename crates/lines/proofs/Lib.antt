pub mod GoingLaws
pub mod PrintLaws
pub mod StreamLaws
pub mod TurnLaws
