pub mod Answers
pub mod Tests
pub mod InOrder
pub mod InOrderLaws
pub mod Results
