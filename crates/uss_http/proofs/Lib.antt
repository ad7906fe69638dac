pub mod HeadSteps
pub mod PieceSteps
pub mod ReadSteps
pub mod SendSteps
