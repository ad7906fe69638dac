pub mod Room
pub mod HeadSteps
pub mod ResponseSteps
pub mod PromptSteps
