pub mod Among
pub mod Zero
